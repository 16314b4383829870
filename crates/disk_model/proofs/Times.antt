-- What a crash leaves over several calls, one after the other.
use Rattle.std.proofs.Common.{inl, inr, ⊎_elim, ℕ, arith}
use Rattle.std.proofs.Math.Nat.{le_refl}
use Rattle.disk_model.specs.Contents.{Files}
use Rattle.disk_model.specs.Disk.{Elapses, LeavesOnly}

-- no call
pub leaves_at_once : (now : ℕ) (past : ℕ → Files → Type 0) (P : Files → Type 0) → ((image : Files) → past now image → P image) → LeavesOnly now now past past P
leaves_at_once now past P has = record {
  later = le_refl now;
  each = has;
  nothing_else = λ t image early since. inl since;
  keeps = λ t image early before.
      before;
}

-- one call more
pub leaves_then : (first before now : ℕ) (at_first past since : ℕ → Files → Type 0) (images P : Files → Type 0)
    → LeavesOnly first before at_first past P → Elapses before now past since images → ((image : Files) → images image → P image)
    → LeavesOnly first now at_first since P
leaves_then first before now at_first past since images P leaves elapses has = record {
  later = omega (arith, leaves.later, elapses.later);
  each = λ image s. ⊎_elim (λ p. leaves.each image p) (λ i. has image i) (elapses.nothing_else first image leaves.later s);
  nothing_else = λ t image early s. ⊎_elim (λ p. leaves.nothing_else t image early p) (λ i. inr (has image i))
      (elapses.nothing_else t image (omega (arith, early, leaves.later)) s);
  keeps = λ t image early p. elapses.keeps t image (omega (arith, early, leaves.later)) (leaves.keeps t image early p);
}

-- a function of several calls more
pub leaves_on : (first before now : ℕ) (at_first past since : ℕ → Files → Type 0) (P Q : Files → Type 0)
    → LeavesOnly first before at_first past P → LeavesOnly before now past since Q → ((image : Files) → Q image → P image)
    → LeavesOnly first now at_first since P
leaves_on first before now at_first past since P Q leaves more has = record {
  later = omega (arith, leaves.later, more.later);
  each = λ image s. ⊎_elim (λ p. leaves.each image p) (λ q. has image q) (more.nothing_else first image leaves.later s);
  nothing_else = λ t image early s. ⊎_elim (λ p. leaves.nothing_else t image early p) (λ q. inr (has image q))
      (more.nothing_else t image (omega (arith, early, leaves.later)) s);
  keeps = λ t image early p. more.keeps t image (omega (arith, early, leaves.later)) (leaves.keeps t image early p);
}

-- a weaker fact of each content
pub leaves_weaker : (first now : ℕ) (at_first since : ℕ → Files → Type 0) (P Q : Files → Type 0)
    → LeavesOnly first now at_first since P → ((image : Files) → P image → Q image) → LeavesOnly first now at_first since Q
leaves_weaker first now at_first since P Q leaves has = record {
  later = leaves.later;
  each = λ image s. has image (leaves.each image s);
  nothing_else = λ t image early s. ⊎_elim (λ p. inl p) (λ p. inr (has image p)) (leaves.nothing_else t image early s);
  keeps = leaves.keeps;
}
