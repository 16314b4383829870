-- Reads of one record, by where it is found.
use Rattle.std.proofs.Common.{◌≡◌, ◌∙◌, ap, sym, refl, subst, Bool, IsTrue, true, false, ◌||◌}
use Rattle.std.proofs.lemmas.Bool.{false≢true, or_left, or_right}
use Rattle.disk_model.specs.declared.disk.Disk.{Ghosts}
use Rattle.rec_bytes.specs.declared.key.Key.{Key}
use Rattle.page_cache.proofs.Keeping.{stay_none}
use Rattle.txn_core.specs.declared.base.Base.{Base}
use Rattle.txn_core.specs.Through.{ReadsThrough}

-- a set has the key
pub told_found : (found rest kept : Bool) → true ≡ found → true ≡ ((found || rest) || kept)
told_found found rest kept is = ap (λ (b : Bool). (b || rest) || kept) is

-- it lacks the key
pub told_beneath : (found rest kept told : Bool) → false ≡ found → told ≡ (rest || kept) → told ≡ ((found || rest) || kept)
told_beneath found rest kept told is same = same ∙ ap (λ (b : Bool). (b || rest) || kept) is

-- a meta record has the key
pub told_meta : (changed meta kept : Bool) → true ≡ meta → true ≡ ((changed || meta) || kept)
told_meta changed meta kept is = sym (or_left (changed || meta) kept (or_right changed meta (sym is)))

-- neither has it
pub neither : (changed meta : Bool) → false ≡ changed → false ≡ meta → false ≡ (changed || meta)
neither changed meta none no_meta = no_meta ∙ ap (λ (b : Bool). b || meta) none

module _ {D : Type 0} {g : Ghosts D} (key : Key) where
  -- the record was in memory
  pub through_none : (in_memory : Bool) (b : Base D g) → IsTrue in_memory → ReadsThrough in_memory key b b true
  through_none in_memory b there = record {
    memory = λ _. (refl, refl);
    hit = λ _. (refl, refl);
    used = λ none _. absurd (false≢true (sym none ∙ there));
    pages = λ none. absurd (false≢true (sym none ∙ there));
    stay = stay_none b.cache;
  }

  -- a set above lacks it
  pub through_beneath : (found in_memory : Bool) (old new : Base D g) (succeeds : Bool) → false ≡ found → ReadsThrough in_memory key old new succeeds
      → ReadsThrough (found || in_memory) key old new succeeds
  through_beneath found in_memory old new succeeds is through = subst (λ (b : Bool). ReadsThrough (b || in_memory) key old new succeeds) is through
