-- Reads of a node and then of others.
use Rattle.std.proofs.Common.{◌≡◌, ◌+◌, ℕ, zero, suc, Bool, true, false, ◌&&◌, cond, nat_lt, refl, sym, ap, ◌∙◌, subst, arith}
use Rattle.rec_bytes.specs.Space.{State, after_get, after_gets}
use Rattle.rec_bytes.proofs.Spaces.{after_gets-zero, after_gets_more}
use Rattle.node_store.specs.Loading.{after_load, node_mark, node_room}
use Rattle.rel_store.specs.Loading.{rel_mark}
use Rattle.chain_edit.specs.Walking.{ReadsAtMost}
use Rattle.chain_edit.proofs.Walks.{mark_then}
use Rattle.group_store.proofs.GroupWalks.{gets_add}

-- more reads
after_gets-after_get : (n : ℕ) (s : State) → after_gets n (after_get s) ≡ after_gets (n + 1) s
after_gets-after_get zero s = after_gets-zero (after_get s) ∙ ap after_get (sym (after_gets-zero s)) ∙ sym (after_gets_more 0 (0 + 1) s refl)
after_gets-after_get (suc n) s = after_gets_more n (suc n) (after_get s) (omega arith) ∙ ap after_get (after_gets-after_get n s)
    ∙ sym (after_gets_more (n + 1) (suc n + 1) s (omega arith))

-- a load reads at most once
pub load_reads : (s mid : State) (id most : ℕ) → mid ≡ after_load s id → ReadsAtMost (most + 1) s mid
load_reads s mid id most = by (nat_lt id (node_mark s) && nat_lt id (node_room s))
  where
    by : (there : Bool) → mid ≡ cond there (after_get s) s → ReadsAtMost (most + 1) s mid
    by true is = record { count = 1; within = omega arith; is = is ∙ ap after_get (sym (after_gets-zero s)) ∙ sym (after_gets_more 0 1 s refl) }
    by false is = record { count = 0; within = omega arith; is = is ∙ sym (after_gets-zero s) }

-- and what comes after it reads so many more
pub reads_then : (s mid new : State) (id most : ℕ) → mid ≡ after_load s id → ReadsAtMost most mid new → ReadsAtMost (most + 1) s new
reads_then s mid new id most loaded more = by (nat_lt id (node_mark s) && nat_lt id (node_room s)) loaded
  where
    by : (there : Bool) → mid ≡ cond there (after_get s) s → ReadsAtMost (most + 1) s new
    by true is = record {
      count = more.count + 1;
      within = let le = more.within in omega arith;
      is = more.is ∙ ap (after_gets more.count) is
          ∙ after_gets-after_get more.count s;
    }
    by false is = record { count = more.count; within = let le = more.within in omega arith; is = more.is ∙ ap (after_gets more.count) is }

-- a load changes no record
pub records-after_load : (s : State) (id : ℕ) → (after_load s id).records ≡ s.records
records-after_load s id = by (nat_lt id (node_mark s) && nat_lt id (node_room s))
  where
    by : (there : Bool) → (cond there (after_get s) s).records ≡ s.records
    by true = refl
    by false = refl

-- nor the shape
pub shape-after_load : (s : State) (id : ℕ) → (after_load s id).shape ≡ s.shape
shape-after_load s id = by (nat_lt id (node_mark s) && nat_lt id (node_room s))
  where
    by : (there : Bool) → (cond there (after_get s) s).shape ≡ s.shape
    by true = refl
    by false = refl

-- so many reads, and then so many more
pub reads_both : (s mid new : State) (first then : ℕ) → ReadsAtMost first s mid → ReadsAtMost then mid new → ReadsAtMost (first + then) s new
reads_both s mid new first then before more = record {
  count = more.count + before.count;
  within = let few = before.within in let le = more.within in omega arith;
  is = more.is ∙ ap (after_gets more.count) before.is ∙ gets_add more.count before.count s;
}

-- and so are they of as many and more
pub reads_wider : {k : ℕ} {s t : State} (more : ℕ) → ReadsAtMost k s t → ReadsAtMost (k + more) s t
reads_wider more r = record { count = r.count; within = let le = r.within in omega arith; is = r.is }

-- those of groups, and then as many as relationships were given out
pub reads_marks : (s mid new : State) (most : ℕ) → ReadsAtMost most s mid → ReadsAtMost (rel_mark mid) mid new → ReadsAtMost (most + rel_mark s) s new
reads_marks s mid new most before more = reads_both s mid new most (rel_mark s) before
    (subst (λ mark. ReadsAtMost mark mid new) (mark_then s mid before.count before.is) more)
