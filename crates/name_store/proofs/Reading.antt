-- What several calls that read a space leave of it.
use Rattle.std.proofs.Common.{◌≡◌, ℕ, ◌+◌, ◌<◌, ◌≤◌, Bool, true, false, nat_lt, if◌then◌else◌, List, length, Option}
use Rattle.std.proofs.Common.{None, Some, is_some, true≢false, refl, sym, ap, ◌∙◌, arith}
use Rattle.std.proofs.lemmas.Bool.Decides.{nat_tests}
use Rattle.rec_bytes.specs.Space.{State, after_get, after_gets}
use Rattle.rec_bytes.proofs.Spaces.{after_gets-zero, after_gets_more, records-after_gets}
use Rattle.name_store.specs.Again.{after_compare}
use Rattle.name_store.specs.Loading.{ReadsAtMost}

-- no read
pub reads_none : (most : ℕ) (old new : State) → new ≡ old → ReadsAtMost most old new
reads_none most old new e = record { count = 0; within = omega arith; is = e ∙ sym (after_gets-zero old) }

-- one more read
pub reads_next : (most n : ℕ) (old mid new : State) → n < most → mid ≡ after_gets n old → new ≡ after_get mid → ReadsAtMost most old new
reads_next most n old mid new lt first next = record {
  count = n + 1;
  within = omega arith;
  is = next ∙ ap after_get first ∙ sym (after_gets_more n (n + 1)
      old refl);
}

-- one more comparison
pub reads_compared : (names : List (List ℕ)) (n : ℕ) (old mid new : State) → n ≤ length names → mid ≡ after_gets n old → new ≡ after_compare mid names n
    → ReadsAtMost (length names) old new
reads_compared names n old mid new le first next = by (nat_lt n (length names)) refl
  where
    by : (b : Bool) → nat_lt n (length names) ≡ b → ReadsAtMost (length names) old new
    by true e = reads_next (length names) n old mid new (grind (arith, nat_tests)) first (next ∙ ap (λ b. if b then after_get mid else mid) e)
    by false e = record { count = n; within = le; is = next ∙ ap (λ b. if b then after_get mid else mid) e ∙ first }

pub none_from : {X : Type 0} (o : Option X) (b : Bool) → b ≡ is_some o → b ≡ false → o ≡ None
none_from None b is lacks = refl
none_from (Some x) b is lacks = absurd cc

pub some_from : {X : Type 0} (o : Option X) (b : Bool) → b ≡ is_some o → b ≡ true → o ≡ None → ⊥
some_from o b is has none = true≢false (sym has ∙ is ∙ ap is_some none)

-- reads change no record
pub records_there : (n : ℕ) (old mid : State) → mid ≡ after_gets n old → mid.records ≡ old.records
records_there n old mid e = ap (λ (s : State). s.records) e ∙ records-after_gets n old

-- the state after one more read
pub state_next : (n m : ℕ) (old mid new : State) → mid ≡ after_gets n old → new ≡ after_get mid → m ≡ n + 1 → new ≡ after_gets m old
state_next n m old mid new first next more = next ∙ ap after_get first ∙ sym (after_gets_more n m old more)

-- a comparison with a name that is kept is a read
pub after_compare-kept : (mid : State) (names : List (List ℕ)) (id : ℕ) (new : State) → id < length names → new ≡ after_compare mid names id
    → new ≡ after_get mid
after_compare-kept mid names id new lt is = let here : nat_lt id (length names) ≡ true = grind (arith, nat_tests) in is
    ∙ ap (λ b. if b then after_get mid else mid) here
