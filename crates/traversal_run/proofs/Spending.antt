-- What was read, and what may still be read after it.
use Rattle.std.specs.Prelude.{Result, Ok, Err}
use Rattle.std.specs.Result.{IsErrAnd}
use Rattle.std.proofs.Common.{◌≡◌, ◌≤◌, ℕ, ◌+◌, suc, zero, sym, subst, arith}
use Rattle.prop_store.specs.Reading.{ReadsAtMost}
use Rattle.rec_bytes.specs.Space.{State, after_gets}
use Rattle.traversal_run.specs.Owing.{Spends, SpendsIf}

gets_count : (n : ℕ) (s : State) → (after_gets n s).reads ≤ s.reads + n
unfolding after_gets
gets_count zero s = omega arith
gets_count (suc n) s = let before = gets_count n s in omega (arith, before)

pub reads_count : (n : ℕ) (s t : State) → ReadsAtMost n s t → t.reads ≤ s.reads + n
reads_count n s t h =
    let within = h.within in
    let count = subst (λ (u : State). u.reads ≤ s.reads + h.count) (sym h.is) (gets_count h.count s) in
    omega (arith, within, count)

pub spends_on : (a b c : State) (before now after : ℕ) → Spends a b before now → Spends b c now after → Spends a c before after
spends_on a b c before now after first more = omega (arith, first, more)

pub spends_less : (a b : State) (before now : ℕ) → Spends a b before now → Spends a b before 0
spends_less a b before now spends = omega (arith, spends)

-- at an error only what was read counts
pub spends_err : {T E : Type 0} (r : Result T E) (Q : E → Type 0) (old new : State) (before now after : ℕ) → IsErrAnd r Q → Spends old new before now
    → SpendsIf r old new before after
spends_err (Ok value) Q old new before now after is spends = absurd is
spends_err (Err fault) Q old new before now after is spends = spends_less old new before now spends

pub spends_stop : {T E : Type 0} (r : Result T E) (Q : E → Type 0) (old new : State) (before after : ℕ) → IsErrAnd r Q → Spends old new before 0
    → SpendsIf r old new before after
spends_stop r Q old new before after is spends = spends_err r Q old new before 0 after is spends
