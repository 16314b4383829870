-- What reads leave of a space.
use Rattle.std.specs.Prelude.{Result, Ok, Err, IfOk}
use Rattle.std.proofs.Common.{◌≡◌, ℕ, zero, suc, ◌+◌, ◌≤◌, ap, ◌∙◌, refl, sym, subst, arith}
use Rattle.rec_bytes.specs.Space.{SameButReads, State, after_get, after_gets}
use Rattle.rec_bytes.proofs.Spaces.{records-after_gets, after_gets-zero}
use Rattle.prop_store.specs.Reading.{ReadsAtMost}

after_gets-sum : (n m : ℕ) (s : State) → after_gets n (after_gets m s) ≡ after_gets (n + m) s
unfolding after_gets
after_gets-sum zero m s = let e : m ≡ 0 + m = omega arith in ap (λ k. after_gets k s) e
after_gets-sum (suc n) m s = let e : suc (n + m) ≡ suc n + m = omega arith in ap after_get (after_gets-sum n m s) ∙ ap (λ k. after_gets k s) e

same-after_gets : (n : ℕ) (s : State) → SameButReads s (after_gets n s)
unfolding after_gets
same-after_gets zero s = refl
same-after_gets (suc n) s = ap after_get (same-after_gets n s)

pub reads_none : (n : ℕ) (s : State) → ReadsAtMost n s s
reads_none n s = record { count = 0; within = omega arith; is = sym (after_gets-zero s) }

pub reads_one : (n : ℕ) (s t : State) → 1 ≤ n → t ≡ after_get s → ReadsAtMost n s t
unfolding after_gets
reads_one n s t some e = record { count = 1; within = some; is = e }

pub reads_then : (n m k : ℕ) (a b c : State) → n + m ≤ k → ReadsAtMost n a b → ReadsAtMost m b c → ReadsAtMost k a c
reads_then n m k a b c le h g = record {
  count = g.count + h.count;
  within = let x = h.within in let y = g.within in omega arith;
  is = g.is ∙ ap (after_gets g.count) h.is ∙ after_gets-sum g.count h.count a;
}

pub reads_more : (n m : ℕ) (a b : State) → n ≤ m → ReadsAtMost n a b → ReadsAtMost m a b
reads_more n m a b le h = record { count = h.count; within = let x = h.within in omega arith; is = h.is }

-- after one read more
pub reads_after : (n m : ℕ) (a b c : State) → 1 + n ≤ m → b ≡ after_get a → ReadsAtMost n b c → ReadsAtMost m a c
reads_after n m a b c le one more = reads_then 1 n m a b c le (reads_one 1 a b (omega arith) one) more

pub costs_after : {T E : Type 0} (n m : T → ℕ) (a b c : State) (r : Result T E) → ((x : T) → 1 + n x ≤ m x) → b ≡ after_get a
    → IfOk r (λ x. ReadsAtMost (n x) b c) → IfOk r (λ x. ReadsAtMost (m x) a c)
costs_after n m a b c (Ok x) le one more = reads_after (n x) (m x) a b c (le x) one more
costs_after n m a b c (Err e) le one more = tt

-- ---- what stays

pub same_then : (a b c : State) → SameButReads a b → SameButReads b c → SameButReads a c
same_then a b c h k = k ∙ ap (λ (z : State). record z { reads = c.reads }) h

pub reads_same : (n : ℕ) (a b : State) → ReadsAtMost n a b → SameButReads a b
reads_same n a b h = subst (SameButReads a) (sym h.is) (same-after_gets h.count a)

pub reads_records : (n : ℕ) (a b : State) → ReadsAtMost n a b → b.records ≡ a.records
reads_records n a b h = ap (λ (s : State). s.records) h.is ∙ records-after_gets h.count a
