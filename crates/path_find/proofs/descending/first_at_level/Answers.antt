use Rattle.std.proofs.Common.{◌≡◌, inl, inr, ℕ, slice_index, subst, arith}
use Rattle.std.proofs.lemmas.Bool.{cases_lt}
use Rattle.path_find.specs.Meeting.{IsAtLevel}
use Rattle.path_find.proofs.descending.first_at_level.Goals as goal

pub loop-end-preserved : goal.loop-end-preserved
loop-end-preserved c = λ k lt other. elim (cases_lt k c.loop-end.end-index) [
  | inl less ↦ c.loop-end.invariant k less other
  | inr ge ↦
      let here : c.loop-end.end-index ≡ k = omega arith in
      let none : (row : ℕ) → ¬ IsAtLevel c.args.tree.now c.args.level (slice_index c.args.ends.now c.loop-end.end-index) row =
      rw c.in_default.is at c.row_at_level.ensures.none in
      subst (λ j. ¬ IsAtLevel c.args.tree.now c.args.level (slice_index c.args.ends.now j) other) here (none other)
]

pub returns-in-Some-clause-is : goal.returns-in-Some-clause-is
returns-in-Some-clause-is c = λ some. record {
  place = c.loop-end.end-index;
  short = c.loop-end-test.true;
  is = rw c.in-Some.is at c.row_at_level.ensures.some;
  before = c.loop-end.invariant;
}

pub returns-clause-is : goal.returns-clause-is
returns-clause-is c = λ some.
    let test = c.loop-end-test.false in
    let short = some.short in
    absurd (c.loop-end.invariant some.place (omega (arith, test, short)) some.row some.is)
