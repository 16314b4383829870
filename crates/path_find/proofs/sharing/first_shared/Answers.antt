use Rattle.std.proofs.Common.{◌≡◌, inl, inr, Contains, subst, arith}
use Rattle.std.proofs.lemmas.Bool.{OnFalse_at, cases_lt}
use Rattle.path_find.specs.Meeting.{IsShared}
use Rattle.path_find.proofs.sharing.first_shared.Goals as goal

pub loop-row-preserved : goal.loop-row-preserved
loop-row-preserved c = λ row le lt. elim (cases_lt row c.loop-row.row) [
  | inl less ↦ c.loop-row.invariant row le less
  | inr ge ↦
      let here : c.loop-row.row ≡ row = omega arith in
      let none = OnFalse_at c.if-has_found.false c.has_found.ensures.no in
      let mine : ¬ IsShared c.args.tree.now c.args.other.now c.loop-row.row = subst (λ n. ¬ Contains c.args.other.now.nodes n) c.node.ensures none in
      subst (λ r. ¬ IsShared c.args.tree.now c.args.other.now r) here mine
]

pub returns-clause-none : goal.returns-clause-none
returns-clause-none c = λ row le lt.
    let test = c.loop-row-test.false in
    let len = c.len-row-end.ensures.is in
    c.loop-row.invariant row le (omega (arith, lt, test, len))
