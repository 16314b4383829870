use Rattle.std.proofs.Common.{◌≡◌, get_or, subst, arith, inl, inr}
use Rattle.std.proofs.lemmas.Bool.{cases_lt}
use Rattle.std.proofs.lemmas.List.Elements.{Contains-get_or, at_from_Contains}
use Rattle.plain_graph.specs.Levels.{HasLevel}
use Rattle.path_find.proofs.known.are_known.Goals as goal

pub loop-end-preserved : goal.loop-end-preserved
loop-end-preserved c = λ k lt. elim (cases_lt k c.loop-end.end-index) [
  | inl less ↦ c.loop-end.invariant k less
  | inr ge ↦
      let here : c.loop-end.end-index ≡ k = omega arith in
      subst (λ i. HasLevel c.args.levels.now (get_or c.args.ends.now i 0)) here (c.in-Some.field-0, c.in-Some.ensures.some)
]

pub returns-in-None-clause-no : goal.returns-in-None-clause-no
returns-in-None-clause-no c = λ all. c.in-None.ensures.none (all (get_or c.args.ends.now c.loop-end.end-index 0)
    (Contains-get_or c.args.ends.now c.loop-end.end-index 0 c.loop-end-test.true))

pub returns-clause-yes : goal.returns-clause-yes
returns-clause-yes c = λ end has.
    let at = at_from_Contains c.args.ends.now end has in
    let test = c.loop-end-test.false in
    let low = at.1 in
    subst (HasLevel c.args.levels.now) (at.2 0) (c.loop-end.invariant at.0 (omega (arith, test, low)))
