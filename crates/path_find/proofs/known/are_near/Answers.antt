use Rattle.std.proofs.Common.{◌≡◌, get_or, subst, arith, inl, inr}
use Rattle.std.proofs.lemmas.Bool.{cases_lt}
use Rattle.std.proofs.lemmas.List.Elements.{Contains-get_or, at_from_Contains}
use Rattle.plain_graph.specs.Levels.{HasLevelUpTo}
use Rattle.path_find.proofs.KnownLevels.{one_level}
use Rattle.path_find.proofs.known.are_near.Goals as goal

pub loop-end-preserved : goal.loop-end-preserved
loop-end-preserved c = λ k lt. elim (cases_lt k c.loop-end.end-index) [
  | inl less ↦ c.loop-end.invariant k less
  | inr ge ↦
      let here : c.loop-end.end-index ≡ k = omega arith in
      let near = c.if-level-most.false in
      subst (λ i. HasLevelUpTo c.args.levels.now (get_or c.args.ends.now i 0) c.args.most) here (c.in-Some.level, c.in-Some.ensures.some, omega (arith, near))
]

pub returns-then-level-most-clause-no : goal.returns-then-level-most-clause-no
returns-then-level-most-clause-no c = λ all.
    let other = all (get_or c.args.ends.now c.loop-end.end-index 0) (Contains-get_or c.args.ends.now c.loop-end.end-index 0 c.loop-end-test.true) in
    let same = one_level c.args.levels.now c.requires.distinct (get_or c.args.ends.now c.loop-end.end-index 0) c.in-Some.level other.0 c.in-Some.ensures.some
    other.1 in
    let near = other.2 in
    let far = c.if-level-most.true in
    absurd (omega (arith, same, near, far))

pub returns-in-None-clause-no : goal.returns-in-None-clause-no
returns-in-None-clause-no c = λ all.
    let other = all (get_or c.args.ends.now c.loop-end.end-index 0) (Contains-get_or c.args.ends.now c.loop-end.end-index 0 c.loop-end-test.true) in
    c.in-None.ensures.none (other.0, other.1)

pub returns-clause-yes : goal.returns-clause-yes
returns-clause-yes c = λ end has.
    let at = at_from_Contains c.args.ends.now end has in
    let test = c.loop-end-test.false in
    let low = at.1 in
    subst (λ n. HasLevelUpTo c.args.levels.now n c.args.most) (at.2 0) (c.loop-end.invariant at.0 (omega (arith, test, low)))
