use Rattle.std.proofs.Common.{◌≡◌, arith}
use Rattle.std.proofs.lemmas.Bool.Decides.{nat_tests}
use Rattle.recovery.proofs.StoreForms.{IsUnmade-of, at_start-unmade, blank-unmade}
use Rattle.recovery.proofs.finding.is_unmade.Goals as goal

pub returns-then-logged-eq0 : goal.returns-then-logged-eq0
returns-then-logged-eq0 c content has = (
  λ blank. IsUnmade-of content c.args.logged.now has c.if-logged-eq0.true (c.is_blank.ensures.0 blank),
  λ unmade. c.is_blank.ensures.1 (blank-unmade content c.args.logged.now has unmade),
)

pub returns-else-logged-eq0 : goal.returns-else-logged-eq0
returns-else-logged-eq0 c content has = (
  λ at_start. let e : c.args.logged.now.tail ≡ 0 = grind (arith, nat_tests) in absurd (c.if-logged-eq0.false e),
  λ unmade. absurd (c.if-logged-eq0.false (at_start-unmade content c.args.logged.now has unmade)),
)
