use Rattle.std.proofs.Common.{sym, subst, refl}
use Rattle.gremlin_parse.specs.Symbols.{LeavesPositive}
use Rattle.gremlin_parse.proofs.Integers.{bad_plain}
use Rattle.gremlin_parse.proofs.number.read_positive.Goals as goal

pub returns-in-None-clause-err : goal.returns-in-None-clause-err
returns-in-None-clause-err c =
    subst (LeavesPositive c.args.bytes.now) (sym c.wide_number.ensures)
    (bad_plain _ _ c.args.bytes.now c.in-Some.rest.now c.in-Some.ensures.some c.in-None.ensures.none refl)
