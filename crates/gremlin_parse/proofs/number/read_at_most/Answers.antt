use Rattle.std.proofs.Common.{sym, subst, refl}
use Rattle.gremlin_parse.specs.Symbols.{AnyNumber, Leaves}
use Rattle.gremlin_parse.proofs.Integers.{bad_number}
use Rattle.gremlin_parse.proofs.number.read_at_most.Goals as goal

pub returns-in-None-clause-err : goal.returns-in-None-clause-err
returns-in-None-clause-err c =
    subst (Leaves (AnyNumber c.args.most) c.args.bytes.now) (sym c.wide_number.ensures)
    (bad_number c.args.most _ _ c.args.bytes.now c.in-Some.rest.now c.in-Some.ensures.some c.in-None.ensures.none refl)
