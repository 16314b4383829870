use Rattle.std.proofs.Common.{inr, sym, subst, refl}
use Rattle.gremlin_parse.specs.Symbols.{AnyTimes, Leaves}
use Rattle.gremlin_parse.proofs.TimesLaws.{bad_times}
use Rattle.gremlin_parse.proofs.number.read_times.Goals as goal

pub returns-in-None-clause-err : goal.returns-in-None-clause-err
returns-in-None-clause-err c =
    subst (Leaves AnyTimes c.args.bytes.now) (sym c.wrong_times-in-None.ensures)
    (bad_times _ _ c.args.bytes.now c.in-Some.rest.now c.in-Some.ensures.some (inr c.in-None.ensures.none) refl)
