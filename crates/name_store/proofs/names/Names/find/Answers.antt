use Rattle.std.proofs.Common.{sym}
use Rattle.name_store.proofs.HeldTexts.{lacks-has_name, position-name_bytes}
use Rattle.name_store.proofs.names.Names.find.Goals as goal

pub returns-in_err-id-clause-none : goal.returns-in_err-id-clause-none
returns-in_err-id-clause-none c = rw (c.from_residual.ensures, ← c.self.view_is)
    (lacks-has_name c.self.inside.texts.keys c.args.text.now (sym c.in_err-id.ensures.found))

pub returns-clause-some : goal.returns-clause-some
returns-clause-some c = rw (← c.self.view_is) (position-name_bytes c.self.inside.texts.keys c.args.text.now c.in_ok-id.id (sym c.in_ok-id.ensures.index)
    c.in_ok-id.ensures.within)
