use Rattle.name_store.proofs.HeldTexts.{absent-insert_key}
use Rattle.name_store.proofs.KeptNames.{AreHeldNames-insert_key}
use Rattle.name_store.proofs.names.Names.push_reserved.Goals as goal

pub invariant_of-self : goal.invariant_of-self
invariant_of-self c =
    let few = rw (← c.self.view_is) at c.requires.few in
    rw c.in-Ok.ensures.keys (AreHeldNames-insert_key c.self.inside.texts.keys c.args.name c.self.invariant c.requires.short few)

pub returns : goal.returns
returns c =
    let new = rw (← c.self.view_is) at c.requires.new in
    rw (← c.self.view_is, c.in-Ok.ensures.keys) (absent-insert_key c.self.inside.texts.keys c.args.name new)
