use Rattle.name_store.proofs.HeldTexts.{known-insert_key}
use Rattle.name_store.proofs.KeptNames.{AreHeldNames-insert_key}
use Rattle.name_store.proofs.names.Names.push.Goals as goal

pub invariant_of-self-2 : goal.invariant_of-self-2
invariant_of-self-2 c =
    let few = rw (← c.self.view_is) at c.requires.few in
    rw c.in_ok-is_new.ensures.keys (AreHeldNames-insert_key c.self.inside.texts.keys c.args.name c.self.invariant c.requires.short few)

pub returns-clause-known : goal.returns-clause-known
returns-clause-known c = λ is_old.
    let kept = known-insert_key c.self.inside.texts.keys c.args.name c.in_ok-is_new.is_new c.in_ok-is_new.ensures.added is_old in
    rw (← c.self.view_is, c.in_ok-is_new.ensures.keys) kept
