use Rattle.std.proofs.Common.{ap, sym, subst, ◌∙◌, take, Vec, ℕ}
use Rattle.std.specs.declared.alloc.Global.{Global}
use Rattle.std.proofs.lemmas.List.{take-map}
use Rattle.name_store.specs.Names.{AreHeldNames, HeldNames, name_bytes}
use Rattle.name_store.proofs.KeptNames.{AreHeldNames-take}
use Rattle.name_store.proofs.names.Names.cut.Goals as goal

pub returns : goal.returns
returns c =
    let names = c.self.inside.texts.keys in
    ap name_bytes c.truncate.ensures.keys ∙ sym (take-map (λ (x : Vec ℕ Global). x.items) c.args.to names)
    ∙ ap (λ (held : HeldNames). take c.args.to held.names) c.self.view_is

pub invariant_of-self : goal.invariant_of-self
invariant_of-self c = subst AreHeldNames (sym (rw (← c.self.view_is) at (returns c)))
    (AreHeldNames-take c.args.to (name_bytes c.self.inside.texts.keys) c.self.invariant)
