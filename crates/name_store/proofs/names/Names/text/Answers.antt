use Rattle.std.proofs.Common.{◌≡◌, ap, ◌∙◌, sym, Some, Vec, ℕ, slice_get}
use Rattle.std.specs.Option.{option_map}
use Rattle.std.specs.declared.alloc.Global.{Global}
use Rattle.std.proofs.lemmas.Option.{slice_get-map}
use Rattle.name_store.specs.Names.{name_bytes}
use Rattle.name_store.proofs.KeptNames.{short_at}
use Rattle.name_store.proofs.names.Names.text.Goals as goal

pub returns-clause-short : goal.returns-clause-short
returns-clause-short c =
    let names = c.self.inside.texts.keys in
    let text : slice_get (name_bytes names) c.args.id ≡ Some c.deref.result.now
    = slice_get-map (λ (x : Vec ℕ Global). x.items) names c.args.id ∙ ap (option_map (λ (x : Vec ℕ Global). x.items)) (sym c.in-Some.ensures.key)
    ∙ ap Some (sym c.deref.ensures.value) in
    short_at (name_bytes names) c.args.id c.deref.result.now c.self.invariant text
