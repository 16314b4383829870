use mir.Val.{SFits}
use mir.Syntax.{w64}
use Rattle.std.proofs.Common.{◌≡◌, ap, sym, ◌∙◌, rules}
use Rattle.std.proofs.lemmas.Int.{to_z-of_z}
use Rattle.plain_graph.specs.declared.value.Value.TheVariants as values
use Rattle.store_rules.specs.Hashes.{hash_of}
use Rattle.prop_index.proofs.hashing.hash_of.Goals as goal

pub returns-in-Int : goal.returns-in-Int
returns-in-Int c =
    let fits : SFits w64 c.in-Int.number = search rules in
    let is : c.int_hash.result ≡ hash_of (values.Int c.in-Int.number) = simp to_z-of_z at c.int_hash.ensures in
    is ∙ ap hash_of (sym c.in-Int.is)
