use Rattle.std.proofs.Common.{[], ◌∷◌, sym, subst}
use Rattle.plain_graph.specs.Mutations.{changes_of}
use Rattle.plain_graph.specs.declared.item.Item.{Item}
use Rattle.plain_graph.specs.declared.mutation.Mutation.TheVariants as mutations
use Rattle.graph_ops.specs.Mutating.{MakesPart, any_replies}
use Rattle.graph_ops.proofs.Parts.{none_part}
use Rattle.graph_ops.proofs.mutating.set_item.Goals as goal

-- a value has no properties
pub returns-in-Value-clause-part : goal.returns-in-Value-clause-part
returns-in-Value-clause-part g c =
    let s = g.S.Reads.state c.args.space.now in
    let names = c.args.names.now.names in
    subst (λ (item : Item). MakesPart g.S.Reads.tells (changes_of (mutations.Property c.args.pairs.now) (item ∷ [])) any_replies 0 s s names names)
    (sym c.in-Value.is) (none_part g.S.Reads.tells any_replies s names tt)
