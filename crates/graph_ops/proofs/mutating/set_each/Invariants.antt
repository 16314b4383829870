use Rattle.std.proofs.Common.{take}
use Rattle.graph_ops.specs.Mutating.{any_replies}
use Rattle.plain_graph.specs.Mutations.{changes_of}
use Rattle.plain_graph.specs.declared.mutation.Mutation.TheVariants as mutations
use Rattle.graph_ops.proofs.Parts.{IsMaking}
use Rattle.graph_ops.proofs.mutating.set_each.Given as goal

abbrev pub invariant-loop-item : goal.invariant-loop-item
invariant-loop-item g l =
    IsMaking g.S.Reads.tells (g.S.Reads.onward l.fn.space l.space) (changes_of (mutations.Property l.pairs) (take l.item-index l.items)) any_replies l.weight
    (g.S.Reads.state l.fn.space) (g.S.Reads.state l.space) l.fn.names.names l.names.names (g.S.Reads.faults l.fn.space)
    (g.S.Reads.faults l.space)
