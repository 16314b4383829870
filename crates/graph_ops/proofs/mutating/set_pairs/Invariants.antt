use Rattle.std.proofs.Common.{take}
use Rattle.graph_ops.specs.Mutating.{any_replies}
use Rattle.plain_graph.specs.Mutations.{settings}
use Rattle.graph_ops.proofs.Parts.{IsMaking}
use Rattle.graph_ops.proofs.mutating.set_pairs.Given as goal

abbrev pub invariant-loop-pair : goal.invariant-loop-pair
invariant-loop-pair g l =
    IsMaking g.S.Reads.tells (g.S.Reads.onward l.fn.space l.space) (settings (take l.pair-index l.pairs) l.target) any_replies l.weight
    (g.S.Reads.state l.fn.space) (g.S.Reads.state l.space) l.fn.names.names l.names.names (g.S.Reads.faults l.fn.space) (g.S.Reads.faults l.space)
