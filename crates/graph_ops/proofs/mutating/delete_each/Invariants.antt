use Rattle.std.proofs.Common.{take}
use Rattle.graph_ops.specs.Mutating.{any_replies}
use Rattle.plain_graph.specs.Mutations.{deletions}
use Rattle.graph_ops.proofs.Parts.{IsMaking}
use Rattle.graph_ops.proofs.mutating.delete_each.Given as goal

abbrev pub invariant-loop-target : goal.invariant-loop-target
invariant-loop-target g l =
    IsMaking g.S.Reads.tells (g.S.Reads.onward l.fn.space l.space) (deletions (take l.target-index l.targets)) any_replies l.weight
    (g.S.Reads.state l.fn.space) (g.S.Reads.state l.space) l.names.names l.names.names (g.S.Reads.faults l.fn.space) (g.S.Reads.faults l.space)
