use Rattle.graph_ops.proofs.Meeting.{AreDistinct}
use Rattle.graph_ops.proofs.distinct.distinct_elements.Given as goal

abbrev pub invariant-loop-item : goal.invariant-loop-item
invariant-loop-item l = AreDistinct l.nodes.keys l.edges.keys l.distinct.items l.items l.item-index
