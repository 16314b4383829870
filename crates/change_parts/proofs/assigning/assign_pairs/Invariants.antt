use Rattle.change_parts.proofs.Assigned.{IsAssigning}
use Rattle.change_parts.proofs.assigning.assign_pairs.Given as goal

abbrev pub invariant-loop-place : goal.invariant-loop-place
invariant-loop-place g l =
    IsAssigning g.S.Reads.tells (g.S.Reads.onward l.fn.space l.space) (g.S.Reads.state l.fn.space) (g.S.Reads.state l.space) (g.S.Reads.faults l.fn.space)
    (g.S.Reads.faults l.space)
    l.fn.names.names l.names.names l.pairs l.place l.assigned.items
