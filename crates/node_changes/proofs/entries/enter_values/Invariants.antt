use Rattle.node_changes.proofs.EntriesMade.{IsEntering}
use Rattle.node_changes.proofs.entries.enter_values.Given as goal

abbrev pub invariant-loop-assignment : goal.invariant-loop-assignment
invariant-loop-assignment g l =
    IsEntering g.S.Reads.tells (g.S.Reads.onward l.fn.space l.space) (g.S.Reads.state l.fn.space) (g.S.Reads.state l.space) (g.S.Reads.faults l.fn.space)
    (g.S.Reads.faults l.space) l.listed l.label l.node l.assigned l.pairs l.assignment-index
