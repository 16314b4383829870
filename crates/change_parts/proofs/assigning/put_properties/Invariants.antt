use Rattle.change_parts.proofs.PairsPut.{IsPutting}
use Rattle.change_parts.proofs.assigning.put_properties.Given as goal

abbrev pub invariant-loop-assignment : goal.invariant-loop-assignment
invariant-loop-assignment g l =
    IsPutting g.S.Reads.tells (g.S.Reads.onward l.fn.space l.space) (g.S.Reads.state l.fn.space) (g.S.Reads.state l.space) (g.S.Reads.faults l.fn.space)
    (g.S.Reads.faults l.space) l.owner l.pairs l.assigned l.assignment-index
