use Rattle.record_lists.proofs.DistinctLaws.{Rises}
use Rattle.record_lists.proofs.distinct.are_distinct.Given as goal

abbrev pub invariant-loop-i : goal.invariant-loop-i
invariant-loop-i l = Rises l.numbers l.i
