use Rattle.std.proofs.Common.{◌≤◌, length}
use Rattle.gremlin_parse.proofs.QueryReads.{NamesSoFar}
use Rattle.gremlin_parse.proofs.step.read_some_names.Given as goal

abbrev pub invariant-loop-more : goal.invariant-loop-more
invariant-loop-more l = NamesSoFar l.fn.bytes l.more l.names.items l.rest × (length l.rest ≤ length l.fn.bytes)

abbrev pub decreases-loop-more : goal.decreases-loop-more
decreases-loop-more l = length l.rest
