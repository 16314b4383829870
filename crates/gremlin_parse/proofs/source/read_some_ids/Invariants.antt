use Rattle.std.proofs.Common.{length}
use Rattle.gremlin_parse.proofs.QueryReads.{IdsSoFar}
use Rattle.gremlin_parse.proofs.source.read_some_ids.Given as goal

abbrev pub invariant-loop-more : goal.invariant-loop-more
invariant-loop-more l = IdsSoFar l.fn.bytes l.more l.ids.items l.rest

abbrev pub decreases-loop-more : goal.decreases-loop-more
decreases-loop-more l = length l.rest
