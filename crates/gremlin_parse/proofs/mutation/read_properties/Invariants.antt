use Rattle.std.proofs.Common.{length}
use Rattle.gremlin_parse.proofs.MutationReads.{PropertiesSoFar}
use Rattle.gremlin_parse.proofs.mutation.read_properties.Given as goal

abbrev pub invariant-loop-rest : goal.invariant-loop-rest
invariant-loop-rest l = PropertiesSoFar l.fn.before l.fn.first.items l.fn.bytes l.pairs.items l.count l.rest

abbrev pub decreases-loop-rest : goal.decreases-loop-rest
decreases-loop-rest l = length l.rest
