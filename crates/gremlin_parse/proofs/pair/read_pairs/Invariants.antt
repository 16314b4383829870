use Rattle.std.proofs.Common.{length}
use Rattle.gremlin_parse.proofs.Pairs.{PairsSoFar}
use Rattle.gremlin_parse.proofs.pair.read_pairs.Given as goal

abbrev pub invariant-loop-rest : goal.invariant-loop-rest
invariant-loop-rest l = PairsSoFar l.bytes l.pairs.items l.rest

abbrev pub decreases-loop-rest : goal.decreases-loop-rest
decreases-loop-rest l = length l.rest
