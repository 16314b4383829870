use Rattle.std.proofs.Common.{◌≤◌, length}
use Rattle.gremlin_parse.proofs.RepeatReads.{BodySoFar}
use Rattle.gremlin_parse.proofs.repeat.read_body.Given as goal

abbrev pub invariant-loop-more : goal.invariant-loop-more
invariant-loop-more l = record {
  so_far : BodySoFar l.fn.before l.fn.bytes l.more l.steps.items l.count l.rest;
  few : l.count ≤ 32;
  within : length l.rest ≤ length l.fn.bytes;
}

abbrev pub decreases-loop-more : goal.decreases-loop-more
decreases-loop-more l = length l.rest
