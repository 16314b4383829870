use Rattle.std.proofs.Common.{◌≤◌, ◌+◌, length}
use Rattle.gremlin_parse.proofs.Texts.{TextSoFar}
use Rattle.gremlin_parse.proofs.text.read_quoted.Given as goal

abbrev pub invariant-loop-after : goal.invariant-loop-after
invariant-loop-after l = record {
  so_far : TextSoFar l.quote l.bytes l.rest l.len;
  within : l.len + length l.rest ≤ length l.bytes;
}

abbrev pub decreases-loop-after : goal.decreases-loop-after
decreases-loop-after l = length l.rest
