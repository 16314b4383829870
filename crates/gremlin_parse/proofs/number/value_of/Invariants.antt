use Rattle.std.proofs.Common.{◌≡◌, ◌≤◌, drop}
use Rattle.gremlin_parse.specs.Numbers.{value_after}
use Rattle.gremlin_parse.proofs.number.value_of.Given as goal

abbrev pub invariant-loop-byte : goal.invariant-loop-byte
invariant-loop-byte l = record {
  same : value_after l.value (drop l.byte-index l.digits) ≡ value_after 0 l.digits;
  within : l.value ≤ l.most;
}
