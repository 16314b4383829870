use Rattle.std.proofs.Common.{◌≡◌, ◌≤◌, ◌+◌, drop}
use Rattle.expand.specs.Degrees.{as_number, counted_sum}
use Rattle.expand.proofs.degrees.counted_sum.Given as goal

-- what is left gives the rest
abbrev pub invariant-loop-group : goal.invariant-loop-group
invariant-loop-group l = record {
  left : as_number (l.sum + counted_sum l.direction l.labels (drop l.group-index l.groups)) ≡ as_number (counted_sum l.direction l.labels l.groups);
  fits : l.sum ≤ 18446744073709551615;
}
