use Rattle.std.proofs.Common.{◌≡◌, take, true}
use Rattle.traversal_run.specs.Feeding.{are_filters}
use Rattle.traversal_run.proofs.feeding.filtered_count.Given as goal

abbrev pub invariant-loop-at : goal.invariant-loop-at
invariant-loop-at l = are_filters (take l.at l.rows) ≡ true
