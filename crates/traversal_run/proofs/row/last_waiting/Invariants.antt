use Rattle.std.proofs.Common.{drop, length, ◌≤◌}
use Rattle.traversal_run.specs.Row.{AreIdle}
use Rattle.traversal_run.proofs.row.last_waiting.Given as goal

abbrev pub invariant-loop-at : goal.invariant-loop-at
invariant-loop-at l = record { within : l.at ≤ length l.rows; idle : AreIdle (drop l.at l.rows) }

abbrev pub decreases-loop-at : goal.decreases-loop-at
decreases-loop-at l = l.at
