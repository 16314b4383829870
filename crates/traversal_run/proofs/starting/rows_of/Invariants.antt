use Rattle.std.proofs.Common.{◌≡◌, take}
use Rattle.traversal_run.specs.Starting.{rows_of}
use Rattle.traversal_run.proofs.starting.rows_of.Given as goal

abbrev pub invariant-loop-step : goal.invariant-loop-step
invariant-loop-step l = l.rows.items ≡ rows_of (take l.step-index l.steps)
