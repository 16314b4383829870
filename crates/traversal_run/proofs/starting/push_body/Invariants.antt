use Rattle.std.proofs.Common.{◌≡◌, ◌++◌, take, map}
use Rattle.traversal_run.specs.Starting.{body_row}
use Rattle.traversal_run.proofs.starting.push_body.Given as goal

abbrev pub invariant-loop-step : goal.invariant-loop-step
invariant-loop-step l = l.rows.items ≡ l.fn.rows.items ++ map body_row (take l.step-index l.body)
