use Rattle.std.proofs.Common.{◌≡◌, take}
use Rattle.plain_graph.proofs.query.copy_body.Given as goal

abbrev pub invariant-loop-step : goal.invariant-loop-step
invariant-loop-step l = l.copies.items ≡ take l.step-index l.steps
