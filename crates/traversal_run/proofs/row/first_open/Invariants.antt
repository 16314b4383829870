use Rattle.std.proofs.Common.{take}
use Rattle.traversal_run.specs.Row.{AreQuiet}
use Rattle.traversal_run.proofs.row.first_open.Given as goal

abbrev pub invariant-loop-at : goal.invariant-loop-at
invariant-loop-at l = AreQuiet (take l.at l.rows)
