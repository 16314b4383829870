use Rattle.std.proofs.Common.{◌≡◌, ◌++◌, map}
use Rattle.traversal_run.specs.Starting.{body_row, repeat_rows}
use Rattle.traversal_run.proofs.starting.push_repeat.Given as goal

abbrev pub invariant-loop : goal.invariant-loop
invariant-loop l = l.rows.items ≡ l.fn.rows.items ++ repeat_rows l.counter (map body_row l.body)
