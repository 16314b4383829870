use Rattle.std.proofs.Common.{◌≡◌, ◌+◌, take}
use Rattle.std.specs.List.{sum_by}
use Rattle.traversal_run.specs.Held.{as_size, elements_in}
use Rattle.traversal_run.specs.declared.row.Row.{Row}
use Rattle.traversal_run.proofs.run.Run.held.Given as goal

abbrev pub invariant-loop-row : goal.invariant-loop-row
invariant-loop-row l = l.count ≡ as_size (sum_by (λ (row : Row). elements_in row.waiting) (take l.row-index l.self.rows.items) + elements_in l.self.ready)
