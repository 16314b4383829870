use Rattle.std.proofs.Common.{◌≡◌, ◌≤◌, length, take}
use Rattle.node_changes.specs.Entries.{indexed_of}
use Rattle.node_changes.proofs.entries.entry_count.Given as goal

abbrev pub invariant-loop-assignment : goal.invariant-loop-assignment
invariant-loop-assignment l =
    (l.count ≡ length (indexed_of l.listed l.label (take l.assignment-index l.assigned))) × (l.count ≤ l.assignment-index)
