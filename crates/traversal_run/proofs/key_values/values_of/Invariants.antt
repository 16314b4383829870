use Rattle.std.proofs.Common.{◌≡◌, map}
use Rattle.traversal_run.specs.KeyValues.{entry_item, entry_of}
use Rattle.traversal_run.proofs.key_values.values_of.Given as goal

abbrev pub invariant-loop-row : goal.invariant-loop-row
invariant-loop-row l = l.values ≡ map entry_item (map entry_of l.yielded)
