use Rattle.std.proofs.Common.{◌≡◌, map, take}
use Rattle.traversal_run.specs.Kept.{number_place, place_of}
use Rattle.traversal_run.proofs.kept.rows_of.Given as goal

abbrev pub invariant-loop-number : goal.invariant-loop-number
invariant-loop-number l = map place_of l.rows.items ≡ map number_place (take l.number-index l.numbers)
