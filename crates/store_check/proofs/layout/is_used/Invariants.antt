use Rattle.std.proofs.Common.{◌≡◌, false, take}
use Rattle.std.specs.List.{list_any}
use Rattle.store_check.specs.Layouts.{has_place}
use Rattle.store_check.proofs.layout.is_used.Given as goal

abbrev pub invariant-loop-range : goal.invariant-loop-range
invariant-loop-range l = list_any (has_place l.place) (take l.range-index l.used) ≡ false
