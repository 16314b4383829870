use Rattle.std.proofs.Common.{◌≡◌, true, take}
use Rattle.std.specs.List.{list_all}
use Rattle.store_check.specs.Elements.{is_below}
use Rattle.store_check.proofs.elements.are_below.Given as goal

abbrev pub invariant-loop-number : goal.invariant-loop-number
invariant-loop-number l = list_all (is_below l.mark) (take l.number-index l.numbers) ≡ true
