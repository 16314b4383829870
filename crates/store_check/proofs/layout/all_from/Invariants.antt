use Rattle.std.proofs.Common.{◌≡◌, true}
use Rattle.store_rules.specs.Ranges.{all_point, pointers_from}
use Rattle.store_rules.specs.Views.{high}
use Rattle.store_check.specs.Layouts.{pointer_like}
use Rattle.store_check.proofs.layout.all_from.Given as goal

abbrev pub invariant-loop-number : goal.invariant-loop-number
invariant-loop-number g l = all_point (high (g.R.Reads.state l.space).records) l.rec (pointers_from l.number (pointer_like l.first) l.first.place) ≡ true
