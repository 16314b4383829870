use Rattle.std.proofs.Common.{◌≡◌, true, take}
use Rattle.std.specs.List.{list_all}
use Rattle.store_rules.specs.Views.{high}
use Rattle.store_check.specs.Layouts.{is_right_in}
use Rattle.store_check.proofs.layout.all_point.Given as goal

abbrev pub invariant-loop-pointer : goal.invariant-loop-pointer
invariant-loop-pointer g l = list_all (is_right_in (high (g.R.Reads.state l.space).records) l.rec) (take l.pointer-index l.pointers) ≡ true
