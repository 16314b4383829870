use Rattle.std.proofs.Common.{◌+◌, rules}
use Rattle.group_store.specs.Loading.{group_mark}
use Rattle.group_store.proofs.GroupWalks.{reads_none}
use Rattle.rec_bytes.proofs.Causes.{never_ok}
use Rattle.group_store.proofs.twins.name_damage.Goals as goal

pub returns-then-head-ne-GROUPS-clause-at_most : goal.returns-then-head-ne-GROUPS-clause-at_most
returns-then-head-ne-GROUPS-clause-at_most g c = let s = g.R.Reads.state c.args.space.now in reads_none s (2 + group_mark s)

pub returns-in_err-has_twin-clause-named : goal.returns-in_err-has_twin-clause-named
returns-in_err-has_twin-clause-named g c _ = never_ok c.from_residual.result _ _ c.from_residual.ensures.1

pub returns-in_err-has_twin-clause-onward : goal.returns-in_err-has_twin-clause-onward
returns-in_err-has_twin-clause-onward g c = search rules
