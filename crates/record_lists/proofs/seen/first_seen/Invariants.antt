use Rattle.std.proofs.Common.{◌≡◌, false, take}
use Rattle.std.specs.List.{list_any}
use Rattle.record_lists.specs.Seen.{is_seen}
use Rattle.record_lists.proofs.seen.first_seen.Given as goal

abbrev pub invariant-loop-id : goal.invariant-loop-id
invariant-loop-id l = list_any (is_seen l.seen) (take l.id-index l.ids) ≡ false
