use Rattle.std.proofs.Common.{◌≡◌, ◌||◌, ℕ, take}
use Rattle.record_lists.specs.Seen.{is_seen, is_among}
use Rattle.record_lists.proofs.seen.see_all.Given as goal

abbrev pub invariant-loop-id : goal.invariant-loop-id
invariant-loop-id l = (p : ℕ) → is_seen l.seen p ≡ (is_seen l.fn.seen p || is_among (take l.id-index l.ids) p)
