use Rattle.std.proofs.Common.{ℕ, ◌<◌, slice_index}
use Rattle.path_find.specs.Meeting.{IsAtLevel}
use Rattle.path_find.proofs.descending.first_at_level.Given as goal

abbrev pub invariant-loop-end : goal.invariant-loop-end
invariant-loop-end l = (k : ℕ) → k < l.end-index → (other : ℕ) → ¬ IsAtLevel l.tree l.level (slice_index l.ends k) other
