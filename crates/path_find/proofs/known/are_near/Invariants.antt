use Rattle.std.proofs.Common.{ℕ, ◌<◌, get_or}
use Rattle.plain_graph.specs.Levels.{HasLevelUpTo}
use Rattle.path_find.proofs.known.are_near.Given as goal

abbrev pub invariant-loop-end : goal.invariant-loop-end
invariant-loop-end l = (k : ℕ) → k < l.end-index → HasLevelUpTo l.levels (get_or l.ends k 0) l.most
