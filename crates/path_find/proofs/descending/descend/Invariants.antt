use Rattle.std.proofs.Common.{◌≡◌, ◌+◌, ◌<◌, ◌++◌, ◌∷◌, List, ℕ, length, slice_index}
use Rattle.rec_bytes.specs.Frame.{IsRead}
use Rattle.chain_edit.specs.Walking.{ReadsAtMost}
use Rattle.path_find.specs.Costs.{but_last, nodes_reads}
use Rattle.path_find.specs.Meeting.{CanDescend, IsDescent}
use Rattle.path_find.specs.WalkSearch.{neighbours_for}
use Rattle.path_find.specs.Tree.{level_at, node_at, row_count}
use Rattle.path_find.proofs.descending.descend.Given as goal
use Rattle.store_rules.specs.Rules.{IsWhole}

abbrev pub invariant-loop-level : goal.invariant-loop-level
invariant-loop-level g l =
    let old = g.R.Reads.state l.fn.space in
    let near = neighbours_for old l.sought in
    record {
      low : l.at < row_count l.tree;
      long : length l.way.items + l.level ≡ level_at l.tree l.row;
      read : IsRead g.R.Reads l.fn.space l.space;
      last : slice_index (node_at l.tree l.row ∷ l.way.items) (length l.way.items) ≡ node_at l.tree l.at;
      cost : g.R.Reads.tells → IsWhole old → ReadsAtMost (nodes_reads old l.sought.direction l.sought.labels.now (but_last (node_at l.tree l.row) l.way.items))
          old (g.R.Reads.state l.space);
      level : g.R.Reads.tells → IsWhole old → CanDescend near l.tree → level_at l.tree l.at ≡ l.level;
      descends : g.R.Reads.tells → IsWhole old → CanDescend near l.tree → (rest : List ℕ) → length rest ≡ l.level
          → IsDescent near l.tree l.at rest → IsDescent near l.tree l.row (l.way.items ++ rest);
    }

abbrev pub decreases-loop-level : goal.decreases-loop-level
decreases-loop-level g l = l.level
