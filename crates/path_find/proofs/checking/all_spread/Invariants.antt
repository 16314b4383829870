use Rattle.std.proofs.Common.{ℕ, ◌<◌, get_or, take}
use Rattle.std.specs.List.{sum_by}
use Rattle.chain_edit.specs.Walking.{ReadsAtMost}
use Rattle.path_find.specs.Costs.{row_reads}
use Rattle.plain_graph.specs.declared.node_level.NodeLevel.{NodeLevel}
use Rattle.rec_bytes.specs.Frame.{IsRead}
use Rattle.path_find.specs.Checking.{IsSpreadAt}
use Rattle.path_find.specs.WalkSearch.{neighbours_for}
use Rattle.path_find.proofs.checking.all_spread.Given as goal
use Rattle.store_rules.specs.Rules.{IsWhole}

abbrev pub invariant-loop-row : goal.invariant-loop-row
invariant-loop-row g l =
    let old = g.R.Reads.state l.fn.reads in
    record {
      read : IsRead g.R.Reads l.fn.reads l.reads;
      cost : g.R.Reads.tells → IsWhole old → ReadsAtMost (sum_by (row_reads old l.sought.direction l.sought.labels.now l.claim.edges)
          (take l.row-index l.claim.levels.now)) old (g.R.Reads.state l.reads);
      spread : g.R.Reads.tells → IsWhole old → (k : ℕ) (d : NodeLevel) → k < l.row-index
          → IsSpreadAt (neighbours_for old l.sought) l.claim.levels.now l.claim.edges (get_or l.claim.levels.now k d);
    }
