use Rattle.std.proofs.Common.{ℕ, ◌+◌, ◌<◌, get_or, take}
use Rattle.rec_bytes.specs.Frame.{IsRead}
use Rattle.chain_edit.specs.Walking.{ReadsAtMost}
use Rattle.path_find.specs.Costs.{left_nodes, nodes_reads}
use Rattle.path_find.specs.Checking.{IsStep}
use Rattle.path_find.specs.WalkSearch.{neighbours_for}
use Rattle.path_find.proofs.stepping.is_walk.Given as goal
use Rattle.store_rules.specs.Rules.{IsWhole}

abbrev pub invariant-loop-row : goal.invariant-loop-row
invariant-loop-row g l =
    let old = g.R.Reads.state l.fn.reads in
    record {
      read : IsRead g.R.Reads l.fn.reads l.reads;
      cost : g.R.Reads.tells → IsWhole old → ReadsAtMost (nodes_reads old l.sought.direction l.sought.labels.now (take l.row (left_nodes l.walk))) old
          (g.R.Reads.state l.reads);
      steps : g.R.Reads.tells → IsWhole old → (k : ℕ) → k < l.row → IsStep (neighbours_for old l.sought) (get_or l.walk k 0)
          (get_or l.walk (k + 1) 0);
    }
