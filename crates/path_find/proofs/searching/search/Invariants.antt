use Rattle.std.proofs.Common.{◌≡◌, ◌-◌, ◌^◌, true}
use Rattle.plain_graph.specs.Graph.{has_node}
use Rattle.rec_bytes.specs.Frame.{IsRead}
use Rattle.path_find.specs.Reads.{neighbours_at}
use Rattle.chain_edit.specs.Walking.{ReadsAtMost}
use Rattle.path_find.specs.Costs.{rows_reads}
use Rattle.path_find.specs.Search.{AreNearer}
use Rattle.path_find.specs.Tree.{IsTree, Spans, node_at}
use Rattle.path_find.proofs.searching.search.Given as goal
use Rattle.store_rules.specs.Rules.{IsWhole}
use Rattle.store_rules.specs.Graph.{graph_in}

abbrev pub invariant-loop-row : goal.invariant-loop-row
invariant-loop-row g l =
    let old = g.R.Reads.state l.fn.space in
    record {
      tree : IsTree l.tree l.row;
      first : node_at l.tree 0 ≡ l.from;
      nearer : AreNearer l.tree l.row l.to;
      read : IsRead g.R.Reads l.fn.space l.space;
      cost : g.R.Reads.tells → IsWhole old → ReadsAtMost (rows_reads old l.direction l.labels l.tree l.row) old (g.R.Reads.state l.space);
      spans : g.R.Reads.tells → IsWhole old → has_node (graph_in old) l.from ≡ true → Spans (neighbours_at old l.direction l.labels) l.tree l.row;
    }

abbrev pub decreases-loop-row : goal.decreases-loop-row
decreases-loop-row g l = 2 ^ 32 - l.row
