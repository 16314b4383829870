use Rattle.std.proofs.Common.{◌≡◌, ◌+◌, ◌-◌, ◌^◌, true}
use Rattle.std.specs.Bool.{OnFalse, OnTrue}
use Rattle.plain_graph.specs.Graph.{has_node}
use Rattle.rec_bytes.specs.Frame.{IsRead}
use Rattle.chain_edit.specs.Walking.{ReadsAtMost}
use Rattle.path_find.specs.Costs.{reach_reads}
use Rattle.path_find.specs.Meeting.{AreApart, HaveMet, reversed}
use Rattle.path_find.specs.Reach.{HasLayers}
use Rattle.path_find.specs.Reads.{neighbours_at}
use Rattle.path_find.specs.WalkSearch.{neighbours_for}
use Rattle.path_find.specs.Tree.{Spans, node_at}
use Rattle.path_find.proofs.Joined.{AreLonger}
use Rattle.path_find.proofs.meeting.meet_between.Given as goal
use Rattle.store_rules.specs.Rules.{IsWhole}
use Rattle.store_rules.specs.Graph.{graph_in}

abbrev pub invariant-loop-has_met : goal.invariant-loop-has_met
invariant-loop-has_met g l =
    let old = g.R.Reads.state l.fn.space in
    let near = neighbours_for old l.sought in
    let back = neighbours_at old (reversed l.sought.direction) l.sought.labels.now in
    record {
      ahead : HasLayers l.ahead.tree l.ahead.done;
      behind : HasLayers l.behind.tree l.behind.done;
      first : node_at l.ahead.tree 0 ≡ l.sought.from;
      last : node_at l.behind.tree 0 ≡ l.sought.to;
      met : OnTrue l.has_met (HaveMet l.ahead.tree l.behind.tree);
      apart : OnFalse l.has_met (AreApart l.ahead.tree l.behind.tree);
      read : IsRead g.R.Reads l.fn.space l.space;
      cost : g.R.Reads.tells → IsWhole old → ReadsAtMost (reach_reads old l.sought l.ahead l.behind) old (g.R.Reads.state l.space);
      ahead_spans : g.R.Reads.tells → IsWhole old → has_node (graph_in old) l.sought.from ≡ true → Spans near l.ahead.tree l.ahead.done;
      behind_spans : g.R.Reads.tells → IsWhole old → has_node (graph_in old) l.sought.to ≡ true → Spans back l.behind.tree l.behind.done;
      longer : g.R.Reads.tells → IsWhole old → has_node (graph_in old) l.sought.from ≡ true → has_node (graph_in old) l.sought.to ≡ true
          → AreLonger near l.sought.from l.sought.to (ahead.depth + behind.depth);
    }

abbrev pub decreases-loop-has_met : goal.decreases-loop-has_met
decreases-loop-has_met g l = 2 ^ 33 - (l.ahead.done + l.behind.done)
