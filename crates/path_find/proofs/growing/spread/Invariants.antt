use Rattle.std.proofs.Common.{◌≡◌, ◌+◌}
use Rattle.plain_graph.specs.Adjacency.{Adjacency}
use Rattle.path_find.specs.Growing.{Extends, IsGrowing, IsSpanning}
use Rattle.path_find.specs.Tree.{AreNeighbours, Spans, level_at, node_at}
use Rattle.path_find.proofs.growing.spread.Given as goal

abbrev pub invariant-loop-end : goal.invariant-loop-end
invariant-loop-end l = record {
  grows : IsGrowing l.tree l.row l.ends l.end-index;
  extends : Extends l.fn.tree l.tree l.row;
  level : l.level ≡ level_at l.tree l.row + 1;
  spans : (near : Adjacency) → Spans near l.fn.tree l.row → AreNeighbours near (node_at l.fn.tree l.row) l.ends
      → IsSpanning near l.tree l.row l.ends l.end-index;
}
