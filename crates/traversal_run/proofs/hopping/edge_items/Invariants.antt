use Rattle.std.proofs.Common.{◌≡◌, map, take}
use Rattle.traversal_run.specs.EdgeItems.{AreTyped, row_item}
use Rattle.traversal_run.specs.Reading.{IsNamedStore, IsRead}
use Rattle.traversal_run.proofs.hopping.edge_items.Given as goal

abbrev pub invariant-loop-row : goal.invariant-loop-row
invariant-loop-row g l =
    let old = g.R.Reads.state l.fn.space in
    record {
      are : g.R.Reads.tells → IsNamedStore old.records old.shape l.names.names → AreTyped old.records l.rows
          → l.items ≡ map (row_item old.records) (take l.row-index l.rows);
      no_read : g.R.Reads.tells → IsNamedStore old.records old.shape l.names.names → AreTyped old.records l.rows → l.space ≡ l.fn.space;
      read : IsRead g.R.Reads l.fn.space l.space;
    }
