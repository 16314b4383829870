use Rattle.std.proofs.Common.{◌≡◌, ◌≤◌}
use Rattle.rec_bytes.specs.Frame.{IsRead}
use Rattle.path_find.specs.Costs.{ReadsBetween, rows_reads}
use Rattle.path_find.specs.Reach.{GrowsFrom}
use Rattle.path_find.specs.Reads.{neighbours_at}
use Rattle.path_find.specs.Tree.{IsTree, Spans, row_count}
use Rattle.path_find.proofs.reach.grow.Given as goal
use Rattle.store_rules.specs.Rules.{IsWhole}

abbrev pub invariant-loop-row : goal.invariant-loop-row
invariant-loop-row g l =
    let old = g.R.Reads.state l.fn.space in
    let near = neighbours_at old l.direction l.labels in
    record {
      count : l.count ≡ row_count l.fn.reach.tree;
      done : l.reach.done ≡ l.fn.reach.done;
      past : l.fn.reach.done ≤ l.row;
      tree : IsTree l.reach.tree l.row;
      grows : GrowsFrom l.fn.reach.tree l.reach.tree l.fn.reach.done;
      read : IsRead g.R.Reads l.fn.space l.space;
      cost : g.R.Reads.tells → IsWhole old → ReadsBetween (rows_reads old l.direction l.labels l.fn.reach.tree l.fn.reach.done)
          (rows_reads old l.direction l.labels l.reach.tree l.row) old (g.R.Reads.state l.space);
      spans : g.R.Reads.tells → IsWhole old → Spans near l.fn.reach.tree l.fn.reach.done → Spans near l.reach.tree l.row;
    }
