use Rattle.std.proofs.Common.{◌≡◌, ◌+◌, ◌<◌, ◌++◌, reverse}
use Rattle.path_find.specs.Tree.{level_at, row_count, way_to}
use Rattle.path_find.proofs.reading.walk_to.Given as goal

abbrev pub invariant-loop : goal.invariant-loop
invariant-loop l = record {
  low : l.at < row_count l.tree;
  level : level_at l.tree l.at + l.counter ≡ level_at l.tree l.row;
  end : l.end ≡ level_at l.tree l.row;
  way : way_to l.tree (level_at l.tree l.row) l.row ≡ way_to l.tree (level_at l.tree l.at) l.at ++ reverse l.walk.items;
}
