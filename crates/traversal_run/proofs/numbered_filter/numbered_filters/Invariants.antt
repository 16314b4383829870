use Rattle.std.proofs.Common.{◌≡◌, All, take}
use Rattle.std.specs.List.{filter}
use Rattle.plain_graph.specs.Graph.{Graph}
use Rattle.plain_graph.specs.declared.item.Item.{Item}
use Rattle.traversal_run.specs.Feeding.{is_filter, passes_rows}
use Rattle.traversal_run.specs.NumberedFilter.{IsNumbered, passes_numbered, stages_numbered}
use Rattle.traversal_run.specs.Reading.{IsNamedStore}
use Rattle.traversal_run.specs.Row.{stages_of}
use Rattle.traversal_run.proofs.numbered_filter.numbered_filters.Given as goal

abbrev pub invariant-loop-row : goal.invariant-loop-row
invariant-loop-row g l =
    let s = g.R.Reads.state l.space in
    record {
      same : (graph : Graph) (item : Item) → passes_numbered graph l.filters.items item ≡ passes_rows graph (take l.row-index l.rows) item;
      stages : stages_numbered l.filters.items ≡ filter is_filter (stages_of (take l.row-index l.rows));
      numbered : IsNamedStore s.records s.shape l.names.names → All (IsNumbered s.records) l.filters.items;
    }
