use Rattle.std.proofs.Common.{◌≡◌, All, take, true}
use Rattle.plain_graph.specs.declared.item.Item.TheVariants as items
use Rattle.prop_store.specs.Reading.{ReadsAtMost}
use Rattle.store_rules.specs.Graph.{graph_of}
use Rattle.store_rules.specs.Rules.{IsWellFormed}
use Rattle.traversal_run.specs.NumberedFilter.{IsNumbered, passes_numbered}
use Rattle.traversal_run.specs.Owing.{numbered_reads}
use Rattle.traversal_run.specs.Reading.{IsRead}
use Rattle.traversal_run.proofs.numbered_filter.passes_each.Given as goal

abbrev pub invariant-loop-filter : goal.invariant-loop-filter
invariant-loop-filter g l =
    let old = g.R.Reads.state l.fn.space in
    record {
      passed : g.R.Reads.tells → IsWellFormed old.records old.shape → All (IsNumbered old.records) l.filters
          → passes_numbered (graph_of old.records) (take l.filter-index l.filters) (items.Vertex l.id) ≡ true;
      reads : g.R.Reads.tells → IsWellFormed old.records old.shape → All (IsNumbered old.records) l.filters
          → ReadsAtMost (numbered_reads (graph_of old.records) (take l.filter-index l.filters) (items.Vertex l.id)) old (g.R.Reads.state l.space);
      read : IsRead g.R.Reads l.fn.space l.space;
    }
