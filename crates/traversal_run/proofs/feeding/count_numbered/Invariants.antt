use Rattle.std.proofs.Common.{◌≡◌, ◌+◌, All, length}
use Rattle.std.specs.List.{filter}
use Rattle.store_rules.specs.Graph.{graph_of}
use Rattle.store_rules.specs.Rules.{IsWellFormed}
use Rattle.traversal_run.specs.Finding.{element_mark}
use Rattle.traversal_run.specs.NumberedFilter.{IsNumbered, passes_numbered}
use Rattle.traversal_run.specs.Owing.{Spends, count_owes}
use Rattle.traversal_run.specs.Reading.{IsRead}
use Rattle.traversal_run.specs.Source.{left_count, left_of}
use Rattle.traversal_run.proofs.feeding.count_numbered.Given as goal

abbrev pub invariant-loop-id : goal.invariant-loop-id
invariant-loop-id g l =
    let old = g.R.Reads.state l.fn.space in
    let graph = graph_of old.records in
    let passes = passes_numbered graph l.filters in
    record {
      counted : g.R.Reads.tells → IsWellFormed old.records old.shape → All (IsNumbered old.records) l.filters
          → l.so_far + length (filter passes (left_of graph l.source)) ≡ l.fn.so_far + length (filter passes (left_of graph l.fn.source));
      owes : g.R.Reads.tells → IsWellFormed old.records old.shape → All (IsNumbered old.records) l.filters
          → Spends old (g.R.Reads.state l.space) (count_owes old.records l.filters l.fn.source) (count_owes old.records l.filters l.source);
      edges : l.source.edges ≡ l.fn.source.edges;
      mark : l.mark ≡ element_mark old.records l.fn.source.edges;
      read : IsRead g.R.Reads l.fn.space l.space;
    }

abbrev pub decreases-loop-id : goal.decreases-loop-id
decreases-loop-id g l = left_count l.mark l.source.left
