use Rattle.std.proofs.Common.{◌≡◌, []}
use Rattle.store_rules.specs.Graph.{graph_of}
use Rattle.traversal_run.specs.Feeding.{Feeds, filter_stage}
use Rattle.traversal_run.specs.Finding.{element_mark}
use Rattle.traversal_run.specs.Owing.{Spends, feed_owes}
use Rattle.traversal_run.specs.Reading.{IsNamedStore, IsRead}
use Rattle.traversal_run.specs.Source.{left_count}
use Rattle.traversal_run.proofs.feeding.first_passing.Given as goal

abbrev pub invariant-loop-id : goal.invariant-loop-id
invariant-loop-id g l =
    let old = g.R.Reads.state l.fn.space in
    record {
      feeds : g.R.Reads.tells → IsNamedStore old.records old.shape l.names.names
          → Feeds (graph_of old.records) l.fn.source (filter_stage l.filter) [] l.source (filter_stage l.filter);
      owes : g.R.Reads.tells → IsNamedStore old.records old.shape l.names.names
          → Spends old (g.R.Reads.state l.space) (feed_owes old.records l.fn.source (filter_stage l.filter)) (feed_owes old.records l.source
          (filter_stage l.filter));
      edges : l.source.edges ≡ l.fn.source.edges;
      mark : l.mark ≡ element_mark old.records l.fn.source.edges;
      read : IsRead g.R.Reads l.fn.space l.space;
    }

abbrev pub decreases-loop-id : goal.decreases-loop-id
decreases-loop-id g l = left_count l.mark l.source.left
