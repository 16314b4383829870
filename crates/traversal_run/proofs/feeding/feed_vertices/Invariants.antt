use Rattle.std.proofs.Common.{◌≡◌, []}
use Rattle.plain_graph.specs.declared.item.Item.{Item}
use Rattle.store_rules.specs.Graph.{graph_of}
use Rattle.store_rules.specs.Views.{Records}
use Rattle.traversal_run.specs.Feeding.{Feeds}
use Rattle.traversal_run.specs.Finding.{element_mark}
use Rattle.traversal_run.specs.Held.{is_hop, is_plain}
use Rattle.traversal_run.specs.Owing.{Spends, feed_owes, stage_reads}
use Rattle.traversal_run.specs.Reading.{IsNamedStore, IsRead}
use Rattle.traversal_run.specs.Source.{left_count}
use Rattle.traversal_run.specs.Stage.{is_count, limit_left}
use Rattle.traversal_run.proofs.HopRuns.{FedHop}
use Rattle.traversal_run.proofs.feeding.feed_vertices.Given as goal

abbrev pub invariant-loop-id : goal.invariant-loop-id
invariant-loop-id g l =
    let old = g.R.Reads.state l.fn.space in
    record {
      feeds : g.R.Reads.tells → IsNamedStore old.records old.shape l.names.names → Feeds (graph_of old.records) l.fn.source l.fn.stage [] l.source l.stage;
      limits : limit_left l.stage ≡ limit_left l.fn.stage;
      counts : is_count l.stage ≡ is_count l.fn.stage;
      hops : is_hop l.stage ≡ is_hop l.fn.stage;
      plain : is_plain l.stage ≡ is_plain l.fn.stage;
      asks : (records : Records) (item : Item) → stage_reads records l.stage item ≡ stage_reads records l.fn.stage item;
      owes : g.R.Reads.tells → IsNamedStore old.records old.shape l.names.names
          → Spends old (g.R.Reads.state l.space) (feed_owes old.records l.fn.source l.fn.stage) (feed_owes old.records l.source l.fn.stage);
      edges : l.source.edges ≡ l.fn.source.edges;
      mark : l.mark ≡ element_mark old.records l.fn.source.edges;
      hop : FedHop g.R.Reads l.names.names l.fn.stage l.stage l.fn.space l.space l.fn.source.left l.source.left;
      read : IsRead g.R.Reads l.fn.space l.space;
    }

abbrev pub decreases-loop-id : goal.decreases-loop-id
decreases-loop-id g l = left_count l.mark l.source.left
