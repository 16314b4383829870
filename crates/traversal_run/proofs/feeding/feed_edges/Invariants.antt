use Rattle.std.proofs.Common.{◌≡◌, []}
use Rattle.plain_graph.specs.declared.item.Item.{Item}
use Rattle.store_rules.specs.Graph.{graph_of}
use Rattle.store_rules.specs.Views.{Records}
use Rattle.traversal_run.specs.Feeding.{Feeds}
use Rattle.traversal_run.specs.Held.{is_hop, is_plain}
use Rattle.traversal_run.specs.Owing.{Spends, feed_owes, stage_reads}
use Rattle.traversal_run.specs.Reading.{IsNamedStore, IsRead}
use Rattle.traversal_run.specs.Stage.{is_count, limit_left}
use Rattle.traversal_run.proofs.feeding.feed_edges.Given as goal

abbrev pub invariant-loop : goal.invariant-loop
invariant-loop g l =
    let old = g.R.Reads.state l.fn.space in
    record {
      feeds : g.R.Reads.tells → IsNamedStore old.records old.shape l.names.names → Feeds (graph_of old.records) l.fn.source l.fn.stage [] l.source l.stage;
      limits : limit_left l.stage ≡ limit_left l.fn.stage;
      counts : is_count l.stage ≡ is_count l.fn.stage;
      hops : is_hop l.stage ≡ is_hop l.fn.stage;
      plain : is_plain l.stage ≡ is_plain l.fn.stage;
      asks : (records : Records) (item : Item) → stage_reads records l.stage item ≡ stage_reads records l.fn.stage item;
      owes : g.R.Reads.tells → IsNamedStore old.records old.shape l.names.names
          → Spends old (g.R.Reads.state l.space) (feed_owes old.records l.fn.source l.fn.stage) (feed_owes old.records l.source l.fn.stage);
      edges : l.source.edges ≡ l.fn.source.edges;
      read : IsRead g.R.Reads l.fn.space l.space;
    }
