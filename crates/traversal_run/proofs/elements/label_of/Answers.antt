use Rattle.std.specs.Prelude.{IfOk}
use Rattle.std.proofs.Common.{◌≡◌, Bor, List, Option, ℕ, option_map, sym, subst}
use Rattle.plain_graph.specs.Meaning.{label_of}
use Rattle.plain_graph.specs.declared.item.Item.{Item}
use Rattle.store_rules.specs.Graph.{graph_of}
use Rattle.prop_store.proofs.ReadCounts.{reads_none}
use Rattle.traversal_run.proofs.elements.label_of.Goals as goal

pub returns-in-Vertex-clause-found : goal.returns-in-Vertex-clause-found
returns-in-Vertex-clause-found g c = λ tells store.
    let graph = graph_of (g.R.Reads.state c.args.space.now).records in
    subst (λ (item : Item). IfOk c.vertex_label.result (λ (label : Option (Bor (List ℕ))). option_map (λ (text : Bor (List ℕ)). text.now) label ≡ label_of graph
    item)) (sym c.in-Vertex.is) (c.vertex_label.ensures.found tells store)

pub returns-in-Vertex-clause-at_most : goal.returns-in-Vertex-clause-at_most
returns-in-Vertex-clause-at_most g c = c.vertex_label.ensures.at_most

pub returns-in-Edge-clause-at_most : goal.returns-in-Edge-clause-at_most
returns-in-Edge-clause-at_most g c = reads_none 1 (g.R.Reads.state c.args.space.now)

pub returns-in-Value-clause-at_most : goal.returns-in-Value-clause-at_most
returns-in-Value-clause-at_most g c = reads_none 1 (g.R.Reads.state c.args.space.now)
