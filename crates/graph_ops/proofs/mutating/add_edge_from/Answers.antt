use Rattle.std.proofs.Common.{◌∷◌, [], ⊎_elim, ap, sym, subst}
use Rattle.std.specs.Prelude.{IfErr}
use Rattle.plain_graph.specs.declared.item.Item.{Item}
use Rattle.graph_ops.specs.Mutating.{IsListCaused, IsListRefusal, command_from, steps_for}
use Rattle.plain_graph.specs.Mutations.{changes_of, vertex_id}
use Rattle.graph_ops.proofs.Parts.{none_from, result_refused}
use Rattle.rec_bytes.specs.Format as format
use Rattle.graph_ops.proofs.NewIds.{shows_none}
use Rattle.graph_ops.proofs.mutating.add_edge_from.Goals as goal
use Rattle.store_rules.specs.Graph.{graph_in}

pub returns-in-Vertex-clause-refused : goal.returns-in-Vertex-clause-refused
returns-in-Vertex-clause-refused g c told store =
    let s = g.S.Reads.state c.args.space.now in
    let mutation = steps_for c.args.edge.now in
    subst (λ (item : Item). IfErr c.add_one_edge.result (IsListRefusal s.shape.limit (graph_in s) (changes_of mutation (item ∷ [])))) (sym c.in-Vertex.is)
    (result_refused c.add_one_edge.result s.shape.limit (graph_in s) (command_from c.in-Vertex.from c.args.edge.now)
    (c.add_one_edge.ensures.refused told store))

pub returns-in-Edge-clause-part : goal.returns-in-Edge-clause-part
returns-in-Edge-clause-part g c =
    let edge = c.args.edge.now in
    none_from g.S.Reads.tells edge.label.now edge.to edge.pairs.now c.args.item.now c.args.shown.now.items (g.S.Reads.state c.args.space.now)
    c.args.names.now.names (⊎_elim (λ e. ap vertex_id e.4) (λ e. ap vertex_id e.1) c.in-Edge.is)

pub returns-in-Edge-2-clause-part : goal.returns-in-Edge-2-clause-part
returns-in-Edge-2-clause-part g c =
    let edge = c.args.edge.now in
    none_from g.S.Reads.tells edge.label.now edge.to edge.pairs.now c.args.item.now c.args.shown.now.items (g.S.Reads.state c.args.space.now)
    c.args.names.now.names (⊎_elim (λ e. ap vertex_id e.4) (λ e. ap vertex_id e.1) c.in-Edge.is)

pub returns-in-Vertex-clause-caused_after : goal.returns-in-Vertex-clause-caused_after
returns-in-Vertex-clause-caused_after g c tells =
    let t = g.S.Reads.state c.add_one_edge.new.space in
    let mutation = steps_for c.args.edge.now in
    subst (λ (item : Item). IfErr c.add_one_edge.result (IsListCaused (changes_of mutation (item ∷ [])) t c.args.names.now.names
    c.add_one_edge.new.names.names)) (sym c.in-Vertex.is) (c.add_one_edge.ensures.caused_after tells)

-- ---- which identifier it gets

pub returns-in-Vertex-clause-ids : goal.returns-in-Vertex-clause-ids
returns-in-Vertex-clause-ids g c tells = c.add_one_edge.ensures.ids tells

pub returns-in-Edge-clause-ids : goal.returns-in-Edge-clause-ids
returns-in-Edge-clause-ids g c tells = shows_none (g.S.Reads.state c.args.space.now).records format.relationships_file c.args.shown.now.items

pub returns-in-Edge-2-clause-ids : goal.returns-in-Edge-2-clause-ids
returns-in-Edge-2-clause-ids g c tells = shows_none (g.S.Reads.state c.args.space.now).records format.relationships_file c.args.shown.now.items
