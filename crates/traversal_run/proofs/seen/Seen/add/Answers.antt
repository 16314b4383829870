use Rattle.std.specs.Prelude.{IfOk}
use Rattle.std.proofs.Common.{◌≡◌, ◌++◌, ◌∷◌, [], cond, Bool, List, sym, subst}
use Rattle.plain_graph.specs.Meaning.{unseen}
use Rattle.plain_graph.specs.declared.item.Item.{Item}
use Rattle.traversal_run.proofs.seen.Seen.add.Goals as goal

pub returns-in-Vertex : goal.returns-in-Vertex
returns-in-Vertex c = subst (λ (item : Item). IfOk c.add_vertex.result (λ (is_new : Bool). (later : List Item) → unseen c.args.self.now (item ∷ later)
    ≡ cond is_new (item ∷ []) [] ++ unseen c.add_vertex.new.self later)) (sym c.in-Vertex.is) c.add_vertex.ensures

pub returns-in-Edge : goal.returns-in-Edge
returns-in-Edge c = subst (λ (item : Item). IfOk c.add_edge.result (λ (is_new : Bool). (later : List Item) → unseen c.args.self.now (item ∷ later) ≡ cond is_new
    (item ∷ []) [] ++ unseen c.add_edge.new.self later)) (sym c.in-Edge.is) (c.add_edge.ensures c.in-Edge.label c.in-Edge.from c.in-Edge.to)

pub returns-in-Value : goal.returns-in-Value
returns-in-Value c = subst (λ (item : Item). IfOk c.add_value.result (λ (is_new : Bool). (later : List Item) → unseen c.args.self.now (item ∷ later)
    ≡ cond is_new (item ∷ []) [] ++ unseen c.add_value.new.self later)) (sym c.in-Value.is) c.add_value.ensures
