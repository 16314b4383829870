use Rattle.std.proofs.Common.{◌∷◌, [], List, ℕ, sym, ◌∙◌, subst}
use Rattle.plain_graph.specs.Meaning.{edges_at}
use Rattle.store_rules.specs.Graph.{graph_of}
use Rattle.traversal_run.specs.Hopping.{AreTypeNumbers, reads_at_vertex}
use Rattle.traversal_run.specs.Naming.{FindsNames}
use Rattle.traversal_run.proofs.HopEdges.{are_none, edges_at-untyped}
use Rattle.traversal_run.proofs.TypeNumbers.{one_named, one_text, one_unknown}
use Rattle.traversal_run.proofs.HopCosts.{hop_costs}
use Rattle.prop_store.proofs.ReadCounts.{reads_none}
use Rattle.traversal_run.proofs.hopping.rows_of_type.Goals as goal

pub returns-in-Some-clause-found : goal.returns-in-Some-clause-found
returns-in-Some-clause-found g c = λ tells store.
    let s = g.R.Reads.state c.args.space.now in
    let finds = c.in-Some.ensures.finds store in
    c.rows_by.ensures.found tells store.store
    (subst (λ (texts : List (List ℕ)). AreTypeNumbers s.records (c.in-Some.number ∷ []) texts) (sym c.requires) (one_named s.records c.in-Some.number
    c.args.label.now.text.now finds c.in-Some.ensures.below))

pub returns-in-None-clause-found : goal.returns-in-None-clause-found
returns-in-None-clause-found g c = λ tells store.
    let s = g.R.Reads.state c.args.space.now in
    let hop = c.args.hop.now in
    let unknown = c.in-None.ensures.finds store in
    let finds = subst (λ (texts : List (List ℕ)). FindsNames s.records [] texts) (sym c.requires) (one_unknown s.records c.args.label.now.text.now unknown) in
    are_none s.records c.new.result.items (edges_at (graph_of s.records) hop.direction hop.labels c.args.id) c.new.ensures.items
    (edges_at-untyped s.records s.shape store.store hop.labels c.args.id hop.direction finds
    (λ none. one_text c.args.label.now.text.now (sym c.requires ∙ none)))

pub returns-in-Some-clause-reads : goal.returns-in-Some-clause-reads
returns-in-Some-clause-reads g c = λ tells store.
    let s = g.R.Reads.state c.args.space.now in
    let hop = c.args.hop.now in
    let number = c.in-Some.number in
    let finds = c.in-Some.ensures.finds store in
    hop_costs s (g.R.Reads.state c.rows_by.new.space) store.store hop (number ∷ []) c.args.id
    (subst (λ (texts : List (List ℕ)). AreTypeNumbers s.records (number ∷ []) texts) (sym c.requires)
    (one_named s.records number c.args.label.now.text.now finds
    c.in-Some.ensures.below))
    (c.rows_by.ensures.reads tells store.store)

pub returns-in-None-clause-reads : goal.returns-in-None-clause-reads
returns-in-None-clause-reads g c = λ tells store.
    let s = g.R.Reads.state c.args.space.now in
    reads_none (reads_at_vertex s.records c.args.hop.now c.args.id) s
