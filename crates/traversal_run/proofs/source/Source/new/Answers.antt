use Rattle.std.proofs.Common.{◌≡◌, ◌≤◌, ◌∙◌, true, false, length, nat_eq, ap, sym, subst, List, ℕ, [], ◌∷◌, refl}
use Rattle.std.specs.List.{list_any}
use Rattle.plain_graph.specs.Meaning.{source_of}
use Rattle.plain_graph.specs.declared.query.Source.{Source as Asked}
use Rattle.plain_graph.specs.declared.query.Source.TheVariants as sources
use Rattle.plain_graph.specs.declared.value.Value.{Value}
use Rattle.store_rules.specs.Graph.{graph_of}
use Rattle.traversal_run.specs.Finding.{element_mark}
use Rattle.traversal_run.specs.FoundNodes.{ReadsToBegin}
use Rattle.traversal_run.specs.Owing.{asked_reads}
use Rattle.traversal_run.specs.Source.{asked_count, elements_left, left_count}
use Rattle.traversal_run.proofs.FoundSources.{found-left}
use Rattle.traversal_run.proofs.StepReads.{edges_few, found_few, vertices_few}
use Rattle.rec_bytes.proofs.Causes.{never_ok}
use Rattle.traversal_run.proofs.HopRuns.{one_asked}
use Rattle.traversal_run.proofs.OnlyReads.{is_read-none}
use Rattle.traversal_run.proofs.source.Source.new.Goals as goal

pub returns-in_err-nodes-in-Found-clause-cost : goal.returns-in_err-nodes-in-Found-clause-cost
returns-in_err-nodes-in-Found-clause-cost g c = λ tells store.
    subst (λ (asked : Asked). ReadsToBegin asked (g.R.Reads.state c.args.space.now) (g.R.Reads.state c.find_nodes.new.space)) (sym c.in-Found.is)
    (c.find_nodes.ensures.cost tells store)

pub returns-in_err-left-in-Found-clause-cost : goal.returns-in_err-left-in-Found-clause-cost
returns-in_err-left-in-Found-clause-cost g c = λ tells store.
    subst (λ (asked : Asked). ReadsToBegin asked (g.R.Reads.state c.args.space.now) (g.R.Reads.state c.find_nodes.new.space)) (sym c.in-Found.is)
    (c.find_nodes.ensures.cost tells store)

pub returns-in_ok-left-in-Found-clause-cost : goal.returns-in_ok-left-in-Found-clause-cost
returns-in_ok-left-in-Found-clause-cost g c = λ tells store.
    subst (λ (asked : Asked). ReadsToBegin asked (g.R.Reads.state c.args.space.now) (g.R.Reads.state c.find_nodes.new.space)) (sym c.in-Found.is)
    (c.find_nodes.ensures.cost tells store)

pub returns-in_ok-left-in-Found-clause-found : goal.returns-in_ok-left-in-Found-clause-found
returns-in_ok-left-in-Found-clause-found g c = λ tells store.
    let graph = graph_of (g.R.Reads.state c.args.space.now).records in
    let left = c.in_ok-left-in-Found.left in
    subst (λ (asked : Asked). elements_left graph false left ≡ source_of graph asked) (sym c.in-Found.is)
    (found-left graph c.in-Found.label c.in-Found.key c.in-Found.value c.in_ok-nodes-in-Found.nodes.items left (c.in_ok-nodes-in-Found.ensures.found tells
    store)
    (λ id. c.in_ok-left-in-Found.ensures.among id ∙ ap (list_any (nat_eq id)) c.deref.ensures.value))

pub returns-in_err-left-in-Vertices-clause-all : goal.returns-in_err-left-in-Vertices-clause-all
returns-in_err-left-in-Vertices-clause-all g c _ = never_ok c.from_residual.result _ _ c.from_residual.ensures.1

pub returns-in_err-left-in-Vertices-clause-found : goal.returns-in_err-left-in-Vertices-clause-found
returns-in_err-left-in-Vertices-clause-found g c _ _ = never_ok c.from_residual.result _ _ c.from_residual.ensures.1

pub returns-in_err-left-in-Vertices-clause-from : goal.returns-in_err-left-in-Vertices-clause-from
returns-in_err-left-in-Vertices-clause-from g c _ = never_ok c.from_residual.result _ _ c.from_residual.ensures.1

pub returns-in_err-left-in-Vertices-clause-over : goal.returns-in_err-left-in-Vertices-clause-over
returns-in_err-left-in-Vertices-clause-over g c = never_ok c.from_residual.result _ _ c.from_residual.ensures.1

pub returns-in_err-left-in-Vertices-clause-there : goal.returns-in_err-left-in-Vertices-clause-there
returns-in_err-left-in-Vertices-clause-there g c _ _ = never_ok c.from_residual.result _ _ c.from_residual.ensures.1

pub returns-in_err-left-in-Edges-clause-all : goal.returns-in_err-left-in-Edges-clause-all
returns-in_err-left-in-Edges-clause-all g c _ = never_ok c.from_residual-in_err-left-in-Edges.result _ _ c.from_residual-in_err-left-in-Edges.ensures.1

pub returns-in_err-left-in-Edges-clause-found : goal.returns-in_err-left-in-Edges-clause-found
returns-in_err-left-in-Edges-clause-found g c _ _ = never_ok c.from_residual-in_err-left-in-Edges.result _ _ c.from_residual-in_err-left-in-Edges.ensures.1

pub returns-in_err-left-in-Edges-clause-from : goal.returns-in_err-left-in-Edges-clause-from
returns-in_err-left-in-Edges-clause-from g c _ = never_ok c.from_residual-in_err-left-in-Edges.result _ _ c.from_residual-in_err-left-in-Edges.ensures.1

pub returns-in_err-left-in-Edges-clause-over : goal.returns-in_err-left-in-Edges-clause-over
returns-in_err-left-in-Edges-clause-over g c = never_ok c.from_residual-in_err-left-in-Edges.result _ _ c.from_residual-in_err-left-in-Edges.ensures.1

pub returns-in_err-left-in-Edges-clause-there : goal.returns-in_err-left-in-Edges-clause-there
returns-in_err-left-in-Edges-clause-there g c _ _ = never_ok c.from_residual-in_err-left-in-Edges.result _ _ c.from_residual-in_err-left-in-Edges.ensures.1

pub returns-in_err-nodes-in-Found-clause-all : goal.returns-in_err-nodes-in-Found-clause-all
returns-in_err-nodes-in-Found-clause-all g c _ = never_ok c.from_residual-in_err-nodes-in-Found.result _ _ c.from_residual-in_err-nodes-in-Found.ensures.1

pub returns-in_err-nodes-in-Found-clause-found : goal.returns-in_err-nodes-in-Found-clause-found
returns-in_err-nodes-in-Found-clause-found g c _ _ = never_ok c.from_residual-in_err-nodes-in-Found.result _ _ c.from_residual-in_err-nodes-in-Found.ensures.1

pub returns-in_err-nodes-in-Found-clause-from : goal.returns-in_err-nodes-in-Found-clause-from
returns-in_err-nodes-in-Found-clause-from g c _ = never_ok c.from_residual-in_err-nodes-in-Found.result _ _ c.from_residual-in_err-nodes-in-Found.ensures.1

pub returns-in_err-nodes-in-Found-clause-over : goal.returns-in_err-nodes-in-Found-clause-over
returns-in_err-nodes-in-Found-clause-over g c = never_ok c.from_residual-in_err-nodes-in-Found.result _ _ c.from_residual-in_err-nodes-in-Found.ensures.1

pub returns-in_err-nodes-in-Found-clause-there : goal.returns-in_err-nodes-in-Found-clause-there
returns-in_err-nodes-in-Found-clause-there g c _ _ = never_ok c.from_residual-in_err-nodes-in-Found.result _ _ c.from_residual-in_err-nodes-in-Found.ensures.1

pub returns-in_err-left-in-Found-clause-all : goal.returns-in_err-left-in-Found-clause-all
returns-in_err-left-in-Found-clause-all g c _ = never_ok c.from_residual-in_err-left-in-Found.result _ _ c.from_residual-in_err-left-in-Found.ensures.1

pub returns-in_err-left-in-Found-clause-found : goal.returns-in_err-left-in-Found-clause-found
returns-in_err-left-in-Found-clause-found g c _ _ = never_ok c.from_residual-in_err-left-in-Found.result _ _ c.from_residual-in_err-left-in-Found.ensures.1

pub returns-in_err-left-in-Found-clause-from : goal.returns-in_err-left-in-Found-clause-from
returns-in_err-left-in-Found-clause-from g c _ = never_ok c.from_residual-in_err-left-in-Found.result _ _ c.from_residual-in_err-left-in-Found.ensures.1

pub returns-in_err-left-in-Found-clause-over : goal.returns-in_err-left-in-Found-clause-over
returns-in_err-left-in-Found-clause-over g c = never_ok c.from_residual-in_err-left-in-Found.result _ _ c.from_residual-in_err-left-in-Found.ensures.1

pub returns-in_err-left-in-Found-clause-there : goal.returns-in_err-left-in-Found-clause-there
returns-in_err-left-in-Found-clause-there g c _ _ = never_ok c.from_residual-in_err-left-in-Found.result _ _ c.from_residual-in_err-left-in-Found.ensures.1

no_edges : (ids list : List ℕ) → sources.Vertices ids ≡ sources.Edges list → ⊥
no_edges ids list e = cc

no_found : (ids label key : List ℕ) (value : Value) → sources.Vertices ids ≡ sources.Found label key value → ⊥
no_found ids label key value e = cc

ids_are : (asked : Asked) (ids list : List ℕ) → asked ≡ sources.Vertices ids → asked ≡ sources.Vertices list → ids ≡ list
ids_are asked ids list one two = cc

pub returns-in_ok-left-in-Vertices-clause-one : goal.returns-in_ok-left-in-Vertices-clause-one
returns-in_ok-left-in-Vertices-clause-one g c = λ id is. (
  refl,
  one_asked c.in_ok-left-in-Vertices.left c.as_slice.result.now id (c.as_slice.ensures ∙ ids_are c.args.asked.now c.in-Vertices.ids (id ∷ [])
      c.in-Vertices.is is) c.in_ok-left-in-Vertices.ensures.asked,
)

pub returns-in_ok-left-in-Edges-clause-one : goal.returns-in_ok-left-in-Edges-clause-one
returns-in_ok-left-in-Edges-clause-one g c = λ id is. absurd (no_edges (id ∷ []) c.in-Edges.ids (sym is ∙ c.in-Edges.is))

pub returns-in_ok-left-in-Found-clause-one : goal.returns-in_ok-left-in-Found-clause-one
returns-in_ok-left-in-Found-clause-one g c = λ id is. absurd (no_found (id ∷ []) c.in-Found.label c.in-Found.key c.in-Found.value (sym is ∙ c.in-Found.is))

pub returns-in_err-left-in-Vertices-clause-one : goal.returns-in_err-left-in-Vertices-clause-one
returns-in_err-left-in-Vertices-clause-one g c _ _ = never_ok c.from_residual.result _ _ c.from_residual.ensures.1

pub returns-in_err-left-in-Edges-clause-one : goal.returns-in_err-left-in-Edges-clause-one
returns-in_err-left-in-Edges-clause-one g c _ _ = never_ok c.from_residual-in_err-left-in-Edges.result _ _ c.from_residual-in_err-left-in-Edges.ensures.1

pub returns-in_err-nodes-in-Found-clause-one : goal.returns-in_err-nodes-in-Found-clause-one
returns-in_err-nodes-in-Found-clause-one g c _ _ = never_ok c.from_residual-in_err-nodes-in-Found.result _ _ c.from_residual-in_err-nodes-in-Found.ensures.1

pub returns-in_err-left-in-Found-clause-one : goal.returns-in_err-left-in-Found-clause-one
returns-in_err-left-in-Found-clause-one g c _ _ = never_ok c.from_residual-in_err-left-in-Found.result _ _ c.from_residual-in_err-left-in-Found.ensures.1

pub returns-in_ok-left-in-Vertices-clause-owes : goal.returns-in_ok-left-in-Vertices-clause-owes
returns-in_ok-left-in-Vertices-clause-owes g c = λ tells store.
    let s = g.R.Reads.state c.args.space.now in
    let left = c.in_ok-left-in-Vertices.left in
    let mark = element_mark s.records false in
    subst (λ (asked : Asked). left_count mark left ≤ asked_reads s.records asked) (sym c.in-Vertices.is) (vertices_few s.records c.in-Vertices.ids left
    (subst (λ (ids : List ℕ). left_count mark left ≤ asked_count mark ids) c.as_slice.ensures (c.in_ok-left-in-Vertices.ensures.few mark)))

pub returns-in_ok-left-in-Edges-clause-owes : goal.returns-in_ok-left-in-Edges-clause-owes
returns-in_ok-left-in-Edges-clause-owes g c = λ tells store.
    let s = g.R.Reads.state c.args.space.now in
    let left = c.in_ok-left-in-Edges.left in
    let mark = element_mark s.records true in
    subst (λ (asked : Asked). left_count mark left ≤ asked_reads s.records asked) (sym c.in-Edges.is) (edges_few s.records c.in-Edges.ids left
    (subst (λ (ids : List ℕ). left_count mark left ≤ asked_count mark ids) c.as_slice-in-Edges.ensures (c.in_ok-left-in-Edges.ensures.few mark)))

pub returns-in_ok-left-in-Found-clause-owes : goal.returns-in_ok-left-in-Found-clause-owes
returns-in_ok-left-in-Found-clause-owes g c = λ tells store.
    let s = g.R.Reads.state c.args.space.now in
    let left = c.in_ok-left-in-Found.left in
    let mark = element_mark s.records false in
    subst (λ (asked : Asked). left_count mark left ≤ asked_reads s.records asked) (sym c.in-Found.is) (found_few s.records c.in-Found.label c.in-Found.key
    c.in-Found.value c.in_ok-nodes-in-Found.nodes.items left (c.in_ok-nodes-in-Found.ensures.found tells store)
    (subst (λ (ids : List ℕ). left_count mark left ≤ length ids) c.deref.ensures.value (c.in_ok-left-in-Found.ensures.few mark)))

pub returns-in_err-left-in-Vertices-clause-owes : goal.returns-in_err-left-in-Vertices-clause-owes
returns-in_err-left-in-Vertices-clause-owes g c _ _ = never_ok c.from_residual.result _ _ c.from_residual.ensures.1

pub returns-in_err-left-in-Edges-clause-owes : goal.returns-in_err-left-in-Edges-clause-owes
returns-in_err-left-in-Edges-clause-owes g c _ _ = never_ok c.from_residual-in_err-left-in-Edges.result _ _ c.from_residual-in_err-left-in-Edges.ensures.1

pub returns-in_err-nodes-in-Found-clause-owes : goal.returns-in_err-nodes-in-Found-clause-owes
returns-in_err-nodes-in-Found-clause-owes g c _ _ = never_ok c.from_residual-in_err-nodes-in-Found.result _ _ c.from_residual-in_err-nodes-in-Found.ensures.1

pub returns-in_err-left-in-Found-clause-owes : goal.returns-in_err-left-in-Found-clause-owes
returns-in_err-left-in-Found-clause-owes g c _ _ = never_ok c.from_residual-in_err-left-in-Found.result _ _ c.from_residual-in_err-left-in-Found.ensures.1

pub returns-in_ok-left-in-Vertices-clause-read : goal.returns-in_ok-left-in-Vertices-clause-read
returns-in_ok-left-in-Vertices-clause-read g c = is_read-none g.R.Reads g.met.R.Reads.stays_onward c.args.space.now

pub returns-in_ok-left-in-Edges-clause-read : goal.returns-in_ok-left-in-Edges-clause-read
returns-in_ok-left-in-Edges-clause-read g c = is_read-none g.R.Reads g.met.R.Reads.stays_onward c.args.space.now
