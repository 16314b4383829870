-- What a step that keeps nothing gives for one item.
use Rattle.std.proofs.Common.{◌≡◌, inl, inr, ◌≤◌, ℕ, ◌*◌, suc, zero, nat_eq, Bool, true, false, ◌||◌, cond, Option}
use Rattle.std.proofs.Common.{None, Some, List, [], ◌∷◌, ◌++◌, length, map, take, refl, sym, ap, ◌∙◌, subst, arith}
use Rattle.std.specs.FinMap as maps
use Rattle.std.specs.List.{filter, filter_map}
use Rattle.std.specs.Option.{option_to_list}
use Rattle.std.proofs.lemmas.Bool.{and_parts}
use Rattle.std.proofs.lemmas.List.{append-nil, length-append, length-map}
use Rattle.plain_graph.specs.Graph.{Edge, Graph, degree_in, has_node, is_at}
use Rattle.plain_graph.specs.Meaning.{edge_item, edges_at, enters_by, incident, is_named, label_of, leaves_by, neighbours_at, passes, properties_of}
use Rattle.plain_graph.specs.declared.direction.Direction.{Direction}
use Rattle.plain_graph.specs.declared.direction.Direction.TheVariants as directions
use Rattle.plain_graph.specs.declared.item.Item.{Item}
use Rattle.plain_graph.specs.declared.item.Item.TheVariants as items
use Rattle.plain_graph.specs.declared.value.Value.{Value}
use Rattle.plain_graph.specs.declared.value.Value.TheVariants as values
use Rattle.rec_bytes.specs.declared.shape.Shape.{Shape}
use Rattle.store_rules.specs.Graph.{graph_of}
use Rattle.store_rules.specs.Rules.{IsWellFormed}
use Rattle.store_rules.specs.Views.{Records}
use Rattle.traversal_run.specs.Held.{HasDegreesUpTo, IsBatch, elements_in, is_hop, is_plain}
use Rattle.traversal_run.specs.Mapping.{distinct_values, gives_edges, mapped}
use Rattle.traversal_run.specs.Stage.{Takes, after_stage, is_count, is_open}
use Rattle.traversal_run.specs.declared.mapping.Mapping.{Mapping}
use Rattle.traversal_run.specs.declared.mapping.Mapping.TheVariants as mappings
use Rattle.traversal_run.specs.declared.stage.Stage.{Stage}
use Rattle.traversal_run.specs.declared.stage.Stage.TheVariants as stages
use Rattle.traversal_run.proofs.HeldRows.{elements-cons, elements-few}
use Rattle.traversal_run.proofs.HopEdges.{edges_at-no_node}
use Rattle.traversal_run.proofs.Rows.{nothing_after}

-- ---- edges at a vertex

-- a filter that lets less through
filter_fewer : {E : Type 0} (p q : E → Bool) → ((e : E) → p e ≡ true → q e ≡ true) → (es : List E) → length (filter p es) ≤ length (filter q es)
filter_fewer p q less [] = omega arith
filter_fewer {E} p q less (e ∷ es) = by (p e) (q e) (filter p es) (filter q es) (less e) (filter_fewer p q less es)
  where
    by : (a b : Bool) (us vs : List E) → (a ≡ true → b ≡ true) → length us ≤ length vs → length (cond a (e ∷ us) us) ≤ length (cond b (e ∷ vs) vs)
    by true true us vs more few = omega arith
    by true false us vs more few = absurd (clash (more refl))
      where
        clash : false ≡ true → ⊥
        clash x = cc
    by false true us vs more few = omega arith
    by false false us vs more few = few

or_first : (a b : Bool) → a ≡ true → a || b ≡ true
or_first a b true_is = ap (λ (x : Bool). x || b) true_is

or_second : (a b : Bool) → b ≡ true → a || b ≡ true
or_second true b true_is = refl
or_second false b true_is = true_is

module _ (graph : Graph) (labels : List (List ℕ)) (id : ℕ) where
  leaving_few : length (filter (leaves_by labels id) graph.edges) ≤ degree_in graph id
  leaving_few = filter_fewer (leaves_by labels id) (is_at id) (λ e true_is. or_first (nat_eq e.from id) (nat_eq e.to id) (and_parts (nat_eq e.from id)
      (is_named labels e.label) true_is).0) graph.edges

  entering_few : length (filter (enters_by labels id) graph.edges) ≤ degree_in graph id
  entering_few = filter_fewer (enters_by labels id) (is_at id) (λ e true_is. or_second (nat_eq e.from id) (nat_eq e.to id) (and_parts (nat_eq e.to id)
      (is_named labels e.label) true_is).0) graph.edges

  edges_few : (direction : Direction) → length (edges_at graph direction labels id) ≤ 2 * degree_in graph id
  edges_few directions.Outgoing = let few = leaving_few in omega arith
  edges_few directions.Incoming = let few = entering_few in omega arith
  edges_few directions.Both =
      let one = leaving_few in
      let two = entering_few in
      omega (arith, length-append (filter (leaves_by labels id) graph.edges) (filter (enters_by labels id) graph.edges))

-- no hop takes more at an identifier
abbrev pub AreFewAt : Graph → ℕ → Type 0
AreFewAt graph d = (direction : Direction) (labels : List (List ℕ)) (id : ℕ) → length (edges_at graph direction labels id) ≤ 2 * d

pub few_at : (s : Records) (shape : Shape) → IsWellFormed s shape → (d : ℕ) → HasDegreesUpTo (graph_of s) d → AreFewAt (graph_of s) d
few_at s shape store d degrees direction labels id = by (has_node (graph_of s) id) refl
  where
    by : (b : Bool) → has_node (graph_of s) id ≡ b → length (edges_at (graph_of s) direction labels id) ≤ 2 * d
    by true node = let few = degrees id node in let most = edges_few (graph_of s) labels id direction in omega arith
    by false none = let no : length (edges_at (graph_of s) direction labels id) ≡ 0 = ap length (edges_at-no_node s shape store labels id direction none) in
        omega arith

-- ---- one item

values_none : (list : List Value) → elements_in (map items.Value list) ≡ 0
values_none [] = refl
values_none (value ∷ list) =
    let first = elements-cons (items.Value value) (map items.Value list) in
    let rest = values_none list in
    omega arith

distinct_none : (graph : Graph) (keys : List (List ℕ)) (item : Item) → elements_in (distinct_values graph keys item) ≡ 0
distinct_none graph [] item = values_none (maps.values (properties_of graph item))
distinct_none graph (key ∷ keys) item = values_none (filter_map (maps.get (properties_of graph item)) (key ∷ keys))

module _ (graph : Graph) (d : ℕ) (few : AreFewAt graph d) where
  neighbours_few : (direction : Direction) (labels : List (List ℕ)) (id : ℕ) → length (neighbours_at graph direction labels id) ≤ 2 * d
  neighbours_few directions.Outgoing labels id = let most = few directions.Outgoing labels id in
      omega (arith, length-map (filter (leaves_by labels id) graph.edges) (λ (edge : Edge). items.Vertex edge.to))
  neighbours_few directions.Incoming labels id = let most = few directions.Incoming labels id in
      omega (arith, length-map (filter (enters_by labels id) graph.edges) (λ (edge : Edge). items.Vertex edge.from))
  neighbours_few directions.Both labels id =
      let most = few directions.Both labels id in
      let leaving = filter (leaves_by labels id) graph.edges in
      let entering = filter (enters_by labels id) graph.edges in
      omega (
        arith,
        length-append leaving entering,
        length-append (map (λ (edge : Edge). items.Vertex edge.to) leaving) (map (λ (edge : Edge). items.Vertex edge.from) entering),
        length-map leaving (λ (edge : Edge). items.Vertex edge.to),
        length-map entering (λ (edge : Edge). items.Vertex edge.from),
      )

  hop_batch : (list : List Item) → length list ≤ 2 * d → IsBatch d true (list ++ [])
  hop_batch list most = let fits = elements-few list in inl (subst (λ (l : List Item). elements_in l ≤ 2 * d) (sym (append-nil list)) (omega arith))

  mapped_batch : (mapping : Mapping) (item : Item) → IsBatch d (gives_edges mapping) (mapped graph mapping item ++ [])
  mapped_batch (mappings.Neighbours hop) (items.Vertex id) = hop_batch _ (neighbours_few hop.direction hop.labels id)
  mapped_batch (mappings.Neighbours hop) (items.Edge id label from to) = hop_batch [] (omega arith)
  mapped_batch (mappings.Neighbours hop) (items.Value value) = hop_batch [] (omega arith)
  mapped_batch (mappings.Incident hop) (items.Vertex id) = hop_batch _ (edges_most hop.direction hop.labels id)
    where
      edges_most : (direction : Direction) (labels : List (List ℕ)) (id : ℕ)
          → length (incident graph (record { direction = direction; labels = labels }) (items.Vertex id)) ≤ 2 * d
      edges_most direction labels id = let most = few direction labels id in omega (arith, length-map (edges_at graph direction labels id) edge_item)
  mapped_batch (mappings.Incident hop) (items.Edge id label from to) = hop_batch [] (omega arith)
  mapped_batch (mappings.Incident hop) (items.Value value) = hop_batch [] (omega arith)
  mapped_batch mappings.OutV (items.Vertex id) = inr (omega arith)
  mapped_batch mappings.OutV (items.Edge id label from to) = inr (omega arith)
  mapped_batch mappings.OutV (items.Value value) = inr (omega arith)
  mapped_batch mappings.InV (items.Vertex id) = inr (omega arith)
  mapped_batch mappings.InV (items.Edge id label from to) = inr (omega arith)
  mapped_batch mappings.InV (items.Value value) = inr (omega arith)
  mapped_batch (mappings.Filter test) item = inr (by (passes graph test item))
    where
      by : (b : Bool) → length (cond b (item ∷ []) [] ++ []) ≤ 1
      by true = omega arith
      by false = omega arith
  mapped_batch (mappings.Values keys) item =
      let none : elements_in (distinct_values graph keys item ++ []) ≡ 0 = ap elements_in (append-nil (distinct_values graph keys item))
      ∙ distinct_none graph keys item in
      inl (omega arith)
  mapped_batch mappings.Id (items.Vertex id) = inr (omega arith)
  mapped_batch mappings.Id (items.Edge id label from to) = inr (omega arith)
  mapped_batch mappings.Id (items.Value value) = inr (omega arith)
  mapped_batch mappings.Label item = inr (one_label (label_of graph item))
    where
      one_label : (label : Option (List ℕ)) → length (map (λ (text : List ℕ). items.Value (values.Text text)) (option_to_list label) ++ []) ≤ 1
      one_label None = omega arith
      one_label (Some text) = omega arith

  stage_batch : (stage : Stage) (item : Item) → is_plain stage ≡ true → IsBatch d (is_hop stage) (after_stage graph stage (item ∷ []))
  stage_batch (stages.Mapped mapping) item plain = mapped_batch mapping item
  stage_batch (stages.Limit zero) item plain = inr (omega arith)
  stage_batch (stages.Limit (suc left)) item plain = inr (limited left)
    where
      limited : (n : ℕ) → length (take (suc n) (item ∷ [])) ≤ 1
      limited zero = omega arith
      limited (suc n) = omega arith
  stage_batch (stages.Dedup seen) item plain = absurd cc
  stage_batch (stages.Count so_far given) item plain = absurd cc
  stage_batch (stages.Order key descending kept given) item plain = absurd cc

pub plain_uncounted : (stage : Stage) → is_plain stage ≡ true → is_count stage ≡ false
plain_uncounted (stages.Count so_far given) plain = absurd cc
plain_uncounted stage plain = refl

pub plain_quiet : (stage : Stage) → is_plain stage ≡ true → is_open stage ≡ false
plain_quiet (stages.Dedup seen) plain = refl
plain_quiet (stages.Count so_far given) plain = absurd cc
plain_quiet (stages.Order key descending kept given) plain = absurd cc
plain_quiet stage plain = refl

-- so of what a step took
pub takes_batch : (graph : Graph) (d : ℕ) → AreFewAt graph d → (old new : Stage) (item : Item) (outs : List Item) → is_plain old ≡ true
    → is_plain new ≡ is_plain old
    → Takes graph old item outs new → IsBatch d (is_hop old) outs
takes_batch graph d few old new item outs plain same takes =
    let quiet = nothing_after graph new (plain_quiet new (same ∙ plain)) in
    let is : after_stage graph old (item ∷ []) ≡ outs = (takes []).0 ∙ ap (λ (list : List Item). outs ++ list) quiet ∙ append-nil outs in
    subst (IsBatch d (is_hop old)) is (stage_batch graph d few old item plain)
