-- The elements of the identifiers that are still to come, without the first.
use Rattle.std.proofs.Common.{◌≡◌, ◌≢◌, ◌<◌, ◌≤◌, ◌⊎◌, ℕ, zero, suc, Bool, true, false, ◌||◌, nat_eq, cond, Option}
use Rattle.std.proofs.Common.{None, Some, is_some, IfSome, List, [], ◌∷◌, ◌++◌, append_assoc, map, inl, inr, ⊎_elim}
use Rattle.std.proofs.Common.{refl, sym, ap, ◌∙◌, arith}
use Rattle.std.specs.List.{AllByRecursion, filter, list_any}
use Rattle.std.specs.Option.{option_map}
use Rattle.std.proofs.lemmas.Bool.{cases_lt}
use Rattle.std.proofs.lemmas.List.{append-nil, map-append}
use Rattle.std.proofs.lemmas.List.Elements.{filter-append}
use borrow.Author.Tests.{eqb-true}
use Rattle.plain_graph.specs.Graph.{Graph, edge_number, node_number}
use Rattle.plain_graph.specs.Meaning.{edge_item, vertex_of}
use Rattle.plain_graph.specs.declared.item.Item.{Item}
use Rattle.rec_bytes.specs.Format as format
use Rattle.store_rules.specs.Graph.{edge_from, edge_of, graph_of, node_from, node_of}
use Rattle.store_rules.specs.Properties.{property_records}
use Rattle.store_rules.specs.Rows.{collect, option_list}
use Rattle.store_rules.specs.Views.{Records, high, kind_at, node_in, rec_at, rel_in}
use Rattle.store_rules.proofs.GraphRows.{edges_numbered}
use Rattle.store_rules.proofs.NodeChange.{nodes_numbered}
use Rattle.store_rules.proofs.NumberLaws.{eq_false, eq_true, nat_cases}
use Rattle.store_rules.proofs.ViewLaws.{kind_high, row_none}
use Rattle.traversal_run.specs.Finding.{element_at, element_mark}
use Rattle.traversal_run.specs.Source.{GivesFirst, HasNoneBelow, TakesId, elements_left, is_left, left_of}
use Rattle.traversal_run.specs.declared.source.Left.{Left}
use Rattle.traversal_run.specs.declared.source.Left.TheVariants.{Among}
use Rattle.traversal_run.specs.declared.source.Source.{Source}

-- ---- rows below a mark

option_none : {E : Type 0} (test : E → Bool) (o : Option E) → ((e : E) → o ≡ Some e → test e ≡ false) → filter test (option_list o) ≡ []
option_none test None each = refl
option_none test (Some e) each = rw (each e refl) refl

option_all : {E : Type 0} (test : E → Bool) (o : Option E) → ((e : E) → o ≡ Some e → test e ≡ true) → filter test (option_list o) ≡ option_list o
option_all test None each = refl
option_all test (Some e) each = rw (each e refl) refl

option_same : {E : Type 0} (test other : E → Bool) (o : Option E) → ((e : E) → o ≡ Some e → test e ≡ other e)
    → filter test (option_list o) ≡ filter other (option_list o)
option_same test other None each = refl
option_same test other (Some e) each = ap (λ b. cond b (e ∷ []) []) (each e refl)

-- none of them passes
pub collect_none : {E : Type 0} (row : ℕ → Option E) (test : E → Bool) (n : ℕ) → ((x : ℕ) (e : E) → x < n → row x ≡ Some e → test e ≡ false)
    → filter test (collect row n) ≡ []
collect_none row test zero none = refl
collect_none row test (suc n) none =
    filter-append test (collect row n) (option_list (row n))
    ∙ (λ i. collect_none row test n (λ x e lt is. none x e (omega arith) is) i ++ option_none test (row n) (λ e is. none n e (omega arith) is) i)

module _ {E : Type 0} (of : E → ℕ) (row : ℕ → Option E) (numbered : (x : ℕ) (e : E) → row x ≡ Some e → of e ≡ x) where
  none_left : (test : ℕ → Bool) (n : ℕ) → ((x : ℕ) → x < n → test x ≡ false) → filter (λ e. test (of e)) (collect row n) ≡ []
  none_left test n none = collect_none row (λ e. test (of e)) n (λ x e lt is. ap test (numbered x e is) ∙ none x lt)

  module _ (old new : ℕ → Bool) (id : ℕ) (among : (x : ℕ) → old x ≡ nat_eq x id || new x) (first : (x : ℕ) → new x ≡ true → id < x) where
    -- up to the first number none is left after it
    new_none : (x : ℕ) → x ≤ id → new x ≡ false
    new_none x le = by (new x) refl
      where
        by : (b : Bool) → new x ≡ b → b ≡ false
        by true e = let lt = first x e in absurd (omega (arith, lt, le))
        by false e = refl

    -- before it none was left
    old_none : (x : ℕ) → x < id → old x ≡ false
    old_none x lt = among x ∙ (λ i. eq_false x id (λ same. omega (arith, same, lt)) i || new_none x (omega (arith, lt)) i)

    old_first : old id ≡ true
    old_first = among id ∙ ap (λ b. b || new id) (eq_true id id refl)

    old_later : (x : ℕ) → id < x → old x ≡ new x
    old_later x lt = among x ∙ ap (λ b. b || new x) (eq_false x id (λ same. omega (arith, same, lt)))

    -- the first row, and then those after it
    first_left : (n : ℕ) → id < n → filter (λ e. old (of e)) (collect row n) ≡ option_list (row id) ++ filter (λ e. new (of e)) (collect row n)
    first_left zero lt = absurd (omega arith)
    first_left (suc n) lt = by (nat_cases id n) (first_left n)
      where
        both : (test : ℕ → Bool) → filter (λ e. test (of e)) (collect row (suc n)) ≡ filter (λ e. test (of e)) (collect row n) ++ filter (λ e. test (of e))
            (option_list (row n))
        both test = filter-append (λ e. test (of e)) (collect row n) (option_list (row n))

        by : (id ≡ n) ⊎ (id ≢ n) → (id < n → filter (λ e. old (of e)) (collect row n) ≡ option_list (row id) ++ filter (λ e. new (of e)) (collect row n))
            → filter (λ e. old (of e)) (collect row (suc n)) ≡ option_list (row id) ++ filter (λ e. new (of e)) (collect row (suc n))
        by (inl same) before =
            let new_gone = none_left new (suc n) (λ x low. new_none x (omega (arith, same, low))) in
            let old_gone = none_left old n (λ x low. old_none x (omega (arith, same, low))) in
            let kept = option_all (λ e. old (of e)) (row n) (λ e is. ap old (numbered n e is ∙ sym same) ∙ old_first) in
            both old
            ∙ (λ i. old_gone i ++ kept i)
            ∙ ap (λ x. option_list (row x)) (sym same)
            ∙ sym (append-nil (option_list (row id)))
            ∙ ap (λ list. option_list (row id) ++ list) (sym new_gone)
        by (inr other) before =
            let same = option_same (λ e. old (of e)) (λ e. new (of e)) (row n)
            (λ e is. ap old (numbered n e is) ∙ old_later n (omega (arith, lt, other)) ∙ ap new (sym (numbered n e is))) in
            both old
            ∙ (λ i. before (omega (arith, lt, other)) i ++ same i)
            ∙ append_assoc (option_list (row id)) (filter (λ e. new (of e)) (collect row n)) (filter (λ e. new (of e)) (option_list (row n)))
            ∙ ap (λ list. option_list (row id) ++ list) (sym (both new))

    -- a number at or above the mark has no row
    rows_left : (n : ℕ) → (n ≤ id → row id ≡ None) → filter (λ e. old (of e)) (collect row n) ≡ option_list (row id) ++ filter (λ e. new (of e)) (collect row n)
    rows_left n gone = ⊎_elim (λ (lt : id < n). first_left n lt) (λ (le : n ≤ id).
        none_left old n (λ x low. old_none x (omega (arith, le, low)))
        ∙ sym (λ i. option_list (gone le i) ++ none_left new n (λ x low. new_none x (omega (arith, le, low))) i)) (cases_lt id n)

map_option : {A B : Type 0} (f : A → B) (o : Option A) → map f (option_list o) ≡ option_list (option_map f o)
map_option f None = refl
map_option f (Some a) = refl

module _ (records : Records) where
  high_node : (id : ℕ) → high records format.nodes_file ≤ id → node_of records id ≡ None
  high_node id le = ap (node_from (rec_at records format.names_file) (property_records records))
      (row_none (kind_at records format.nodes_file id) (node_in (rec_at records format.nodes_file id) id) (kind_high (high records format.nodes_file)
      (rec_at records format.nodes_file id) id le))

  high_edge : (id : ℕ) → high records format.relationships_file ≤ id → edge_of records id ≡ None
  high_edge id le = ap (edge_from (rec_at records format.names_file) (property_records records))
      (row_none (kind_at records format.relationships_file id) (rel_in (rec_at records format.relationships_file id) id)
      (kind_high (high records format.relationships_file) (rec_at records format.relationships_file id) id le))

  -- the element of the first identifier comes first, where there is one
  pub left-takes : (edges : Bool) (old new : Left) (id : ℕ) → TakesId old id new
      → elements_left (graph_of records) edges old ≡ option_list (element_at records edges id) ++ elements_left (graph_of records) edges new
  left-takes false old new id takes =
      let nodes = collect (node_of records) (high records format.nodes_file) in
      ap (map vertex_of) (rows_left node_number (node_of records) (nodes_numbered records) (is_left old) (is_left new) id takes.among takes.first
      (high records format.nodes_file) (high_node id))
      ∙ map-append vertex_of (option_list (node_of records id)) (filter (λ node. is_left new (node_number node)) nodes)
      ∙ ap (λ list. list ++ elements_left (graph_of records) false new) (map_option vertex_of (node_of records id))
  left-takes true old new id takes =
      let edges = collect (edge_of records) (high records format.relationships_file) in
      ap (map edge_item) (rows_left edge_number (edge_of records) (edges_numbered records) (is_left old) (is_left new) id takes.among takes.first
      (high records format.relationships_file) (high_edge id))
      ∙ map-append edge_item (option_list (edge_of records id)) (filter (λ edge. is_left new (edge_number edge)) edges)
      ∙ ap (λ list. list ++ elements_left (graph_of records) true new) (map_option edge_item (edge_of records id))

  -- nothing is to come where no identifier below the mark is
  pub left-none : (edges : Bool) (left : Left) → HasNoneBelow (element_mark records edges) left → elements_left (graph_of records) edges left ≡ []
  left-none false left none = ap (map vertex_of) (none_left node_number (node_of records) (nodes_numbered records) (is_left left)
      (high records format.nodes_file) none)
  left-none true left none = ap (map edge_item) (none_left edge_number (edge_of records) (edges_numbered records) (is_left left)
      (high records format.relationships_file) none)

-- ---- the first that was to come

pub gives-some : (graph : Graph) (old now new : Source) (item : Option Item) → is_some item ≡ true → left_of graph now ≡ left_of graph old
    → left_of graph now ≡ option_list item ++ left_of graph new → GivesFirst graph old item new
gives-some graph old now new None some same takes = absurd cc
gives-some graph old now new (Some item) some same takes = sym same ∙ takes

pub gives-later : (graph : Graph) (old now new : Source) (item : Option Item) → is_some item ≡ false → left_of graph now ≡ left_of graph old
    → left_of graph now ≡ option_list item ++ left_of graph new → left_of graph new ≡ left_of graph old
gives-later graph old now new None none same takes = sym takes ∙ same
gives-later graph old now new (Some item) none same takes = absurd cc

-- ---- identifiers that are written

above_any : (id other : ℕ) (ids : List ℕ) → AllByRecursion (λ later. id < later) ids → list_any (nat_eq other) ids ≡ true → id < other
above_any id other [] above any = absurd cc
above_any id other (first ∷ ids) above any = by (nat_eq other first) refl any (above_any id other ids above.1)
  where
    by : (b : Bool) → nat_eq other first ≡ b → b || list_any (nat_eq other) ids ≡ true → (list_any (nat_eq other) ids ≡ true → id < other) → id < other
    by true same any later = let is = eqb-true other first same in let low = above.0 in omega (arith, is, low)
    by false same any later = later any

takes-asked : (old : Left) (asked ids : List ℕ) (id : ℕ) → old ≡ Among asked → asked ≡ id ∷ ids → AllByRecursion (λ later. id < later) ids
    → TakesId old id (Among ids)
takes-asked old asked ids id is first above = record {
  among = λ other. ap (λ (left : Left). is_left left other) is ∙ ap (λ list. list_any (nat_eq other) list) first;
  first = λ other any. above_any id other ids above any;
}

pub takes-if : (old : Left) (asked ids : List ℕ) (found : Option ℕ) → old ≡ Among asked → IfSome found (λ id. asked ≡ id ∷ ids)
    → IfSome found (λ id. AllByRecursion (λ later. id < later) ids) → IfSome found (λ id. TakesId old id (Among ids))
takes-if old asked ids None is first above = tt
takes-if old asked ids (Some id) is first above = takes-asked old asked ids id is first above
