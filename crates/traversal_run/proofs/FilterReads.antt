-- What filters with the numbers of their names read, as rows and for the vertex of an identifier.
use Rattle.std.proofs.Common.{◌≡◌, ◌<◌, ◌≤◌, ◌+◌, ℕ, Bool, true, false, cond, Option, None, Some, is_some, List, []}
use Rattle.std.proofs.Common.{◌∷◌, ◌++◌, length, take, get_or, refl, sym, ap, ◌∙◌, arith}
use Rattle.std.proofs.lemmas.List.{append-nil, map-append, map_more}
use Rattle.std.proofs.lemmas.List.Elements.{filter-append}
use Rattle.std.proofs.lemmas.List.Sums.{sum_by-cons}
use Rattle.std.specs.List.{filter, sum_by}
use Rattle.std.specs.Option.{option_map}
use Rattle.plain_graph.specs.Graph.{Node}
use Rattle.plain_graph.specs.Meaning.{passes, vertex_of}
use Rattle.plain_graph.specs.declared.filter.Filter.{Filter}
use Rattle.plain_graph.specs.declared.item.Item.{Item}
use Rattle.plain_graph.specs.declared.item.Item.TheVariants as items
use Rattle.prop_store.specs.Reading.{ReadsAtMost}
use Rattle.rec_bytes.specs.Space.{State}
use Rattle.store_rules.specs.Graph.{graph_of, node_of}
use Rattle.store_rules.specs.Rows.{option_list}
use Rattle.store_rules.specs.Views.{Records}
use Rattle.store_rules.proofs.NodeChange.{nodes_numbered}
use Rattle.traversal_run.specs.Feeding.{are_filters, filter_stage, is_filter}
use Rattle.traversal_run.specs.Finding.{element_at}
use Rattle.traversal_run.specs.NumberedFilter.{stages_numbered}
use Rattle.traversal_run.specs.Owing.{Spends, count_owes, numbered_reads, rows_owe, source_owes, stage_reads, steps_owe, vertex_reads}
use Rattle.traversal_run.specs.Row.{AreIdle, stages_of}
use Rattle.traversal_run.specs.Source.{TakesId, left_of}
use Rattle.traversal_run.specs.Stage.{after_stage}
use Rattle.traversal_run.specs.declared.numbered_filter.NumberedFilter.{NumberedFilter}
use Rattle.traversal_run.specs.declared.row.Row.{Row}
use Rattle.traversal_run.specs.declared.source.Left.{Left}
use Rattle.traversal_run.specs.declared.source.Source.{Source}
use Rattle.traversal_run.specs.declared.stage.Stage.{Stage}
use Rattle.traversal_run.proofs.FedReads.{pays_past, pays_taken, sum_zero}
use Rattle.traversal_run.proofs.FilteredCounts.{both, filter_gives}
use Rattle.traversal_run.proofs.LeftRows.{left-takes}
use Rattle.traversal_run.proofs.Spending.{reads_count}

-- ---- the filters among rows

pub filters_all : (rows : List Row) → are_filters rows ≡ true → filter is_filter (stages_of rows) ≡ stages_of rows
filters_all [] are = refl
filters_all (row ∷ rows) are =
    let is = both (is_filter row.stage) (are_filters rows) are in
    ap (λ b. cond b (row.stage ∷ filter is_filter (stages_of rows)) (filter is_filter (stages_of rows))) is.0
    ∙ ap (λ list. row.stage ∷ list) (filters_all rows is.1)

module _ (old : List NumberedFilter) (rows : List Row) (i : ℕ) (row : Row) (lt : i < length rows) (is : row ≡ get_or rows i row)
    (same : stages_numbered old ≡ filter is_filter (stages_of (take i rows))) where
  stages_more : filter is_filter (stages_of (take (i + 1) rows)) ≡ filter is_filter (stages_of (take i rows)) ++ filter is_filter (row.stage ∷ [])
  stages_more = ap (filter is_filter) (map_more (λ (r : Row). r.stage) rows i row lt ∙ ap (λ (r : Row). stages_of (take i rows) ++ r.stage ∷ []) (sym is))
      ∙ filter-append is_filter (stages_of (take i rows)) (row.stage ∷ [])

  pub filters_taken : (numbered : NumberedFilter) (test : Filter) → row.stage ≡ filter_stage test → numbered.filter.now ≡ test
      → stages_numbered (old ++ numbered ∷ []) ≡ filter is_filter (stages_of (take (i + 1) rows))
  filters_taken numbered test stage tests =
      let one : filter_stage numbered.filter.now ∷ [] ≡ filter is_filter (row.stage ∷ [])
      = ap (λ (f : Filter). filter_stage f ∷ []) tests ∙ ap (λ (step : Stage). filter is_filter (step ∷ [])) (sym stage) in
      map-append (λ (n : NumberedFilter). filter_stage n.filter.now) old (numbered ∷ []) ∙ (λ j. same j ++ one j) ∙ sym stages_more

  pub filters_past : is_filter row.stage ≡ false → stages_numbered old ≡ filter is_filter (stages_of (take (i + 1) rows))
  filters_past none =
      same ∙ sym (append-nil (filter is_filter (stages_of (take i rows))))
      ∙ ap (λ b. filter is_filter (stages_of (take i rows)) ++ cond b (row.stage ∷ []) []) (sym none) ∙ sym stages_more

-- ---- what they read

-- what each item costs, and what those that pass cost later
sum_split : (first : ℕ) (p : Item → Bool) (later : Item → ℕ) (list : List Item)
    → sum_by (λ item. first + cond (p item) (later item) 0) list ≡ sum_by (λ item. first) list + sum_by later (filter p list)
sum_split first p later [] = refl
sum_split first p later (x ∷ xs) =
    let all = sum_by-cons (λ item. first + cond (p item) (later item) 0) x xs in
    let each = sum_by-cons (λ (item : Item). first) x xs in
    let rest = sum_split first p later xs in
    let one = head (p x) in
    omega (arith, all, each, rest, one)
  where
    head : (b : Bool) → sum_by later (cond b (x ∷ filter p xs) (filter p xs)) ≡ cond b (later x) 0 + sum_by later (filter p xs)
    head true = sum_by-cons later x (filter p xs)
    head false = omega arith

same_head : {A : Type 0} (x y : A) (xs ys : List A) → x ∷ xs ≡ y ∷ ys → x ≡ y
same_head x y xs ys e = cc

same_tail : {A : Type 0} (x y : A) (xs ys : List A) → x ∷ xs ≡ y ∷ ys → xs ≡ ys
same_tail x y xs ys e = cc

-- Rows that are these filters owe what the filters read.
filters_owe_for : (records : Records) (list : List NumberedFilter) (rows : List Row) (coming : List Item) → stages_numbered list ≡ stages_of rows
    → AreIdle rows → steps_owe records rows coming ≡ sum_by (numbered_reads (graph_of records) list) coming
filters_owe_for records [] [] coming same idle = sym (sum_zero (numbered_reads (graph_of records) []) coming (λ item. refl))
filters_owe_for records [] (row ∷ rows) coming same idle = absurd cc
filters_owe_for records (n ∷ list) [] coming same idle = absurd cc
filters_owe_for records (n ∷ list) (row ∷ rows) coming same idle =
    let graph = graph_of records in
    let test = n.filter.now in
    let stage = same_head (filter_stage test) row.stage (stages_numbered list) (stages_of rows) same in
    let later = same_tail (filter_stage test) row.stage (stages_numbered list) (stages_of rows) same in
    ap (λ (waiting : List Item). sum_by (stage_reads records row.stage) (waiting ++ coming)
    + steps_owe records rows (after_stage graph row.stage (waiting ++ coming))) idle.0
    ∙ ap (λ (step : Stage). sum_by (stage_reads records step) coming + steps_owe records rows (after_stage graph step coming)) (sym stage)
    ∙ ap (λ (items : List Item). sum_by (stage_reads records (filter_stage test)) coming + steps_owe records rows items)
    (filter_gives graph (filter_stage test) coming refl)
    ∙ ap (λ k. sum_by (stage_reads records (filter_stage test)) coming + k)
    (filters_owe_for records list rows (filter (passes graph test) coming) later idle.1)
    ∙ sym (sum_split (stage_reads records (filter_stage test) (items.Vertex 0)) (passes graph test) (numbered_reads graph list) coming)

pub filters_owe : (records : Records) (list : List NumberedFilter) (rows : List Row) (source : Source) → stages_numbered list ≡ stages_of rows
    → AreIdle rows → rows_owe records source rows ≡ count_owes records list source
filters_owe records list rows source same idle =
    ap (λ k. source_owes records source + k) (filters_owe_for records list rows (left_of (graph_of records) source) same idle)

-- ---- the vertex of an identifier

-- it has that identifier
vertex_at : (records : Records) (id : ℕ) (item : Item) → element_at records false id ≡ Some item → item ≡ items.Vertex id
vertex_at records id item is = on (node_of records id) refl is
  where
    on : (o : Option Node) → node_of records id ≡ o → option_map vertex_of o ≡ Some item → item ≡ items.Vertex id
    on None e h = absurd cc
    on (Some node) e h = inner (items.Vertex node.id) h ∙ ap (λ n. items.Vertex n) (nodes_numbered records id node e)
      where
        inner : (x : Item) → Some x ≡ Some item → item ≡ x
        inner x e = cc

pub spends_vertex : (records : Records) (list : List NumberedFilter) (now : Source) (left : Left) (id : ℕ) → now.edges ≡ false → TakesId now.left id left
    → 1 + source_owes records (record now { left = left }) ≤ source_owes records now → (a b : State) → ReadsAtMost (vertex_reads records list id) a b
    → Spends a b (count_owes records list now) (count_owes records list (record now { left = left }))
spends_vertex records list now left id no_edges takes pays a b reads = by (element_at records false id) refl
  where
    rest : Source
    rest = record now { left = left }

    cost : Item → ℕ
    cost = numbered_reads (graph_of records) list

    read : b.reads ≤ a.reads + vertex_reads records list id
    read = reads_count (vertex_reads records list id) a b reads

    comes : left_of (graph_of records) now ≡ option_list (element_at records false id) ++ left_of (graph_of records) rest
    comes = left-takes records now.edges now.left left id takes
        ∙ ap (λ e. option_list (element_at records e id) ++ left_of (graph_of records) rest) no_edges

    by : (found : Option Item) → element_at records false id ≡ found
        → Spends a b (count_owes records list now) (count_owes records list (record now { left = left }))
    by None e =
        let one : vertex_reads records list id ≡ 1 = ap (λ (o : Option Item). 1 + cond (is_some o) (cost (items.Vertex id)) 0) e in
        let less = pays_past records cost now rest pays (comes ∙ ap (λ (o : Option Item). option_list o ++ left_of (graph_of records) rest) e) in
        omega (arith, read, one, less)
    by (Some item) e =
        let one : vertex_reads records list id ≡ 1 + cost item = ap (λ (o : Option Item). 1 + cond (is_some o) (cost (items.Vertex id)) 0) e
        ∙ ap (λ (i : Item). 1 + cost i) (sym (vertex_at records id item e)) in
        let less = pays_taken records cost now rest item pays (comes ∙ ap (λ (o : Option Item). option_list o ++ left_of (graph_of records) rest) e) in
        omega (arith, read, one, less)
