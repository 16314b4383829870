-- What steps read at most, and what a source may still read.
use Rattle.std.specs.Prelude.{Result, Ok, Err}
use Rattle.std.specs.Result.{IsErrAnd}
use Rattle.std.proofs.Common.{◌≡◌, ◌<◌, ◌≤◌, ◌+◌, ◌-◌, ◌==◌, ℕ, zero, suc, Bool, true, false, ◌&&◌, cond, Option, None, Some}
use Rattle.std.proofs.Common.{is_some, List, [], ◌∷◌, length, map, get_or, take, refl, sym, ap, ◌∙◌, arith}
use Rattle.std.proofs.lemmas.List.{length-map}
use borrow.Author.Tests.{eqb-true}
use Rattle.plain_graph.specs.Graph.{Graph}
use Rattle.plain_graph.specs.Indexes.{scan}
use Rattle.plain_graph.specs.Meaning.{meaning, passes}
use Rattle.plain_graph.specs.declared.item.Item.{Item}
use Rattle.plain_graph.specs.declared.item.Item.TheVariants as items
use Rattle.plain_graph.specs.declared.query.Source.TheVariants as sources
use Rattle.plain_graph.specs.declared.value.Value.{Value}
use Rattle.node_store.specs.declared.node_row.NodeRow.{NodeRow}
use Rattle.rec_bytes.specs.Space.{State}
use Rattle.store_rules.specs.Graph.{graph_of}
use Rattle.store_rules.specs.Views.{Records}
use Rattle.traversal_run.specs.Finding.{element_mark, vertex_if}
use Rattle.traversal_run.specs.NumberedFilter.{passes_numbered}
use Rattle.traversal_run.specs.Owing.{Spends, SpendsIf, asked_reads, filter_reads, numbered_reads}
use Rattle.traversal_run.specs.Source.{asked_count, left_count}
use Rattle.traversal_run.specs.declared.numbered_filter.NumberedFilter.{NumberedFilter}
use Rattle.traversal_run.specs.declared.source.Left.{Left}

-- ---- filters in turn

module _ (graph : Graph) (item : Item) where
  -- one more of them, where all before it are passed
  pub numbered_one : (list : List NumberedFilter) (i : ℕ) (numbered : NumberedFilter) → i < length list → numbered ≡ get_or list i numbered
      → passes_numbered graph (take i list) item ≡ true
      → numbered_reads graph (take (suc i) list) item ≡ numbered_reads graph (take i list) item + filter_reads numbered.filter.now
  numbered_one [] i numbered lt is passed = absurd (omega arith)
  numbered_one (x ∷ xs) zero numbered lt is passed = by (passes graph x.filter.now item)
    where
      by : (b : Bool) → filter_reads x.filter.now + cond b 0 0 ≡ 0 + filter_reads numbered.filter.now
      by true = let same = ap (λ (n : NumberedFilter). filter_reads n.filter.now) is in omega (arith, same)
      by false = let same = ap (λ (n : NumberedFilter). filter_reads n.filter.now) is in omega (arith, same)
  numbered_one (x ∷ xs) (suc i) numbered lt is passed = by (passes graph x.filter.now item) passed (numbered_one xs i numbered (omega arith) is)
    where
      by : (b : Bool) → b && passes_numbered graph (take i xs) item ≡ true
          → (passes_numbered graph (take i xs) item ≡ true
          → numbered_reads graph (take (suc i) xs) item ≡ numbered_reads graph (take i xs) item + filter_reads numbered.filter.now)
          → filter_reads x.filter.now + cond b (numbered_reads graph (take (suc i) xs) item) 0
          ≡ filter_reads x.filter.now + cond b (numbered_reads graph (take i xs) item) 0 + filter_reads numbered.filter.now
      by true passed more = let rest = more passed in omega (arith, rest)
      by false passed more = absurd cc

  -- the first of them read no more than all
  pub numbered_part : (list : List NumberedFilter) (i : ℕ) → numbered_reads graph (take i list) item ≤ numbered_reads graph list item
  numbered_part list zero = omega arith
  numbered_part [] (suc i) = omega arith
  numbered_part (x ∷ xs) (suc i) = by (passes graph x.filter.now item) (numbered_part xs i)
    where
      by : (b : Bool) → numbered_reads graph (take i xs) item ≤ numbered_reads graph xs item
          → filter_reads x.filter.now + cond b (numbered_reads graph (take i xs) item) 0 ≤ filter_reads x.filter.now + cond b (numbered_reads graph xs item) 0
      by true rest = omega (arith, rest)
      by false rest = omega arith

pub vertex_there : (id : ℕ) (row : Option NodeRow) → is_some (vertex_if id row) ≡ is_some row
vertex_there id None = refl
vertex_there id (Some row) = refl

-- ---- what a source may still read

-- the mark is that of the source
pub at_mark : (records : Records) (mark n m : ℕ) (edges was : Bool) (left before : Left) → mark ≡ element_mark records was → edges ≡ was
    → n + left_count mark left ≤ m + left_count mark before
    → n + left_count (element_mark records edges) left ≤ m + left_count (element_mark records was) before
at_mark records mark n m edges was left before is same few =
    let now = ap (λ (k : ℕ). left_count k left) (is ∙ ap (element_mark records) (sym same)) in
    let then = ap (λ (k : ℕ). left_count k before) is in
    omega (arith, few, now, then)

-- it comes to the identifiers that are asked for
pub vertices_few : (records : Records) (ids : List ℕ) (left : Left)
    → left_count (element_mark records false) left ≤ asked_count (element_mark records false) ids
    → left_count (element_mark records false) left ≤ asked_reads records (sources.Vertices ids)
vertices_few records [] left few = few
vertices_few records (id ∷ ids) left few = few

pub edges_few : (records : Records) (ids : List ℕ) (left : Left)
    → left_count (element_mark records true) left ≤ asked_count (element_mark records true) ids
    → left_count (element_mark records true) left ≤ asked_reads records (sources.Edges ids)
edges_few records [] left few = few
edges_few records (id ∷ ids) left few = few

pub found_few : (records : Records) (label key : List ℕ) (value : Value) (ids : List ℕ) (left : Left)
    → map items.Vertex ids ≡ meaning (graph_of records) (scan label key value) → left_count (element_mark records false) left ≤ length ids
    → left_count (element_mark records false) left ≤ asked_reads records (sources.Found label key value)
found_few records label key value ids left found few =
    let same : length ids ≡ asked_reads records (sources.Found label key value) = sym (length-map ids items.Vertex) ∙ ap length found in
    omega (arith, few, same)

-- all where none is written
pub asked_none : (mark : ℕ) (ids : List ℕ) → (length ids == 0) ≡ true → mark - 0 ≤ asked_count mark ids
asked_none mark [] none = omega arith
asked_none mark (id ∷ ids) none = absurd (let zero = eqb-true (length (id ∷ ids)) 0 none in omega (arith, zero))

pub asked_some : (mark : ℕ) (ids : List ℕ) → (length ids == 0) ≡ false → (n : ℕ) → n ≤ length ids → n ≤ asked_count mark ids
asked_some mark [] some n few = absurd cc
asked_some mark (id ∷ ids) some n few = few
