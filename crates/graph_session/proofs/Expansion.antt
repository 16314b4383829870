-- The edges of a type at a node, by their rows.
use Rattle.std.proofs.Common.{◌≡◌, ◌<◌, ◌≤◌, ◌∙◌, ℕ, zero, suc, nat_eq, Bool, true, false, ◌&&◌, ◌||◌, cond, Option}
use Rattle.std.proofs.Common.{None, Some, Result, Ok, Err, IfOk, List, [], ◌∷◌, ◌++◌, length, map, slice_get, Contains}
use Rattle.std.proofs.Common.{IfNone, IfSome, is_some, unwrap_or, true≢false, refl, sym, ap, subst, ⊎_elim, arith}
use Rattle.std.specs.List.{AllByRecursion, filter}
use borrow.Author.Tests.{eqb-true}
use Rattle.std.proofs.lemmas.Bool.{cases_lt}
use Rattle.std.proofs.lemmas.Slice.Zip.{AllZip-long}
use Rattle.plain_graph.specs.Graph.{Edge, Graph}
use Rattle.plain_graph.specs.Lines.{degree_at, expansion, types_of}
use Rattle.plain_graph.specs.Meaning.{edge_item, edges_at, entering, enters_by, is_named, leaves_by, leaving}
use Rattle.plain_graph.specs.Values.{is_text}
use Rattle.plain_graph.specs.declared.direction.Direction.{Direction}
use Rattle.plain_graph.specs.declared.direction.Direction.TheVariants as directions
use Rattle.plain_graph.specs.declared.item.Item.TheVariants as items
use Rattle.rec_bytes.specs.Space.{SameButReads, State, after_get, after_gets}
use Rattle.rec_bytes.specs.declared.shape.Shape.{Shape}
use Rattle.rec_bytes.specs.declared.space.Reads.{Ghosts as SpaceGhosts}
use Rattle.store_rules.specs.Graph.{graph_of}
use Rattle.store_rules.specs.Rows.{option_list}
use Rattle.store_rules.specs.Rules.{IsWellFormed}
use Rattle.store_rules.specs.Views.{Records}
use Rattle.name_store.specs.Names.{AreDistinct}
use Rattle.rel_store.specs.declared.edge_row.EdgeRow.{EdgeRow}
use Rattle.expand.specs.Costs.{are_no_names, are_unknown}
use Rattle.expand.specs.Expanding.{AreRowsOf, IsRowOf, rows_of}
use Rattle.expand.specs.Matching.{rows_at}
use Rattle.expand.proofs.ModelEdges.{StandFor, rows_at_are}
use Rattle.expand.proofs.UnknownTypes.{unknown_numbers}
use Rattle.traversal_run.specs.Naming.{FindsName, name_at, name_count}
use Rattle.traversal_run.specs.Reading.{IsNamedStore, IsRead}
use Rattle.traversal_run.proofs.Asked.{same_tests}
use Rattle.traversal_run.proofs.NamesKnown.{finds_later, finds_number, finds_unknown, is_text-same, names_enough}
use Rattle.graph_session.specs.EdgeResults.{item_of, items_of}

-- reads change nothing but their count
same-gets : (count : ℕ) (s : State) → SameButReads s (after_gets count s)
unfolding after_gets
same-gets zero s = refl
same-gets (suc n) s = ap after_get (same-gets n s)

gets-same : (s t : State) (count : ℕ) → t ≡ after_gets count s → SameButReads s t
gets-same s t count is = subst (SameButReads s) (sym is) (same-gets count s)

-- so the space was only read
pub is_read-gets : {R : Type 0} (space : SpaceGhosts R) {a b : R} (count : ℕ) → space.state b ≡ after_gets count (space.state a) → space.onward a b
    → space.faults a ≤ space.faults b → IsRead space a b
is_read-gets space {a = a} {b = b} count is onward later = record { same = gets-same (space.state a) (space.state b) count is; onward = onward; later = later }

-- ---- the number of a type

stands-one : (records : Records) (number : ℕ) (text : List ℕ) → FindsName records (Some number) text → StandFor records (number ∷ []) (text ∷ [])
stands-one records number text finds = λ x lt. ap (λ (b : Bool). b || false) (finds x lt)

-- a number after those of the store is that of no name
finds-past : (records : Records) (number : ℕ) (text : List ℕ) → name_count records ≤ number → FindsName records None text → FindsName records (Some number) text
finds-past records number text past none = λ x lt.
    same_tests (nat_eq x number) (is_text text (name_at records x)) (λ e. let same = eqb-true x number e in absurd (omega (arith, same, lt, past)))
    (λ e. absurd (true≢false (sym (none x lt ∙ e))))

module _ (records : Records) (shape : Shape) (names : List (List ℕ)) (store : IsNamedStore records shape names) (text : List ℕ) where
  pub stands-found : (number : ℕ) → AreDistinct names → slice_get names number ≡ Some text → StandFor records (number ∷ []) (text ∷ [])
  stands-found number once found = stands-one records number text (⊎_elim
      (λ (low : number < name_count records). finds_number records shape names store text number found low)
      (λ (high : name_count records ≤ number). finds-past records number text high (finds_later records shape names store text number once found high))
      (cases_lt number (name_count records)))

  pub stands-unknown : ¬ Contains names text → StandFor records (length names ∷ []) (text ∷ [])
  stands-unknown unknown = stands-one records (length names) text (finds-past records (length names) text (names_enough records shape names store)
      (finds_unknown records shape names store text unknown))

  -- the number that is taken for the text
  pub stands-number : AreDistinct names → (found : Option ℕ) (count : ℕ) → IfSome found (λ number. slice_get names number ≡ Some text)
      → IfNone found (¬ Contains names text) → count ≡ length names
      → StandFor records (unwrap_or found count ∷ []) (text ∷ [])
  stands-number once (Some number) count some none is = stands-found number once some
  stands-number once None count some none is = subst (λ (number : ℕ). StandFor records (number ∷ []) (text ∷ [])) (sym is) (stands-unknown none)

-- ---- edges of one type

abbrev HasLabel : List ℕ → Edge → Type 0
HasLabel label edge = edge.label ≡ label

and-second : (a b : Bool) → a && b ≡ true → b ≡ true
and-second true b is = is
and-second false b is = cc

or-false : (b : Bool) → b || false ≡ true → b ≡ true
or-false true is = refl
or-false false is = is

filtered : (test : Edge → Bool) (P : Edge → Type 0) → ((edge : Edge) → test edge ≡ true → P edge) → (edges : List Edge) → AllByRecursion P (filter test edges)
filtered test P holds [] = tt
filtered test P holds (edge ∷ edges) = by (filtered test P holds edges) (test edge) refl
  where
    by : AllByRecursion P (filter test edges) → (passes : Bool) → test edge ≡ passes
        → AllByRecursion P (cond passes (edge ∷ filter test edges) (filter test edges))
    by later true is = (holds edge is, later)
    by later false is = later

all-append : (P : Edge → Type 0) (front back : List Edge) → AllByRecursion P front → AllByRecursion P back → AllByRecursion P (front ++ back)
all-append P [] back first rest = rest
all-append P (edge ∷ front) back first rest = (first.0, all-append P front back first.1 rest)

named-label : (label : List ℕ) (edge : Edge) → is_named (label ∷ []) edge.label ≡ true → HasLabel label edge
named-label label edge named = sym (is_text-same label edge.label (or-false (is_text label edge.label) named))

module _ (graph : Graph) (label : List ℕ) (id : ℕ) where
  leaving-labels : AllByRecursion (HasLabel label) (leaving graph (label ∷ []) id)
  leaving-labels = filtered (leaves_by (label ∷ []) id) (HasLabel label) (λ edge is. named-label label edge (and-second (nat_eq edge.from id) _ is)) graph.edges

  entering-labels : AllByRecursion (HasLabel label) (entering graph (label ∷ []) id)
  entering-labels = filtered (enters_by (label ∷ []) id) (HasLabel label) (λ edge is. named-label label edge (and-second (nat_eq edge.to id) _ is)) graph.edges

  edges_at-labels : (direction : Direction) → AllByRecursion (HasLabel label) (edges_at graph direction (label ∷ []) id)
  edges_at-labels directions.Outgoing = leaving-labels
  edges_at-labels directions.Incoming = entering-labels
  edges_at-labels directions.Both = all-append (HasLabel label) (leaving graph (label ∷ []) id) (entering graph (label ∷ []) id) leaving-labels entering-labels

items-rows : (records : Records) (label : List ℕ) (rows : List EdgeRow) (edges : List Edge) → AreRowsOf records rows edges
    → AllByRecursion (HasLabel label) edges → items_of label rows ≡ map edge_item edges
items-rows records label [] [] are named = refl
items-rows records label [] (edge ∷ edges) are named = absurd are
items-rows records label (row ∷ rows) [] are named = absurd are
items-rows records label (row ∷ rows) (edge ∷ edges) are named = λ i. same i ∷ items-rows records label rows edges are.1 named.1 i
  where
    same : item_of label row ≡ edge_item edge
    same = λ i. items.Edge (are.0.id i) (sym named.0 i) (are.0.from i) (are.0.to i)

-- the rows of a type's number are the edges of its text
pub items-expansion : (records : Records) (shape : Shape) (names : List (List ℕ)) → IsNamedStore records shape names → (number : ℕ) (label : List ℕ)
    → StandFor records (number ∷ []) (label ∷ []) → (direction : Direction) (id : ℕ) (rows : List EdgeRow)
    → rows ≡ rows_at direction (number ∷ []) id (rows_of records) → items_of label rows ≡ expansion (graph_of records) id direction label
items-expansion records shape names store number label stand direction id rows is =
    ap (items_of label) is
    ∙ items-rows records label (rows_at direction (number ∷ []) id (rows_of records)) (edges_at (graph_of records) direction (label ∷ []) id)
    (rows_at_are records shape store.store (number ∷ []) (label ∷ []) stand id direction) (edges_at-labels (graph_of records) label id direction)

-- and there are as many rows as edges, of a type or of all
pub rows-degree : (records : Records) (shape : Shape) → IsWellFormed records shape → (numbers : List ℕ) (label : Option (List ℕ))
    → StandFor records numbers (types_of label) → (direction : Direction) (id : ℕ)
    → length (rows_at direction numbers id (rows_of records)) ≡ degree_at (graph_of records) id direction label
rows-degree records shape store numbers label stand direction id =
    sym (AllZip-long (IsRowOf records) (rows_at direction numbers id (rows_of records)) (edges_at (graph_of records) direction (types_of label) id)
    (rows_at_are records shape store numbers (types_of label) stand id direction))

-- what holds of a result's value
pub ok-then : {T E : Type 0} {P Q : T → Type 0} (result : Result T E) → ((value : T) → P value → Q value) → IfOk result P → IfOk result Q
ok-then (Ok value) more holds = more value holds
ok-then (Err fault) more holds = tt

-- the number of a type that is no name of the store is no name's
pub unknown_numbers_in : (s : Records) (number : Option ℕ) (label : Option (List ℕ)) → is_some number ≡ is_some label
    → StandFor s (option_list number) (types_of label) → are_unknown s (types_of label) ≡ true → are_no_names s (option_list number) ≡ true
unknown_numbers_in s None None given stand unknown = cc
unknown_numbers_in s None (Some text) given stand unknown = cc
unknown_numbers_in s (Some number) None given stand unknown = cc
unknown_numbers_in s (Some number) (Some text) given stand unknown = unknown_numbers s number [] (text ∷ []) stand unknown
