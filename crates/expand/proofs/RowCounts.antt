-- How many rows of relationships pass a test.
use Rattle.std.proofs.Common.{◌≡◌, ◌≤◌, ◌<◌, ◌+◌, ℕ, zero, suc, nat_eq, Bool, true, false, ◌&&◌, cond, Option, None, Some, List, length, refl, sym, ap, arith}
use Rattle.std.specs.List.{filter}
use Rattle.std.proofs.lemmas.Bool.{or_left, or_right}
use Rattle.std.proofs.lemmas.List.{length-append}
use Rattle.std.proofs.lemmas.List.Kept.{AllPairs-filter}
use Rattle.plain_graph.specs.declared.direction.Direction.{Direction}
use Rattle.plain_graph.specs.declared.direction.Direction.TheVariants as directions
use Rattle.rec_bytes.specs.Format as format
use Rattle.store_rules.specs.Rows.{ids, option_list}
use Rattle.store_rules.specs.Rules.{count_of, passes}
use Rattle.store_rules.specs.Views.{Records, RelRow, high, kind_at, rec_at, rel_at, rel_in}
use Rattle.store_rules.proofs.CountLaws.{one_if}
use Rattle.store_rules.proofs.Counts.{ids_none, length-filter, length-ids, row_passes}
use Rattle.rel_store.specs.declared.edge_row.EdgeRow.{EdgeRow}
use Rattle.chain_edit.specs.Walking.{edge_at}
use Rattle.expand.specs.declared.matching.End.{End}
use Rattle.expand.specs.declared.matching.End.TheVariants as ends
use Rattle.expand.specs.Degrees.{rows_count}
use Rattle.expand.specs.Expanding.{edge_row_at, rows_of}
use Rattle.expand.specs.Matching.{IsPart, id_of, is_met, is_met_at, is_wanted, rows_at}
use Rattle.expand.proofs.Ascending.{Differs}
use Rattle.expand.proofs.ChainRows.{length-members, length-part}
use Rattle.store_rules.proofs.Members.{contains_filter, filter_contains}

-- ---- rows that have all that are met

-- as many of them pass as of all
length-same : (wide test : EdgeRow → Bool) (rows edges : List EdgeRow) → IsPart wide rows edges → ((row : EdgeRow) → test row ≡ true → wide row ≡ true)
    → length (filter test rows) ≡ length (filter test edges)
length-same wide test rows edges part narrower =
    let few = length-part test test (filter test rows) edges (record {
      ascends = part.ascends;
      distinct = AllPairs-filter Differs test rows part.distinct;
      only = λ row is. part.only row (contains_filter test rows row is).0;
      all = λ row is passes. filter_contains test rows row (part.all row is (narrower row passes)) passes;
    }) (λ row is. (contains_filter test rows row is).1) in
    let many = length-members (filter test edges) (filter test rows) (AllPairs-filter (λ a b. id_of a < id_of b) test edges part.ascends)
    (λ row is. let k = contains_filter test edges row is in filter_contains test rows row (part.all row k.0 (narrower row k.1)) k.1) in
    omega (arith, few, many)

pub part_count : (direction : Direction) (labels : List ℕ) (n : ℕ) (rows edges : List EdgeRow) → IsPart (is_met direction labels n) rows edges
    → rows_count direction labels n rows ≡ rows_count direction labels n edges
part_count directions.Outgoing labels n rows edges part = length-same (is_met directions.Outgoing labels n) (is_met_at ends.Source labels n) rows edges part
    (λ row is. is)
part_count directions.Incoming labels n rows edges part = length-same (is_met directions.Incoming labels n) (is_met_at ends.Target labels n) rows edges part
    (λ row is. is)
part_count directions.Both labels n rows edges part =
    let a = length-same (is_met directions.Both labels n) (is_met_at ends.Source labels n) rows edges part (λ row is. or_left _ _ is) in
    let b = length-same (is_met directions.Both labels n) (is_met_at ends.Target labels n) rows edges part (λ row is. or_right _ _ is) in
    λ i. a i + b i

-- the number is that of the list
pub count_rows_at : (direction : Direction) (labels : List ℕ) (n : ℕ) (rows : List EdgeRow)
    → rows_count direction labels n rows ≡ length (rows_at direction labels n rows)
count_rows_at directions.Outgoing labels n rows = refl
count_rows_at directions.Incoming labels n rows = refl
count_rows_at directions.Both labels n rows = sym (length-append (filter (is_met_at ends.Source labels n) rows) (filter (is_met_at ends.Target labels n) rows))

-- ---- relationships of a store

-- a relationship has the node at an end, and is of these types
abbrev pub end_in : End → RelRow → ℕ
end_in ends.Source row = row.from
end_in ends.Target row = row.to

abbrev pub meets : End → List ℕ → ℕ → RelRow → Bool
meets end labels n row = nat_eq (end_in end row) n && is_wanted labels row.label

pub met_count : (s : Records) (end : End) (labels : List ℕ) (n : ℕ) → length (filter (is_met_at end labels n) (rows_of s)) ≡ count_of (meets end labels n)
    (rel_at s) (high s format.relationships_file)
met_count s end labels n = length-filter EdgeRow (edge_row_at s) (is_met_at end labels n) (λ x. passes (meets end labels n) (rel_at s x))
    (high s format.relationships_file) (λ x. by end x (nat_eq (kind_at s format.relationships_file x) 0))
  where
    by : (end : End) (x : ℕ) (b : Bool) → row_passes (is_met_at end labels n) (cond b None (Some (edge_at s x))) ≡ passes (meets end labels n)
        (cond b None (Some (rel_in (rec_at s format.relationships_file x) x)))
    by end x true = refl
    by ends.Source x false = refl
    by ends.Target x false = refl

-- so it is small
pub count_small : (s : Records) (direction : Direction) (labels : List ℕ) (n : ℕ)
    → rows_count direction labels n (rows_of s) ≤ high s format.relationships_file + high s format.relationships_file
count_small s directions.Outgoing labels n = let e = met_count s ends.Source labels n in let le =
    length-ids (λ x. passes (meets ends.Source labels n) (rel_at s x)) (high s format.relationships_file) in omega (arith, e, le)
count_small s directions.Incoming labels n = let e = met_count s ends.Target labels n in let le =
    length-ids (λ x. passes (meets ends.Target labels n) (rel_at s x)) (high s format.relationships_file) in omega (arith, e, le)
count_small s directions.Both labels n =
    let e = met_count s ends.Source labels n in let le = length-ids (λ x. passes (meets ends.Source labels n) (rel_at s x))
    (high s format.relationships_file) in
    let f = met_count s ends.Target labels n in let lf = length-ids (λ x. passes (meets ends.Target labels n) (rel_at s x))
    (high s format.relationships_file) in omega (arith, e, le, f, lf)

-- ---- tests

last : (b : Bool) (m : ℕ) → length (option_list (cond b (Some m) None)) ≡ one_if b
last true m = refl
last false m = refl

-- a test that is one of two others, where no row passes both
pub count_split : (p q r : RelRow → Bool) (rels : ℕ → Option RelRow) (mark : ℕ)
    → ((x : ℕ) (row : RelRow) → rels x ≡ Some row → one_if (p row) ≡ one_if (q row) + one_if (r row))
    → count_of p rels mark ≡ count_of q rels mark + count_of r rels mark
count_split p q r rels zero h = refl
count_split p q r rels (suc m) h =
    let before = count_split p q r rels m h in
    let one = here (rels m) refl in
    let a = length-append (ids (λ x. passes p (rels x)) m) (option_list (cond (passes p (rels m)) (Some m) None)) in
    let b = length-append (ids (λ x. passes q (rels x)) m) (option_list (cond (passes q (rels m)) (Some m) None)) in
    let c = length-append (ids (λ x. passes r (rels x)) m) (option_list (cond (passes r (rels m)) (Some m) None)) in
    let d = last (passes p (rels m)) m in
    let e = last (passes q (rels m)) m in
    let f = last (passes r (rels m)) m in
    omega (arith, before, one, a, b, c, d, e, f)
  where
    here : (o : Option RelRow) → rels m ≡ o → one_if (passes p o) ≡ one_if (passes q o) + one_if (passes r o)
    here None is = refl
    here (Some row) is = h m row is

-- tests that agree
pub count_same : (p q : RelRow → Bool) (rels : ℕ → Option RelRow) (mark : ℕ) → ((x : ℕ) (row : RelRow) → rels x ≡ Some row → p row ≡ q row)
    → count_of p rels mark ≡ count_of q rels mark
count_same p q rels mark h = λ i. length (ids (λ x. here x (rels x) refl i) mark)
  where
    here : (x : ℕ) (o : Option RelRow) → rels x ≡ o → passes p o ≡ passes q o
    here x None is = refl
    here x (Some row) is = h x row is

-- a test that none passes
pub count_none : (p : RelRow → Bool) (rels : ℕ → Option RelRow) (mark : ℕ) → ((row : RelRow) → p row ≡ false) → count_of p rels mark ≡ 0
count_none p rels mark h = ap length (ids_none (λ x. passes p (rels x)) mark (λ x. here (rels x)))
  where
    here : (o : Option RelRow) → passes p o ≡ false
    here None = refl
    here (Some row) = h row
