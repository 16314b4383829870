-- No edge has a type whose number is no name's.
use Rattle.std.proofs.Common.{◌≡◌, ◌<◌, ◌+◌, ℕ, Bool, true, false, not, ◌&&◌, ◌||◌, cond, nat_eq, nat_lt, List, [], ◌∷◌, ◌++◌, length, map, refl, sym}
use Rattle.std.proofs.Common.{ap, ◌∙◌, arith}
use Rattle.std.proofs.lemmas.Bool.{ltb-false, ltb-true, true≢false}
use Rattle.std.specs.List.{filter, list_any}
use Rattle.std.proofs.lemmas.Cmp.{nat_eq_equiv}
use Rattle.std.proofs.lemmas.List.Folds.{list_any_at}
use Rattle.plain_graph.specs.Graph.{Edge, degree_in}
use Rattle.plain_graph.specs.Meaning.{is_named}
use Rattle.plain_graph.specs.declared.direction.Direction.{Direction}
use Rattle.plain_graph.specs.declared.direction.Direction.TheVariants as directions
use Rattle.rec_bytes.specs.Format as format
use Rattle.rec_bytes.specs.Format.{names_file}
use Rattle.rec_bytes.specs.Space.{State}
use Rattle.rec_bytes.specs.declared.shape.Shape.{Shape}
use Rattle.rel_store.specs.declared.edge_row.EdgeRow.{EdgeRow}
use Rattle.store_rules.specs.Graph.{graph_in, graph_of, names_of}
use Rattle.store_rules.proofs.NameRows.{length-rows, row_at}
use Rattle.store_rules.proofs.NumberLaws.{eq_false}
use Rattle.store_rules.specs.Rules.{IsWellFormed}
use Rattle.store_rules.specs.Views.{Records, high, kind_at}
use Rattle.chain_edit.specs.Walking.{ReadsAtMost}
use Rattle.expand.specs.Costs.{are_no_names, are_unknown, dense_reads, is_below, met_count, most_reads, type_count}
use Rattle.expand.specs.Degrees.{rows_count}
use Rattle.expand.specs.Expanding.{AreRowsOf, name_of, rows_of}
use Rattle.expand.specs.Matching.{end_of, is_met_at, is_wanted, rows_at}
use Rattle.expand.specs.declared.matching.End.{End}
use Rattle.expand.specs.declared.matching.End.TheVariants as ends
use Rattle.expand.proofs.ModelEdges.{StandFor, rows_are}
use Rattle.expand.proofs.RowCounts.{count_rows_at}

-- of numbers that are none below a mark, none is one below it
none_same : (mark label : ℕ) (labels : List ℕ) → list_any (is_below mark) labels ≡ false → label < mark → list_any (nat_eq label) labels ≡ false
none_same mark label [] none low = refl
none_same mark label (first ∷ labels) none low = by (none_same mark label labels) (nat_lt first mark) refl none
  where
    by : (list_any (is_below mark) labels ≡ false → label < mark → list_any (nat_eq label) labels ≡ false) → (b : Bool) → nat_lt first mark ≡ b
        → b || list_any (is_below mark) labels ≡ false → nat_eq label first || list_any (nat_eq label) labels ≡ false
    by rest true is absent = cc
    by rest false is absent =
        let under = ltb-false first mark is in
        let apart : nat_eq label first ≡ false = eq_false label first (λ same. absurd (omega (arith, under, low, same))) in
        ap (λ b. b || list_any (nat_eq label) labels) apart ∙ rest absent low

not_true : (b : Bool) → not b ≡ true → b ≡ false
not_true true is = cc
not_true false is = refl

module _ (s : Records) (labels : List ℕ) (unknown : are_no_names s labels ≡ true) where
  -- a name's number is none of them
  not_wanted : (label : ℕ) → label < high s names_file → is_wanted labels label ≡ false
  not_wanted = by labels unknown
    where
      by : (labels : List ℕ) → are_no_names s labels ≡ true → (label : ℕ) → label < high s names_file → is_wanted labels label ≡ false
      by [] unknown label low = cc
      by (first ∷ labels) unknown label low = none_same (high s names_file) label (first ∷ labels) (not_true _ unknown) low

  -- so no row is met
  none_met : (end : End) (n : ℕ) (rows : List EdgeRow) (edges : List Edge) → AreRowsOf s rows edges → filter (is_met_at end labels n) rows ≡ []
  none_met end n [] [] all = refl
  none_met end n [] (edge ∷ edges) all = absurd all
  none_met end n (row ∷ rows) [] all = absurd all
  none_met end n (row ∷ rows) (edge ∷ edges) all =
      ap (λ b. cond b (row ∷ filter (is_met_at end labels n) rows) (filter (is_met_at end labels n) rows))
      (ap (λ b. nat_eq (end_of end row) n && b) (not_wanted row.label all.0.known) ∙ and_false (nat_eq (end_of end row) n))
      ∙ none_met end n rows edges all.1
    where
      and_false : (b : Bool) → b && false ≡ false
      and_false true = refl
      and_false false = refl

  pub no_rows : (shape : Shape) → IsWellFormed s shape → (direction : Direction) (n : ℕ) → rows_at direction labels n (rows_of s) ≡ []
  no_rows shape store directions.Outgoing n = none_met ends.Source n (rows_of s) (graph_of s).edges (rows_are s shape store)
  no_rows shape store directions.Incoming n = none_met ends.Target n (rows_of s) (graph_of s).edges (rows_are s shape store)
  no_rows shape store directions.Both n = λ i. none_met ends.Source n (rows_of s) (graph_of s).edges (rows_are s shape store) i
      ++ none_met ends.Target n (rows_of s) (graph_of s).edges (rows_are s shape store) i

  pub no_count : (shape : Shape) → IsWellFormed s shape → (direction : Direction) (n : ℕ) → 0 ≡ rows_count direction labels n (rows_of s)
  no_count shape store direction n = sym (count_rows_at direction labels n (rows_of s) ∙ ap length (no_rows shape store direction n))

-- one read is no more than those of a node's edges
pub one_more : (more : ℕ) (s t : State) → ReadsAtMost 1 s t → ReadsAtMost (more + 1) s t
one_more more s t read = record { count = read.count; within = let le = read.within in omega arith; is = read.is }

pub one_first : (more : ℕ) (s t : State) → ReadsAtMost 1 s t → ReadsAtMost (1 + more) s t
one_first more s t read = record { count = read.count; within = let le = read.within in omega arith; is = read.is }

pub one_dense : (s t : State) (direction : Direction) (labels : List ℕ) (n : ℕ) → ReadsAtMost 1 s t → ReadsAtMost (dense_reads s direction labels n) s t
one_dense s t direction labels n read = one_more (type_count (graph_in s) n + met_count (graph_in s) direction (map (name_of s.records) labels) n) s t read

pub one_most : (s t : State) (direction : Direction) (labels : List ℕ) (n : ℕ) → ReadsAtMost 1 s t → ReadsAtMost (most_reads s direction labels n) s t
one_most s t direction labels n read = by (nat_eq (kind_at s.records format.nodes_file n) format.dense)
  where
    by : (is : Bool) → ReadsAtMost (cond is (dense_reads s direction labels n) (degree_in (graph_in s) n + 1)) s t
    by true = one_dense s t direction labels n read
    by false = one_more (degree_in (graph_in s) n) s t read

-- ---- by their texts

-- a text that is the name of a number is among the names of the store
pub name_known : (s : Records) (texts : List (List ℕ)) (number : ℕ) → number < high s names_file → is_named texts (name_of s number) ≡ true
    → list_any (is_named texts) (names_of s) ≡ true
name_known s texts number low named =
    let at = row_at (λ x. name_of s x) (high s names_file) number (name_of s number) low in
    let long = length-rows (λ x. name_of s x) (high s names_file) in
    list_any_at (is_named texts) (names_of s) number (name_of s number) (omega arith) (ap (is_named texts) at ∙ named)

-- where no number below a mark is one of them, none of them is below it
none_below : (mark : ℕ) (labels : List ℕ) → ((x : ℕ) → x < mark → list_any (nat_eq x) labels ≡ false) → list_any (is_below mark) labels ≡ false
none_below mark [] none = refl
none_below mark (label ∷ labels) none = by (none_below mark labels) (nat_lt label mark) refl
  where
    second : (a b : Bool) → a || b ≡ false → b ≡ false
    second true b is = cc
    second false b is = is

    by : (((x : ℕ) → x < mark → list_any (nat_eq x) labels ≡ false) → list_any (is_below mark) labels ≡ false) → (b : Bool) → nat_lt label mark ≡ b
        → b || list_any (is_below mark) labels ≡ false
    by rest true is =
        let low = ltb-true label mark is in
        let same = nat_eq_equiv.refl label in
        absurd (true≢false (sym (ap (λ b. b || list_any (nat_eq label) labels) same) ∙ none label low))
    by rest false is = rest (λ x low. second (nat_eq x label) (list_any (nat_eq x) labels) (none x low))

-- numbers that stand for texts of which none is a name are no names' either
pub unknown_numbers : (s : Records) (number : ℕ) (numbers : List ℕ) (texts : List (List ℕ)) → StandFor s (number ∷ numbers) texts
    → are_unknown s texts ≡ true → are_no_names s (number ∷ numbers) ≡ true
unknown_numbers s number numbers [] stand unknown = cc
unknown_numbers s number numbers (text ∷ texts) stand unknown =
    ap not (none_below (high s names_file) (number ∷ numbers) (λ x low. stand x low ∙ apart x low))
  where
    apart : (x : ℕ) → x < high s names_file → is_named (text ∷ texts) (name_of s x) ≡ false
    apart x low = by (is_named (text ∷ texts) (name_of s x)) refl
      where
        by : (b : Bool) → is_named (text ∷ texts) (name_of s x) ≡ b → b ≡ false
        by true is = absurd (true≢false (sym (name_known s (text ∷ texts) x low is) ∙ not_true _ unknown))
        by false is = refl
