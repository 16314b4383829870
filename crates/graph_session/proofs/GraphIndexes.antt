-- The lines of the indexes of a graph, by the definitions of its store.
use Rattle.std.proofs.Common.{◌≡◌, ◌∙◌, ◌+◌, ◌*◌, ◌<◌, ◌≤◌, ℕ, zero, suc, Bool, true, false, ◌||◌, if◌then◌else◌, cond}
use Rattle.std.proofs.Common.{Option, None, Some, List, [], ◌∷◌, ◌++◌, append_assoc, get_or, map, refl, sym, ap, arith}
use Rattle.std.specs.List.{flat_map}
use Rattle.std.proofs.Math.Nat.{suc-mul}
use Rattle.std.proofs.lemmas.Grind.{flat_map-append}
use Rattle.std.proofs.lemmas.List.{append-nil, map-append}
use Rattle.std.proofs.lemmas.Nat.{div-mul-add, mod-mul-add}
use Rattle.std.proofs.lemmas.Option.{get_or_from_slice_get}
use Rattle.plain_graph.specs.Graph.{Index}
use Rattle.plain_graph.specs.Reply.{index_line}
use Rattle.prop_index.specs.Listing.{pair_of}
use Rattle.prop_index.specs.declared.listing.IndexPair.{IndexPair}
use Rattle.rec_bytes.specs.Format as format
use Rattle.rec_bytes.specs.declared.shape.Shape.{Shape}
use Rattle.store_rules.specs.Graph.{index_from, indexes_of}
use Rattle.store_rules.specs.Rows.{collect, ids, if_test, option_list}
use Rattle.store_rules.specs.Views.{Records, high, kind_at, rec_at}
use Rattle.change_parts.proofs.GraphPairs.{defined_among, index_at, is_among, text}
use Rattle.traversal_run.specs.Reading.{IsNamedStore}
use Rattle.traversal_run.proofs.NamesKnown.{names_at}
use Rattle.graph_session.specs.IndexLists.{index_lines, is_taken, place_line}
use Rattle.graph_session.proofs.Places.{pair-at}

-- the line of an index
abbrev pub line_of : Index → List ℕ
line_of index = index_line index.label index.key

module _ (s : Records) (shape : Shape) (names : List (List ℕ)) (store : IsNamedStore s shape names) where
  abbrev count : ℕ
  count = high s format.names_file

  abbrev definitions : List ℕ
  definitions = store.indexes.definitions

  abbrev pairs : List IndexPair
  pairs = map (pair_of s) definitions

  abbrev row : ℕ → ℕ → Option Index
  row = index_from (kind_at s format.index_file) (rec_at s format.index_file) (high s format.index_file) (rec_at s format.names_file)

  abbrev test : ℕ → Bool
  test = is_taken count pairs

  abbrev line : ℕ → List ℕ
  line = place_line names count

  -- a place is taken where a definition has its pair
  taken-among : (l k : ℕ) → l < count → k < count → (ds : List ℕ) → is_taken count (map (pair_of s) ds) (l * count + k) ≡ is_among s ds l k
  taken-among l k l_low k_low [] = refl
  taken-among l k l_low k_low (d ∷ ds) = λ i. pair-at count l k (pair_of s d) l_low k_low i || taken-among l k l_low k_low ds i

  name-at : (x : ℕ) → x < count → get_or names x [] ≡ text s x
  name-at x low = get_or_from_slice_get names x (text s x) [] (names_at s shape names store x low)

  -- the line of a place is that of its index
  line-at : (l k : ℕ) → l < count → k < count → line (l * count + k) ≡ line_of (index_at s l k)
  line-at l k l_low k_low =
      (λ i. index_line (get_or names (div-mul-add l count k k_low i) []) (get_or names (mod-mul-add l count k k_low i) []))
      ∙ (λ i. index_line (name-at l l_low i) (name-at k k_low i))

  one-row : (l k : ℕ) → l < count → k < count → map line_of (option_list (row l k)) ≡ map line (option_list (if_test test (l * count + k)))
  one-row l k l_low k_low =
      ap (λ (b : Bool). map line_of (option_list (if b then Some (index_at s l k) else None)))
      (defined_among s _ store.indexes l k ∙ sym (taken-among l k l_low k_low definitions))
      ∙ by (test (l * count + k))
    where
      by : (b : Bool) → map line_of (option_list (if b then Some (index_at s l k) else None)) ≡ map line (option_list (cond b (Some (l * count + k)) None))
      by true = ap (λ (one : List ℕ). one ∷ []) (sym (line-at l k l_low k_low))
      by false = refl

  -- those of a label, after those before it
  label-rows : (l j : ℕ) → l < count → j ≤ count → map line (ids test (l * count)) ++ map line_of (collect (row l) j) ≡ map line (ids test (l * count + j))
  label-rows l zero l_low le = let same : l * count ≡ l * count + zero = omega arith in append-nil (map line (ids test (l * count)))
      ∙ ap (λ (n : ℕ). map line (ids test n)) same
  label-rows l (suc j) l_low le =
      ap (λ (lines : List (List ℕ)). map line (ids test (l * count)) ++ lines) (map-append line_of (collect (row l) j) (option_list (row l j)))
      ∙ sym (append_assoc (map line (ids test (l * count))) (map line_of (collect (row l) j)) (map line_of (option_list (row l j))))
      ∙ (λ i. label-rows l j l_low (omega (arith, le)) i ++ one-row l j l_low (omega (arith, le)) i)
      ∙ sym (map-append line (ids test (l * count + j)) (option_list (if_test test (l * count + j))))
      ∙ ap (λ (n : ℕ). map line (ids test n)) (next (l * count) j)
    where
      next : (n j : ℕ) → suc (n + j) ≡ n + suc j
      next n j = omega arith

  abbrev rows : ℕ → List Index
  rows m = flat_map (λ l. collect (row l) count) (ids (λ l. true) m)

  all-rows : (m : ℕ) → m ≤ count → map line_of (rows m) ≡ map line (ids test (m * count))
  all-rows zero le = let none : 0 ≡ zero * count = omega arith in ap (λ (n : ℕ). map line (ids test n)) none
  all-rows (suc m) le =
      ap (map line_of) (flat_map-append (λ l. collect (row l) count) (ids (λ l. true) m) (m ∷ []) ∙ ap (λ (more : List Index). rows m ++ more)
      (append-nil (collect (row m) count)))
      ∙ map-append line_of (rows m) (collect (row m) count)
      ∙ ap (λ (lines : List (List ℕ)). lines ++ map line_of (collect (row m) count)) (all-rows m (omega (arith, le)))
      ∙ label-rows m count (omega (arith, le)) (omega arith)
      ∙ ap (λ (n : ℕ). map line (ids test n)) (sym (suc-mul m count))

  -- the indexes of the graph are told in its order
  pub graph-lines : map line_of (indexes_of s) ≡ index_lines names count pairs
  graph-lines = all-rows count (omega arith)
