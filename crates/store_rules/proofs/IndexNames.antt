-- The indexes stay where a name comes.
use Rattle.std.proofs.Common.{◌≡◌, ◌⊎◌, ℕ, zero, suc, ◌<◌, ◌≤◌, Bool, true, false, nat_eq, nat_lt, if◌then◌else◌}
use Rattle.std.proofs.Common.{Option, None, Some, List, [], ◌∷◌, ◌++◌, length, sym, ap, ◌∙◌, subst, inl, inr, ⊎_elim}
use Rattle.std.proofs.Common.{arith, refl}
use Rattle.std.specs.List.{flat_map}
use Rattle.std.proofs.lemmas.Bool.{eqb-true}
use Rattle.std.proofs.lemmas.Grind.{flat_map-append}
use Rattle.plain_graph.specs.Graph.{Index}
use Rattle.rec_bytes.specs.declared.record.Rec.{Rec}
use Rattle.rec_bytes.specs.declared.shape.Shape.{Shape}
use Rattle.rec_bytes.specs.Format as format
use Rattle.rec_bytes.specs.Meta as metas
use Rattle.rec_bytes.specs.Record.{field}
use Rattle.store_rules.specs.Graph.{index_from, indexes_from, indexes_of, is_definition_of}
use Rattle.store_rules.specs.Indexes.{AreIndexed, wanted_in}
use Rattle.store_rules.specs.Rows.{collect, ids, option_list}
use Rattle.store_rules.specs.RuleList.{IsSameFile}
use Rattle.store_rules.specs.Views.{Records, high, kind_at, kind_in, rec_at, text_of}
use Rattle.store_rules.proofs.Changes as ch
use Rattle.store_rules.proofs.Counts.{ids_none}
use Rattle.store_rules.proofs.DefinedStays.{Defines}
use Rattle.store_rules.proofs.IndexKept.{changed_index, changed_indexed}
use Rattle.store_rules.proofs.NameMade.{IsNamed, node_rows, other_name}
use Rattle.store_rules.proofs.NumberLaws.{and_parts}
use Rattle.store_rules.proofs.RowLaws.{append_none}

-- ---- a table with one number more on each side, where the new ones have none

module _ {E : Type 0} (old now : ℕ → ℕ → Option E) (n : ℕ) (same : (a b : ℕ) → a < n → b < n → now a b ≡ old a b) (last_a : (b : ℕ) → now n b ≡ None)
    (last_b : (a : ℕ) → now a n ≡ None) where
  row_same : (a : ℕ) → a < n → (m : ℕ) → m ≤ n → collect (now a) m ≡ collect (old a) m
  row_same a lt zero le = refl
  row_same a lt (suc m) le = ap (λ xs. xs ++ option_list (now a m)) (row_same a lt m (omega arith))
      ∙ ap (λ o. collect (old a) m ++ option_list o) (same a m lt (omega arith))

  row_grows : (a : ℕ) → a < n → collect (now a) (suc n) ≡ collect (old a) n
  row_grows a lt = ap (λ o. collect (now a) n ++ option_list o) (last_b a) ∙ append_none (collect (now a) n) ∙ row_same a lt n (omega arith)

  row_empty : (m : ℕ) → collect (now n) m ≡ []
  row_empty zero = refl
  row_empty (suc m) = ap (λ xs. xs ++ option_list (now n m)) (row_empty m) ∙ ap option_list (last_a m)

  abbrev every : ℕ → List ℕ
  every m = ids (λ a. true) m

  rows_same : (m : ℕ) → m ≤ n → flat_map (λ a. collect (now a) (suc n)) (every m) ≡ flat_map (λ a. collect (old a) n) (every m)
  rows_same zero le = refl
  rows_same (suc m) le =
      flat_map-append (λ a. collect (now a) (suc n)) (every m) (m ∷ [])
      ∙ ap (λ xs. xs ++ (collect (now m) (suc n) ++ [])) (rows_same m (omega arith))
      ∙ ap (λ xs. flat_map (λ a. collect (old a) n) (every m) ++ (xs ++ [])) (row_grows m (omega arith))
      ∙ sym (flat_map-append (λ a. collect (old a) n) (every m) (m ∷ []))

  pub table_grows : flat_map (λ a. collect (now a) (suc n)) (every (suc n)) ≡ flat_map (λ a. collect (old a) n) (every n)
  table_grows =
      flat_map-append (λ a. collect (now a) (suc n)) (every n) (n ∷ [])
      ∙ ap (λ xs. xs ++ (collect (now n) (suc n) ++ [])) (rows_same n (omega arith))
      ∙ ap (λ xs. flat_map (λ a. collect (old a) n) (every n) ++ (xs ++ [])) (row_empty (suc n))
      ∙ append_none (flat_map (λ a. collect (old a) n) (every n))

false_if : (b : Bool) → (b ≡ true → ⊥) → b ≡ false
false_if true not = absurd (not refl)
false_if false not = refl

-- ---- the indexes of a store

module _ (s : Records) (defined : Defines s) where
  abbrev defines : ℕ → ℕ → ℕ → Bool
  defines = is_definition_of (kind_at s format.index_file) (rec_at s format.index_file)

  -- the label and the key of a definition are names
  named : (label key d : ℕ) → defines label key d ≡ true → (label < high s format.names_file) × (key < high s format.names_file)
  named label key d is =
      let rec = rec_at s format.index_file d in
      let parts = and_parts (nat_eq (kind_at s format.index_file d) format.definition) _ is in
      let pair = and_parts (nat_eq (field 4 rec format.definition_label) label) _ parts.1 in
      let kind = eqb-true (kind_at s format.index_file d) format.definition parts.0 in (
        subst (λ n. n < high s format.names_file) (eqb-true (field 4 rec format.definition_label) label pair.0) (defined.labels d kind),
        subst (λ n. n < high s format.names_file) (eqb-true (field 4 rec format.definition_key) key pair.1) (defined.keys d kind),
      )

  -- what is no name has no index
  pub none_past : (names : ℕ → Rec) (label key : ℕ) → (high s format.names_file ≤ label) ⊎ (high s format.names_file ≤ key)
      → index_from (kind_at s format.index_file) (rec_at s format.index_file) (high s format.index_file) names label key ≡ None
  none_past names label key past =
      ap (λ (found : List ℕ). if nat_lt 0 (length found) then Some (record { label = text_of (names label); key = text_of (names key) }) else None)
      (ids_none (defines label key) (high s format.index_file) (λ d. false_if (defines label key d) (λ is. let l = named label key d is in
      ⊎_elim (λ (p : high s format.names_file ≤ label). omega (arith, l.0, p)) (λ (p : high s format.names_file ≤ key). omega (arith, l.1, p)) past)))

-- ---- a name came

module _ (s t : Records) (shape : Shape) (rec : Rec) (text : List ℕ) (made : IsNamed s t shape rec text) where
  -- the file of the index stays
  pub named_index : IsSameFile s t format.index_file
  named_index = changed_index s t format.names_file (high s format.names_file) made.change (λ e. omega arith)

  -- the nodes have what they had
  pub named_indexed : AreIndexed s (wanted_in s) → AreIndexed t (wanted_in t)
  named_indexed ix = changed_indexed s t format.names_file (high s format.names_file) made.change (λ e. omega arith) (node_rows s t shape rec text made)
      (ch.records_stay s t format.names_file (high s format.names_file) made.change (λ e. omega arith) (λ e. omega arith)) ix

  abbrev from : (ℕ → Rec) → ℕ → ℕ → Option Index
  from names = index_from (kind_at s format.index_file) (rec_at s format.index_file) (high s format.index_file) names

  text_same : (x : ℕ) → x < high s format.names_file → text_of (rec_at t format.names_file x) ≡ text_of (rec_at s format.names_file x)
  text_same x lt = ap text_of (other_name s t shape rec text made x lt)

  -- the graph has the indexes that it had
  pub named_indexes : Defines s → indexes_of t ≡ indexes_of s
  named_indexes defined =
      (λ i. indexes_from (λ x. kind_in (mark i) (named_index.records i x) x) (named_index.records i) (mark i) (rec_at t format.names_file) (count i))
      ∙ table_grows (from (rec_at s format.names_file)) (from (rec_at t format.names_file)) (high s format.names_file)
      (λ a b la lb. λ i. if nat_lt 0 (length (ids (is_definition_of (kind_at s format.index_file) (rec_at s format.index_file) a b) (high s format.index_file)))
      then Some (record { label = text_same a la i; key = text_same b lb i }) else None)
      (λ b. none_past s defined (rec_at t format.names_file) (high s format.names_file) b (inl (omega arith)))
      (λ a. none_past s defined (rec_at t format.names_file) a (high s format.names_file) (inr (omega arith)))
    where
      mark : high t format.index_file ≡ high s format.index_file
      mark = ap (λ (r : Rec). (metas.meta_of r).high) named_index.meta

      count : high t format.names_file ≡ suc (high s format.names_file)
      count = let m = made.mark in omega (arith, m)
