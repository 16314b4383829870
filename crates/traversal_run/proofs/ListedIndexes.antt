-- The indexes of the graph of a store are those that its definitions list.
use Rattle.std.proofs.Common.{◌≡◌, ◌<◌, ◌⊎◌, ◌∙◌, ℕ, zero, suc, nat_eq, nat_lt, Bool, true, false, ◌||◌, ◌&&◌}
use Rattle.std.proofs.Common.{if◌then◌else◌, Option, None, Some, List, [], ◌∷◌, length, true≢false, inl, inr, refl, sym}
use Rattle.std.proofs.Common.{ap, subst, ⊎_elim, arith}
use Rattle.std.specs.List.{flat_map, list_any}
use borrow.Author.Tests.{eqb-true}
use Rattle.std.proofs.lemmas.List.Folds.{list_any-append}
use Rattle.plain_graph.specs.Graph.{Index}
use Rattle.plain_graph.specs.Indexes.{has_index, is_of}
use Rattle.plain_graph.specs.Values.{is_text}
use Rattle.rec_bytes.specs.Format as format
use Rattle.rec_bytes.specs.declared.record.Rec.{Rec}
use Rattle.rec_bytes.specs.declared.shape.Shape.{Shape}
use Rattle.store_rules.specs.Chains.{In}
use Rattle.store_rules.specs.Graph.{graph_of, index_from, is_definition_of}
use Rattle.store_rules.specs.Indexes.{IsIndexed, IsOfIndex, indexed_key, indexed_label}
use Rattle.store_rules.specs.Indexes.IsOfIndex.{IsDefinition, IsEntry, IsHeads}
use Rattle.store_rules.specs.Rows.{collect, ids, option_list}
use Rattle.store_rules.specs.Views.{Records, high, kind_at, rec_at, text_of}
use Rattle.store_rules.proofs.Counts.{ids_in, in_ids}
use Rattle.store_rules.proofs.NumberLaws.{and_parts, eq_true, lt_true}
use Rattle.store_rules.proofs.ViewLaws.{kind_below, live_true}
use Rattle.prop_index.specs.Finding.{IsPair}
use Rattle.traversal_run.proofs.NamesKnown.{is_text-itself}

-- ---- what some element of rows passes

or_either : (a b : Bool) → (a || b) ≡ true → (a ≡ true) ⊎ (b ≡ true)
or_either true b is = inl refl
or_either false b is = inr is

or_first : (a b : Bool) → a ≡ true → (a || b) ≡ true
or_first true b is = refl
or_first false b is = absurd (true≢false (sym is))

or_second : (a b : Bool) → b ≡ true → (a || b) ≡ true
or_second true b is = refl
or_second false b is = is

module _ {E : Type 0} (test : E → Bool) where
  any_row : (row : Option E) (e : E) → row ≡ Some e → test e ≡ true → list_any test (option_list row) ≡ true
  any_row row e is passes = subst (λ (o : Option E). list_any test (option_list o) ≡ true) (sym is) (or_first (test e) false passes)

  any_collect : (row : ℕ → Option E) (n x : ℕ) (e : E) → x < n → row x ≡ Some e → test e ≡ true → list_any test (collect row n) ≡ true
  any_collect row zero x e lt is passes = absurd (omega (arith, lt))
  any_collect row (suc n) x e lt is passes =
      list_any-append test (collect row n) (option_list (row n))
      ∙ ⊎_elim
      (λ (low : x < n). or_first (list_any test (collect row n)) (list_any test (option_list (row n))) (any_collect row n x e low is passes))
      (λ (same : x ≡ n). or_second (list_any test (collect row n)) (list_any test (option_list (row n))) (any_row (row n) e (ap row (sym same) ∙ is) passes))
      (up_to x n lt)
    where
      up_to : (x n : ℕ) → x < suc n → (x < n) ⊎ (x ≡ n)
      up_to x n low = grind arith

  -- a row below the mark that passes
  record HasRow (row : ℕ → Option E) (n : ℕ) : Type 0 where
    place : ℕ
    low : place < n
    found : E
    is : row place ≡ Some found
    passes : test found ≡ true

  row_any : (row : Option E) → list_any test (option_list row) ≡ true → (e : E) × (row ≡ Some e) × (test e ≡ true)
  row_any None is = absurd (true≢false (sym is))
  row_any (Some e) is = (
    e,
    refl,
    ⊎_elim (λ (here : test e ≡ true). here) (λ (none : false ≡ true). absurd (true≢false (sym none)))
        (or_either (test e) false is),
  )

  collect_any : (row : ℕ → Option E) (n : ℕ) → list_any test (collect row n) ≡ true → HasRow row n
  collect_any row zero is = absurd (true≢false (sym is))
  collect_any row (suc n) is = ⊎_elim
      (λ (before : list_any test (collect row n) ≡ true).
      let has = collect_any row n before in
      let low = has.low in
      record { place = has.place; low = omega (arith, low); found = has.found; is = has.is; passes = has.passes })
      (λ (last : list_any test (option_list (row n)) ≡ true).
      let has = row_any (row n) last in
      record { place = n; low = omega arith; found = has.0; is = has.1; passes = has.2 })
      (or_either (list_any test (collect row n)) (list_any test (option_list (row n))) (sym (list_any-append test (collect row n) (option_list (row n))) ∙ is))

  any_flat : (rows : ℕ → List E) (xs : List ℕ) (x : ℕ) → In x xs → list_any test (rows x) ≡ true → list_any test (flat_map rows xs) ≡ true
  any_flat rows [] x i is = elim i [ ]
  any_flat rows (y ∷ ys) x (inl same) is =
      list_any-append test (rows y) (flat_map rows ys)
      ∙ or_first (list_any test (rows y)) (list_any test (flat_map rows ys)) (ap (λ (z : ℕ). list_any test (rows z)) (sym same) ∙ is)
  any_flat rows (y ∷ ys) x (inr i) is =
      list_any-append test (rows y) (flat_map rows ys) ∙ or_second (list_any test (rows y)) (list_any test (flat_map rows ys)) (any_flat rows ys x i is)

  flat_any : (rows : ℕ → List E) (xs : List ℕ) → list_any test (flat_map rows xs) ≡ true → (x : ℕ) × In x xs × (list_any test (rows x) ≡ true)
  flat_any rows [] is = absurd (true≢false (sym is))
  flat_any rows (y ∷ ys) is = ⊎_elim
      (λ (here : list_any test (rows y) ≡ true). (y, inl refl, here))
      (λ (later : list_any test (flat_map rows ys) ≡ true). let has = flat_any rows ys later in (has.0, inr has.1, has.2))
      (or_either (list_any test (rows y)) (list_any test (flat_map rows ys)) (sym (list_any-append test (rows y) (flat_map rows ys)) ∙ is))

-- a list with a member has some, and one with some has a member
has_some : (xs : List ℕ) (x : ℕ) → In x xs → nat_lt 0 (length xs) ≡ true
has_some [] x i = elim i [ ]
has_some (y ∷ ys) x i = lt_true 0 (length (y ∷ ys)) (omega arith)

some_has : (xs : List ℕ) → nat_lt 0 (length xs) ≡ true → (x : ℕ) × In x xs
some_has [] some = absurd (true≢false (sym some))
some_has (y ∷ ys) some = (y, inl refl)

-- ---- the indexes of a store

module _ (s : Records) (shape : Shape) (store : IsIndexed s shape) where
  abbrev kinds : ℕ → ℕ
  kinds = kind_at s format.index_file

  abbrev records : ℕ → Rec
  records = rec_at s format.index_file

  abbrev mark : ℕ
  mark = high s format.index_file

  abbrev count : ℕ
  count = high s format.names_file

  abbrev name : ℕ → List ℕ
  name n = text_of (rec_at s format.names_file n)

  abbrev from : ℕ → ℕ → Option Index
  from = index_from kinds records mark (rec_at s format.names_file)

  abbrev of_pair : ℕ → ℕ → Index
  of_pair label key = record { label = name label; key = name key }

  -- a definition of names is that of an index
  pub has_defined : (label key d : ℕ) → label < count → key < count → In d store.indexes.definitions → IsPair s label key d
      → has_index (graph_of s) (name label) (name key) ≡ true
  has_defined label key d label_low key_low i pair =
      let used : kinds d ≡ format.definition = store.indexes.defined d i in
      let low : d < mark = kind_below mark (records d) d (λ e. omega (arith, used, e)) in
      let is : is_definition_of kinds records label key d ≡ true
      = ap (λ (b : Bool). b && (nat_eq (indexed_label s d) label && nat_eq (indexed_key s d) key)) (eq_true (kinds d) format.definition used)
      ∙ ap (λ (b : Bool). b && nat_eq (indexed_key s d) key) (eq_true (indexed_label s d) label pair.0) ∙ eq_true (indexed_key s d) key pair.1 in
      let some : nat_lt 0 (length (ids (is_definition_of kinds records label key) mark)) ≡ true =
      has_some (ids (is_definition_of kinds records label key) mark) d (in_ids (is_definition_of kinds records label key) mark d low is) in
      let here : from label key ≡ Some (of_pair label key) = ap (λ (b : Bool). if b then Some (of_pair label key) else None) some in
      any_flat (is_of (name label) (name key)) (λ l. collect (from l) count) (ids (λ l. true) count) label (in_ids (λ l. true) count label label_low refl)
      (any_collect (is_of (name label) (name key)) (from label) count key (of_pair label key) key_low here
      (ap (λ (b : Bool). b && is_text (name key) (name key)) (is_text-itself (name label)) ∙ is_text-itself (name key)))

  -- a definition of names with these texts
  pub record HasListed (label key : List ℕ) : Type 0 where
    pub definition : ℕ
    pub listed : In definition store.indexes.definitions
    pub label_low : indexed_label s definition < count
    pub key_low : indexed_key s definition < count
    pub label_is : is_text (name (indexed_label s definition)) label ≡ true
    pub key_is : is_text (name (indexed_key s definition)) key ≡ true

  of_definition : (d : ℕ) → kinds d ≡ format.definition → IsOfIndex s store.indexes.definitions store.indexes.lists d → In d store.indexes.definitions
  of_definition d used (IsDefinition i) = i
  of_definition d used (IsHeads e c i lt is) =
      let heads : kinds d ≡ format.heads = ap kinds (sym is) ∙ store.indexes.heads e c i lt in absurd (omega (arith, used, heads))
  of_definition d used (IsEntry e b i lt member) =
      let entry : kinds d ≡ format.indexed = (store.indexes.buckets e b i lt).kind d member in absurd (omega (arith, used, entry))

  -- an index that is found is listed
  from_listed : (label key : ℕ) (texts : Index) → label < count → key < count → from label key ≡ Some texts → (l k : List ℕ) → is_of l k texts ≡ true
      → HasListed l k
  from_listed label key texts label_low key_low is l k passes = by (nat_lt 0 (length found)) refl is
    where
      found : List ℕ
      found = ids (is_definition_of kinds records label key) mark

      by : (some : Bool) → nat_lt 0 (length found) ≡ some → (if some then Some (of_pair label key) else None) ≡ Some texts → HasListed l k
      by false e same = absurd cc
      by true e same =
          let member = some_has found e in
          let at = ids_in (is_definition_of kinds records label key) mark member.0 member.1 in
          let parts = and_parts (nat_eq (kinds member.0) format.definition) _ at.1 in
          let pair = and_parts (nat_eq (indexed_label s member.0) label) (nat_eq (indexed_key s member.0) key) parts.1 in
          let used : kinds member.0 ≡ format.definition = eqb-true (kinds member.0) format.definition parts.0 in
          let own_label : indexed_label s member.0 ≡ label = eqb-true (indexed_label s member.0) label pair.0 in
          let own_key : indexed_key s member.0 ≡ key = eqb-true (indexed_key s member.0) key pair.1 in
          let texts_are : of_pair label key ≡ texts = one_some same in
          let both = and_parts (is_text (name label) l) (is_text (name key) k) (ap (is_of l k) texts_are ∙ passes) in
          record {
            definition = member.0;
            listed = of_definition member.0 used (store.indexes.held member.0 (live_true (kinds member.0) (λ e. omega (arith, used, e))));
            label_low = subst (λ (n : ℕ). n < count) (sym own_label) label_low;
            key_low = subst (λ (n : ℕ). n < count) (sym own_key) key_low;
            label_is = ap (λ (n : ℕ). is_text (name n) l) own_label ∙ both.0;
            key_is = ap (λ (n : ℕ). is_text (name n) k) own_key ∙ both.1;
          }
        where
          one_some : {a b : Index} → Some a ≡ Some b → a ≡ b
          one_some e = cc

  pub has_listed : (label key : List ℕ) → has_index (graph_of s) label key ≡ true → HasListed label key
  has_listed label key is =
      let first = flat_any (is_of label key) (λ l. collect (from l) count) (ids (λ l. true) count) is in
      let second = collect_any (is_of label key) (from first.0) count first.2 in
      from_listed first.0 second.place second.found (ids_in (λ l. true) count first.0 first.1).0 second.low second.is label key second.passes

  -- where none is listed there is no index
  pub none_listed : (label key : List ℕ) → ¬ HasListed label key → has_index (graph_of s) label key ≡ false
  none_listed label key none = by (has_index (graph_of s) label key) refl
    where
      by : (b : Bool) → has_index (graph_of s) label key ≡ b → has_index (graph_of s) label key ≡ false
      by true is = absurd (none (has_listed label key is))
      by false is = is
