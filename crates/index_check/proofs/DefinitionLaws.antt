-- The chain of definitions as a line, and definitions of one label and key.
use Rattle.std.proofs.Common.{◌≡◌, ◌≢◌, ℕ, zero, suc, get_or, subst, ◌<◌, ◌≤◌, Bool, true, false, not, ◌&&◌, ◌||◌, cond}
use Rattle.std.proofs.Common.{None, Some, List, [], ◌∷◌, length, map, nat_eq, sym, ap, ◌∙◌, inl, inr, ⊎_elim, arith}
use Rattle.std.proofs.Common.{refl}
use Rattle.std.specs.List.{All, list_any}
use Rattle.std.proofs.lemmas.Bool.{eqb-true, or_cases, true≢false}
use Rattle.std.proofs.lemmas.List.{length-map}
use Rattle.rec_bytes.specs.Format as format
use Rattle.rec_bytes.specs.Record.{field}
use Rattle.record_lists.specs.Lines.{IsLineIn}
use Rattle.record_lists.proofs.LineLaws.{below_in, line_of_walk, tested_in, walk_of_line}
use Rattle.store_rules.specs.Chains.{In}
use Rattle.store_rules.specs.Breaking.{damage}
use Rattle.store_rules.specs.IndexBreaking.{AreDefinitions, IndexBreaks}
use Rattle.store_rules.specs.IndexBreaking.IndexBreaks.{WrongDefinition}
use Rattle.store_rules.specs.Indexes.{first_definition, index_rec, indexed_key, indexed_label, next_definition}
use Rattle.store_rules.specs.Views.{Records, high, kind_at}
use Rattle.store_rules.proofs.NumberLaws.{and_parts, eq_false, eq_true, nat_cases}
use Rattle.store_rules.proofs.PropertyWalks.{walk_is}
use Rattle.store_rules.proofs.ViewLaws.{kind_below, kind_low}
use Rattle.index_check.specs.Definitions.{are_twins, definition_at, definition_line, twin_in}
use Rattle.index_check.specs.Indexing.{IsGiven}
use Rattle.index_check.specs.declared.definitions.Definition.{Definition}
use Rattle.index_check.proofs.PlaceLaws.{in_place}

-- ---- the chain as a line

-- a record of the index with a kind, by its bytes
module _ (records : Records) (kind : ℕ) (some : kind ≢ 0) (x : ℕ) where
  pub has_kind : x < high records format.index_file → nat_eq (field 1 (index_rec records x) format.kind) kind ≡ true
      → kind_at records format.index_file x ≡ kind
  has_kind lt t = kind_low (high records format.index_file) (index_rec records x) x lt ∙ eqb-true (field 1 (index_rec records x) format.kind) kind t

  pub kind_under : kind_at records format.index_file x ≡ kind → x < high records format.index_file
  kind_under is = kind_below (high records format.index_file) (index_rec records x) x (λ z. some (sym is ∙ z))

  pub kind_test : kind_at records format.index_file x ≡ kind → nat_eq (field 1 (index_rec records x) format.kind) kind ≡ true
  kind_test is = eq_true (field 1 (index_rec records x) format.kind) kind
      (sym (kind_low (high records format.index_file) (index_rec records x) x (kind_under is)) ∙ is)

one_some : format.definition ≢ 0
one_some e = omega arith

module _ (records : Records) where
  abbrev mark : ℕ
  mark = high records format.index_file

  abbrev test : ℕ → Bool
  test x = nat_eq (field 1 (index_rec records x) format.kind) format.definition

  abbrev pub IsDefinitionLine : List ℕ → Type 0
  IsDefinitionLine xs = IsLineIn definition_line records mark (first_definition records) xs

  pub definitions_of : mark ≤ format.most_ids → (xs : List ℕ) → IsDefinitionLine xs → length xs ≤ 16 → AreDefinitions records xs
  definitions_of room xs it few = record {
    walk = walk_of_line (next_definition records) (λ _ x. test x) mark room format.nil (first_definition records) xs it;
    few = few;
    defined = λ d i. has_kind records format.definition one_some d (below_in (next_definition records) (λ _ x. test x) mark room format.nil
        (first_definition records) xs it d i)
        (tested_in (next_definition records) test mark format.nil (first_definition records) xs it d i);
  }

  pub line_of_definitions : (xs : List ℕ) → AreDefinitions records xs → IsDefinitionLine xs
  line_of_definitions xs h = line_of_walk (next_definition records) test mark format.nil (first_definition records) xs h.walk
      (λ x i. kind_under records format.definition one_some x (h.defined x i)) (λ x i. kind_test records format.definition one_some x (h.defined x i))

  -- a line that is read again, from the same record on
  pub same_line : (after : Records) (n first : ℕ) → after ≡ records → n ≡ mark → first ≡ first_definition records
      → IsLineIn definition_line after n first ≡ IsDefinitionLine
  same_line after n first read is from = λ i. IsLineIn definition_line (read i) (is i) (from i)

  -- there is one line alone
  pub line_is : mark ≤ format.most_ids → (xs ys : List ℕ) → IsDefinitionLine xs → AreDefinitions records ys → ys ≡ xs
  line_is room xs ys it h = walk_is (next_definition records) (first_definition records) ys xs h.walk
      (walk_of_line (next_definition records) (λ _ x. test x) mark room format.nil (first_definition records) xs it)

  -- ---- twins

  abbrev at : ℕ → Definition
  at = definition_at records

  -- two definitions of one label and key
  pub record AreTwinsAt (d e : ℕ) : Type 0 where
    pub other : e ≢ d
    pub label : indexed_label records e ≡ indexed_label records d
    pub key : indexed_key records e ≡ indexed_key records d

  twins_of : (d e : ℕ) → are_twins (at d) (at e) ≡ true → AreTwinsAt d e
  twins_of d e t =
      let first = and_parts (not (nat_eq d e)) (nat_eq (indexed_label records d) (indexed_label records e) && nat_eq (indexed_key records d)
      (indexed_key records e)) t in
      let then = and_parts (nat_eq (indexed_label records d) (indexed_label records e)) (nat_eq (indexed_key records d) (indexed_key records e)) first.1 in
      record {
        other = λ same. true≢false (sym first.0 ∙ ap not (eq_true d e (sym same)));
        label = sym (eqb-true (indexed_label records d) (indexed_label records e) then.0);
        key = sym (eqb-true (indexed_key records d) (indexed_key records e) then.1);
      }

  of_twins : (d e : ℕ) → AreTwinsAt d e → are_twins (at d) (at e) ≡ true
  of_twins d e h = rw (
    eq_false d e (λ same. h.other (sym same)),
    eq_true (indexed_label records d) (indexed_label records e) (sym h.label),
    eq_true
        (indexed_key records d) (indexed_key records e) (sym h.key),
  ) refl

  any_twin : (d : ℕ) (ids : List ℕ) → list_any (are_twins (at d)) (map at ids) ≡ true → (e : ℕ) × In e ids × AreTwinsAt d e
  any_twin d [] h = absurd (true≢false (sym h))
  any_twin d (e ∷ es) h = ⊎_elim
      (λ t. (e, inl refl, twins_of d e t))
      (λ k. let r = any_twin d es k in (r.0, inr r.1, r.2))
      (or_cases (are_twins (at d) (at e)) (list_any (are_twins (at d)) (map at es)) h)

  twin_any : (d : ℕ) (ids : List ℕ) (e : ℕ) → In e ids → AreTwinsAt d e → list_any (are_twins (at d)) (map at ids) ≡ true
  twin_any d [] e i h = elim i [ ]
  twin_any d (x ∷ xs) e (inl same) h = rw (ap (λ z. are_twins (at d) (at z)) (sym same) ∙ of_twins d e h) refl
  twin_any d (x ∷ xs) e (inr i) h = rw (twin_any d xs e i h) (right (are_twins (at d) (at x)))
    where
      right : (b : Bool) → (b || true) ≡ true
      right true = refl
      right false = refl

  -- a twin that is found
  pub twin_found : (all ds : List ℕ) (x : ℕ) → twin_in (map at all) (map at ds) ≡ Some x → (e : ℕ) × In x ds × In e all × AreTwinsAt x e
  unfolding twin_in
  twin_found all [] x h = absurd cc
  twin_found all (d ∷ ds) x h = by (list_any (are_twins (at d)) (map at all)) refl h (twin_found all ds x)
    where
      by : (b : Bool) → list_any (are_twins (at d)) (map at all) ≡ b → cond b (Some d) (twin_in (map at all) (map at ds)) ≡ Some x
          → (twin_in (map at all) (map at ds) ≡ Some x → (e : ℕ) × In x ds × In e all × AreTwinsAt x e) → (e : ℕ) × In x (d ∷ ds) × In e all × AreTwinsAt x e
      by true any is later =
          let r = any_twin d all any in
          let same : d ≡ x = cc in (
            r.0,
            inl (sym same),
            r.1,
            record {
              other = λ q. r.2.other (q ∙ sym same);
              label = r.2.label ∙ ap (indexed_label records) same;
              key = r.2.key ∙ ap
                  (indexed_key records) same;
            },
          )
      by false any is later = let r = later is in (r.0, inr r.1, r.2, r.3)

  -- or there is none
  pub twin_none : (all ds : List ℕ) → twin_in (map at all) (map at ds) ≡ None → (d e : ℕ) → In d ds → In e all
      → indexed_label records e ≡ indexed_label records d
      → indexed_key records e ≡ indexed_key records d → e ≡ d
  unfolding twin_in
  twin_none all [] h d e i j l k = elim i [ ]
  twin_none all (x ∷ xs) h d e i j l k = by (list_any (are_twins (at x)) (map at all)) refl h (twin_none all xs) i
    where
      by : (b : Bool) → list_any (are_twins (at x)) (map at all) ≡ b → cond b (Some x) (twin_in (map at all) (map at xs)) ≡ None
          → (twin_in (map at all) (map at xs) ≡ None → (d e : ℕ) → In d xs → In e all → indexed_label records e ≡ indexed_label records d → indexed_key records
          e ≡ indexed_key records d → e ≡ d)
          → In d (x ∷ xs) → e ≡ d
      by true any is later here = absurd cc
      by false any is later (inr m) = later is d e m j l k
      by false any is later (inl same) = ⊎_elim (λ q. q)
          (λ (ne : e ≢ d). absurd (true≢false (sym (twin_any x all e j (record {
            other = λ q. ne (q ∙ sym same);
            label = l ∙ ap (indexed_label records)
                same;
            key = k ∙ ap (indexed_key records) same;
          })) ∙ any)))
          (nat_cases e d)

  -- a twin breaks the rule
  pub twin_breaks : (ids : List ℕ) → AreDefinitions records ids → (x : ℕ) → twin_in (map at ids) (map at ids) ≡ Some x
      → IndexBreaks records (damage format.index_file x 8)
  twin_breaks ids are x h =
      let r = twin_found ids ids x h in
      WrongDefinition x (record { members = ids; list = are; member = r.1 })
      (λ keeps. r.3.other (keeps.alone r.0 (record { members = ids; list = are; member = r.2 }) r.3.label r.3.key))

  -- a definition that was read is given
  pub all_given : (ids : List ℕ) → AreDefinitions records ids → (k : ℕ) (d : Definition) → k < length (map at ids) → IsGiven records (get_or (map at ids) k d)
  all_given ids are k d lt =
      let low : k < length ids = omega (arith, length-map ids at) in
      subst (IsGiven records) (sym (read_at ids k d low)) (record { among = record { members = ids; list = are; member = in_place ids k low }; is = refl })
    where
      read_at : (xs : List ℕ) (k : ℕ) (d : Definition) → k < length xs → get_or (map at xs) k d ≡ at (get_or xs k 0)
      read_at [] k d lt = absurd (omega arith)
      read_at (x ∷ xs) zero d lt = refl
      read_at (x ∷ xs) (suc k) d lt = read_at xs k d (omega arith)

-- the identifiers of definitions stand at their places
pub all_low : (all : List Definition) (ids : List ℕ) (mark most : ℕ) → map (λ (d : Definition). d.id) all ≡ ids → mark ≤ most → All (λ x. x < mark) ids
    → All (λ (d : Definition). d.id < most) all
all_low all ids mark most is le low k d lt =
    let few : k < length ids = omega (arith, length-map all (λ (a : Definition). a.id), ap length is) in
    let below = low k 0 few in
    let same : (get_or all k d).id ≡ get_or ids k 0 = id_at all k d lt ∙ ap (λ xs. get_or xs k 0) is in
    omega (arith, below, same)
  where
    id_at : (xs : List Definition) (k : ℕ) (d : Definition) → k < length xs → (get_or xs k d).id ≡ get_or (map (λ (a : Definition). a.id) xs) k 0
    id_at [] k d lt = absurd (omega arith)
    id_at (x ∷ xs) zero d lt = refl
    id_at (x ∷ xs) (suc k) d lt = id_at xs k d (omega arith)
