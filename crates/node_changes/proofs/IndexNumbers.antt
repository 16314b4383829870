-- The numbers that a label and a key have, or get as they become names.
use Rattle.std.specs.Prelude.{Contains, IfNone, IfSome, slice_get}
use Rattle.std.specs.Option.{unwrap_or}
use Rattle.std.proofs.Common.{◌≡◌, ◌≢◌, ◌⊎◌, ⊎_elim, inl, inr, ℕ, zero, suc, ◌+◌, ◌≤◌, Option, None, Some, List, []}
use Rattle.std.proofs.Common.{◌∷◌, ◌++◌, length, ap, sym, ◌∙◌, subst, arith, refl}
use Rattle.std.proofs.lemmas.List.{length-append}
use Rattle.std.proofs.lemmas.List.Elements.{Contains-append_cases}
use Rattle.std.proofs.lemmas.Option.{slice_get_within}
use Rattle.plain_graph.specs.Graph.{UsesName, UsesNames}
use Rattle.store_rules.proofs.Members.{contains_cases}
use Rattle.name_store.specs.Names.{AreDistinct}
use Rattle.name_store.proofs.FirstNames.{contains_at, slice_get-push_last, slice_get-push_old}
use Rattle.prop_index.specs.declared.listing.IndexPair.{IndexPair}
use Rattle.node_changes.specs.Indexing.{IsNumberOf, IsPairOf}

-- distinct texts stand at one place each
pub place_once : (texts : List (List ℕ)) (x y : ℕ) (text : List ℕ) → AreDistinct texts → slice_get texts x ≡ Some text → slice_get texts y ≡ Some text → x ≡ y
place_once [] x y text distinct a b = absurd cc
place_once (first ∷ texts) zero zero text distinct a b = refl
place_once (first ∷ texts) zero (suc y) text distinct a b = absurd (distinct.0 (contains_at texts y first (b ∙ sym a)))
place_once (first ∷ texts) (suc x) zero text distinct a b = absurd (distinct.0 (contains_at texts x first (a ∙ sym b)))
place_once (first ∷ texts) (suc x) (suc y) text distinct a b = ap suc (place_once texts x y text distinct.1 a b)

-- ---- one name

-- the number that is found, or the one after all
pub found_number : (names : List (List ℕ)) (text : List ℕ) (found : Option ℕ) (count : ℕ) → IfSome found (λ id. slice_get names id ≡ Some text)
    → IfNone found (¬ Contains names text) → count ≡ length names → IsNumberOf names text (unwrap_or found count)
found_number names text None count some none is = inr (none, is)
found_number names text (Some id) count some none is = inl some

pub found_few : (names : List (List ℕ)) (text : List ℕ) (found : Option ℕ) (count most : ℕ) → IfSome found (λ id. slice_get names id ≡ Some text)
    → count ≡ length names → count ≤ most → unwrap_or found count ≤ most
found_few names text None count most some is few = few
found_few names text (Some id) count most some is few = let lt = slice_get_within names id text some in omega (arith, lt, is, few)

-- a name keeps its number
pub number_stays : (names : List (List ℕ)) (text : List ℕ) (named : List (List ℕ)) (n : ℕ) (other : List ℕ) → slice_get names n ≡ Some other
    → UsesName names text named → slice_get named n ≡ Some other
number_stays names text named n other at uses = ⊎_elim
    (λ (k : Contains names text × (named ≡ names)). ap (λ ns. slice_get ns n) k.1 ∙ at)
    (λ (k : (¬ Contains names text) × (named ≡ names ++ text ∷ [])). ap (λ ns. slice_get ns n) k.1 ∙ slice_get-push_old names text n
    (slice_get_within names n other at) ∙ at) uses

-- a text has its number as soon as it is a name
pub number_named : (names : List (List ℕ)) (text : List ℕ) (n : ℕ) (named : List (List ℕ)) → IsNumberOf names text n → UsesName names text named
    → slice_get named n ≡ Some text
number_named names text n named number uses = ⊎_elim
    (λ (at : slice_get names n ≡ Some text). number_stays names text named n text at uses)
    (λ (new : (¬ Contains names text) × (n ≡ length names)). ⊎_elim
    (λ (k : Contains names text × (named ≡ names)). absurd (new.0 k.0))
    (λ (k : (¬ Contains names text) × (named ≡ names ++ text ∷ [])). ap (slice_get named) new.1 ∙ ap (λ ns. slice_get ns (length names)) k.1
    ∙ slice_get-push_last names text) uses) number

-- a text that is no name gets the next number
next_number : (names : List (List ℕ)) (text : List ℕ) (n : ℕ) → ¬ Contains names text → IsNumberOf names text n → n ≡ length names
next_number names text n lacks number = ⊎_elim
    (λ (at : slice_get names n ≡ Some text). absurd (lacks (contains_at names n text at)))
    (λ (new : (¬ Contains names text) × (n ≡ length names)). new.1) number

-- and one that is a name has its number
name_number : (names : List (List ℕ)) (text : List ℕ) (n : ℕ) → Contains names text → IsNumberOf names text n → slice_get names n ≡ Some text
name_number names text n has number = ⊎_elim
    (λ (at : slice_get names n ≡ Some text). at)
    (λ (new : (¬ Contains names text) × (n ≡ length names)). absurd (new.0 has)) number

-- ---- the label, and then the key

same_text : (a b : List ℕ) → Some a ≡ Some b → a ≡ b
same_text a b e = cc

module _ (names : List (List ℕ)) (label key : List ℕ) where
  -- two texts with one number are new
  both_new : (n : ℕ) → IsNumberOf names label n → IsNumberOf names key n → label ≢ key → (¬ Contains names label) × (¬ Contains names key) × (n ≡ length names)
  both_new n label_is key_is other = ⊎_elim
      (λ (at : slice_get names n ≡ Some label). absurd (⊎_elim
      (λ (too : slice_get names n ≡ Some key). other (same_text label key (sym at ∙ too)))
      (λ (new : (¬ Contains names key) × (n ≡ length names)). let lt = slice_get_within names n label at in let e = new.1 in omega (arith, lt, e)) key_is))
      (λ (new : (¬ Contains names label) × (n ≡ length names)). (
        new.0,
        ⊎_elim
            (λ (at : slice_get names n ≡ Some key). let lt = slice_get_within names n key at in let e = new.1 in absurd (omega (arith, lt, e)))
            (λ (too : (¬ Contains names key) × (n ≡ length names)). too.0) key_is,
        new.1,
      )) label_is

  -- then the key's number is the next one
  pub pair_next : (n : ℕ) → IsNumberOf names label n → IsNumberOf names key n → label ≢ key → IsPairOf names label key (record { label = n; key = n + 1 })
  pair_next n label_is key_is other =
      let new = both_new n label_is key_is other in
      record {
        label_is = label_is;
        key_is = λ named uses. ⊎_elim
            (λ (k : Contains names label × (named ≡ names)). absurd (new.0 k.0))
            (λ (k : (¬ Contains names label) × (named ≡ names ++ label ∷ [])). inr (
              (λ has. ⊎_elim new.1
                  (λ (last : Contains (label ∷ []) key). ⊎_elim (λ (e : key ≡ label). other (sym e)) (λ (none : Contains [] key). absurd
                  (omega (arith, none.1))) (contains_cases label [] key last))
                  (Contains-append_cases names (label ∷ []) key (subst (λ ns. Contains ns key) k.1 has))),
              let e = ap length k.1 in let at = new.2 in omega (arith, e, at, length-append names (label ∷ [])),
            )) uses;
      }

  pub pair_apart : (l k : ℕ) → IsNumberOf names label l → IsNumberOf names key k → (l ≢ k) ⊎ (label ≡ key)
      → IsPairOf names label key (record { label = l; key = k })
  pair_apart l k label_is key_is apart = record {
    label_is = label_is;
    key_is = λ named uses. ⊎_elim
        (λ (p : Contains names label × (named ≡ names)). subst (λ ns. IsNumberOf ns key k) (sym p.1) key_is)
        (λ (p : (¬ Contains names label) × (named ≡ names ++ label ∷ [])). inl (⊎_elim
        (λ (ne : l ≢ k). ⊎_elim
        (λ (at : slice_get names k ≡ Some key). number_stays names label named k key at uses)
        (λ (new : (¬ Contains names key) × (k ≡ length names)). absurd (ne (next_number names label l p.0 label_is ∙ sym new.1))) key_is)
        (λ (same : label ≡ key). number_named names key k named key_is (subst (λ x. UsesName names x named) same uses)) apart)) uses;
  }

  module _ (pair : IndexPair) (is : IsPairOf names label key pair) where
    -- both have their numbers as soon as they are names
    pub pair_named : (used : List (List ℕ)) → UsesNames names (label ∷ key ∷ []) used → (slice_get used pair.label ≡ Some label)
        × (slice_get used pair.key ≡ Some key)
    pair_named used uses =
        let first = uses.0 in
        let last = uses.2.0 in
        let same : used ≡ last = uses.2.2 in (
          ap (λ ns. slice_get ns pair.label) same ∙ number_stays first key last pair.label label (number_named names label pair.label first is.label_is uses.1)
              uses.2.1,
          ap (λ ns. slice_get ns pair.key) same ∙ number_named first key pair.key last (is.key_is first uses.1) uses.2.1,
        )

    -- where the label is a name, the names are those that are there
    pub key_number : slice_get names pair.label ≡ Some label → IsNumberOf names key pair.key
    key_number at = is.key_is names (inl (contains_at names pair.label label at, refl))

    -- by the numbers that they got
    pub pair_is_got : (first last : List (List ℕ)) (l k : ℕ) → AreDistinct first → AreDistinct last → UsesName names label first → UsesName first key last
        → slice_get first l ≡ Some label → slice_get last k ≡ Some key → (pair.label ≡ l) × (pair.key ≡ k)
    pair_is_got first last l k once once_more label_uses key_uses label_at key_at = (
      place_once first pair.label l label once (number_named names label pair.label first is.label_is label_uses) label_at,
      place_once last pair.key k key once_more (number_named first key pair.key last (is.key_is first label_uses) key_uses) key_at,
    )
