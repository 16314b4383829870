-- The first names of a space's records.
use Rattle.std.proofs.Common.{◌≡◌, ℕ, zero, suc, ◌+◌, ◌<◌, ◌≤◌, List, [], ◌∷◌, ◌++◌, Some, slice_get, take, length}
use Rattle.std.proofs.Common.{Contains, ⊎_elim, refl, sym, ap, subst, ◌∙◌, arith}
use Rattle.std.proofs.lemmas.Bool.{cases_lt}
use Rattle.std.proofs.lemmas.List.{ext_get_or, get_or_append_left, get_or-take, length-append, length-take-le}
use Rattle.std.proofs.lemmas.Option.{get_or_from_slice_get, slice_get-get_or, slice_get_within}
use Rattle.std.proofs.Math.Seq.{get_or-append_seam}
use Rattle.store_rules.specs.Graph.{names_of}
use Rattle.store_rules.specs.Views.{Records}
use Rattle.store_rules.proofs.NameRows.{length-rows, row_at}
use Rattle.rec_bytes.specs.Format.{names_file}
use Rattle.store_rules.specs.Rules.{AreNames}
use Rattle.store_rules.specs.Views.{rec_at}
use Rattle.name_store.specs.Loading.{AreLoadableTo, HasNoForm, HoldsFirst, name_mark, text_at}
use Rattle.name_store.specs.Names.{AreDistinct, AreHeldNames}
use Rattle.name_store.proofs.KeptNames.{short_at}

pub length-names_of : (records : Records) → length (names_of records) ≡ name_mark records
length-names_of records = length-rows (text_at records) (name_mark records)

-- the first names are all where there are as many as the mark says
pub names_of-first : (records : Records) (names : List (List ℕ)) → HoldsFirst records names → length names ≡ name_mark records → names ≡ names_of records
names_of-first records names first long = ext_get_or [] names (names_of records) (long ∙ sym (length-names_of records)) (λ id lt.
    get_or_from_slice_get names id (text_at records id) [] (first id lt) ∙ sym (row_at (text_at records) (name_mark records) id [] (omega arith)))

-- all names are the first ones
pub first-names_of : (records : Records) (id : ℕ) → id < name_mark records → slice_get (names_of records) id ≡ Some (text_at records id)
first-names_of records id lt =
    let long = length-names_of records in
    slice_get-get_or (names_of records) id [] (omega arith) ∙ ap Some (row_at (text_at records) (name_mark records) id [] lt)

-- a name at the end leaves the others at their places
pub slice_get-push_old : (names : List (List ℕ)) (name : List ℕ) (id : ℕ) → id < length names → slice_get (names ++ name ∷ []) id ≡ slice_get names id
slice_get-push_old names name id lt =
    slice_get-get_or (names ++ name ∷ []) id [] (omega (arith, length-append names (name ∷ []))) ∙ ap Some (get_or_append_left names (name ∷ []) [] id lt)
    ∙ sym (slice_get-get_or names id [] lt)

pub slice_get-push_last : (names : List (List ℕ)) (name : List ℕ) → slice_get (names ++ name ∷ []) (length names) ≡ Some name
slice_get-push_last names name = slice_get-get_or (names ++ name ∷ []) (length names) [] (omega (arith, length-append names (name ∷ [])))
    ∙ ap Some (get_or-append_seam names name [] [])

-- the next name of the records goes to the end
pub HoldsFirst-next : (records : Records) (names new : List (List ℕ)) → HoldsFirst records names → new ≡ names ++ text_at records (length names) ∷ []
    → HoldsFirst records new
HoldsFirst-next records names new first is = subst (HoldsFirst records) (sym is) (λ id lt. ⊎_elim
    (λ (low : id < length names). slice_get-push_old names (text_at records (length names)) id low ∙ first id low)
    (λ (past : length names ≤ id).
    let last : id ≡ length names = omega (arith, length-append names (text_at records (length names) ∷ [])) in
    ap (slice_get (names ++ text_at records (length names) ∷ [])) last ∙ slice_get-push_last names (text_at records (length names))
    ∙ ap (λ n. Some (text_at records n)) (sym last))
    (cases_lt id (length names)))

pub contains_at : (names : List (List ℕ)) (id : ℕ) (text : List ℕ) → slice_get names id ≡ Some text → Contains names text
contains_at names id text at = (id, slice_get_within names id text at, get_or_from_slice_get names id text text at)

-- one more of the kept names is the records'
pub before_next : (records : Records) (names : List (List ℕ)) (id : ℕ) → ((x : ℕ) → x < id → slice_get names x ≡ Some (text_at records x))
    → slice_get names id ≡ Some (text_at records id)
    → (x : ℕ) → x < id + 1 → slice_get names x ≡ Some (text_at records x)
before_next records names id before here x lt = ⊎_elim (λ (low : x < id). before x low)
    (λ (past : id ≤ x). let same : id ≡ x = omega arith in subst (λ n. slice_get names n ≡ Some (text_at records n)) same here) (cases_lt x id)

-- the first of the kept names, as many as the mark says, are all of the records' names
pub names_of-take : (records : Records) (names : List (List ℕ)) → name_mark records ≤ length names
    → ((x : ℕ) → x < name_mark records → slice_get names x ≡ Some (text_at records x)) → take (name_mark records) names ≡ names_of records
names_of-take records names fits before =
    let long = length-take-le (name_mark records) names fits in
    names_of-first records (take (name_mark records) names) (λ id lt.
    let low : id < name_mark records = omega arith in
    slice_get-get_or (take (name_mark records) names) id [] lt ∙ ap Some (get_or-take (name_mark records) names id [] low)
    ∙ sym (slice_get-get_or names id [] (omega arith)) ∙ before id low) long

-- distinct texts stand at one place each
distinct_at : (texts : List (List ℕ)) (x y : ℕ) (text : List ℕ) → AreDistinct texts → slice_get texts x ≡ Some text → slice_get texts y ≡ Some text → x ≡ y
distinct_at [] x y text distinct a b = absurd cc
distinct_at (first ∷ texts) zero zero text distinct a b = refl
distinct_at (first ∷ texts) zero (suc y) text distinct a b = absurd (distinct.0 (contains_at texts y first (b ∙ sym a)))
distinct_at (first ∷ texts) (suc x) zero text distinct a b = absurd (distinct.0 (contains_at texts x first (a ∙ sym b)))
distinct_at (first ∷ texts) (suc x) (suc y) text distinct a b = ap suc (distinct_at texts x y text distinct.1 a b)

-- names that are kept and are the records' first keep the sixth rule
AreNames-first : (records : Records) (names : List (List ℕ)) → AreHeldNames names → HoldsFirst records names
    → AreNames (rec_at records names_file) (length names)
AreNames-first records names held first = record {
  form = λ x lt. short_at names x (text_at records x) held (first x lt);
  distinct = λ x y a b same. distinct_at names x y (text_at records x) held.distinct (first x a) (first y b ∙ ap Some (sym same));
}

pub AreLoadableTo-first : (records : Records) (names : List (List ℕ)) → AreHeldNames names → HoldsFirst records names
    → ((x : ℕ) → x < length names → ¬ HasNoForm records x) → AreLoadableTo records (length names)
AreLoadableTo-first records names held first form = record { form = form; names = AreNames-first records names held first }

-- one more record has a name's form
pub form_next : (records : Records) (n m : ℕ) → m ≡ n + 1 → ((x : ℕ) → x < n → ¬ HasNoForm records x) → ¬ HasNoForm records n → (x : ℕ) → x < m
    → ¬ HasNoForm records x
form_next records n m more before here x lt = ⊎_elim (λ (low : x < n). before x low)
    (λ (past : n ≤ x). let same : n ≡ x = omega arith in subst (λ i. ¬ HasNoForm records i) same here) (cases_lt x n)
