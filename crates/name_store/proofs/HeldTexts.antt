-- A set of texts whose equality is that of their bytes holds names as a list does.
use Rattle.std.proofs.Common.{◌≡◌, ℕ, ◌<◌, Bool, true, false, not, ◌||◌, if◌then◌else◌, nat_eq, List, [], ◌∷◌, ◌++◌}
use Rattle.std.proofs.Common.{Vec, Some, slice_get, inl, inr, refl, sym, ap, ◌∙◌, true≢false, Contains, length, arith}
use Rattle.std.specs.Bool.{IsTrue}
use Rattle.std.specs.List.{list_any, position}
use Rattle.std.specs.Cmp.Lexicographic.{pointwise, same_text}
use Rattle.std.specs.Option.{option_map}
use Rattle.std.specs.declared.alloc.Global.{Global}
use Rattle.std.proofs.lemmas.Cmp.{nat_list_eq_equiv}
use Rattle.std.proofs.lemmas.List.{map_push}
use Rattle.std.proofs.lemmas.List.Quantifiers.{position-Some}
use Rattle.std.proofs.lemmas.Map.Views.{list_any-from_Contains, Contains-from_any}
use Rattle.std.proofs.lemmas.Option.{slice_get-map, slice_get_cases}
use Rattle.indexmap.specs.IndexSet.{insert_key}
use Rattle.name_store.specs.Names.{name_bytes}

-- equality of two texts, as the set computes it
abbrev pub same_name : Vec ℕ Global → Vec ℕ Global → Bool
same_name a b = pointwise nat_eq a.items b.items

-- whether the set has a text, as it computes it
abbrev pub has_name : List (Vec ℕ Global) → List ℕ → Bool
has_name names text = list_any (λ stored. pointwise nat_eq text stored.items) names

list_any-name_bytes : (names : List (Vec ℕ Global)) (text : List ℕ) → list_any (pointwise nat_eq text) (name_bytes names) ≡ has_name names text
list_any-name_bytes [] text = refl
list_any-name_bytes (x ∷ names) text = ap (λ b. pointwise nat_eq text x.items || b) (list_any-name_bytes names text)

-- the list has a text where a test of its texts finds it
pub Contains-list_any : (names : List (List ℕ)) (text : List ℕ) → list_any (pointwise nat_eq text) names ≡ true → Contains names text
Contains-list_any names text e = Contains-from_any (λ x y h. same_text x y (sym h)) text names e

pub list_any-Contains : (names : List (List ℕ)) (text : List ℕ) → Contains names text → list_any (pointwise nat_eq text) names ≡ true
list_any-Contains names text has = list_any-from_Contains nat_list_eq_equiv text names has

pub list_any-lacks : (names : List (List ℕ)) (text : List ℕ) → ¬ Contains names text → list_any (pointwise nat_eq text) names ≡ false
list_any-lacks names text lacks = by (list_any (pointwise nat_eq text) names) refl
  where
    by : (b : Bool) → list_any (pointwise nat_eq text) names ≡ b → list_any (pointwise nat_eq text) names ≡ false
    by true e = absurd (lacks (Contains-list_any names text e))
    by false e = e

pub lacks-has_name : (names : List (Vec ℕ Global)) (text : List ℕ) → has_name names text ≡ false → ¬ Contains (name_bytes names) text
lacks-has_name names text e h = absurd (true≢false (sym (list_any-Contains (name_bytes names) text h) ∙ list_any-name_bytes names text ∙ e))

-- the number that the set finds is that of the text
pub position-name_bytes : (names : List (Vec ℕ Global)) (text : List ℕ) (id : ℕ) → position (λ stored. pointwise nat_eq text stored.items) names ≡ Some id
    → id < length names → slice_get (name_bytes names) id ≡ Some text
position-name_bytes names text id at within =
    elim (slice_get_cases names id).1 [
      | inl found ↦
          let passes = (position-Some (λ (stored : Vec ℕ Global). pointwise nat_eq text stored.items) names id found.0 at).1 in
          let same = rw found.3 at passes in
          slice_get-map (λ (x : Vec ℕ Global). x.items) names id ∙ ap (option_map (λ (x : Vec ℕ Global). x.items)) found.2
          ∙ ap Some (sym (same_text text found.0.items (sym same)))
      | inr past ↦ absurd (omega arith)
    ]

-- a text that the set says is new goes after the others
pub new-insert_key : (names : List (Vec ℕ Global)) (name : Vec ℕ Global) (is_new : Bool) → is_new ≡ not (list_any (same_name name) names) → IsTrue is_new
    → (¬ Contains (name_bytes names) name.items) × (name_bytes (insert_key same_name names name) ≡ name_bytes names ++ name.items ∷ [])
new-insert_key names name is_new = by (list_any (same_name name) names) refl
  where
    by : (known : Bool) → list_any (same_name name) names ≡ known → is_new ≡ not known → IsTrue is_new
        → (¬ Contains (name_bytes names) name.items) × (name_bytes (if known then names else names ++ name ∷ []) ≡ name_bytes names ++ name.items ∷ [])
    by true e is new = absurd (true≢false (sym new ∙ is))
    by false e is new = (lacks-has_name names name.items e, map_push (λ (x : Vec ℕ Global). x.items) names name)

-- a text that the set says it has changes nothing
pub known-insert_key : (names : List (Vec ℕ Global)) (name : Vec ℕ Global) (is_new : Bool) → is_new ≡ not (list_any (same_name name) names) → is_new ≡ false
    → Contains (name_bytes names) name.items × (name_bytes (insert_key same_name names name) ≡ name_bytes names)
known-insert_key names name is_new = by (list_any (same_name name) names) refl
  where
    by : (known : Bool) → list_any (same_name name) names ≡ known → is_new ≡ not known → is_new ≡ false
        → Contains (name_bytes names) name.items × (name_bytes (if known then names else names ++ name ∷ []) ≡ name_bytes names)
    by true e is old = (Contains-list_any (name_bytes names) name.items (list_any-name_bytes names name.items ∙ e), refl)
    by false e is old = absurd (true≢false (sym is ∙ old))

-- a text that the list lacks goes after the others
pub absent-insert_key : (names : List (Vec ℕ Global)) (name : Vec ℕ Global) → ¬ Contains (name_bytes names) name.items
    → name_bytes (insert_key same_name names name) ≡ name_bytes names ++ name.items ∷ []
absent-insert_key names name lacks = by (list_any (same_name name) names) refl
  where
    by : (known : Bool) → list_any (same_name name) names ≡ known → name_bytes (if known then names else names ++ name ∷ []) ≡ name_bytes
        names ++ name.items ∷ []
    by true e = absurd (lacks (Contains-list_any (name_bytes names) name.items (list_any-name_bytes names name.items ∙ e)))
    by false e = map_push (λ (x : Vec ℕ Global). x.items) names name
