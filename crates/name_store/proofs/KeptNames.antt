-- Names that are kept stay names with one more, and with the last ones cut off.
use Rattle.std.proofs.Common.{◌≡◌, ℕ, zero, suc, Bool, true, false, if◌then◌else◌, Vec, ◌<◌, List, [], ◌∷◌, ◌++◌, Some}
use Rattle.std.proofs.Common.{slice_get, take, length, Contains, inl, inr, refl, sym, subst, ◌∙◌, length-append, arith}
use Rattle.std.specs.List.{AllByRecursion, list_any}
use Rattle.std.specs.declared.alloc.Global.{Global}
use Rattle.indexmap.specs.IndexSet.{insert_key}
use Rattle.std.proofs.lemmas.List.{get_or-take, length-take, map_push}
use Rattle.std.proofs.lemmas.List.Elements.{Contains-push_cases}
use Rattle.plain_graph.specs.Names.{IsShortName}
use Rattle.rec_bytes.specs.Format.{most_names}
use Rattle.name_store.specs.Names.{AreDistinct, AreHeldNames, name_bytes}
use Rattle.name_store.proofs.HeldTexts.{lacks-has_name, same_name}

AllByRecursion-push : {X : Type 0} (P : X → Type 0) (xs : List X) (x : X) → AllByRecursion P xs → P x → AllByRecursion P (xs ++ x ∷ [])
AllByRecursion-push P [] x all here = (here, tt)
AllByRecursion-push P (first ∷ xs) x all here = (all.0, AllByRecursion-push P xs x all.1 here)

AllByRecursion-take : {X : Type 0} (P : X → Type 0) (n : ℕ) (xs : List X) → AllByRecursion P xs → AllByRecursion P (take n xs)
AllByRecursion-take P zero xs all = tt
AllByRecursion-take P (suc n) [] all = tt
AllByRecursion-take P (suc n) (x ∷ xs) all = (all.0, AllByRecursion-take P n xs all.1)

-- what each element is, the one at a place is
AllByRecursion-at : {X : Type 0} (P : X → Type 0) (xs : List X) (i : ℕ) (x : X) → AllByRecursion P xs → slice_get xs i ≡ Some x → P x
AllByRecursion-at P [] i x all is = absurd cc
AllByRecursion-at P (y ∷ xs) zero x all is = let same : y ≡ x = cc in subst P same all.0
AllByRecursion-at P (y ∷ xs) (suc i) x all is = AllByRecursion-at P xs i x all.1 is

Contains-cons : (first : List ℕ) (texts : List (List ℕ)) → Contains (first ∷ texts) first
Contains-cons first texts = (0, omega arith, refl)

Contains-later : (first : List ℕ) (texts : List (List ℕ)) (text : List ℕ) → Contains texts text → Contains (first ∷ texts) text
Contains-later first texts text has = (suc has.0, omega (arith, has.1), has.2)

Contains-take : (n : ℕ) (texts : List (List ℕ)) (text : List ℕ) → Contains (take n texts) text → Contains texts text
Contains-take n texts text has =
    let long = length-take n texts in
    (has.0, omega (arith, has.1), sym (get_or-take n texts has.0 text (omega (arith, has.1))) ∙ has.2)

AreDistinct-push : (texts : List (List ℕ)) (text : List ℕ) → AreDistinct texts → ¬ Contains texts text → AreDistinct (texts ++ text ∷ [])
AreDistinct-push [] text distinct new = (λ has. omega (arith, has.1), tt)
AreDistinct-push (first ∷ texts) text distinct new = (
  λ has. elim (Contains-push_cases texts text first has) [
    | inl old ↦ distinct.0 old
    | inr same ↦ new (subst (Contains (first ∷ texts)) (sym same) (Contains-cons first texts))
  ],
  AreDistinct-push texts text distinct.1 (λ has. new (Contains-later first texts text has)),
)

AreDistinct-take : (n : ℕ) (texts : List (List ℕ)) → AreDistinct texts → AreDistinct (take n texts)
AreDistinct-take zero texts distinct = tt
AreDistinct-take (suc n) [] distinct = tt
AreDistinct-take (suc n) (text ∷ texts) distinct = (λ has. distinct.0 (Contains-take n texts text has), AreDistinct-take n texts distinct.1)

-- one more name
pub AreHeldNames-push : (names : List (List ℕ)) (name : List ℕ) → AreHeldNames names → IsShortName name → ¬ Contains names name → length names < most_names
    → AreHeldNames (names ++ name ∷ [])
AreHeldNames-push names name held short new few = record {
  distinct = AreDistinct-push names name held.distinct new;
  short = AllByRecursion-push IsShortName names name held.short short;
  few = omega (arith, length-append names (name ∷ []));
}

-- the first names
pub AreHeldNames-take : (n : ℕ) (names : List (List ℕ)) → AreHeldNames names → AreHeldNames (take n names)
AreHeldNames-take n names held = record {
  distinct = AreDistinct-take n names held.distinct;
  short = AllByRecursion-take IsShortName n names held.short;
  few = let long = length-take n names in let few = held.few in omega arith;
}

pub short_at : (names : List (List ℕ)) (id : ℕ) (text : List ℕ) → AreHeldNames names → slice_get names id ≡ Some text → IsShortName text
short_at names id text held is = AllByRecursion-at IsShortName names id text held.short is

-- a text that is put into the set
pub AreHeldNames-insert_key : (names : List (Vec ℕ Global)) (name : Vec ℕ Global) → AreHeldNames (name_bytes names) → IsShortName name.items
    → length (name_bytes names) < most_names → AreHeldNames (name_bytes (insert_key same_name names name))
AreHeldNames-insert_key names name held short few = by (list_any (same_name name) names) refl
  where
    by : (known : Bool) → list_any (same_name name) names ≡ known → AreHeldNames (name_bytes (if known then names else names ++ name ∷ []))
    by true e = held
    by false e = subst AreHeldNames (sym (map_push (λ (x : Vec ℕ Global). x.items) names name))
        (AreHeldNames-push (name_bytes names) name.items held short (lacks-has_name names name.items e) few)
