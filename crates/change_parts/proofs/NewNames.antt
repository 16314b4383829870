-- How many names the keys of a line make.
use Rattle.std.specs.List.{All}
use Rattle.std.specs.Prelude.{Contains, slice_get}
use Rattle.std.proofs.Common.{◌≡◌, ℕ, suc, ◌+◌, ◌<◌, ◌≤◌, nat_eq, nat_lt, Bool, true, false, cond, Some, List, [], ◌∷◌}
use Rattle.std.proofs.Common.{◌++◌, length, take, get_or, sym, ap, ◌∙◌, ⊎_elim, arith, refl}
use Rattle.std.proofs.lemmas.Bool.Decides.{nat_tests}
use Rattle.std.proofs.lemmas.List.{get_or_append_left, length-append, length-take}
use Rattle.std.proofs.lemmas.List.Elements.{All-head, All-tail}
use Rattle.std.proofs.lemmas.Option.{get_or_from_slice_get, slice_get-get_or}
use Rattle.plain_graph.specs.Graph.{UsesName}
use Rattle.store_rules.proofs.NumberLaws.{eq_false}
use Rattle.name_store.proofs.FirstNames.{contains_at}
use Rattle.change_parts.specs.Assigning.{with_place}
use Rattle.change_parts.specs.declared.assigning.Assignment.{Assignment}

-- ---- places
module _ (key place : ℕ) where
  abbrev here : Assignment
  here = record { key = key; pair = place }

  placed_long : (xs : List Assignment) → length xs ≤ length (with_place xs key place)
  placed_long [] = omega arith
  placed_long (x ∷ xs) = by (nat_eq x.key key) (placed_long xs)
    where
      by : (b : Bool) → length xs ≤ length (with_place xs key place) → suc (length xs) ≤ length (cond b (here ∷ xs) (x ∷ with_place xs key place))
      by true rest = omega arith
      by false rest = omega arith

  -- a number above those of the assignments gets a place of its own
  placed_new : (m : ℕ) (xs : List Assignment) → All (λ (a : Assignment). a.key < m) xs → m ≤ key → length (with_place xs key place) ≡ suc (length xs)
  placed_new m [] known le = refl
  placed_new m (x ∷ xs) known le =
      let low : x.key < m = All-head (λ (a : Assignment). a.key < m) x xs known in
      by (nat_eq x.key key) (eq_false x.key key (λ e. absurd (omega arith))) (placed_new m xs (All-tail (λ (a : Assignment). a.key < m) x xs known) le)
    where
      by : (b : Bool) → b ≡ false → length (with_place xs key place) ≡ suc (length xs)
          → length (cond b (here ∷ xs) (x ∷ with_place xs key place)) ≡ suc (suc (length xs))
      by true e rest = absurd cc
      by false e rest = ap suc rest

  -- 33 places at most
  pub placed_grows : (items now : List Assignment) → length items ≤ 33 → now ≡ take 33 (with_place items key place) → length items ≤ length now
  placed_grows items now few is = let e = ap length is in let long = placed_long items in omega (arith, length-take 33 (with_place items key place))

  -- a new name gets a place of its own, too
  pub named_once : (names : List (List ℕ)) (x : List ℕ) (new : List (List ℕ)) (xs : List Assignment) → UsesName names x new → slice_get new key ≡ Some x
      → All (λ (a : Assignment). a.key < length names) xs
      → length new + length xs ≤ length names + length (with_place xs key place)
  named_once names x new xs uses at known = ⊎_elim
      (λ (k : Contains names x × (new ≡ names)). let e = ap length k.1 in let long = placed_long xs in omega arith)
      (λ (k : (¬ Contains names x) × (new ≡ names ++ x ∷ [])).
      let e = ap length k.1 in
      let long = placed_new (length names) xs known (above k.0 k.1) in
      omega (arith, length-append names (x ∷ []))) uses
    where
      known_text : key < length names → new ≡ names ++ x ∷ [] → slice_get names key ≡ Some x
      known_text lt is = slice_get-get_or names key [] lt ∙ ap Some (sym (get_or_append_left names (x ∷ []) [] key lt) ∙ ap (λ l. get_or l key []) (sym is)
          ∙ get_or_from_slice_get new key x [] at)

      above : (¬ Contains names x) → new ≡ names ++ x ∷ [] → length names ≤ key
      above lacks is = by (nat_lt key (length names)) (λ e. grind (arith, nat_tests)) (λ e. grind (arith, nat_tests))
        where
          by : (b : Bool) → (b ≡ true → key < length names) → (b ≡ false → length names ≤ key) → length names ≤ key
          by true low high = absurd (lacks (contains_at names key x (known_text (low refl) is)))
          by false low high = high refl

-- one name more at most
pub name_one : (names : List (List ℕ)) (x : List ℕ) (new : List (List ℕ)) → UsesName names x new → length new ≤ length names + 1
name_one names x new uses = ⊎_elim
    (λ (k : Contains names x × (new ≡ names)). let e = ap length k.1 in omega arith)
    (λ (k : (¬ Contains names x) × (new ≡ names ++ x ∷ [])). let e = ap length k.1 in omega (arith, length-append names (x ∷ []))) uses
