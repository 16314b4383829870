-- A place for a key among assignments: where the key stands, or at the end.
use Rattle.std.specs.List.{position, position_or_len, refill}
use Rattle.std.proofs.Common.{◌≡◌, ℕ, suc, ◌+◌, ◌<◌, ◌≤◌, nat_eq, nat_lt, Bool, true, false, cond, not, Some, None}
use Rattle.std.proofs.Common.{List, [], ◌∷◌, ◌++◌, length, take, set, sym, ap, ◌∙◌, arith, refl}
use Rattle.std.proofs.Math.ListN.{length-set}
use Rattle.std.proofs.Math.Seq.{take-length}
use Rattle.std.proofs.lemmas.Bool.Decides.{nat_tests}
use Rattle.std.proofs.lemmas.List.{length-append, take-append-le, take_all}
use Rattle.change_parts.specs.Assigning.{with_place}
use Rattle.change_parts.specs.declared.assigning.Assignment.{Assignment}

-- as many elements written over all of them
refill_all : {X : Type 0} (xs ws : List X) → length ws ≡ length xs → refill (length xs) xs ws ≡ ws
refill_all xs ws e = take-append-le (length xs) ws _ (omega arith) ∙ ap (λ n. take n ws) (sym e) ∙ take-length ws

module _ (key place : ℕ) where
  abbrev has_key : Assignment → Bool
  has_key a = nat_eq a.key key

  abbrev here : Assignment
  here = record { key = key; pair = place }

  place_set : (xs : List Assignment) → position_or_len has_key xs < length xs → with_place xs key place ≡ set xs (position_or_len has_key xs) here
  place_set [] lt = absurd (omega arith)
  place_set (x ∷ xs) lt = by (has_key x) lt (place_set xs)
    where
      by : (b : Bool) → cond (not b) (1 + position_or_len has_key xs) 0 < length (x ∷ xs)
          → (position_or_len has_key xs < length xs → with_place xs key place ≡ set xs (position_or_len has_key xs) here)
          → cond b (here ∷ xs) (x ∷ with_place xs key place) ≡ set (x ∷ xs) (cond (not b) (1 + position_or_len has_key xs) 0) here
      by true lt rest = refl
      by false lt rest = ap (λ l. x ∷ l) (rest (omega arith)) ∙ ap (λ n. set (x ∷ xs) n here) (one (position_or_len has_key xs))
        where
          one : (n : ℕ) → suc n ≡ 1 + n
          one n = omega arith

  place_push : (xs : List Assignment) → length xs ≤ position_or_len has_key xs → with_place xs key place ≡ xs ++ here ∷ []
  place_push [] le = refl
  place_push (x ∷ xs) le = by (has_key x) le (place_push xs)
    where
      by : (b : Bool) → length (x ∷ xs) ≤ cond (not b) (1 + position_or_len has_key xs) 0
          → (length xs ≤ position_or_len has_key xs → with_place xs key place ≡ xs ++ here ∷ [])
          → cond b (here ∷ xs) (x ∷ with_place xs key place) ≡ (x ∷ xs) ++ here ∷ []
      by true le rest = absurd (omega arith)
      by false le rest = ap (λ l. x ∷ l) (rest (omega arith))

  found : (xs : List Assignment) (at : ℕ) → position has_key xs ≡ Some at → (position_or_len has_key xs < length xs) × (position_or_len has_key xs ≡ at)
  found xs at e = by (nat_lt (position_or_len has_key xs) (length xs)) (λ k. grind (arith, nat_tests)) e
    where
      by : (b : Bool) → (b ≡ true → position_or_len has_key xs < length xs) → cond b (Some (position_or_len has_key xs)) None ≡ Some at
          → (position_or_len has_key xs < length xs) × (position_or_len has_key xs ≡ at)
      by true lt e = (lt refl, cc)
      by false lt e = absurd cc

  missing : (xs : List Assignment) → position has_key xs ≡ None → length xs ≤ position_or_len has_key xs
  missing xs e = by (nat_lt (position_or_len has_key xs) (length xs)) (λ k. grind (arith, nat_tests)) e
    where
      by : (b : Bool) → (b ≡ false → length xs ≤ position_or_len has_key xs) → cond b (Some (position_or_len has_key xs)) None ≡ None
          → length xs ≤ position_or_len has_key xs
      by true le e = absurd cc
      by false le e = le refl

  -- the place of the key is written over
  pub place_known : (xs ws : List Assignment) (at : ℕ) → ws ≡ xs → length ws ≤ 33 → position has_key xs ≡ Some at
      → refill (length xs) xs (set ws at here) ≡ take 33 (with_place xs key place)
  place_known xs ws at same few e =
      let k = found xs at e in
      let is : set ws at here ≡ with_place xs key place = ap (λ l. set l at here) same ∙ ap (λ n. set xs n here) (sym k.1) ∙ sym (place_set xs k.0) in
      refill_all xs (set ws at here) (length-set ws at here ∙ ap length same) ∙ sym (take_all 33 (set ws at here) (omega (arith, length-set ws at here)))
      ∙ ap (take 33) is

  -- a key that is new goes to the end, while there is room
  pub place_new : (xs : List Assignment) → length xs < 33 → position has_key xs ≡ None → xs ++ here ∷ [] ≡ take 33 (with_place xs key place)
  place_new xs few e = sym (take_all 33 (xs ++ here ∷ []) (omega (arith, length-append xs (here ∷ [])))) ∙ ap (take 33) (sym (place_push xs (missing xs e)))

  pub place_left : (xs : List Assignment) → length xs ≡ 33 → position has_key xs ≡ None → xs ≡ take 33 (with_place xs key place)
  place_left xs all e = sym (ap (take 33) (place_push xs (missing xs e)) ∙ take-append-le 33 xs (here ∷ []) (omega arith) ∙ take_all 33 xs (omega arith))

-- the test for room
pub has_room : (n : ℕ) → n ≤ 33 → nat_eq n 33 ≡ false → n < 33
has_room n le e = grind (arith, nat_tests)

pub no_room : (n : ℕ) → nat_eq n 33 ≡ true → n ≡ 33
no_room n e = grind (arith, nat_tests)
