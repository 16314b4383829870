-- Which nodes of entries are seen, and numbers that come twice.
use Rattle.std.proofs.Common.{◌≡◌, ◌≢◌, ℕ, zero, suc, ◌+◌, ◌<◌, Bool, true, false, ◌||◌, List, [], ◌∷◌, ◌++◌, length}
use Rattle.std.proofs.Common.{map, take, get_or, nat_eq, sym, ap, ◌∙◌, subst, inl, inr, arith, refl}
use Rattle.std.proofs.lemmas.Bool.{true≢false}
use Rattle.std.proofs.lemmas.List.{take_more}
use Rattle.record_lists.specs.Seen.{is_among}
use Rattle.record_lists.proofs.LineLaws.{among_from_in, in_from_among}
use Rattle.store_rules.specs.Chains.{In}
use Rattle.store_rules.specs.Properties.{AreOnce}
use Rattle.store_rules.proofs.OnceLaws.{once_both}
use Rattle.index_check.specs.Nodes.{IsTwice}
use Rattle.index_check.proofs.PlaceLaws.{in_place}

-- a number that was met before its turn comes twice
pub twice_at : (n : ℕ) (xs : List ℕ) (i : ℕ) → i < length xs → n ≡ get_or xs i 0 → In n (take i xs) → IsTwice n xs
twice_at n [] i lt is met = absurd (omega arith)
twice_at n (x ∷ xs) zero lt is met = elim met [ ]
twice_at n (x ∷ xs) (suc i) lt is (inl e) = inl (e, subst (λ z. In z xs) (sym is) (in_place xs i (omega arith)))
twice_at n (x ∷ xs) (suc i) lt is (inr m) = inr (twice_at n xs i (omega arith) is m)

pub twice_met : (n : ℕ) (xs : List ℕ) (i : ℕ) → i < length xs → n ≡ get_or xs i 0 → is_among (take i xs) n ≡ true → IsTwice n xs
twice_met n xs i lt is met = twice_at n xs i lt is (in_from_among n (take i xs) met)

-- one more that wasn't
pub once_more : (xs : List ℕ) (i : ℕ) → i < length xs → AreOnce (take i xs) → is_among (take i xs) (get_or xs i 0) ≡ false → AreOnce (take (i + 1) xs)
once_more xs i lt once fresh = subst AreOnce (sym (take_more xs i 0 lt))
    (once_both (take i xs) (get_or xs i 0 ∷ []) once ((λ k. k), tt)
    (λ x m here. apart x m here))
  where
    apart : (x : ℕ) → In x (take i xs) → In x (get_or xs i 0 ∷ []) → ⊥
    apart x m (inl e) = true≢false (sym (among_from_in (get_or xs i 0) (take i xs) (subst (λ z. In z (take i xs)) e m)) ∙ fresh)
    apart x m (inr none) = none

or_one : (a b c : Bool) → ((a || b) || c) ≡ (a || (b || c))
or_one true b c = refl
or_one false b c = refl

or_none : (a : Bool) → (a || false) ≡ a
or_none true = refl
or_none false = refl

or_swap : (a b : Bool) → (a || b) ≡ (b || a)
or_swap true true = refl
or_swap true false = refl
or_swap false true = refl
or_swap false false = refl

among-append : (p : ℕ) (xs ys : List ℕ) → is_among (xs ++ ys) p ≡ (is_among xs p || is_among ys p)
among-append p [] ys = refl
among-append p (x ∷ xs) ys = ap (λ b. nat_eq p x || b) (among-append p xs ys) ∙ sym (or_one (nat_eq p x) (is_among xs p) (is_among ys p))

pub among_more : (xs : List ℕ) (i p : ℕ) → i < length xs → is_among (take (i + 1) xs) p ≡ (nat_eq p (get_or xs i 0) || is_among (take i xs) p)
among_more xs i p lt = ap (λ ys. is_among ys p) (take_more xs i 0 lt) ∙ among-append p (take i xs) (get_or xs i 0 ∷ [])
    ∙ ap (λ b. is_among (take i xs) p || b) (or_none (nat_eq p (get_or xs i 0))) ∙ or_swap (is_among (take i xs) p) (nat_eq p (get_or xs i 0))

-- what a function makes of two members is the same
pub record AreTwo (f : ℕ → ℕ) (n : ℕ) (xs : List ℕ) : Type 0 where
  pub one : ℕ
  pub other : ℕ
  pub member : In one xs
  pub also : In other xs
  pub apart : one ≢ other
  pub is : f one ≡ n
  pub also_is : f other ≡ n

pub map_in : (f : ℕ → ℕ) (n : ℕ) (xs : List ℕ) → In n (map f xs) → (x : ℕ) × In x xs × (f x ≡ n)
map_in f n [] i = elim i [ ]
map_in f n (x ∷ xs) (inl e) = (x, inl refl, sym e)
map_in f n (x ∷ xs) (inr i) = let r = map_in f n xs i in (r.0, inr r.1, r.2)

-- so a number that comes twice among what it makes is that of two members
pub twice_two : (f : ℕ → ℕ) (n : ℕ) (xs : List ℕ) → AreOnce xs → IsTwice n (map f xs) → AreTwo f n xs
twice_two f n [] once h = elim h [ ]
twice_two f n (x ∷ xs) once (inl h) =
    let r = map_in f n xs h.1 in
    record { one = x; other = r.0; member = inl refl; also = inr r.1; apart = λ e. once.0 (subst (λ z. In z xs) (sym e) r.1); is = sym h.0; also_is = r.2 }
twice_two f n (x ∷ xs) once (inr h) =
    let r = twice_two f n xs once.1 h in
    record { one = r.one; other = r.other; member = inr r.member; also = inr r.also; apart = r.apart; is = r.is; also_is = r.also_is }

pub in_map : (f : ℕ → ℕ) (x : ℕ) (xs : List ℕ) → In x xs → In (f x) (map f xs)
in_map f x [] i = elim i [ ]
in_map f x (y ∷ ys) (inl e) = inl (ap f e)
in_map f x (y ∷ ys) (inr i) = inr (in_map f x ys i)

-- what tells all that it makes apart tells members apart
pub once_apart : (f : ℕ → ℕ) (xs : List ℕ) → AreOnce (map f xs) → (p q : ℕ) → In p xs → In q xs → f p ≡ f q → p ≡ q
once_apart f [] h p q i j e = elim i [ ]
once_apart f (x ∷ xs) h p q (inl a) (inl b) e = a ∙ sym b
once_apart f (x ∷ xs) h p q (inl a) (inr j) e = absurd (h.0 (subst (λ k. In k (map f xs)) (sym e ∙ ap f a) (in_map f q xs j)))
once_apart f (x ∷ xs) h p q (inr i) (inl b) e = absurd (h.0 (subst (λ k. In k (map f xs)) (e ∙ ap f b) (in_map f p xs i)))
once_apart f (x ∷ xs) h p q (inr i) (inr j) e = once_apart f xs h.1 p q i j e
