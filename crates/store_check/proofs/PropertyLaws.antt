-- Lists of properties as lines.
use Rattle.std.proofs.Common.{◌≡◌, ℕ, ◌<◌, ◌≤◌, true, false, List, [], ◌∷◌, map, length, nat_eq, sym, ap, ◌∙◌, subst, inl, inr, arith, refl}
use Rattle.std.specs.List.{AllByRecursion, IsDistinct, list_all}
use Rattle.std.proofs.Math.Dec.{eqb}
use Rattle.std.proofs.lemmas.Bool.{eq-eqb, true≢false}
use Rattle.std.proofs.lemmas.Bool.Decides.{nat_tests}
use Rattle.rec_bytes.specs.Format as format
use Rattle.store_rules.specs.Chains.{In, IsWalk}
use Rattle.store_rules.specs.Properties.{AreOnce}
use Rattle.store_rules.specs.Views.{Records, high}
use Rattle.store_rules.proofs.NumberLaws.{and_parts, lt_true}
use Rattle.store_rules.proofs.OnceLaws.{map_in, once_map, once_walk}
use Rattle.store_rules.proofs.PropertyWalks.{walk_is}
use Rattle.store_rules.specs.Breaking.{IsPropertyList, key_of, next_property}
use Rattle.store_check.specs.Elements.{AreKeys, is_below, property_line}
use Rattle.record_lists.specs.Lines.{IsLineIn}
use Rattle.record_lists.proofs.LiveLaws.{line_from, live_from, walk_from}
use Rattle.record_lists.proofs.LineLaws.{apart_from, in_map}

-- ---- numbers none of which comes twice

apart_in : (x y : ℕ) (xs : List ℕ) → AllByRecursion (λ z. eqb x z ≡ false) xs → In y xs → eqb x y ≡ false
apart_in x y [] h i = elim i [ ]
apart_in x y (z ∷ zs) h (inl e) = ap (eqb x) e ∙ h.0
apart_in x y (z ∷ zs) h (inr i) = apart_in x y zs h.1 i

once_of : (xs : List ℕ) → IsDistinct nat_eq xs → AreOnce xs
unfolding IsDistinct
once_of [] h = tt
once_of (x ∷ xs) h = ((λ i. true≢false (sym (eq-eqb x x refl) ∙ apart_in x x xs h.0 i)), once_of xs h.1)

distinct_of : (xs : List ℕ) → AreOnce xs → IsDistinct nat_eq xs
unfolding IsDistinct
distinct_of [] h = tt
distinct_of (x ∷ xs) h = (apart_from x xs h.0, distinct_of xs h.1)

-- what is told apart by its number
once_apart : (f : ℕ → ℕ) (xs : List ℕ) → AreOnce (map f xs) → (p q : ℕ) → In p xs → In q xs → f p ≡ f q → p ≡ q
once_apart f [] h p q i j e = elim i [ ]
once_apart f (x ∷ xs) h p q (inl a) (inl b) e = a ∙ sym b
once_apart f (x ∷ xs) h p q (inl a) (inr j) e = absurd (h.0 (subst (λ k. In k (map f xs)) (sym e ∙ ap f a) (in_map f q xs j)))
once_apart f (x ∷ xs) h p q (inr i) (inl b) e = absurd (h.0 (subst (λ k. In k (map f xs)) (e ∙ ap f b) (in_map f p xs i)))
once_apart f (x ∷ xs) h p q (inr i) (inr j) e = once_apart f xs h.1 p q i j e

below_of : (mark n : ℕ) → is_below mark n ≡ true → n < mark
below_of mark n h = grind (arith, nat_tests)

all_below_in : (mark : ℕ) (xs : List ℕ) → list_all (is_below mark) xs ≡ true → (x : ℕ) → In x xs → x < mark
all_below_in mark [] h x i = elim i [ ]
all_below_in mark (y ∷ ys) h x (inl e) = subst (λ z. z < mark) (sym e) (below_of mark y (and_parts (is_below mark y) (list_all (is_below mark) ys) h).0)
all_below_in mark (y ∷ ys) h x (inr i) = all_below_in mark ys (and_parts (is_below mark y) (list_all (is_below mark) ys) h).1 x i

below_all : (mark : ℕ) (xs : List ℕ) → ((x : ℕ) → In x xs → x < mark) → list_all (is_below mark) xs ≡ true
below_all mark [] h = refl
below_all mark (y ∷ ys) h = rw (lt_true y mark (h y (inl refl)), below_all mark ys (λ x i. h x (inr i))) refl

-- ---- the properties from one on

module _ (records : Records) (first : ℕ) where
  abbrev pub IsIt : List ℕ → Type 0
  IsIt xs = IsLineIn property_line records (high records format.properties_file) first xs

  pub no_properties : ((xs : List ℕ) → ¬ IsIt xs) → (xs : List ℕ) → ¬ IsPropertyList records first xs
  no_properties none xs h = none xs (line_from records format.properties_file format.property_next first xs h.walk h.live)

  pub properties_one : (xs ys : List ℕ) → IsPropertyList records first xs → IsPropertyList records first ys → xs ≡ ys
  properties_one xs ys h k = walk_is (next_property records) first xs ys h.walk k.walk

  module _ (room : high records format.properties_file ≤ format.most_ids) (xs : List ℕ) (it : IsIt xs) where
    its_walk : IsWalk (next_property records) first xs
    its_walk = walk_from records format.properties_file format.property_next first room xs it

    pub properties_of : length xs ≤ 32 → AreKeys (high records format.names_file) (map (key_of records) xs) → IsPropertyList records first xs
    properties_of few keys = record {
      walk = its_walk;
      live = live_from records format.properties_file format.property_next first room xs it;
      few = few;
      named = λ p i. all_below_in (high records format.names_file) (map (key_of records) xs) keys.named (key_of records p) (in_map (key_of records) p xs i);
      distinct = once_apart (key_of records) xs (once_of (map (key_of records) xs) keys.distinct);
    }

    pub keys_from : (ys : List ℕ) → IsPropertyList records first ys → (length xs ≤ 32) × AreKeys (high records format.names_file) (map (key_of records) xs)
    keys_from ys h =
        let same : ys ≡ xs = walk_is (next_property records) first ys xs h.walk its_walk in
        let l : IsPropertyList records first xs = subst (IsPropertyList records first) same h in (
          l.few,
          record {
            named = below_all (high records format.names_file) (map (key_of records) xs)
                (λ k i. let m = map_in (key_of records) k xs i in subst (λ z. z < high records format.names_file) (sym m.2) (l.named m.0 m.1));
            distinct = distinct_of (map (key_of records) xs) (once_map (key_of records) xs (once_walk (next_property records) first xs its_walk) l.distinct);
          },
        )
