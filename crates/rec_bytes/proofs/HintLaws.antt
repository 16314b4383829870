-- What the slots of a write set say of its keys.
use mathlib.Core.Bool.{false≢true}
use Rattle.std.proofs.Common.{◌≡◌, ℕ, zero, suc, ◌+◌, ◌*◌, ◌/◌, ◌-◌, ◌<◌, ◌≤◌, Bool, true, false, cond, List, [], ◌∷◌}
use Rattle.std.proofs.Common.{◌++◌, length, get_or, set, Option, Some, None, is_some, unwrap_or, inl, inr, ⊎_elim}
use Rattle.std.proofs.Common.{IsSome, IfSome, IfNone, sym, ap, ◌∙◌, subst, arith, refl}
use Rattle.std.specs.List.{insert, AllByRecursion}
use Rattle.std.proofs.lemmas.Bool.{cases_lt}
use Rattle.std.proofs.lemmas.List.{length-append, length-set, get_or_default}
use Rattle.std.proofs.lemmas.Nat.{and_le_r}
use Rattle.rec_bytes.specs.declared.record.Rec.{Rec}
use Rattle.rec_bytes.specs.declared.key.Key.{Key}
use Rattle.rec_bytes.specs.Key.{key_eq, IsKey}
use Rattle.rec_bytes.specs.Pairs.{Pairs, most_pairs, find_pair, held_at, with_pair, growth, IsPlaceOf, IsGapFor}
use Rattle.rec_bytes.specs.PairOrder.{no_pair, in_order, IsInOrder}
use Rattle.rec_bytes.specs.PlaceHints.{slot_of, IsMarked, AreMarked, HasPlace, IsHinted, IsPairOf}
use Rattle.rec_bytes.proofs.KeyLaws.{key_eq-same, key_eq_true}
use Rattle.rec_bytes.proofs.PairLaws.{place_of, place_in_range, key_of_place, find_at, find_with}
use Rattle.rec_bytes.proofs.OrderLaws.{all_at, length-in_order, get_or-in_order, place_within, replaced, in_order_replaced, added, in_order_added}

place_index : (order : List ℕ) (place : ℕ) → HasPlace order place → (i : ℕ) × (i < length order) × (get_or order i 0 ≡ place)
place_index [] place h = absurd h
place_index (p ∷ order) place h = ⊎_elim
    (λ (here : p ≡ place). (0, omega arith, here))
    (λ (later : HasPlace order place). let found = place_index order place later in (suc found.0, omega (arith, found.1), found.2))
    h

has_inserted : (order : List ℕ) (i place : ℕ) → HasPlace (insert order i place) place
has_inserted [] zero place = inl refl
has_inserted [] (suc i) place = inl refl
has_inserted (p ∷ order) zero place = inl refl
has_inserted (p ∷ order) (suc i) place = inr (has_inserted order i place)

has_insert : (order : List ℕ) (i new place : ℕ) → HasPlace order place → HasPlace (insert order i new) place
has_insert [] i new place h = absurd h
has_insert (p ∷ order) zero new place h = inr h
has_insert (p ∷ order) (suc i) new place h = ⊎_elim
    (λ (here : p ≡ place). inl here)
    (λ (later : HasPlace order place). inr (has_insert order i new place later))
    h

covers_added : (order : List ℕ) (i n : ℕ) → ((place : ℕ) → place < n → HasPlace order place) → (place : ℕ) → place < n + 1 → HasPlace (insert order i n) place
covers_added order i n covers place lt = ⊎_elim
    (λ (before : place < n). has_insert order i n place (covers place before))
    (λ (from : n ≤ place). let same : n ≡ place = omega arith in subst (HasPlace (insert order i n)) same (has_inserted order i n))
    (cases_lt place n)

-- a place where the key is
pub pair_at_place : (ps : Pairs) (order hints : List ℕ) (key : Key) (place : ℕ) → IsHinted ps order hints → place < length ps
    → (get_or ps place no_pair).0 ≡ key → IsPairOf ps order key place
pair_at_place ps order hints key place is lt same =
    let found = place_index order place (is.covers place lt) in
    record {
      i = found.0;
      here = place_of (in_order ps order) key found.0 no_pair is.ordered.rising
          (subst (λ n. found.0 < n) (sym (length-in_order ps order)) found.1)
          (ap (λ (p : Key × Rec). p.0) (get_or-in_order ps order found.0 no_pair found.1 ∙ ap (λ n. get_or ps n no_pair) found.2) ∙ same);
      stands = found.2;
    }

-- a place that a search found
pub pair_searched : (ps : Pairs) (order : List ℕ) (key : Key) (i place : ℕ) → IsPlaceOf (in_order ps order) key i → get_or order i 0 ≡ place
    → IsPairOf ps order key place
pair_searched ps order key i place here stands = record { i = i; here = here; stands = stands }

pub pair_index : (ps : Pairs) (order : List ℕ) (key : Key) (place : ℕ) (of : IsPairOf ps order key place) → of.i < length order
pair_index ps order key place of = place_within ps order of.i (place_in_range (in_order ps order) key of.i of.here)

pub pair_within : (ps : Pairs) (order : List ℕ) (key : Key) (place : ℕ) → IsInOrder ps order → IsPairOf ps order key place → place < length ps
pair_within ps order key place is of =
    subst (λ n. n < length ps) of.stands (all_at (λ n. n < length ps) order of.i 0 is.places (pair_index ps order key place of))

same_pair : (ps : Pairs) (order : List ℕ) (key : Key) (place : ℕ) (of : IsPairOf ps order key place)
    → get_or (in_order ps order) of.i no_pair ≡ get_or ps place no_pair
same_pair ps order key place of = get_or-in_order ps order of.i no_pair (pair_index ps order key place of) ∙ ap (λ n. get_or ps n no_pair) of.stands

pub pair_key : (ps : Pairs) (order : List ℕ) (key : Key) (place : ℕ) → IsPairOf ps order key place → (get_or ps place no_pair).0 ≡ key
pair_key ps order key place of =
    ap (λ (p : Key × Rec). p.0) (sym (same_pair ps order key place of)) ∙ key_of_place (in_order ps order) key of.i no_pair of.here

pub pair_found : (ps : Pairs) (order : List ℕ) (key : Key) (place : ℕ) → IsPairOf ps order key place
    → find_pair (in_order ps order) key ≡ Some (get_or ps place no_pair).1
pair_found ps order key place of =
    find_at (in_order ps order) key of.i no_pair of.here ∙ ap (λ (p : Key × Rec). Some p.1) (same_pair ps order key place of)

-- what a look for a place says of what is found
pub some_found : (ps : Pairs) (order : List ℕ) (key : Key) (r : Option ℕ) → IfSome r (IsPairOf ps order key)
    → IfNone r (find_pair (in_order ps order) key ≡ None)
    → is_some r ≡ is_some (find_pair (in_order ps order) key)
some_found ps order key (Some place) found absent = sym (ap is_some (pair_found ps order key place found))
some_found ps order key None found absent = sym (ap is_some absent)

-- a key is marked where another put left it so, or this one did
marked_with : (ps : Pairs) (key : Key) (rec : Rec) (old new : List ℕ) → ((q : Key) → IsSome (find_pair ps q) → IsMarked old q) → IsMarked new key
    → ((q : Key) → IsMarked old q → IsMarked new q) → (q : Key) → IsSome (find_pair (with_pair ps key rec) q) → IsMarked new q
marked_with ps key rec old new before here keeps q some = by (key_eq q key) refl
  where
    by : (b : Bool) → key_eq q key ≡ b → IsMarked new q
    by true e = subst (IsMarked new) (sym (key_eq_true q key e)) here
    by false e = keeps q (before q (sym (ap is_some (find_with ps key rec q ∙ ap (λ b. cond b (Some rec) (find_pair ps q)) e)) ∙ some))

-- a write at the place of a key
pub hinted_replaced : (ps : Pairs) (order hints : List ℕ) (key : Key) (rec : Rec) (place : ℕ) → IsHinted ps order hints → IsPairOf ps order key place
    → in_order (set ps place (key, rec)) order ≡ with_pair (in_order ps order) key rec
hinted_replaced ps order hints key rec place is of =
    subst (λ n. in_order (set ps n (key, rec)) order ≡ with_pair (in_order ps order) key rec) of.stands (replaced ps order key rec of.i is.ordered of.here)

pub hinted_set : (ps : Pairs) (order hints : List ℕ) (key : Key) (rec : Rec) (place : ℕ) → IsHinted ps order hints → IsPairOf ps order key place
    → IsHinted (set ps place (key, rec)) order hints
hinted_set ps order hints key rec place is of = record {
  ordered = subst (λ n. IsInOrder (set ps n (key, rec)) order) of.stands (in_order_replaced ps order key rec of.i is.ordered of.here);
  covers = λ p lt. is.covers p (subst (λ n. p < n) (length-set ps place (key, rec)) lt);
  marked = λ q some. marked_with (in_order ps order) key rec hints hints is.marked
      (is.marked key (ap is_some (pair_found ps order key place of))) (λ k m. m) q
      (subst (λ (z : Pairs). IsSome (find_pair z q)) (hinted_replaced ps order hints key rec place is of) some);
}

written_kept : (hints : List ℕ) (slot hint n : ℕ) → 0 < hint → 0 < get_or hints n 1 → 0 < get_or (set hints slot hint) n 1
written_kept [] zero hint n positive h = h
written_kept [] (suc slot) hint n positive h = h
written_kept (x ∷ hints) zero hint zero positive h = positive
written_kept (x ∷ hints) zero hint (suc n) positive h = h
written_kept (x ∷ hints) (suc slot) hint zero positive h = h
written_kept (x ∷ hints) (suc slot) hint (suc n) positive h = written_kept hints slot hint n positive h

written_here : (hints : List ℕ) (slot hint : ℕ) → 0 < hint → 0 < get_or (set hints slot hint) slot 1
written_here [] zero hint positive = omega arith
written_here [] (suc slot) hint positive = omega arith
written_here (x ∷ hints) zero hint positive = positive
written_here (x ∷ hints) (suc slot) hint positive = written_here hints slot hint positive

-- a write of a slot marks its key, and leaves each key marked that was
pub marked_kept : (old new : List ℕ) (slot hint : ℕ) → 0 < hint → new ≡ set old slot hint → (q : Key) → IsMarked old q → IsMarked new q
marked_kept old new slot hint positive is q h =
    subst (λ z. IsMarked z q) (sym is)
    (subst (λ n. 0 < get_or (set old slot hint) (slot_of n q) 1) (sym (length-set old slot hint)) (written_kept old slot hint (slot_of (length old) q)
    positive h))

pub marked_here : (old new : List ℕ) (key : Key) (hint : ℕ) → 0 < hint → new ≡ set old (slot_of (length old) key) hint → IsMarked new key
marked_here old new key hint positive is =
    let slot = slot_of (length old) key in
    subst (λ z. IsMarked z key) (sym is)
    (subst (λ n. 0 < get_or (set old slot hint) (slot_of n key) 1) (sym (length-set old slot hint)) (written_here old slot hint positive))

-- a new pair, with its slot written
pub hinted_added : (ps : Pairs) (order old new : List ℕ) (key : Key) (rec : Rec) (i hint : ℕ) → IsHinted ps order old → IsGapFor (in_order ps order) key i
    → IsKey key
    → length ps < most_pairs → 0 < hint → new ≡ set old (slot_of (length old) key) hint → IsHinted (ps ++ (key, rec) ∷ []) (insert order i (length ps)) new
hinted_added ps order old new key rec i hint is gap valid few positive written =
    let longer : length (ps ++ (key, rec) ∷ []) ≡ length ps + 1 = simp length-append in
    record {
      ordered = in_order_added ps order key rec i is.ordered gap valid few;
      covers = λ p lt. covers_added order i (length ps) is.covers p (subst (λ n. p < n) longer lt);
      marked = λ q some. marked_with (in_order ps order) key rec old new is.marked
          (marked_here old new key hint positive written) (marked_kept old new (slot_of (length old) key) hint positive written) q
          (subst (λ (z : Pairs). IsSome (find_pair z q)) (added ps order key rec i is.ordered gap) some);
    }

found_among : (ps : Pairs) (order : List ℕ) (q : Key) → AllByRecursion (λ place. place < length ps) order → IsSome (find_pair (in_order ps order) q)
    → (k : ℕ) × (k < length ps) × ((get_or ps k no_pair).0 ≡ q)
found_among ps [] q places some = absurd (false≢true some)
found_among ps (p ∷ order) q places some = by (key_eq q (get_or ps p no_pair).0) refl (found_among ps order q places.1)
  where
    by : (b : Bool) → key_eq q (get_or ps p no_pair).0 ≡ b
        → (IsSome (find_pair (in_order ps order) q) → (k : ℕ) × (k < length ps) × ((get_or ps k no_pair).0 ≡ q))
        → (k : ℕ) × (k < length ps) × ((get_or ps k no_pair).0 ≡ q)
    by true e rest = (p, places.0, sym (key_eq_true q (get_or ps p no_pair).0 e))
    by false e rest = rest (sym (ap (λ b. is_some (cond b (Some (get_or ps p no_pair).1) (find_pair (in_order ps order) q))) e) ∙ some)

-- slots that were made anew
pub hinted_anew : (ps : Pairs) (order old new : List ℕ) → IsHinted ps order old → AreMarked new ps → IsHinted ps order new
hinted_anew ps order old new is all = record {
  ordered = is.ordered;
  covers = is.covers;
  marked = λ q some. let found = found_among ps order q is.ordered.places some in subst (IsMarked new) found.2 (all found.0 found.1);
}

-- by how much a put makes the pairs longer
pub growth_some : (ps : Pairs) (key : Key) (b : Bool) → b ≡ is_some (find_pair ps key) → growth ps key ≡ cond b 0 1
growth_some ps key b is = ap (λ x. cond x 0 1) (sym is)

pub none_found : (ps : Pairs) (key : Key) → is_some (find_pair ps key) ≡ false → find_pair ps key ≡ None
none_found ps key h = by (find_pair ps key) refl
  where
    by : (o : Option Rec) → find_pair ps key ≡ o → find_pair ps key ≡ None
    by None e = e
    by (Some rec) e = absurd (false≢true (sym h ∙ ap is_some e))

pub slot_below : (slots : ℕ) (key : Key) → 0 < slots → slot_of slots key < slots
unfolding slot_of
slot_below slots key h = omega (arith, and_le_r ((key.id * 2654435769 + key.file * 31415927) / 4096) (slots - 1))

-- what a read of the place gives
pub pair_read : (ps : Pairs) (order : List ℕ) (key : Key) (place : ℕ) (pair : Key × Rec) → IsInOrder ps order → IsPairOf ps order key place
    → pair ≡ get_or ps place pair → get_or ps place no_pair ≡ pair
pair_read ps order key place pair is of read = get_or_default ps place no_pair pair (pair_within ps order key place is of) ∙ sym read

pub held_put : (ps : Pairs) (key : Key) (absent : Rec) → find_pair ps key ≡ None → find_pair (with_pair ps key absent) key ≡ Some (held_at ps key absent)
held_put ps key absent none =
    find_with ps key absent key ∙ ap (λ b. cond b (Some absent) (find_pair ps key)) (key_eq-same key)
    ∙ ap (λ o. Some (unwrap_or o absent)) (sym none)
