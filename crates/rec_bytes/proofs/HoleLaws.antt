-- What filling a hole in the order of a write set leaves.
use Rattle.std.proofs.Common.{◌≡◌, ℕ, ◌+◌, ◌-◌, ◌<◌, ◌≤◌, cond, is_some, List, [], ◌∷◌, ◌++◌, length, get_or, set, take}
use Rattle.std.proofs.Common.{drop, replicate, sym, ap, ◌∙◌, subst, arith, append_assoc, append-nil, ⊎_elim}
use lib.Seq.{paste}
use Rattle.std.specs.List.{insert}
use Rattle.std.specs.declared.cmp.Ordering.TheVariants.{Less}
use Rattle.std.proofs.lemmas.Bool.{cases_lt}
use Rattle.std.proofs.lemmas.List.{length-append, length-drop, length-replicate, length-take-le, take-append-drop}
use Rattle.std.proofs.lemmas.List.{take_at, drop_at, drop_all, drop-drop, drop-set-lt, get_or-drop, get_or-append_right}
use Rattle.std.proofs.lemmas.List.{get_or-set_same, length-set, take_more_set}
use Rattle.std.proofs.lemmas.List.Edits.{length-paste, take-paste, drop-paste, insert-append_right, get_or-insert_at}
use Rattle.rec_bytes.specs.declared.record.Rec.{Rec}
use Rattle.rec_bytes.specs.declared.key.Key.{Key}
use Rattle.rec_bytes.specs.declared.order_hole.Hole.{Hole}
use Rattle.rec_bytes.specs.Key.{key_cmp, IsKey}
use Rattle.rec_bytes.specs.Pairs.{Pairs, most_pairs, with_pair, growth, IsOrdered, IsPlaceOf, IsGapFor}
use Rattle.rec_bytes.specs.PairOrder.{no_pair, in_order}
use Rattle.rec_bytes.specs.PlaceHints.{slot_of, IsHinted, IsPairOf}
use Rattle.rec_bytes.specs.OrderHole.{around, AreBelow, IsOpen}
use Rattle.rec_bytes.proofs.PairLaws.{keys_total, same_cmp, key_of_place, rises, set_place, insert_gap, ordered_with}
use Rattle.rec_bytes.proofs.PairLaws.{length-with_gap, place_in_range, gap_in_range}
use Rattle.rec_bytes.proofs.OrderLaws.{added, gap_within, place_read}
use Rattle.rec_bytes.proofs.HintLaws.{hinted_added, hinted_set, hinted_replaced, pair_found, pair_searched}

-- a hole of no places
pub around_none : (order : List ℕ) (hole : Hole) → hole.size ≡ 0 → around order hole ≡ order
around_none order hole none =
    let same : hole.start + hole.size ≡ hole.start = omega arith in
    ap (λ n. take hole.start order ++ drop n order) same ∙ take-append-drop hole.start order

pub length-around : (order : List ℕ) (hole : Hole) → hole.start + hole.size ≤ length order → length (around order hole) + hole.size ≡ length order
length-around order hole within =
    let both = length-append (take hole.start order) (drop (hole.start + hole.size) order) in
    let front = length-take-le hole.start order (omega arith) in
    let back = length-drop (hole.start + hole.size) order in
    omega (arith, both, front, back)

-- behind the hole a place stands further on by the hole
pub get_or-around : (order : List ℕ) (hole : Hole) (i d : ℕ) → hole.start + hole.size ≤ length order → hole.start ≤ i
    → get_or (around order hole) i d ≡ get_or order (i + hole.size) d
get_or-around order hole i d within from =
    let at : hole.start + hole.size + (i - hole.start) ≡ i + hole.size = omega arith in
    get_or-append_right (take hole.start order) (drop (hole.start + hole.size) order) hole.start i d (length-take-le hole.start order (omega arith)) from
    ∙ get_or-drop (hole.start + hole.size) order (i - hole.start) d
    ∙ ap (λ n. get_or order n d) at

-- all places move behind a hole
pub around_opened : (old filled new : List ℕ) (hole : Hole) (size n : ℕ) → hole.start ≡ 0 → hole.size ≡ size → filled ≡ old ++ replicate size 0 → n ≡ length old
    → new ≡ paste filled size filled n → around new hole ≡ old
around_opened old filled new hole size n starts sized is count made =
    let long : length filled ≡ length old + size = ap length is ∙ length-append old (replicate size 0) ∙ ap (λ k. length old + k) (length-replicate size 0) in
    let past : hole.start + hole.size ≡ size = omega arith in
    ap (λ k. take k new ++ drop (hole.start + hole.size) new) starts
    ∙ ap (λ k. drop k new) past
    ∙ ap (drop size) (made ∙ append_assoc (take size filled) (take n filled) (drop (size + n) filled))
    ∙ drop_at (take size filled) (take n filled ++ drop (size + n) filled) size (length-take-le size filled (omega arith))
    ∙ ap (λ z. take n filled ++ z) (drop_all (size + n) filled (omega arith))
    ∙ append-nil (take n filled)
    ∙ ap (take n) is
    ∙ take_at old (replicate size 0) n (sym count)

-- the places before the i-th one move to the front of the hole, and a new one follows them
pub around_filled : (old new : List ℕ) (hole next : Hole) (i place n : ℕ) → hole.start ≤ i → 0 < hole.size → i + hole.size ≤ length old → n ≡ i - hole.start
    → next.start ≡ i + 1 → next.size ≡ hole.size - 1 → new ≡ set (paste old hole.start (drop (hole.start + hole.size) old) n) i place
    → around new next ≡ insert (around old hole) i place
around_filled old new hole next i place n from some within count starts sized made =
    let front = take hole.start old in
    let back = drop (hole.start + hole.size) old in
    let moved = paste old hole.start back n in
    let at : hole.start + n ≡ i = omega arith in
    let left = length-drop (hole.start + hole.size) old in
    let fits : n ≤ length back = omega (arith, left) in
    let whole : length moved ≡ length old = length-paste old hole.start back n (omega arith) fits in
    let filled : take next.start new ≡ (front ++ take n back) ++ place ∷ [] =
    ap (λ k. take k new) starts ∙ ap (take (i + 1)) made ∙ take_more_set moved i place (omega arith)
    ∙ ap (λ z. z ++ place ∷ []) (ap (λ k. take k moved) (sym at) ∙ take-paste old hole.start back n (omega arith) fits) in
    let past : next.start + next.size ≡ hole.start + n + hole.size = omega arith in
    let far : hole.start + n + hole.size ≡ hole.start + hole.size + n = omega arith in
    let rest : drop (next.start + next.size) new ≡ drop n back =
    ap (λ k. drop k new) past ∙ ap (drop (hole.start + n + hole.size)) made ∙ drop-set-lt (hole.start + n + hole.size) moved i place (omega arith)
    ∙ sym (drop-drop hole.size (hole.start + n) moved)
    ∙ ap (drop hole.size) (drop-paste old hole.start back n (omega arith) fits)
    ∙ drop-drop hole.size (hole.start + n) old
    ∙ ap (λ k. drop k old) far
    ∙ sym (drop-drop n (hole.start + hole.size) old) in
    ap (λ z. z ++ drop (next.start + next.size) new) filled
    ∙ ap (λ z. ((front ++ take n back) ++ place ∷ []) ++ z) rest
    ∙ append_assoc (front ++ take n back) (place ∷ []) (drop n back)
    ∙ append_assoc front (take n back) (place ∷ drop n back)
    ∙ ap (λ k. front ++ (take k back ++ place ∷ drop k back)) count
    ∙ sym (insert-append_right front back hole.start i place (length-take-le hole.start old (omega arith)) from)

-- what stands up to a key is smaller than a greater one
pub below_next : (ps : Pairs) (i count : ℕ) (key next : Key) → IsOrdered ps → i < length ps → (get_or ps i no_pair).0 ≡ key → count ≤ i + 1
    → key_cmp key next ≡ Less
    → AreBelow ps count next
below_next ps i count key next rising within here few less k lt = ⊎_elim
    (λ (before : k < i). keys_total.trans (get_or ps k no_pair).0 key next
    (subst (λ q. key_cmp (get_or ps k no_pair).0 q ≡ Less) here (rises ps k i no_pair rising before within)) less)
    (λ (from : i ≤ k).
    let same : i ≡ k = omega arith in
    subst (λ q. key_cmp q next ≡ Less) (sym here ∙ ap (λ n. (get_or ps n no_pair).0) same) less)
    (cases_lt k i)

-- the key of a put stands where it was found, or where there was a gap for it
pub found_put : (ps : Pairs) (key : Key) (rec : Rec) (i : ℕ) → IsPlaceOf ps key i → (get_or (with_pair ps key rec) i no_pair).0 ≡ key
found_put ps key rec i h =
    ap (λ (p : Pairs). (get_or p i no_pair).0) (sym (set_place ps key rec i h))
    ∙ ap (λ (p : Key × Rec). p.0) (get_or-set_same ps i (key, rec) no_pair (place_in_range ps key i h))

pub gap_put : (ps : Pairs) (key : Key) (rec : Rec) (i : ℕ) → IsGapFor ps key i → (get_or (with_pair ps key rec) i no_pair).0 ≡ key
gap_put ps key rec i h =
    ap (λ (p : Pairs). (get_or p i no_pair).0) (sym (insert_gap ps key rec i h))
    ∙ ap (λ (p : Key × Rec). p.0) (get_or-insert_at ps i (key, rec) no_pair (gap_in_range ps key i h))

-- how long the pairs are then
pub length-found_put : (ps : Pairs) (key : Key) (rec : Rec) (i : ℕ) → IsPlaceOf ps key i → length (with_pair ps key rec) ≡ length ps
length-found_put ps key rec i h = ap length (sym (set_place ps key rec i h)) ∙ length-set ps i (key, rec)

pub growth_pair : (ps : Pairs) (order : List ℕ) (key : Key) (place : ℕ) → IsPairOf ps order key place → growth (in_order ps order) key ≡ 0
growth_pair ps order key place of = ap (λ o. cond (is_some o) 0 1) (pair_found ps order key place of)

-- a key that isn't before the hole is found behind it
pub not_before : (ps : Pairs) (start : ℕ) (key : Key) (i : ℕ) → AreBelow ps start key → IsPlaceOf ps key i → start ≤ i
not_before ps start key i below found = ⊎_elim
    (λ (before : i < start).
    let less = below i before in
    let same = same_cmp (get_or ps i no_pair).0 key (key_of_place ps key i no_pair found) in
    absurd cc)
    (λ (from : start ≤ i). from)
    (cases_lt i start)

-- the place that is read there
pub pair_behind : (ps : Pairs) (order hints : List ℕ) (hole : Hole) (key : Key) (i place : ℕ) → IsOpen ps order hints hole
    → AreBelow (in_order ps (around order hole)) hole.start key
    → IsPlaceOf (in_order ps (around order hole)) key i → place ≡ get_or order (i + hole.size) place → IsPairOf ps (around order hole) key place
pair_behind ps order hints hole key i place is below found read =
    let pairs = in_order ps (around order hole) in
    pair_searched ps (around order hole) key i place found
    (place_read ps (around order hole) i place (place_in_range pairs key i found)
    (read ∙ sym (get_or-around order hole i place is.within (not_before pairs hole.start key i below found))))

-- a record that is written over leaves the hole as it is
pub open_set : (ps : Pairs) (order hints : List ℕ) (hole : Hole) (key : Key) (rec : Rec) (place : ℕ) → IsOpen ps order hints hole
    → IsPairOf ps (around order hole) key place
    → IsOpen (set ps place (key, rec)) order hints hole
open_set ps order hints hole key rec place is of = record {
  hinted = hinted_set ps (around order hole) hints key rec place is.hinted of;
  within = is.within;
  most = let same = length-set ps place (key, rec) in omega (arith, same, is.most);
}

-- and the next key isn't before it
pub below_set : (ps : Pairs) (order hints : List ℕ) (hole : Hole) (key next : Key) (rec : Rec) (place : ℕ) → IsOpen ps order hints hole
    → AreBelow (in_order ps (around order hole)) hole.start key → IsPairOf ps (around order hole) key place → key_cmp key next ≡ Less
    → AreBelow (in_order (set ps place (key, rec)) (around order hole)) hole.start next
below_set ps order hints hole key next rec place is below of less =
    let old = in_order ps (around order hole) in
    let put = hinted_replaced ps (around order hole) hints key rec place is.hinted of in
    let from = not_before old hole.start key of.i below of.here in
    subst (λ (p : Pairs). AreBelow p hole.start next) (sym put)
    (below_next (with_pair old key rec) of.i hole.start key next (ordered_with old key rec is.hinted.ordered.rising)
    (let same = length-found_put old key rec of.i of.here in omega (arith, same, place_in_range old key of.i of.here)) (found_put old key rec of.i of.here)
    (omega (arith, from)) less)

-- a new pair takes the last place of the hole, which goes behind it
pub open_added : (ps : Pairs) (order hints order_new hints_new : List ℕ) (hole next : Hole) (key : Key) (rec : Rec) (i hint : ℕ) → IsOpen ps order hints hole
    → IsGapFor (in_order ps (around order hole)) key i → IsKey key → 0 < hole.size → 0 < hint → hints_new ≡ set hints (slot_of (length hints) key) hint
    → next.start ≡ i + 1 → hole.size ≡ next.size + 1 → length order_new ≡ length order → around order_new next ≡ insert (around order hole) i (length ps)
    → IsOpen (ps ++ (key, rec) ∷ []) order_new hints_new next
open_added ps order hints order_new hints_new hole next key rec i hint is gap valid some positive written starts sized count filled =
    let longer : length (ps ++ (key, rec) ∷ []) ≡ length ps + 1 = simp length-append in
    let few : length ps < most_pairs = omega (arith, is.most) in
    let reached = gap_within ps (around order hole) key i gap in
    let long = length-around order hole is.within in
    record {
      hinted = subst (λ o. IsHinted (ps ++ (key, rec) ∷ []) o hints_new) (sym filled)
          (hinted_added ps (around order hole) hints hints_new key rec i hint is.hinted gap valid few positive written);
      within = omega (arith, reached, long, starts, sized, count);
      most = omega (arith, longer, sized, is.most);
    }

-- and the pairs are those with it
pub pairs_added : (ps : Pairs) (order hints order_new : List ℕ) (hole next : Hole) (key : Key) (rec : Rec) (i : ℕ) → IsOpen ps order hints hole
    → IsGapFor (in_order ps (around order hole)) key i → around order_new next ≡ insert (around order hole) i (length ps)
    → in_order (ps ++ (key, rec) ∷ []) (around order_new next) ≡ with_pair (in_order ps (around order hole)) key rec
pairs_added ps order hints order_new hole next key rec i is gap filled =
    ap (in_order (ps ++ (key, rec) ∷ [])) filled ∙ added ps (around order hole) key rec i is.hinted.ordered gap

pub below_added : (ps now : Pairs) (order hints : List ℕ) (hole : Hole) (key next : Key) (rec : Rec) (i start : ℕ) → IsOpen ps order hints hole
    → IsGapFor (in_order ps (around order hole)) key i → now ≡ with_pair (in_order ps (around order hole)) key rec → start ≡ i + 1 → key_cmp key next ≡ Less
    → AreBelow now start next
below_added ps now order hints hole key next rec i start is gap put starts less =
    let old = in_order ps (around order hole) in
    subst (λ (p : Pairs). AreBelow p start next) (sym put)
    (below_next (with_pair old key rec) i start key next (ordered_with old key rec is.hinted.ordered.rising)
    (let longer = length-with_gap old key rec i gap in omega (arith, longer, gap_in_range old key i gap)) (gap_put old key rec i gap) (omega arith) less)
