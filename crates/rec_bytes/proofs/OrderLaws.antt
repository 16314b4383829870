-- Pairs in the order of first put, seen along their places.
use Rattle.std.proofs.Common.{◌≡◌, ◌≢◌, ℕ, zero, suc, ◌+◌, ◌<◌, ◌≤◌, List, [], ◌∷◌, ◌++◌, length, get_or, set, Ordering}
use Rattle.std.proofs.Common.{get_or-set_same, get_or-set_other, sym, ap, ◌∙◌, subst, arith, refl}
use Rattle.std.specs.List.{insert, AllByRecursion}
use Rattle.std.specs.declared.cmp.Ordering.TheVariants.{Less, Equal, Greater}
use Rattle.std.proofs.lemmas.List.{length-append, length-set, get_or_append_left, get_or_default}
use Rattle.std.proofs.lemmas.List.Edits.{length-insert}
use Rattle.std.proofs.Math.Seq.{get_or-append_seam}
use Rattle.rec_bytes.specs.declared.record.Rec.{Rec}
use Rattle.rec_bytes.specs.declared.key.Key.{Key}
use Rattle.rec_bytes.specs.Key.{key_cmp, IsKey}
use Rattle.rec_bytes.specs.Pairs.{Pairs, most_pairs, with_pair, IsBelow, IsOrdered, IsPlaceOf, IsGapFor}
use Rattle.rec_bytes.specs.PairOrder.{no_pair, in_order, IsInOrder}
use Rattle.rec_bytes.proofs.PairLaws.{same_cmp, set_place, insert_gap, ordered_with, key_of_place, place_in_range, gap_in_range, all_with}

pub length-in_order : (ps : Pairs) (order : List ℕ) → length (in_order ps order) ≡ length order
length-in_order ps [] = refl
length-in_order ps (place ∷ order) = omega (arith, length-in_order ps order)

pub get_or-in_order : (ps : Pairs) (order : List ℕ) (i : ℕ) (d : Key × Rec) → i < length order
    → get_or (in_order ps order) i d ≡ get_or ps (get_or order i 0) no_pair
get_or-in_order ps [] i d lt = absurd (omega arith)
get_or-in_order ps (place ∷ order) zero d lt = refl
get_or-in_order ps (place ∷ order) (suc i) d lt = get_or-in_order ps order i d (omega arith)

-- what holds of each element holds at each place
pub all_at : {X : Type 0} (P : X → Type 0) (xs : List X) (i : ℕ) (d : X) → AllByRecursion P xs → i < length xs → P (get_or xs i d)
all_at P [] i d all lt = absurd (omega arith)
all_at P (x ∷ xs) zero d all lt = all.0
all_at P (x ∷ xs) (suc i) d all lt = all_at P xs i d all.1 (omega arith)

-- a pair behind the others has no place yet
in_order-push : (ps : Pairs) (order : List ℕ) (pair : Key × Rec) → AllByRecursion (λ place. place < length ps) order
    → in_order (ps ++ pair ∷ []) order ≡ in_order ps order
in_order-push ps [] pair places = refl
in_order-push ps (place ∷ order) pair places =
    ap (λ p. p ∷ in_order (ps ++ pair ∷ []) order) (get_or_append_left ps (pair ∷ []) no_pair place places.0)
    ∙ ap (λ z. get_or ps place no_pair ∷ z) (in_order-push ps order pair places.1)

in_order-insert : (ps : Pairs) (order : List ℕ) (i place : ℕ) → in_order ps (insert order i place) ≡ insert (in_order ps order) i (get_or ps place no_pair)
in_order-insert ps [] zero place = refl
in_order-insert ps [] (suc i) place = refl
in_order-insert ps (p ∷ order) zero place = refl
in_order-insert ps (p ∷ order) (suc i) place = ap (λ z. get_or ps p no_pair ∷ z) (in_order-insert ps order i place)

all_insert : (P : ℕ → Type 0) (order : List ℕ) (i place : ℕ) → AllByRecursion P order → P place → AllByRecursion P (insert order i place)
all_insert P [] zero place all new = (new, tt)
all_insert P [] (suc i) place all new = (new, tt)
all_insert P (p ∷ order) zero place all new = (new, all)
all_insert P (p ∷ order) (suc i) place all new = (all.0, all_insert P order i place all.1 new)

all_below : (order : List ℕ) (m n : ℕ) → m ≤ n → AllByRecursion (λ place. place < m) order → AllByRecursion (λ place. place < n) order
all_below [] m n le all = tt
all_below (p ∷ order) m n le all = (omega (arith, all.0), all_below order m n le all.1)

-- places of greater keys are other places
other_place : (ps : Pairs) (p q : ℕ) (o : Ordering) → o ≢ Equal → key_cmp (get_or ps p no_pair).0 (get_or ps q no_pair).0 ≡ o → q ≢ p
other_place ps p q o ne h same = ne (sym h ∙ same_cmp _ _ (ap (λ k. (get_or ps k no_pair).0) (sym same)))

in_order-above : (ps : Pairs) (order : List ℕ) (place : ℕ) (pair : Key × Rec) → IsBelow (get_or ps place no_pair).0 (in_order ps order)
    → in_order (set ps place pair) order ≡ in_order ps order
in_order-above ps [] place pair below = refl
in_order-above ps (p ∷ order) place pair below =
    ap (λ z. z ∷ in_order (set ps place pair) order) (get_or-set_other ps place p pair no_pair (other_place ps place p Less (λ e. cc) below.0))
    ∙ ap (λ z. get_or ps p no_pair ∷ z) (in_order-above ps order place pair below.1)

in_order-set : (ps : Pairs) (order : List ℕ) (key : Key) (pair : Key × Rec) (i : ℕ) → AllByRecursion (λ place. place < length ps) order
    → IsOrdered (in_order ps order)
    → IsPlaceOf (in_order ps order) key i → in_order (set ps (get_or order i 0) pair) order ≡ set (in_order ps order) i pair
in_order-set ps [] key pair i places rising h = absurd h
in_order-set ps (p ∷ order) key pair zero places rising h =
    ap (λ z. z ∷ in_order (set ps p pair) order) (get_or-set_same ps p pair no_pair places.0)
    ∙ ap (λ z. pair ∷ z) (in_order-above ps order p pair rising.0)
in_order-set ps (p ∷ order) key pair (suc i) places rising h =
    let place = get_or order i 0 in
    let held : (get_or ps place no_pair).0 ≡ key =
    ap (λ (q : Key × Rec). q.0) (sym (get_or-in_order ps order i no_pair (subst (λ n. i < n) (length-in_order ps order) (place_in_range (in_order ps order)
    key i h.1))))
    ∙ key_of_place (in_order ps order) key i no_pair h.1 in
    ap (λ z. z ∷ in_order (set ps place pair) order)
    (get_or-set_other ps place p pair no_pair (other_place ps place p Greater (λ e. cc) (subst (λ k. key_cmp k (get_or ps p no_pair).0 ≡ Greater) (sym held)
    h.0)))
    ∙ ap (λ z. get_or ps p no_pair ∷ z) (in_order-set ps order key pair i places.1 rising.1 h.1)

pub place_within : (ps : Pairs) (order : List ℕ) (i : ℕ) → i < length (in_order ps order) → i < length order
place_within ps order i lt = omega (arith, length-in_order ps order)

-- what a read of the order gives, at the default that specs write
pub place_read : (ps : Pairs) (order : List ℕ) (i place : ℕ) → i < length (in_order ps order) → place ≡ get_or order i place → get_or order i 0 ≡ place
place_read ps order i place lt placed = get_or_default order i 0 place (place_within ps order i lt) ∙ sym placed

-- what two reads of the code give: a place, and the pair there
pub read_at : (ps : Pairs) (order : List ℕ) (i place : ℕ) (pair : Key × Rec) → IsInOrder ps order → i < length (in_order ps order)
    → place ≡ get_or order i place → pair ≡ get_or ps place pair → get_or (in_order ps order) i no_pair ≡ pair
read_at ps order i place pair is lt placed read =
    let within : i < length order = place_within ps order i lt in
    let here : get_or order i 0 ≡ place = place_read ps order i place lt placed in
    let fits : place < length ps = subst (λ n. n < length ps) here (all_at (λ n. n < length ps) order i 0 is.places within) in
    get_or-in_order ps order i no_pair within ∙ ap (λ n. get_or ps n no_pair) here ∙ get_or_default ps place no_pair pair fits ∙ sym read

-- a write at the place of a key
pub replaced : (ps : Pairs) (order : List ℕ) (key : Key) (rec : Rec) (i : ℕ) → IsInOrder ps order → IsPlaceOf (in_order ps order) key i
    → in_order (set ps (get_or order i 0) (key, rec)) order ≡ with_pair (in_order ps order) key rec
replaced ps order key rec i is h = in_order-set ps order key (key, rec) i is.places is.rising h ∙ set_place (in_order ps order) key rec i h

pub in_order_replaced : (ps : Pairs) (order : List ℕ) (key : Key) (rec : Rec) (i : ℕ) → IsInOrder ps order → IsPlaceOf (in_order ps order) key i
    → IsInOrder (set ps (get_or order i 0) (key, rec)) order
in_order_replaced ps order key rec i is h =
    let now = sym (replaced ps order key rec i is h) in
    let same : length (set ps (get_or order i 0) (key, rec)) ≡ length ps = length-set ps (get_or order i 0) (key, rec) in
    let valid : IsKey key = subst IsKey (key_of_place (in_order ps order) key i no_pair h)
    (all_at (λ (p : Key × Rec). IsKey p.0) (in_order ps order) i no_pair is.keys (place_in_range (in_order ps order) key i h)) in
    record {
      rising = subst IsOrdered now (ordered_with (in_order ps order) key rec is.rising);
      keys = subst (AllByRecursion (λ (p : Key × Rec). IsKey p.0)) now (all_with (λ (p : Key × Rec). IsKey p.0) (in_order ps order) key rec is.keys valid);
      places = subst (λ n. AllByRecursion (λ place. place < n) order) (sym same) is.places;
      count = is.count ∙ sym same;
      most = omega (arith, same, is.most);
    }

pub gap_within : (ps : Pairs) (order : List ℕ) (key : Key) (i : ℕ) → IsGapFor (in_order ps order) key i → i ≤ length order
gap_within ps order key i h = omega (arith, gap_in_range (in_order ps order) key i h, length-in_order ps order)

-- a pair behind the others, with its place at the gap for its key
pub added : (ps : Pairs) (order : List ℕ) (key : Key) (rec : Rec) (i : ℕ) → IsInOrder ps order → IsGapFor (in_order ps order) key i
    → in_order (ps ++ (key, rec) ∷ []) (insert order i (length ps)) ≡ with_pair (in_order ps order) key rec
added ps order key rec i is h =
    let now = ps ++ (key, rec) ∷ [] in
    in_order-insert now order i (length ps)
    ∙ ap (λ p. insert (in_order now order) i p) (get_or-append_seam ps (key, rec) [] no_pair)
    ∙ ap (λ z. insert z i (key, rec)) (in_order-push ps order (key, rec) is.places)
    ∙ insert_gap (in_order ps order) key rec i h

pub in_order_added : (ps : Pairs) (order : List ℕ) (key : Key) (rec : Rec) (i : ℕ) → IsInOrder ps order → IsGapFor (in_order ps order) key i
    → IsKey key → length ps < most_pairs → IsInOrder (ps ++ (key, rec) ∷ []) (insert order i (length ps))
in_order_added ps order key rec i is h valid few =
    let now = sym (added ps order key rec i is h) in
    let longer : length (ps ++ (key, rec) ∷ []) ≡ length ps + 1 = simp length-append in
    let fits : i ≤ length order = gap_within ps order key i h in
    record {
      rising = subst IsOrdered now (ordered_with (in_order ps order) key rec is.rising);
      keys = subst (AllByRecursion (λ (p : Key × Rec). IsKey p.0)) now (all_with (λ (p : Key × Rec). IsKey p.0) (in_order ps order) key rec is.keys valid);
      places = subst (λ n. AllByRecursion (λ place. place < n) (insert order i (length ps))) (sym longer)
          (all_insert (λ place. place < length ps + 1) order i (length ps) (all_below order (length ps) (length ps + 1) (omega arith) is.places) (omega arith));
      count = length-insert order i (length ps) fits ∙ omega (arith, longer, is.count);
      most = omega (arith, longer);
    }
