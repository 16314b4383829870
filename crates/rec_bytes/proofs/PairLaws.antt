-- What an edit of ordered pairs leaves, and what a search of them finds.
use Rattle.std.proofs.Common.{◌≡◌, ◌≢◌, ℕ, zero, suc, ◌<◌, ◌≤◌, Bool, true, false, cond, [], ◌∷◌, length, get_or, set}
use Rattle.std.proofs.Common.{Option, Some, None, is_some, ◌+◌, drop, add-one, drop-cons, ⊎_elim, below_more, Ordering}
use Rattle.std.proofs.Common.{sym, ap, ◌∙◌, subst, arith, refl}
use Rattle.std.specs.declared.cmp.Ordering.TheVariants.{Less, Equal, Greater}
use mathlib.Core.Bool.{false≢true}
use Rattle.std.specs.Option.{option_or}
use Rattle.std.specs.List.{insert, AllByRecursion}
use Rattle.std.specs.Ordering.{nat_cmp, ordering_reverse}
use Rattle.std.specs.Cmp.{IsTotalOrder}
use Rattle.std.proofs.lemmas.Cmp.{on_total, then_total, nat_cmp_total, tied_itself}
use Rattle.std.proofs.lemmas.Bool.{cases_lt}
use Rattle.std.specs.List.{slice_get}
use Rattle.std.proofs.lemmas.Option.{get_or_from_slice_get}
use Rattle.std.proofs.lemmas.List.Edits.{length-insert}
use Rattle.std.proofs.lemmas.Map.Lookups.{exact_pairs, exact_unsigned}
use Rattle.rec_bytes.specs.declared.record.Rec.{Rec}
use Rattle.rec_bytes.specs.declared.key.Key.{Key}
use Rattle.rec_bytes.specs.Key.{key_eq, key_cmp}
use Rattle.rec_bytes.proofs.KeyLaws.{key_eq-same, key_eq-other, key_eq_true}
use Rattle.rec_bytes.specs.Pairs.{Pairs, find_pair, with_pair, merged, growth, growth_by, by_order, IsBelow, IsOrdered, IsPlaceOf, IsGapFor}

pub keys_total : IsTotalOrder key_cmp
keys_total = then_total (on_total (λ (k : Key). k.file) nat_cmp_total) (on_total (λ (k : Key). k.id) nat_cmp_total)

pub exact_keys : (a b : Key) → key_cmp a b ≡ Equal → a ≡ b
exact_keys a b h = ap (λ (p : ℕ × ℕ). record { file = p.0; id = p.1 }) (exact_pairs nat_cmp nat_cmp exact_unsigned exact_unsigned (a.file, a.id) (b.file, b.id)
    h)

pub same_cmp : (a b : Key) → a ≡ b → key_cmp a b ≡ Equal
same_cmp a b e = subst (λ q. key_cmp a q ≡ Equal) e (tied_itself keys_total a)

-- a key that is told apart by the order is another
pub apart : (a b : Key) (o : Ordering) → key_cmp a b ≡ o → o ≢ Equal → key_eq a b ≡ false
apart a b o h ne = key_eq-other a b (λ e. ne (sym h ∙ same_cmp a b e))

pub reverse : (a b : Key) (o : Ordering) → key_cmp a b ≡ o → key_cmp b a ≡ ordering_reverse o
reverse a b o h = keys_total.antisymm b a ∙ ap ordering_reverse h

pub by_cmp : (a b : Key) (P : Type 0) → (key_cmp a b ≡ Less → P) → (key_cmp a b ≡ Equal → P) → (key_cmp a b ≡ Greater → P) → P
by_cmp a b P l e g = (elim (key_cmp a b) as (λ o. key_cmp a b ≡ o → P) [ Less ↦ l | Equal ↦ e | Greater ↦ g ]) refl

-- one step of `with_pair`
pub step : (pair : Key × Rec) (rest : Pairs) (key : Key) (rec : Rec) (o : Ordering) → key_cmp key pair.0 ≡ o
    → with_pair (pair ∷ rest) key rec ≡ by_order o ((key, rec) ∷ pair ∷ rest) ((key, rec) ∷ rest) (pair ∷ with_pair rest key rec)
unfolding with_pair
step pair rest key rec o h = ap (λ q. by_order q ((key, rec) ∷ pair ∷ rest) ((key, rec) ∷ rest) (pair ∷ with_pair rest key rec)) h

pub below_all : (a b : Key) (rest : Pairs) → key_cmp a b ≡ Less → IsBelow b rest → IsBelow a rest
below_all a b [] h below = tt
below_all a b (pair ∷ rest) h below = (keys_total.trans a b pair.0 h below.0, below_all a b rest h below.1)

-- a key that is below all isn't there
pub below_out : (ps : Pairs) (key : Key) → IsBelow key ps → find_pair ps key ≡ None
below_out [] key below = refl
below_out (pair ∷ rest) key below = rw (apart key pair.0 Less below.0 (λ e. cc)) (below_out rest key below.1)

-- the record at the place, and none at the gap
pub find_at : (ps : Pairs) (key : Key) (i : ℕ) (d : Key × Rec) → IsPlaceOf ps key i → find_pair ps key ≡ Some (get_or ps i d).1
find_at [] key i d h = absurd h
find_at (pair ∷ rest) key zero d h = rw (subst (λ q. key_eq key q ≡ true) h (key_eq-same key)) refl
find_at (pair ∷ rest) key (suc i) d h = rw (apart key pair.0 Greater h.0 (λ e. cc)) (find_at rest key i d h.1)

pub find_gap : (ps : Pairs) (key : Key) (i : ℕ) → IsGapFor ps key i → find_pair ps key ≡ None
find_gap [] key i h = refl
find_gap (pair ∷ rest) key zero h = below_out (pair ∷ rest) key h
find_gap (pair ∷ rest) key (suc i) h = rw (apart key pair.0 Greater h.0 (λ e. cc)) (find_gap rest key i h.1)

-- a write at the place, and an insert at the gap
pub set_place : (ps : Pairs) (key : Key) (rec : Rec) (i : ℕ) → IsPlaceOf ps key i → set ps i (key, rec) ≡ with_pair ps key rec
set_place [] key rec i h = absurd h
set_place (pair ∷ rest) key rec zero h = sym (step pair rest key rec Equal (same_cmp key pair.0 h))
set_place (pair ∷ rest) key rec (suc i) h = ap (λ z. pair ∷ z) (set_place rest key rec i h.1) ∙ sym (step pair rest key rec Greater h.0)

pub insert_gap : (ps : Pairs) (key : Key) (rec : Rec) (i : ℕ) → IsGapFor ps key i → insert ps i (key, rec) ≡ with_pair ps key rec
unfolding with_pair
insert_gap [] key rec zero h = refl
insert_gap [] key rec (suc i) h = absurd h
insert_gap (pair ∷ rest) key rec zero h = sym (step pair rest key rec Less h.0)
insert_gap (pair ∷ rest) key rec (suc i) h = ap (λ z. pair ∷ z) (insert_gap rest key rec i h.1) ∙ sym (step pair rest key rec Greater h.0)

below_with : (b : Key) (ps : Pairs) (key : Key) (rec : Rec) → key_cmp b key ≡ Less → IsBelow b ps → IsBelow b (with_pair ps key rec)
unfolding with_pair
below_with b [] key rec h below = (h, tt)
below_with b (pair ∷ rest) key rec h below = by_cmp key pair.0 (IsBelow b (with_pair (pair ∷ rest) key rec))
    (λ e. rw (step pair rest key rec Less e) (h, below))
    (λ e. rw (step pair rest key rec Equal e) (h, below.1))
    (λ e. rw (step pair rest key rec Greater e) (below.0, below_with b rest key rec h below.1))

-- the order stays
pub ordered_with : (ps : Pairs) (key : Key) (rec : Rec) → IsOrdered ps → IsOrdered (with_pair ps key rec)
unfolding with_pair
ordered_with [] key rec h = (tt, tt)
ordered_with (pair ∷ rest) key rec h = by_cmp key pair.0 (IsOrdered (with_pair (pair ∷ rest) key rec))
    (λ e. rw (step pair rest key rec Less e) ((e, below_all key pair.0 rest e h.0), h))
    (λ e. rw (step pair rest key rec Equal e) (subst (λ q. IsBelow q rest) (sym (exact_keys key pair.0 e)) h.0, h.1))
    (λ e. rw (step pair rest key rec Greater e) (below_with pair.0 rest key rec (reverse key pair.0 Greater e) h.0, ordered_with rest key rec h.1))

-- what is found afterwards
pub find_with : (ps : Pairs) (key : Key) (rec : Rec) (q : Key) → find_pair (with_pair ps key rec) q ≡ cond (key_eq q key) (Some rec) (find_pair ps q)
unfolding with_pair
find_with [] key rec q = refl
find_with (pair ∷ rest) key rec q = by_cmp key pair.0 (find_pair (with_pair (pair ∷ rest) key rec) q ≡ cond (key_eq q key) (Some rec) (find_pair (pair ∷ rest)
    q))
    (λ e. rw (step pair rest key rec Less e) refl)
    (λ e. rw (step pair rest key rec Equal e) (subst (λ z. cond (key_eq q key) (Some rec) (find_pair rest q) ≡ cond (key_eq q key) (Some rec)
    (cond (key_eq q z) (Some pair.1) (find_pair rest q))) (exact_keys key pair.0 e) (twice (key_eq q key) (Some rec) (Some pair.1) (find_pair rest q))))
    (λ e. rw (step pair rest key rec Greater e) (ap (cond (key_eq q pair.0) (Some pair.1)) (find_with rest key rec q)
    ∙ swap (key_eq q pair.0) (key_eq q key) (Some pair.1) (Some rec) (find_pair rest q)
    (λ h. subst (λ z. key_eq z key ≡ false) (sym (key_eq_true q pair.0 h)) (apart pair.0 key Less (reverse key pair.0 Greater e) (λ x. cc)))))
  where
    swap : {X : Type 0} (a b : Bool) (x y z : X) → (a ≡ true → b ≡ false) → cond a x (cond b y z) ≡ cond b y (cond a x z)
    swap true b x y z h = rw (h refl) refl
    swap false b x y z h = refl

    twice : {X : Type 0} (b : Bool) (x y z : X) → cond b x z ≡ cond b x (cond b y z)
    twice true x y z = refl
    twice false x y z = refl

below_at : (b : Key) (ps : Pairs) (j : ℕ) (d : Key × Rec) → IsBelow b ps → j < length ps → key_cmp b (get_or ps j d).0 ≡ Less
below_at b [] j d h lt = absurd (omega arith)
below_at b (pair ∷ rest) zero d h lt = h.0
below_at b (pair ∷ rest) (suc j) d h lt = below_at b rest j d h.1 (omega arith)

pub place_of : (ps : Pairs) (key : Key) (i : ℕ) (d : Key × Rec) → IsOrdered ps → i < length ps → (get_or ps i d).0 ≡ key → IsPlaceOf ps key i
place_of [] key i d h lt e = absurd (omega arith)
place_of (pair ∷ rest) key zero d h lt e = sym e
place_of (pair ∷ rest) key (suc i) d h lt e = (
  reverse pair.0 key Less (subst (λ q. key_cmp pair.0 q ≡ Less) e (below_at pair.0 rest i d h.0 (omega arith))),
  place_of rest key i d h.1 (omega arith) e,
)

below_from : (ps : Pairs) (key : Key) (d : Key × Rec) → ((k : ℕ) → k < length ps → key_cmp (get_or ps k d).0 key ≡ Greater) → IsBelow key ps
below_from [] key d h = tt
below_from (pair ∷ rest) key d h = (reverse pair.0 key Greater (h 0 (omega arith)), below_from rest key d (λ k lt. h (suc k) (omega arith)))

gap_for : (ps : Pairs) (key : Key) (i : ℕ) (d : Key × Rec) → i ≤ length ps → ((k : ℕ) → k < i → key_cmp (get_or ps k d).0 key ≡ Less)
    → ((k : ℕ) → i ≤ k → k < length ps → key_cmp (get_or ps k d).0 key ≡ Greater) → IsGapFor ps key i
gap_for [] key zero d le small great = tt
gap_for [] key (suc i) d le small great = absurd (omega arith)
gap_for (pair ∷ rest) key zero d le small great = below_from (pair ∷ rest) key d (λ k lt. great k (omega arith) lt)
gap_for (pair ∷ rest) key (suc i) d le small great = (
  reverse pair.0 key Less (small 0 (omega arith)),
  gap_for rest key i d (omega arith) (λ k lt. small (suc k) (omega arith)) (λ k ge lt. great (suc k) (omega arith) (omega arith)),
)

-- the keys rise from place to place
pub rises : (ps : Pairs) (i j : ℕ) (d : Key × Rec) → IsOrdered ps → i < j → j < length ps → key_cmp (get_or ps i d).0 (get_or ps j d).0 ≡ Less
rises [] i j d h lt within = absurd (omega arith)
rises (pair ∷ rest) i zero d h lt within = absurd (omega arith)
rises (pair ∷ rest) zero (suc j) d h lt within = below_at pair.0 rest j d h.0 (omega arith)
rises (pair ∷ rest) (suc i) (suc j) d h lt within = rises rest i j d h.1 (omega arith) (omega arith)

-- a search for a key: the keys before `low` are smaller, and those from `high` on greater
pub record IsSearching (ps : Pairs) (key : Key) (d : Key × Rec) (low high : ℕ) : Type 0 where
  pub meets : low ≤ high
  pub within : high ≤ length ps
  pub below : (k : ℕ) → k < low → key_cmp (get_or ps k d).0 key ≡ Less
  pub above : (k : ℕ) → high ≤ k → k < length ps → key_cmp (get_or ps k d).0 key ≡ Greater

pub search_from : (ps : Pairs) (key : Key) (d : Key × Rec) (low high : ℕ) → low ≤ high → high ≡ length ps
    → ((k : ℕ) → k < low → key_cmp (get_or ps k d).0 key ≡ Less)
    → IsSearching ps key d low high
search_from ps key d low high meets all below = record {
  meets = meets;
  within = omega arith;
  below = below;
  above = λ k ge lt. absurd (omega arith);
}

pub search_less : (ps : Pairs) (key : Key) (d : Key × Rec) (low high i : ℕ) → IsOrdered ps → IsSearching ps key d low high → i < high
    → key_cmp (get_or ps i d).0 key ≡ Less → IsSearching ps key d (i + 1) high
search_less ps key d low high i h searching lt less = record {
  meets = omega arith;
  within = searching.within;
  below = below_more (λ k. key_cmp (get_or ps k d).0 key ≡ Less) i
      (λ k before. keys_total.trans (get_or ps k d).0 (get_or ps i d).0 key (rises ps k i d h before (omega (arith, searching.within))) less) less;
  above = searching.above;
}

pub search_greater : (ps : Pairs) (key : Key) (d : Key × Rec) (low high i : ℕ) → IsOrdered ps → IsSearching ps key d low high → low ≤ i → i < high
    → key_cmp (get_or ps i d).0 key ≡ Greater → IsSearching ps key d low i
search_greater ps key d low high i h searching ge lt greater = record {
  meets = ge;
  within = omega (arith, searching.within);
  below = searching.below;
  above = λ k from within. ⊎_elim
      (λ (past : i < k). reverse key (get_or ps k d).0 Less (keys_total.trans key (get_or ps i d).0 (get_or ps k d).0 (reverse (get_or ps i d).0 key Greater
      greater) (rises ps i k d h past within)))
      (λ (here : k ≤ i). let same : i ≡ k = omega arith in subst (λ j. key_cmp (get_or ps j d).0 key ≡ Greater) same greater)
      (cases_lt i k);
}

pub search_equal : (ps : Pairs) (key : Key) (d : Key × Rec) (low high i : ℕ) → IsOrdered ps → IsSearching ps key d low high → i < high
    → key_cmp (get_or ps i d).0 key ≡ Equal → IsPlaceOf ps key i
search_equal ps key d low high i h searching lt equal = place_of ps key i d h (omega (arith, searching.within)) (exact_keys _ key equal)

pub search_end : (ps : Pairs) (key : Key) (d : Key × Rec) (low high : ℕ) → IsSearching ps key d low high → high ≤ low → IsGapFor ps key low
search_end ps key d low high searching done =
    gap_for ps key low d (omega (arith, searching.meets, searching.within)) searching.below (λ k ge lt. searching.above k (omega arith) lt)

-- a gap is among the pairs or behind them
pub gap_in_range : (ps : Pairs) (key : Key) (i : ℕ) → IsGapFor ps key i → i ≤ length ps
gap_in_range [] key zero h = omega arith
gap_in_range [] key (suc i) h = absurd h
gap_in_range (pair ∷ rest) key zero h = omega arith
gap_in_range (pair ∷ rest) key (suc i) h = omega (arith, gap_in_range rest key i h.1)

-- a put adds one pair at most, so the length of another list is room enough for it
pub growth_le : (ps : Pairs) (key : Key) → growth ps key ≤ 1
growth_le ps key = one (is_some (find_pair ps key))
  where
    one : (b : Bool) → cond b 0 1 ≤ 1
    one true = omega arith
    one false = omega arith

pub growth_by_le : (ps other : Pairs) → growth_by ps other ≤ length other
growth_by_le ps [] = omega arith
growth_by_le ps (pair ∷ rest) = omega (arith, growth_le ps pair.0, growth_by_le (with_pair ps pair.0 pair.1) rest)

-- what is found after a merge
pub find_merged : (ps other : Pairs) (q : Key) → IsOrdered other → find_pair (merged ps other) q ≡ option_or (find_pair other q) (find_pair ps q)
find_merged ps [] q h = refl
find_merged ps (pair ∷ rest) q h =
    find_merged (with_pair ps pair.0 pair.1) rest q h.1
    ∙ ap (option_or (find_pair rest q)) (find_with ps pair.0 pair.1 q)
    ∙ pick (key_eq q pair.0) (Some pair.1) (find_pair rest q) (find_pair ps q)
    (λ e. subst (λ k. find_pair rest k ≡ None) (sym (key_eq_true q pair.0 e)) (below_out rest pair.0 h.0)) refl
  where
    pick : {X : Type 0} (b : Bool) (x y z : Option X) → (b ≡ true → y ≡ None) → is_some x ≡ true → option_or y (cond b x z) ≡ option_or (cond b x y) z
    pick true None y z h some = absurd (false≢true some)
    pick true (Some x) y z h some = ap (λ o. option_or o (Some x)) (h refl)
    pick false x y z h some = refl

-- the second of two writes stands
pub with_twice : (ps : Pairs) (key : Key) (a b : Rec) → with_pair (with_pair ps key a) key b ≡ with_pair ps key b
unfolding with_pair
with_twice [] key a b = step (key, a) [] key b Equal (same_cmp key key refl)
with_twice (pair ∷ rest) key a b = by_cmp key pair.0 (with_pair (with_pair (pair ∷ rest) key a) key b ≡ with_pair (pair ∷ rest) key b)
    (λ e. ap (λ z. with_pair z key b) (step pair rest key a Less e) ∙ step (key, a) (pair ∷ rest) key b Equal (same_cmp key key refl) ∙ sym
    (step pair rest key b Less e))
    (λ e. ap (λ z. with_pair z key b) (step pair rest key a Equal e) ∙ step (key, a) rest key b Equal (same_cmp key key refl) ∙ sym
    (step pair rest key b Equal e))
    (λ e. ap (λ z. with_pair z key b) (step pair rest key a Greater e) ∙ step pair (with_pair rest key a) key b Greater e ∙ ap (λ z. pair ∷ z)
    (with_twice rest key a b) ∙ sym (step pair rest key b Greater e))

-- the pair at the place has the key
pub key_of_place : (ps : Pairs) (key : Key) (i : ℕ) (d : Key × Rec) → IsPlaceOf ps key i → (get_or ps i d).0 ≡ key
key_of_place [] key i d h = absurd h
key_of_place (pair ∷ rest) key zero d h = sym h
key_of_place (pair ∷ rest) key (suc i) d h = key_of_place rest key i d h.1

pub place_in_range : (ps : Pairs) (key : Key) (i : ℕ) → IsPlaceOf ps key i → i < length ps
place_in_range [] key i h = absurd h
place_in_range (pair ∷ rest) key zero h = omega arith
place_in_range (pair ∷ rest) key (suc i) h = omega (arith, place_in_range rest key i h.1)

-- a key at a gap makes the pairs longer
pub growth_gap : (ps : Pairs) (key : Key) (i : ℕ) → IsGapFor ps key i → growth ps key ≡ 1
growth_gap ps key i h = ap (λ o. cond (is_some o) 0 1) (find_gap ps key i h)

-- the pair set at a key is as good as the others
pub all_with : (P : Key × Rec → Type 0) (ps : Pairs) (key : Key) (rec : Rec) → AllByRecursion P ps → P (key, rec) → AllByRecursion P (with_pair ps key rec)
unfolding with_pair
all_with P [] key rec all new = (new, tt)
all_with P (pair ∷ rest) key rec all new = by_cmp key pair.0 (AllByRecursion P (with_pair (pair ∷ rest) key rec))
    (λ e. rw (step pair rest key rec Less e) (new, all))
    (λ e. rw (step pair rest key rec Equal e) (new, all.1))
    (λ e. rw (step pair rest key rec Greater e) (all.0, all_with P rest key rec all.1 new))

pub length-with_gap : (ps : Pairs) (key : Key) (rec : Rec) (i : ℕ) → IsGapFor ps key i → length (with_pair ps key rec) ≡ length ps + 1
length-with_gap ps key rec i h = ap length (sym (insert_gap ps key rec i h)) ∙ length-insert ps i (key, rec) (gap_in_range ps key i h)

-- what is new for some pairs is new for others that have no other of these keys
growth_by-same : (ps qs : Pairs) (key : Key) (other : Pairs) → IsBelow key other → IsOrdered other
    → ((q : Key) → key_cmp key q ≡ Less → is_some (find_pair ps q) ≡ is_some (find_pair qs q)) → growth_by ps other ≡ growth_by qs other
growth_by-same ps qs key [] below h same = refl
growth_by-same ps qs key (pair ∷ rest) below h same =
    let later = growth_by-same (with_pair ps pair.0 pair.1) (with_pair qs pair.0 pair.1) pair.0 rest h.0 h.1
    (λ q greater. ap is_some (find_with ps pair.0 pair.1 q) ∙ some_of (key_eq q pair.0) (Some pair.1) (find_pair ps q) (find_pair qs q)
    (same q (keys_total.trans key pair.0 q below.0 greater))
    ∙ ap is_some (sym (find_with qs pair.0 pair.1 q))) in
    ap (λ b. cond b 0 1 + growth_by (with_pair ps pair.0 pair.1) rest) (same pair.0 below.0) ∙ ap (λ n. growth qs pair.0 + n) later
  where
    some_of : (b : Bool) (x y z : Option Rec) → is_some y ≡ is_some z → is_some (cond b x y) ≡ is_some (cond b x z)
    some_of true x y z e = refl
    some_of false x y z e = e

-- each key of the other list counts by itself
pub growth_by-step : (ps : Pairs) (pair : Key × Rec) (rest : Pairs) → IsOrdered (pair ∷ rest)
    → growth_by ps (pair ∷ rest) ≡ growth ps pair.0 + growth_by ps rest
growth_by-step ps pair rest h =
    ap (λ n. growth ps pair.0 + n) (growth_by-same (with_pair ps pair.0 pair.1) ps pair.0 rest h.0 h.1
    (λ q greater. ap is_some (find_with ps pair.0 pair.1 q)
    ∙ ap (λ b. is_some (cond b (Some pair.1) (find_pair ps q))) (apart q pair.0 Greater (reverse pair.0 q Less greater) (λ e. cc))))

-- the pairs from one on
pub next_pair : (other : Pairs) (i : ℕ) (pair : Key × Rec) → slice_get other i ≡ Some pair → i < length other → drop i other ≡ pair ∷ drop (i + 1) other
next_pair other i pair is lt = rw (add-one, drop-cons other i pair) (ap (λ p. p ∷ drop (suc i) other) (get_or_from_slice_get other i pair pair is))

ordered_drop : (ps : Pairs) (i : ℕ) → IsOrdered ps → IsOrdered (drop i ps)
ordered_drop [] zero h = tt
ordered_drop [] (suc i) h = tt
ordered_drop (pair ∷ rest) zero h = h
ordered_drop (pair ∷ rest) (suc i) h = ordered_drop rest i h.1

pub growth_by-next : (ps other : Pairs) (i : ℕ) (pair : Key × Rec) → IsOrdered other → slice_get other i ≡ Some pair → i < length other
    → growth_by ps (drop i other) ≡ growth ps pair.0 + growth_by ps (drop (i + 1) other)
growth_by-next ps other i pair h is lt =
    let next = next_pair other i pair is lt in
    ap (growth_by ps) next ∙ growth_by-step ps pair (drop (i + 1) other) (subst IsOrdered next (ordered_drop other i h))
