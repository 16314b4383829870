-- Pairs whose keys are distinct, and the map that they make.
use Rattle.std.specs.FinMap as maps
use Rattle.std.specs.List.{All, sum_by}
use Rattle.std.specs.Ordering.{eq_by_cmp}
use Rattle.std.specs.Prelude.{Contains, is_some}
use Rattle.std.proofs.Common.{◌≡◌, ◌≢◌, ◌⊎◌, ℕ, zero, suc, ◌+◌, ◌<◌, nat_eq, Bool, true, false, cond, Option, None}
use Rattle.std.proofs.Common.{Some, List, [], ◌∷◌, ◌++◌, length, map, get_or, take, sym, ap, ◌∙◌, subst, inl, inr}
use Rattle.std.proofs.Common.{⊎_elim, arith, refl}
use Rattle.std.proofs.lemmas.Cmp.{nat_list_cmp_total}
use Rattle.std.proofs.lemmas.Bool.Decides.{nat_tests}
use Rattle.std.proofs.lemmas.List.Elements.{All-cons, All-head, All-tail, All-nil, Contains-get_or}
use Rattle.std.proofs.lemmas.List.Sums.{sum_by-cons}
use Rattle.plain_graph.specs.Properties.{Properties, blocks_if, blocks_in, blocks_of, with_pairs}
use Rattle.plain_graph.specs.declared.pairs.Pair.{Pair}
use Rattle.plain_graph.specs.declared.value.Value.{Value}
use Rattle.plain_graph.proofs.PropertyLaws.{blocks_in-insert, len-insert, order, same_key}
use Rattle.name_store.specs.Names.{AreDistinct}
use Rattle.store_rules.specs.Chains.{In}
use Rattle.store_rules.specs.Properties.{AreOnce}
use Rattle.change_parts.specs.Assigning.{AreNew, pair_at, pairs_of, with_place}
use Rattle.change_parts.specs.declared.assigning.Assignment.{Assignment}

-- ---- maps

same_maps : (m n : Properties) → ((q : List ℕ) → maps.get m q ≡ maps.get n q) → m ≡ n
same_maps m n same = maps.same_map nat_list_cmp_total (maps.slice_cmp-IsAntisymmetric maps.nat_cmp-IsAntisymmetric) m n same

got : (m : Properties) (k : List ℕ) (v : Value) (q : List ℕ) → maps.get (maps.insert m k v) q ≡ cond (eq_by_cmp order q k) (Some v) (maps.get m q)
got m k v q = maps.get-insert nat_list_cmp_total m k v q

-- the last value of a key stands
insert_twice : (m : Properties) (k : List ℕ) (a b : Value) → maps.insert (maps.insert m k a) k b ≡ maps.insert m k b
insert_twice m k a b = same_maps (maps.insert (maps.insert m k a) k b) (maps.insert m k b) (λ q.
    got (maps.insert m k a) k b q ∙ ap (cond (eq_by_cmp order q k) (Some b)) (got m k a q) ∙ once (eq_by_cmp order q k) (maps.get m q) ∙ sym (got m k b q))
  where
    once : (t : Bool) (o : Option Value) → cond t (Some b) (cond t (Some a) o) ≡ cond t (Some b) o
    once true o = refl
    once false o = refl

-- different keys get their values in any order
insert_swap : (m : Properties) (k j : List ℕ) (a b : Value) → k ≢ j → maps.insert (maps.insert m k a) j b ≡ maps.insert (maps.insert m j b) k a
insert_swap m k j a b ne = same_maps (maps.insert (maps.insert m k a) j b) (maps.insert (maps.insert m j b) k a) (λ q.
    got (maps.insert m k a) j b q ∙ ap (cond (eq_by_cmp order q j) (Some b)) (got m k a q)
    ∙ turned (eq_by_cmp order q j) (eq_by_cmp order q k) (maps.get m q) (λ p r. ne (sym (same_key q k r) ∙ same_key q j p))
    ∙ sym (got (maps.insert m j b) k a q ∙ ap (cond (eq_by_cmp order q k) (Some a)) (got m j b q)))
  where
    turned : (s t : Bool) (o : Option Value) → (s ≡ true → t ≡ true → ⊥) → cond s (Some b) (cond t (Some a) o) ≡ cond t (Some a) (cond s (Some b) o)
    turned true true o apart = absurd (apart refl refl)
    turned true false o apart = refl
    turned false true o apart = refl
    turned false false o apart = refl

-- one pair more
pub with_pairs-push : (m : Properties) (ps : List Pair) (p : Pair) → with_pairs m (ps ++ p ∷ []) ≡ maps.insert (with_pairs m ps) p.key p.value
with_pairs-push m [] p = refl
with_pairs-push m (q ∷ ps) p = with_pairs-push (maps.insert m q.key q.value) ps p

-- none of the pairs has the key
abbrev LackKey : List ℕ → List Pair → Type 0
LackKey k [] = Unit {0}
LackKey k (p ∷ ps) = (p.key ≢ k) × LackKey k ps

insert_before : (m : Properties) (k : List ℕ) (v : Value) (ps : List Pair) → LackKey k ps
    → with_pairs (maps.insert m k v) ps ≡ maps.insert (with_pairs m ps) k v
insert_before m k v [] lack = refl
insert_before m k v (p ∷ ps) lack =
    ap (λ z. with_pairs z ps) (insert_swap m k p.key v p.value (λ e. lack.0 (sym e))) ∙ insert_before (maps.insert m p.key p.value) k v ps lack.1

pub len-with_pairs : (m : Properties) (ps : List Pair) → AreNew m ps → maps.len (with_pairs m ps) ≡ maps.len m + length ps
len-with_pairs m [] new = omega arith
len-with_pairs m (p ∷ ps) new =
    let rest = len-with_pairs (maps.insert m p.key p.value) ps new.1 in
    let one = len-insert m p.key p.value ∙ absent (maps.get m p.key) new.0 in
    omega arith
  where
    absent : (o : Option Value) → o ≡ None → cond (is_some o) (maps.len m) (maps.len m + 1) ≡ maps.len m + 1
    absent None e = refl
    absent (Some v) e = absurd cc

pub blocks_in-with_pairs : (m : Properties) (ps : List Pair) → AreNew m ps
    → blocks_in (with_pairs m ps) ≡ blocks_in m + sum_by (λ (p : Pair). blocks_of p.value) ps
blocks_in-with_pairs m [] new = omega arith
blocks_in-with_pairs m (p ∷ ps) new =
    let rest = blocks_in-with_pairs (maps.insert m p.key p.value) ps new.1 in
    let one = blocks_in-insert m p.key p.value in
    let none = ap blocks_if new.0 in
    let sum = sum_by-cons (λ (q : Pair). blocks_of q.value) p ps in
    omega arith

-- the first of the pairs are new, too, and so is the next one after them
pub new_take : (m : Properties) (n : ℕ) (ps : List Pair) → AreNew m ps → AreNew m (take n ps)
new_take m zero ps new = none m ps
  where
    none : (m : Properties) (ps : List Pair) → AreNew m (take zero ps)
    none m ps = tt
new_take m (suc n) [] new = tt
new_take m (suc n) (p ∷ ps) new = (new.0, new_take (maps.insert m p.key p.value) n ps new.1)

pub new_at : (m : Properties) (n : ℕ) (ps : List Pair) (d : Pair) → AreNew m ps → n < length ps → maps.get (with_pairs m (take n ps)) (get_or ps n d).key ≡ None
new_at m n [] d new lt = absurd (omega arith)
new_at m zero (p ∷ ps) d new lt = new.0
new_at m (suc n) (p ∷ ps) d new lt = new_at (maps.insert m p.key p.value) n ps d new.1 (omega arith)

-- ---- pairs by the numbers of their keys

abbrev keys : List Assignment → List ℕ
keys assigned = map (λ (a : Assignment). a.key) assigned

-- distinct names stand at one place each
pub text_apart : (names : List (List ℕ)) (x y : ℕ) → AreDistinct names → x < length names → y < length names → get_or names x [] ≡ get_or names y [] → x ≡ y
text_apart [] x y distinct a b e = absurd (omega arith)
text_apart (n ∷ ns) zero zero distinct a b e = refl
text_apart (n ∷ ns) zero (suc y) distinct a b e = absurd (distinct.0 (subst (Contains ns) (sym e) (Contains-get_or ns y [] (omega arith))))
text_apart (n ∷ ns) (suc x) zero distinct a b e = absurd (distinct.0 (subst (Contains ns) e (Contains-get_or ns x [] (omega arith))))
text_apart (n ∷ ns) (suc x) (suc y) distinct a b e = ap suc (text_apart ns x y distinct.1 (omega arith) (omega arith) e)

-- what a new place leaves of the keys
key_cases : (xs : List Assignment) (key place x : ℕ) → In x (keys (with_place xs key place)) → In x (keys xs) ⊎ (x ≡ key)
key_cases [] key place x i = ⊎_elim (λ e. inr e) (λ j. absurd j) i
key_cases (a ∷ xs) key place x i = by (nat_eq a.key key) i (key_cases xs key place x)
  where
    by : (b : Bool) → In x (keys (cond b (record { key = key; pair = place } ∷ xs) (a ∷ with_place xs key place)))
        → (In x (keys (with_place xs key place)) → In x (keys xs) ⊎ (x ≡ key)) → In x (keys (a ∷ xs)) ⊎ (x ≡ key)
    by true i rest = ⊎_elim (λ e. inr e) (λ j. inl (inr j)) i
    by false i rest = ⊎_elim (λ e. inl (inl e)) (λ j. ⊎_elim (λ k. inl (inr k)) (λ e. inr e) (rest j)) i

pub once_placed : (xs : List Assignment) (key place : ℕ) → AreOnce (keys xs) → AreOnce (keys (with_place xs key place))
once_placed [] key place once = ((λ i. i), tt)
once_placed (a ∷ xs) key place once = by (nat_eq a.key key) (λ e. same a.key key e) (λ e. apart a.key key e) (once_placed xs key place once.1)
  where
    same : (m n : ℕ) → nat_eq m n ≡ true → m ≡ n
    same m n e = grind (arith, nat_tests)

    apart : (m n : ℕ) → nat_eq m n ≡ false → m ≢ n
    apart m n e = grind (arith, nat_tests)

    by : (b : Bool) → (b ≡ true → a.key ≡ key) → (b ≡ false → a.key ≢ key) → AreOnce (keys (with_place xs key place))
        → AreOnce (keys (cond b (record { key = key; pair = place } ∷ xs) (a ∷ with_place xs key place)))
    by true eq ne rest = ((λ i. once.0 (subst (λ k. In k (keys xs)) (sym (eq refl)) i)), once.1)
    by false eq ne rest = ((λ i. ⊎_elim once.0 (ne refl) (key_cases xs key place a.key i)), rest)

pub all_placed : (P : Assignment → Type 0) (xs : List Assignment) (key place : ℕ) → P (record { key = key; pair = place }) → All P xs
    → All P (with_place xs key place)
all_placed P [] key place new all = All-cons P (record { key = key; pair = place }) [] new (All-nil P)
all_placed P (a ∷ xs) key place new all = by (nat_eq a.key key) (all_placed P xs key place new (All-tail P a xs all))
  where
    by : (b : Bool) → All P (with_place xs key place) → All P (cond b (record { key = key; pair = place } ∷ xs) (a ∷ with_place xs key place))
    by true rest = All-cons P (record { key = key; pair = place }) xs new (All-tail P a xs all)
    by false rest = All-cons P a (with_place xs key place) (All-head P a xs all) rest

module _ (names : List (List ℕ)) (pairs : List Pair) (distinct : AreDistinct names) where
  abbrev text : ℕ → List ℕ
  text k = get_or names k []

  abbrev Known : Assignment → Type 0
  Known a = a.key < length names

  -- a key that is none of these has another text
  lacked : (k : ℕ) → k < length names → (xs : List Assignment) → All Known xs → ¬ In k (keys xs) → LackKey (text k) (pairs_of names pairs xs)
  lacked k low [] known out = tt
  lacked k low (a ∷ xs) known out = (
    (λ e. out (inl (sym (text_apart names a.key k distinct (All-head Known a xs known) low e)))),
    lacked k low xs (All-tail Known a xs known)
        (λ i. out (inr i)),
  )

  -- a place for a key is its value in the map
  pub with_pairs-placed : (m : Properties) (xs : List Assignment) (key place : ℕ) → key < length names → All Known xs → AreOnce (keys xs)
      → with_pairs m (pairs_of names pairs (with_place xs key place)) ≡ maps.insert (with_pairs m (pairs_of names pairs xs)) (text key)
      (pair_at pairs place).value
  with_pairs-placed m [] key place low known once = refl
  with_pairs-placed m (a ∷ xs) key place low known once =
      by (nat_eq a.key key) (λ e. same a.key key e) (with_pairs-placed (maps.insert m (text a.key) (pair_at pairs a.pair).value) xs key place low
      (All-tail Known a xs known) once.1)
    where
      same : (x y : ℕ) → nat_eq x y ≡ true → x ≡ y
      same x y e = grind (arith, nat_tests)

      by : (b : Bool) → (b ≡ true → a.key ≡ key)
          → with_pairs (maps.insert m (text a.key) (pair_at pairs a.pair).value) (pairs_of names pairs (with_place xs key place)) ≡ maps.insert
          (with_pairs (maps.insert m (text a.key) (pair_at pairs a.pair).value) (pairs_of names pairs xs)) (text key) (pair_at pairs place).value
          → with_pairs m (pairs_of names pairs (cond b (record { key = key; pair = place } ∷ xs) (a ∷ with_place xs key place)))
          ≡ maps.insert (with_pairs (maps.insert m (text a.key) (pair_at pairs a.pair).value) (pairs_of names pairs xs)) (text key) (pair_at pairs place).value
      by true eq rest =
          let lack = lacked key low xs (All-tail Known a xs known) (λ i. once.0 (subst (λ k. In k (keys xs)) (sym (eq refl)) i)) in
          let z = with_pairs m (pairs_of names pairs xs) in
          insert_before m (text key) (pair_at pairs place).value (pairs_of names pairs xs) lack
          ∙ sym (ap (λ k. maps.insert (with_pairs (maps.insert m (text k) (pair_at pairs a.pair).value) (pairs_of names pairs xs)) (text key)
          (pair_at pairs place).value) (eq refl)
          ∙ ap (λ n. maps.insert n (text key) (pair_at pairs place).value)
          (insert_before m (text key) (pair_at pairs a.pair).value (pairs_of names pairs xs) lack)
          ∙ insert_twice z (text key) (pair_at pairs a.pair).value (pair_at pairs place).value)
      by false eq rest = rest

  -- the assignments' pairs are new to a map without their keys
  pub pairs_new : (m : Properties) (xs : List Assignment) → All Known xs → AreOnce (keys xs) → ((k : ℕ) → In k (keys xs) → maps.get m (text k) ≡ None)
      → AreNew m (pairs_of names pairs xs)
  pairs_new m [] known once none = tt
  pairs_new m (a ∷ xs) known once none = (
    none a.key (inl refl),
    pairs_new (maps.insert m (text a.key) (pair_at pairs a.pair).value) xs (All-tail Known a xs known) once.1 (λ k i.
        got m (text a.key) (pair_at pairs a.pair).value (text k) ∙ other k i (eq_by_cmp order (text k) (text a.key)) (same_key (text k) (text a.key))),
  )
    where
      low : (k : ℕ) → (ys : List Assignment) → All Known ys → In k (keys ys) → k < length names
      low k [] all i = absurd i
      low k (y ∷ ys) all i = ⊎_elim (λ e. subst (λ z. z < length names) (sym e) (All-head Known y ys all)) (λ j. low k ys (All-tail Known y ys all) j) i

      other : (k : ℕ) → In k (keys xs) → (b : Bool) → (b ≡ true → text k ≡ text a.key) → cond b (Some (pair_at pairs a.pair).value) (maps.get m (text k)) ≡ None
      other k i true same =
          absurd (once.0 (subst (λ z. In z (keys xs)) (text_apart names k a.key distinct (low k xs (All-tail Known a xs known) i) (All-head Known a xs known)
          (same refl)) i))
      other k i false same = none k (inr i)
