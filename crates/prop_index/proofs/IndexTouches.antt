-- What calls touch of an index, one after another.
use Rattle.std.proofs.Common.{◌≡◌, ℕ, ◌+◌, ◌≤◌, nat_eq, Bool, true, false, cond, refl, List, [], ◌∷◌, ◌++◌, length, map}
use Rattle.std.proofs.Common.{sym, ap, ◌∙◌, subst, inl, inr, ⊎_elim, arith, length-append}
use Rattle.std.proofs.lemmas.List.{map-append}
use Rattle.rec_bytes.specs.declared.key.Key.{Key}
use Rattle.rec_bytes.specs.declared.record.Rec.{Rec}
use Rattle.rec_bytes.specs.Footprint.{IsSame, Wrote}
use Rattle.rec_bytes.specs.Format as format
use Rattle.rec_bytes.specs.RecordFiles.{meta_key_of}
use Rattle.rec_bytes.specs.Space.{IsAmong, SameButReads, State, after_put}
use Rattle.store_rules.specs.Chains.{In}
use Rattle.store_rules.specs.Views.{key_in}
use Rattle.prop_store.specs.Reading.{ReadsAtMost}
use Rattle.prop_store.specs.Touching.{TouchesOnly}
use Rattle.prop_store.proofs.ReadCounts.{reads_same}
use Rattle.prop_store.proofs.Touches.{among_either, among_left, among_map, among_right, only_more, only_put, only_then}
use Rattle.prop_index.specs.Touching.{TouchesFront, TouchesIndex, front_ids, index_keys, some_id}

abbrev metas : List Key
metas = meta_key_of format.index_file ∷ []

abbrev at : ℕ → Key
at x = key_in format.index_file x

-- more records of the index
left_keys : (q : Key) (xs ys : List ℕ) → IsAmong q (index_keys xs) → IsAmong q (index_keys (xs ++ ys))
left_keys q xs ys i = subst (λ (l : List Key). IsAmong q (l ++ metas)) (sym (map-append at xs ys))
    (⊎_elim (λ j. among_left q (map at xs ++ map at ys) metas (among_left q (map at xs) (map at ys) j)) (λ j. among_right q (map at xs ++ map at ys) metas j)
    (among_either q (map at xs) metas i))

right_keys : (q : Key) (xs ys : List ℕ) → IsAmong q (index_keys ys) → IsAmong q (index_keys (xs ++ ys))
right_keys q xs ys i = subst (λ (l : List Key). IsAmong q (l ++ metas)) (sym (map-append at xs ys))
    (⊎_elim (λ j. among_left q (map at xs ++ map at ys) metas (among_right q (map at xs) (map at ys) j)) (λ j. among_right q (map at xs ++ map at ys) metas j)
    (among_either q (map at ys) metas i))

-- one call, and then another
pub index_then : {tells : Type 0} (n m k : ℕ) (a b c : State) → n + m ≤ k → TouchesIndex tells n a b → TouchesIndex tells m b c → TouchesIndex tells k a c
index_then n m k a b c le h g = record {
  ids = h.ids ++ g.ids;
  few = let f = h.few in let e = g.few in omega (arith, length-append h.ids g.ids);
  only = only_then a b c (index_keys h.ids) (index_keys g.ids) (index_keys (h.ids ++ g.ids)) (λ q. left_keys q h.ids g.ids) (λ q. right_keys q h.ids g.ids)
      h.only g.only;
}

-- reads alone
pub index_same : {tells : Type 0} (n : ℕ) (s t : State) → SameButReads s t → TouchesIndex tells n s t
index_same n s t same = record {
  ids = [];
  few = omega arith;
  only = record {
    writes = record { each = λ q w. inl (ap (λ (z : State). z.written q) (sym same) ∙ w) };
    stays = λ told. record { each = λ q. inl (ap (λ (z : State). z.records q) same) };
  };
}

pub index_read : {tells : Type 0} (n most : ℕ) (s t : State) → ReadsAtMost most s t → TouchesIndex tells n s t
index_read n most s t reads = index_same n s t (reads_same most s t reads)

-- one record
index_one : {tells : Type 0} (n : ℕ) (s t : State) (id : ℕ) → 1 ≤ n → TouchesOnly tells s t (at id ∷ []) → TouchesIndex tells n s t
index_one n s t id le h = record {
  ids = id ∷ [];
  few = le;
  only = only_more s t (at id ∷ []) (index_keys (id ∷ [])) (λ q i. ⊎_elim (λ e. inl e)
      (λ (k : ⊥). absurd k) i) h;
}

pub index_put : {tells : Type 0} (n : ℕ) (s t : State) (id : ℕ) (rec : Rec) → 1 ≤ n → t ≡ after_put s (at id) rec → TouchesIndex tells n s t
index_put n s t id rec le is = index_one n s t id le (only_put s t (at id) rec is)

pub only_wrote_key : {tells : Type 0} (s t : State) (key : Key) → Wrote s t (key ∷ []) [] 0 → TouchesOnly tells s t (key ∷ [])
only_wrote_key s t key w = record {
  writes = record { each = λ q is. ⊎_elim (λ (same : IsSame s t q). inl (sym same.written ∙ is)) (λ i. inr (fixed w.others w.few q i)) (w.each q) };
  stays = λ told. record { each = λ q. ⊎_elim (λ (same : IsSame s t q). inl same.held) (λ i. inr (fixed w.others w.few q i)) (w.each q) };
}
  where
    fixed : (others : List Key) → length others ≤ 0 → (q : Key) → IsAmong q (others ++ key ∷ []) → IsAmong q (key ∷ [])
    fixed [] few q i = i
    fixed (x ∷ xs) few q i = absurd (omega arith)

pub only_wrote : {tells : Type 0} (s t : State) (id : ℕ) → Wrote s t (at id ∷ []) [] 0 → TouchesOnly tells s t (at id ∷ [])
only_wrote s t id w = only_wrote_key s t (at id) w

pub index_wrote : {tells : Type 0} (n : ℕ) (s t : State) (id : ℕ) → 1 ≤ n → Wrote s t (at id ∷ []) [] 0 → TouchesIndex tells n s t
index_wrote n s t id le w = index_one n s t id le (only_wrote s t id w)

-- ---- an entry in front of a bucket

at_in : (q : Key) (xs : List ℕ) → IsAmong q (map at xs) → (x : ℕ) × In x xs × (q ≡ at x)
at_in q [] i = elim i [ ]
at_in q (x ∷ xs) (inl e) = (x, inl refl, e)
at_in q (x ∷ xs) (inr i) = let k = at_in q xs i in (k.0, inr k.1, k.2)

-- the key of one of them
pub key_among : (x : ℕ) (xs : List ℕ) → In x xs → IsAmong (at x) (index_keys xs)
key_among x xs i = among_left (at x) (map at xs) metas (among_map format.index_file x xs i)

-- the keys of some of them
pub keys_among : (xs ys : List ℕ) → ((x : ℕ) → In x xs → In x ys) → (q : Key) → IsAmong q (index_keys xs) → IsAmong q (index_keys ys)
keys_among xs ys sub q i = ⊎_elim
    (λ (j : IsAmong q (map at xs)). let k = at_in q xs j in subst (λ (z : Key). IsAmong z (index_keys ys)) (sym k.2) (key_among k.0 ys (sub k.0 k.1)))
    (λ (j : IsAmong q metas). among_right q (map at ys) metas j)
    (among_either q (map at xs) metas i)

meta_among : (xs : List ℕ) (q : Key) → IsAmong q metas → IsAmong q (index_keys xs)
meta_among xs q i = among_right q (map at xs) metas i

one_among : (x : ℕ) (xs : List ℕ) → In x xs → (q : Key) → IsAmong q (at x ∷ []) → IsAmong q (index_keys xs)
one_among x xs i q (inl e) = subst (λ (z : Key). IsAmong z (index_keys xs)) (sym e) (key_among x xs i)
one_among x xs i q (inr k) = absurd k

module _ {tells : Type 0} (id head first : ℕ) where
  -- it was written, and the one that stood first led back to it
  pub put_then_back : (s t u : State) → TouchesOnly tells s t (at id ∷ []) → TouchesOnly tells t u (index_keys (some_id first))
      → TouchesOnly tells s u (index_keys (front_ids id head first))
  put_then_back s t u a b = only_then s t u (at id ∷ []) (index_keys (some_id first)) (index_keys (front_ids id head first))
      (one_among id (front_ids id head first) (inl refl)) (keys_among (some_id first) (front_ids id head first) (λ x i. inr (inr i))) a b

  -- and then the head led to it
  pub then_head : (s t u : State) → TouchesOnly tells s t (index_keys (front_ids id head first)) → TouchesOnly tells t u (at head ∷ [])
      → TouchesOnly tells s u (index_keys (front_ids id head first))
  then_head s t u a b = only_then s t u (index_keys (front_ids id head first)) (at head ∷ []) (index_keys (front_ids id head first)) (λ q i. i)
      (one_among head (front_ids id head first) (inr (inl refl))) a b

  pub only_front_put : (s t : State) (rec : Rec) → t ≡ after_put s (at id) rec → TouchesOnly tells s t (at id ∷ [])
  only_front_put s t rec is = only_put s t (at id) rec is

-- after the index's meta record
pub meta_then : {tells : Type 0} (ids : List ℕ) (s t u : State) → TouchesOnly tells s t metas → TouchesOnly tells t u (index_keys ids)
    → TouchesOnly tells s u (index_keys ids)
meta_then ids s t u a b = only_then s t u metas (index_keys ids) (index_keys ids) (meta_among ids) (λ q i. i) a b

pub meta_only : {tells : Type 0} (ids : List ℕ) (s t : State) → TouchesOnly tells s t metas → TouchesOnly tells s t (index_keys ids)
meta_only ids s t a = only_more s t metas (index_keys ids) (meta_among ids) a

-- one record of the index, and its meta record
pub only_one : {tells : Type 0} (id : ℕ) (s t : State) → TouchesOnly tells s t (at id ∷ []) → TouchesOnly tells s t (index_keys (id ∷ []))
only_one id s t h = only_more s t (at id ∷ []) (index_keys (id ∷ [])) (one_among id (id ∷ []) (inl refl)) h

pub index_one_taken : {tells : Type 0} (id : ℕ) (s t : State) → TouchesOnly tells s t (index_keys (id ∷ [])) → TouchesIndex tells 1 s t
index_one_taken id s t h = record { ids = id ∷ []; few = omega arith; only = h }

-- some records, and then others
pub only_join : {tells : Type 0} (xs ys zs : List ℕ) (s t u : State) → ((x : ℕ) → In x xs → In x zs) → ((x : ℕ) → In x ys → In x zs)
    → TouchesOnly tells s t (index_keys xs) → TouchesOnly tells t u (index_keys ys) → TouchesOnly tells s u (index_keys zs)
only_join xs ys zs s t u left right h g = only_then s t u (index_keys xs) (index_keys ys) (index_keys zs) (keys_among xs zs left) (keys_among ys zs right) h g

pub only_ids : {tells : Type 0} (xs ys : List ℕ) (s t : State) → ((x : ℕ) → In x xs → In x ys) → TouchesOnly tells s t (index_keys xs)
    → TouchesOnly tells s t (index_keys ys)
only_ids xs ys s t sub h = only_more s t (index_keys xs) (index_keys ys) (keys_among xs ys sub) h

-- the meta record alone
pub then_meta : {tells : Type 0} (ids : List ℕ) (s t u : State) (key : Key) → key ≡ meta_key_of format.index_file → TouchesOnly tells s t (index_keys ids)
    → Wrote t u (key ∷ []) [] 0 → TouchesOnly tells s u (index_keys ids)
then_meta ids s t u key is h w = only_then s t u (index_keys ids) (key ∷ []) (index_keys ids) (λ q i. i)
    (λ q i. meta_among ids q (subst (λ (k : Key). IsAmong q (k ∷ [])) is i)) h (only_wrote_key t u key w)

few_some : (id : ℕ) → length (some_id id) ≤ 1
few_some id = by (nat_eq id format.nil)
  where
    by : (b : Bool) → length (cond b [] (id ∷ [])) ≤ 1
    by true = omega arith
    by false = omega arith

-- they are three at most
pub front_index : {tells : Type 0} (n head first : ℕ) (s t : State) → 3 ≤ n → TouchesFront tells head first s t → TouchesIndex tells n s t
front_index n head first s t le h = record { ids = front_ids h.id head first; few = let few = few_some first in omega (arith, le, few); only = h.only }

-- an identifier that was taken or given back
pub index_taken : {tells : Type 0} (n : ℕ) (s t : State) → TouchesOnly tells s t metas → TouchesIndex tells n s t
index_taken n s t h = record { ids = []; few = omega arith; only = h }

pub index_given : {tells : Type 0} (n : ℕ) (s t : State) (id : ℕ) → 1 ≤ n → TouchesOnly tells s t (at id ∷ metas) → TouchesIndex tells n s t
index_given n s t id le h = record { ids = id ∷ []; few = le; only = h }
