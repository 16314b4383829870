-- How many records are written.
use Rattle.std.proofs.Common.{◌≡◌, ℕ, ◌+◌, ◌≤◌, true, List, [], ◌∷◌, ◌++◌, length, map, sym, ap, ◌∙◌, inl, inr, ⊎_elim, arith, refl, length-append}
use Rattle.std.proofs.lemmas.List.{length-map}
use Rattle.rec_bytes.specs.declared.key.Key.{Key}
use Rattle.rec_bytes.specs.Format as format
use Rattle.rec_bytes.specs.RecordFiles.{is_meta_file}
use Rattle.rec_bytes.specs.Space.{IsAmong, SameButReads, State, WritesOnly}
use Rattle.rec_bytes.proofs.Spaces.{writes_more}
use Rattle.store_rules.specs.Views.{key_in}
use Rattle.store_rules.specs.Writes.{AreOwn, WritesAtMost, WritesBeside, meta_keys}
use Rattle.store_rules.proofs.WriteLaws.{among_metas}
use Rattle.prop_store.specs.Touching.{TouchesProperties, property_keys}
use Rattle.prop_store.proofs.Touches.{among_either, among_left, among_right, metas}

-- reads write nothing
pub reads_write : (n : ℕ) (s t : State) → SameButReads s t → WritesAtMost n s t
reads_write n s t same = record { keys = []; few = omega arith; own = tt; only = record { each = λ q w. inl (ap (λ (z : State). z.written q) (sym same) ∙ w) } }

-- one record
pub one_writes : (s t : State) (key : Key) → is_meta_file key.file ≡ true → WritesOnly s t (key ∷ []) → WritesAtMost 1 s t
one_writes s t key is only = record {
  keys = key ∷ [];
  few = omega arith;
  own = (is, tt);
  only = writes_more s t (key ∷ []) (key ∷ meta_keys)
      (λ q i. among_left q (key ∷ []) meta_keys i) only;
}

own_both : (xs ys : List Key) → AreOwn xs → AreOwn ys → AreOwn (xs ++ ys)
own_both [] ys p q = q
own_both (x ∷ xs) ys p q = (p.0, own_both xs ys p.1 q)

-- one after the other
pub at_most_then : (n m k : ℕ) (a b c : State) → n + m ≤ k → WritesAtMost n a b → WritesAtMost m b c → WritesAtMost k a c
at_most_then n m k a b c le h g = record {
  keys = h.keys ++ g.keys;
  few = let f = h.few in let f' = g.few in omega (arith, length-append h.keys g.keys);
  own = own_both h.keys g.keys h.own g.own;
  only = record { each = λ q w. ⊎_elim (λ k. ⊎_elim (λ o. inl o) (λ i. inr (left q i)) (h.only.each q k)) (λ i. inr (right q i)) (g.only.each q w) };
}
  where
    left : (q : Key) → IsAmong q (h.keys ++ meta_keys) → IsAmong q ((h.keys ++ g.keys) ++ meta_keys)
    left q i = ⊎_elim (λ k. among_left q (h.keys ++ g.keys) meta_keys (among_left q h.keys g.keys k)) (λ k. among_right q (h.keys ++ g.keys) meta_keys k)
        (among_either q h.keys meta_keys i)

    right : (q : Key) → IsAmong q (g.keys ++ meta_keys) → IsAmong q ((h.keys ++ g.keys) ++ meta_keys)
    right q i = ⊎_elim (λ k. among_left q (h.keys ++ g.keys) meta_keys (among_right q h.keys g.keys k)) (λ k. among_right q (h.keys ++ g.keys) meta_keys k)
        (among_either q g.keys meta_keys i)

-- the element's record counts as one
pub beside_writes : (n m : ℕ) (s t : State) (key : Key) → is_meta_file key.file ≡ true → m ≡ n + 1 → WritesBeside key n s t → WritesAtMost m s t
beside_writes n m s t key is more h = record { keys = key ∷ h.keys; few = let f = h.few in omega arith; own = (is, h.own); only = h.only }

file_own : (file : ℕ) (xs : List ℕ) → is_meta_file file ≡ true → AreOwn (map (key_in file) xs)
file_own file [] is = tt
file_own file (x ∷ xs) is = (is, file_own file xs is)

-- ---- of what is touched

abbrev named : List ℕ → List ℕ → List Key
named ids blocks = map (key_in format.properties_file) ids ++ map (key_in format.strings_file) blocks

-- the meta records of properties and of strings are among all of them
own_metas : (q : Key) → IsAmong q metas → IsAmong q meta_keys
own_metas q i = ⊎_elim (λ e. among_metas format.properties_file q refl e) (λ j. ⊎_elim (λ e. among_metas format.strings_file q refl e) (λ (k : ⊥). absurd k) j)
    i

module _ (ids blocks : List ℕ) where
  named_own : AreOwn (named ids blocks)
  named_own = own_both (map (key_in format.properties_file) ids) (map (key_in format.strings_file) blocks) (file_own format.properties_file ids refl)
      (file_own format.strings_file blocks refl)

  named_count : length (named ids blocks) ≡ length ids + length blocks
  named_count = let a = length-map ids (key_in format.properties_file) in let b = length-map blocks (key_in format.strings_file) in
      omega (arith, a, b, length-append (map (key_in format.properties_file) ids) (map (key_in format.strings_file) blocks))

  named_metas : (q : Key) → IsAmong q (property_keys ids blocks) → IsAmong q (named ids blocks ++ meta_keys)
  named_metas q i =
      let strings = map (key_in format.strings_file) blocks in
      let here : IsAmong q (named ids blocks) → IsAmong q (named ids blocks ++ meta_keys) = λ j. among_left q (named ids blocks) meta_keys j in
      ⊎_elim (λ j. here (among_left q (map (key_in format.properties_file) ids) strings j))
      (λ j. ⊎_elim (λ k. here (among_right q (map (key_in format.properties_file) ids) strings k)) (λ k. among_right q (named ids blocks) meta_keys
      (own_metas q k)) (among_either q strings _ j))
      (among_either q (map (key_in format.properties_file) ids) _ i)

-- properties and blocks
pub touched_count : {tells : Type 0} (n m k : ℕ) (s t : State) → n + m ≤ k → TouchesProperties tells [] n m s t → WritesAtMost k s t
touched_count n m k s t le h = record {
  keys = named h.ids h.block_ids;
  few = let a = h.few_ids in let b = h.few_blocks in omega (arith, named_count h.ids h.block_ids);
  own = named_own h.ids h.block_ids;
  only = writes_more s t (property_keys h.ids h.block_ids) (named h.ids h.block_ids ++ meta_keys) (named_metas h.ids h.block_ids) h.only.writes;
}

-- besides the record of their element
pub touched_beside : {tells : Type 0} (n m k : ℕ) (s t : State) (key : Key) → n + m ≤ k → TouchesProperties tells (key ∷ []) n m s t → WritesBeside key k s t
touched_beside n m k s t key le h = record {
  keys = named h.ids h.block_ids;
  few = let a = h.few_ids in let b = h.few_blocks in omega (arith, named_count h.ids h.block_ids);
  own = named_own h.ids h.block_ids;
  only = writes_more s t (key ∷ property_keys h.ids h.block_ids) (key ∷ named h.ids h.block_ids ++ meta_keys)
      (λ q i. ⊎_elim (λ e. inl e) (λ j. inr (named_metas h.ids h.block_ids q j)) i) h.only.writes;
}
