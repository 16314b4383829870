-- What taking and giving an identifier leaves of a file's free list.
use Rattle.std.proofs.Common.{◌≡◌, ◌≢◌, ◌⊎◌, ◌+◌, ◌-◌, ◌<◌, ◌^◌, Bool, true, false, ℕ, List, [], ◌∷◌, inl, inr, sym, ap, ◌∙◌, subst, arith, refl}
use Rattle.rec_bytes.specs.declared.key.Key.{Key}
use Rattle.rec_bytes.specs.declared.meta.Meta.{Meta}
use Rattle.rec_bytes.specs.Format as format
use Rattle.rec_bytes.specs.Key.{key_eq}
use Rattle.rec_bytes.specs.Meta as metas
use Rattle.rec_bytes.specs.Meta.{with_meta}
use Rattle.rec_bytes.specs.Record.{field, zeros}
use Rattle.rec_bytes.specs.RecordFiles.{is_meta_file, meta_key_of}
use Rattle.rec_bytes.specs.Space.{IsAmong, State, after_put, meta_in, meta_of, put}
use Rattle.rec_bytes.proofs.KeyLaws.{key_eq_true}
use Rattle.rec_bytes.proofs.Metas.{meta_reads_back}
use Rattle.rec_bytes.proofs.Numbers.{field-lt, field-with_field_same}
use Rattle.rec_bytes.proofs.Spaces.{put_same, put_other}
use Rattle.store_rules.specs.Chains.{In, IsWalk}
use Rattle.store_rules.specs.Rules.{next_free}
use Rattle.store_rules.specs.Views.{Records, key_in, rec_at}
use Rattle.store_rules.specs.Writes.{ChangesOnly}
use Rattle.store_rules.proofs.ChainLaws.{walk_stays}
use Rattle.store_rules.proofs.MetaLaws.{free_fits, high_fits, live_fits, not_meta_key}
use Rattle.id_freelist.specs.FreeLists.{IsFreeList, free_record}
use Rattle.id_freelist.specs.Giving.{CanGive, HasGiven, given}
use Rattle.id_freelist.specs.Taking.{HasTaken, free_taken}

-- the records with other numbers in a file's meta record
abbrev meta_put : Records → ℕ → Meta → Records
meta_put records file m = put records (meta_key_of file) (with_meta (records (meta_key_of file)) m)

module _ (records : Records) (file : ℕ) (m : Meta) (h : m.high < 2 ^ 32) (f : m.free < 2 ^ 32) (l : m.live < 2 ^ 32) where
  put_reads_back : meta_in (meta_put records file m) file ≡ m
  put_reads_back = ap metas.meta_of (put_same records (meta_key_of file) (with_meta (records (meta_key_of file)) m))
      ∙ meta_reads_back (records (meta_key_of file)) m h f l

  put_is : meta_put records file m (meta_key_of file) ≡ with_meta (records (meta_key_of file)) (meta_in (meta_put records file m) file)
  put_is = put_same records (meta_key_of file) (with_meta (records (meta_key_of file)) m) ∙ ap (with_meta (records (meta_key_of file))) (sym put_reads_back)

  put_elsewhere : (key : Key) → key ≢ meta_key_of file → meta_put records file m key ≡ records key
  put_elsewhere key ne = put_other records (meta_key_of file) (with_meta (records (meta_key_of file)) m) key ne

  put_walk : is_meta_file file ≡ true → (from : ℕ) (free : List ℕ) → IsWalk (next_free records file) from free
      → IsWalk (next_free (meta_put records file m) file) from free
  put_walk is from free walk = walk_stays (next_free records file) (next_free (meta_put records file m) file) from free
      (λ x i. ap (λ r. field 4 r format.free_next) (put_elsewhere (key_in file x) (not_meta_key file x file is))) walk

-- the first free one is taken
pub has_taken_free : (s : State) (file : ℕ) (free : List ℕ) → is_meta_file file ≡ true → (meta_of s file).free ≢ format.nil
    → (meta_of s file).live < format.most_ids
    → IsFreeList s.records file free → HasTaken s.records (free_taken s file).records file (meta_of s file).free free
unfolding free_taken
has_taken_free s file [] is some live list = absurd (some list)
has_taken_free s file (x ∷ later) is some live list =
    let next = next_free s.records file (meta_of s file).free in
    let m : Meta = record { high = (meta_of s file).high; free = next; live = (meta_of s file).live + 1 } in
    let small : next < 2 ^ 32 = field-lt 4 (rec_at s.records file (meta_of s file).free) format.free_next in
    let h = high_fits s.records file in
    let l : m.live < 2 ^ 32 = omega arith in
    let back = put_reads_back s.records file m h small l in
    let from : (meta_in (meta_put s.records file m) file).free ≡ next_free s.records file x = ap (λ (q : Meta). q.free) back
    ∙ ap (next_free s.records file) list.0 in
    record {
      is = list.0;
      list = subst (λ f. IsWalk (next_free (meta_put s.records file m) file) f later) (sym from)
          (put_walk s.records file m h small l is (next_free s.records file x) later list.2);
      mark = ap (λ (q : Meta). q.high) back;
      live = ap (λ (q : Meta). q.live) back;
      meta = put_is s.records file m h small l;
      others = put_elsewhere s.records file m h small l;
    }

-- one given back stands first
pub has_given : (s : State) (file id : ℕ) (free : List ℕ) → is_meta_file file ≡ true → id < format.most_ids → CanGive s file id free
    → HasGiven s.records (given s file id).records file id free
has_given s file id free is small can =
    let old = meta_of s file in
    let one = after_put s (key_in file id) (free_record old.free) in
    let m : Meta = record { high = old.high; free = id; live = old.live - 1 } in
    let h = high_fits s.records file in
    let f = free_fits s.records file in
    let l = live_fits s.records file in
    let l1 : old.live - 1 < 2 ^ 32 = omega arith in
    let id_fits : id < 2 ^ 32 = omega arith in
    let meta_stays : one.records (meta_key_of file) ≡ s.records (meta_key_of file) =
    put_other s.records (key_in file id) (free_record old.free) (meta_key_of file) (λ e. not_meta_key file id file is (sym e)) in
    let back = put_reads_back one.records file m h id_fits l1 in
    let next = next_free one.records file in
    let at_id : next id ≡ old.free = ap (λ r. field 4 r format.free_next) (put_same s.records (key_in file id) (free_record old.free))
    ∙ field-with_field_same 4 zeros format.free_next old.free (omega arith) f in
    let at_other : (x : ℕ) → In x free → next x ≡ next_free s.records file x
    = λ x i. ap (λ r. field 4 r format.free_next) (put_other s.records (key_in file id) (free_record old.free) (key_in file x)
    (λ e. can.fresh (subst (λ z. In z free) (ap (λ (k : Key). k.id) e) i))) in
    let walk : IsWalk next id (id ∷ free) = (
      refl,
      (λ e. omega arith),
      subst (λ z. IsWalk next z free) (sym at_id) (walk_stays (next_free s.records file)
          next old.free free at_other can.list),
    ) in
    record {
      list = subst (λ z. IsWalk (next_free (meta_put one.records file m) file) z (id ∷ free)) (sym (ap (λ (q : Meta). q.free) back))
          (put_walk one.records file m h id_fits l1 is id (id ∷ free) walk);
      mark = ap (λ (q : Meta). q.high) back;
      live = ap (λ (q : Meta). q.live) back;
      here = put_elsewhere one.records file m h id_fits l1 (key_in file id) (not_meta_key file id file is)
          ∙ put_same s.records (key_in file id) (free_record old.free);
      meta = put_is one.records file m h id_fits l1 ∙ ap (λ r. with_meta r (meta_in (meta_put one.records file m) file)) meta_stays;
      others = λ key ne ne'. put_elsewhere one.records file m h id_fits l1 key ne ∙ put_other s.records (key_in file id) (free_record old.free) key ne';
    }

-- ---- the same, by the meta record that was read

pub free_by : (s new : State) (file : ℕ) (meta : Meta) (free : List ℕ) → meta ≡ meta_of s file → is_meta_file file ≡ true → meta.free ≢ format.nil
    → meta.live < format.most_ids → new ≡ free_taken s file
    → IsFreeList s.records file free → HasTaken s.records new.records file meta.free free
free_by s new file meta free read is some live now list =
    let P : Meta → Type 0 = λ m. m.free ≢ format.nil → m.live < format.most_ids → HasTaken s.records new.records file m.free free in
    subst P (sym read) (λ n l. subst (λ (t : State). HasTaken s.records t.records file (meta_of s file).free free) (sym now) (has_taken_free s file free is n l
    list)) some live

-- a give changes the identifier's record and the meta record alone
pub given_stays : (s t : State) (file id : ℕ) → t ≡ given s file id → ChangesOnly s t (key_in file id ∷ meta_key_of file ∷ [])
given_stays s t file id is = record { each = λ q. by q (key_eq q (key_in file id)) (key_eq q (meta_key_of file)) refl refl }
  where
    unchanged : (q : Key) → key_eq q (key_in file id) ≡ false → key_eq q (meta_key_of file) ≡ false → (given s file id).records q ≡ s.records q
    unchanged q e f = rw (e, f) refl

    by : (q : Key) (own meta : Bool) → key_eq q (key_in file id) ≡ own → key_eq q (meta_key_of file) ≡ meta
        → (t.records q ≡ s.records q) ⊎ IsAmong q (key_in file id ∷ meta_key_of file ∷ [])
    by q true meta e f = inr (inl (key_eq_true q (key_in file id) e))
    by q false true e f = inr (inr (inl (key_eq_true q (meta_key_of file) f)))
    by q false false e f = inl (ap (λ (z : State). z.records q) is ∙ unchanged q e f)
