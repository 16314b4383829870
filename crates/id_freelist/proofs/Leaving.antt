-- An identifier given back: one record less in use.
use Rattle.std.proofs.Common.{get_or, None, ◌≡◌, ◌≢◌, ◌⊎◌, ℕ, ◌+◌, ◌<◌, ◌≤◌, ◌^◌, nat_lt, Bool, true, false, ◌&&◌, ◌||◌}
use Rattle.std.proofs.Common.{Some, List, [], ◌∷◌, length, sym, ap, ◌∙◌, subst, inl, inr, ⊎_elim, arith, refl}
use Rattle.std.specs.List.{list_any}
use Rattle.std.specs.Prelude.{nat_le, cond}
use Rattle.std.proofs.lemmas.Bool.{cases_lt, true≢false}
use Rattle.std.proofs.lemmas.Bool.Decides.{nat_tests}
use Rattle.std.proofs.lemmas.List.{get_or-replicate}
use Rattle.rec_bytes.specs.declared.shape.Shape.{Shape}
use Rattle.rec_bytes.specs.Format as format
use Rattle.rec_bytes.specs.Meta.{IsMetaInRange}
use Rattle.rec_bytes.specs.Record.{field, zeros}
use Rattle.rec_bytes.specs.RecordFiles.{meta_key_of, room_of}
use Rattle.rec_bytes.specs.Space.{meta_in}
use Rattle.rec_bytes.proofs.Numbers.{byte-is, field-with_field_other, field-with_field_same}
use Rattle.store_rules.specs.Chains.{In}
use Rattle.store_rules.specs.Ranges.{free_layout, Fits, Layout, bytes_of, is_in, is_reused, layout_by, may}
use Rattle.store_rules.specs.Rows.{ids}
use Rattle.store_rules.specs.Rules.{IsSplit}
use Rattle.store_rules.specs.Views.{Records, high, is_live, kind_at, rec_at}
use Rattle.store_rules.proofs.Changes.{IsChanged, live_other}
use Rattle.store_rules.proofs.Counts.{ids_with}
use Rattle.store_rules.proofs.Made.{IsGone}
use Rattle.store_rules.proofs.MetaLaws.{free_fits, live_fits, meta_in_range, meta_of_reused}
use Rattle.store_rules.proofs.NumberLaws.{eq_true, lt_true, nat_cases}
use Rattle.store_rules.proofs.ViewLaws.{kind_below, kind_low, live_false, live_true}
use Rattle.id_freelist.specs.FreeLists.{free_record}
use Rattle.id_freelist.specs.Giving.{HasGiven}

-- ---- the record of a free identifier

pub byte_of_zeros : (i : ℕ) → i < 64 → field 1 zeros i ≡ 0
byte_of_zeros i lt = let z : get_or zeros.bytes i 0 ≡ 0 = get_or-replicate 64 i 0 0 lt in sym (byte-is zeros i (omega arith)) ∙ z

free_byte : (next i : ℕ) → i < 64 → (i < 4) ⊎ (8 ≤ i) → field 1 (free_record next) i ≡ 0
free_byte next i lt out = field-with_field_other 4 zeros format.free_next next 1 i (omega arith) (⊎_elim (λ h. inr (omega arith)) (λ h. inl (omega arith)) out)
    ∙ byte_of_zeros i lt

pub free_is_free : (next : ℕ) → field 1 (free_record next) format.kind ≡ format.free_kind
free_is_free next = free_byte next 0 (omega arith) (inl (omega arith))

pub free_fits_file : (marks : ℕ → ℕ) (file next : ℕ) → is_reused file ≡ true → next < 2 ^ 32 → (next ≡ format.nil) ⊎ (next < marks file)
    → Fits marks file (free_record next)
free_fits_file marks file next is small low = record {
  layout = free_table;
  is = ap (layout_by file (free_record next)) (free_is_free next) ∙ of_file (is_reused file) is;
  point = rw at (⊎_elim (λ (e : next ≡ format.nil). rw (eq_true next format.nil e) (right (nat_lt next (marks file)))) (λ (lt : next < marks file). rw
      (lt_true next (marks file) lt) refl) low);
  blank = λ i lt out. free_byte next i lt (outside i out);
}
  where
    free_table : Layout
    free_table = record { pointers = may format.free_next file ∷ []; used = bytes_of format.free_next 4 ∷ [] }

    at : field 4 (free_record next) format.free_next ≡ next
    at = field-with_field_same 4 zeros format.free_next next (omega arith) small

    of_file : (b : Bool) → b ≡ true → cond b (free_layout file) None ≡ Some free_table
    of_file b e = rw e refl

    right : (a : Bool) → ((a || true) && true) ≡ true
    right true = refl
    right false = refl

    outside : (i : ℕ) → list_any (is_in i) (bytes_of format.free_next 4 ∷ []) ≡ false → (i < 4) ⊎ (8 ≤ i)
    outside i h = ⊎_elim (λ (lt : i < 4). inl lt) (λ (ge : 4 ≤ i). ⊎_elim (λ (lt : i < 8). absurd (true≢false (sym (within i ge lt) ∙ h)))
        (λ (le : 8 ≤ i). inr le) (cases_lt i 8)) (cases_lt i 4)
      where
        within : (i : ℕ) → 4 ≤ i → i < 8 → list_any (is_in i) (bytes_of format.free_next 4 ∷ []) ≡ true
        within i ge lt = let a : nat_le 4 i ≡ true = grind (arith, nat_tests) in let b : nat_lt i (4 + 4) ≡ true = grind (arith, nat_tests) in rw (a, b) refl

-- ---- one record less

-- what is in use isn't free
pub not_free_id : (s : Records) (file id : ℕ) (free : List ℕ) → IsSplit s file (is_live s file) free → kind_at s file id ≢ format.free_kind → In id free → ⊥
not_free_id s file id free split used i = true≢false (sym (live_true (kind_at s file id) used) ∙ split.only id i)

module _ (s t : Records) (shape : Shape) (file id : ℕ) (free : List ℕ) (is_file : is_reused file ≡ true) (split : IsSplit s file (is_live s file) free)
    (used : kind_at s file id ≢ format.free_kind)
    (given : HasGiven s t file id free) (room : room_of shape file < 2 ^ 32) (range : IsMetaInRange shape file (s (meta_key_of file))) where
  id_low : id < high s file
  id_low = kind_below (high s file) (rec_at s file id) id used

  live_old : is_live s file id ≡ true
  live_old = live_true (kind_at s file id) used

  not_free : In id free → ⊥
  not_free = not_free_id s file id free split used

  change : IsChanged s t file id
  change = record {
    is_file = meta_of_reused file is_file;
    others = given.others;
    more = let m = given.mark in omega arith;
    covers = λ x lt ne. let m = given.mark in omega arith;
  }

  gone : kind_at t file id ≡ format.free_kind
  gone = let m = given.mark in let l = id_low in kind_low (high t file) (rec_at t file id) id (omega arith) ∙ ap (λ r. field 1 r format.kind) given.here
      ∙ free_is_free (meta_in s file).free

  split_gone : IsSplit t file (is_live t file) (id ∷ free)
  split_gone = record {
    walk = given.list;
    low = λ x i. let m = given.mark in ⊎_elim (λ (e : x ≡ id). let l = id_low in omega arith) (λ j. let b = split.low x j in omega arith) i;
    only = λ x i. ⊎_elim (λ (e : x ≡ id). ap (is_live t file) e ∙ live_false (kind_at t file id) gone)
        (λ j. live_other s t file id change x (λ e. not_free (subst (λ z. In z free) e j)) ∙ split.only x j) i;
    all = λ x lt out. ⊎_elim (λ (e : x ≡ id). inl e) (λ (ne : x ≢ id). inr (split.all x (let m = given.mark in omega arith)
        (sym (live_other s t file id change x ne) ∙ out))) (nat_cases x id);
    exact =
        let more : length (ids (is_live s file) (high s file)) ≡ length (ids (is_live t file) (high s file)) + 1
        = ids_with (is_live t file) (is_live s file) (high s file) (high s file) id (live_false (kind_at t file id) gone) live_old
        (λ x ne. sym (live_other s t file id change x ne)) id_low (inl refl) in
        let e = split.exact in
        let l = given.live in
        let here : (meta_in t file).live ≡ length (ids (is_live t file) (high s file)) = omega arith in
        here ∙ ap (λ m. length (ids (is_live t file) m)) (sym given.mark);
  }

  first_low : (xs : List ℕ) → IsSplit s file (is_live s file) xs → ((meta_in s file).free ≡ format.nil) ⊎ ((meta_in s file).free < high s file)
  first_low [] k = inl k.walk
  first_low (y ∷ later) k = inr (subst (λ z. z < high s file) (sym k.walk.0) (k.low y (inl refl)))

  pub is_gone : IsGone s t shape file id
  is_gone = record {
    change = change;
    gone = gone;
    fits = subst (Fits (high t) file) (sym given.here) (free_fits_file (high t) file (meta_in s file).free is_file (free_fits s file)
        (subst (λ n. ((meta_in s file).free ≡ format.nil) ⊎ ((meta_in s file).free < n)) (sym given.mark) (first_low free split)));
    mark = given.mark;
    meta = subst (IsMetaInRange shape file) (sym given.meta)
        (meta_in_range shape file (s (meta_key_of file)) (meta_in t file) range (let m = given.mark in omega arith) (let m = given.mark in let r = range.high in
        omega arith) room
        (inr (subst (λ z. z < high t file) (sym given.list.0) (let m = given.mark in let l = id_low in omega arith))) (live_fits t file));
    free = id ∷ free;
    split = split_gone;
  }
