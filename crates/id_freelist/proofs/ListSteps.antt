-- What a take, a give and a change of records in use leave of a free list.
use Rattle.std.proofs.Common.{◌≡◌, ◌≢◌, ◌⊎◌, ℕ, ◌+◌, ◌-◌, ◌<◌, ◌≤◌, nat_eq, not, Bool, true, false, cond, sym, ap, ◌∙◌, subst, inl, inr, ⊎_elim, arith, refl}
use Rattle.std.proofs.lemmas.Bool.{cases_lt}
use Rattle.rec_bytes.specs.declared.key.Key.{Key}
use Rattle.rec_bytes.specs.declared.meta.Meta.{Meta}
use Rattle.rec_bytes.specs.declared.record.Rec.{Rec}
use Rattle.rec_bytes.specs.declared.shape.Shape.{Shape}
use Rattle.rec_bytes.specs.Format as format
use Rattle.rec_bytes.specs.Meta as metas
use Rattle.rec_bytes.specs.Meta.{IsLinkBelow}
use Rattle.rec_bytes.specs.Record.{field, with_field, zeros}
use Rattle.rec_bytes.specs.RecordFiles.{is_meta_file, meta_key_of, room_of}
use Rattle.rec_bytes.specs.Space.{SameButReads, State, after_get, after_put, after_set, meta_of}
use Rattle.rec_bytes.proofs.Numbers.{field-lt, field-with_field_other, field-with_field_same}
use Rattle.rec_bytes.proofs.Spaces.{meta_of-after_meta, put_other, put_same}
use Rattle.store_rules.specs.Rules.{next_free}
use Rattle.store_rules.specs.Views.{Records, high, is_live, key_in, kind_at, kind_in, rec_at}
use Rattle.store_rules.proofs.Changes.{IsChanged, kind_other, live_other}
use Rattle.store_rules.proofs.MetaLaws.{free_fits, high_fits, live_fits, not_meta_key}
use Rattle.store_rules.proofs.NumberLaws.{eq_false, eq_true, nat_cases}
use Rattle.store_rules.proofs.ViewLaws.{kind_below, kind_low, live_true}
use Rattle.id_freelist.specs.FreeLists.{free_record}
use Rattle.id_freelist.specs.Giving.{given}
use Rattle.id_freelist.specs.ListDamage.{BlamesList, HarmsNoList, IsListDamage, KeepsInUse}
use Rattle.id_freelist.specs.TakeFault.{BlamesBroken, of_space}
use Rattle.id_freelist.specs.Taking.{BadNext, IsTakeFault, IsUndamaged, IsUnused, Overcounted, Unranged, free_taken, mark_taken, taken, taken_id}
use Rattle.id_freelist.proofs.Leaving.{free_is_free}
use Rattle.id_freelist.specs.declared.take_fault.TakeFault.{TakeFault}
use Rattle.id_freelist.specs.declared.take_fault.TakeFault.TheVariants.{Damaged, Disk, Full, Memory}
use Rattle.rec_bytes.specs.declared.space.SpaceFault.{SpaceFault}
use Rattle.rec_bytes.specs.declared.space.SpaceFault.TheVariants as spaces
use Rattle.store_rules.specs.Ranges.{is_reused}
use Rattle.id_freelist.proofs.TakeBreaches.{list_breaks, list_damage}
use Rattle.id_freelist.proofs.ListLaws.{IsGivenBack, IsTakenUp, give_back, same_back, take_back}

-- ---- an identifier taken

pub shape-taken : (s : State) (file : ℕ) → (taken s file).shape ≡ s.shape
unfolding mark_taken free_taken
shape-taken s file = by (nat_eq (meta_of s file).free format.nil)
  where
    by : (b : Bool) → (cond b (mark_taken s file) (free_taken s file)).shape ≡ s.shape
    by true = refl
    by false = refl

-- only the file's meta record changed
pub records-taken : (s : State) (file : ℕ) (key : Key) → key ≢ meta_key_of file → (taken s file).records key ≡ s.records key
unfolding mark_taken free_taken
records-taken s file key other = by (nat_eq (meta_of s file).free format.nil)
  where
    by : (b : Bool) → (cond b (mark_taken s file) (free_taken s file)).records key ≡ s.records key
    by true = put_other s.records (meta_key_of file) _ key other
    by false = put_other s.records (meta_key_of file) _ key other

meta-mark_taken : (s : State) (file : ℕ) → (meta_of s file).high < format.most_ids → (meta_of s file).live ≤ (meta_of s file).high
    → meta_of (mark_taken s file) file ≡ record { high = (meta_of s file).high + 1; free = format.nil; live = (meta_of s file).live + 1 }
unfolding mark_taken
meta-mark_taken s file mark counted = meta_of-after_meta s file (record {
  high = (meta_of s file).high + 1;
  free = format.nil;
  live = (meta_of s file).live + 1;
}) (omega arith) (omega arith) (omega (arith, mark, counted))

meta-free_taken : (s : State) (file : ℕ) → (meta_of s file).live < (meta_of s file).high
    → meta_of (free_taken s file) file ≡ record {
      high = (meta_of s file).high;
      free = next_free s.records file (meta_of s file).free;
      live =
          (meta_of s file).live + 1;
    }
unfolding free_taken
meta-free_taken s file counted =
    let mark = high_fits s.records file in
    meta_of-after_meta (after_get s) file (record {
      high = (meta_of s file).high;
      free = next_free s.records file (meta_of s file).free;
      live =
          (meta_of s file).live + 1;
    })
    mark (field-lt 4 (rec_at s.records file (meta_of s file).free) format.free_next) (omega (arith, mark, counted))

-- the identifier was taken of a list that no take blames
module _ (s a t : State) (file id : ℕ) (is_file : is_meta_file file ≡ true) (now : a ≡ taken s file) (is : id ≡ taken_id (meta_of s file))
    (right : IsUndamaged s file)
    (fresh : kind_at s.records file id ≡ format.free_kind) (few : id < format.most_ids) (small : id < room_of s.shape file)
    (shape : t.shape ≡ s.shape) (others : (key : Key) → key ≢ key_in file id → t.records key ≡ a.records key)
    (used : field 1 (rec_at t.records file id) format.kind ≢ format.free_kind) where
  meta_then : meta_of t file ≡ meta_of a file
  meta_then = ap metas.meta_of (others (meta_key_of file) (λ e. not_meta_key file id file is_file (sym e)))

  mark_fits : (meta_of s file).high ≤ room_of s.shape file
  mark_fits = ⊎_elim (λ (lt : room_of s.shape file < (meta_of s file).high). absurd (right _ (Unranged (λ r. let le = r.mark in omega arith))))
      (λ (le : (meta_of s file).high ≤ room_of s.shape file). le) (cases_lt (room_of s.shape file) (meta_of s file).high)

  never_over : (meta_of s file).live ≤ (meta_of s file).high
  never_over = ⊎_elim (λ (over : (meta_of s file).high < (meta_of s file).live). absurd (right _ (Overcounted (omega (arith, over)) (λ e. over))))
      (λ (le : (meta_of s file).live ≤ (meta_of s file).high). le) (cases_lt (meta_of s file).high (meta_of s file).live)

  change_by : (high s.records file ≤ high t.records file) → ((x : ℕ) → x < high t.records file → x ≢ id → x < high s.records file)
      → IsChanged s.records t.records file id
  change_by more covers = record {
    is_file = is_file;
    others = λ key other ne. others key ne ∙ ap (λ (z : State). z.records key) now ∙ records-taken s file key other;
    more = more;
    covers = covers;
  }

  used_then : id < high t.records file → kind_at t.records file id ≢ format.free_kind
  used_then lt e = used (sym (kind_low (high t.records file) (rec_at t.records file id) id lt) ∙ e)

  by_mark : (meta_of s file).free ≡ format.nil → IsTakenUp s.records t.records s.shape file id
  by_mark none =
      let m : Meta = meta_of s file in
      let id_is : id ≡ m.high = is ∙ ap (λ b. cond b m.high m.free) (eq_true m.free format.nil none) in
      let meta : meta_of t file ≡ record { high = m.high + 1; free = format.nil; live = m.live + 1 }
      = meta_then ∙ ap (λ (z : State). meta_of z file) now ∙ ap (λ b. meta_of (cond b (mark_taken s file) (free_taken s file)) file)
      (eq_true m.free format.nil none) ∙ meta-mark_taken s file (omega arith) never_over in
      let mark : high t.records file ≡ high s.records file + 1 = ap (λ (q : Meta). q.high) meta in
      let free : (meta_of t file).free ≡ format.nil = ap (λ (q : Meta). q.free) meta in
      record {
        change = change_by (omega arith) (λ x lt ne. ⊎_elim (λ (l : x < high s.records file). l) (λ (ge : high s.records file ≤ x). absurd (ne (omega arith)))
            (cases_lt x (high s.records file)));
        fresh = fresh;
        used = used_then (omega arith);
        ranged = record { mark = omega arith; first = inl free };
        live = ap (λ (q : Meta). q.live) meta;
        way = inr (record { none = none; still = free; is = id_is; mark = mark });
      }

  by_first : (meta_of s file).free ≢ format.nil → IsTakenUp s.records t.records s.shape file id
  by_first some =
      let m : Meta = meta_of s file in
      let id_is : id ≡ m.free = is ∙ ap (λ b. cond b m.high m.free) (eq_false m.free format.nil some) in
      let counted : m.live < m.high = ⊎_elim
      (λ (lt : m.live < m.high). lt) (λ (le : m.high ≤ m.live). absurd (right _ (Overcounted le (λ e. absurd (some e))))) (cases_lt m.live m.high) in
      let low : m.free < m.high = ⊎_elim
      (λ (lt : m.free < m.high). lt) (λ (le : m.high ≤ m.free). absurd (right _ (Unranged (λ r. ⊎_elim some (λ (lt : m.free < m.high). omega arith) r.first))))
      (cases_lt m.free m.high) in
      let next : ℕ = next_free s.records file m.free in
      let unused : IsUnused s.records file m.free = record { low = low; free = ap (kind_at s.records file) (sym id_is) ∙ fresh } in
      let link : (next ≡ format.nil) ⊎ (next < m.high) = ⊎_elim
      (λ (e : next ≡ format.nil). inl e)
      (λ (ne : next ≢ format.nil). inr (⊎_elim (λ (lt : next < m.high). lt) (λ (le : m.high ≤ next). absurd (right _ (BadNext some unused ne le)))
      (cases_lt next m.high))) (nat_cases next format.nil) in
      let meta : meta_of t file ≡ record { high = m.high; free = next; live = m.live + 1 }
      = meta_then ∙ ap (λ (z : State). meta_of z file) now ∙ ap (λ b. meta_of (cond b (mark_taken s file) (free_taken s file)) file)
      (eq_false m.free format.nil some) ∙ meta-free_taken s file counted in
      let mark : high t.records file ≡ high s.records file = ap (λ (q : Meta). q.high) meta in
      let free : (meta_of t file).free ≡ next = ap (λ (q : Meta). q.free) meta in
      record {
        change = change_by (omega arith) (λ x lt ne. omega arith);
        fresh = fresh;
        used = used_then (omega arith);
        ranged = record {
          mark = let f = mark_fits in omega arith;
          first = ⊎_elim (λ (e : next ≡ format.nil). inl (free ∙ e)) (λ (lt : next < m.high). inr
              (omega arith)) link;
        };
        live = ap (λ (q : Meta). q.live) meta;
        way = inl (record { some = some; is = id_is; next = free ∙ ap (next_free s.records file) (sym id_is); mark = mark });
      }

  taken_up : IsTakenUp s.records t.records s.shape file id
  taken_up = ⊎_elim by_mark by_first (nat_cases (meta_of s file).free format.nil)

  -- and put in use
  pub take_harms_none : HarmsNoList s t file
  take_harms_none d why = take_back s.records t.records s.shape file id taken_up d (subst (λ (h : Shape). IsListDamage t.records h file d) shape why)

  pub take_keeps : KeepsInUse s t file
  take_keeps = record {
    harmless = take_harms_none;
    used = λ x was e. was (⊎_elim (λ (q : x ≡ id). ap (kind_at s.records file) q ∙ fresh) (λ (ne : x ≢ id). sym (kind_other s.records t.records file id
        taken_up.change x ne) ∙ e) (nat_cases x id));
  }

  pub taken_is_used : kind_at t.records file id ≢ format.free_kind
  taken_is_used = taken_up.used

-- it is put in use by one record
module _ (s a t : State) (file id : ℕ) (rec : Rec) (is_file : is_meta_file file ≡ true) (now : a ≡ taken s file) (is : id ≡ taken_id (meta_of s file))
    (right : IsUndamaged s file)
    (fresh : kind_at s.records file id ≡ format.free_kind) (few : id < format.most_ids) (small : id < room_of s.shape file)
    (put : t ≡ after_put a (key_in file id) rec) (used : field 1 rec format.kind ≢ format.free_kind) where
  put_shape : t.shape ≡ s.shape
  put_shape = ap (λ (z : State). z.shape) put ∙ ap (λ (z : State). z.shape) now ∙ shape-taken s file

  put_others : (key : Key) → key ≢ key_in file id → t.records key ≡ a.records key
  put_others key ne = ap (λ (z : State). z.records key) put ∙ put_other a.records (key_in file id) rec key ne

  put_used : field 1 (rec_at t.records file id) format.kind ≢ format.free_kind
  put_used e = let here : rec_at t.records file id ≡ rec = ap (λ (z : State). z.records (key_in file id)) put
      ∙ put_same a.records (key_in file id) rec in used (ap (λ r. field 1 r format.kind) (sym here) ∙ e)

  pub put_harms_none : HarmsNoList s t file
  put_harms_none = take_harms_none s a t file id is_file now is right fresh few small put_shape put_others put_used

  pub put_keeps : KeepsInUse s t file
  put_keeps = take_keeps s a t file id is_file now is right fresh few small put_shape put_others put_used

  pub put_is_used : kind_at t.records file id ≢ format.free_kind
  put_is_used = taken_is_used s a t file id is_file now is right fresh few small put_shape put_others put_used

-- ---- an identifier given back

module _ (s t : State) (file id : ℕ) (is_file : is_meta_file file ≡ true) (now : t ≡ given s file id) (few : id < format.most_ids)
    (used : kind_at s.records file id ≢ format.free_kind) (link : IsLinkBelow (meta_of s file).free (meta_of s file).high) where
  abbrev old : Meta
  old = meta_of s file

  abbrev one : State
  one = after_put s (key_in file id) (free_record old.free)

  meta_given : meta_of t file ≡ record { high = old.high; free = id; live = old.live - 1 }
  meta_given =
      let h = high_fits s.records file in
      let l = live_fits s.records file in
      ap (λ (z : State). meta_of z file) now ∙ meta_of-after_meta one file (record { high = old.high; free = id; live = old.live - 1 }) h (omega arith)
      (omega arith)

  others_given : (key : Key) → key ≢ meta_key_of file → t.records key ≡ one.records key
  others_given key ne = ap (λ (z : State). z.records key) now ∙ put_other one.records (meta_key_of file) _ key ne

  here_given : rec_at t.records file id ≡ free_record old.free
  here_given = others_given (key_in file id) (not_meta_key file id file is_file) ∙ put_same s.records (key_in file id) (free_record old.free)

  mark_given : high t.records file ≡ high s.records file
  mark_given = ap (λ (q : Meta). q.high) meta_given

  given_back : IsGivenBack s.records t.records file id
  given_back = record {
    change = record {
      is_file = is_file;
      others = λ key ne ne'. others_given key ne ∙ put_other s.records (key_in file id) (free_record old.free) key ne';
      more = let m = mark_given in omega arith;
      covers = λ x lt ne. let m = mark_given in omega arith;
    };
    used = used;
    gone =
        let lt = kind_below (high s.records file) (rec_at s.records file id) id used in
        let m = mark_given in
        kind_low (high t.records file) (rec_at t.records file id) id (omega arith) ∙ ap (λ r. field 1 r format.kind) here_given ∙ free_is_free old.free;
    first = ap (λ (q : Meta). q.free) meta_given;
    next = ap (λ r. field 4 r format.free_next) here_given ∙ field-with_field_same 4 zeros format.free_next old.free (omega arith) (free_fits s.records file);
    mark = mark_given;
    live = ap (λ (q : Meta). q.live) meta_given;
    some = λ e. omega arith;
    link = link;
  }

  pub give_harms_none : HarmsNoList s t file
  give_harms_none d why = give_back s.records t.records s.shape file id given_back d
      (subst (λ (h : Shape). IsListDamage t.records h file d) (ap (λ (z : State). z.shape) now) why)

  -- it is the first one, and the others in use are so still
  pub give_link : IsLinkBelow (meta_of t file).free (meta_of t file).high
  give_link = let lt = kind_below (high s.records file) (rec_at s.records file id) id used in let m = mark_given in let e = given_back.first in
      inr (omega arith)

  pub give_used : (x : ℕ) → x ≢ id → kind_at s.records file x ≢ format.free_kind → kind_at t.records file x ≢ format.free_kind
  give_used x ne was e = was (sym (kind_other s.records t.records file id given_back.change x ne) ∙ e)

-- ---- other changes

pub reads_harm_none : (s t : State) (file : ℕ) → SameButReads s t → HarmsNoList s t file
reads_harm_none s t file same d why = subst (λ (r : Records). IsListDamage r s.shape file d) (ap (λ (z : State). z.records) same)
    (subst (λ (h : Shape). IsListDamage t.records h file d) (ap (λ (z : State). z.shape) same) why)

pub harms_none_then : (a b c : State) (file : ℕ) → HarmsNoList a b file → HarmsNoList b c file → HarmsNoList a c file
harms_none_then a b c file first later d why = first d (later d why)

-- a record in use is written, and is in use still
pub used_harms_none : (s t : State) (file id : ℕ) → is_meta_file file ≡ true → t.shape ≡ s.shape
    → ((key : Key) → key ≢ key_in file id → t.records key ≡ s.records key) → kind_at s.records file id ≢ format.free_kind
    → field 1 (rec_at t.records file id) format.kind ≢ format.free_kind
    → HarmsNoList s t file
used_harms_none s t file id is_file shape others was used d why =
    same_back s.records t.records s.shape file
    (record {
      meta = meta;
      live = λ x. ⊎_elim
          (λ (e : x ≡ id). subst (λ z. is_live t.records file z ≡ is_live s.records file z) (sym e) (live_true (kind_at t.records file id) still ∙ sym
          (live_true (kind_at s.records file id) was)))
          (λ (ne : x ≢ id). live_other s.records t.records file id change x ne) (nat_cases x id);
      links = λ x u. ap (λ r. field 4 r format.free_next) (others (key_in file x) (λ e. was (ap (kind_at s.records file) (sym (ap (λ (k : Key). k.id) e))
          ∙ u.free)));
    }) d (subst (λ (h : Shape). IsListDamage t.records h file d) shape why)
  where
    meta : meta_of t file ≡ meta_of s file
    meta = ap metas.meta_of (others (meta_key_of file) (λ e. not_meta_key file id file is_file (sym e)))

    mark : high t.records file ≡ high s.records file
    mark = ap (λ (q : Meta). q.high) meta

    change : IsChanged s.records t.records file id
    change = record {
      is_file = is_file;
      others = λ key _ ne. others key ne;
      more = let m = mark in omega arith;
      covers = λ x lt ne. let m = mark in omega arith;
    }

    still : kind_at t.records file id ≢ format.free_kind
    still e = let lt = kind_below (high s.records file) (rec_at s.records file id) id was in let m = mark in
        used (sym (kind_low (high t.records file) (rec_at t.records file id) id (omega arith)) ∙ e)

-- ---- what was in use is so still

pub keeps_none : (s : State) (file : ℕ) → KeepsInUse s s file
keeps_none s file = record { harmless = λ d why. why; used = λ x was. was }

pub keeps_then : (a b c : State) (file : ℕ) → KeepsInUse a b file → KeepsInUse b c file → KeepsInUse a c file
keeps_then a b c file first later = record {
  harmless = harms_none_then a b c file first.harmless later.harmless;
  used = λ x was. later.used x
      (first.used x was);
}

pub reads_keep : (s t : State) (file : ℕ) → SameButReads s t → KeepsInUse s t file
reads_keep s t file same = record {
  harmless = reads_harm_none s t file same;
  used = λ x was e. was (subst (λ (r : Records). kind_at r file x ≡ format.free_kind) (ap (λ (z : State). z.records) same) e);
}

-- the file's meta record says the same, and its records are the same
pub meta_keeps : (s t : State) (file : ℕ) → t.shape ≡ s.shape → meta_of t file ≡ meta_of s file → ((x : ℕ) → rec_at t.records file x ≡ rec_at s.records file x)
    → KeepsInUse s t file
meta_keeps s t file shape meta each = record {
  harmless = λ d why. same_back s.records t.records s.shape file
      (record { meta = meta; live = λ x. ap (λ k. not (nat_eq k 0)) (kinds x); links = λ x u. ap (λ r. field 4 r format.free_next) (each x) }) d
      (subst (λ (h : Shape). IsListDamage t.records h file d) shape why);
  used = λ x was e. was (sym (kinds x) ∙ e);
}
  where
    kinds : (x : ℕ) → kind_at t.records file x ≡ kind_at s.records file x
    kinds x = ap (λ (m : Meta). kind_in m.high (rec_at t.records file x) x) meta ∙ ap (λ r. kind_in (high s.records file) r x) (each x)

-- the file's records are the same
pub beside_harms_none : (s t : State) (file : ℕ) → t.shape ≡ s.shape → t.records (meta_key_of file) ≡ s.records (meta_key_of file)
    → ((x : ℕ) → rec_at t.records file x ≡ rec_at s.records file x) → HarmsNoList s t file
beside_harms_none s t file shape meta each = (meta_keeps s t file shape (ap metas.meta_of meta) each).harmless

-- a number behind the kind of a record in use is set
pub set_keeps : (s t : State) (file id at value : ℕ) → is_meta_file file ≡ true → 0 < at → kind_at s.records file id ≢ format.free_kind
    → t ≡ after_set s (key_in file id) 4 at value → KeepsInUse s t file
set_keeps s t file id at value is_file some was now = record {
  harmless = used_harms_none s t file id is_file (ap (λ (z : State). z.shape) now) others was (λ e. was (low ∙ sym kind ∙ e));
  used = λ x old e. ⊎_elim
      (λ (q : x ≡ id). was (low ∙ sym kind ∙ sym (kind_low (high t.records file) (rec_at t.records file id) id (let m = mark in let lt = kind_below
      (high s.records file) (rec_at s.records file id) id was in omega arith)) ∙ sym (ap (kind_at t.records file) q) ∙ e))
      (λ (ne : x ≢ id). old (sym (kind_other s.records t.records file id change x ne) ∙ e)) (nat_cases x id);
}
  where
    others : (key : Key) → key ≢ key_in file id → t.records key ≡ s.records key
    others key ne = ap (λ (z : State). z.records key) now ∙ put_other s.records (key_in file id) (with_field 4 (s.records (key_in file id)) at value) key ne

    kind : field 1 (rec_at t.records file id) format.kind ≡ field 1 (rec_at s.records file id) format.kind
    kind = ap (λ (z : State). field 1 (z.records (key_in file id)) format.kind) now
        ∙ ap (λ (r : Rec). field 1 r format.kind) (put_same s.records (key_in file id) (with_field 4 (s.records (key_in file id)) at value))
        ∙ field-with_field_other 4 (s.records (key_in file id)) at value 1 format.kind (omega arith) (inr (omega arith))

    low : kind_at s.records file id ≡ field 1 (rec_at s.records file id) format.kind
    low = kind_low (high s.records file) (rec_at s.records file id) id (kind_below (high s.records file) (rec_at s.records file id) id was)

    mark : high t.records file ≡ high s.records file
    mark = ap (λ r. (metas.meta_of r).high) (others (meta_key_of file) (λ e. not_meta_key file id file is_file (sym e)))

    change : IsChanged s.records t.records file id
    change = record {
      is_file = is_file;
      others = λ key _ ne. others key ne;
      more = let m = mark in omega arith;
      covers = λ x lt ne. let m = mark in omega arith;
    }

-- ---- a record that is blamed

pub blames_list : (s : State) (file : ℕ) (fault : TakeFault) → IsTakeFault s file fault → BlamesList s file fault
blames_list s file (Full full live) why = tt
blames_list s file Memory why = tt
blames_list s file Disk why = tt
blames_list s file (Damaged d) why = list_damage s file d why

pub list_of_space : (s : State) (file : ℕ) (fault : SpaceFault) → BlamesList s file (of_space fault)
list_of_space s file spaces.Memory = tt
list_of_space s file spaces.Disk = tt

-- after a change that adds nothing to what is wrong
pub blames_before : (s t : State) (file : ℕ) (fault : TakeFault) → HarmsNoList s t file → BlamesList t file fault → BlamesList s file fault
blames_before s t file (Full full live) harmless why = tt
blames_before s t file Memory harmless why = tt
blames_before s t file Disk harmless why = tt
blames_before s t file (Damaged d) harmless why = harmless d why

pub list_broken : (s : State) (file : ℕ) (fault : TakeFault) → is_reused file ≡ true → BlamesList s file fault → BlamesBroken s.records s.shape fault
list_broken s file (Full full live) is why = tt
list_broken s file Memory is why = tt
list_broken s file Disk is why = tt
list_broken s file (Damaged d) is why = list_breaks s.records s.shape file is d why
