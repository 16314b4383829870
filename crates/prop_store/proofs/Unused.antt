-- A property that is given back is in use no more, whatever the link that led to it becomes.
use Rattle.std.specs.Prelude.{Bool, None, Some, cond, false, nat_lt, true}
use Rattle.std.proofs.Common.{◌≡◌, ◌≢◌, ◌∙◌, ℕ, ◌-◌, ◌<◌, ap, sym, subst, refl, inr, ⊎_elim, arith}
use Rattle.rec_bytes.specs.declared.key.Key.{Key}
use Rattle.rec_bytes.specs.declared.record.Rec.{Rec}
use Rattle.rec_bytes.specs.Format as format
use Rattle.rec_bytes.specs.Meta as metas
use Rattle.rec_bytes.specs.Meta.{with_meta}
use Rattle.rec_bytes.specs.Record.{field, with_field}
use Rattle.rec_bytes.specs.RecordFiles.{is_meta_file, meta_key_of}
use Rattle.rec_bytes.specs.Space.{State, after_put, after_set, meta_of}
use Rattle.rec_bytes.proofs.Numbers.{field-with_field_other}
use Rattle.rec_bytes.proofs.Spaces.{put_other, put_same}
use Rattle.id_freelist.specs.FreeLists.{free_record}
use Rattle.id_freelist.specs.Giving.{given}
use Rattle.id_freelist.proofs.Leaving.{free_is_free}
use Rattle.store_rules.specs.Properties.{Property, property_at, property_records}
use Rattle.store_rules.specs.Views.{Records, high, key_in, kind_at, kind_in, rec_at}
use Rattle.store_rules.proofs.MetaLaws.{not_meta_key}
use Rattle.store_rules.proofs.NumberLaws.{nat_cases}
use Rattle.prop_store.specs.Finding.{FreesMet, LacksMet, MetAt}
use Rattle.prop_store.specs.declared.owner.Owner.{Owner}
use Rattle.prop_store.specs.declared.property_row.PropertyRow.{PropertyRow}

-- the record of a free identifier says so, below the mark and past it
free_in : (mark : ℕ) (r : Rec) (x : ℕ) → field 1 r format.kind ≡ format.free_kind → kind_in mark r x ≡ format.free_kind
unfolding kind_in
free_in mark r x is = by (nat_lt x mark)
  where
    by : (low : Bool) → cond low (field 1 r format.kind) 0 ≡ format.free_kind
    by true = is
    by false = refl

pub unused_given : (u t : State) (id : ℕ) → t ≡ given u format.properties_file id → kind_at t.records format.properties_file id ≡ format.free_kind
unused_given u t id is =
    let m = meta_of u format.properties_file in
    let put = after_put u (key_in format.properties_file id) (free_record m.free) in
    let now = given u format.properties_file id in
    let here : rec_at now.records format.properties_file id ≡ free_record m.free =
    put_other put.records (meta_key_of format.properties_file) (with_meta (put.records (meta_key_of format.properties_file))
    (record { high = m.high; free = id; live = m.live - 1 })) (key_in format.properties_file id) (not_meta_key format.properties_file id
    format.properties_file refl)
    ∙ put_same u.records (key_in format.properties_file id) (free_record m.free) in
    ap (λ (z : State). kind_at z.records format.properties_file id) is
    ∙ free_in (high now.records format.properties_file) (rec_at now.records format.properties_file id) id
    (ap (λ r. field 1 r format.kind) here ∙ free_is_free m.free)

kind_like : (mark : ℕ) (r q : Rec) (x : ℕ) → field 1 q format.kind ≡ field 1 r format.kind → kind_in mark q x ≡ kind_in mark r x
unfolding kind_in
kind_like mark r q x same = ap (λ k. cond (nat_lt x mark) k 0) same

-- a number behind the kind of a record is set
module _ (m t : State) (key : Key) (at to : ℕ) (own : is_meta_file key.file ≡ true) (behind : 0 < at) (set : t ≡ after_set m key 4 at to) where
  others : (q : Key) → q ≢ key → t.records q ≡ m.records q
  others q ne = ap (λ (z : State). z.records q) set ∙ put_other m.records key (with_field 4 (m.records key) at to) q ne

  here : field 1 (t.records key) format.kind ≡ field 1 (m.records key) format.kind
  here = ap (λ (z : State). field 1 (z.records key) format.kind) set
      ∙ ap (λ (r : Rec). field 1 r format.kind) (put_same m.records key (with_field 4 (m.records key) at to))
      ∙ field-with_field_other 4 (m.records key) at to 1 format.kind (omega arith) (inr (omega arith))

  byte : (file x : ℕ) → field 1 (rec_at t.records file x) format.kind ≡ field 1 (rec_at m.records file x) format.kind
  byte file x =
      let apart : key_in file x ≢ key → field 1 (rec_at t.records file x) format.kind ≡ field 1 (rec_at m.records file x) format.kind
      = λ ne. ap (λ (r : Rec). field 1 r format.kind) (others (key_in file x) ne) in
      ⊎_elim
      (λ (e : file ≡ key.file). ⊎_elim
      (λ (i : x ≡ key.id). subst (λ (q : Key). field 1 (t.records q) format.kind ≡ field 1 (m.records q) format.kind)
      (sym (ap (λ n. key_in n x) e ∙ ap (key_in key.file) i)) here)
      (λ (ne : x ≢ key.id). apart (λ e. ne (ap (λ (q : Key). q.id) e)))
      (nat_cases x key.id))
      (λ (ne : file ≢ key.file). apart (λ e. ne (ap (λ (q : Key). q.file) e)))
      (nat_cases file key.file)

  pub kind_set : (file x : ℕ) → kind_at t.records file x ≡ kind_at m.records file x
  kind_set file x =
      let mark : high t.records file ≡ high m.records file
      = ap (λ r. (metas.meta_of r).high) (others (meta_key_of file) (λ e. not_meta_key key.file key.id file own (sym e))) in
      ap (λ n. kind_in n (rec_at t.records file x) x) mark
      ∙ kind_like (high m.records file) (rec_at m.records file x) (rec_at t.records file x) x (byte file x)

pub some_is : (a b : Property) → Some a ≡ Some b → a ≡ b
some_is a b e = cc

pub frees_none : (s t : Records) (owner : Owner) (key : ℕ) → LacksMet s owner key → FreesMet s t owner key
frees_none s t owner key lacks e is = let none : None ≡ Some e = sym lacks ∙ is in absurd cc

pub frees_met : (s t : Records) (owner : Owner) (key : ℕ) (row : PropertyRow) → MetAt s owner key row
    → kind_at t format.properties_file row.id ≡ format.free_kind → FreesMet s t owner key
frees_met s t owner key row met free e is =
    subst (λ x. kind_at t format.properties_file x ≡ format.free_kind)
    (ap (λ (p : Property). p.id) (some_is (property_at (property_records s) row.id) e (sym met.is ∙ is))) free
