-- What spares the definitions of the indexes: a take with a record that is no definition, a give of one, and a number that is set in one.
use Rattle.std.proofs.Common.{◌≡◌, ◌≢◌, ◌⊎◌, ℕ, ◌+◌, ◌<◌, nat_eq, Bool, true, false, cond, List, ap, refl, sym, ◌∙◌, subst, inl, inr, ⊎_elim, arith}
use Rattle.rec_bytes.specs.declared.damage.Damage.{Damage}
use Rattle.rec_bytes.specs.declared.key.Key.{Key}
use Rattle.rec_bytes.specs.declared.record.Rec.{Rec}
use Rattle.rec_bytes.specs.Format as format
use Rattle.rec_bytes.specs.Meta.{IsLinkBelow, with_meta}
use Rattle.rec_bytes.specs.Record.{field, with_field}
use Rattle.rec_bytes.specs.RecordFiles.{meta_key_of, room_of}
use Rattle.rec_bytes.specs.Space.{SameButReads, State, after_put, after_set, meta_of}
use Rattle.rec_bytes.proofs.Metas.{definition-with_meta}
use Rattle.rec_bytes.proofs.Numbers.{field-with_field_other}
use Rattle.rec_bytes.proofs.Spaces.{put_other, put_same}
use Rattle.id_freelist.specs.FreeLists.{free_record}
use Rattle.id_freelist.specs.Giving.{given}
use Rattle.id_freelist.specs.ListDamage.{IsListDamage, KeepsInUse}
use Rattle.id_freelist.specs.Taking.{IsUndamaged, free_taken, mark_taken, taken, taken_id}
use Rattle.id_freelist.proofs.Leaving.{free_is_free}
use Rattle.id_freelist.proofs.ListSteps.{give_harms_none, give_used, harms_none_then, put_keeps, reads_harm_none, records-taken, set_keeps}
use Rattle.store_rules.specs.Chains.{In, IsWalk}
use Rattle.store_rules.specs.IndexBreaking.{AreDefinitions}
use Rattle.store_rules.specs.Indexes.{first_definition, index_rec, next_definition}
use Rattle.store_rules.specs.Views.{Records, high, key_in, kind_at}
use Rattle.store_rules.proofs.ChainLaws.{walk_stays}
use Rattle.store_rules.proofs.MetaLaws.{not_meta_key}
use Rattle.store_rules.proofs.NumberLaws.{nat_cases}
use Rattle.store_rules.proofs.ViewLaws.{kind_below, kind_low}
use Rattle.prop_index.specs.Naming.{IsDefinition, IsDefinitionOrList}
use Rattle.prop_index.specs.Sparing.{SparesDefinitions}

abbrev at : ℕ → Key
at x = key_in format.index_file x

abbrev byte : Records → ℕ → ℕ
byte records x = field 1 (index_rec records x) format.kind

-- the kind of a record in use is its byte
pub used_byte : (records : Records) (x kind : ℕ) → kind_at records format.index_file x ≡ kind → kind ≢ 0 → field 1 (index_rec records x) format.kind ≡ kind
used_byte records x kind is some =
    sym (kind_low (high records format.index_file) (index_rec records x) x (kind_below (high records format.index_file) (index_rec records x) x
    (λ e. some (sym is ∙ e)))) ∙ is

definition_some : format.definition ≢ 0
definition_some e = omega (arith, e)

-- what is in use and the byte of a definition is one
pub is_definition : (records : Records) (x : ℕ) → kind_at records format.index_file x ≢ format.free_kind → field 1 (index_rec records x) format.kind ≡
    format.definition
    → kind_at records format.index_file x ≡ format.definition
is_definition records x used is =
    kind_low (high records format.index_file) (index_rec records x) x (kind_below (high records format.index_file) (index_rec records x) x used) ∙ is

-- ---- one change after another

pub spares_none : (s t : State) → SameButReads s t → SparesDefinitions s t
spares_none s t same =
    let records : t.records ≡ s.records = ap (λ (z : State). z.records) same in
    record {
      harmless = reads_harm_none s t format.index_file same;
      first = ap first_definition records;
      defined = λ x is. ap (λ (r : Records). kind_at r format.index_file x) records ∙ is;
      kept = λ x is. ap (λ (r : Records). index_rec r x) records;
      back = λ x is. ap (λ (r : Records). index_rec r x) records;
    }

pub spares_then : (a b c : State) → SparesDefinitions a b → SparesDefinitions b c → SparesDefinitions a c
spares_then a b c h k = record {
  harmless = harms_none_then a b c format.index_file h.harmless k.harmless;
  first = k.first ∙ h.first;
  defined = λ x is. k.defined x (h.defined x is);
  kept = λ x is. k.kept x (h.defined x is) ∙ h.kept x is;
  back = λ x is. let same = k.back x is in same ∙ h.back x (ap (λ (r : Rec). field 1 r format.kind) (sym same) ∙ is);
}

module _ (s t : State) (h : SparesDefinitions s t) where
  -- the definitions are still a list
  pub still_definitions : (ds : List ℕ) → AreDefinitions s.records ds → AreDefinitions t.records ds
  still_definitions ds are = record {
    walk = subst (λ f. IsWalk (next_definition t.records) f ds) (sym h.first) (walk_stays _ _ (first_definition s.records) ds
        (λ x i. ap (λ (r : Rec). field 4 r format.definition_next) (h.kept x (are.defined x i))) are.walk);
    few = are.few;
    defined = λ x i. h.defined x (are.defined x i);
  }

  -- a record in use that was none is none
  pub still_other : (x : ℕ) → kind_at s.records format.index_file x ≢ format.free_kind → kind_at s.records format.index_file x ≢ format.definition
      → kind_at t.records format.index_file x ≢ format.definition
  still_other x used other is =
      let b = used_byte t.records x format.definition is definition_some in
      other (is_definition s.records x used (ap (λ (r : Rec). field 1 r format.kind) (sym (h.back x b)) ∙ b))

  -- a definition that is named is as it was, and what is wrong with the list was
  pub named_before : (damage : Damage) → IsDefinitionOrList t damage
      → ((damage.file ≡ format.index_file) × (index_rec t.records damage.id ≡ index_rec s.records damage.id))
      ⊎ IsListDamage s.records s.shape format.index_file damage
  named_before damage told = ⊎_elim
      (λ (d : IsDefinition t damage). inl (d.file, h.back damage.id (used_byte t.records damage.id format.definition d.defines definition_some)))
      (λ (list : IsListDamage t.records t.shape format.index_file damage). inr (h.harmless damage list)) told

-- ---- a number is set

module _ (s t : State) (id place value : ℕ) (behind : 0 < place) (used : kind_at s.records format.index_file id ≢ format.free_kind)
    (other : kind_at s.records format.index_file id ≢ format.definition) (now : t ≡ after_set s (at id) 4 place value) where
  set_other : (key : Key) → key ≢ at id → t.records key ≡ s.records key
  set_other key ne = ap (λ (z : State). z.records key) now ∙ put_other s.records (at id) (with_field 4 (s.records (at id)) place value) key ne

  set_here : field 1 (index_rec t.records id) format.kind ≡ field 1 (index_rec s.records id) format.kind
  set_here = ap (λ (z : State). field 1 (z.records (at id)) format.kind) now
      ∙ ap (λ (r : Rec). field 1 r format.kind) (put_same s.records (at id) (with_field 4 (s.records (at id)) place value))
      ∙ field-with_field_other 4 (s.records (at id)) place value 1 format.kind (omega arith) (inr (omega arith))

  set_kept : KeepsInUse s t format.index_file
  set_kept = set_keeps s t format.index_file id place value refl behind used now

  set_apart : (x : ℕ) → x ≢ id → index_rec t.records x ≡ index_rec s.records x
  set_apart x ne = set_other (at x) (λ e. ne (ap (λ (k : Key). k.id) e))

  set_rec : (x : ℕ) → kind_at s.records format.index_file x ≡ format.definition → index_rec t.records x ≡ index_rec s.records x
  set_rec x is = set_apart x (λ e. other (ap (kind_at s.records format.index_file) (sym e) ∙ is))

  pub set_spares : SparesDefinitions s t
  set_spares = record {
    harmless = set_kept.harmless;
    first = ap (λ (r : Rec). field 4 r format.meta_definition) (set_other (meta_key_of format.index_file) (λ e. not_meta_key format.index_file id
        format.index_file refl (sym e)));
    defined = λ x is. is_definition t.records x (set_kept.used x (λ e. definition_some (sym is ∙ e)))
        (ap (λ (r : Rec). field 1 r format.kind) (set_rec x is) ∙ used_byte s.records x format.definition is definition_some);
    kept = set_rec;
    back = λ x is. ⊎_elim
        (λ (e : x ≡ id). absurd (other (is_definition s.records id used (sym set_here ∙ ap (byte t.records) (sym e) ∙ is))))
        (λ (ne : x ≢ id). set_apart x ne) (nat_cases x id);
  }

-- ---- a record is put in use

first-taken : (s : State) → first_definition (taken s format.index_file).records ≡ first_definition s.records
unfolding mark_taken free_taken
first-taken s = by (nat_eq (meta_of s format.index_file).free format.nil)
  where
    key : Key
    key = meta_key_of format.index_file

    by : (b : Bool) → first_definition (cond b (mark_taken s format.index_file) (free_taken s format.index_file)).records ≡ first_definition s.records
    by true = ap (λ (r : Rec). field 4 r format.meta_definition) (put_same s.records key (with_meta (s.records key) _)) ∙ definition-with_meta (s.records key) _
    by false = ap (λ (r : Rec). field 4 r format.meta_definition) (put_same s.records key (with_meta (s.records key) _)) ∙ definition-with_meta (s.records key)
        _

module _ (s u t : State) (rec : Rec) (id : ℕ) (took : u ≡ taken s format.index_file) (is_id : id ≡ taken_id (meta_of s format.index_file))
    (right : IsUndamaged s format.index_file) (fresh : kind_at s.records format.index_file id ≡ format.free_kind) (few : id < format.most_ids)
    (small : id < room_of s.shape format.index_file)
    (put : t ≡ after_put u (at id) rec) (used : field 1 rec format.kind ≢ format.free_kind) (other : field 1 rec format.kind ≢ format.definition) where
  put_apart : (x : ℕ) → x ≢ id → index_rec t.records x ≡ index_rec s.records x
  put_apart x ne = ap (λ (z : State). z.records (at x)) put ∙ put_other u.records (at id) rec (at x) (λ e. ne (ap (λ (k : Key). k.id) e))
      ∙ ap (λ (z : State). z.records (at x)) took ∙ records-taken s format.index_file (at x) (not_meta_key format.index_file x format.index_file refl)

  put_here : index_rec t.records id ≡ rec
  put_here = ap (λ (z : State). z.records (at id)) put ∙ put_same u.records (at id) rec

  put_kept : KeepsInUse s t format.index_file
  put_kept = put_keeps s u t format.index_file id rec refl took is_id right fresh few small put used

  put_rec : (x : ℕ) → kind_at s.records format.index_file x ≡ format.definition → index_rec t.records x ≡ index_rec s.records x
  put_rec x is = put_apart x (λ e. definition_some (sym is ∙ ap (kind_at s.records format.index_file) e ∙ fresh))

  pub put_spares : SparesDefinitions s t
  put_spares = record {
    harmless = put_kept.harmless;
    first = ap (λ (r : Rec). field 4 r format.meta_definition) (ap (λ (z : State). z.records (meta_key_of format.index_file)) put
        ∙ put_other u.records (at id) rec (meta_key_of format.index_file) (λ e. not_meta_key format.index_file id format.index_file refl (sym e)))
        ∙ ap (λ (z : State). first_definition z.records) took ∙ first-taken s;
    defined = λ x is. is_definition t.records x (put_kept.used x (λ e. definition_some (sym is ∙ e)))
        (ap (λ (r : Rec). field 1 r format.kind) (put_rec x is) ∙ used_byte s.records x format.definition is definition_some);
    kept = put_rec;
    back = λ x is. ⊎_elim
        (λ (e : x ≡ id). absurd (other (ap (λ (r : Rec). field 1 r format.kind) (sym put_here) ∙ ap (byte t.records) (sym e) ∙ is)))
        (λ (ne : x ≢ id). put_apart x ne) (nat_cases x id);
  }

-- ---- an identifier is given back

module _ (s t : State) (id : ℕ) (now : t ≡ given s format.index_file id) (few : id < format.most_ids)
    (used : kind_at s.records format.index_file id ≢ format.free_kind) (other : kind_at s.records format.index_file id ≢ format.definition)
    (link : IsLinkBelow (meta_of s format.index_file).free (meta_of s format.index_file).high) where
  abbrev key : Key
  key = meta_key_of format.index_file

  abbrev one : State
  one = after_put s (at id) (free_record (meta_of s format.index_file).free)

  give_beside : (k : Key) → k ≢ key → t.records k ≡ one.records k
  give_beside k ne = ap (λ (z : State). z.records k) now ∙ put_other one.records key _ k ne

  give_apart : (x : ℕ) → x ≢ id → index_rec t.records x ≡ index_rec s.records x
  give_apart x ne = give_beside (at x) (not_meta_key format.index_file x format.index_file refl)
      ∙ put_other s.records (at id) (free_record (meta_of s format.index_file).free) (at x) (λ e. ne (ap (λ (k : Key). k.id) e))

  give_here : index_rec t.records id ≡ free_record (meta_of s format.index_file).free
  give_here = give_beside (at id) (not_meta_key format.index_file id format.index_file refl)
      ∙ put_same s.records (at id) (free_record (meta_of s format.index_file).free)

  give_rec : (x : ℕ) → kind_at s.records format.index_file x ≡ format.definition → index_rec t.records x ≡ index_rec s.records x
  give_rec x is = give_apart x (λ e. other (ap (kind_at s.records format.index_file) (sym e) ∙ is))

  pub give_spares : SparesDefinitions s t
  give_spares = record {
    harmless = give_harms_none s t format.index_file id refl now few used link;
    first = ap (λ (r : Rec). field 4 r format.meta_definition) (ap (λ (z : State). z.records key) now ∙ put_same one.records key (with_meta (one.records key)
        _))
        ∙ definition-with_meta (one.records key) _
        ∙ ap (λ (r : Rec). field 4 r format.meta_definition) (put_other s.records (at id) (free_record (meta_of s format.index_file).free) key
        (λ e. not_meta_key format.index_file id format.index_file refl (sym e)));
    defined = λ x is. is_definition t.records x
        (give_used s t format.index_file id refl now few used link x (λ e. other (ap (kind_at s.records format.index_file) (sym e) ∙ is))
        (λ e. definition_some (sym is ∙ e)))
        (ap (λ (r : Rec). field 1 r format.kind) (give_rec x is) ∙ used_byte s.records x format.definition is definition_some);
    kept = give_rec;
    back = λ x is. ⊎_elim
        (λ (e : x ≡ id). absurd (definition_some (sym is ∙ ap (byte t.records) e ∙ ap (λ (r : Rec). field 1 r format.kind) give_here ∙ free_is_free
        (meta_of s format.index_file).free)))
        (λ (ne : x ≢ id). give_apart x ne) (nat_cases x id);
  }
