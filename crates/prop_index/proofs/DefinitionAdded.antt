-- A definition that was written and named first is one that is made.
use Rattle.std.proofs.Common.{◌≡◌, ◌≢◌, ⊎_elim, ℕ, ◌+◌, ◌*◌, ◌<◌, ◌≤◌, ◌^◌, true, refl, ap, sym, ◌∙◌, subst, inl, inr, arith}
use Rattle.rec_bytes.specs.declared.key.Key.{Key}
use Rattle.rec_bytes.specs.declared.meta.Meta.{Meta}
use Rattle.rec_bytes.specs.declared.record.Rec.{Rec}
use Rattle.rec_bytes.specs.Format as format
use Rattle.rec_bytes.specs.Meta as metas
use Rattle.rec_bytes.specs.Record.{field, with_field, zeros}
use Rattle.rec_bytes.specs.RecordFiles.{meta_key_of}
use Rattle.rec_bytes.specs.Space.{State, after_set}
use Rattle.rec_bytes.specs.Tables.{AllFit, is_clear}
use Rattle.rec_bytes.proofs.Metas.{meta_of-definition}
use Rattle.rec_bytes.proofs.Spaces.{put_other, put_same}
use Rattle.rec_bytes.proofs.Tables.{field-with_fields, field-with_fields_other}
use Rattle.std.proofs.lemmas.Bool.Decides.{nat_tests}
use Rattle.store_rules.specs.Indexes.{first_definition, heads_of, index_rec}
use Rattle.store_rules.specs.IndexChange.{IsDefinitionMade}
use Rattle.store_rules.specs.Ranges.{AreInRange}
use Rattle.store_rules.specs.Views.{high, kind_at}
use Rattle.store_rules.proofs.IndexRules.{first_kept, first_kind, first_now, first_record}
use Rattle.store_rules.proofs.LinkFits.{IsLow}
use Rattle.store_rules.proofs.MetaLaws.{high_fits}
use Rattle.id_freelist.proofs.Leaving.{byte_of_zeros}
use Rattle.prop_index.specs.Defining.{AreHeadsAdded, AreNamesOf, IsDefinitionAdded, IsRecordAdded}
use Rattle.prop_index.specs.DefinitionRecord.{definition_fields, definition_start, head_of}
use Rattle.prop_index.specs.declared.finding.Definition.{Definition}
use Rattle.prop_index.proofs.RecordFits.{empty_heads-nil, fits-definition}
use Rattle.store_rules.specs.Rules.{IsWhole}

module _ (s m t : State) (label key first id : ℕ) (rec : Rec) (store : IsWhole s) (heads : AreHeadsAdded s m (definition_start label key first) 12 rec)
    (added : IsRecordAdded m t rec id)
    (named : AreNamesOf s.records label key) (first_is : first ≡ first_definition s.records) (label_fits : label < 2 ^ 32) (key_fits : key < 2 ^ 32)
    (first_fits : first < 2 ^ 32) where
  abbrev w : State
  w = after_set t (meta_key_of format.index_file) 4 format.meta_definition id

  small : id < 2 ^ 32
  small = let a = added.low in let b = high_fits t.records format.index_file in omega (arith, a, b)

  fit : AllFit (definition_fields label key first)
  fit = (omega arith, (label_fits, (key_fits, (first_fits, tt))))

  -- ---- its record

  rec_kind : field 1 rec format.kind ≡ format.definition
  rec_kind = heads.front 1 format.kind (omega arith) ∙ field-with_fields 1 zeros (definition_fields label key first) format.kind format.definition refl fit refl

  rec_label : field 4 rec format.definition_label ≡ label
  rec_label = heads.front 4 format.definition_label (omega arith) ∙ field-with_fields 4 zeros (definition_fields label key first) format.definition_label label
      refl fit refl

  rec_key : field 4 rec format.definition_key ≡ key
  rec_key = heads.front 4 format.definition_key (omega arith) ∙ field-with_fields 4 zeros (definition_fields label key first) format.definition_key key refl fit
      refl

  rec_next : field 4 rec format.definition_next ≡ first
  rec_next = heads.front 4 format.definition_next (omega arith) ∙ field-with_fields 4 zeros (definition_fields label key first) format.definition_next first
      refl fit refl

  rec_blank : (i : ℕ) → 1 ≤ i → i < 4 → field 1 rec i ≡ 0
  rec_blank i low high =
      let clear : is_clear i 1 (definition_fields label key first) ≡ true = grind (arith, nat_tests) in
      heads.front 1 i (omega arith) ∙ field-with_fields_other 1 zeros (definition_fields label key first) i (omega arith) clear ∙ byte_of_zeros i (omega arith)

  here : index_rec w.records id ≡ rec
  here = first_record t.records id small id ∙ added.here

  head_is : (c : ℕ) → heads_of w.records id c ≡ head_of rec c
  head_is c = ap (λ (r : Rec). field 4 r (format.definition_heads + 4 * c)) here

  -- ---- records of other identifiers

  head_not : (c : ℕ) → c < 12 → head_of rec c ≢ id
  head_not c lt e = let k = heads.kind c lt in let f = added.fresh in let q = ap (kind_at m.records format.index_file) e in omega (arith, k, f, q)

  kind_now : (y : ℕ) → y ≢ id → kind_at w.records format.index_file y ≡ kind_at m.records format.index_file y
  kind_now y ne = first_kind t.records id small y ∙ added.kinds y ne

  rec_now : (y : ℕ) → y ≢ id → index_rec w.records y ≡ index_rec m.records y
  rec_now y ne = first_record t.records id small y ∙ added.records y ne

  made : IsDefinitionMade s.records w.records id label key
  made = record {
    fresh = sym (heads.kinds id (λ c lt e. head_not c lt (sym e))) ∙ added.fresh;
    kind = first_kind t.records id small id ∙ added.kind ∙ rec_kind;
    label_is = ap (λ (r : Rec). field 4 r format.definition_label) here ∙ rec_label;
    key_is = ap (λ (r : Rec). field 4 r format.definition_key) here ∙ rec_key;
    first = first_now t.records id small;
    next = ap (λ (r : Rec). field 4 r format.definition_next) here ∙ rec_next ∙ first_is;
    heads_fresh = λ c lt. ap (kind_at s.records format.index_file) (head_is c) ∙ heads.fresh c lt;
    heads = λ c lt. ap (kind_at w.records format.index_file) (head_is c) ∙ kind_now (head_of rec c) (head_not c lt) ∙ heads.kind c lt;
    heads_once = λ c k lt le q. heads.once c k lt le (sym (head_is c) ∙ q ∙ head_is k);
    empty = λ c place lt le. ap (λ y. field 4 (index_rec w.records y) (format.heads_first + 4 * place)) (head_is c)
        ∙ ap (λ (r : Rec). field 4 r (format.heads_first + 4 * place)) (rec_now (head_of rec c) (head_not c lt) ∙ heads.here c lt) ∙ empty_heads-nil place le;
    kinds = λ y ne out. kind_now y ne ∙ heads.kinds y (λ c lt e. out c lt (e ∙ sym (head_is c)));
    others = λ y ne out. rec_now y ne ∙ heads.records y (λ c lt e. out c lt (e ∙ sym (head_is c)));
  }

  -- ---- the rules

  first_low : IsLow (high t.records format.index_file) (field 4 rec format.definition_next)
  first_low =
      let ranges : AreInRange s.records s.shape = store.ranges in
      let more = heads.grows.more in let most = added.grows.more in
      let e : field 4 rec format.definition_next ≡ first_definition s.records = rec_next ∙ first_is in
      ⊎_elim (λ (n : first_definition s.records ≡ format.nil). inl (e ∙ n))
      (λ (lt : first_definition s.records < high s.records format.index_file). inr (omega (arith, e, lt, more, most)))
      ((ranges.metas format.index_file refl).first refl)

  names_are : high m.records format.names_file ≡ high s.records format.names_file
  names_are = ap (λ (r : Rec). (metas.meta_of r).high) (heads.grows.others (meta_key_of format.names_file) other not_index)
    where
      other : format.meta_file ≢ format.index_file
      other e = omega (arith, e)

      not_index : meta_key_of format.names_file ≢ meta_key_of format.index_file
      not_index e = let i = ap (λ (k : Key). k.id) e in omega (arith, i)

  of_names : AreNamesOf m.records (field 4 rec format.definition_label) (field 4 rec format.definition_key)
  of_names = record {
    label_low = let l = named.label_low in omega (arith, rec_label, names_are, l);
    key_low = let l = named.key_low in omega (arith, rec_key, names_are, l);
  }

  kept : IsWhole w
  kept = first_kept t.records id small t.shape (inr added.low)
      (added.kept (fits-definition (high t.records) rec rec_kind rec_blank first_low (λ c lt. let a = heads.low c lt in let b = added.grows.more in omega
      (arith, a, b))) (λ _. of_names))

  meta_is : metas.meta_of (w.records (meta_key_of format.index_file)) ≡ metas.meta_of (t.records (meta_key_of format.index_file))
  meta_is = ap metas.meta_of (put_same t.records (meta_key_of format.index_file) (with_field 4 (t.records (meta_key_of format.index_file))
      format.meta_definition id)) ∙ meta_of-definition (t.records (meta_key_of format.index_file)) id

  all : IsDefinitionAdded s w label key (record { id = id; rec = rec })
  all = record {
    made = made;
    rec_is = sym here;
    live = ap (λ (q : Meta). q.live) meta_is ∙ (let a = added.grows.live in let b = heads.grows.live in omega (arith, a, b));
    shape = added.grows.shape ∙ heads.grows.shape;
    others = λ q file meta. put_other t.records (meta_key_of format.index_file)
        (with_field 4 (t.records (meta_key_of format.index_file)) format.meta_definition id) q meta
        ∙ added.grows.others q file meta ∙ heads.grows.others q file meta;
    kept = kept;
  }

  pub definition_added : (v : State) → v ≡ w → IsDefinitionAdded s v label key (record { id = id; rec = rec })
  definition_added v is = subst (λ (z : State). IsDefinitionAdded s z label key (record { id = id; rec = rec })) (sym is) all

-- the record of a definition is one in use
pub start-kind : (label key first : ℕ) → label < 2 ^ 32 → key < 2 ^ 32 → first < 2 ^ 32
    → field 1 (definition_start label key first) format.kind ≡ format.definition
start-kind label key first a b c = field-with_fields 1 zeros (definition_fields label key first) format.kind format.definition refl
    (omega arith, (a, (b, (c, tt)))) refl

-- reads before it
pub definition_reread : (s t : State) (reads label key : ℕ) (definition : Definition) → IsDefinitionAdded (record s { reads = reads }) t label key definition
    → IsDefinitionAdded s t label key definition
definition_reread s t reads label key definition h = record {
  made = h.made;
  rec_is = h.rec_is;
  live = h.live;
  shape = h.shape;
  others = h.others;
  kept = h.kept;
}
