-- What putting a property leaves of the free lists of properties and blocks.
use Rattle.std.proofs.Common.{◌≡◌, ◌≢◌, ◌<◌, ◌∙◌, ℕ, true, ap, sym, ⊎_elim, arith, refl}
use Rattle.plain_graph.specs.Forms.{IsKept}
use Rattle.plain_graph.specs.declared.value.Value.{Value}
use Rattle.rec_bytes.specs.declared.key.Key.{Key}
use Rattle.rec_bytes.specs.declared.record.Rec.{Rec}
use Rattle.rec_bytes.specs.Format as format
use Rattle.rec_bytes.specs.RecordFiles.{is_meta_file, meta_key_of, room_of}
use Rattle.rec_bytes.specs.Space.{SameButReads, State, after_put, after_set, meta_of}
use Rattle.rec_bytes.specs.Record.{field, with_field}
use Rattle.store_rules.specs.Views.{key_in, kind_at}
use Rattle.rec_bytes.proofs.RecordFiles.{is_meta_file-not_meta}
use Rattle.rec_bytes.proofs.Spaces.{put_other}
use Rattle.id_freelist.specs.ListDamage.{HarmsNoList}
use Rattle.id_freelist.specs.Taking.{IsUndamaged, taken, taken_id}
use Rattle.id_freelist.proofs.ListSteps.{beside_harms_none, harms_none_then, put_harms_none, reads_harm_none}
use Rattle.prop_store.specs.FileChange.{IsSameBeside}
use Rattle.prop_store.specs.Owner.{IsOwner}
use Rattle.prop_store.specs.PropertyRecord.{property_record}
use Rattle.prop_store.specs.Setting.{HarmsNoLists}
use Rattle.prop_store.specs.declared.owner.Owner.{Owner}
use Rattle.prop_store.proofs.BlockSteps.{beside_put, shape_put}
use Rattle.prop_store.proofs.ElementSteps.{meta_of_element}
use Rattle.prop_store.proofs.Midway.{text_harms_none}
use Rattle.prop_store.proofs.PropertyRecords.{used-property_record}

pub put_harms_no_lists : (s a m t : State) (id key first next : ℕ) (value : Value) (rec : Rec) → IsKept value → rec ≡ property_record key value first next
    → HarmsNoList s a format.strings_file → IsSameBeside format.strings_file s.records a.records → a.shape ≡ s.shape → m ≡ taken a format.properties_file
    → id ≡ taken_id (meta_of a format.properties_file) → IsUndamaged a format.properties_file
    → kind_at a.records format.properties_file id ≡ format.free_kind → id < format.most_ids → id < room_of a.shape format.properties_file
    → t ≡ after_put m (key_in format.properties_file id) rec → HarmsNoLists s t
put_harms_no_lists s a m t id key first next value rec kept rec_is text beside shape took is right fresh few room put = record {
  properties = harms_none_then s a t format.properties_file (text_harms_none s a beside shape)
      (put_harms_none a m t format.properties_file id rec refl took is right fresh few room put (λ e. used-property_record key first next value kept
      (ap (λ (r : Rec). field 1 r format.kind) (sym rec_is) ∙ e)));
  blocks = harms_none_then s a t format.strings_file text (beside_harms_none a t format.strings_file (shape_put a m t format.properties_file id rec took put)
      (strings (meta_key_of format.strings_file) (λ e. absurd (omega (arith, e))) (λ e. let k = ap (λ (q : Key). q.id) e in absurd (omega arith)))
      (λ x. strings (key_in format.strings_file x) (λ e. absurd (omega (arith, e))) (λ e. let k = ap (λ (q : Key). q.file) e in absurd (omega arith))));
}
  where
    strings : IsSameBeside format.properties_file a.records t.records
    strings = beside_put a m t format.properties_file id rec took put

-- the element that leads to it is of another file
module _ (s t u : State) (owner : Owner) (to : ℕ) (is : IsOwner owner) (put : HarmsNoLists s t) (now : u ≡ after_set t owner.key 4 owner.field to) where
  led : (key : Key) → key ≢ owner.key → u.records key ≡ t.records key
  led key ne = ap (λ (z : State). z.records key) now ∙ put_other t.records owner.key (with_field 4 (t.records owner.key) owner.field to) key ne

  beside : (file : ℕ) → is_meta_file file ≡ true → owner.key.file ≢ file → HarmsNoList t u file
  beside file is_file other = beside_harms_none t u file (ap (λ (z : State). z.shape) now)
      (led (meta_key_of file) (λ e. not_meta (owner.key.file) (meta_of_element owner.key.file is.file) (sym (ap (λ (k : Key). k.file) e))))
      (λ x. led (key_in file x) (λ e. other (sym (ap (λ (k : Key). k.file) e))))
    where
      not_meta : (file : ℕ) → is_meta_file file ≡ true → file ≢ format.meta_file
      not_meta file known = is_meta_file-not_meta file known

  not_these : (owner.key.file ≢ format.properties_file) × (owner.key.file ≢ format.strings_file)
  not_these = (
    (λ e. ⊎_elim (λ (k : owner.key.file ≡ format.nodes_file). omega arith) (λ (k : owner.key.file ≡ format.relationships_file). omega arith)
        is.file),
    (λ e. ⊎_elim (λ (k : owner.key.file ≡ format.nodes_file). omega arith) (λ (k : owner.key.file ≡ format.relationships_file). omega arith)
        is.file),
  )

  pub led_harms_no_lists : HarmsNoLists s u
  led_harms_no_lists = record {
    properties = harms_none_then s t u format.properties_file put.properties (beside format.properties_file refl not_these.0);
    blocks = harms_none_then s t u format.strings_file put.blocks (beside format.strings_file refl not_these.1);
  }

-- the change began with reads
pub read_harms_no_lists : (s z t : State) → SameButReads s z → HarmsNoLists z t → HarmsNoLists s t
read_harms_no_lists s z t same h = record {
  properties = harms_none_then s z t format.properties_file (reads_harm_none s z format.properties_file same) h.properties;
  blocks = harms_none_then s z t format.strings_file (reads_harm_none s z format.strings_file same) h.blocks;
}
