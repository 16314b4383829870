-- Records that are put in use add nothing to what is wrong with the free list of the indexes.
use Rattle.std.proofs.Common.{◌≡◌, ◌≢◌, ◌<◌, ◌^◌, ℕ, ap, ◌∙◌, subst, sym, ⊎_elim, arith, refl}
use Rattle.rec_bytes.specs.declared.record.Rec.{Rec}
use Rattle.rec_bytes.specs.Format as format
use Rattle.rec_bytes.specs.Meta as metas
use Rattle.rec_bytes.specs.Record.{field, with_field}
use Rattle.rec_bytes.specs.RecordFiles.{meta_key_of, room_of}
use Rattle.rec_bytes.specs.Space.{State, after_put, after_set, meta_of}
use Rattle.rec_bytes.proofs.Metas.{meta_of-definition}
use Rattle.rec_bytes.proofs.Spaces.{put_other, put_same}
use Rattle.store_rules.specs.Views.{key_in, kind_at, rec_at}
use Rattle.store_rules.proofs.MetaLaws.{not_meta_key}
use Rattle.store_rules.proofs.NumberLaws.{nat_cases}
use Rattle.id_freelist.specs.ListDamage.{BlamesList, KeepsInUse}
use Rattle.id_freelist.specs.Taking.{IsUndamaged, taken, taken_id}
use Rattle.id_freelist.specs.declared.take_fault.TakeFault.{TakeFault}
use Rattle.id_freelist.proofs.ListSteps.{keeps_none, keeps_then, list_broken, meta_keeps, put_is_used, put_keeps, set_keeps}
use Rattle.prop_index.specs.Blaming.{TakeBlamesBroken}
use Rattle.prop_index.specs.Defining.{PutsInUse}
use Rattle.prop_index.specs.Linking.{backed_entry, entry_record, linked_entry}
use Rattle.prop_index.specs.declared.entry_row.Content.{Content}
use Rattle.prop_index.specs.declared.heads.Slot.{Slot}
use Rattle.prop_index.proofs.IndexBlames.{any_take}
use Rattle.prop_index.proofs.RecordFits.{entry-kind}
use Rattle.prop_index.proofs.Steps.{backed-none, backed-some, linked-is}

-- what is wrong with the list breaks a rule
pub any_list : (s : State) (fault : TakeFault) → BlamesList s format.index_file fault → TakeBlamesBroken s.records s.shape fault
any_list s fault why = any_take s.records s.shape fault (list_broken s format.index_file fault refl why)

-- a record of any kind
pub record_kept : (s u t : State) (rec : Rec) (id : ℕ) → u ≡ taken s format.index_file → id ≡ taken_id (meta_of s format.index_file)
    → IsUndamaged s format.index_file → kind_at s.records format.index_file id ≡ format.free_kind → id < format.most_ids
    → id < room_of s.shape format.index_file
    → t ≡ after_put u (key_in format.index_file id) rec → field 1 rec format.kind ≢ format.free_kind → PutsInUse s t id
record_kept s u t rec id took is right fresh few small put used = record {
  keeps = put_keeps s u t format.index_file id rec refl took is right fresh few small put used;
  used = put_is_used s u t format.index_file id rec refl took is right fresh few small put used;
}

-- an entry in front of a bucket
pub entry_kept : (s u t : State) (slot : Slot) (first id : ℕ) (content : Content) → content.node < 2 ^ 32 → first < 2 ^ 32 → content.hash < 2 ^ 64
    → u ≡ taken s format.index_file → id ≡ taken_id (meta_of s format.index_file) → IsUndamaged s format.index_file
    → kind_at s.records format.index_file id ≡ format.free_kind → id < format.most_ids → id < room_of s.shape format.index_file
    → t ≡ linked_entry u slot first id content → kind_at s.records format.index_file slot.id ≢ format.free_kind
    → (first ≢ format.nil → kind_at s.records format.index_file first ≢ format.free_kind) → 0 < slot.place → PutsInUse s t id
entry_kept s u t slot first id content node_fits first_fits hash_fits took is right fresh few small linked head begins place =
    let file = format.index_file in
    let rec = entry_record content.node first content.hash in
    let one : State = after_put u (key_in file id) rec in
    let two : State = backed_entry one first id in
    let used : field 1 rec format.kind ≢ format.free_kind = λ e. let k = entry-kind content.node first content.hash node_fits first_fits hash_fits in
    omega (arith, k, e) in
    let put : PutsInUse s one id = record_kept s u one rec id took is right fresh few small refl used in
    let back : KeepsInUse one two file = ⊎_elim
    (λ (e : first ≡ format.nil). subst (λ (z : State). KeepsInUse one z file) (sym (backed-none one first id e)) (keeps_none one file))
    (λ (some : first ≢ format.nil). set_keeps one two file first format.indexed_previous id refl (omega arith) (put.keeps.used first (begins some))
    (backed-some one first id some)) (nat_cases first format.nil) in
    let both : KeepsInUse s two file = keeps_then s one two file put.keeps back in
    let led : KeepsInUse two t file = set_keeps two t file slot.id slot.place id refl place (both.used slot.id head)
    (linked ∙ linked-is u slot first id content) in
    record { keeps = keeps_then s two t file both led; used = led.used id (back.used id put.used) }

-- the meta record names a definition
pub definition_kept : (s t : State) (id : ℕ) → t ≡ after_set s (meta_key_of format.index_file) 4 format.meta_definition id → KeepsInUse s t format.index_file
definition_kept s t id is =
    let key = meta_key_of format.index_file in
    let r = with_field 4 (s.records key) format.meta_definition id in
    meta_keeps s t format.index_file (ap (λ (z : State). z.shape) is)
    (ap (λ (z : State). metas.meta_of (z.records key)) is ∙ ap metas.meta_of (put_same s.records key r) ∙ meta_of-definition (s.records key) id)
    (λ x. ap (λ (z : State). rec_at z.records format.index_file x) is ∙ put_other s.records key r (key_in format.index_file x)
    (not_meta_key format.index_file x format.index_file refl))
