-- The steps of a change of a bucket: a link that is none is not followed.
use Rattle.std.proofs.Common.{◌≡◌, ◌≢◌, ⊎_elim, ℕ, [], ◌∷◌, refl, ap, ◌∙◌, arith}
use Rattle.rec_bytes.specs.declared.key.Key.{Key}
use Rattle.rec_bytes.specs.Format as format
use Rattle.rec_bytes.specs.Record.{with_field}
use Rattle.rec_bytes.specs.RecordFiles.{meta_key_of}
use Rattle.rec_bytes.specs.Space.{State, after_put, after_set}
use Rattle.rec_bytes.proofs.Spaces.{put_other}
use Rattle.store_rules.specs.Views.{key_in}
use Rattle.store_rules.proofs.NumberLaws.{eq_false, eq_true, nat_cases}
use Rattle.id_freelist.specs.Giving.{given}
use Rattle.prop_index.specs.Linking.{backed_entry, entry_record, linked_entry}
use Rattle.prop_index.specs.Touching.{some_id}
use Rattle.prop_index.specs.Unlinking.{led_entry, unlinked_entry}
use Rattle.prop_index.specs.declared.entry_row.Content.{Content}
use Rattle.prop_index.specs.declared.heads.Slot.{Slot}

pub backed-none : (s : State) (id to : ℕ) → id ≡ format.nil → backed_entry s id to ≡ s
unfolding backed_entry
backed-none s id to e = rw (eq_true id format.nil e) refl

pub backed-some : (s : State) (id to : ℕ) → id ≢ format.nil → backed_entry s id to ≡ after_set s (key_in format.index_file id) 4 format.indexed_previous to
unfolding backed_entry
backed-some s id to ne = rw (eq_false id format.nil ne) refl

pub led-none : (s : State) (slot : Slot) (before after : ℕ) → before ≡ format.nil
    → led_entry s slot before after ≡ after_set s (key_in format.index_file slot.id) 4 slot.place after
unfolding led_entry
led-none s slot before after e = rw (eq_true before format.nil e) refl

pub led-some : (s : State) (slot : Slot) (before after : ℕ) → before ≢ format.nil
    → led_entry s slot before after ≡ after_set s (key_in format.index_file before) 4 format.indexed_next after
unfolding led_entry
led-some s slot before after ne = rw (eq_false before format.nil ne) refl

pub linked-is : (s : State) (slot : Slot) (first id : ℕ) (content : Content) → linked_entry s slot first id content
    ≡ after_set (backed_entry (after_put s (key_in format.index_file id) (entry_record content.node first content.hash)) first id)
    (key_in format.index_file slot.id) 4 slot.place id
unfolding linked_entry
linked-is s slot first id content = refl

pub unlinked-is : (s : State) (slot : Slot) (id before after : ℕ) → unlinked_entry s slot id before after ≡ led_entry
    (backed_entry (given s format.index_file id) after before) slot before after
unfolding unlinked_entry
unlinked-is s slot id before after = refl

pub some_id-none : (id : ℕ) → id ≡ format.nil → some_id id ≡ []
some_id-none id e = rw (eq_true id format.nil e) refl

pub some_id-some : (id : ℕ) → id ≢ format.nil → some_id id ≡ id ∷ []
some_id-some id ne = rw (eq_false id format.nil ne) refl

-- the meta record stays
pub linked-meta : (s : State) (slot : Slot) (first id : ℕ) (content : Content)
    → (linked_entry s slot first id content).records (meta_key_of format.index_file) ≡ s.records (meta_key_of format.index_file)
linked-meta s slot first id content =
    let key = meta_key_of format.index_file in
    let rec = entry_record content.node first content.hash in
    let one : State = after_put s (key_in format.index_file id) rec in
    let two : State = backed_entry one first id in
    ap (λ (z : State). z.records key) (linked-is s slot first id content)
    ∙ put_other two.records (key_in format.index_file slot.id) (with_field 4 (two.records (key_in format.index_file slot.id)) slot.place id) key
    (not_meta slot.id)
    ∙ ⊎_elim
    (λ (e : first ≡ format.nil). ap (λ (z : State). z.records key) (backed-none one first id e))
    (λ (some : first ≢ format.nil). ap (λ (z : State). z.records key) (backed-some one first id some)
    ∙ put_other one.records (key_in format.index_file first) (with_field 4 (one.records (key_in format.index_file first)) format.indexed_previous id) key
    (not_meta first))
    (nat_cases first format.nil)
    ∙ put_other s.records (key_in format.index_file id) rec key (not_meta id)
  where
    not_meta : (y : ℕ) → meta_key_of format.index_file ≢ key_in format.index_file y
    not_meta y e = let f = ap (λ (k : Key). k.file) e in omega (arith, f)
