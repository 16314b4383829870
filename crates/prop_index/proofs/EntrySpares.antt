-- An entry that is put in front of a bucket, or taken out of it, spares the definitions.
use Rattle.std.proofs.Common.{◌≡◌, ◌≢◌, ◌<◌, ◌^◌, ℕ, ap, ◌∙◌, subst, sym, ⊎_elim, arith, refl}
use Rattle.rec_bytes.specs.declared.record.Rec.{Rec}
use Rattle.rec_bytes.specs.Format as format
use Rattle.rec_bytes.specs.Record.{field}
use Rattle.rec_bytes.specs.RecordFiles.{room_of}
use Rattle.rec_bytes.specs.Space.{State, after_put, meta_of}
use Rattle.store_rules.specs.Views.{key_in, kind_at}
use Rattle.store_rules.proofs.NumberLaws.{nat_cases}
use Rattle.rec_bytes.specs.Meta.{IsLinkBelow}
use Rattle.id_freelist.specs.Giving.{given}
use Rattle.id_freelist.specs.ListDamage.{KeepsInUse}
use Rattle.id_freelist.specs.Taking.{IsUndamaged, taken, taken_id}
use Rattle.id_freelist.proofs.ListSteps.{give_used, keeps_none, put_keeps, set_keeps}
use Rattle.prop_index.specs.Linking.{backed_entry, entry_record, linked_entry}
use Rattle.prop_index.specs.Sparing.{SparesDefinitions}
use Rattle.prop_index.specs.Unlinking.{unlinked_entry}
use Rattle.prop_index.specs.declared.entry_row.Content.{Content}
use Rattle.prop_index.specs.declared.heads.Slot.{Slot}
use Rattle.prop_index.proofs.RecordFits.{entry-kind}
use Rattle.prop_index.proofs.Sparing.{give_spares, put_spares, set_spares, spares_none, spares_then, still_other}
use Rattle.prop_index.proofs.Steps.{backed-none, backed-some, led-none, led-some, linked-is, unlinked-is}

pub entry_spares : (s u t : State) (slot : Slot) (first id : ℕ) (content : Content) → content.node < 2 ^ 32 → first < 2 ^ 32 → content.hash < 2 ^ 64
    → u ≡ taken s format.index_file → id ≡ taken_id (meta_of s format.index_file) → IsUndamaged s format.index_file
    → kind_at s.records format.index_file id ≡ format.free_kind → id < format.most_ids → id < room_of s.shape format.index_file
    → t ≡ linked_entry u slot first id content → kind_at s.records format.index_file slot.id ≡ format.heads
    → (first ≢ format.nil → kind_at s.records format.index_file first ≡ format.indexed) → 0 < slot.place → SparesDefinitions s t
entry_spares s u t slot first id content node_fits first_fits hash_fits took is right fresh few small linked head begins place =
    let file = format.index_file in
    let rec = entry_record content.node first content.hash in
    let one : State = after_put u (key_in file id) rec in
    let two : State = backed_entry one first id in
    let kind = entry-kind content.node first content.hash node_fits first_fits hash_fits in
    let used : field 1 rec format.kind ≢ format.free_kind = λ e. omega (arith, kind, e) in
    let other : field 1 rec format.kind ≢ format.definition = λ e. omega (arith, kind, e) in
    let put : SparesDefinitions s one = put_spares s u one rec id took is right fresh few small refl used other in
    let kept : KeepsInUse s one file = put_keeps s u one file id rec refl took is right fresh few small refl used in
    let first_used : first ≢ format.nil → kind_at s.records file first ≢ format.free_kind = λ some e. let k = begins some in omega (arith, k, e) in
    let first_other : first ≢ format.nil → kind_at s.records file first ≢ format.definition = λ some e. let k = begins some in omega (arith, k, e) in
    let head_used : kind_at s.records file slot.id ≢ format.free_kind = λ e. omega (arith, head, e) in
    let head_other : kind_at s.records file slot.id ≢ format.definition = λ e. omega (arith, head, e) in
    let back : SparesDefinitions one two = ⊎_elim
    (λ (e : first ≡ format.nil). subst (λ (z : State). SparesDefinitions one z) (sym (backed-none one first id e)) (spares_none one one refl))
    (λ (some : first ≢ format.nil). set_spares one two first format.indexed_previous id (omega arith) (kept.used first (first_used some))
    (still_other s one put first (first_used some) (first_other some)) (backed-some one first id some)) (nat_cases first format.nil) in
    let back_kept : KeepsInUse one two file = ⊎_elim
    (λ (e : first ≡ format.nil). subst (λ (z : State). KeepsInUse one z file) (sym (backed-none one first id e)) (keeps_none one file))
    (λ (some : first ≢ format.nil). set_keeps one two file first format.indexed_previous id refl (omega arith) (kept.used first (first_used some))
    (backed-some one first id some))
    (nat_cases first format.nil) in
    let both : SparesDefinitions s two = spares_then s one two put back in
    let led : SparesDefinitions two t = set_spares two t slot.id slot.place id place (back_kept.used slot.id (kept.used slot.id head_used))
    (still_other s two both slot.id head_used head_other) (linked ∙ linked-is u slot first id content) in
    spares_then s two t both led

module _ (s t : State) (slot : Slot) (x before after : ℕ) (now : t ≡ unlinked_entry s slot x before after) (few : x < format.most_ids)
    (used : kind_at s.records format.index_file x ≡ format.indexed) (head : kind_at s.records format.index_file slot.id ≡ format.heads)
    (leads : before ≢ format.nil → kind_at s.records format.index_file before ≡ format.indexed)
    (follows : after ≢ format.nil → kind_at s.records format.index_file after ≡ format.indexed)
    (before_other : before ≢ x) (after_other : after ≢ x)
    (link : IsLinkBelow (meta_of s format.index_file).free (meta_of s format.index_file).high) (place : 0 < slot.place) where
  abbrev file : ℕ
  file = format.index_file

  abbrev one : State
  one = given s file x

  abbrev two : State
  two = backed_entry one after before

  entry_used : (y : ℕ) → kind_at s.records file y ≡ format.indexed → kind_at s.records file y ≢ format.free_kind
  entry_used y is e = omega (arith, is, e)

  entry_other : (y : ℕ) → kind_at s.records file y ≡ format.indexed → kind_at s.records file y ≢ format.definition
  entry_other y is e = omega (arith, is, e)

  head_used : kind_at s.records file slot.id ≢ format.free_kind
  head_used e = omega (arith, head, e)

  head_other : kind_at s.records file slot.id ≢ format.definition
  head_other e = omega (arith, head, e)

  head_apart : slot.id ≢ x
  head_apart e = let k = ap (kind_at s.records file) e in omega (arith, k, used, head)

  gave : SparesDefinitions s one
  gave = give_spares s one x refl few (entry_used x used) (entry_other x used) link

  still_used : (y : ℕ) → y ≢ x → kind_at s.records file y ≢ format.free_kind → kind_at one.records file y ≢ format.free_kind
  still_used y ne was = give_used s one file x refl refl few (entry_used x used) link y ne was

  back : SparesDefinitions one two
  back = ⊎_elim
      (λ (e : after ≡ format.nil). subst (λ (z : State). SparesDefinitions one z) (sym (backed-none one after before e)) (spares_none one one refl))
      (λ (some : after ≢ format.nil). set_spares one two after format.indexed_previous before (omega arith) (still_used after after_other
      (entry_used after (follows some)))
      (still_other s one gave after (entry_used after (follows some)) (entry_other after (follows some))) (backed-some one after before some))
      (nat_cases after format.nil)

  back_kept : KeepsInUse one two file
  back_kept = ⊎_elim
      (λ (e : after ≡ format.nil). subst (λ (z : State). KeepsInUse one z file) (sym (backed-none one after before e)) (keeps_none one file))
      (λ (some : after ≢ format.nil). set_keeps one two file after format.indexed_previous before refl (omega arith) (still_used after after_other
      (entry_used after (follows some))) (backed-some one after before some))
      (nat_cases after format.nil)

  both : SparesDefinitions s two
  both = spares_then s one two gave back

  led : SparesDefinitions two t
  led = ⊎_elim
      (λ (e : before ≡ format.nil). set_spares two t slot.id slot.place after place (back_kept.used slot.id (still_used slot.id head_apart head_used))
      (still_other s two both slot.id head_used head_other) (now ∙ unlinked-is s slot x before after ∙ led-none two slot before after e))
      (λ (some : before ≢ format.nil). set_spares two t before format.indexed_next after (omega arith)
      (back_kept.used before (still_used before before_other (entry_used before (leads some))))
      (still_other s two both before (entry_used before (leads some)) (entry_other before (leads some)))
      (now ∙ unlinked-is s slot x before after ∙ led-some two slot before after some)) (nat_cases before format.nil)

  pub gone_spares : SparesDefinitions s t
  gone_spares = spares_then s two t both led
