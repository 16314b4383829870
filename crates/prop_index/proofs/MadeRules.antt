-- An entry that is made keeps the rules but the eighth.
use Rattle.std.proofs.Common.{◌≡◌, ◌≢◌, ⊎_elim, ℕ, ◌<◌, ◌^◌, refl, ap, sym, ◌∙◌, subst, inl, inr, arith}
use Rattle.rec_bytes.specs.declared.key.Key.{Key}
use Rattle.rec_bytes.specs.declared.record.Rec.{Rec}
use Rattle.rec_bytes.specs.Format as format
use Rattle.rec_bytes.specs.Record.{field, zeros}
use Rattle.rec_bytes.specs.RecordFiles.{room_of}
use Rattle.rec_bytes.specs.Space.{State, after_put}
use Rattle.rec_bytes.specs.Tables.{AllFit}
use Rattle.rec_bytes.proofs.Spaces.{put_other, put_same}
use Rattle.rec_bytes.proofs.Tables.{field-with_fields}
use Rattle.store_rules.specs.Ranges.{AreInRange}
use Rattle.store_rules.specs.Rules.{IsWellFormed, IsWhole}
use Rattle.store_rules.specs.Views.{high, key_in, kind_at, rec_at}
use Rattle.store_rules.proofs.Changes as ch
use Rattle.store_rules.proofs.IndexRules.{made_kept}
use Rattle.store_rules.proofs.LinkFits.{IsLow}
use Rattle.store_rules.proofs.Made.{IsMade}
use Rattle.store_rules.proofs.NumberLaws.{nat_cases}
use Rattle.store_rules.proofs.Shapes.{room_small}
use Rattle.store_rules.proofs.ViewLaws.{kind_below}
use Rattle.id_freelist.specs.Taking.{HasTaken}
use Rattle.id_freelist.proofs.Making.{is_made}
use Rattle.prop_index.specs.Heads.{IsHeadPlace}
use Rattle.prop_index.specs.Linking.{backed_entry, entry_fields, entry_record, linked_entry}
use Rattle.prop_index.specs.declared.entry_row.Content.{Content}
use Rattle.prop_index.specs.declared.heads.Slot.{Slot}
use Rattle.prop_index.proofs.RecordFits.{fits-entry_record}
use Rattle.prop_index.proofs.Steps.{linked-is}
use Rattle.prop_index.proofs.LinkRules.{back_kept, back_kind, back_mark, free_list, head_kept}

module _ (s u : State) (slot : Slot) (first id : ℕ) (content : Content) (rules : IsWhole s)
    (taken : HasTaken s.records u.records format.index_file id (free_list s rules).0)
    (fresh : kind_at s.records format.index_file id ≡ format.free_kind) (small : id < room_of s.shape format.index_file)
    (heads : kind_at s.records format.index_file slot.id ≡ format.heads) (place : IsHeadPlace slot.place)
    (entry : first ≢ format.nil → kind_at s.records format.index_file first ≡ format.indexed) (first_fits : first < 2 ^ 32) (node_fits : content.node < 2 ^ 32)
    (hash_fits : content.hash < 2 ^ 64)
    (known : content.node < high s.records format.nodes_file) where
  abbrev rec : Rec
  rec = entry_record content.node first content.hash

  abbrev at : Key
  at = key_in format.index_file id

  abbrev one : State
  one = after_put u at rec

  abbrev two : State
  two = backed_entry one first id

  ranges : AreInRange s.records s.shape
  ranges = rules.ranges

  room : room_of s.shape format.index_file < 2 ^ 32
  room = room_small s.records s.shape format.index_file ranges

  kind_is : field 1 rec format.kind ≡ format.indexed
  kind_is = field-with_fields 1 zeros (entry_fields content.node first content.hash) format.kind format.indexed refl fit refl
    where
      fit : AllFit (entry_fields content.node first content.hash)
      fit = (omega arith, (node_fits, (omega arith, (first_fits, (hash_fits, tt)))))

  made : IsMade s.records one.records s.shape format.index_file id rec
  made = is_made s.records u.records one.records s.shape format.index_file id (free_list s rules).0 rec refl (free_list s rules).1 taken
      (put_same u.records at rec) (λ key ne. put_other u.records at rec key ne)
      (λ q. let k = kind_is in omega (arith, k, q)) small room (ranges.metas format.index_file refl)

  not_new : (y : ℕ) → kind_at s.records format.index_file y ≢ format.free_kind → y ≢ id
  not_new y used e = used (ap (kind_at s.records format.index_file) e ∙ fresh)

  kind_one : (y : ℕ) → kind_at s.records format.index_file y ≢ format.free_kind
      → kind_at one.records format.index_file y ≡ kind_at s.records format.index_file y
  kind_one y used = ch.kind_other s.records one.records format.index_file id made.change y (not_new y used)

  first_low : IsLow (high one.records format.index_file) first
  first_low = ⊎_elim (λ (e : first ≡ format.nil). inl e) (λ (some : first ≢ format.nil).
      let k = entry some in let more = made.change.more in
      let under = kind_below (high s.records format.index_file) (rec_at s.records format.index_file first) first (λ q. omega (arith, k, q)) in
      inr (omega (arith, under, more)))
      (nat_cases first format.nil)

  node_known : content.node < high one.records format.nodes_file
  node_known = let same = ch.mark_same s.records one.records format.index_file id made.change format.nodes_file (λ e. omega arith) in omega (arith, same, known)

  rules_one : IsWellFormed one.records s.shape
  rules_one = made_kept s.records one.records s.shape id rec made (fits-entry_record (high one.records) content.node first content.hash node_known node_fits
      first_low first_fits hash_fits) (λ q. let k = kind_is in absurd (omega (arith, k, q))) rules

  entry_one : first ≢ format.nil → kind_at one.records format.index_file first ≡ format.indexed
  entry_one some = let k = entry some in kind_one first (λ q. omega (arith, k, q)) ∙ k

  id_fits : id < 2 ^ 32
  id_fits = let r = room in omega (arith, small, r)

  rules_two : IsWellFormed two.records s.shape
  rules_two = back_kept s.shape one first id entry_one id_fits (inr made.below) rules_one

  heads_two : kind_at two.records format.index_file slot.id ≡ format.heads
  heads_two = back_kind one first id entry_one slot.id ∙ kind_one slot.id (λ q. omega (arith, heads, q)) ∙ heads

  -- The entry is in front of its bucket, and the rules hold.
  pub entry_made_kept : (t : State) → t ≡ linked_entry u slot first id content → t.shape ≡ s.shape → IsWhole t
  entry_made_kept t is shape =
      let low : id < high two.records format.index_file = let b = made.below in let m = back_mark one first id entry_one in omega (arith, b, m) in
      subst (IsWellFormed t.records) (sym shape)
      (subst (λ (z : State). IsWellFormed z.records s.shape) (sym (is ∙ linked-is u slot first id content)) (head_kept s.shape two slot id heads_two place
      id_fits (inr low) rules_two))
