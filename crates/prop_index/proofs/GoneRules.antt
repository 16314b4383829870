-- An entry that is gone keeps the rules but the eighth.
use Rattle.std.proofs.Common.{◌≡◌, ◌≢◌, ⊎_elim, ℕ, ◌<◌, ◌^◌, List, refl, ap, sym, ◌∙◌, subst, inl, inr, arith}
use Rattle.rec_bytes.specs.Format as format
use Rattle.rec_bytes.specs.Record.{field}
use Rattle.rec_bytes.specs.Space.{State}
use Rattle.rec_bytes.proofs.Numbers.{field-lt}
use Rattle.store_rules.specs.Chains.{In, IsWalk}
use Rattle.store_rules.specs.Indexes.{index_rec, next_entry, previous_entry}
use Rattle.store_rules.specs.Ranges.{AreInRange}
use Rattle.store_rules.specs.Rules.{IsSplit, IsWellFormed, IsWhole}
use Rattle.store_rules.specs.Views.{high, is_live, kind_at, rec_at}
use Rattle.store_rules.proofs.ChainLaws.{walk_of_chain}
use Rattle.store_rules.proofs.ChainSteps.{after_other, before_other, nil_out}
use Rattle.store_rules.proofs.Changes as ch
use Rattle.store_rules.proofs.IndexRules.{gone_kept, set_kept}
use Rattle.store_rules.proofs.LinkFits.{IsLow, fits_entry_next}
use Rattle.store_rules.proofs.Made.{IsGone}
use Rattle.store_rules.proofs.NumberLaws.{nat_cases}
use Rattle.store_rules.proofs.Shapes.{room_small}
use Rattle.store_rules.proofs.ViewLaws.{kind_below, kind_low}
use Rattle.id_freelist.specs.Giving.{HasGiven, given}
use Rattle.id_freelist.proofs.FreeListLaws.{has_given}
use Rattle.id_freelist.proofs.Leaving.{is_gone, not_free_id}
use Rattle.prop_index.specs.Heads.{IsHeadPlace}
use Rattle.prop_index.specs.Leaving.{IsBucketChain}
use Rattle.prop_index.specs.Linking.{backed_entry}
use Rattle.prop_index.specs.Unlinking.{led_entry, unlinked_entry}
use Rattle.prop_index.specs.declared.heads.Slot.{Slot}
use Rattle.prop_index.proofs.Buckets.{after-low, after-member, before-low, before-member}
use Rattle.prop_index.proofs.Steps.{led-none, led-some, unlinked-is}
use Rattle.prop_index.proofs.LinkRules.{back_kept, back_kind, back_mark, free_list, head_kept}

module _ (s : State) (slot : Slot) (first x : ℕ) (xs : List ℕ) (is : IsBucketChain s.records first xs)
    (heads : kind_at s.records format.index_file slot.id ≡ format.heads) (place : IsHeadPlace slot.place)
    (member : In x xs) (rules : IsWhole s) (small : x < format.most_ids) where
  abbrev u : State
  u = given s format.index_file x

  abbrev before : ℕ
  before = previous_entry s.records x

  abbrev after : ℕ
  after = next_entry s.records x

  abbrev free : List ℕ
  free = (free_list s rules).0

  split : IsSplit s.records format.index_file (is_live s.records format.index_file) free
  split = (free_list s rules).1

  ranges : AreInRange s.records s.shape
  ranges = rules.ranges

  kind_is : kind_at s.records format.index_file x ≡ format.indexed
  kind_is = is.kind x member

  used : kind_at s.records format.index_file x ≢ format.free_kind
  used q = let k = kind_is in omega (arith, k, q)

  was_given : HasGiven s.records u.records format.index_file x free
  was_given = has_given s format.index_file x free refl small (record { list = split.walk; fresh = not_free_id s.records format.index_file x free split used })

  gone : IsGone s.records u.records s.shape format.index_file x
  gone = is_gone s.records u.records s.shape format.index_file x free refl split used was_given (room_small s.records s.shape format.index_file ranges)
      (ranges.metas format.index_file refl)

  rules_u : IsWellFormed u.records s.shape
  rules_u = gone_kept s.records u.records s.shape x gone rules

  kind_u : (y : ℕ) → y ≢ x → kind_at u.records format.index_file y ≡ kind_at s.records format.index_file y
  kind_u = ch.kind_other s.records u.records format.index_file x gone.change

  walk : IsWalk (next_entry s.records) first xs
  walk = walk_of_chain _ _ _ _ xs is.chain

  after_kind : after ≢ format.nil → kind_at u.records format.index_file after ≡ format.indexed
  after_kind some = kind_u after (after_other (next_entry s.records) first xs x walk member) ∙ is.kind after (after-member s.records first x xs is member some)

  before_kind : before ≢ format.nil → kind_at u.records format.index_file before ≡ format.indexed
  before_kind some = kind_u before (before_other (next_entry s.records) (previous_entry s.records) format.nil first xs x (nil_out (next_entry s.records)
      first xs walk) is.chain member)
      ∙ is.kind before (before-member s.records first x xs is member some)

  before_fits : before < 2 ^ 32
  before_fits = field-lt 4 (index_rec s.records x) format.indexed_previous

  after_fits : after < 2 ^ 32
  after_fits = field-lt 4 (index_rec s.records x) format.indexed_next

  before_low : IsLow (high u.records format.index_file) before
  before_low = ⊎_elim (λ (e : before ≡ format.nil). inl e) (λ (some : before ≢ format.nil). let lt = before-low s.records first x xs is member some in let m =
      was_given.mark in inr (omega (arith, lt, m))) (nat_cases before format.nil)

  abbrev two : State
  two = backed_entry u after before

  after_low : IsLow (high two.records format.index_file) after
  after_low = ⊎_elim (λ (e : after ≡ format.nil). inl e)
      (λ (some : after ≢ format.nil). let lt = after-low s.records first x xs is member some in let m = was_given.mark in let n = back_mark u after before
      after_kind in inr (omega (arith, lt, m, n))) (nat_cases after format.nil)

  rules_two : IsWellFormed two.records s.shape
  rules_two = back_kept s.shape u after before after_kind before_fits before_low rules_u

  slot_other : slot.id ≢ x
  slot_other e = let h = heads in let k = kind_is in let z = ap (kind_at s.records format.index_file) e in omega (arith, h, k, z)

  heads_two : kind_at two.records format.index_file slot.id ≡ format.heads
  heads_two = back_kind u after before after_kind slot.id ∙ kind_u slot.id slot_other ∙ heads

  led_kept : IsWellFormed (led_entry two slot before after).records s.shape
  led_kept = ⊎_elim
      (λ (e : before ≡ format.nil). subst (λ (z : State). IsWellFormed z.records s.shape) (sym (led-none two slot before after e))
      (head_kept s.shape two slot after heads_two place after_fits after_low rules_two))
      (λ (some : before ≢ format.nil).
      let k : kind_at two.records format.index_file before ≡ format.indexed = back_kind u after before after_kind before ∙ before_kind some in
      let used_two : kind_at two.records format.index_file before ≢ format.free_kind = λ q. omega (arith, k, q) in
      let under = kind_below (high two.records format.index_file) (rec_at two.records format.index_file before) before used_two in
      let byte : field 1 (rec_at two.records format.index_file before) format.kind ≡ format.indexed =
      sym (kind_low (high two.records format.index_file) (rec_at two.records format.index_file before) before under) ∙ k in
      subst (λ (z : State). IsWellFormed z.records s.shape) (sym (led-some two slot before after some))
      (set_kept two.records before format.indexed_next after used_two (omega arith) s.shape (λ q. omega (arith, k, q)) (fits_entry_next (high two.records)
      (rec_at two.records format.index_file before) after after_fits after_low byte) rules_two))
      (nat_cases before format.nil)

  -- The entry is out of its bucket, and the rules hold.
  pub entry_gone_kept : (t : State) → t ≡ unlinked_entry s slot x before after → t.shape ≡ s.shape → IsWhole t
  entry_gone_kept t e shape = subst (IsWellFormed t.records) (sym shape)
      (subst (λ (z : State). IsWellFormed z.records s.shape) (sym (e ∙ unlinked-is s slot x before after)) led_kept)
