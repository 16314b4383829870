-- An entry that was given back and unlinked is one that the rule of an index knows to be gone.
use Rattle.std.proofs.Common.{◌≡◌, ◌≢◌, ⊎_elim, ℕ, ◌<◌, ◌≤◌, List, refl, ap, sym, ◌∙◌, subst, inr, arith}
use Rattle.std.proofs.lemmas.Bool.{cases_lt}
use Rattle.rec_bytes.specs.declared.key.Key.{Key}
use Rattle.rec_bytes.specs.declared.record.Rec.{Rec}
use Rattle.rec_bytes.specs.Format as format
use Rattle.rec_bytes.specs.Meta as metas
use Rattle.rec_bytes.specs.Record.{field, with_field, zeros}
use Rattle.rec_bytes.specs.RecordFiles.{meta_key_of}
use Rattle.rec_bytes.specs.Space.{State, after_set, meta_in}
use Rattle.rec_bytes.proofs.Metas.{definition-with_meta}
use Rattle.rec_bytes.proofs.Numbers.{field-with_field_other}
use Rattle.rec_bytes.proofs.Spaces.{put_other, put_same}
use Rattle.store_rules.specs.Chains.{In, IsWalk}
use Rattle.store_rules.specs.IndexChange.{IsEntryGone}
use Rattle.store_rules.specs.Indexes.{index_rec, next_entry, previous_entry}
use Rattle.store_rules.specs.Views.{Records, high, key_in, kind_at}
use Rattle.store_rules.proofs.ChainLaws.{walk_of_chain}
use Rattle.store_rules.proofs.ChainSteps.{after_other, before_other, next_before, nil_out, twice_other}
use Rattle.store_rules.proofs.NumberLaws.{nat_cases}
use Rattle.store_rules.proofs.ViewLaws.{kind_high, kind_low}
use Rattle.id_freelist.specs.FreeLists.{free_record}
use Rattle.id_freelist.specs.Giving.{HasGiven, given}
use Rattle.id_freelist.specs.Taking.{CanTake}
use Rattle.id_freelist.proofs.FreeListLaws.{has_given}
use Rattle.prop_index.specs.Leaving.{IsBucketChain}
use Rattle.prop_index.specs.Linking.{backed_entry}
use Rattle.prop_index.specs.Unlinking.{led_entry, unlinked_entry}
use Rattle.prop_index.proofs.Buckets.{after-member}
use Rattle.prop_index.proofs.Steps.{backed-none, backed-some, led-none, led-some, unlinked-is}
use Rattle.prop_index.specs.declared.heads.Slot.{Slot}

abbrev at : ℕ → Key
at x = key_in format.index_file x

apart : (x y : ℕ) → x ≢ y → at x ≢ at y
apart x y ne e = ne (ap (λ (k : Key). k.id) e)

zero_kind : field 1 zeros format.kind ≡ 0
unfolding field
zero_kind = refl

module _ (whole : State) (slot : Slot) (first x : ℕ) (xs free : List ℕ) (is : IsBucketChain whole.records first xs)
    (heads : kind_at whole.records format.index_file slot.id ≡ format.heads)
    (member : In x xs) (can : CanTake whole format.index_file free) (small : x < format.most_ids) where
  abbrev s : Records
  s = whole.records

  abbrev u : State
  u = given whole format.index_file x

  abbrev before : ℕ
  before = previous_entry s x

  abbrev after : ℕ
  after = next_entry s x

  abbrev two : State
  two = backed_entry u after before

  abbrev three : State
  three = led_entry two slot before after

  -- ---- who is who

  kind_is : kind_at s format.index_file x ≡ format.indexed
  kind_is = is.kind x member

  was_given : HasGiven s u.records format.index_file x free
  was_given = has_given whole format.index_file x free refl small (record {
    list = can.list;
    fresh = λ i. let k = can.unused x i in let e = kind_is in omega
        (arith, k, e);
  })

  walk : IsWalk (next_entry s) first xs
  walk = walk_of_chain _ _ _ _ xs is.chain

  none_out : In format.nil xs → ⊥
  none_out = nil_out (next_entry s) first xs walk

  after_there : after ≢ format.nil → In after xs
  after_there = after-member s first x xs is member

  slot_apart : (y : ℕ) → kind_at s format.index_file y ≡ format.indexed → slot.id ≢ y
  slot_apart y k e = let h = heads in let z = ap (kind_at s format.index_file) e in omega (arith, k, h, z)

  slot_not_gone : slot.id ≢ x
  slot_not_gone = slot_apart x kind_is

  slot_not_next : after ≢ format.nil → slot.id ≢ after
  slot_not_next some = slot_apart after (is.kind after (after_there some))

  next_not_gone : after ≢ format.nil → after ≢ x
  next_not_gone some = after_other (next_entry s) first xs x walk member

  before_not_gone : before ≢ format.nil → before ≢ x
  before_not_gone some = before_other (next_entry s) (previous_entry s) format.nil first xs x none_out is.chain member

  before_not_next : before ≢ format.nil → after ≢ format.nil → before ≢ after
  before_not_next some other e = ⊎_elim
      (λ (k : (first ≡ x) × (before ≡ format.nil)). some k.1)
      (λ (k : next_entry s before ≡ x). twice_other (next_entry s) first xs x walk member other (ap (next_entry s) (sym e) ∙ k))
      (next_before (next_entry s) (previous_entry s) format.nil first xs x is.chain member)

  -- ---- the records

  one_other : (key : Key) → key ≢ at x → key ≢ meta_key_of format.index_file → u.records key ≡ s key
  one_other key ne no_meta = was_given.others key no_meta ne

  two_none : after ≡ format.nil → two ≡ u
  two_none = backed-none u after before

  two_some : after ≢ format.nil → two ≡ after_set u (at after) 4 format.indexed_previous before
  two_some = backed-some u after before

  three_none : before ≡ format.nil → three ≡ after_set two (at slot.id) 4 slot.place after
  three_none = led-none two slot before after

  three_some : before ≢ format.nil → three ≡ after_set two (at before) 4 format.indexed_next after
  three_some = led-some two slot before after

  two_other : (key : Key) → (after ≢ format.nil → key ≢ at after) → two.records key ≡ u.records key
  two_other key ne = ⊎_elim
      (λ (e : after ≡ format.nil). ap (λ (z : State). z.records key) (two_none e))
      (λ (some : after ≢ format.nil). ap (λ (z : State). z.records key) (two_some some) ∙ put_other u.records (at after) (with_field 4 (u.records (at after))
      format.indexed_previous before) key (ne some))
      (nat_cases after format.nil)

  three_other : (key : Key) → (before ≡ format.nil → key ≢ at slot.id) → (before ≢ format.nil → key ≢ at before) → three.records key ≡ two.records key
  three_other key a b = ⊎_elim
      (λ (e : before ≡ format.nil). ap (λ (z : State). z.records key) (three_none e) ∙ put_other two.records (at slot.id)
      (with_field 4 (two.records (at slot.id)) slot.place after) key (a e))
      (λ (some : before ≢ format.nil). ap (λ (z : State). z.records key) (three_some some) ∙ put_other two.records (at before)
      (with_field 4 (two.records (at before)) format.indexed_next after) key (b some))
      (nat_cases before format.nil)

  not_meta : (y : ℕ) → at y ≢ meta_key_of format.index_file
  not_meta y e = let f = ap (λ (k : Key). k.file) e in omega (arith, f)

  meta_rec : three.records (meta_key_of format.index_file) ≡ u.records (meta_key_of format.index_file)
  meta_rec = three_other (meta_key_of format.index_file) (λ e q. not_meta slot.id (sym q)) (λ e q. not_meta before (sym q))
      ∙ two_other (meta_key_of format.index_file) (λ e q. not_meta after (sym q))

  mark_now : high three.records format.index_file ≡ high s format.index_file
  mark_now = ap (λ (r : Rec). (metas.meta_of r).high) meta_rec ∙ was_given.mark

  here : index_rec three.records x ≡ free_record (meta_in s format.index_file).free
  here = three_other (at x) (λ e. apart x slot.id (λ q. slot_not_gone (sym q))) (λ some. apart x before (λ q. before_not_gone some (sym q)))
      ∙ two_other (at x) (λ some. apart x after (λ q. next_not_gone some (sym q))) ∙ was_given.here

  free_kind_is : (next : ℕ) → field 1 (free_record next) format.kind ≡ format.free_kind
  free_kind_is next = field-with_field_other 4 zeros format.free_next next 1 format.kind (omega arith) (inr (omega arith)) ∙ zero_kind

  kind_gone : kind_at three.records format.index_file x ≡ format.free_kind
  kind_gone = ⊎_elim
      (λ (lt : x < high three.records format.index_file). kind_low (high three.records format.index_file) (index_rec three.records x) x lt ∙ ap
      (λ (r : Rec). field 1 r format.kind) here ∙ free_kind_is (meta_in s format.index_file).free)
      (λ (ge : high three.records format.index_file ≤ x). kind_high (high three.records format.index_file) (index_rec three.records x) x ge)
      (cases_lt x (high three.records format.index_file))

  three_is : unlinked_entry whole slot x before after ≡ three
  three_is = unlinked-is whole slot x before after

  unlinked : IsEntryGone s three.records x slot.id slot.place
  unlinked = record {
    mark = mark_now;
    first = ap (λ (r : Rec). field 4 r format.meta_definition) (meta_rec ∙ was_given.meta)
        ∙ definition-with_meta (s (meta_key_of format.index_file)) (meta_in u.records format.index_file);
    gone = kind_gone;
    after = λ some. three_other (at after) (λ e. apart after slot.id (λ q. slot_not_next some (sym q)))
        (λ b. apart after before (λ q. before_not_next b some (sym q)))
        ∙ ap (λ (z : State). z.records (at after)) (two_some some) ∙ put_same u.records (at after)
        (with_field 4 (u.records (at after)) format.indexed_previous before)
        ∙ ap (λ (r : Rec). with_field 4 r format.indexed_previous before) (one_other (at after) (apart after x (next_not_gone some)) (not_meta after));
    before = λ some. ap (λ (z : State). z.records (at before)) (three_some some)
        ∙ put_same two.records (at before) (with_field 4 (two.records (at before)) format.indexed_next after)
        ∙ ap (λ (r : Rec). with_field 4 r format.indexed_next after) (two_other (at before) (λ a. apart before after (before_not_next some a)) ∙ one_other
        (at before) (apart before x (before_not_gone some)) (not_meta before));
    head = λ e. ap (λ (z : State). z.records (at slot.id)) (three_none e)
        ∙ put_same two.records (at slot.id) (with_field 4 (two.records (at slot.id)) slot.place after)
        ∙ ap (λ (r : Rec). with_field 4 r slot.place after) (two_other (at slot.id) (λ a. apart slot.id after (slot_not_next a)) ∙ one_other (at slot.id)
        (apart slot.id x slot_not_gone) (not_meta slot.id));
    others = λ y a b d e. three_other (at y) (λ q. apart y slot.id (e q)) (λ q. apart y before d) ∙ two_other (at y) (λ q. apart y after b)
        ∙ one_other (at y) (apart y x a) (not_meta y);
  }

  -- where the entry was given back and its neighbours lead to each other, it is gone
  pub entry_unlinked : (t : State) → t ≡ unlinked_entry whole slot x before after → IsEntryGone s t.records x slot.id slot.place
  entry_unlinked t e = subst (λ (z : State). IsEntryGone s z.records x slot.id slot.place) (sym (e ∙ three_is)) unlinked
