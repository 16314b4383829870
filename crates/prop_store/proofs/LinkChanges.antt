-- A property taken out of the middle of a list: the one before it leads to the one after it.
use Rattle.std.proofs.Common.{◌≡◌, ◌≢◌, ◌⊎◌, ℕ, ◌<◌, ◌^◌, true, List, [], ◌∷◌, ◌++◌, sym, ap, ◌∙◌, subst, inl, inr, ⊎_elim, length-append, arith, refl}
use Rattle.std.proofs.lemmas.List.{map-append}
use Rattle.rec_bytes.specs.declared.key.Key.{Key}
use Rattle.rec_bytes.specs.declared.shape.Shape.{Shape}
use Rattle.rec_bytes.specs.Format as format
use Rattle.rec_bytes.specs.Meta as metas
use Rattle.rec_bytes.specs.Record.{field, with_field}
use Rattle.rec_bytes.specs.RecordFiles.{meta_key_of}
use Rattle.rec_bytes.specs.Space.{State, after_set}
use Rattle.rec_bytes.proofs.Numbers.{field-with_field_other, field-with_field_same}
use Rattle.rec_bytes.proofs.Spaces.{put_other, put_same}
use Rattle.store_rules.specs.Chains.{In}
use Rattle.store_rules.specs.Properties.{AreLinked, AreOnce, AreProperties, Property, PropertyRecords, blocks_of}
use Rattle.store_rules.specs.Properties.{content_of, first_property, ids_of, keys_of, long_text}
use Rattle.store_rules.specs.PropertyChange.{ChangesFile}
use Rattle.store_rules.specs.Ranges.{Fits}
use Rattle.store_rules.specs.Views.{Records, high, is_live, key_in, rec_at}
use Rattle.store_rules.proofs.LinkFits.{IsLow}
use Rattle.store_rules.proofs.MemberLaws.{in_cases}
use Rattle.store_rules.proofs.MetaLaws.{not_meta_key}
use Rattle.store_rules.proofs.PropertyStays.{blocks_stay, linked_stay}
use Rattle.prop_store.specs.Dropping.{ChangesRecords}
use Rattle.prop_store.specs.FileChange.{IsSameBeside}
use Rattle.prop_store.proofs.DropSteps.{live_low}
use Rattle.prop_store.proofs.FileMoves.{Replaces, rewritten}
use Rattle.prop_store.proofs.FileSteps.{file_now}
use Rattle.prop_store.proofs.ListLaws.{in_left, once_split, once_without}
use Rattle.prop_store.proofs.PropertyParts.{blocks_both, blocks_parts, ids_parts, keys_parts, linked_after, linked_before}
use Rattle.prop_store.proofs.PropertyRecords.{content_of-with_next, key-with_next}
use Rattle.prop_store.proofs.RecordFits.{Fits-with_next}
use Rattle.prop_store.proofs.RecordMoves.{properties_moved}

-- the same numbers are in the list
pub replaces_same : (mid a : List ℕ) → ((x : ℕ) → In x a → In x mid) → Replaces mid a a mid
replaces_same mid a there = record {
  there = there;
  from = λ x i. ⊎_elim (λ (j : In x a). inl j) (λ (out : ¬ In x a). inr (i, out)) (in_cases x a);
  placed = there;
  kept = λ x i out. i;
}

-- lists that are the same
pub records_like : (s t : Records) (shape : Shape) (ids ids' new new' blocks blocks' after after' : List ℕ) → ids ≡ ids' → new ≡ new' → blocks ≡ blocks'
    → after ≡ after' → ChangesRecords s t shape ids new blocks after → ChangesRecords s t shape ids' new' blocks' after'
records_like s t shape ids ids' new new' blocks blocks' after after' p q r z h =
    subst (λ l. ChangesRecords s t shape ids' new' blocks' l) z (subst (λ l. ChangesRecords s t shape ids' new' l after) r
    (subst (λ l. ChangesRecords s t shape ids' l blocks after) q (subst (λ l. ChangesRecords s t shape l new blocks after) p h)))

-- ---- the link of one property is written
module _ (m t : State) (shape : Shape) (p to : ℕ) (set : t ≡ after_set m (key_in format.properties_file p) 4 format.property_next to) where
  pub link_here : rec_at t.records format.properties_file p ≡ with_field 4 (rec_at m.records format.properties_file p) format.property_next to
  link_here = ap (λ (z : State). rec_at z.records format.properties_file p) set
      ∙ put_same m.records (key_in format.properties_file p) (with_field 4 (m.records (key_in format.properties_file p)) format.property_next to)

  pub link_others : (key : Key) → key ≢ key_in format.properties_file p → t.records key ≡ m.records key
  link_others key ne = ap (λ (z : State). z.records key) set ∙ put_other m.records (key_in format.properties_file p)
      (with_field 4 (m.records (key_in format.properties_file p)) format.property_next to) key ne

  meta_stays : (f : ℕ) → t.records (meta_key_of f) ≡ m.records (meta_key_of f)
  meta_stays f = link_others (meta_key_of f) (λ e. not_meta_key format.properties_file p f refl (sym e))

  mark_stays : (f : ℕ) → high t.records f ≡ high m.records f
  mark_stays f = ap (λ r. (metas.meta_of r).high) (meta_stays f)

  pub link_beside : IsSameBeside format.properties_file m.records t.records
  link_beside key ne meta = link_others key (λ e. ne (ap (λ (k : Key). k.file) e))

  -- in a file that keeps its rules
  pub link_moved : (old new : List ℕ) → ChangesFile m.records m.records shape format.properties_file old new
      → ChangesFile m.records m.records shape format.strings_file [] [] → is_live m.records format.properties_file p ≡ true
      → field 1 (rec_at m.records format.properties_file p) format.kind ≢ format.free_kind → to < 2 ^ 32 → IsLow (high m.records format.properties_file) to
      → ChangesRecords m.records t.records shape (p ∷ []) (p ∷ []) [] []
  link_moved old new h strings live used small low =
      let r = rec_at m.records format.properties_file p in
      let fits : Fits (high m.records) format.properties_file r = h.fits p (live_low m.records format.properties_file p live) in
      let now : Fits (high t.records) format.properties_file (rec_at t.records format.properties_file p)
      = subst (Fits (high t.records) format.properties_file) (sym link_here) (Fits-with_next (high t.records) r to used small
      (subst (λ mark. IsLow mark to) (sym (mark_stays format.properties_file)) low)
      (subst (λ marks. Fits marks format.properties_file r) (λ i f. sym (mark_stays f) i) fits)) in
      properties_moved m.records t.records shape (p ∷ []) (p ∷ []) [] strings link_beside
      (rewritten shape format.properties_file m.records t.records p (file_now m.records m.records shape format.properties_file old new h (p ∷ [])
      (λ x i. ⊎_elim (λ (e : x ≡ p). ap (is_live m.records format.properties_file) e ∙ live) (λ j. elim j [ ]) i))
      (meta_stays format.properties_file) (λ x ne. link_others (key_in format.properties_file x) (λ e. ne (ap (λ (k : Key). k.id) e)))
      (λ e. used (sym (field-with_field_other 4 r format.property_next to 1 format.kind (omega arith) (inr (omega arith))) ∙ ap (λ q. field 1 q format.kind)
      (sym link_here) ∙ e))
      now (λ f. let e = mark_stays f in omega arith))

-- ---- lists without one
module _ (was now : PropertyRecords) (first : ℕ) (front : List Property) (e : Property) (back : List Property)
    (are : AreProperties was first (front ++ e ∷ back)) where
  pub ids_apart : AreOnce (ids_of front ++ ((e.id ∷ []) ++ ids_of back))
  ids_apart = subst AreOnce (ids_parts front e back) are.ids_once

  pub blocks_apart : AreOnce (blocks_of front ++ (e.blocks ++ blocks_of back))
  blocks_apart = subst AreOnce (blocks_parts front e back) are.blocks_once

  pub without_one : AreLinked now (front ++ back) → AreProperties now (first_property (front ++ back)) (front ++ back)
  without_one linked = record {
    first_is = refl;
    linked = linked;
    few = let f = are.few in omega (arith, length-append front (e ∷ back), length-append front back);
    ids_once = subst AreOnce (sym (map-append (λ (z : Property). z.id) front back)) (once_without (ids_of front) (e.id ∷ []) (ids_of back) ids_apart);
    blocks_once = subst AreOnce (sym (blocks_both front back)) (once_without (blocks_of front) e.blocks (blocks_of back) blocks_apart);
    keys_once = subst AreOnce (sym (map-append (λ (z : Property). z.key) front back))
        (once_without (keys_of front) (e.key ∷ []) (keys_of back) (subst AreOnce (keys_parts front e back) are.keys_once));
  }

  -- what isn't the one's isn't among what it has
  pub not_its_id : (x : ℕ) → In x (ids_of front) ⊎ In x (ids_of back) → ¬ In x (e.id ∷ [])
  not_its_id x i j =
      let outer = once_split (ids_of front) ((e.id ∷ []) ++ ids_of back) ids_apart in
      let inner = once_split (e.id ∷ []) (ids_of back) outer.right in
      ⊎_elim (λ f. outer.apart x f (in_left x (e.id ∷ []) (ids_of back) j)) (λ b. inner.apart x j b) i

  pub not_its_block : (x : ℕ) → In x (blocks_of front) ⊎ In x (blocks_of back) → ¬ In x e.blocks
  not_its_block x i j =
      let outer = once_split (blocks_of front) (e.blocks ++ blocks_of back) blocks_apart in
      let inner = once_split e.blocks (blocks_of back) outer.right in
      ⊎_elim (λ f. outer.apart x f (in_left x e.blocks (blocks_of back) j)) (λ b. inner.apart x j b) i

-- Where the last one before leads to what comes after, all but the one are linked.
pub linked_around : (was now : PropertyRecords) (before : List Property) (last e : Property) (back : List Property) (to : ℕ) → to ≡ first_property back
    → to < 2 ^ 32
    → ((x : ℕ) → In x (ids_of before) ⊎ In x (ids_of back) → now.properties x ≡ was.properties x)
    → ((b : ℕ) → In b (blocks_of before) ⊎ (In b last.blocks ⊎ In b (blocks_of back)) → now.strings b ≡ was.strings b)
    → now.properties last.id ≡ with_field 4 (was.properties last.id) format.property_next to → AreLinked was (before ++ last ∷ e ∷ back)
    → AreLinked now (before ++ last ∷ back)
linked_around was now before last e back to to_is small same blocks here h =
    let rest = linked_after was before (last ∷ e ∷ back) h in
    let r = was.properties last.id in
    linked_before was now before (last ∷ e ∷ back) (last ∷ back) refl (λ p i. same p (inl i)) (λ b i. blocks b (inl i)) h (
      record {
        low = rest.0.low;
        content = ap content_of here ∙ content_of-with_next r to ∙ rest.0.content;
        key = ap (λ q. field 4 q format.property_key) here ∙ key-with_next r to ∙ rest.0.key;
        next_is = ap (λ q. field 4 q format.property_next) here ∙ field-with_field_same 4 r format.property_next to (omega arith) (omega arith) ∙ to_is;
        kept = rest.0.kept;
        blocks = blocks_stay was.strings now.strings (long_text last.value) last.blocks (λ b i. blocks b (inr (inl i))) rest.0.blocks;
      },
      linked_stay was now back (λ p i. same p (inr i)) (λ b i. blocks b (inr (inr i))) rest.1.1,
    )
