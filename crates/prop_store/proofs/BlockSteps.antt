-- A block of a text that is taken and written, and what stands of the text so far.
use Rattle.std.proofs.Common.{◌≡◌, ◌≢◌, ℕ, ◌+◌, ◌*◌, ◌/◌, ◌%◌, ◌<◌, ◌≤◌, ◌^◌, min, true, false, List, [], ◌∷◌, length}
use Rattle.std.proofs.Common.{take, drop, sym, ap, ◌∙◌, subst, inl, inr, ⊎_elim, arith, refl, length-drop}
use Rattle.std.specs.Prelude.{Err}
use Rattle.std.proofs.lemmas.Bool.{true≢false}
use Rattle.std.proofs.lemmas.List.{drop-drop, length-take}
use Rattle.rec_bytes.specs.declared.key.Key.{Key}
use Rattle.rec_bytes.specs.declared.record.Rec.{Rec}
use Rattle.rec_bytes.specs.Format as format
use Rattle.rec_bytes.specs.Key.{IsKey, key_eq}
use Rattle.rec_bytes.specs.Record.{field, text_in}
use Rattle.rec_bytes.specs.RecordFiles.{room_of}
use Rattle.rec_bytes.specs.Space.{State, after_put, meta_in}
use Rattle.rec_bytes.proofs.KeyLaws.{key_eq-other, key_eq-same}
use Rattle.store_rules.specs.Chains.{In}
use Rattle.store_rules.specs.Properties.{AreBlocks, IsBlock, head_of}
use Rattle.store_rules.specs.PropertyChange.{ChangesFile}
use Rattle.store_rules.specs.Views.{high, is_live, key_in, kind_at, rec_at}
use Rattle.store_rules.proofs.BlockLists.{length-blocks}
use Rattle.store_rules.proofs.PropertyStays.{blocks_stay}
use Rattle.store_rules.proofs.ViewLaws.{kind_below, live_false}
use Rattle.id_freelist.specs.FreeLists.{IsFreeList}
use Rattle.id_freelist.specs.TakeFault.{NotDamaged}
use Rattle.id_freelist.specs.Taking.{CanTake, HasTaken, IsTakeFault, taken}
use Rattle.id_freelist.specs.declared.take_fault.TakeFault.{TakeFault}
use Rattle.id_freelist.specs.declared.take_fault.TakeFault.TheVariants.{Damaged, Disk, Full, Memory}
use Rattle.id_freelist.proofs.ListSteps.{records-taken, shape-taken}
use Rattle.id_freelist.proofs.Splits.{can_take}
use Rattle.prop_store.specs.BlockRecord.{block_record}
use Rattle.prop_store.specs.BlockWriting.{MayFollow, WritesBlock, numbered_piece}
use Rattle.prop_store.specs.FileChange.{HasWritten, IsSameBeside, IsWriteFault, KeepsFile, blocks_for}
use Rattle.prop_store.proofs.BlockRecords.{kind-block_record, next-block_record, size-block_record, text-block_record}
use Rattle.prop_store.proofs.FileSteps.{file_more, file_taken, keeps_file, live_taken}
use Rattle.prop_store.proofs.RecordFits.{Fits-block_record}

-- ---- a record written

module _ (m t : State) (key : Key) (rec : Rec) (is : t ≡ after_put m key rec) where
  pub record-put : t.records key ≡ rec
  record-put = let same : key_eq key key ≡ true = key_eq-same key in ap (λ (z : State). z.records key) is ∙ rw same refl

  pub others-put : (q : Key) → q ≢ key → t.records q ≡ m.records q
  others-put q ne = let other : key_eq q key ≡ false = key_eq-other q key ne in ap (λ (z : State). z.records q) is ∙ rw other refl

module _ (s m t : State) (file id : ℕ) (rec : Rec) (took : m ≡ taken s file) (is : t ≡ after_put m (key_in file id) rec) where
  pub shape_put : t.shape ≡ s.shape
  shape_put = ap (λ (z : State). z.shape) is ∙ ap (λ (z : State). z.shape) took ∙ shape-taken s file

  pub beside_put : IsSameBeside file s.records t.records
  beside_put key out other = others-put m t (key_in file id) rec is key (λ e. out (ap (λ (k : Key). k.file) e)) ∙ ap (λ (z : State). z.records key) took
      ∙ records-taken s file key other

-- ---- why no block was taken

pub cannot_take : (s : State) (fault : TakeFault) → IsTakeFault s format.strings_file fault
    → ((free : List ℕ) → CanTake s format.strings_file free → NotDamaged {T = ℕ} (Err fault)) → KeepsFile s format.strings_file
    → IsWriteFault s format.strings_file 1 fault
cannot_take s (Full full live) is sound keeps = (is.0, let a = is.1 in let b = is.2 in omega arith)
cannot_take s Memory is sound keeps = tt
cannot_take s Disk is sound keeps = tt
cannot_take s (Damaged damage) is sound keeps = sound keeps.free (can_take s format.strings_file keeps.free keeps.meta.high keeps.split)

-- ---- a block written

pub block_written : (s m t : State) (piece : List ℕ) (next id : ℕ) (rec : Rec) → 0 < length piece → length piece ≤ 48 → next < 2 ^ 32
    → rec ≡ block_record piece next
    → ((free : List ℕ) → IsFreeList s.records format.strings_file free → HasTaken s.records m.records format.strings_file id free)
    → id < room_of s.shape format.strings_file → IsKey (key_in format.strings_file id)
    → t ≡ after_put m (key_in format.strings_file id) rec → KeepsFile s format.strings_file → MayFollow s next → WritesBlock s t piece next id
block_written s m t piece next id rec some few small rec_is took room key is keeps follows =
    let here : rec_at t.records format.strings_file id ≡ block_record piece next = record-put m t (key_in format.strings_file id) rec is ∙ rec_is in
    let others = others-put m t (key_in format.strings_file id) rec is in
    let has = took keeps.free keeps.split.walk in
    let used : field 1 (block_record piece next) format.kind ≢ format.free_kind = λ e. let k = kind-block_record piece next few in absurd (omega arith) in
    let right = Fits-block_record (high s.records) piece next some few small follows in
    record {
      low = key.id;
      here = here;
      changes = file_taken s.records m.records t.records s.shape format.strings_file id (block_record piece next) [] [] (inr refl) keeps has room here others
          used right;
      live = live_taken s.records m.records t.records s.shape format.strings_file id (block_record piece next) [] [] (inr refl) keeps has room here others used
          right;
    }

-- ---- the text so far

-- The text stands in new blocks from this first one on, and so many more blocks are live.
pub record StandsFrom (old now : State) (text : List ℕ) (first : ℕ) : Type 0 where
  pub has : HasWritten old now text first
  pub live : (meta_in now.records format.strings_file).live ≡ (meta_in old.records format.strings_file).live + blocks_for (length text)

pub nothing_stands : (s : State) (text : List ℕ) → text ≡ [] → KeepsFile s format.strings_file → StandsFrom s s text format.nil
nothing_stands s text none keeps =
    let n : length text ≡ 0 = ap (λ (xs : List ℕ). length xs) none in
    record {
      has = record { blocks = []; first_is = refl; are = none; once = tt; count = omega arith; changes = keeps };
      live = omega arith;
    }

module _ (old now : State) (rest : List ℕ) (first : ℕ) (same_shape : now.shape ≡ old.shape) (stands : StandsFrom old now rest first) where
  -- the file keeps its rules
  pub keeps_now : KeepsFile now format.strings_file
  keeps_now = subst (λ shape. ChangesFile now.records now.records shape format.strings_file [] []) (sym same_shape)
      (keeps_file old.records now.records old.shape format.strings_file [] stands.has.blocks stands.has.changes)

  -- the first block so far may come after another
  pub may_follow : MayFollow now first
  may_follow = by stands.has.blocks stands.has.first_is stands.has.changes.live
    where
      by : (bs : List ℕ) → first ≡ head_of bs → ((x : ℕ) → In x bs → is_live now.records format.strings_file x ≡ true) → MayFollow now first
      by [] e live = inl e
      by (b ∷ bs) e live = inr (subst (λ x. x < high now.records format.strings_file) (sym e)
          (kind_below (high now.records format.strings_file) (rec_at now.records format.strings_file b) b (λ dead. true≢false (sym (live b (inl refl))
          ∙ live_false (kind_at now.records format.strings_file b) dead))))

  -- and its number fits four bytes
  first_small : first < 2 ^ 32
  first_small = by stands.has.blocks rest stands.has.first_is stands.has.are
    where
      by : (bs text : List ℕ) → first ≡ head_of bs → AreBlocks (rec_at now.records format.strings_file) text bs → first < 2 ^ 32
      by [] text e are = omega arith
      by (b ∷ bs) text e are = let low = are.0.low in omega arith

  -- there is no room for one more, and one more at least is needed
  pub no_room : (needed : ℕ) (fault : TakeFault) → blocks_for (length rest) + 1 ≤ needed → IsWriteFault now format.strings_file 1 fault
      → IsWriteFault old format.strings_file needed fault
  no_room needed (Full full live) more is = (
    is.0,
    let a = is.1 in let l = stands.live in let e : room_of now.shape format.strings_file ≡ room_of old.shape
        format.strings_file = ap (λ z. room_of z format.strings_file) same_shape in omega arith,
  )
  no_room needed Memory more is = tt
  no_room needed Disk more is = tt
  no_room needed (Damaged damage) more is = is

  -- one more block in front of them
  pub one_written : (then : State) (text piece : List ℕ) (id : ℕ) → piece ≡ take 48 text → rest ≡ drop 48 text → 0 < length text
      → WritesBlock now then piece first id → StandsFrom old then text id
  one_written then text piece id piece_is rest_is some w =
      let blocks = stands.has.blocks in
      let string_file = rec_at then.records format.strings_file in
      let changes : ChangesFile now.records then.records old.shape format.strings_file [] (id ∷ []) =
      subst (λ shape. ChangesFile now.records then.records shape format.strings_file [] (id ∷ [])) same_shape w.changes in
      let size : length piece ≡ min 48 (length text) = ap (λ (xs : List ℕ). length xs) piece_is ∙ length-take 48 text in
      let few : length piece ≤ 48 = omega arith in
      let block : IsBlock string_file text id (head_of blocks) = record {
        low = w.low;
        some = some;
        kind = ap (λ r. field 1 r format.kind) w.here ∙ kind-block_record piece first few;
        size = ap (λ r. field 1 r format.block_length) w.here ∙ size-block_record piece first few ∙ size;
        piece = ap (λ r. text_in r format.block_text (min 48 (length text))) w.here ∙ ap (text_in (block_record piece first) format.block_text) (sym size)
            ∙ text-block_record piece first few ∙ piece_is;
        next_is = ap (λ r. field 4 r format.block_next) w.here ∙ next-block_record piece first few first_small ∙ stands.has.first_is;
      } in
      let later : AreBlocks string_file rest blocks = blocks_stay (rec_at now.records format.strings_file) string_file rest blocks
      (λ x i. (changes.kept x (stands.has.changes.live x i) (λ j. j)).1) stands.has.are in
      let are : AreBlocks string_file text (id ∷ blocks) = (block, subst (λ z. AreBlocks string_file z blocks) rest_is later) in
      let left : length rest ≡ length (drop 48 text) = ap (λ (xs : List ℕ). length xs) rest_is in
      record {
        has = record {
          blocks = id ∷ blocks;
          first_is = refl;
          are = are;
          once = ((λ i. ⊎_elim (λ (j : ⊥). j) (λ dead. true≢false (sym (stands.has.changes.live id i) ∙ dead)) (changes.from id (inl refl))), stands.has.once);
          count = length-blocks string_file text (id ∷ blocks) are;
          changes = file_more old.records now.records then.records old.shape format.strings_file [] blocks (id ∷ []) stands.has.changes changes;
        };
        live = let a = stands.live in let b = w.live in omega (arith, length-drop 48 text);
      }

-- ---- the pieces of a text

-- how many blocks it takes, as the code counts them
pub blocks_are : (size count : ℕ) → count ≡ size / 48 + min 1 (size % 48) → count ≡ blocks_for size
blocks_are size count e = omega arith

-- a piece that a block has
pub length-numbered_piece : (number : ℕ) (text : List ℕ) → number < blocks_for (length text) → (0 < length (numbered_piece number text))
    × (length (numbered_piece number text) ≤ 48) × (0 < length (drop (48 * number) text))
length-numbered_piece number text lt =
    let size = length-drop (48 * number) text in
    let few = length-take 48 (drop (48 * number) text) in
    (omega arith, omega arith, omega arith)

-- what is left after it
pub drop-piece : (number more : ℕ) (text : List ℕ) → more ≡ number + 1 → drop (48 * more) text ≡ drop 48 (drop (48 * number) text)
drop-piece number more text e = let n : 48 * number + 48 ≡ 48 * more = omega arith in sym (drop-drop 48 (48 * number) text ∙ ap (λ k. drop k text) n)
