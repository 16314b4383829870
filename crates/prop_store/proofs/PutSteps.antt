-- A property's record and blocks that are written, and why they are not.
use Rattle.std.specs.Prelude.{Err, nat_le}
use Rattle.std.proofs.Common.{◌≡◌, ◌≢◌, ℕ, ◌+◌, ◌/◌, ◌<◌, ◌≤◌, ◌^◌, Bool, true, false, cond, Some, List, [], ◌∷◌}
use Rattle.std.proofs.Common.{length, sym, ap, ◌∙◌, subst, inl, inr, ⊎_elim, arith, refl}
use Rattle.plain_graph.specs.Forms.{IsKept}
use Rattle.plain_graph.specs.Properties as plain
use Rattle.plain_graph.specs.declared.value.Value.{Value}
use Rattle.plain_graph.specs.declared.value.Value.TheVariants as values
use Rattle.rec_bytes.specs.declared.key.Key.{Key}
use Rattle.rec_bytes.specs.declared.record.Rec.{Rec}
use Rattle.rec_bytes.specs.declared.shape.Shape.{Shape}
use Rattle.rec_bytes.specs.declared.space.SpaceFault.{SpaceFault}
use Rattle.rec_bytes.specs.declared.space.SpaceFault.TheVariants as spaces
use Rattle.rec_bytes.specs.Format as format
use Rattle.rec_bytes.specs.Key.{IsKey}
use Rattle.rec_bytes.specs.Meta as metas
use Rattle.rec_bytes.specs.Record.{field}
use Rattle.rec_bytes.specs.RecordFiles.{meta_key_of, room_of}
use Rattle.rec_bytes.specs.Space.{SameButReads, State, after_put, meta_of}
use Rattle.store_rules.specs.Chains.{In}
use Rattle.store_rules.specs.Properties.{AreBlocks, AreOnce, IsProperty, Property, content_for, content_of, head_of, long_text, property_records}
use Rattle.store_rules.specs.PropertyChange.{ChangesFile}
use Rattle.store_rules.specs.Ranges.{Fits}
use Rattle.store_rules.specs.Views.{Records, high, is_live, key_in, rec_at}
use Rattle.store_rules.proofs.LinkFits.{IsLow}
use Rattle.store_rules.proofs.MetaLaws.{not_meta_key}
use Rattle.store_rules.proofs.PropertyStays.{blocks_stay}
use Rattle.id_freelist.specs.FreeLists.{IsFreeList}
use Rattle.id_freelist.specs.TakeFault as takes
use Rattle.id_freelist.specs.Taking.{CanTake, HasTaken, IsTakeFault, taken}
use Rattle.id_freelist.specs.declared.take_fault.TakeFault.{TakeFault}
use Rattle.id_freelist.specs.declared.take_fault.TakeFault.TheVariants.{Damaged, Disk, Full, Memory}
use Rattle.id_freelist.proofs.Splits.{can_take}
use Rattle.prop_store.specs.Dropping.{ChangesRecords, IsHeld}
use Rattle.rec_bytes.specs.Fault.{NotDamaged}
use Rattle.prop_store.specs.FileChange.{HasFewer, HasWritten, IsSameBeside, IsWriteFault, KeepsFile, blocks_for}
use Rattle.prop_store.specs.PropertyRecord.{property_record}
use Rattle.prop_store.specs.SetFault.{of_fault, of_space, of_take}
use Rattle.prop_store.specs.Setting.{IsPutFault, MayLead, PutsProperty}
use Rattle.rec_bytes.specs.declared.fault.Fault.{Fault}
use Rattle.rec_bytes.specs.declared.fault.Fault.TheVariants as faults
use Rattle.prop_store.specs.declared.property_row.PropertyRow.{PropertyRow}
use Rattle.prop_store.proofs.BlockSteps.{beside_put, others-put, record-put}
use Rattle.prop_store.proofs.DropSteps.{blocks_released, live_low}
use Rattle.prop_store.proofs.FileMoves.{Replaces, rewritten}
use Rattle.prop_store.proofs.FileSteps.{file_now, file_taken, keeps_file}
use Rattle.prop_store.proofs.PropertyRecords.{content_of-property_record, key-property_record, next-property_record, used-content}
use Rattle.prop_store.proofs.RecordFits.{Fits-property_record}
use Rattle.prop_store.proofs.RecordMoves.{meta_beside, properties_moved, records_then, strings_moved}

-- all of a list have others in their place
all_replaced : (a b : List ℕ) → Replaces a a b b
all_replaced a b = record { there = λ x i. i; from = λ x i. inl i; placed = λ x i. i; kept = λ x i out. absurd (out i) }

-- one change after the other, of the same records
records_both : (s m t : Records) (shape : Shape) (ids mid new blocks mid_blocks new_blocks : List ℕ) → ChangesRecords s m shape ids mid blocks mid_blocks
    → ChangesRecords m t shape mid new mid_blocks new_blocks → ChangesRecords s t shape ids new blocks new_blocks
records_both s m t shape ids mid new blocks mid_blocks new_blocks h k =
    records_then s m t shape ids mid new blocks mid_blocks new_blocks mid new mid_blocks new_blocks (all_replaced mid new) (all_replaced mid_blocks new_blocks)
    h k

-- the blocks that a value needs
pub blocks_needed : (value : Value) (text : List ℕ) → text ≡ long_text value → blocks_for (length text) ≡ plain.blocks_of value
blocks_needed value text is = ap (λ (xs : List ℕ). blocks_for (length xs)) is ∙ by_value value
  where
    by : (text : List ℕ) (b : Bool) → blocks_for (length (cond b [] text)) ≡ cond b 0 ((length text + 47) / 48)
    by text true = refl
    by text false = refl

    by_value : (value : Value) → blocks_for (length (long_text value)) ≡ plain.blocks_of value
    by_value (values.Int n) = refl
    by_value (values.Bool b) = refl
    by_value (values.Text text) = by text (nat_le (length text) 40)

-- ---- what is written

-- A text stands in blocks, and the record names the first of them.
module _ (m d : State) (text : List ℕ) (first key next : ℕ) (value : Value) (rec : Rec) (kept : IsKept value) (key_small : key < 2 ^ 32) (small : next < 2 ^ 32)
    (text_is : text ≡ long_text value) (rec_is : rec ≡ property_record key value first next) (w : HasWritten m d text first) where
  first_small : first < 2 ^ 32
  first_small = by w.blocks text w.first_is w.are
    where
      by : (bs text : List ℕ) → first ≡ head_of bs → AreBlocks (rec_at d.records format.strings_file) text bs → first < 2 ^ 32
      by [] text e are = omega arith
      by (b ∷ bs) text e are = let low = are.0.low in omega arith

  first_low : IsLow (high d.records format.strings_file) first
  first_low = by w.blocks w.first_is w.changes.live
    where
      by : (bs : List ℕ) → first ≡ head_of bs → ((x : ℕ) → In x bs → is_live d.records format.strings_file x ≡ true)
          → IsLow (high d.records format.strings_file) first
      by [] e live = inl e
      by (b ∷ bs) e live = inr (subst (λ x. x < high d.records format.strings_file) (sym e) (live_low d.records format.strings_file b (live b (inl refl))))

  content : content_of rec ≡ Some (content_for value (head_of w.blocks))
  content = ap content_of rec_is ∙ content_of-property_record key first next value kept first_small ∙ ap (λ f. Some (content_for value f)) w.first_is

  used : field 1 rec format.kind ≢ format.free_kind
  used = used-content rec (content_for value (head_of w.blocks)) content

  right : IsLow (high d.records format.properties_file) next → Fits (high d.records) format.properties_file rec
  right low = subst (Fits (high d.records) format.properties_file) (sym rec_is)
      (Fits-property_record (high d.records) key first next value kept first_small small first_low low)

  -- so it is a property's
  written_property : (t : State) (id : ℕ) → id < format.most_ids → rec_at t.records format.properties_file id ≡ rec
      → ((b : ℕ) → rec_at t.records format.strings_file b ≡ rec_at d.records format.strings_file b)
      → IsProperty (property_records t.records) (record { id = id; key = key; value = value; blocks = w.blocks }) next
  written_property t id low here strings = record {
    low = low;
    content = ap content_of here ∙ content;
    key = ap (λ r. field 4 r format.property_key) (here ∙ rec_is) ∙ key-property_record key first next value key_small;
    next_is = ap (λ r. field 4 r format.property_next) (here ∙ rec_is) ∙ next-property_record key first next value small;
    kept = kept;
    blocks = blocks_stay (rec_at d.records format.strings_file) (rec_at t.records format.strings_file) (long_text value) w.blocks (λ b i. strings b)
        (subst (λ (xs : List ℕ). AreBlocks (rec_at d.records format.strings_file) xs w.blocks) text_is w.are);
  }

-- a text written leaves the file of properties its rules
text_written : (s a : State) (text : List ℕ) (first : ℕ) (ids : List ℕ) → ChangesFile s.records s.records s.shape format.properties_file ids ids
    → IsSameBeside format.strings_file s.records a.records → (w : HasWritten s a text first) → ChangesRecords s.records a.records s.shape ids ids [] w.blocks
text_written s a text first ids keeps beside w = strings_moved s.records a.records s.shape ids [] w.blocks keeps beside w.changes

-- a mark that doesn't fall leaves what is below it
low_more : (was now next : ℕ) → was ≤ now → IsLow was next → IsLow now next
low_more was now next le low = ⊎_elim (λ e. inl e) (λ (lt : next < was). inr (omega arith)) low

-- A new property is put.
pub property_put : (s a b t : State) (text : List ℕ) (first id key next : ℕ) (value : Value) (rec : Rec) → IsKept value → key < 2 ^ 32 → next < 2 ^ 32
    → text ≡ long_text value → rec ≡ property_record key value first next
    → HasWritten s a text first → IsSameBeside format.strings_file s.records a.records → a.shape ≡ s.shape
    → ((free : List ℕ) → IsFreeList a.records format.properties_file free → HasTaken a.records b.records format.properties_file id free)
    → id < room_of a.shape format.properties_file → IsKey (key_in format.properties_file id) → b ≡ taken a format.properties_file
    → t ≡ after_put b (key_in format.properties_file id) rec → KeepsFile s format.properties_file → MayLead s next → PutsProperty s t [] [] id key value next
property_put s a b t text first id key next value rec kept key_small small text_is rec_is w beside shape took room is_key taken_is put_is keeps may =
    let one = text_written s a text first [] keeps beside w in
    let keeps_now : ChangesFile a.records a.records s.shape format.properties_file [] [] =
    keeps_file s.records a.records s.shape format.properties_file [] [] one.properties in
    let here = record-put b t (key_in format.properties_file id) rec put_is in
    let others = others-put b t (key_in format.properties_file id) rec put_is in
    let out = beside_put a b t format.properties_file id rec taken_is put_is in
    let taken_one = file_taken a.records b.records t.records s.shape format.properties_file id rec [] [] (inl refl) keeps_now
    (took keeps_now.free keeps_now.split.walk) (subst (λ z. id < room_of z format.properties_file) shape room) here others
    (used s a text first key next value rec kept key_small small text_is rec_is w)
    (right s a text first key next value rec kept key_small small text_is rec_is w (low_more (high s.records format.properties_file)
    (high a.records format.properties_file) next one.properties.grows may)) in
    let two = properties_moved a.records t.records s.shape [] (id ∷ []) w.blocks
    (file_now s.records a.records s.shape format.strings_file [] w.blocks w.changes w.blocks w.changes.live) out taken_one in
    record {
      blocks = w.blocks;
      once = w.once;
      changes = records_both s.records a.records t.records s.shape [] [] (id ∷ []) [] w.blocks w.blocks one two;
      is = written_property s a text first key next value rec kept key_small small text_is rec_is w t id is_key.id here
          (λ x. out (key_in format.strings_file x) (λ e. absurd (omega arith)) (λ e. absurd (omega (arith, ap (λ (k : Key). k.file) e))));
    }

-- A property in use is put again, after its blocks were given back.
pub property_put_again : (s a b d t : State) (row : PropertyRow) (e : Property) (ids text : List ℕ) (first key next : ℕ) (value : Value) (rec : Rec)
    → IsKept value → key < 2 ^ 32 → next < 2 ^ 32 → text ≡ long_text value → rec ≡ property_record key value first next
    → IsHeld s row e → row.id < format.most_ids → ChangesRecords s.records b.records s.shape (e.id ∷ []) (e.id ∷ []) e.blocks [] → b.shape ≡ s.shape
    → (KeepsFile b format.strings_file → HasWritten b d text first) → IsSameBeside format.strings_file b.records d.records
    → t ≡ after_put d (key_in format.properties_file row.id) rec → MayLead s next → PutsProperty s t (e.id ∷ []) e.blocks e.id key value next
property_put_again s a b d t row e ids text first key next value rec kept key_small small text_is rec_is held low one shape writes beside put_at may =
    let put_is : t ≡ after_put d (key_in format.properties_file e.id) rec =
    subst (λ (z : ℕ). t ≡ after_put d (key_in format.properties_file z) rec) held.id_is put_at in
    let keeps_b : KeepsFile b format.strings_file = subst (λ z. ChangesFile b.records b.records z format.strings_file [] []) (sym shape)
    (keeps_file s.records b.records s.shape format.strings_file e.blocks [] one.strings) in
    let w = writes keeps_b in
    let blocks_now : ChangesFile b.records d.records s.shape format.strings_file [] w.blocks =
    subst (λ z. ChangesFile b.records d.records z format.strings_file [] w.blocks) shape w.changes in
    let two : ChangesRecords b.records d.records s.shape (e.id ∷ []) (e.id ∷ []) [] w.blocks = strings_moved b.records d.records s.shape (e.id ∷ []) [] w.blocks
    (file_now s.records b.records s.shape format.properties_file (e.id ∷ []) (e.id ∷ []) one.properties (e.id ∷ []) one.properties.live) beside blocks_now in
    let here = record-put d t (key_in format.properties_file e.id) rec put_is in
    let others = others-put d t (key_in format.properties_file e.id) rec put_is in
    let meta : (f : ℕ) → t.records (meta_key_of f) ≡ d.records (meta_key_of f) = λ f.
    others (meta_key_of f) (λ q. not_meta_key format.properties_file e.id f refl (sym q)) in
    let marks : (f : ℕ) → high t.records f ≡ high d.records f = λ f. ap (λ r. (metas.meta_of r).high) (meta f) in
    let out : IsSameBeside format.properties_file d.records t.records = λ q ne other. others q (λ k. ne (ap (λ (z : Key). z.file) k)) in
    let grows : high s.records format.properties_file ≤ high d.records format.properties_file = let x = one.properties.grows in let y = two.properties.grows in
    omega arith in
    let fits = right b d text first key next value rec kept key_small small text_is rec_is w
    (low_more (high s.records format.properties_file) (high d.records format.properties_file) next grows may) in
    let anew = rewritten s.shape format.properties_file d.records t.records e.id
    (file_now b.records d.records s.shape format.properties_file (e.id ∷ []) (e.id ∷ []) two.properties (e.id ∷ []) two.properties.live)
    (meta format.properties_file)
    (λ x ne. others (key_in format.properties_file x) (λ k. ne (ap (λ (z : Key). z.id) k)))
    (λ k. used b d text first key next value rec kept key_small small text_is rec_is w (ap (λ r. field 1 r format.kind) (sym here) ∙ k))
    (subst (λ (marks : ℕ → ℕ). Fits marks format.properties_file (rec_at t.records format.properties_file e.id)) (λ i f. sym (marks f) i)
    (subst (Fits (high d.records) format.properties_file) (sym here) fits))
    (λ f. let q = marks f in omega arith) in
    let three = properties_moved d.records t.records s.shape (e.id ∷ []) (e.id ∷ []) w.blocks
    (file_now b.records d.records s.shape format.strings_file [] w.blocks blocks_now w.blocks blocks_now.live) out anew in
    record {
      blocks = w.blocks;
      once = w.once;
      changes = records_both s.records d.records t.records s.shape (e.id ∷ []) (e.id ∷ []) (e.id ∷ []) e.blocks w.blocks w.blocks
          (records_both s.records b.records d.records s.shape (e.id ∷ []) (e.id ∷ []) (e.id ∷ []) e.blocks [] w.blocks one two) three;
      is = written_property b d text first key next value rec kept key_small small text_is rec_is w t e.id (subst (λ z. z < format.most_ids) held.id_is low)
          here (λ x. out (key_in format.strings_file x) (λ k. absurd (omega arith)) (λ k. absurd (omega (arith, ap (λ (z : Key). z.file) k))));
    }

-- ---- why it is not

pub space_put_fault : (s : State) (gone needed : ℕ) (fault : SpaceFault) → IsPutFault s gone needed (of_space fault)
space_put_fault s gone needed spaces.Memory = tt
space_put_fault s gone needed spaces.Disk = tt

pub read_put_fault : (s : State) (gone needed : ℕ) (fault : Fault) → NotDamaged {T = ℕ} (Err fault) → IsPutFault s gone needed (of_fault fault)
read_put_fault s gone needed faults.Memory sound = tt
read_put_fault s gone needed faults.Disk sound = tt
read_put_fault s gone needed (faults.Damaged damage) sound = sound

-- no identifier of a property is taken
pub take_put_fault : (s a : State) (text : List ℕ) (first needed : ℕ) (fault : TakeFault) → HasWritten s a text first
    → IsSameBeside format.strings_file s.records a.records → a.shape ≡ s.shape → IsTakeFault a format.properties_file fault
    → ((free : List ℕ) → CanTake a format.properties_file free → takes.NotDamaged {T = ℕ} (Err fault)) → KeepsFile s format.properties_file
    → (meta_of s format.properties_file).live ≢ room_of s.shape format.properties_file → IsPutFault s 0 needed (of_take fault)
take_put_fault s a text first needed (Full full live) w beside shape is sound keeps room =
    let same : (meta_of a format.properties_file).live ≡ (meta_of s format.properties_file).live =
    ap (λ r. (metas.meta_of r).live) (meta_beside s.records a.records format.strings_file format.properties_file (inr refl) (inl refl)
    (λ e. absurd (omega arith)) beside) in
    absurd (room (sym same ∙ sym is.1 ∙ is.2 ∙ ap (λ z. room_of z format.properties_file) shape))
take_put_fault s a text first needed Memory w beside shape is sound keeps room = tt
take_put_fault s a text first needed Disk w beside shape is sound keeps room = tt
take_put_fault s a text first needed (Damaged damage) w beside shape is sound keeps room =
    let now = keeps_file s.records a.records s.shape format.properties_file [] [] (text_written s a text first [] keeps beside w).properties in
    sound now.free (can_take a format.properties_file now.free (subst (λ z. high a.records format.properties_file ≤ room_of z format.properties_file)
    (sym shape) now.meta.high) now.split)

-- there is no room for the blocks, where others were given back
pub text_put_fault : (s b : State) (gone count needed : ℕ) (fault : TakeFault) → b.shape ≡ s.shape
    → (meta_of b format.strings_file).live + gone ≡ (meta_of s format.strings_file).live → count ≡ needed → IsWriteFault b format.strings_file count fault
    → IsPutFault s gone needed (of_take fault)
text_put_fault s b gone count needed (Full full live) shape fewer e is = (
  is.0,
  let a = is.1 in let r : room_of b.shape format.strings_file ≡ room_of s.shape format.strings_file = ap (λ z. room_of z format.strings_file)
      shape in omega arith,
)
text_put_fault s b gone count needed Memory shape fewer e is = tt
text_put_fault s b gone count needed Disk shape fewer e is = tt
text_put_fault s b gone count needed (Damaged damage) shape fewer e is = is

-- ---- put again, where its blocks were given back

module _ (s a b : State) (row : PropertyRow) (e : Property) (ids : List ℕ) (held : IsHeld s row e) (same : SameButReads s a) (ids_are : ids ≡ e.blocks)
    (released : AreOnce ids → ChangesFile a.records a.records a.shape format.strings_file ids ids → ChangesFile a.records b.records a.shape format.strings_file
    ids [] × HasFewer a b format.strings_file (length ids))
    (gave : IsSameBeside format.strings_file a.records b.records) (b_shape : b.shape ≡ a.shape) where
  shape_back : b.shape ≡ s.shape
  shape_back = b_shape ∙ ap (λ (z : State). z.shape) same

  given_back : ChangesRecords s.records b.records s.shape (e.id ∷ []) (e.id ∷ []) e.blocks []
  given_back = blocks_released s a b (e.id ∷ []) ids e.blocks same ids_are held.once held.properties held.strings released gave

  fewer_now : (meta_of b format.strings_file).live + length e.blocks ≡ (meta_of s format.strings_file).live
  fewer_now = by same ids_are
    where
      by : SameButReads s a → ids ≡ e.blocks → (meta_of b format.strings_file).live + length e.blocks ≡ (meta_of s format.strings_file).live
      by same ids_are = (subst (λ (z : State). AreOnce e.blocks → ChangesFile z.records z.records z.shape format.strings_file e.blocks e.blocks → HasFewer z b
          format.strings_file (length e.blocks)) same
          (subst (λ (bs : List ℕ). AreOnce bs → ChangesFile a.records a.records a.shape format.strings_file bs bs → HasFewer a b format.strings_file
          (length bs)) ids_are (λ o h. (released o h).1))) held.once held.strings

  keeps_back : KeepsFile b format.strings_file
  keeps_back = subst (λ z. ChangesFile b.records b.records z format.strings_file [] []) (sym shape_back)
      (keeps_file s.records b.records s.shape format.strings_file e.blocks [] given_back.strings)

  pub again_text_fault : (value : Value) (text : List ℕ) → text ≡ long_text value → (fault : TakeFault)
      → (KeepsFile b format.strings_file → IsWriteFault b format.strings_file (blocks_for (length text)) fault)
      → IsPutFault s (length e.blocks) (plain.blocks_of value) (of_take fault)
  again_text_fault value text text_is fault refused = text_put_fault s b (length e.blocks) (blocks_for (length text)) (plain.blocks_of value) fault shape_back
      fewer_now (blocks_needed value text text_is) (refused keeps_back)

  pub again_put : (d t : State) (text : List ℕ) (first key next key_in_row next_in_row : ℕ) (value : Value) (rec : Rec) → key ≡ key_in_row → next ≡ next_in_row
      → IsKept value → key < 2 ^ 32 → next < 2 ^ 32 → text ≡ long_text value → rec ≡ property_record key value first next
      → row.id < format.most_ids → (KeepsFile b format.strings_file → HasWritten b d text first) → IsSameBeside format.strings_file b.records d.records
      → t ≡ after_put d (key_in format.properties_file row.id) rec → MayLead s next_in_row
      → PutsProperty s t (e.id ∷ []) e.blocks e.id key_in_row value next_in_row
  again_put d t text first key next key_in_row next_in_row value rec key_is next_is kept key_small small text_is rec_is low writes beside put_at may =
      subst (λ k. PutsProperty s t (e.id ∷ []) e.blocks e.id k value next_in_row) key_is
      (subst (λ n. PutsProperty s t (e.id ∷ []) e.blocks e.id key value n) next_is
      (property_put_again s a b d t row e ids text first key next value rec kept key_small small text_is rec_is held low given_back shape_back writes beside
      put_at (subst (MayLead s) (sym next_is) may)))
