-- A key of an element that is given a value: what the element's properties are then, and why they are not.
use Rattle.std.proofs.Common.{◌≡◌, ◌≢◌, ◌⊎◌, ℕ, ◌<◌, ◌≤◌, true, Some, None, Err, List, [], ◌∷◌, ◌++◌, length, sym, ap}
use Rattle.std.proofs.Common.{◌∙◌, subst, inl, inr, ⊎_elim, append-nil, length-append, arith, refl}
use Rattle.std.proofs.lemmas.Bool.{true≢false}
use Rattle.plain_graph.specs.Properties as plain
use Rattle.plain_graph.specs.declared.value.Value.{Value}
use Rattle.rec_bytes.specs.Format as format
use Rattle.rec_bytes.specs.RecordFiles.{room_of}
use Rattle.rec_bytes.specs.Space.{SameButReads, State, after_set, meta_of}
use Rattle.store_rules.specs.Chains.{In}
use Rattle.store_rules.specs.Properties.{AreOnce, AreProperties, IsProperty, Property, PropertyRecords, blocks_of}
use Rattle.store_rules.specs.Properties.{first_property, ids_of, keys_of, property_records}
use Rattle.store_rules.specs.Views.{high, is_live, rec_at}
use Rattle.store_rules.proofs.Counts.{length-ids}
use Rattle.store_rules.proofs.PropertyStays.{linked_stay, properties_stay}
use Rattle.prop_store.specs.Alone.{HasRoomForOne, IsSetRefusalAlone, LacksKey, MayHaveKey, OwnsProperties, SetsAlone, blocks_at_key, blocks_held}
use Rattle.prop_store.specs.Dropping.{ChangesRecords}
use Rattle.prop_store.specs.FileChange.{KeepsFile}
use Rattle.rec_bytes.specs.Fault.{NotDamaged}
use Rattle.prop_store.specs.Finding.{property_of}
use Rattle.prop_store.specs.Owner.{IsOwner, first_of}
use Rattle.prop_store.specs.SetFault.{of_fault}
use Rattle.rec_bytes.specs.declared.fault.Fault.{Fault}
use Rattle.rec_bytes.specs.declared.fault.Fault.TheVariants as faults
use Rattle.prop_store.specs.Setting.{IsPutFault, MayLead, PutsProperty}
use Rattle.prop_store.specs.declared.owner.Owner.{Owner}
use Rattle.prop_store.specs.declared.set_fault.SetFault.{SetFault}
use Rattle.prop_store.specs.declared.set_fault.SetFault.TheVariants.{Damaged, Disk, Full, Memory, PropsFull}
use Rattle.prop_store.proofs.DropSteps.{live_low}
use Rattle.prop_store.proofs.ElementChanges.{first_kept, first_set, list_changed}
use Rattle.prop_store.proofs.ElementParts.{are_parts, block_in_use, id_live, other_blocks_kept, other_kept, replaced_records}
use Rattle.prop_store.proofs.FileMoves.{middle}
use Rattle.prop_store.proofs.FileSteps.{keeps_file}
use Rattle.prop_store.proofs.Keys.{no_key}
use Rattle.prop_store.proofs.LinkChanges.{blocks_apart, not_its_block}
use Rattle.prop_store.proofs.ListLaws.{in_either, in_left, in_right, once_join, once_split}
use Rattle.prop_store.proofs.PropertyParts.{blocks_parts, first_same, ids_parts, keys_parts, linked_after, linked_before}
use Rattle.prop_store.proofs.RecordMoves.{records_then}

-- a first property in use may be led to
leads_to : (s : State) (fs : List Property) (first : ℕ) → first ≡ first_property fs
    → ((x : ℕ) → In x (ids_of fs) → is_live s.records format.properties_file x ≡ true) → MayLead s first
leads_to s [] first e live = inl e
leads_to s (f ∷ fs) first e live = inr (subst (λ z. z < high s.records format.properties_file) (sym e) (live_low s.records format.properties_file f.id
    (live f.id (inl refl))))

module _ (s : State) (owner : Owner) (es : List Property) (owns : OwnsProperties s owner es) where
  -- the files keep their rules, and the first property may follow
  pub keeps_properties : KeepsFile s format.properties_file
  keeps_properties = keeps_file s.records s.records s.shape format.properties_file (ids_of es) (ids_of es) owns.held.properties

  pub keeps_strings : KeepsFile s format.strings_file
  keeps_strings = keeps_file s.records s.records s.shape format.strings_file (blocks_of es) (blocks_of es) owns.held.strings

  pub first_leads : MayLead s (first_of s.records owner)
  first_leads = leads_to s es (first_of s.records owner) owns.held.are.first_is owns.held.properties.live

  -- what comes after one of its properties may come after it again
  pub next_leads : (z : State) → SameButReads s z → (front : List Property) (e : Property) (back : List Property) → es ≡ front ++ e ∷ back → (next : ℕ)
      → next ≡ first_property back → MayLead z next
  next_leads z same front e back all next next_is = subst (λ (y : State). MayLead y next) (sym same)
      (leads_to s back next next_is (λ x i. id_live s owner es owns front e back all x (in_right x (ids_of front) ((e.id ∷ []) ++ ids_of back)
      (in_right x (e.id ∷ []) (ids_of back) i))))

  -- ---- why a value is not set

  -- no more properties are live than their file has room for
  live_within : (meta_of s format.properties_file).live ≤ room_of s.shape format.properties_file
  live_within =
      let count = owns.held.properties.split.exact in
      let most = length-ids (is_live s.records format.properties_file) (high s.records format.properties_file) in
      let top = owns.held.properties.meta.high in
      omega arith

  module _ (key : ℕ) (value : Value) where
    -- there is no room for the property
    pub no_property : (live : ℕ) → LacksKey es key → length es < 32 → (meta_of s format.properties_file).live ≡ room_of s.shape format.properties_file
        → IsSetRefusalAlone s es key value (Full format.properties_file live)
    no_property live absent few full = inl (refl, absent, few, (λ (room : HasRoomForOne s). absurd (omega arith)))

    -- or none for its blocks
    no_blocks : (gone : ℕ) (fault : SetFault) → MayHaveKey s es key → gone ≡ blocks_at_key es key → IsPutFault s gone (plain.blocks_of value) fault
        → IsSetRefusalAlone s es key value fault
    no_blocks gone (Full file live) may same put = inr (put.0, may, (let a = put.1 in omega arith))
    no_blocks gone Memory may same is = tt
    no_blocks gone Disk may same is = tt
    no_blocks gone (PropsFull count) may same is = absurd is
    no_blocks gone (Damaged damage) may same is = is

    pub no_new_blocks : (fault : SetFault) → LacksKey es key → length es < 32 → (meta_of s format.properties_file).live ≢ room_of s.shape format.properties_file
        → IsPutFault s 0 (plain.blocks_of value) fault → IsSetRefusalAlone s es key value fault
    no_new_blocks fault absent few room put = let most = live_within in no_blocks 0 fault (λ lacks. (few, omega arith)) (sym (ap blocks_held absent)) put

    pub no_other_blocks : (e : Property) (fault : SetFault) → property_of es key ≡ Some e → IsPutFault s (length e.blocks) (plain.blocks_of value) fault
        → IsSetRefusalAlone s es key value fault
    no_other_blocks e fault found put = no_blocks (length e.blocks) fault (λ lacks. absurd (both e (sym lacks ∙ found))) (sym (ap blocks_held found)) put
      where
        both : (e : Property) → None ≡ Some e → ⊥
        both e same = cc

  -- ---- one more

  module _ (is : IsOwner owner) (m t : State) (key : ℕ) (value : Value) (id next : ℕ) (known : key < high s.records format.names_file)
      (absent : LacksKey es key) (more : length es < 32) (next_is : next ≡ first_of s.records owner)
      (puts : PutsProperty s m [] [] id key value next) (set : t ≡ after_set m owner.key 4 owner.field id) where
    abbrev added : Property
    added = record { id = id; key = key; value = value; blocks = puts.blocks }

    added_changes : ChangesRecords s.records m.records s.shape (ids_of es) (ids_of (added ∷ es)) (blocks_of es) (blocks_of (added ∷ es))
    added_changes = records_then s.records s.records m.records s.shape (ids_of es) (ids_of es) (id ∷ ids_of es) (blocks_of es) (blocks_of es)
        (puts.blocks ++ blocks_of es) [] (id ∷ []) [] puts.blocks
        (middle [] [] (id ∷ []) (ids_of es) owns.held.are.ids_once) (middle [] [] puts.blocks (blocks_of es) owns.held.are.blocks_once)
        (record { properties = owns.held.properties; strings = owns.held.strings; others = λ q a b c d. refl }) puts.changes

    added_are : AreProperties (property_records m.records) id (added ∷ es)
    added_are = record {
      first_is = refl;
      linked = (
        subst (IsProperty (property_records m.records) added) (next_is ∙ owns.held.are.first_is) puts.is,
        (properties_stay (property_records s.records) (property_records m.records) (first_of s.records owner) es
            (λ p i. (puts.changes.properties.kept p (owns.held.properties.live p i) (λ j. j)).1)
            (λ b i. (puts.changes.strings.kept b (owns.held.strings.live b i) (λ j. j)).1) owns.held.are).linked,
      );
      few = omega arith;
      ids_once = (
        (λ i. ⊎_elim (λ (j : ⊥). j) (λ dead. true≢false (sym (owns.held.properties.live id i) ∙ dead)) (puts.changes.properties.from id (inl refl))),
        owns.held.are.ids_once,
      );
      blocks_once = once_join puts.blocks (blocks_of es) puts.once owns.held.are.blocks_once
          (λ x i j. ⊎_elim (λ (k : ⊥). k) (λ dead. true≢false (sym (owns.held.strings.live x j) ∙ dead)) (puts.changes.strings.from x i));
      keys_once = (no_key es key absent, owns.held.are.keys_once);
    }

    pub value_added : SetsAlone s t owner es key value 0
    value_added =
        let low : id < high m.records format.properties_file = live_low m.records format.properties_file id (puts.changes.properties.live id (inl refl)) in
        let small = puts.is.low in
        let first = first_set s owner es owns is m (added ∷ es) added_changes t id set (omega arith) (inr low) in
        record {
          after = added ∷ es;
          changes = list_changed s owner es owns is m (added ∷ es) added_changes t first added_are
              (λ k i. ⊎_elim (λ (e : k ≡ key). subst (λ z. z < high s.records format.names_file) (sym e) known) (λ j. owns.known k j) i);
          property = added;
          key_is = refl;
          value_is = refl;
          place = inl (record { lacked = absent; all = refl; released_is = refl });
        }

  -- ---- another value

  module _ (front : List Property) (e : Property) (back : List Property) (all : es ≡ front ++ e ∷ back) where
    abbrev first : ℕ
    first = first_of s.records owner

    abbrev parts : AreProperties (property_records s.records) first (front ++ e ∷ back)
    parts = are_parts s owner es owns front e back all

    module _ (is : IsOwner owner) (key : ℕ) (key_is : e.key ≡ key) (m : State) (value : Value) (next : ℕ) (next_is : next ≡ first_property back)
        (puts : PutsProperty s m (e.id ∷ []) e.blocks e.id key value next) where
      abbrev now : Property
      now = record { id = e.id; key = key; value = value; blocks = puts.blocks }

      abbrev new : List Property
      new = front ++ now ∷ back

      abbrev was_records : PropertyRecords
      was_records = property_records s.records

      abbrev now_records : PropertyRecords
      now_records = property_records m.records

      now_changes : ChangesRecords s.records m.records s.shape (ids_of es) (ids_of new) (blocks_of es) (blocks_of new)
      now_changes = replaced_records s owner es owns front e back all m.records (now ∷ [])
          (subst (λ bs. ChangesRecords s.records m.records s.shape (e.id ∷ []) (e.id ∷ []) e.blocks bs) (sym (append-nil puts.blocks)) puts.changes)

      same_record : (x : ℕ) → In x (ids_of front) ⊎ In x (ids_of back) → rec_at m.records format.properties_file x ≡ rec_at s.records format.properties_file x
      same_record x i = (other_kept s owner es owns front e back all m.records (e.id ∷ []) puts.changes.properties x i).1

      same_block : (x : ℕ) → In x (blocks_of front) ⊎ In x (blocks_of back) → rec_at m.records format.strings_file x ≡ rec_at s.records format.strings_file x
      same_block x i = (other_blocks_kept s owner es owns front e back all m.records puts.blocks puts.changes.strings x i).1

      -- the new blocks are none of the others'
      fresh_block : (x : ℕ) → In x puts.blocks → In x (blocks_of front) ⊎ In x (blocks_of back) → ⊥
      fresh_block x j i = ⊎_elim (λ old. not_its_block was_records was_records first front e back parts x i old)
          (λ dead. true≢false (sym (block_in_use s owner es owns front e back all x (⊎_elim (λ f. in_left x (blocks_of front) (e.blocks ++ blocks_of back) f)
          (λ b. in_right x (blocks_of front) (e.blocks ++ blocks_of back) (in_right x e.blocks (blocks_of back) b)) i)) ∙ dead))
          (puts.changes.strings.from x j)

      keys_same : keys_of (front ++ e ∷ back) ≡ keys_of new
      keys_same = keys_parts front e back ∙ ap (λ k. keys_of front ++ ((k ∷ []) ++ keys_of back)) key_is ∙ sym (keys_parts front now back)

      now_are : AreProperties now_records (first_property new) new
      now_are =
          let outer = once_split (blocks_of front) (e.blocks ++ blocks_of back) (blocks_apart was_records was_records first front e back parts) in
          let inner = once_split e.blocks (blocks_of back) outer.right in
          record {
            first_is = refl;
            linked = linked_before was_records now_records front (e ∷ back) (now ∷ back) refl (λ p i. same_record p (inl i)) (λ b i. same_block b (inl i))
                parts.linked (
                  subst (IsProperty now_records now) next_is puts.is,
                  linked_stay was_records now_records back (λ p i. same_record p (inr i))
                      (λ b i. same_block b (inr i)) (linked_after was_records front (e ∷ back) parts.linked).1,
                );
            few = let a = length-append front (now ∷ back) in let b = length-append front (e ∷ back) in let c = parts.few in omega arith;
            ids_once = subst AreOnce (ids_parts front e back ∙ sym (ids_parts front now back)) parts.ids_once;
            blocks_once = subst AreOnce (sym (blocks_parts front now back)) (once_join (blocks_of front) (puts.blocks ++ blocks_of back) outer.left
                (once_join puts.blocks (blocks_of back) puts.once inner.right (λ x i j. fresh_block x i (inr j)))
                (λ x i j. ⊎_elim (λ k. fresh_block x k (inl i)) (λ k. outer.apart x i (in_right x e.blocks (blocks_of back) k)) (in_either x puts.blocks
                (blocks_of back) j)));
            keys_once = subst AreOnce keys_same parts.keys_once;
          }

      pub value_replaced : SetsAlone s m owner es key value (length e.blocks)
      value_replaced =
          let kept = first_kept s owner es owns is m new now_changes (owns.held.are.first_is ∙ ap first_property all ∙ first_same front (e ∷ back) (now ∷ back)
          refl) in
          record {
            after = new;
            changes = list_changed s owner es owns is m new now_changes m kept now_are
                (λ k i. owns.known k (subst (In k) (sym (ap keys_of all ∙ keys_same)) i));
            property = now;
            key_is = refl;
            value_is = refl;
            place = inr (record {
              before = front;
              was = e;
              rest = back;
              found = record { all = all; key_is = key_is };
              all = refl;
              id_is = refl;
              released_is =
                  refl;
            });
          }

-- a read before leaves it so
pub puts_read : (s z m : State) (ids gone : List ℕ) (id key : ℕ) (value : Value) (next : ℕ) → SameButReads s z → PutsProperty z m ids gone id key value next
    → PutsProperty s m ids gone id key value next
puts_read s z m ids gone id key value next same puts = by (subst (λ (y : State). PutsProperty y m ids gone id key value next) same puts)
  where
    by : PutsProperty (record s { reads = z.reads }) m ids gone id key value next → PutsProperty s m ids gone id key value next
    by p = record { blocks = p.blocks; once = p.once; changes = p.changes; is = p.is }

pub sets_read : (s z t : State) (owner : Owner) (es : List Property) (key : ℕ) (value : Value) (released : ℕ) → SameButReads s z
    → SetsAlone z t owner es key value released → SetsAlone s t owner es key value released
sets_read s z t owner es key value released same sets = by (subst (λ (y : State). SetsAlone y t owner es key value released) same sets)
  where
    by : SetsAlone (record s { reads = z.reads }) t owner es key value released → SetsAlone s t owner es key value released
    by p = record { after = p.after; changes = p.changes; property = p.property; key_is = p.key_is; value_is = p.value_is; place = p.place }

pub refusal_read : (s z : State) (es : List Property) (key : ℕ) (value : Value) (fault : SetFault) → SameButReads s z → IsSetRefusalAlone z es key value fault
    → IsSetRefusalAlone s es key value fault
refusal_read s z es key value fault same is = by fault (subst (λ (y : State). IsSetRefusalAlone y es key value fault) same is)
  where
    by : (fault : SetFault) → IsSetRefusalAlone (record s { reads = z.reads }) es key value fault → IsSetRefusalAlone s es key value fault
    by (PropsFull count) h = h
    by (Full file live) h = h
    by Memory h = h
    by Disk h = h
    by (Damaged damage) h = h

pub put_read_fault : (s z : State) (gone needed : ℕ) (fault : SetFault) → SameButReads s z → IsPutFault z gone needed fault → IsPutFault s gone needed fault
put_read_fault s z gone needed fault same is = by fault (subst (λ (y : State). IsPutFault y gone needed fault) same is)
  where
    by : (fault : SetFault) → IsPutFault (record s { reads = z.reads }) gone needed fault → IsPutFault s gone needed fault
    by (PropsFull count) h = h
    by (Full file live) h = h
    by Memory h = h
    by Disk h = h
    by (Damaged damage) h = h

-- a fault of the search is none of the element's
pub read_refusal : (s : State) (es : List Property) (key : ℕ) (value : Value) (fault : Fault) → NotDamaged {T = ℕ} (Err fault)
    → IsSetRefusalAlone s es key value (of_fault fault)
read_refusal s es key value faults.Memory sound = tt
read_refusal s es key value faults.Disk sound = tt
read_refusal s es key value (faults.Damaged damage) sound = sound
