-- One property of an element, and those around it.
use Rattle.std.proofs.Common.{◌≡◌, ◌⊎◌, ℕ, true, List, [], ◌∷◌, ◌++◌, sym, ap, ◌∙◌, subst, ⊎_elim, refl}
use Rattle.std.proofs.lemmas.List.{map-append}
use Rattle.rec_bytes.specs.Format as format
use Rattle.rec_bytes.specs.Space.{SameButReads, State}
use Rattle.store_rules.specs.Chains.{In}
use Rattle.store_rules.specs.Properties.{AreProperties, IsProperty, Property, blocks_of, content_of, first_property, ids_of, property_records}
use Rattle.store_rules.specs.PropertyChange.{ChangesFile}
use Rattle.store_rules.specs.Views.{Records, is_live, rec_at}
use Rattle.prop_store.specs.Alone.{OwnsProperties}
use Rattle.prop_store.specs.Dropping.{ChangesRecords, DropsProperty, IsHeld}
use Rattle.prop_store.specs.Owner.{first_of}
use Rattle.prop_store.specs.declared.owner.Owner.{Owner}
use Rattle.prop_store.specs.declared.property_row.PropertyRow.{PropertyRow}
use Rattle.prop_store.proofs.FileMoves.{middle}
use Rattle.prop_store.proofs.FileSteps.{file_now}
use Rattle.prop_store.proofs.LinkChanges.{blocks_apart, ids_apart, not_its_block, not_its_id, records_like}
use Rattle.prop_store.proofs.ListLaws.{in_left, in_right, once_split}
use Rattle.prop_store.proofs.PropertyParts.{blocks_both, blocks_parts, ids_parts, linked_after}
use Rattle.prop_store.proofs.RecordMoves.{records_then}

-- reads leave a property and what is made of it
pub held_same : (s t : State) (row : PropertyRow) (e : Property) → SameButReads s t → IsHeld s row e → IsHeld t row e
held_same s t row e same h = subst (λ (z : State). IsHeld z row e) (sym same)
    (record { id_is = h.id_is; value = h.value; once = h.once; properties = h.properties; strings = h.strings })

pub drops_same : (s r t : State) (e : Property) (released : ℕ) → SameButReads s r → DropsProperty r t e released → DropsProperty s t e released
drops_same s r t e released same h = let k = subst (λ (z : State). DropsProperty z t e released) same h in
    record { released_is = k.released_is; changes = k.changes }

module _ (s : State) (owner : Owner) (es : List Property) (owns : OwnsProperties s owner es) where
  abbrev first : ℕ
  first = first_of s.records owner

  module _ (front : List Property) (e : Property) (back : List Property) (all : es ≡ front ++ e ∷ back) where
    pub are_parts : AreProperties (property_records s.records) first (front ++ e ∷ back)
    are_parts = subst (AreProperties (property_records s.records) first) all owns.held.are

    pub its_record : IsProperty (property_records s.records) e (first_property back)
    its_record = (linked_after (property_records s.records) front (e ∷ back) are_parts.linked).0

    pub id_live : (x : ℕ) → In x (ids_of front ++ ((e.id ∷ []) ++ ids_of back)) → is_live s.records format.properties_file x ≡ true
    id_live x i = owns.held.properties.live x (subst (In x) (sym (ap ids_of all ∙ ids_parts front e back)) i)

    pub block_in_use : (x : ℕ) → In x (blocks_of front ++ (e.blocks ++ blocks_of back)) → is_live s.records format.strings_file x ≡ true
    block_in_use x i = owns.held.strings.live x (subst (In x) (sym (ap blocks_of all ∙ blocks_parts front e back)) i)

    -- the property is in use
    pub held_row : (row : PropertyRow) → row.id ≡ e.id → row.rec ≡ rec_at s.records format.properties_file e.id → IsHeld s row e
    held_row row id_is rec_is =
        let apart = blocks_apart (property_records s.records) (property_records s.records) first front e back are_parts in
        record {
          id_is = id_is;
          value = record { content = ap content_of rec_is ∙ its_record.content; kept = its_record.kept; are = its_record.blocks };
          once = (once_split e.blocks (blocks_of back) (once_split (blocks_of front) (e.blocks ++ blocks_of back) apart).right).left;
          properties = file_now s.records s.records s.shape format.properties_file (ids_of es) (ids_of es) owns.held.properties (e.id ∷ [])
              (λ x i. id_live x (in_right x (ids_of front) ((e.id ∷ []) ++ ids_of back) (in_left x (e.id ∷ []) (ids_of back) i)));
          strings = file_now s.records s.records s.shape format.strings_file (blocks_of es) (blocks_of es) owns.held.strings e.blocks
              (λ x i. block_in_use x (in_right x (blocks_of front) (e.blocks ++ blocks_of back) (in_left x e.blocks (blocks_of back) i)));
        }

    -- others in its place, of its record and its blocks
    pub replaced_records : (m : Records) (now : List Property) → ChangesRecords s.records m s.shape (e.id ∷ []) (ids_of now) e.blocks (blocks_of now)
        → ChangesRecords s.records m s.shape (ids_of es) (ids_of (front ++ (now ++ back))) (blocks_of es) (blocks_of (front ++ (now ++ back)))
    replaced_records m now changes =
        let ids = ids_of front ++ ((e.id ∷ []) ++ ids_of back) in
        let blocks = blocks_of front ++ (e.blocks ++ blocks_of back) in
        let ids_are : ids_of es ≡ ids = ap ids_of all ∙ ids_parts front e back in
        let blocks_are : blocks_of es ≡ blocks = ap blocks_of all ∙ blocks_parts front e back in
        let still = records_like s.records s.records s.shape (ids_of es) ids (ids_of es) ids (blocks_of es) blocks (blocks_of es) blocks ids_are ids_are
        blocks_are blocks_are
        (record { properties = owns.held.properties; strings = owns.held.strings; others = λ key a b c d. refl }) in
        records_like s.records m s.shape ids (ids_of es) (ids_of front ++ (ids_of now ++ ids_of back)) (ids_of (front ++ (now ++ back))) blocks (blocks_of es)
        (blocks_of front ++ (blocks_of now ++ blocks_of back)) (blocks_of (front ++ (now ++ back)))
        (sym ids_are) (sym (map-append (λ (z : Property). z.id) front (now ++ back) ∙ ap (λ l. ids_of front ++ l) (map-append (λ (z : Property). z.id)
        now back))) (sym blocks_are)
        (sym (blocks_both front (now ++ back) ∙ ap (λ l. blocks_of front ++ l) (blocks_both now back)))
        (records_then s.records s.records m s.shape ids ids (ids_of front ++ (ids_of now ++ ids_of back)) blocks blocks
        (blocks_of front ++ (blocks_of now ++ blocks_of back)) (e.id ∷ []) (ids_of now) e.blocks (blocks_of now)
        (middle (ids_of front) (e.id ∷ []) (ids_of now) (ids_of back) (ids_apart (property_records s.records) (property_records s.records) first front e back
        are_parts))
        (middle (blocks_of front) e.blocks (blocks_of now) (blocks_of back) (blocks_apart (property_records s.records) (property_records s.records)
        first front e back are_parts)) still changes)

    -- the other properties and their blocks stay
    pub other_kept : (m : Records) (new : List ℕ) → ChangesFile s.records m s.shape format.properties_file (e.id ∷ []) new → (x : ℕ) → In x (ids_of front)
        ⊎ In x (ids_of back)
        → (is_live m format.properties_file x ≡ true) × (rec_at m format.properties_file x ≡ rec_at s.records format.properties_file x)
    other_kept m new h x i = h.kept x (id_live x (⊎_elim (λ f. in_left x (ids_of front) ((e.id ∷ []) ++ ids_of back) f) (λ b. in_right x (ids_of front)
        ((e.id ∷ []) ++ ids_of back) (in_right x (e.id ∷ []) (ids_of back) b)) i))
        (not_its_id (property_records s.records) (property_records s.records) first front e back are_parts x i)

    pub other_blocks_kept : (m : Records) (new : List ℕ) → ChangesFile s.records m s.shape format.strings_file e.blocks new → (x : ℕ) → In x (blocks_of front)
        ⊎ In x (blocks_of back)
        → (is_live m format.strings_file x ≡ true) × (rec_at m format.strings_file x ≡ rec_at s.records format.strings_file x)
    other_blocks_kept m new h x i = h.kept x (block_in_use x (⊎_elim (λ f. in_left x (blocks_of front) (e.blocks ++ blocks_of back) f)
        (λ b. in_right x (blocks_of front) (e.blocks ++ blocks_of back) (in_right x e.blocks (blocks_of back) b)) i))
        (not_its_block (property_records s.records) (property_records s.records) first front e back are_parts x i)
