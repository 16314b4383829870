-- The properties of an element in use, and what a change of them makes of their records.
use Rattle.std.proofs.Common.{◌≡◌, ℕ, ◌<◌, ◌^◌, List, [], sym, ap, ◌∙◌, subst, arith, refl}
use Rattle.rec_bytes.specs.Format as format
use Rattle.rec_bytes.specs.Record.{field, with_field}
use Rattle.rec_bytes.specs.Space.{SameButReads, State, after_get, after_set}
use Rattle.rec_bytes.proofs.Spaces.{put_other, put_same}
use Rattle.store_rules.specs.Chains.{In}
use Rattle.store_rules.specs.Properties.{AreProperties, Property, blocks_of, first_property, ids_of, keys_of, property_records}
use Rattle.store_rules.specs.PropertyChange.{ChangesProperties, property_place}
use Rattle.store_rules.specs.Views.{high, kind_at, rec_at}
use Rattle.store_rules.proofs.LinkFits.{IsLow}
use Rattle.store_rules.proofs.ViewLaws.{kind_below, kind_low}
use Rattle.prop_store.specs.Alone.{DropsAllAlone, OwnsProperties}
use Rattle.prop_store.specs.Dropping.{AreHeld, ChangesRecords, DropsProperties}
use Rattle.prop_store.specs.Owner.{HasProperties, IsOwner, first_of}
use Rattle.prop_store.specs.declared.changing.Dropped.{Dropped}
use Rattle.prop_store.specs.declared.owner.Owner.{Owner}
use Rattle.prop_store.proofs.DropSteps.{live_low}
use Rattle.prop_store.proofs.ElementSteps.{SetsFirst, changes_properties, element_stays, stays_first, writes_first}
use Rattle.prop_store.proofs.OwnerPlaces.{first_of-is}

module _ (s : State) (owner : Owner) (es : List Property) (owns : OwnsProperties s owner es) where
  -- the properties were given out
  pub has_properties : HasProperties s.records owner es
  has_properties = record {
    are = owns.held.are;
    ids_low = λ x i. live_low s.records format.properties_file x (owns.held.properties.live x i);
    blocks_low = λ x i. live_low s.records format.strings_file x (owns.held.strings.live x i);
  }

  -- reads leave them so
  pub owns_read : (z : State) → SameButReads s z → OwnsProperties z owner es
  owns_read z same = subst (λ (y : State). OwnsProperties y owner es) (sym same)
      (record {
        used = owns.used;
        fits = owns.fits;
        held = record { are = owns.held.are; properties = owns.held.properties; strings = owns.held.strings };
        known = owns.known;
      })

  module _ (is : IsOwner owner) where
    abbrev file : ℕ
    file = owner.key.file

    abbrev x : ℕ
    x = owner.key.id

    -- its record is one of an element in use
    record_kind : kind_at s.records file x ≡ field 1 (rec_at s.records file x) format.kind
    record_kind = kind_low (high s.records file) (rec_at s.records file x) x (kind_below (high s.records file) (rec_at s.records file x) x owns.used)

    -- ---- a change of its properties
    module _ (m : State) (new : List Property) (changes : ChangesRecords s.records m.records s.shape (ids_of es) (ids_of new) (blocks_of es) (blocks_of new))
      where
        same_record : rec_at m.records file x ≡ rec_at s.records file x
        same_record = element_stays s.records m.records m.records s.shape file x es new is.file changes

        -- the place of the first one is written
        pub first_set : (t : State) (to : ℕ) → t ≡ after_set m owner.key 4 owner.field to → to < 2 ^ 32 → IsLow (high m.records format.properties_file) to
            → SetsFirst m.records t.records file x to
        first_set t to set small low = writes_first m.records t.records file x to is.file
            (λ e. owns.used (record_kind ∙ ap (λ r. field 1 r format.kind) (sym same_record) ∙ e))
            small low
            (ap (λ (z : State). z.records owner.key) set ∙ put_same m.records owner.key (with_field 4 (m.records owner.key) owner.field to) ∙ ap
            (λ at. with_field 4 (m.records owner.key) at to) is.place)
            (λ key ne. ap (λ (z : State). z.records key) set ∙ put_other m.records owner.key (with_field 4 (m.records owner.key) owner.field to) key ne)

        -- or it is that already
        pub first_kept : first_of s.records owner ≡ first_property new → SetsFirst m.records m.records file x (first_property new)
        first_kept e = subst (SetsFirst m.records m.records file x) (ap (λ r. field 4 r (property_place file)) same_record ∙ sym
            (first_of-is s.records owner is) ∙ e) (stays_first m.records file x)

        pub list_changed : (t : State) → SetsFirst m.records t.records file x (first_property new)
            → AreProperties (property_records m.records) (first_property new) new
            → ((k : ℕ) → In k (keys_of new) → k < high s.records format.names_file) → ChangesProperties s.records t.records s.shape file x es new
        list_changed t set now known = changes_properties s.records m.records t.records s.shape file x es new is.file changes set owns.used owns.fits
            (subst (λ f. AreProperties (property_records s.records) f es) (first_of-is s.records owner is) owns.held.are) now known

    -- all were given back, and the place of the first one is none
    pub all_dropped : (m t : State) (dropped : Dropped) (drops : DropsProperties s m es dropped) → SetsFirst m.records t.records file x format.nil
        → DropsAllAlone s t owner es dropped
    all_dropped m t dropped drops set = record {
      changes = list_changed m [] drops.changes t set (record {
        first_is = refl;
        linked = tt;
        few = omega arith;
        ids_once = tt;
        blocks_once = tt;
        keys_once = tt;
      }) (λ k i. elim i [ ]);
      properties = drops.properties;
      blocks = drops.blocks;
    }

-- a read leaves it so
pub held_read : (s : State) (first : ℕ) (es : List Property) → AreHeld s first es → AreHeld (after_get s) first es
held_read s first es held = record { are = held.are; properties = held.properties; strings = held.strings }

pub drops_read : (s t : State) (es : List Property) (dropped : Dropped) → DropsProperties (after_get s) t es dropped → DropsProperties s t es dropped
drops_read s t es dropped drops = record { properties = drops.properties; blocks = drops.blocks; changes = drops.changes }
