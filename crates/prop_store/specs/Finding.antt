-- A search for a key among the properties of an element.
use Rattle.std.specs.Prelude.{◌≡◌, ◌≢◌, ◌≤◌, ℕ, nat_eq, if◌then◌else◌, Option, None}
use Rattle.std.specs.Prelude.{Some, List, [], ◌∷◌}
use Rattle.std.specs.Prelude.{◌++◌, length}
use Rattle.std.specs.Option.{option_map}
use Rattle.plain_graph.specs.declared.value.Value.{Value}
use Rattle.rec_bytes.specs.declared.key.Key.{Key}
use Rattle.rec_bytes.specs.declared.record.Rec.{Rec}
use Rattle.rec_bytes.specs.Format as format
use Rattle.rec_bytes.specs.Record.{field}
use Rattle.rec_bytes.specs.RecordFiles.{meta_key_of}
use Rattle.store_rules.specs.Properties.{IsProperty, Property, content_for, content_of}
use Rattle.store_rules.specs.Properties.{first_property, property_at}
use Rattle.store_rules.specs.Properties.{property_records}
use Rattle.store_rules.specs.Views.{Records, key_in, kind_at, rec_at}
use Rattle.prop_store.specs.Link.{IsLink, IsLinkOf, link_after, link_of}
use Rattle.prop_store.specs.PropertyRow.{IsReadRow, IsRow}
use Rattle.prop_store.specs.Reading.{properties_met}
use Rattle.prop_store.specs.declared.finding.Search.{Search}
use Rattle.prop_store.specs.declared.finding.Search.TheVariants.{Absent, Found}
use Rattle.prop_store.specs.declared.link.Link.{Link}
use Rattle.prop_store.specs.declared.owner.Owner.{Owner}
use Rattle.prop_store.specs.declared.property_row.PropertyRow.{PropertyRow}

-- the property of a key, and its value
abbrev pub property_of : List Property → ℕ → Option Property
property_of [] key = None
property_of (e ∷ es) key = if nat_eq e.key key then Some e else property_of es key

abbrev pub value_of : List Property → ℕ → Option Value
value_of es key = option_map (λ (e : Property). e.value) (property_of es key)

-- It is one of these, between those before it and those after it, and its link and its record are
-- known.
pub record FoundAt (records : Records) (owner : Owner) (es : List Property) (key : ℕ)
    (link : Link) (row : PropertyRow) : Type 0 where
  pub before : List Property
  pub property : Property
  pub after : List Property
  pub all : es ≡ before ++ property ∷ after
  pub link_is : link ≡ link_after (link_of owner) before
  pub id_is : row.id ≡ property.id
  pub rec_is : row.rec ≡ rec_at records format.properties_file property.id
  pub is : IsProperty (property_records records) property (first_property after)
  pub key_is : property.key ≡ key
  pub found : property_of es key ≡ Some property

-- the property of the key was found, or there is none among so many
abbrev pub IsSought : Records → Owner → List Property → ℕ → PropertyRow → Search → Type 0
IsSought records owner es key row (Found link) = FoundAt records owner es key link row
IsSought records owner es key row (Absent count) =
    (count ≡ length es) × (property_of es key ≡ None)

-- what was found is linked from its element, has the key and can be written
pub record IsPlacedAt (owner : Owner) (key : ℕ) (link : Link) (row : PropertyRow) : Type 0 where
  pub links : IsLink link
  pub from : IsLinkOf owner link
  pub is_row : IsRow row.id row
  pub key_is : field 4 row.rec format.property_key ≡ key

-- so it is, or there are no more properties than there may be
abbrev pub IsPlaced : Owner → ℕ → PropertyRow → Search → Type 0
IsPlaced owner key row (Found link) = IsPlacedAt owner key link row
IsPlaced owner key row (Absent count) = count ≤ 32

-- It is the first one with the key that the records lead to.
pub record MetAt (records : Records) (owner : Owner) (key : ℕ) (row : PropertyRow) : Type 0 where
  pub rec_is : row.rec ≡ rec_at records format.properties_file row.id
  pub is : property_of (properties_met records owner) key
      ≡ Some (property_at (property_records records) row.id)

-- they lead to none with the key
abbrev pub LacksMet : Records → Owner → ℕ → Type 0
LacksMet records owner key = property_of (properties_met records owner) key ≡ None

-- the one that they led to, if any, is in use no more
abbrev pub FreesMet : Records → Records → Owner → ℕ → Type 0
FreesMet old new owner key =
    (e : Property) → property_of (properties_met old owner) key ≡ Some e
    → kind_at new format.properties_file e.id ≡ format.free_kind

-- The record is of this key and value. Of a text in blocks it says the length.
pub record IsRecordOf (r : Rec) (key : ℕ) (value : Value) : Type 0 where
  pub key_is : field 4 r format.property_key ≡ key
  pub first : ℕ
  pub content : content_of r ≡ Some (content_for value first)

-- the first one with the key that the records lead to has a record of the value
abbrev pub GivesMet : Records → Owner → ℕ → Value → Type 0
GivesMet records owner key value =
    (e : Property) × (property_of (properties_met records owner) key ≡ Some e)
    × IsRecordOf (rec_at records format.properties_file e.id) key value

-- The record of a property has another value. Else blocks alone are other.
pub record PutsAgain (s t : Records) (row : PropertyRow) (value : Value) : Type 0 where
  pub here : IsRecordOf (rec_at t format.properties_file row.id)
      (field 4 row.rec format.property_key) value
  pub next_is : field 4 (rec_at t format.properties_file row.id) format.property_next
      ≡ field 4 row.rec format.property_next
  pub others : (key : Key) → key.file ≢ format.strings_file
      → key ≢ meta_key_of format.strings_file
      → key ≢ key_in format.properties_file row.id → t key ≡ s key

-- so it was found, or they lead to none, and to so many others
abbrev pub IsMet : Records → Owner → ℕ → PropertyRow → Search → Type 0
IsMet records owner key row (Found link) = MetAt records owner key row
IsMet records owner key row (Absent count) =
    LacksMet records owner key × (count ≡ length (properties_met records owner))

-- they lead to as many as an element may have, none of which has the key
abbrev pub IsCrowded : Records → Owner → ℕ → Type 0
IsCrowded records owner key =
    LacksMet records owner key × (length (properties_met records owner) ≡ 32)

-- what was found is what the records say
abbrev pub IsReadAt : Records → PropertyRow → Search → Type 0
IsReadAt records row (Found link) = IsReadRow records row
IsReadAt records row (Absent count) = Unit {0}
