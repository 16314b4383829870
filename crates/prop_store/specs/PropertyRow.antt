-- Properties as their records say them.
use Rattle.std.specs.Prelude.{◌≡◌, ◌≢◌, ◌<◌, ℕ, List, Some}
use Rattle.plain_graph.specs.Forms.{IsKept}
use Rattle.plain_graph.specs.declared.value.Value.{Value}
use Rattle.rec_bytes.specs.declared.record.Rec.{Rec}
use Rattle.rec_bytes.specs.Format.{free_kind, most_ids, properties_file}
use Rattle.rec_bytes.specs.Space.{State}
use Rattle.rec_bytes.specs.declared.damage.Damage.{Damage}
use Rattle.rec_bytes.specs.declared.fault.Fault.{Fault}
use Rattle.rec_bytes.specs.declared.fault.Fault.TheVariants.{Memory, Disk, Damaged}
use Rattle.rec_bytes.specs.declared.key.Key.{Key}
use Rattle.store_rules.specs.Breaking.{damage}
use Rattle.store_rules.specs.Properties.{AreBlocks, Content, content_for, content_of, head_of}
use Rattle.store_rules.specs.Properties.{long_text}
use Rattle.store_rules.specs.Views.{Records, kind_at, rec_at}
use Rattle.prop_store.specs.GivenOut.{IsLinkDamage}
use Rattle.prop_store.specs.Form.{FormFits, form_in}
use Rattle.prop_store.specs.declared.property_row.PropertyRow.{PropertyRow}

-- the row of the identifier has what its record says, and the record is a property's
pub record IsRow (id : ℕ) (row : PropertyRow) : Type 0 where
  pub id_is : row.id ≡ id
  pub small : row.id < most_ids
  pub form_is : form_in row.rec ≡ Some row.form
  pub fits : FormFits (Some row.form)

-- the record is a property's
pub record HasContent (r : Rec) : Type 0 where
  pub content : Content
  pub is : content_of r ≡ Some content

-- the record and the blocks have the value
pub record HasValue
    (string_file : ℕ → Rec) (r : Rec) (value : Value) (blocks : List ℕ) : Type 0 where
  pub content : content_of r ≡ Some (content_for value (head_of blocks))
  pub kept : IsKept value
  pub are : AreBlocks string_file (long_text value) blocks

-- the row is that of a property in use
pub record IsReadRow (records : Records) (row : PropertyRow) : Type 0 where
  pub used : kind_at records properties_file row.id ≢ free_kind
  pub rec_is : row.rec ≡ rec_at records properties_file row.id

-- Why an element has no property where a link leads to one: the link leads to none that was given
-- out, or to one that is not in use, or its record is no property's.
pub data IsRowDamage (s : State) (element from : Key) (id : ℕ) : Damage → Type 0 where
  BadLink : (d : Damage) → IsLinkDamage s from properties_file id d
      → IsRowDamage s element from id d
  Unused : kind_at s.records properties_file id ≡ free_kind
      → IsRowDamage s element from id (damage element.file element.id 5)
  Unknown : kind_at s.records properties_file id ≢ free_kind
      → ¬ HasContent (rec_at s.records properties_file id)
      → IsRowDamage s element from id (damage properties_file id 1)

abbrev pub IsRowFault : State → Key → Key → ℕ → Fault → Type 0
IsRowFault s element from id Memory = Unit {0}
IsRowFault s element from id Disk = Unit {0}
IsRowFault s element from id (Damaged d) = IsRowDamage s element from id d
