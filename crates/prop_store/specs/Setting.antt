-- A property whose record and blocks are written.
use Rattle.std.specs.Prelude.{◌≡◌, ◌⊎◌, ℕ, ◌+◌, ◌<◌, List, [], ◌∷◌}
use Rattle.plain_graph.specs.declared.value.Value.{Value}
use Rattle.rec_bytes.specs.Format as format
use Rattle.rec_bytes.specs.RecordFiles.{room_of}
use Rattle.rec_bytes.specs.Space.{State, meta_of}
use Rattle.store_rules.specs.Breaking.{Breaks}
use Rattle.store_rules.specs.Properties.{AreOnce, IsProperty, property_records}
use Rattle.store_rules.specs.Views.{high}
use Rattle.id_freelist.specs.ListDamage.{HarmsNoList, IsListDamage}
use Rattle.prop_store.specs.Dropping.{ChangesRecords}
use Rattle.prop_store.specs.declared.set_fault.SetFault.{SetFault}
use Rattle.prop_store.specs.declared.set_fault.SetFault.TheVariants.{Damaged, Disk, Full, Memory}
use Rattle.prop_store.specs.declared.set_fault.SetFault.TheVariants.{PropsFull}

-- a property may lead to it: it is one that was given out, or none
abbrev pub MayLead : State → ℕ → Type 0
MayLead s next = (next ≡ format.nil) ⊎ (next < high s.records format.properties_file)

-- The property of the identifier has the key and the value and leads to this one. It stands in the
-- place of these records, and its blocks in the place of those.
pub record PutsProperty (old new : State) (ids gone : List ℕ) (id key : ℕ) (value : Value)
    (next : ℕ) : Type 0 where
  pub blocks : List ℕ
  pub once : AreOnce blocks
  pub changes : ChangesRecords old.records new.records old.shape ids (id ∷ []) gone blocks
  pub is : IsProperty (property_records new.records) (record {
    id = id;
    key = key;
    value = value;
    blocks = blocks;
  }) next

-- There is no room for so many blocks more, after others were given back; else the machine failed.
abbrev pub IsPutFault : State → ℕ → ℕ → SetFault → Type 0
IsPutFault s gone needed (Full file live) =
    (file ≡ format.strings_file)
    × (room_of s.shape format.strings_file + gone < (meta_of s format.strings_file).live + needed)
IsPutFault s gone needed Memory = Unit {0}
IsPutFault s gone needed Disk = Unit {0}
IsPutFault s gone needed (PropsFull count) = ⊥
IsPutFault s gone needed (Damaged damage) = ⊥

-- a record that is blamed breaks the rule
abbrev pub SetBlamesBroken : State → SetFault → Type 0
SetBlamesBroken s (Full file live) = Unit {0}
SetBlamesBroken s Memory = Unit {0}
SetBlamesBroken s Disk = Unit {0}
SetBlamesBroken s (PropsFull count) = Unit {0}
SetBlamesBroken s (Damaged d) = Breaks s.records s.shape d

-- a record that is blamed is what is wrong with the free list of the properties or of the blocks
abbrev pub BlamesLists : State → SetFault → Type 0
BlamesLists s (Full file live) = Unit {0}
BlamesLists s Memory = Unit {0}
BlamesLists s Disk = Unit {0}
BlamesLists s (PropsFull count) = Unit {0}
BlamesLists s (Damaged d) =
    IsListDamage s.records s.shape format.properties_file d
    ⊎ IsListDamage s.records s.shape format.strings_file d

-- What is wrong with these two lists was wrong with them before.
pub record HarmsNoLists (old new : State) : Type 0 where
  pub properties : HarmsNoList old new format.properties_file
  pub blocks : HarmsNoList old new format.strings_file
