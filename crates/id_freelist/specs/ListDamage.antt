-- What is wrong with the free list of a file.
use Rattle.std.specs.Prelude.{◌≢◌, ℕ, ◌≤◌}
use Rattle.rec_bytes.specs.declared.damage.Damage.{Damage}
use Rattle.rec_bytes.specs.declared.shape.Shape.{Shape}
use Rattle.rec_bytes.specs.Format as format
use Rattle.rec_bytes.specs.RecordFiles.{room_of}
use Rattle.rec_bytes.specs.Space.{State, meta_in}
use Rattle.store_rules.specs.Breaking.{HasFreeList}
use Rattle.store_rules.specs.Rules.{next_free}
use Rattle.store_rules.specs.Views.{Records, high, kind_at}
use Rattle.id_freelist.specs.Taking.{IsRanged, IsUnused, meta_damage, record_damage}
use Rattle.id_freelist.specs.declared.take_fault.TakeFault.{TakeFault}
use Rattle.id_freelist.specs.declared.take_fault.TakeFault.TheVariants.{Full, Memory, Disk, Damaged}

-- The file's links of free records lead there, from the first one on through records that are not
-- in use.
pub data IsReached (records : Records) (file : ℕ) : ℕ → Type 0 where
  First : IsReached records file (meta_in records file).free
  Next : (x : ℕ) → IsReached records file x → IsUnused records file x
      → IsReached records file (next_free records file x)

-- The record that is said to be damaged breaks the rule: the meta record has a number that can't
-- stand there, or there is no free list, or its count is wrong; a record that is not in use is not
-- reached, or names a next one that can't stand there.
pub data IsListDamage (records : Records) (shape : Shape) (file : ℕ) : Damage → Type 0 where
  OutOfRange : ¬ IsRanged (meta_in records file) (room_of shape file)
      → IsListDamage records shape file (meta_damage file 1)
  NoList : ¬ HasFreeList records file → IsListDamage records shape file (meta_damage file 2)
  NotReached : (x : ℕ) → IsUnused records file x → ¬ IsReached records file x
      → IsListDamage records shape file (record_damage file x 2)
  BadLink : (x : ℕ) → IsUnused records file x → next_free records file x ≢ format.nil
      → high records file ≤ next_free records file x
      → IsListDamage records shape file (record_damage file x 1)

-- a record that is blamed is such
abbrev pub BlamesList : State → ℕ → TakeFault → Type 0
BlamesList s file (Full full live) = Unit {0}
BlamesList s file Memory = Unit {0}
BlamesList s file Disk = Unit {0}
BlamesList s file (Damaged damage) = IsListDamage s.records s.shape file damage

-- what is wrong with the file's free list was wrong with it before
abbrev pub HarmsNoList : State → State → ℕ → Type 0
HarmsNoList old new file =
    (damage : Damage) → IsListDamage new.records new.shape file damage
    → IsListDamage old.records old.shape file damage

-- And what was in use is so still.
pub record KeepsInUse (old new : State) (file : ℕ) : Type 0 where
  pub harmless : HarmsNoList old new file
  pub used : (x : ℕ) → kind_at old.records file x ≢ format.free_kind
      → kind_at new.records file x ≢ format.free_kind
