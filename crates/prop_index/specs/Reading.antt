-- A record of the indexes that is read.
use Rattle.std.specs.Prelude.{◌≢◌, ℕ, ◌<◌, ◌≤◌}
use Rattle.rec_bytes.specs.declared.damage.Damage.{Damage}
use Rattle.rec_bytes.specs.Format as format
use Rattle.rec_bytes.specs.RecordFiles.{room_of}
use Rattle.rec_bytes.specs.Space.{State}
use Rattle.store_rules.specs.Rules.{IsWellFormed}
use Rattle.store_rules.specs.Views.{high, kind_at}
use Rattle.rec_bytes.specs.declared.fault.Fault.{Fault}
use Rattle.rec_bytes.specs.declared.fault.Fault.TheVariants.{Damaged, Disk, Memory}

-- there is room for all that were given out
abbrev pub HasRoom : State → ℕ → Type 0
HasRoom s file = high s.records file ≤ room_of s.shape file

abbrev pub damage_of : ℕ → ℕ → ℕ → Damage
damage_of file id rule = record { file = file; id = id; rule = rule }

-- The record that is said to be damaged breaks a rule: the one that is named leads to an identifier
-- that wasn't given out, the meta record counts more than there is room for, or the record is of
-- another kind than one that is led to.
pub data IsReadDamage (s : State) (id kind : ℕ) (named : Damage) : Damage → Type 0 where
  LeadsNowhere : high s.records format.index_file ≤ id → IsReadDamage s id kind named named
  HighMark : room_of s.shape format.index_file < high s.records format.index_file
      → IsReadDamage s id kind named (damage_of format.meta_file format.index_file 1)
  OtherKind : id < high s.records format.index_file → kind_at s.records format.index_file id ≢ kind
      → IsReadDamage s id kind named (damage_of format.index_file id 8)

abbrev pub IsReadFault : State → ℕ → ℕ → Damage → Fault → Type 0
IsReadFault s id kind named Memory = Unit {0}
IsReadFault s id kind named Disk = Unit {0}
IsReadFault s id kind named (Damaged damage) = IsReadDamage s id kind named damage
