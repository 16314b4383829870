-- What a load of a group finds.
use Rattle.std.specs.Prelude.{◌≡◌, ◌<◌, ◌≤◌, ℕ, nat_lt, ◌&&◌, if◌then◌else◌, Option, None}
use Rattle.rec_bytes.specs.declared.damage.Damage.{Damage}
use Rattle.rec_bytes.specs.Format as format
use Rattle.rec_bytes.specs.RecordFiles.{room_of}
use Rattle.rec_bytes.specs.Space.{State, after_get}
use Rattle.store_rules.specs.Ranges.{layout_of}
use Rattle.store_rules.specs.Views.{Records, high, kind_at, rec_at, row_if}
use Rattle.rec_bytes.specs.declared.row_fault.RowFault.{RowFault}
use Rattle.rec_bytes.specs.declared.row_fault.RowFault.TheVariants.{Disk, Damaged}
use Rattle.group_store.specs.declared.group_row.GroupRow.{GroupRow}
use Rattle.group_store.specs.GroupRecord.{range_damage, row_of}

-- the row of a group in use, and none where the identifier isn't live
abbrev pub row_at : Records → ℕ → Option GroupRow
row_at records id =
    row_if (kind_at records format.groups_file id)
    (row_of (rec_at records format.groups_file id) id)

-- how many groups the store says were given out, and for how many it has room
abbrev pub group_mark : State → ℕ
group_mark s = high s.records format.groups_file

abbrev pub group_room : State → ℕ
group_room s = room_of s.shape format.groups_file

-- the space after a load, which reads the record where there can be one
abbrev pub after_load : State → ℕ → State
after_load s id = if nat_lt id (group_mark s) && nat_lt id (group_room s) then after_get s else s

abbrev pub mark_damage : Damage
mark_damage = record { file = format.meta_file; id = format.groups_file; rule = 1 }

-- the record is of no kind that the file of groups has
abbrev pub HasNoKind : Records → ℕ → Type 0
HasNoKind records id =
    layout_of format.groups_file (rec_at records format.groups_file id) ≡ None

-- The record that is said to be damaged breaks the first rule: the meta record counts more
-- groups than there is room for, or the group's record is of no kind.
pub data IsRowDamage (s : State) (id : ℕ) : Damage → Type 0 where
  HighMark : group_room s < group_mark s → IsRowDamage s id mark_damage
  UnknownKind : id < group_mark s → HasNoKind s.records id → IsRowDamage s id (range_damage id)

abbrev pub IsRowFault : State → ℕ → RowFault → Type 0
IsRowFault s id Disk = Unit {0}
IsRowFault s id (Damaged damage) = IsRowDamage s id damage

-- an identifier that was given out has room, and a record of a kind that the file has
pub record IsKnown (s : State) (id : ℕ) : Type 0 where
  pub room : id < group_mark s → id < group_room s
  pub kind : id < group_mark s → ¬ HasNoKind s.records id

-- the mark and the record are right by the first rule
pub record IsReadable (s : State) (id : ℕ) : Type 0 where
  pub mark : group_mark s ≤ group_room s
  pub kind : id < group_mark s → ¬ HasNoKind s.records id
