-- The record of a group, and the row that it is.
use Rattle.std.specs.Prelude.{ℕ, nat_eq, Bool, if◌then◌else◌, Option, None, Some, Result, Ok, Err}
use Rattle.rec_bytes.specs.declared.damage.Damage.{Damage}
use Rattle.rec_bytes.specs.declared.key.Key.{Key}
use Rattle.rec_bytes.specs.declared.record.Rec.{Rec}
use Rattle.rec_bytes.specs.Format as format
use Rattle.rec_bytes.specs.Record.{field}
use Rattle.rec_bytes.specs.declared.row_fault.RowFault.{RowFault}
use Rattle.rec_bytes.specs.declared.row_fault.RowFault.TheVariants.{Damaged}
use Rattle.store_rules.specs.Views.{is_group_kind}
use Rattle.group_store.specs.declared.group_row.GroupRow.{GroupRow}

abbrev pub group_key : ℕ → Key
group_key id = record { file = format.groups_file; id = id }

-- the group has the numbers of relationships in its chains
abbrev pub is_counted : Rec → Bool
is_counted rec = nat_eq (field 1 rec format.kind) format.counted

-- one of them, and 0 where it hasn't
abbrev pub count_in : Rec → ℕ → ℕ
count_in rec at = if is_counted rec then field 4 rec at else 0

-- the fields of the record of a group in use
abbrev pub row_of : Rec → ℕ → GroupRow
row_of rec id = record {
  id = id;
  label = field 4 rec format.group_type;
  first_out = field 4 rec format.group_first_out;
  first_in = field 4 rec format.group_first_in;
  first_loop = field 4 rec format.group_first_loop;
  counted = is_counted rec;
  out_count = count_in rec format.group_out_count;
  in_count = count_in rec format.group_in_count;
  loop_count = count_in rec format.group_loop_count;
}

abbrev pub range_damage : ℕ → Damage
range_damage id = record { file = format.groups_file; id = id; rule = 1 }

-- what a record says by its kind: no group, a group, or that it is damaged
abbrev pub row_by : ℕ → Rec → ℕ → Result (Option GroupRow) RowFault
row_by kind rec id =
    if nat_eq kind format.free_kind then Ok None
    else (if is_group_kind kind
    then Ok (Some (row_of rec id)) else Err (Damaged (range_damage id)))

abbrev pub read_row : Rec → ℕ → Result (Option GroupRow) RowFault
read_row rec id = row_by (field 1 rec format.kind) rec id
