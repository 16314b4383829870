-- What a load of a relationship finds: what a load of a row does, in the file of relationships.
use Rattle.std.specs.Prelude.{ℕ, Option}
use Rattle.rec_bytes.specs.Format as format
use Rattle.rec_bytes.specs.Space.{State}
use Rattle.rec_bytes.specs.declared.damage.Damage.{Damage}
use Rattle.rec_bytes.specs.declared.row_fault.RowFault.{RowFault}
use Rattle.store_rules.specs.Views.{Records, kind_at, rec_at, row_if}
use Rattle.row_store.specs.Loading as rows
use Rattle.rel_store.specs.declared.rel_row.RelRow.{RelRow}
use Rattle.rel_store.specs.RelRecord.{row_of}

abbrev pub row_at : Records → ℕ → Option RelRow
row_at records id =
    row_if (kind_at records format.relationships_file id)
    (row_of (rec_at records format.relationships_file id) id)

abbrev pub rel_mark : State → ℕ
rel_mark s = rows.row_mark format.relationships_file s

abbrev pub rel_room : State → ℕ
rel_room s = rows.row_room format.relationships_file s

abbrev pub after_load : State → ℕ → State
after_load s id = rows.after_load format.relationships_file s id

abbrev pub mark_damage : Damage
mark_damage = rows.mark_damage format.relationships_file

abbrev pub IsRelFault : State → ℕ → RowFault → Type 0
IsRelFault s id fault = rows.IsRowFault format.relationships_file s id fault

abbrev pub IsKnown : State → ℕ → Type 0
IsKnown s id = rows.IsKnown format.relationships_file s id

abbrev pub IsReadable : State → ℕ → Type 0
IsReadable s id = rows.IsReadable format.relationships_file s id
