-- What a load of a node finds: what a load of a row does, in the file of nodes.
use Rattle.std.specs.Prelude.{ℕ, Option}
use Rattle.rec_bytes.specs.Format as format
use Rattle.rec_bytes.specs.Space.{State}
use Rattle.rec_bytes.specs.declared.damage.Damage.{Damage}
use Rattle.rec_bytes.specs.declared.row_fault.RowFault.{RowFault}
use Rattle.store_rules.specs.Views.{Records, kind_at, rec_at, row_if}
use Rattle.row_store.specs.Loading as rows
use Rattle.node_store.specs.declared.node_row.NodeRow.{NodeRow}
use Rattle.node_store.specs.NodeRecord.{row_of}

abbrev pub row_at : Records → ℕ → Option NodeRow
row_at records id =
    row_if (kind_at records format.nodes_file id) (row_of (rec_at records format.nodes_file id) id)

abbrev pub node_mark : State → ℕ
node_mark s = rows.row_mark format.nodes_file s

abbrev pub node_room : State → ℕ
node_room s = rows.row_room format.nodes_file s

abbrev pub after_load : State → ℕ → State
after_load s id = rows.after_load format.nodes_file s id

abbrev pub IsNodeDamage : State → ℕ → Damage → Type 0
IsNodeDamage s id damage = rows.IsRowDamage format.nodes_file s id damage

abbrev pub IsNodeFault : State → ℕ → RowFault → Type 0
IsNodeFault s id fault = rows.IsRowFault format.nodes_file s id fault

abbrev pub IsKnown : State → ℕ → Type 0
IsKnown s id = rows.IsKnown format.nodes_file s id

abbrev pub IsReadable : State → ℕ → Type 0
IsReadable s id = rows.IsReadable format.nodes_file s id
