-- A load of a row reads at most once.
use Rattle.std.proofs.Common.{◌≡◌, ◌≤◌, ℕ, Bool, true, false, ◌&&◌, nat_lt, cond, List, Option, None, Some, refl, arith}
use Rattle.rec_bytes.specs.Space.{State, after_get}
use Rattle.prop_store.specs.Reading.{ReadsAtMost}
use Rattle.prop_store.proofs.ReadCounts.{reads_none, reads_one}
use Rattle.node_store.specs.declared.node_row.NodeRow.{NodeRow}
use Rattle.plain_graph.specs.declared.item.Item.TheVariants as items
use Rattle.store_rules.specs.Views.{Records}
use Rattle.traversal_run.specs.Elements.{IsRowOf, owner_reads}
use Rattle.row_store.specs.Loading.{after_load, row_mark, row_room}

pub load_reads : (file : ℕ) (s t : State) (id : ℕ) → t ≡ after_load file s id → ReadsAtMost 1 s t
load_reads file s t id = by (nat_lt id (row_mark file s) && nat_lt id (row_room file s))
  where
    by : (there : Bool) → t ≡ cond there (after_get s) s → ReadsAtMost 1 s t
    by true is = reads_one 1 s t (omega arith) is
    by false is = rw is (reads_none 1 s)

-- an edge has no row that is known
pub edge_reads : (tells : Type 0) (records : Records) (id : ℕ) (label : List ℕ) (from to : ℕ) (row : Option NodeRow)
    → IsRowOf tells records (items.Edge id label from to) row → owner_reads row ≡ 1
edge_reads tells records id label from to None is = refl
edge_reads tells records id label from to (Some row) is = absurd is

-- the owner of an item is read at most once
pub owner_few : (row : Option NodeRow) → owner_reads row ≤ 1
owner_few None = omega arith
owner_few (Some row) = omega arith
