-- The first group of a node.
use Rattle.std.specs.Prelude.{◌≡◌, ℕ, if◌then◌else◌, Option, None, Some}
use Rattle.rec_bytes.specs.Space.{State}
use Rattle.node_store.specs.declared.node_row.NodeRow.{NodeRow}
use Rattle.node_store.specs.Loading.{IsNodeDamage}
use Rattle.store_rules.specs.Views.{Records, first_link}
use Rattle.rec_bytes.specs.declared.fault.Fault.{Fault}
use Rattle.rec_bytes.specs.declared.fault.Fault.TheVariants.{Memory, Disk, Damaged}
use Rattle.group_store.specs.GroupChain.{IsDense}

-- the first link of a row, where it is to a group
abbrev pub first_of : NodeRow → Option ℕ
first_of row = if row.dense then Some row.first else None

-- the first link of the node, where it is dense
abbrev pub IsFirst : Records → ℕ → Option ℕ → Type 0
IsFirst records node None = ¬ IsDense records node
IsFirst records node (Some first) = IsDense records node × (first ≡ first_link records node)

abbrev pub IsNodeFault : State → ℕ → Fault → Type 0
IsNodeFault s node Memory = Unit {0}
IsNodeFault s node Disk = Unit {0}
IsNodeFault s node (Damaged damage) = IsNodeDamage s node damage
