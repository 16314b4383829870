-- Which records a change of a node's groups touches.
use Rattle.std.specs.Prelude.{ℕ, ◌≤◌, List, ◌∷◌, ◌++◌, length, map}
use Rattle.node_store.specs.NodeRecord.{node_key}
use Rattle.rec_bytes.specs.Format.{groups_file}
use Rattle.rec_bytes.specs.RecordFiles.{meta_key_of}
use Rattle.rec_bytes.specs.Space.{State, WritesOnly}
use Rattle.rel_store.specs.RelRecord.{rel_key}
use Rattle.group_store.specs.GroupRecord.{group_key}

-- No record became written but the node's, the meta record of the groups, and so many relationships
-- and groups at most.
pub record TouchesGroups (s t : State) (node most_rels most_groups : ℕ) : Type 0 where
  pub rels : List ℕ
  pub groups : List ℕ
  pub few_rels : length rels ≤ most_rels
  pub few_groups : length groups ≤ most_groups
  pub only : WritesOnly s t
      (node_key node ∷ meta_key_of groups_file ∷ map rel_key rels ++ map group_key groups)
