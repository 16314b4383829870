-- How many relationships a node has.
use Rattle.std.specs.Prelude.{◌≡◌, ℕ, Some}
use Rattle.store_rules.specs.Views.{Records}
use Rattle.node_store.specs.declared.node_row.NodeRow.{NodeRow}
use Rattle.node_store.specs.Loading.{row_at}

-- the node has so many relationships
pub record HasDegree (records : Records) (id degree : ℕ) : Type 0 where
  pub row : NodeRow
  pub found : row_at records id ≡ Some row
  pub is : row.degree ≡ degree
