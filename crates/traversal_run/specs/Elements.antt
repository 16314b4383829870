-- Elements of a store as owners of properties.
use Rattle.std.specs.Prelude.{◌≡◌, ◌≢◌, ℕ, Option, None, Some}
use Rattle.plain_graph.specs.Meaning as meaning
use Rattle.plain_graph.specs.Properties.{no_properties}
use Rattle.plain_graph.specs.declared.item.Item.{Item}
use Rattle.plain_graph.specs.declared.item.Item.TheVariants as items
use Rattle.node_store.specs.Loading.{row_at}
use Rattle.node_store.specs.NodeRecord.{node_key}
use Rattle.node_store.specs.declared.node_row.NodeRow.{NodeRow}
use Rattle.prop_store.specs.Changing.{properties_of}
use Rattle.prop_store.specs.Owner.{first_of}
use Rattle.rec_bytes.specs.Format.{free_kind, relationship_first_property, relationships_file}
use Rattle.rec_bytes.specs.Key.{IsKey}
use Rattle.rel_store.specs.declared.rel_row.RelRow.{RelRow}
use Rattle.rec_bytes.specs.Space.{State}
use Rattle.store_rules.specs.Graph.{graph_of}
use Rattle.store_rules.specs.Views.{Records, kind_at}
use Rattle.traversal_run.specs.declared.elements.Owned.{Owned}

-- The owner is an element in use, and its properties are those of the item, from this first one on.
pub record Owns (s : State) (item : Item) (owned : Owned) : Type 0 where
  pub used : kind_at s.records owned.owner.key.file owned.owner.key.id ≢ free_kind
  pub are : meaning.properties_of (graph_of s.records) item ≡ properties_of s owned.owner
  pub first : owned.first ≡ first_of s.records owned.owner

-- the owner of the properties of the edge of a row
abbrev pub owned_edge : ℕ → RelRow → Owned
owned_edge id row = record {
  owner = record {
    key = record { file = relationships_file; id = id };
    field = relationship_first_property;
  };
  first = row.property;
}

-- the owner of the item's properties, or none where it has no properties
abbrev pub IsOwnerOf : State → Item → Option Owned → Type 0
IsOwnerOf s item None = meaning.properties_of (graph_of s.records) item ≡ no_properties
IsOwnerOf s item (Some owned) = Owns s item owned

-- the reads for the owner of an item: none where its row is known
abbrev pub owner_reads : Option NodeRow → ℕ
owner_reads None = 1
owner_reads (Some row) = 0

-- no row is left to read for the label: an edge and a value have none
abbrev pub IsLoaded : Item → Option NodeRow → Type 0
IsLoaded (items.Vertex id) None = ⊥
IsLoaded item row = Unit {0}

-- The item is the vertex of this row, where one is known; of what the space is only where it tells.
abbrev pub IsRowOf : Type 0 → Records → Item → Option NodeRow → Type 0
IsRowOf tells records item None = Unit {0}
IsRowOf tells records (items.Vertex id) (Some row) =
    IsKey (node_key id) × (tells → row_at records id ≡ Some row)
IsRowOf tells records (items.Edge id label from to) (Some row) = ⊥
IsRowOf tells records (items.Value value) (Some row) = ⊥
