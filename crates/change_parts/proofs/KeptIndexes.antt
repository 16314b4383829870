-- The indexes stay right where a change leaves their file, and what the nodes have.
use Rattle.std.proofs.Common.{◌≡◌, ℕ, List, sym, subst, arith, refl, ap}
use Rattle.rec_bytes.specs.declared.key.Key.{Key}
use Rattle.rec_bytes.specs.declared.shape.Shape.{Shape}
use Rattle.rec_bytes.specs.Format as format
use Rattle.rec_bytes.specs.Meta as metas
use Rattle.rec_bytes.specs.RecordFiles.{meta_key_of}
use Rattle.rec_bytes.specs.Space.{SameButReads, State}
use Rattle.store_rules.specs.Ends.{Regroups}
use Rattle.store_rules.specs.Graph.{indexes_from, indexes_of}
use Rattle.store_rules.specs.Indexes.{AreIndexed, wanted_in}
use Rattle.store_rules.specs.Properties.{Property, property_records}
use Rattle.store_rules.specs.PropertyChange.{ChangesProperties}
use Rattle.store_rules.specs.RuleList.{IsSameFile}
use Rattle.store_rules.specs.Rules.{KeepsRules}
use Rattle.store_rules.specs.Views.{Records, high, key_in, kind_in, rec_at}
use Rattle.store_rules.proofs.Changes as ch
use Rattle.store_rules.proofs.EdgeChange as ec
use Rattle.store_rules.proofs.EdgeChange.{IsEdgeChange}
use Rattle.store_rules.proofs.IndexKept.{changed_index, properties_index}
use Rattle.store_rules.proofs.IndexStays.{indexes_stay, wanted_same}
use Rattle.store_rules.proofs.MetaLaws.{not_meta_key}
use Rattle.store_rules.proofs.NodeChange as nc
use Rattle.store_rules.proofs.ValueChange.{wanted_stays}
use Rattle.change_parts.specs.Store.{IsMidway, IsStore, KeepsIndexes}

-- ---- all eight rules, or seven and the one of the indexes

pub midway : (s : State) (names : List (List ℕ)) → IsStore s names → IsMidway s names
midway s names store = record { store = store.store.store; names = store.names }

pub store_now : (s : State) (names : List (List ℕ)) → IsMidway s names → AreIndexed s.records (wanted_in s.records) → IsStore s names
store_now s names rest indexes = record { store = record { store = rest.store; indexes = indexes }; names = rest.names }

-- a space that was only read is the same store
pub whole_read : (s m : State) (names : List (List ℕ)) → SameButReads s m → IsStore s names → IsStore m names
whole_read s m names same store = subst (λ z. IsStore z names) (sym same) (record { store = store.store; names = store.names })

-- ---- the indexes of the graph

-- they are those of their file, and of the names
pub graph_indexes : (s t : Records) → IsSameFile s t format.index_file → rec_at t format.names_file ≡ rec_at s format.names_file
    → high t format.names_file ≡ high s format.names_file → indexes_of t ≡ indexes_of s
graph_indexes s t same names mark = λ i. indexes_from (λ x. kind_in (metas.meta_of (same.meta i)).high (same.records i x) x) (same.records i)
    (metas.meta_of (same.meta i)).high (names i) (mark i)

-- where a relationship came or went
pub edge_graph_indexes : (s t : Records) (id : ℕ) → IsEdgeChange s t id → indexes_of t ≡ indexes_of s
edge_graph_indexes s t id change = graph_indexes s t (ec.index_same s t id change) (ec.name_file s t id change) (ec.name_mark s t id change)

-- where a node came or went
pub node_graph_indexes : (s t : Records) (id : ℕ) → ch.IsChanged s t format.nodes_file id → indexes_of t ≡ indexes_of s
node_graph_indexes s t id change = graph_indexes s t (changed_index s t format.nodes_file id change (λ e. omega arith)) (nc.name_file s t id change)
    (nc.name_mark s t id change)

-- ---- what the nodes have

-- groups that were made, given back or filled
pub regroups_keep : (s t : State) (n : ℕ) → Regroups s t n → KeepsIndexes s t
regroups_keep s t n change indexes = indexes_stay s.records t.records index (wanted_in t.records)
    (subst (AreIndexed s.records) (sym (wanted_same s.records t.records (λ i x. change.nodes x i) files)) indexes)
  where
    index : IsSameFile s.records t.records format.index_file
    index = record {
      records = λ i x. change.others (key_in format.index_file x) (λ e. omega arith) (λ e. omega arith) (λ e. omega arith)
          (not_meta_key format.index_file x format.groups_file refl) i;
      meta = change.others (meta_key_of format.index_file) (λ e. omega arith) (λ e. omega arith) (λ e. omega arith)
          (λ e. let f = ap (λ (k : Key). k.id) e in omega arith);
    }

    files : property_records t.records ≡ property_records s.records
    files = λ i. record {
      properties = λ x. change.others (key_in format.properties_file x) (λ e. omega arith) (λ e. omega arith) (λ e. omega arith)
          (not_meta_key format.properties_file x format.groups_file refl) i;
      strings = λ x. change.others (key_in format.strings_file x) (λ e. omega arith) (λ e. omega arith) (λ e. omega arith)
          (not_meta_key format.strings_file x format.groups_file refl) i;
    }

-- properties of a relationship
pub properties_keep : (s t : State) (shape : Shape) (file x : ℕ) (old new : List Property) → ChangesProperties s.records t.records shape file x old new
    → file ≡ format.relationships_file → {most : ℕ} {empty : List ℕ} → KeepsRules s.records shape most empty → KeepsIndexes s t
properties_keep s t shape file x old new change is well indexes =
    indexes_stay s.records t.records (properties_index s.records t.records shape file x old new change) (wanted_in t.records)
    (subst (AreIndexed s.records) (sym (wanted_stays s.records t.records shape file x old new change well is)) indexes)
