-- A node's record over a store that has its label's name.
use Rattle.std.specs.Prelude.{slice_get}
use Rattle.std.proofs.Common.{◌≡◌, ◌≢◌, ℕ, ◌<◌, nat_eq, Bool, true, false, cond, Option, None, Some, List, sym, ap, ◌∙◌, subst, arith, refl}
use Rattle.plain_graph.specs.Graph.{node_number, with_row}
use Rattle.plain_graph.specs.Properties.{no_properties}
use Rattle.rec_bytes.specs.declared.key.Key.{Key}
use Rattle.rec_bytes.specs.declared.record.Rec.{Rec}
use Rattle.rec_bytes.specs.Format as format
use Rattle.rec_bytes.specs.Meta as metas
use Rattle.rec_bytes.specs.Record.{field}
use Rattle.rec_bytes.specs.RecordFiles.{meta_key_of}
use Rattle.rec_bytes.specs.Space.{State, after_put, put}
use Rattle.rec_bytes.proofs.Spaces.{put_same, put_other}
use Rattle.store_rules.specs.Rules.{IsWellFormed}
use Rattle.store_rules.specs.Views.{NodeRow, Records, high, kind_at, node_at, node_in, rec_at, text_of}
use Rattle.store_rules.proofs.Made.{IsMade}
use Rattle.store_rules.proofs.ViewLaws.{some_row}
use Rattle.store_rules.proofs.NodeChange.{edges_stay, names_stay}
use Rattle.store_rules.proofs.NodeMade.{IsNewNode, node_added, node_fresh, node_well}
use Rattle.id_freelist.specs.FreeLists.{IsFreeList}
use Rattle.id_freelist.specs.Taking.{HasTaken}
use Rattle.id_freelist.proofs.Making.{is_made}
use Rattle.node_store.specs.NodeRecord.{node_key, node_record}
use Rattle.node_store.proofs.NodeRecords.{IsNewNode-node_record}
use Rattle.node_changes.specs.NodeAdding.{PutsNode, new_row}
use Rattle.change_parts.specs.Store.{IsMidway}
use Rattle.store_rules.proofs.IndexKept.{changed_index, made_indexed}
use Rattle.store_rules.specs.Indexes.{has_hash, listed_from, row_value, value_in, wanted_in}
use Rattle.store_rules.specs.Properties.{PropertyRecords, followed, property_records}
use Rattle.node_changes.specs.Entries.{LacksEntries}
use Rattle.store_rules.proofs.Shapes.{room_small}
use Rattle.change_parts.proofs.KeptIndexes.{node_graph_indexes}
use Rattle.change_parts.proofs.NameNumbers.{number_in}
use Rattle.store_rules.specs.Graph.{graph_in}

module _ (s m t : State) (names : List (List ℕ)) (id number : ℕ) (label : List ℕ) (store : IsMidway s names) (at : slice_get names number ≡ Some label)
    (taken : (free : List ℕ) → IsFreeList s.records format.nodes_file free → HasTaken s.records m.records format.nodes_file id free)
    (small : id < s.shape.limit) (shape : m.shape ≡ s.shape) (saved : t ≡ after_put m (node_key id) (node_record (new_row id number))) where
  abbrev rec : Rec
  rec = node_record (new_row id number)

  abbrev after : Records
  after = put m.records (node_key id) rec

  known : (number < high s.records format.names_file) × (text_of (rec_at s.records format.names_file number) ≡ label)
  known = number_in s.records names number label store.names at

  fresh : IsNewNode rec number
  fresh = let few = (store.store.ranges.metas format.names_file refl).high in IsNewNode-node_record id number (omega (arith, known.0, few))

  has : HasTaken s.records m.records format.nodes_file id (store.store.split format.nodes_file refl).0
  has = let split = store.store.split format.nodes_file refl in taken split.0 split.1.walk

  made : IsMade s.records after s.shape format.nodes_file id rec
  made = let split = store.store.split format.nodes_file refl in
      is_made s.records m.records after s.shape format.nodes_file id split.0 rec refl split.1 has (put_same m.records (node_key id) rec)
      (put_other m.records (node_key id) rec)
      (λ e. let k = fresh.kind in omega arith) small (room_small s.records s.shape format.nodes_file store.store.ranges)
      (store.store.ranges.metas format.nodes_file refl)

  other_meta : (file : ℕ) → file ≢ format.nodes_file → after (meta_key_of file) ≡ s.records (meta_key_of file)
  other_meta file ne = put_other m.records (node_key id) rec (meta_key_of file) (λ e. let f = ap (λ (k : Key). k.file) e in omega arith)
      ∙ has.others (meta_key_of file) (λ e. ne (ap (λ (k : Key). k.id) e))

  -- it leads to no property
  no_value : (files : PropertyRecords) (k : ℕ) → value_in (listed_from files format.nil) k ≡ None
  unfolding followed
  no_value files k = refl

  row_nil : (files : PropertyRecords) (l k : ℕ) (o : Option NodeRow) → ((row : NodeRow) → o ≡ Some row → row.property ≡ format.nil)
      → row_value files l k o ≡ None
  row_nil files l k None bare = refl
  row_nil files l k (Some row) bare = ap (λ first. cond (nat_eq row.label l) (value_in (listed_from files first) k) None) (bare row refl)
      ∙ by (nat_eq row.label l)
    where
      by : (b : Bool) → cond b (value_in (listed_from files format.nil) k) None ≡ None
      by true = no_value files k
      by false = refl

  lacks : LacksEntries (wanted_in after) id
  lacks l k hash = ap (has_hash hash) (row_nil (property_records after) l k (node_at after id)
      (λ row is. ap (λ (r : NodeRow). r.property) (sym (some_row (kind_at after format.nodes_file id) (node_in (rec_at after format.nodes_file id) id)
      row is).1) ∙ ap (λ r. field 4 r format.node_first_property) made.here ∙ fresh.property))

  puts : PutsNode s (after_put m (node_key id) rec) names number label id
  puts = record {
    store = record {
      store = subst (IsWellFormed after) (sym shape) (node_well s.records after s.shape id number rec made fresh store.store known.0);
      names = store.names ∙ sym (names_stay s.records after id made.change);
    };
    keeps = made_indexed s.records after s.shape id number rec made fresh;
    indexes = node_graph_indexes s.records after id made.change;
    below = small;
    fresh = node_fresh s.records after s.shape id number rec made fresh store.store known.0;
    nodes = node_added s.records after s.shape id number rec made fresh store.store known.0
        ∙ ap (λ l. with_row node_number (record { id = id; label = l; properties = no_properties }) (graph_in s).nodes) known.1;
    edges = edges_stay s.records after id made.change;
    numbered = ap (λ r. field 4 r format.node_label) made.here ∙ fresh.label;
    file = changed_index s.records after format.nodes_file id made.change (λ e. omega arith);
    lacks = lacks;
    metas = λ file ne. ap metas.meta_of (other_meta file ne);
  }

  pub puts_node : PutsNode s t names number label id
  puts_node = subst (λ z. PutsNode s z names number label id) (sym saved) puts
