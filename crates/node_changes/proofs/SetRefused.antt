-- A value that isn't set, since the file of the indexes has no room for its entry.
use Rattle.std.specs.Prelude.{slice_get}
use Rattle.std.proofs.Common.{◌≡◌, ℕ, ◌*◌, ◌<◌, ◌≤◌, true, Option, None, Some, List, length, map, ap, sym, ◌∙◌, subst, arith, refl}
use Rattle.plain_graph.specs.Graph.{UsesName, has_element, with_value}
use Rattle.plain_graph.specs.Indexes.{index_records}
use Rattle.plain_graph.specs.Refusals.{most_names}
use Rattle.plain_graph.specs.declared.command.Command.TheVariants as commands
use Rattle.plain_graph.specs.declared.command.Target.{Target}
use Rattle.plain_graph.specs.declared.command.Target.TheVariants as targets
use Rattle.plain_graph.specs.declared.value.Value.{Value}
use Rattle.rec_bytes.specs.declared.record.Rec.{Rec}
use Rattle.rec_bytes.specs.declared.shape.Shape.{Shape}
use Rattle.rec_bytes.specs.Format as format
use Rattle.rec_bytes.specs.Meta as metas
use Rattle.rec_bytes.specs.Space.{State, meta_of}
use Rattle.store_rules.specs.Indexes.{node_value}
use Rattle.store_rules.specs.RuleList.{IsSameFile}
use Rattle.store_rules.specs.Views.{high}
use Rattle.store_rules.proofs.IndexKept.{properties_index}
use Rattle.prop_index.specs.Listing.{pair_of}
use Rattle.prop_store.specs.Changing.{HasElement, SetsValue}
use Rattle.prop_store.specs.Owner.{IsOwner}
use Rattle.change_parts.specs.Change.{IsRefusal}
use Rattle.node_changes.specs.Entries.{IsIndexedValue, LacksValue, is_listed}
use Rattle.change_parts.specs.Owners.{owner_of}
use Rattle.change_parts.specs.Rooms.{LacksRoom}
use Rattle.change_parts.specs.Store.{IsMidway, IsStore, KeepsElements}
use Rattle.change_parts.specs.declared.change_fault.ChangeFault.{ChangeFault}
use Rattle.node_changes.specs.declared.entries.IndexedValue.{IndexedValue}
use Rattle.change_parts.proofs.GraphPairs.{is_among, text}
use Rattle.node_changes.proofs.HeldWeights.{listed_among}
use Rattle.node_changes.proofs.KeyCounts.{records_more}
use Rattle.node_changes.proofs.LiveIndexes.{live_indexes}
use Rattle.change_parts.proofs.PairsPut.{label_at}
use Rattle.node_changes.proofs.Setting.{entry_refused, number_low, number_text}
use Rattle.store_rules.specs.Graph.{graph_in}

pub set_entry_refused : (s : State) (old : List (List ℕ)) (target : Target) (key : List ℕ) (value : Value) (store : IsMidway s old)
    (there : has_element (graph_in s) target ≡ true)
    (n u : State) (new : List (List ℕ)) (number : ℕ) (uses : UsesName old key new) (kept : KeepsElements s n new) (few : length new ≤ most_names)
    (at : slice_get new number ≡ Some key)
    (whole : IsStore n new) (owned : IsOwner (owner_of target)) (has : HasElement n (owner_of target)) (released : ℕ)
    (sets : SetsValue n u (owner_of target) number value released) (shape : u.shape ≡ n.shape)
    (held : Option IndexedValue) → IsIndexedValue n.records (map (pair_of n.records) whole.store.indexes.definitions) target number held
    → (fault : ChangeFault) → LacksValue held → LacksRoom u format.index_file 1 fault
    → IsRefusal s.shape.limit (graph_in s) (commands.Set target key value) fault
set_entry_refused s old (targets.Edge id) key value store there n u new number uses kept few at whole owned has released sets shape held is fault lacks why =
    absurd (subst LacksValue is lacks)
set_entry_refused s old (targets.Node id) key value store there n u new number uses kept few at whole owned has released sets shape None is fault lacks why =
    absurd lacks
set_entry_refused s old (targets.Node id) key value store there n u new number uses kept few at whole owned has released sets shape (Some held) is fault lacks
    why =
    subst (IsRefusal s.shape.limit (graph_in s) (commands.Set (targets.Node id) key value)) (sym why.is)
    (entry_refused s old (targets.Node id) key value store there n new number (owner_of (targets.Node id)) refl uses kept few at u released sets shape
    (no_room, refl) (meta_of u format.index_file).live)
  where
    low : number < high n.records format.names_file
    low = number_low n new number key kept.store at

    text_is : text n.records number ≡ key
    text_is = number_text n new number key kept.store at

    none : node_value n.records (label_at n.records id) number id ≡ None
    none = sym (ap (λ l. node_value n.records l number id) is.2) ∙ sym is.4 ∙ lacks

    listed : is_among n.records whole.store.indexes.definitions (label_at n.records id) number ≡ true
    listed = sym (listed_among n.records whole.store.indexes.definitions (label_at n.records id) number)
        ∙ ap (λ l. is_listed (map (pair_of n.records) whole.store.indexes.definitions) l number) (sym is.2) ∙ is.3

    more : index_records (graph_in n) < index_records (with_value (graph_in n) (targets.Node id) key value)
    more = subst (λ k. index_records (graph_in n) < index_records (with_value (graph_in n) (targets.Node id) k value)) text_is
        (records_more n id whole.store owned has number low value none listed)

    -- the graphs have the same nodes and indexes
    same_records : index_records (graph_in n) ≡ index_records (graph_in s)
    same_records = λ i. index_records (record { nodes = kept.nodes i; edges = (graph_in s).edges; names = (graph_in s).names; indexes = kept.indexes i })

    same_then : index_records (with_value (graph_in n) (targets.Node id) key value) ≡ index_records (with_value (graph_in s) (targets.Node id) key value)
    same_then = λ i. index_records (with_value (record {
      nodes = kept.nodes i;
      edges = (graph_in s).edges;
      names = (graph_in s).names;
      indexes = kept.indexes i;
    }) (targets.Node id) key value)

    file : IsSameFile n.records u.records format.index_file
    file = properties_index n.records u.records n.shape format.nodes_file id sets.changes.before sets.changes.after sets.changes.changes

    no_room : 2 * s.shape.limit < index_records (with_value (graph_in s) (targets.Node id) key value)
    no_room =
        let live = ap (λ (r : Rec). (metas.meta_of r).live) file.meta in
        let counted = live_indexes n whole.store in
        let limit = ap (λ (h : Shape). h.limit) (shape ∙ kept.shape) in
        let lt = why.lacks in
        let then = same_then in
        let less = more in
        omega (arith, live, counted, limit, lt, then, less)
