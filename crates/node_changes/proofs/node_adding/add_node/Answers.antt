use Rattle.std.specs.FinMap as maps
use Rattle.std.specs.Prelude.{Err, IfErr}
use Rattle.std.proofs.Common.{◌≡◌, ◌≢◌, ⊎_elim, ℕ, ◌+◌, ◌-◌, ◌*◌, ◌<◌, ◌≤◌, List, [], ◌∷◌, length, map}
use Rattle.std.proofs.Common.{◌∙◌, sym, ap, subst, append-nil, inl, inr, arith, refl, rules}
use Rattle.std.proofs.lemmas.Bool.{false≢true}
use Rattle.plain_graph.specs.Changes.{properties_weight}
use Rattle.plain_graph.specs.Graph.{UsesNames}
use Rattle.plain_graph.specs.Properties.{blocks_in, keys_in, no_properties, with_pairs}
use Rattle.plain_graph.specs.Refusals.{change_reasons}
use Rattle.plain_graph.specs.Reply.{NodeMade}
use Rattle.plain_graph.specs.declared.command.Command.TheVariants as commands
use Rattle.plain_graph.specs.declared.command.Target.TheVariants as targets
use Rattle.plain_graph.specs.declared.pairs.Pair.{Pair}
use Rattle.plain_graph.specs.declared.value.Value.{Value}
use Rattle.plain_graph.proofs.PropertyLaws.{order}
use Rattle.rec_bytes.specs.declared.meta.Meta.{Meta}
use Rattle.rec_bytes.specs.Space.{State, meta_of}
use Rattle.rec_bytes.specs.Format as format
use Rattle.store_rules.specs.Indexes.{AreIndexed, IsIndexed, wanted_in}
use Rattle.id_freelist.specs.Taking.{taken_id}
use Rattle.store_rules.specs.Views.{Records, high, key_in}
use Rattle.store_rules.specs.Writes.{WritesAtMost, WritesBeside}
use Rattle.prop_index.specs.Listing.{pair_of}
use Rattle.prop_store.specs.Touching.{LeavesElement}
use Rattle.prop_store.specs.declared.owner.Owner.{Owner}
use Rattle.change_parts.specs.Assigning.{CanPut, HasPropertyRoom, IsPutCause, PutsPairs, assigned_blocks, pairs_of}
use Rattle.change_parts.specs.Change.{IsCounted, IsRefusal, MakesChange}
use Rattle.change_parts.specs.ChangeFault.{IsOutside, LeavesSpace, MayComeLate}
use Rattle.node_changes.specs.Entries.{AreKeysOnce, ArePairsOf, WeighsNode, indexed_of}
use Rattle.change_parts.specs.GivenValues.{GivesValues, with_assigned}
use Rattle.node_changes.specs.NodeAdding.{PutsNode}
use Rattle.change_parts.specs.Rooms.{HasRoom, LacksRoom}
use Rattle.change_parts.specs.declared.assigning.Assignment.{Assignment}
use Rattle.change_parts.specs.Preparing.{IsPrepared}
use Rattle.change_parts.specs.Store.{IsMidway, IsStore}
use Rattle.change_parts.proofs.KeptIndexes.{midway}
use Rattle.change_parts.proofs.Counted.{outside_counted, room_counted}
use Rattle.change_parts.proofs.ElementRooms.{room_before, room_still}
use Rattle.change_parts.proofs.Exits.{exit_is, failure_late, fault_exit, late_leaves, read_leaves}
use Rattle.change_parts.proofs.Late.{is_err}
use Rattle.node_changes.proofs.NodeAdded.{can_put, full_fault, full_refused, line_refused, not_full, put_room, room_kept}
use Rattle.change_parts.proofs.Reasons.{outside_refused}
use Rattle.store_rules.proofs.WriteLaws.{beside_then, beside_written, more_written, none_written, then_written}
use Rattle.change_parts.proofs.Writes.{on_any_err}
use Rattle.change_parts.specs.Causes.{AsksRoom, IsCaused, IsCausedAfter}
use Rattle.change_parts.proofs.Causes.{broken_left, failure_caused, line_node, put_caused, room_caused}
use Rattle.node_changes.proofs.EntriesFaults.{entry_caused}
use Rattle.node_changes.proofs.EntriesNamed.{found_before, some_leaves}
use Rattle.change_parts.specs.Damage.{BlamesEntries, LeavesIndexes, IsAsFound, IsBroken, IsOfIndex, KeepsButNames}
use Rattle.node_changes.proofs.EntriesFaults.{names_leave, other_leaves}
use Rattle.change_parts.proofs.Adding.{index_beside, line_blamed, lists_before, lists_broken, names_harm_no_lists}
use Rattle.change_parts.proofs.Adding.{no_lists_then, node_damage, node_harms_no_lists, room_blamed}
use Rattle.change_parts.proofs.Broken.{blames_both, blames_more}
use Rattle.change_parts.proofs.DiskCauses.{change_cause_passed, later_on, room_refusal_cause}
use Rattle.node_changes.proofs.IndexBeside.{index_written, touched_beside}
use Rattle.node_changes.proofs.NodeStands.{node_stands}
use Rattle.node_changes.proofs.NodeEntries.{added_made, entries, entries_refused, keys_once, listed, node_low, pairs_then, prepared_read, room_then}
use Rattle.node_changes.proofs.NodeEntries.{whole_before}
use Rattle.rec_bytes.proofs.Causes.{never_ok, ok_cause}
use Rattle.node_changes.proofs.node_adding.add_node.Goals as goal
use Rattle.node_changes.proofs.node_adding.add_node.Goals.{After-enter_values, After-listed_pairs, After-put_properties}
use Rattle.node_changes.proofs.node_adding.add_node.Goals.{In_err-enter_values, In_err-id, In_err-listed}
use Rattle.node_changes.proofs.node_adding.add_node.Goals.{In_err-put_properties, In_ok-id, In_ok-listed}
use Rattle.node_changes.proofs.node_adding.add_node.Goals.{After-entry_count-entries}
use Rattle.node_changes.proofs.node_adding.add_node.Given.{Over}
use Rattle.store_rules.specs.Graph.{graph_in}

-- ---- no room for a node
pub returns-in_err-test_room-clause-refused : goal.returns-in_err-test_room-clause-refused
returns-in_err-test_room-clause-refused g c tells whole =
    let store = midway _ _ whole in
    let s = g.S.Reads.state c.args.space.now in
    fault_exit (λ f. f) (IsRefusal s.shape.limit (graph_in s) (commands.Node c.args.label.now c.args.pairs.now)) c.in_err-test_room.field-0.0
    c.from_residual.result c.from_residual.ensures.1
    (full_refused s c.args.names.now.names c.args.label.now c.args.pairs.now store c.in_err-test_room.field-0.0 c.in_err-test_room.ensures.full)

pub returns-in_err-test_room-clause-full : goal.returns-in_err-test_room-clause-full
returns-in_err-test_room-clause-full g c whole full =
    let store = midway _ _ whole in
    exit_is c.in_err-test_room.field-0.0 c.from_residual.result c.from_residual.ensures.1
    ∙ ap (λ f. Err f) (full_fault (g.S.Reads.state c.args.space.now) c.args.names.now.names store c.in_err-test_room.field-0.0 c.in_err-test_room.ensures.full)

-- ---- names and properties are refused
pub returns-in_err-prepared-clause-refused : goal.returns-in_err-prepared-clause-refused
returns-in_err-prepared-clause-refused g c tells whole =
    let store = midway _ _ whole in
    let s = g.S.Reads.state c.args.space.now in
    subst (λ l. IfErr c.from_residual-in_err-prepared.result (IsRefusal s.shape.limit (graph_in s) (commands.Node c.args.label.now l))) c.as_slice-pairs.ensures
    (fault_exit (λ f. f) (IsRefusal s.shape.limit (graph_in s) (commands.Node c.args.label.now c.as_slice-pairs.result.now)) c.in_err-prepared.field-0.0
    c.from_residual-in_err-prepared.result c.from_residual-in_err-prepared.ensures.1
    (line_refused s c.args.label.now c.as_slice-pairs.result.now (not_full s c.args.names.now.names store c.in_ok-test_room.ensures.room)
    c.in_err-prepared.field-0.0 (c.in_err-prepared.ensures.refused tells store)))

pub returns-in_err-prepared-clause-full : goal.returns-in_err-prepared-clause-full
returns-in_err-prepared-clause-full g c whole full = let store = midway _ _ whole in
    absurd (not_full (g.S.Reads.state c.args.space.now) c.args.names.now.names store c.in_ok-test_room.ensures.room full)

-- ---- the pairs that have an index
module _ (g : Over) (c : After-listed_pairs g) where
  abbrev before : State
  before = g.S.Reads.state c.args.space.now

  abbrev read_from : State
  read_from = g.S.Reads.state c.prepare.new.space

  abbrev at_read : State
  at_read = g.S.Reads.state c.listed_pairs.new.space

  same_shape : at_read.shape ≡ before.shape
  same_shape = g.met.S.Reads.onward_shape _ _ c.listed_pairs.ensures.onward ∙ g.met.S.Reads.onward_shape _ _ c.prepare.ensures.onward

  -- only names are new
  beside_names : g.S.Reads.tells → KeepsButNames before at_read
  beside_names tells = subst (λ (y : State). KeepsButNames before y) (sym c.listed_pairs.ensures.same) (c.in_ok-prepared.ensures.stays tells)

  nodes_meta : g.S.Reads.tells → meta_of at_read format.nodes_file ≡ meta_of before format.nodes_file
  nodes_meta tells = subst (λ (y : State). meta_of y format.nodes_file ≡ meta_of before format.nodes_file) (sym c.listed_pairs.ensures.same)
      (c.in_ok-prepared.ensures.metas tells).nodes

  index_meta : g.S.Reads.tells → meta_of at_read format.index_file ≡ meta_of before format.index_file
  index_meta tells = index_beside before at_read (beside_names tells)

  abbrev at_hand : g.S.Reads.tells → IsMidway before c.args.names.now.names
      → IsPrepared before at_read c.prepare.new.names.names c.args.label.now c.as_slice-pairs.result.now c.in_ok-prepared.prepared
  at_hand tells store = prepared_read before read_from at_read c.prepare.new.names.names c.args.label.now c.as_slice-pairs.result.now c.in_ok-prepared.prepared
      c.listed_pairs.ensures.same (c.in_ok-prepared.ensures.prepared tells store)

  room_there : g.S.Reads.tells → HasRoom at_read format.nodes_file 1
  room_there tells = room_still before at_read format.nodes_file 1 (ap (λ (m : Meta). m.live) (nodes_meta tells)) same_shape c.in_ok-test_room.ensures.room

module _ (g : Over) (c : In_ok-listed g) (tells : g.S.Reads.tells) (whole : IsStore (g.S.Reads.state c.args.space.now) c.args.names.now.names) where
  abbrev back : After-listed_pairs g
  back = (goal.at.In_ok-listed g c).After-listed_pairs

  listed_is : c.in_ok-listed.listed.items ≡ listed (before g back) (at_read g back) c.args.names.now.names c.prepare.new.names.names c.args.label.now
      c.as_slice-pairs.result.now c.in_ok-prepared.prepared whole (at_hand g back tells (midway _ _ whole))
  listed_is = subst (λ (y : State). (store : IsIndexed y.records y.shape) → c.in_ok-listed.listed.items ≡ map (pair_of y.records) store.indexes.definitions)
      (sym c.listed_pairs.ensures.same)
      (λ store. c.in_ok-listed.ensures.listed tells (wanted_in (read_from g back).records) store.indexes store.store)
      (whole_before (before g back) (at_read g back) c.args.names.now.names c.prepare.new.names.names c.args.label.now c.as_slice-pairs.result.now
      c.in_ok-prepared.prepared whole (at_hand g back tells (midway _ _ whole))).store

-- where they are read without the rules
listed_outside : (g : Over) (c : In_err-listed g) → g.S.Reads.tells → IsStore (g.S.Reads.state c.args.space.now) c.args.names.now.names
    → IsOutside c.in_err-listed.field-0.0
listed_outside g c tells whole =
    let z = g.S.Reads.state c.prepare.new.space in
    let hand = c.in_ok-prepared.ensures.prepared tells (midway _ _ whole) in
    c.in_err-listed.ensures.not_damaged tells (wanted_in z.records) (hand.kept.keeps whole.store.indexes) hand.kept.store.store

pub returns-in_err-listed-clause-refused : goal.returns-in_err-listed-clause-refused
returns-in_err-listed-clause-refused g c tells whole =
    let s = g.S.Reads.state c.args.space.now in
    let command = commands.Node c.args.label.now c.args.pairs.now in
    fault_exit (λ f. f) (IsRefusal s.shape.limit (graph_in s) command) c.in_err-listed.field-0.0 c.from_residual-in_err-listed.result
    c.from_residual-in_err-listed.ensures.1
    (outside_refused change_reasons s.shape.limit (graph_in s) command c.in_err-listed.field-0.0 (listed_outside g (goal.at.returns-in_err-listed-clause-refused
    g c).In_err-listed tells whole))

pub returns-in_err-listed-clause-full : goal.returns-in_err-listed-clause-full
returns-in_err-listed-clause-full g c whole full = absurd (not_full (g.S.Reads.state c.args.space.now) c.args.names.now.names (midway _ _ whole)
    c.in_ok-test_room.ensures.room full)

pub returns-in_err-listed-clause-leaves : goal.returns-in_err-listed-clause-leaves
returns-in_err-listed-clause-leaves g c tells =
    let s = g.S.Reads.state c.args.space.now in
    let u = g.S.Reads.state c.listed_pairs.new.space in
    fault_exit (λ f. f) (LeavesSpace s u) c.in_err-listed.field-0.0 c.from_residual-in_err-listed.result c.from_residual-in_err-listed.ensures.1
    (late_leaves s u c.in_err-listed.field-0.0 (failure_late c.in_err-listed.field-0.0 c.in_err-listed.ensures.failure))

pub returns-in_err-listed-clause-refused_writes : goal.returns-in_err-listed-clause-refused_writes
returns-in_err-listed-clause-refused_writes g c = on_any_err _ _ (more_written (omega arith) (then_written c.prepare.ensures.few_writes
    (none_written _ _ c.listed_pairs.ensures.same)))

pub returns-in_err-listed-clause-counts : goal.returns-in_err-listed-clause-counts
returns-in_err-listed-clause-counts g c tells whole =
    let s = g.S.Reads.state c.args.space.now in
    fault_exit (λ f. f) (IsCounted s) c.in_err-listed.field-0.0 c.from_residual-in_err-listed.result c.from_residual-in_err-listed.ensures.1
    (outside_counted s c.in_err-listed.field-0.0 (listed_outside g (goal.at.returns-in_err-listed-clause-counts g c).In_err-listed tells whole))

pub returns-in_err-listed-clause-caused : goal.returns-in_err-listed-clause-caused
returns-in_err-listed-clause-caused g c tells =
    let s = g.S.Reads.state c.args.space.now in
    let u = g.S.Reads.state c.listed_pairs.new.space in
    let names = c.args.names.now.names in
    let now = c.prepare.new.names.names in
    let command = commands.Node c.args.label.now c.args.pairs.now in
    fault_exit (λ f. f) (IsCaused command s u names now) c.in_err-listed.field-0.0 c.from_residual-in_err-listed.result c.from_residual-in_err-listed.ensures.1
    (failure_caused command s u names now c.in_err-listed.field-0.0 c.in_err-listed.ensures.failure)

pub returns-in_err-listed-clause-caused_after : goal.returns-in_err-listed-clause-caused_after
returns-in_err-listed-clause-caused_after g c tells =
    let z = g.S.Reads.state c.prepare.new.space in
    let u = g.S.Reads.state c.listed_pairs.new.space in
    let names = c.args.names.now.names in
    let now = c.prepare.new.names.names in
    let command = commands.Node c.args.label.now c.args.pairs.now in
    let fault = c.in_err-listed.field-0.0 in
    fault_exit (λ f. f) (IsCausedAfter command u names now) fault c.from_residual-in_err-listed.result c.from_residual-in_err-listed.ensures.1
    (record {
      caused = failure_caused command u u names now fault c.in_err-listed.ensures.failure;
      damaged = broken_left z u c.listed_pairs.ensures.same fault
          (c.in_err-listed.ensures.damaged tells);
    })

pub returns-in_err-listed-clause-damaged : goal.returns-in_err-listed-clause-damaged
returns-in_err-listed-clause-damaged g c tells =
    let s = g.S.Reads.state c.args.space.now in
    let z = g.S.Reads.state c.prepare.new.space in
    let u = g.S.Reads.state c.listed_pairs.new.space in
    let after = (goal.at.returns-in_err-listed-clause-damaged g c).After-listed_pairs in
    let fault = c.in_err-listed.field-0.0 in
    fault_exit (λ f. f) (BlamesEntries s u) c.in_err-listed.field-0.0
    c.from_residual-in_err-listed.result c.from_residual-in_err-listed.ensures.1
    (blames_more _ _ (λ damage k. inr (
      (k.0, subst (λ (y : State). IsBroken y damage) (sym c.listed_pairs.ensures.same) k.1),
      names_leave s u
          (beside_names g after tells) damage k.0,
    )) fault (blames_both IsOfIndex (IsBroken z) fault (c.in_err-listed.ensures.names tells)
    (c.in_err-listed.ensures.damaged tells)))

pub returns-in_err-listed-clause-cause : goal.returns-in_err-listed-clause-cause
returns-in_err-listed-clause-cause g c =
    change_cause_passed _ _ _ c.from_residual-in_err-listed.result c.in_err-listed.field-0.0 c.in_ok-prepared.ensures.cause.later c.in_err-listed.ensures.cause
    c.from_residual-in_err-listed.ensures.1

-- ---- no room for its entries
entries_are : (g : Over) (c : After-entry_count-entries g) (tells : g.S.Reads.tells) (whole : IsStore (g.S.Reads.state c.args.space.now) c.args.names.now.names)
    → c.entry_count-entries.result ≡ entries (g.S.Reads.state c.args.space.now) (g.S.Reads.state c.listed_pairs.new.space) c.args.names.now.names
    c.prepare.new.names.names c.args.label.now c.as_slice-pairs.result.now c.in_ok-prepared.prepared whole
    (at_hand g (goal.at.After-entry_count-entries g c).After-listed_pairs tells (midway _ _ whole))
entries_are g c tells whole =
    let into = c.deref.ensures.value ∙ listed_is g (goal.at.After-entry_count-entries g c).In_ok-listed tells whole in
    c.entry_count-entries.ensures.is ∙ (λ i. length (indexed_of (into i) c.in_ok-prepared.prepared.label (c.deref-2.ensures.0 i)))

pub returns-in_err-test_room-2-clause-refused : goal.returns-in_err-test_room-2-clause-refused
returns-in_err-test_room-2-clause-refused g c tells whole =
    let store = midway _ _ whole in
    let at = goal.at.returns-in_err-test_room-2-clause-refused g c in
    let s = g.S.Reads.state c.args.space.now in
    let u = g.S.Reads.state c.listed_pairs.new.space in
    let fault = c.in_err-test_room-2.field-0.0 in
    subst (λ l. IfErr c.from_residual-in_err-test_room-2.result (IsRefusal s.shape.limit (graph_in s) (commands.Node c.args.label.now l)))
    c.as_slice-pairs.ensures
    (fault_exit (λ f. f) (IsRefusal s.shape.limit (graph_in s) (commands.Node c.args.label.now c.as_slice-pairs.result.now))
    fault c.from_residual-in_err-test_room-2.result c.from_residual-in_err-test_room-2.ensures.1
    (entries_refused s u c.args.names.now.names c.prepare.new.names.names c.args.label.now c.as_slice-pairs.result.now c.in_ok-prepared.prepared whole
    (at_hand g at.After-listed_pairs tells store)
    (not_full s c.args.names.now.names store c.in_ok-test_room.ensures.room) fault
    (subst (λ n. LacksRoom u format.index_file n fault) (entries_are g at.After-entry_count-entries tells whole) c.in_err-test_room-2.ensures.full)))

pub returns-in_err-test_room-2-clause-full : goal.returns-in_err-test_room-2-clause-full
returns-in_err-test_room-2-clause-full g c whole full = absurd (not_full (g.S.Reads.state c.args.space.now) c.args.names.now.names (midway _ _ whole)
    c.in_ok-test_room.ensures.room full)

pub returns-in_err-test_room-2-clause-counts : goal.returns-in_err-test_room-2-clause-counts
returns-in_err-test_room-2-clause-counts g c tells whole =
    let s = g.S.Reads.state c.args.space.now in
    let u = g.S.Reads.state c.listed_pairs.new.space in
    fault_exit (λ f. f) (IsCounted s) c.in_err-test_room-2.field-0.0 c.from_residual-in_err-test_room-2.result c.from_residual-in_err-test_room-2.ensures.1
    (room_counted s u format.index_file c.entry_count-entries.result (index_meta g (goal.at.returns-in_err-test_room-2-clause-counts g c).After-listed_pairs
    tells) c.in_err-test_room-2.field-0.0 c.in_err-test_room-2.ensures.full)

-- the indexes have at most one entry for each property
asked : (g : Over) (c : After-entry_count-entries g) (records : Records) (now : List (List ℕ))
    → AsksRoom (commands.Node c.args.label.now c.as_slice-pairs.result.now) records now format.index_file c.entry_count-entries.result
asked g c records now =
    let given = with_pairs no_properties c.as_slice-pairs.result.now in
    let assigned = c.in_ok-prepared.prepared.assigned.items in
    inr (inr (
      refl,
      ⊎_elim
          (λ (k : (format.properties_file ≡ format.properties_file) × (length assigned ≡ maps.len given)).
          let few = c.entry_count-entries.ensures.few in let same = ap length c.deref-2.ensures.0 in let len = k.1 in omega (arith, few, same, len))
          (λ (k : (format.properties_file ≡ format.strings_file) × (length assigned ≡ blocks_in given)). absurd (omega
          (arith, k.0))) c.in_ok-prepared.ensures.needs.0,
    ))

pub returns-in_err-test_room-2-clause-caused : goal.returns-in_err-test_room-2-clause-caused
returns-in_err-test_room-2-clause-caused g c tells =
    let at = goal.at.returns-in_err-test_room-2-clause-caused g c in
    let s = g.S.Reads.state c.args.space.now in
    let u = g.S.Reads.state c.listed_pairs.new.space in
    let names = c.args.names.now.names in
    let now = c.prepare.new.names.names in
    let command = commands.Node c.args.label.now c.as_slice-pairs.result.now in
    let fault = c.in_err-test_room-2.field-0.0 in
    subst (λ l. IfErr c.from_residual-in_err-test_room-2.result (IsCaused (commands.Node c.args.label.now l) s u names now)) c.as_slice-pairs.ensures
    (fault_exit (λ f. f) (IsCaused command s u names now) fault c.from_residual-in_err-test_room-2.result c.from_residual-in_err-test_room-2.ensures.1
    (room_caused command s u names now format.index_file c.entry_count-entries.result (asked g at.After-entry_count-entries s.records now) fault
    (room_before s u format.index_file c.entry_count-entries.result (index_meta g at.After-listed_pairs tells) (same_shape g at.After-listed_pairs)
    fault c.in_err-test_room-2.ensures.full)))

pub returns-in_err-test_room-2-clause-caused_after : goal.returns-in_err-test_room-2-clause-caused_after
returns-in_err-test_room-2-clause-caused_after g c tells =
    let at = goal.at.returns-in_err-test_room-2-clause-caused_after g c in
    let u = g.S.Reads.state c.listed_pairs.new.space in
    let names = c.args.names.now.names in
    let now = c.prepare.new.names.names in
    let command = commands.Node c.args.label.now c.as_slice-pairs.result.now in
    let fault = c.in_err-test_room-2.field-0.0 in
    subst (λ l. IfErr c.from_residual-in_err-test_room-2.result (IsCausedAfter (commands.Node c.args.label.now l) u names now)) c.as_slice-pairs.ensures
    (fault_exit (λ f. f) (IsCausedAfter command u names now) fault c.from_residual-in_err-test_room-2.result c.from_residual-in_err-test_room-2.ensures.1
    (record {
      caused = room_caused command u u names now format.index_file c.entry_count-entries.result (asked g at.After-entry_count-entries u.records now)
          fault c.in_err-test_room-2.ensures.full;
      damaged = room_blamed _ u format.index_file c.entry_count-entries.result fault
          c.in_err-test_room-2.ensures.full;
    }))

pub returns-in_err-test_room-2-clause-damaged : goal.returns-in_err-test_room-2-clause-damaged
returns-in_err-test_room-2-clause-damaged g c tells =
    let s = g.S.Reads.state c.args.space.now in
    let u = g.S.Reads.state c.listed_pairs.new.space in
    fault_exit (λ f. f) (BlamesEntries s u) c.in_err-test_room-2.field-0.0
    c.from_residual-in_err-test_room-2.result c.from_residual-in_err-test_room-2.ensures.1
    (room_blamed _ u format.index_file c.entry_count-entries.result c.in_err-test_room-2.field-0.0 c.in_err-test_room-2.ensures.full)

pub returns-in_err-test_room-2-clause-refused_writes : goal.returns-in_err-test_room-2-clause-refused_writes
returns-in_err-test_room-2-clause-refused_writes g c = on_any_err _ _ (more_written (omega arith) (then_written c.prepare.ensures.few_writes
    (none_written _ _ c.listed_pairs.ensures.same)))

-- ---- the node's record
-- only the machine can fail
node_outside : (g : Over) (c : In_err-id g) → g.S.Reads.tells → IsMidway (g.S.Reads.state c.args.space.now) c.args.names.now.names
    → IsOutside c.in_err-id.field-0.0
node_outside g c tells store =
    let kept = (at_hand g (goal.at.In_err-id g c).After-listed_pairs tells store).kept in
    c.in_err-id.ensures.not_damaged tells c.prepare.new.names.names kept.store
    (room_kept (g.S.Reads.state c.args.space.now) c.args.names.now.names store (g.S.Reads.state c.listed_pairs.new.space) c.prepare.new.names.names kept
    c.in_ok-test_room.ensures.room)

pub returns-in_err-id-clause-refused : goal.returns-in_err-id-clause-refused
returns-in_err-id-clause-refused g c tells whole =
    let store = midway _ _ whole in
    let s = g.S.Reads.state c.args.space.now in
    let command = commands.Node c.args.label.now c.args.pairs.now in
    fault_exit (λ f. f) (IsRefusal s.shape.limit (graph_in s) command) c.in_err-id.field-0.0 c.from_residual-in_err-id.result
    c.from_residual-in_err-id.ensures.1
    (outside_refused change_reasons s.shape.limit (graph_in s) command c.in_err-id.field-0.0 (node_outside g (goal.at.returns-in_err-id-clause-refused g
    c).In_err-id tells store))

pub returns-in_err-id-clause-full : goal.returns-in_err-id-clause-full
returns-in_err-id-clause-full g c whole full = let store = midway _ _ whole in
    absurd (not_full (g.S.Reads.state c.args.space.now) c.args.names.now.names store c.in_ok-test_room.ensures.room full)

pub returns-in_err-id-clause-leaves : goal.returns-in_err-id-clause-leaves
returns-in_err-id-clause-leaves g c tells =
    let s = g.S.Reads.state c.args.space.now in
    let v = g.S.Reads.state c.put_node.new.space in
    fault_exit (λ f. f) (LeavesSpace s v) c.in_err-id.field-0.0 c.from_residual-in_err-id.result c.from_residual-in_err-id.ensures.1
    (late_leaves s v c.in_err-id.field-0.0 (failure_late c.in_err-id.field-0.0 (c.in_err-id.ensures.failure tells
    (room_there g (goal.at.returns-in_err-id-clause-leaves g c).After-listed_pairs tells))))

pub returns-in_err-id-clause-refused_writes : goal.returns-in_err-id-clause-refused_writes
returns-in_err-id-clause-refused_writes g c = on_any_err _ _ (more_written (omega arith) (then_written c.prepare.ensures.few_writes
    (then_written (none_written _ _ c.listed_pairs.ensures.same) c.in_err-id.ensures.err_writes)))

-- ---- its properties
puts : (g : Over) (c : In_ok-id g) → g.S.Reads.tells → IsMidway (g.S.Reads.state c.args.space.now) c.args.names.now.names
    → PutsNode (g.S.Reads.state c.listed_pairs.new.space) (g.S.Reads.state c.put_node.new.space) c.prepare.new.names.names c.in_ok-prepared.prepared.label
    c.args.label.now c.in_ok-id.id
puts g c tells store =
    let hand = at_hand g (goal.at.In_ok-id g c).After-listed_pairs tells store in
    c.in_ok-id.ensures.put tells c.prepare.new.names.names c.args.label.now hand.kept.store hand.label_is

can : (g : Over) (c : After-put_properties g) → g.S.Reads.tells → IsMidway (g.S.Reads.state c.args.space.now) c.args.names.now.names
    → CanPut (g.S.Reads.state c.put_node.new.space) c.prepare.new.names.names (targets.Node c.in_ok-id.id) c.as_slice-pairs.result.now c.deref-3.result.now
can g c tells store =
    let at = goal.at.After-put_properties g c in
    subst (CanPut (g.S.Reads.state c.put_node.new.space) c.prepare.new.names.names (targets.Node c.in_ok-id.id) c.as_slice-pairs.result.now)
    (sym c.deref-3.ensures.0)
    (can_put (g.S.Reads.state c.args.space.now) (g.S.Reads.state c.listed_pairs.new.space) (g.S.Reads.state c.put_node.new.space) c.args.names.now.names
    c.prepare.new.names.names c.args.label.now c.as_slice-pairs.result.now c.in_ok-id.id c.in_ok-prepared.prepared store
    (at_hand g at.After-listed_pairs tells store) (puts g at.In_ok-id tells store) ((g.met.S.Reads.onward_shape _ _ c.put_node.ensures.onward)))

properties_outside : (g : Over) (c : In_err-put_properties g) → g.S.Reads.tells → IsMidway (g.S.Reads.state c.args.space.now) c.args.names.now.names
    → IsOutside c.in_err-put_properties.field-0.0
properties_outside g c tells store =
    let at = goal.at.In_err-put_properties g c in
    c.in_err-put_properties.ensures.not_damaged tells c.prepare.new.names.names (targets.Node c.in_ok-id.id) c.node_owner.ensures
    (can g at.After-put_properties tells store)
    (subst (λ l. HasPropertyRoom (g.S.Reads.state c.put_node.new.space) (length l) (assigned_blocks c.as_slice-pairs.result.now l)) (sym c.deref-3.ensures.0)
    (put_room (g.S.Reads.state c.args.space.now) (g.S.Reads.state c.listed_pairs.new.space) (g.S.Reads.state c.put_node.new.space) c.args.names.now.names
    c.prepare.new.names.names c.args.label.now c.as_slice-pairs.result.now c.in_ok-id.id c.in_ok-prepared.prepared store
    (at_hand g at.After-listed_pairs tells store) (puts g at.In_ok-id tells store) ((g.met.S.Reads.onward_shape _ _ c.put_node.ensures.onward))))

pub returns-in_err-put_properties-clause-refused : goal.returns-in_err-put_properties-clause-refused
returns-in_err-put_properties-clause-refused g c tells whole =
    let store = midway _ _ whole in
    let s = g.S.Reads.state c.args.space.now in
    let command = commands.Node c.args.label.now c.args.pairs.now in
    fault_exit (λ f. f) (IsRefusal s.shape.limit (graph_in s) command) c.in_err-put_properties.field-0.0 c.from_residual-in_err-put_properties.result
    c.from_residual-in_err-put_properties.ensures.1
    (outside_refused change_reasons s.shape.limit (graph_in s) command c.in_err-put_properties.field-0.0
    (properties_outside g (goal.at.returns-in_err-put_properties-clause-refused g c).In_err-put_properties tells store))

pub returns-in_err-put_properties-clause-full : goal.returns-in_err-put_properties-clause-full
returns-in_err-put_properties-clause-full g c whole full = let store = midway _ _ whole in
    absurd (not_full (g.S.Reads.state c.args.space.now) c.args.names.now.names store c.in_ok-test_room.ensures.room full)

pub returns-in_err-put_properties-clause-leaves : goal.returns-in_err-put_properties-clause-leaves
returns-in_err-put_properties-clause-leaves g c tells =
    let s = g.S.Reads.state c.args.space.now in
    let w = g.S.Reads.state c.put_properties.new.space in
    fault_exit (λ f. f) (LeavesSpace s w) c.in_err-put_properties.field-0.0 c.from_residual-in_err-put_properties.result
    c.from_residual-in_err-put_properties.ensures.1
    (late_leaves s w c.in_err-put_properties.field-0.0 (c.in_err-put_properties.ensures.may_come_late tells))

pub returns-in_err-put_properties-clause-refused_writes : goal.returns-in_err-put_properties-clause-refused_writes
returns-in_err-put_properties-clause-refused_writes g c =
    let pairs = c.as_slice-pairs.result.now in
    let n = ap length c.deref-3.ensures.0 in
    let b = ap (assigned_blocks pairs) c.deref-3.ensures.0 in
    let k = c.in_ok-prepared.ensures.weight in
    let l = c.in_ok-prepared.ensures.light in
    on_any_err _ _ (more_written (omega arith) (then_written c.in_ok-prepared.ensures.writes (then_written (none_written _ _ c.listed_pairs.ensures.same)
    (then_written (beside_written refl c.in_ok-id.ensures.writes) c.in_err-put_properties.ensures.err_writes))))

-- ---- its entries
module _ (g : Over) (c : After-enter_values g) where
  abbrev s : State
  s = g.S.Reads.state c.args.space.now

  abbrev u : State
  u = g.S.Reads.state c.listed_pairs.new.space

  abbrev v : State
  v = g.S.Reads.state c.put_node.new.space

  abbrev w : State
  w = g.S.Reads.state c.put_properties.new.space

  abbrev x : State
  x = g.S.Reads.state c.enter_values.new.space

  abbrev names : List (List ℕ)
  names = c.prepare.new.names.names

  abbrev pairs : List Pair
  pairs = c.as_slice-pairs.result.now

  abbrev id : ℕ
  id = c.in_ok-id.id

  abbrev items : List Assignment
  items = c.in_ok-prepared.prepared.assigned.items

  entered_many : length (indexed_of c.deref-4.result.now c.in_ok-prepared.prepared.label c.deref-5.result.now) ≡ c.entry_count-entries.result
  entered_many = (λ i. length (indexed_of ((c.deref-4.ensures.value ∙ sym c.deref.ensures.value) i) c.in_ok-prepared.prepared.label
      ((c.deref-5.ensures.0 ∙ sym c.deref-2.ensures.0) i))) ∙ sym c.entry_count-entries.ensures.is

  few_entries : c.entry_count-entries.result ≤ 32
  few_entries = let a = c.entry_count-entries.ensures.few in let b = ap length c.deref-2.ensures.0 in let few = c.in_ok-prepared.ensures.few in
      omega (arith, a, b, few)

  written : WritesAtMost (1 + c.in_ok-prepared.prepared.weight) s w
  written =
      let n = ap length c.deref-3.ensures.0 in
      let b = ap (assigned_blocks pairs) c.deref-3.ensures.0 in
      let k = c.in_ok-prepared.ensures.weight in
      let owned = subst (λ (o : Owner). WritesBeside o.key (length c.deref-3.result.now + assigned_blocks pairs c.deref-3.result.now) v w) c.node_owner.ensures
      c.in_ok-put_properties.ensures.writes in
      more_written (omega (arith, n, b, k)) (then_written c.in_ok-prepared.ensures.writes (then_written (none_written _ _ c.listed_pairs.ensures.same)
      (beside_written refl (beside_then c.in_ok-id.ensures.writes owned))))

  all_written : WritesAtMost (1 + c.in_ok-prepared.prepared.weight + 3 * c.entry_count-entries.result) s x
  all_written = let e = entered_many in more_written (omega (arith, e))
      (then_written written (index_written (3 * length (indexed_of c.deref-4.result.now c.in_ok-prepared.prepared.label c.deref-5.result.now))
      w x c.enter_values.ensures.touches))

  same_then : v.shape ≡ u.shape
  same_then = g.met.S.Reads.onward_shape _ _ c.put_node.ensures.onward

  module _ (tells : g.S.Reads.tells) (whole : IsStore s c.args.names.now.names) where
    abbrev mid_store : IsMidway s c.args.names.now.names
    mid_store = midway _ _ whole

    abbrev hand : IsPrepared s u names c.args.label.now pairs c.in_ok-prepared.prepared
    hand = at_hand g (goal.at.After-enter_values g c).After-listed_pairs tells mid_store

    put_there : PutsNode u v names c.in_ok-prepared.prepared.label c.args.label.now id
    put_there = puts g (goal.at.After-enter_values g c).In_ok-id tells mid_store

    can_there : CanPut v names (targets.Node id) pairs c.deref-3.result.now
    can_there = can g (goal.at.After-enter_values g c).After-put_properties tells mid_store

    put : PutsPairs v w names (targets.Node id) (pairs_of names pairs items)
    put = subst (λ l. PutsPairs v w names (targets.Node id) (pairs_of names pairs l)) c.deref-3.ensures.0
        (c.in_ok-put_properties.ensures.put tells names (targets.Node id) c.node_owner.ensures can_there)

    given : GivesValues v w id pairs items
    given = subst (λ l. GivesValues v w id pairs l) c.deref-3.ensures.0 (c.in_ok-put_properties.ensures.values tells names id c.node_owner.ensures can_there)

    pairs_here : ArePairsOf w (wanted_in v.records) c.deref-4.result.now
    pairs_here = subst (λ l. ArePairsOf w (wanted_in v.records) l) (sym (c.deref-4.ensures.value ∙ listed_is g (goal.at.After-enter_values g c).In_ok-listed
        tells whole))
        (pairs_then s u c.args.names.now.names names c.args.label.now pairs c.in_ok-prepared.prepared whole hand v id put_there same_then w put given)

    low : id < high w.records format.nodes_file
    low = node_low s u c.args.names.now.names names c.args.label.now pairs c.in_ok-prepared.prepared whole hand v id put_there same_then w put given

    once : AreKeysOnce c.deref-5.result.now
    once = subst (λ l. AreKeysOnce l) (sym c.deref-5.ensures.0) (keys_once s u c.args.names.now.names names c.args.label.now pairs c.in_ok-prepared.prepared
        whole hand v id put_there same_then w put given)

    many : c.entry_count-entries.result ≡ entries s u c.args.names.now.names names c.args.label.now pairs c.in_ok-prepared.prepared whole hand
    many = entries_are g (goal.at.After-enter_values g c).After-entry_count-entries tells whole

    fits : HasRoom u format.index_file (entries s u c.args.names.now.names names c.args.label.now pairs c.in_ok-prepared.prepared whole hand)
    fits = subst (λ n. HasRoom u format.index_file n) many c.in_ok-test_room-2.ensures.room

    fits_then : HasRoom w format.index_file (length (indexed_of c.deref-4.result.now c.in_ok-prepared.prepared.label c.deref-5.result.now))
    fits_then = subst (λ n. HasRoom w format.index_file n) (sym (entered_many ∙ many))
        (room_then s u c.args.names.now.names names c.args.label.now pairs c.in_ok-prepared.prepared whole hand v id put_there same_then w put given
        (g.met.S.Reads.onward_shape _ _ c.put_properties.ensures.onward) fits)

entries_outside : (g : Over) (c : In_err-enter_values g) → g.S.Reads.tells → IsStore (g.S.Reads.state c.args.space.now) c.args.names.now.names
    → IsOutside c.in_err-enter_values.field-0.0
entries_outside g c tells whole =
    let after = (goal.at.In_err-enter_values g c).After-enter_values in
    let v = g.S.Reads.state c.put_node.new.space in
    c.in_err-enter_values.ensures.not_damaged tells (wanted_in v.records) (pairs_here g after tells whole) (low g after tells whole)
    (put_there g after tells whole).lacks (once g after tells whole) (fits_then g after tells whole)

pub returns-in_err-enter_values-clause-refused : goal.returns-in_err-enter_values-clause-refused
returns-in_err-enter_values-clause-refused g c tells whole =
    let s = g.S.Reads.state c.args.space.now in
    let command = commands.Node c.args.label.now c.args.pairs.now in
    fault_exit (λ f. f) (IsRefusal s.shape.limit (graph_in s) command) c.in_err-enter_values.field-0.0 c.from_residual-in_err-enter_values.result
    c.from_residual-in_err-enter_values.ensures.1
    (outside_refused change_reasons s.shape.limit (graph_in s) command c.in_err-enter_values.field-0.0
    (entries_outside g (goal.at.returns-in_err-enter_values-clause-refused g c).In_err-enter_values tells whole))

pub returns-in_err-enter_values-clause-counts : goal.returns-in_err-enter_values-clause-counts
returns-in_err-enter_values-clause-counts g c tells whole =
    let s = g.S.Reads.state c.args.space.now in
    fault_exit (λ f. f) (IsCounted s) c.in_err-enter_values.field-0.0 c.from_residual-in_err-enter_values.result c.from_residual-in_err-enter_values.ensures.1
    (outside_counted s c.in_err-enter_values.field-0.0 (entries_outside g (goal.at.returns-in_err-enter_values-clause-counts g c).In_err-enter_values tells
    whole))

pub returns-in_err-enter_values-clause-full : goal.returns-in_err-enter_values-clause-full
returns-in_err-enter_values-clause-full g c whole full = absurd (not_full (g.S.Reads.state c.args.space.now) c.args.names.now.names (midway _ _ whole)
    c.in_ok-test_room.ensures.room full)

pub returns-in_err-enter_values-clause-leaves : goal.returns-in_err-enter_values-clause-leaves
returns-in_err-enter_values-clause-leaves g c tells =
    let s = g.S.Reads.state c.args.space.now in
    let x = g.S.Reads.state c.enter_values.new.space in
    fault_exit (λ f. f) (LeavesSpace s x) c.in_err-enter_values.field-0.0 c.from_residual-in_err-enter_values.result
    c.from_residual-in_err-enter_values.ensures.1
    (late_leaves s x c.in_err-enter_values.field-0.0 (c.in_err-enter_values.ensures.may_come_late tells))

pub returns-in_err-enter_values-clause-damaged : goal.returns-in_err-enter_values-clause-damaged
returns-in_err-enter_values-clause-damaged g c tells =
    let after = (goal.at.After-enter_values g (goal.at.returns-in_err-enter_values-clause-damaged g c).After-enter_values).After-listed_pairs in
    let s = g.S.Reads.state c.args.space.now in
    let p = g.S.Reads.state c.prepare.new.space in
    let u = g.S.Reads.state c.listed_pairs.new.space in
    let v = g.S.Reads.state c.put_node.new.space in
    let w = g.S.Reads.state c.put_properties.new.space in
    let x = g.S.Reads.state c.enter_values.new.space in
    let fault = c.in_err-enter_values.field-0.0 in
    let later : LeavesIndexes u w = λ damage of. c.in_ok-put_properties.ensures.leaves_indexes tells damage of
    ∙ other_leaves u v format.nodes_file (λ e. omega arith) (λ e. omega arith) (c.in_ok-id.ensures.other_files tells) damage of in
    let left : LeavesIndexes s w = λ damage of. later damage of ∙ names_leave s u (beside_names g after tells) damage of in
    let shape : w.shape ≡ s.shape = g.met.S.Reads.onward_shape _ _ c.put_properties.ensures.onward
    ∙ g.met.S.Reads.onward_shape _ _ c.put_node.ensures.onward ∙ same_shape g after in
    let from : LeavesIndexes p w = λ damage of. later damage of ∙ ap (λ (z : State). z.records (key_in damage.file damage.id)) c.listed_pairs.ensures.same in
    let many : length c.deref-4.result.now ≡ length c.in_ok-listed.listed.items = ap length c.deref-4.ensures.value in
    let has = some_leaves p w (0 < length c.deref-4.result.now) from
    (λ some. c.in_ok-listed.ensures.walked tells (subst (λ (n : ℕ). 0 < n) many some)) in
    fault_exit (λ f. f) (BlamesEntries s x) fault c.from_residual-in_err-enter_values.result c.from_residual-in_err-enter_values.ensures.1
    (blames_more _ _ (λ damage told. found_before s w x damage left shape told.0 told.1) fault
    (blames_both _ _ fault (c.in_err-enter_values.ensures.blames tells) (c.in_err-enter_values.ensures.found tells has)))

pub returns-in_err-enter_values-clause-refused_writes : goal.returns-in_err-enter_values-clause-refused_writes
returns-in_err-enter_values-clause-refused_writes g c =
    let after = (goal.at.returns-in_err-enter_values-clause-refused_writes g c).After-enter_values in
    let few = few_entries g after in
    let light = c.in_ok-prepared.ensures.light in
    on_any_err _ _ (more_written (omega (arith, few, light)) (all_written g after))

-- a property has an entry
given_any : (g : Over) (c : In_err-enter_values g) → c.as_slice-pairs.result.now ≢ []
given_any g c none =
    let given = with_pairs no_properties c.as_slice-pairs.result.now in
    let assigned = c.in_ok-prepared.prepared.assigned.items in
    ⊎_elim
    (λ (k : (format.properties_file ≡ format.properties_file) × (length assigned ≡ maps.len given)).
    let some = c.in_err-enter_values.ensures.some in
    let same = ap length c.deref-5.ensures.0 in
    let len = k.1 ∙ ap (λ l. maps.len (with_pairs no_properties l)) none ∙ maps.len-empty order Value in
    absurd (omega (arith, some, same, len)))
    (λ (k : (format.properties_file ≡ format.strings_file) × (length assigned ≡ blocks_in given)). absurd (omega (arith, k.0))) c.in_ok-prepared.ensures.needs.0

pub returns-in_err-enter_values-clause-caused : goal.returns-in_err-enter_values-clause-caused
returns-in_err-enter_values-clause-caused g c tells =
    let s = g.S.Reads.state c.args.space.now in
    let x = g.S.Reads.state c.enter_values.new.space in
    let names = c.args.names.now.names in
    let now = c.prepare.new.names.names in
    let command = commands.Node c.args.label.now c.as_slice-pairs.result.now in
    let fault = c.in_err-enter_values.field-0.0 in
    subst (λ l. IfErr c.from_residual-in_err-enter_values.result (IsCaused (commands.Node c.args.label.now l) s x names now)) c.as_slice-pairs.ensures
    (fault_exit (λ f. f) (IsCaused command s x names now) fault c.from_residual-in_err-enter_values.result c.from_residual-in_err-enter_values.ensures.1
    (entry_caused command s x names now (inr (refl, given_any g (goal.at.returns-in_err-enter_values-clause-caused g c).In_err-enter_values)) fault
    (c.in_err-enter_values.ensures.full tells)))

pub returns-in_err-enter_values-clause-caused_after : goal.returns-in_err-enter_values-clause-caused_after
returns-in_err-enter_values-clause-caused_after g c tells =
    let x = g.S.Reads.state c.enter_values.new.space in
    let names = c.args.names.now.names in
    let now = c.prepare.new.names.names in
    let command = commands.Node c.args.label.now c.as_slice-pairs.result.now in
    let fault = c.in_err-enter_values.field-0.0 in
    subst (λ l. IfErr c.from_residual-in_err-enter_values.result (IsCausedAfter (commands.Node c.args.label.now l) x names now)) c.as_slice-pairs.ensures
    (fault_exit (λ f. f) (IsCausedAfter command x names now) fault c.from_residual-in_err-enter_values.result c.from_residual-in_err-enter_values.ensures.1
    (record {
      caused = entry_caused command x x names now (inr (refl, given_any g (goal.at.returns-in_err-enter_values-clause-caused_after g c).In_err-enter_values))
          fault
          (c.in_err-enter_values.ensures.full tells);
      damaged = blames_more _ _ (λ damage entry. entry.1) fault (c.in_err-enter_values.ensures.blames tells);
    }))

pub returns-in_err-enter_values-clause-cause : goal.returns-in_err-enter_values-clause-cause
returns-in_err-enter_values-clause-cause g c =
    change_cause_passed _ _ _ c.from_residual-in_err-enter_values.result c.in_err-enter_values.field-0.0
    (later_on (later_on (later_on c.in_ok-prepared.ensures.cause.later c.in_ok-listed.ensures.cause.later) c.in_ok-id.ensures.cause.later)
    c.in_ok-put_properties.ensures.cause.later) c.in_err-enter_values.ensures.cause c.from_residual-in_err-enter_values.ensures.1

-- ---- the node is made
pub returns-clause-made : goal.returns-clause-made
returns-clause-made g c tells whole =
    let after = (goal.at.returns-clause-made g c).After-enter_values in
    let s = g.S.Reads.state c.args.space.now in
    let u = g.S.Reads.state c.listed_pairs.new.space in
    let v = g.S.Reads.state c.put_node.new.space in
    let w = g.S.Reads.state c.put_properties.new.space in
    let x = g.S.Reads.state c.enter_values.new.space in
    let names = c.prepare.new.names.names in
    let pairs = c.as_slice-pairs.result.now in
    let id = c.in_ok-id.id in
    let prepared = c.in_ok-prepared.prepared in
    let here = pairs_here g after tells whole in
    let lacks = (put_there g after tells whole).lacks in
    let e = c.in_ok-enter_values.ensures in
    subst (λ l. MakesChange (commands.Node c.args.label.now l) (NodeMade id) (1 + prepared.weight + 3 * c.entry_count-entries.result) s x names)
    c.as_slice-pairs.ensures
    (added_made s u c.args.names.now.names names c.args.label.now pairs prepared whole (hand g after tells whole) v id (put_there g after tells whole)
    (same_then g after) w (put g after tells whole) (given g after tells whole)
    x (touched_beside _ w x tells c.enter_values.ensures.touches) (e.graph tells (wanted_in v.records) here (low g after tells whole) lacks
    (once g after tells whole)) (e.keeps tells (wanted_in v.records) here (low g after tells whole) lacks (once g after tells whole))
    (subst (λ l. AreIndexed x.records (with_assigned (wanted_in v.records) prepared.label id pairs l)) c.deref-5.ensures.0
    (e.entered tells (wanted_in v.records) here (low g after tells whole) lacks (once g after tells whole)))
    (not_full s c.args.names.now.names (midway _ _ whole) c.in_ok-test_room.ensures.room) (fits g after tells whole)
    (1 + prepared.weight + 3 * c.entry_count-entries.result) (ap (λ n. 1 + prepared.weight + 3 * n) (many g after tells whole)))

-- the names were given numbers before, and the nodes' meta record stayed
pub returns-clause-taken : goal.returns-clause-taken
returns-clause-taken g c tells = c.in_ok-id.ensures.is ∙ ap taken_id (nodes_meta g (goal.at.returns-clause-taken g c).After-listed_pairs tells)

-- its properties and entries leave it so
pub returns-clause-stands : goal.returns-clause-stands
returns-clause-stands g c tells =
    let v = g.S.Reads.state c.put_node.new.space in
    let w = g.S.Reads.state c.put_properties.new.space in
    let x = g.S.Reads.state c.enter_values.new.space in
    let label = c.in_ok-prepared.prepared.label in (
      label,
      c.in_ok-prepared.ensures.label,
      node_stands v w x c.in_ok-id.id label (subst (LeavesElement v w) c.node_owner.ensures (c.in_ok-put_properties.ensures.leaves tells))
          (touched_beside _ w x tells c.enter_values.ensures.touches) (c.in_ok-id.ensures.stands tells),
    )

pub returns-clause-full : goal.returns-clause-full
returns-clause-full g c whole full = absurd (not_full (g.S.Reads.state c.args.space.now) c.args.names.now.names (midway _ _ whole)
    c.in_ok-test_room.ensures.room full)

pub returns-clause-writes : goal.returns-clause-writes
returns-clause-writes g c = all_written g (goal.at.returns-clause-writes g c).After-enter_values

pub returns-clause-weight : goal.returns-clause-weight
returns-clause-weight g c =
    let few = few_entries g (goal.at.returns-clause-weight g c).After-enter_values in
    let k = c.in_ok-prepared.ensures.weighs in
    subst (λ l. WeighsNode l (length c.prepare.new.names.names - length c.args.names.now.names) (1 + c.in_ok-prepared.prepared.weight + 3 *
    c.entry_count-entries.result)) c.as_slice-pairs.ensures
    (record { entries = c.entry_count-entries.result; few = few; is = omega (arith, k) })

pub returns-clause-light : goal.returns-clause-light
returns-clause-light g c =
    let few = few_entries g (goal.at.returns-clause-light g c).After-enter_values in
    let light = c.in_ok-prepared.ensures.light in
    omega (arith, few, light)

-- without indexes there are no entries
none_listed : (label : ℕ) (xs : List Assignment) → length (indexed_of [] label xs) ≡ 0
none_listed label [] = refl
none_listed label (a ∷ xs) = none_listed label xs

pub returns-clause-unindexed : goal.returns-clause-unindexed
returns-clause-unindexed g c tells bare =
    let s = g.S.Reads.state c.args.space.now in
    let z = g.S.Reads.state c.prepare.new.space in
    let label = c.in_ok-prepared.prepared.label in
    let k = c.in_ok-prepared.ensures.weighs in
    let none = c.in_ok-listed.ensures.none (ap (λ (m : Meta). m.live) (index_beside s z (c.in_ok-prepared.ensures.stays tells)) ∙ bare) in
    let n = c.entry_count-entries.ensures.is ∙ ap (λ l. length (indexed_of l label c.deref-2.result.now)) (c.deref.ensures.value ∙ none)
    ∙ none_listed label c.deref-2.result.now in
    subst (λ l. 1 + c.in_ok-prepared.prepared.weight + 3 * c.entry_count-entries.result ≡ 1 + properties_weight (with_pairs no_properties l) +
    (length c.prepare.new.names.names - length c.args.names.now.names)) c.as_slice-pairs.ensures (omega (arith, k, n))

-- ---- what refusals count
pub returns-in_err-test_room-clause-counts : goal.returns-in_err-test_room-clause-counts
returns-in_err-test_room-clause-counts g c tells store =
    let s = g.S.Reads.state c.args.space.now in
    fault_exit (λ f. f) (IsCounted s) c.in_err-test_room.field-0.0 c.from_residual.result c.from_residual.ensures.1
    (room_counted s s format.nodes_file 1 refl c.in_err-test_room.field-0.0 c.in_err-test_room.ensures.full)

pub returns-in_err-prepared-clause-counts : goal.returns-in_err-prepared-clause-counts
returns-in_err-prepared-clause-counts g c tells store =
    fault_exit (λ f. f) (IsCounted (g.S.Reads.state c.args.space.now)) c.in_err-prepared.field-0.0 c.from_residual-in_err-prepared.result
    c.from_residual-in_err-prepared.ensures.1 (c.in_err-prepared.ensures.counts tells)

pub returns-in_err-id-clause-counts : goal.returns-in_err-id-clause-counts
returns-in_err-id-clause-counts g c tells whole =
    let store = midway _ _ whole in
    let s = g.S.Reads.state c.args.space.now in
    fault_exit (λ f. f) (IsCounted s) c.in_err-id.field-0.0 c.from_residual-in_err-id.result c.from_residual-in_err-id.ensures.1
    (outside_counted s c.in_err-id.field-0.0 (node_outside g (goal.at.returns-in_err-id-clause-counts g c).In_err-id tells store))

pub returns-in_err-put_properties-clause-counts : goal.returns-in_err-put_properties-clause-counts
returns-in_err-put_properties-clause-counts g c tells whole =
    let store = midway _ _ whole in
    let s = g.S.Reads.state c.args.space.now in
    fault_exit (λ f. f) (IsCounted s) c.in_err-put_properties.field-0.0 c.from_residual-in_err-put_properties.result
    c.from_residual-in_err-put_properties.ensures.1
    (outside_counted s c.in_err-put_properties.field-0.0 (properties_outside g (goal.at.returns-in_err-put_properties-clause-counts g c).In_err-put_properties
    tells store))

-- ---- why it is refused over any records
pub returns-in_err-test_room-clause-caused : goal.returns-in_err-test_room-clause-caused
returns-in_err-test_room-clause-caused g c tells =
    let s = g.S.Reads.state c.args.space.now in
    let names = c.args.names.now.names in
    let command = commands.Node c.args.label.now c.args.pairs.now in
    fault_exit (λ f. f) (IsCaused command s s names names) c.in_err-test_room.field-0.0 c.from_residual.result c.from_residual.ensures.1
    (room_caused command s s names names format.nodes_file 1 (inl (refl, refl)) c.in_err-test_room.field-0.0 c.in_err-test_room.ensures.full)

pub returns-in_err-prepared-clause-caused : goal.returns-in_err-prepared-clause-caused
returns-in_err-prepared-clause-caused g c tells =
    let s = g.S.Reads.state c.args.space.now in
    let t = g.S.Reads.state c.prepare.new.space in
    let names = c.args.names.now.names in
    let now = c.prepare.new.names.names in
    subst (λ l. IfErr c.from_residual-in_err-prepared.result (IsCaused (commands.Node c.args.label.now l) s t names now)) c.as_slice-pairs.ensures
    (fault_exit (λ f. f) (IsCaused (commands.Node c.args.label.now c.as_slice-pairs.result.now) s t names now) c.in_err-prepared.field-0.0
    c.from_residual-in_err-prepared.result c.from_residual-in_err-prepared.ensures.1
    (line_node s t names now c.args.label.now c.as_slice-pairs.result.now c.in_err-prepared.field-0.0 (c.in_err-prepared.ensures.caused tells)))

pub returns-in_err-id-clause-caused : goal.returns-in_err-id-clause-caused
returns-in_err-id-clause-caused g c tells =
    let s = g.S.Reads.state c.args.space.now in
    let t = g.S.Reads.state c.put_node.new.space in
    let names = c.args.names.now.names in
    let now = c.prepare.new.names.names in
    let command = commands.Node c.args.label.now c.args.pairs.now in
    fault_exit (λ f. f) (IsCaused command s t names now) c.in_err-id.field-0.0 c.from_residual-in_err-id.result c.from_residual-in_err-id.ensures.1
    (failure_caused command s t names now c.in_err-id.field-0.0
    (c.in_err-id.ensures.failure tells (room_there g (goal.at.returns-in_err-id-clause-caused g c).After-listed_pairs tells)))

pub returns-in_err-put_properties-clause-caused : goal.returns-in_err-put_properties-clause-caused
returns-in_err-put_properties-clause-caused g c tells =
    let s = g.S.Reads.state c.args.space.now in
    let t = g.S.Reads.state c.put_properties.new.space in
    let names = c.args.names.now.names in
    let now = c.prepare.new.names.names in
    let pairs = c.as_slice-pairs.result.now in
    let items = c.in_ok-prepared.prepared.assigned.items in
    let needs = c.in_ok-prepared.ensures.needs in
    let told = subst (λ l. IsPutCause t (length l) (assigned_blocks pairs l) c.in_err-put_properties.field-0.0) c.deref-3.ensures.0
    (c.in_err-put_properties.ensures.caused tells) in
    subst (λ l. IfErr c.from_residual-in_err-put_properties.result (IsCaused (commands.Node c.args.label.now l) s t names now)) c.as_slice-pairs.ensures
    (fault_exit (λ f. f) (IsCaused (commands.Node c.args.label.now pairs) s t names now) c.in_err-put_properties.field-0.0
    c.from_residual-in_err-put_properties.result c.from_residual-in_err-put_properties.ensures.1
    (put_caused (commands.Node c.args.label.now pairs) s t names now pairs (length items) (assigned_blocks pairs items) needs.0 needs.1 (λ file any. inl any)
    c.in_err-put_properties.field-0.0 told))

-- ---- which record is damaged
pub returns-in_err-test_room-clause-damaged : goal.returns-in_err-test_room-clause-damaged
returns-in_err-test_room-clause-damaged g c tells =
    let s = g.S.Reads.state c.args.space.now in
    fault_exit (λ f. f) (BlamesEntries s s) c.in_err-test_room.field-0.0 c.from_residual.result
    c.from_residual.ensures.1
    (room_blamed _ s format.nodes_file 1 c.in_err-test_room.field-0.0 c.in_err-test_room.ensures.full)

pub returns-in_err-prepared-clause-damaged : goal.returns-in_err-prepared-clause-damaged
returns-in_err-prepared-clause-damaged g c tells =
    let s = g.S.Reads.state c.args.space.now in
    fault_exit (λ f. f) (BlamesEntries s (g.S.Reads.state c.prepare.new.space))
    c.in_err-prepared.field-0.0 c.from_residual-in_err-prepared.result c.from_residual-in_err-prepared.ensures.1
    (line_blamed _ s c.args.names.now.names c.args.label.now c.as_slice-pairs.result.now c.in_err-prepared.field-0.0 (c.in_err-prepared.ensures.caused tells))

pub returns-in_err-id-clause-damaged : goal.returns-in_err-id-clause-damaged
returns-in_err-id-clause-damaged g c tells =
    let s = g.S.Reads.state c.args.space.now in
    let u = g.S.Reads.state c.listed_pairs.new.space in
    let after = (goal.at.returns-in_err-id-clause-damaged g c).After-listed_pairs in
    fault_exit (λ f. f) (BlamesEntries s (g.S.Reads.state c.put_node.new.space))
    c.in_err-id.field-0.0 c.from_residual-in_err-id.result c.from_residual-in_err-id.ensures.1
    (blames_more _ _ (λ damage told. inl (node_damage s u (same_shape g after) (beside_names g after tells) damage told)) c.in_err-id.field-0.0
    (c.in_err-id.ensures.damaged tells))

pub returns-in_err-put_properties-clause-damaged : goal.returns-in_err-put_properties-clause-damaged
returns-in_err-put_properties-clause-damaged g c tells =
    let s = g.S.Reads.state c.args.space.now in
    let u = g.S.Reads.state c.listed_pairs.new.space in
    let after = (goal.at.returns-in_err-put_properties-clause-damaged g c).After-listed_pairs in
    let v = g.S.Reads.state c.put_node.new.space in
    let harmless = no_lists_then s u v (names_harm_no_lists s u (same_shape g after) (beside_names g after tells))
    (node_harms_no_lists u v (g.met.S.Reads.onward_shape _ _ c.put_node.ensures.onward) (c.in_ok-id.ensures.other_files tells)) in
    fault_exit (λ f. f) (BlamesEntries s (g.S.Reads.state c.put_properties.new.space))
    c.in_err-put_properties.field-0.0 c.from_residual-in_err-put_properties.result c.from_residual-in_err-put_properties.ensures.1
    (blames_more _ _ (λ damage told. inl (lists_broken s damage (lists_before s v harmless damage told))) c.in_err-put_properties.field-0.0
    (c.in_err-put_properties.ensures.damaged tells))

pub returns-in_err-prepared-clause-cause : goal.returns-in_err-prepared-clause-cause
returns-in_err-prepared-clause-cause g c =
    change_cause_passed _ _ _ c.from_residual-in_err-prepared.result c.in_err-prepared.field-0.0 (omega arith) c.in_err-prepared.ensures.cause
    c.from_residual-in_err-prepared.ensures.1

pub returns-in_err-id-clause-cause : goal.returns-in_err-id-clause-cause
returns-in_err-id-clause-cause g c =
    change_cause_passed _ _ _ c.from_residual-in_err-id.result c.in_err-id.field-0.0
    (later_on c.in_ok-prepared.ensures.cause.later c.in_ok-listed.ensures.cause.later) c.in_err-id.ensures.cause c.from_residual-in_err-id.ensures.1

pub returns-in_err-put_properties-clause-cause : goal.returns-in_err-put_properties-clause-cause
returns-in_err-put_properties-clause-cause g c =
    change_cause_passed _ _ _ c.from_residual-in_err-put_properties.result c.in_err-put_properties.field-0.0
    (later_on (later_on c.in_ok-prepared.ensures.cause.later c.in_ok-listed.ensures.cause.later) c.in_ok-id.ensures.cause.later)
    c.in_err-put_properties.ensures.cause c.from_residual-in_err-put_properties.ensures.1

-- ---- and by the space as it is left alone

pub returns-in_err-test_room-clause-caused_after : goal.returns-in_err-test_room-clause-caused_after
returns-in_err-test_room-clause-caused_after g c tells =
    let s = g.S.Reads.state c.args.space.now in
    let names = c.args.names.now.names in
    let command = commands.Node c.args.label.now c.args.pairs.now in
    let fault = c.in_err-test_room.field-0.0 in
    fault_exit (λ f. f) (IsCausedAfter command s names names) fault c.from_residual.result c.from_residual.ensures.1
    (record {
      caused = room_caused command s s names names format.nodes_file 1 (inl (refl, refl)) fault c.in_err-test_room.ensures.full;
      damaged = room_blamed _
          s format.nodes_file 1 fault c.in_err-test_room.ensures.full;
    })

pub returns-in_err-prepared-clause-caused_after : goal.returns-in_err-prepared-clause-caused_after
returns-in_err-prepared-clause-caused_after g c tells =
    let t = g.S.Reads.state c.prepare.new.space in
    let names = c.args.names.now.names in
    let now = c.prepare.new.names.names in
    let pairs = c.as_slice-pairs.result.now in
    let fault = c.in_err-prepared.field-0.0 in
    let why = c.in_err-prepared.ensures.caused_after tells in
    subst (λ l. IfErr c.from_residual-in_err-prepared.result (IsCausedAfter (commands.Node c.args.label.now l) t names now)) c.as_slice-pairs.ensures
    (fault_exit (λ f. f) (IsCausedAfter (commands.Node c.args.label.now pairs) t names now) fault c.from_residual-in_err-prepared.result
    c.from_residual-in_err-prepared.ensures.1
    (record { caused = line_node t t names now c.args.label.now pairs fault why; damaged = line_blamed _ t names c.args.label.now pairs fault why }))

pub returns-in_err-id-clause-caused_after : goal.returns-in_err-id-clause-caused_after
returns-in_err-id-clause-caused_after g c tells =
    let t = g.S.Reads.state c.put_node.new.space in
    let names = c.args.names.now.names in
    let now = c.prepare.new.names.names in
    let command = commands.Node c.args.label.now c.args.pairs.now in
    let fault = c.in_err-id.field-0.0 in
    fault_exit (λ f. f) (IsCausedAfter command t names now) fault c.from_residual-in_err-id.result c.from_residual-in_err-id.ensures.1
    (record {
      caused = failure_caused command t t names now fault (c.in_err-id.ensures.failure tells
          (room_there g (goal.at.returns-in_err-id-clause-caused_after g c).After-listed_pairs tells));
      damaged = c.in_err-id.ensures.damaged_after tells;
    })

pub returns-in_err-put_properties-clause-caused_after : goal.returns-in_err-put_properties-clause-caused_after
returns-in_err-put_properties-clause-caused_after g c tells =
    let t = g.S.Reads.state c.put_properties.new.space in
    let names = c.args.names.now.names in
    let now = c.prepare.new.names.names in
    let pairs = c.as_slice-pairs.result.now in
    let command = commands.Node c.args.label.now pairs in
    let items = c.in_ok-prepared.prepared.assigned.items in
    let needs = c.in_ok-prepared.ensures.needs in
    let fault = c.in_err-put_properties.field-0.0 in
    let told = subst (λ l. IsPutCause t (length l) (assigned_blocks pairs l) fault) c.deref-3.ensures.0 (c.in_err-put_properties.ensures.caused tells) in
    subst (λ l. IfErr c.from_residual-in_err-put_properties.result (IsCausedAfter (commands.Node c.args.label.now l) t names now)) c.as_slice-pairs.ensures
    (fault_exit (λ f. f) (IsCausedAfter command t names now) fault c.from_residual-in_err-put_properties.result c.from_residual-in_err-put_properties.ensures.1
    (record {
      caused = put_caused command t t names now pairs (length items) (assigned_blocks pairs items) needs.0 needs.1 (λ file any. inl any)
          fault told;
      damaged = c.in_err-put_properties.ensures.damaged_after tells;
    }))

pub returns-in_err-test_room-clause-made : goal.returns-in_err-test_room-clause-made
returns-in_err-test_room-clause-made g c _ = never_ok c.from_residual.result _ _ c.from_residual.ensures.1

pub returns-in_err-test_room-clause-taken : goal.returns-in_err-test_room-clause-taken
returns-in_err-test_room-clause-taken g c _ = never_ok c.from_residual.result _ _ c.from_residual.ensures.1

pub returns-in_err-test_room-clause-weight : goal.returns-in_err-test_room-clause-weight
returns-in_err-test_room-clause-weight g c = never_ok c.from_residual.result _ _ c.from_residual.ensures.1

pub returns-in_err-test_room-clause-unindexed : goal.returns-in_err-test_room-clause-unindexed
returns-in_err-test_room-clause-unindexed g c _ _ = never_ok c.from_residual.result _ _ c.from_residual.ensures.1

pub returns-in_err-test_room-clause-stands : goal.returns-in_err-test_room-clause-stands
returns-in_err-test_room-clause-stands g c _ = never_ok c.from_residual.result _ _ c.from_residual.ensures.1

pub returns-in_err-test_room-clause-light : goal.returns-in_err-test_room-clause-light
returns-in_err-test_room-clause-light g c = never_ok c.from_residual.result _ _ c.from_residual.ensures.1

pub returns-in_err-test_room-clause-writes : goal.returns-in_err-test_room-clause-writes
returns-in_err-test_room-clause-writes g c = never_ok c.from_residual.result _ _ c.from_residual.ensures.1

pub returns-in_err-test_room-clause-onward : goal.returns-in_err-test_room-clause-onward
returns-in_err-test_room-clause-onward g c = search rules

pub returns-in_err-prepared-clause-made : goal.returns-in_err-prepared-clause-made
returns-in_err-prepared-clause-made g c _ = never_ok c.from_residual-in_err-prepared.result _ _ c.from_residual-in_err-prepared.ensures.1

pub returns-in_err-prepared-clause-taken : goal.returns-in_err-prepared-clause-taken
returns-in_err-prepared-clause-taken g c _ = never_ok c.from_residual-in_err-prepared.result _ _ c.from_residual-in_err-prepared.ensures.1

pub returns-in_err-prepared-clause-weight : goal.returns-in_err-prepared-clause-weight
returns-in_err-prepared-clause-weight g c = never_ok c.from_residual-in_err-prepared.result _ _ c.from_residual-in_err-prepared.ensures.1

pub returns-in_err-prepared-clause-unindexed : goal.returns-in_err-prepared-clause-unindexed
returns-in_err-prepared-clause-unindexed g c _ _ = never_ok c.from_residual-in_err-prepared.result _ _ c.from_residual-in_err-prepared.ensures.1

pub returns-in_err-prepared-clause-stands : goal.returns-in_err-prepared-clause-stands
returns-in_err-prepared-clause-stands g c _ = never_ok c.from_residual-in_err-prepared.result _ _ c.from_residual-in_err-prepared.ensures.1

pub returns-in_err-prepared-clause-light : goal.returns-in_err-prepared-clause-light
returns-in_err-prepared-clause-light g c = never_ok c.from_residual-in_err-prepared.result _ _ c.from_residual-in_err-prepared.ensures.1

pub returns-in_err-prepared-clause-writes : goal.returns-in_err-prepared-clause-writes
returns-in_err-prepared-clause-writes g c = never_ok c.from_residual-in_err-prepared.result _ _ c.from_residual-in_err-prepared.ensures.1

pub returns-in_err-listed-clause-made : goal.returns-in_err-listed-clause-made
returns-in_err-listed-clause-made g c _ = never_ok c.from_residual-in_err-listed.result _ _ c.from_residual-in_err-listed.ensures.1

pub returns-in_err-listed-clause-taken : goal.returns-in_err-listed-clause-taken
returns-in_err-listed-clause-taken g c _ = never_ok c.from_residual-in_err-listed.result _ _ c.from_residual-in_err-listed.ensures.1

pub returns-in_err-listed-clause-weight : goal.returns-in_err-listed-clause-weight
returns-in_err-listed-clause-weight g c = never_ok c.from_residual-in_err-listed.result _ _ c.from_residual-in_err-listed.ensures.1

pub returns-in_err-listed-clause-unindexed : goal.returns-in_err-listed-clause-unindexed
returns-in_err-listed-clause-unindexed g c _ _ = never_ok c.from_residual-in_err-listed.result _ _ c.from_residual-in_err-listed.ensures.1

pub returns-in_err-listed-clause-stands : goal.returns-in_err-listed-clause-stands
returns-in_err-listed-clause-stands g c _ = never_ok c.from_residual-in_err-listed.result _ _ c.from_residual-in_err-listed.ensures.1

pub returns-in_err-listed-clause-light : goal.returns-in_err-listed-clause-light
returns-in_err-listed-clause-light g c = never_ok c.from_residual-in_err-listed.result _ _ c.from_residual-in_err-listed.ensures.1

pub returns-in_err-listed-clause-writes : goal.returns-in_err-listed-clause-writes
returns-in_err-listed-clause-writes g c = never_ok c.from_residual-in_err-listed.result _ _ c.from_residual-in_err-listed.ensures.1

pub returns-in_err-test_room-2-clause-made : goal.returns-in_err-test_room-2-clause-made
returns-in_err-test_room-2-clause-made g c _ = never_ok c.from_residual-in_err-test_room-2.result _ _ c.from_residual-in_err-test_room-2.ensures.1

pub returns-in_err-test_room-2-clause-taken : goal.returns-in_err-test_room-2-clause-taken
returns-in_err-test_room-2-clause-taken g c _ = never_ok c.from_residual-in_err-test_room-2.result _ _ c.from_residual-in_err-test_room-2.ensures.1

pub returns-in_err-test_room-2-clause-weight : goal.returns-in_err-test_room-2-clause-weight
returns-in_err-test_room-2-clause-weight g c = never_ok c.from_residual-in_err-test_room-2.result _ _ c.from_residual-in_err-test_room-2.ensures.1

pub returns-in_err-test_room-2-clause-unindexed : goal.returns-in_err-test_room-2-clause-unindexed
returns-in_err-test_room-2-clause-unindexed g c _ _ = never_ok c.from_residual-in_err-test_room-2.result _ _ c.from_residual-in_err-test_room-2.ensures.1

pub returns-in_err-test_room-2-clause-stands : goal.returns-in_err-test_room-2-clause-stands
returns-in_err-test_room-2-clause-stands g c _ = never_ok c.from_residual-in_err-test_room-2.result _ _ c.from_residual-in_err-test_room-2.ensures.1

pub returns-in_err-test_room-2-clause-light : goal.returns-in_err-test_room-2-clause-light
returns-in_err-test_room-2-clause-light g c = never_ok c.from_residual-in_err-test_room-2.result _ _ c.from_residual-in_err-test_room-2.ensures.1

pub returns-in_err-test_room-2-clause-writes : goal.returns-in_err-test_room-2-clause-writes
returns-in_err-test_room-2-clause-writes g c = never_ok c.from_residual-in_err-test_room-2.result _ _ c.from_residual-in_err-test_room-2.ensures.1

pub returns-in_err-id-clause-made : goal.returns-in_err-id-clause-made
returns-in_err-id-clause-made g c _ = never_ok c.from_residual-in_err-id.result _ _ c.from_residual-in_err-id.ensures.1

pub returns-in_err-id-clause-taken : goal.returns-in_err-id-clause-taken
returns-in_err-id-clause-taken g c _ = never_ok c.from_residual-in_err-id.result _ _ c.from_residual-in_err-id.ensures.1

pub returns-in_err-id-clause-weight : goal.returns-in_err-id-clause-weight
returns-in_err-id-clause-weight g c = never_ok c.from_residual-in_err-id.result _ _ c.from_residual-in_err-id.ensures.1

pub returns-in_err-id-clause-unindexed : goal.returns-in_err-id-clause-unindexed
returns-in_err-id-clause-unindexed g c _ _ = never_ok c.from_residual-in_err-id.result _ _ c.from_residual-in_err-id.ensures.1

pub returns-in_err-id-clause-stands : goal.returns-in_err-id-clause-stands
returns-in_err-id-clause-stands g c _ = never_ok c.from_residual-in_err-id.result _ _ c.from_residual-in_err-id.ensures.1

pub returns-in_err-id-clause-light : goal.returns-in_err-id-clause-light
returns-in_err-id-clause-light g c = never_ok c.from_residual-in_err-id.result _ _ c.from_residual-in_err-id.ensures.1

pub returns-in_err-id-clause-writes : goal.returns-in_err-id-clause-writes
returns-in_err-id-clause-writes g c = never_ok c.from_residual-in_err-id.result _ _ c.from_residual-in_err-id.ensures.1

pub returns-in_err-put_properties-clause-made : goal.returns-in_err-put_properties-clause-made
returns-in_err-put_properties-clause-made g c _ = never_ok c.from_residual-in_err-put_properties.result _ _ c.from_residual-in_err-put_properties.ensures.1

pub returns-in_err-put_properties-clause-taken : goal.returns-in_err-put_properties-clause-taken
returns-in_err-put_properties-clause-taken g c _ = never_ok c.from_residual-in_err-put_properties.result _ _ c.from_residual-in_err-put_properties.ensures.1

pub returns-in_err-put_properties-clause-weight : goal.returns-in_err-put_properties-clause-weight
returns-in_err-put_properties-clause-weight g c = never_ok c.from_residual-in_err-put_properties.result _ _ c.from_residual-in_err-put_properties.ensures.1

pub returns-in_err-put_properties-clause-unindexed : goal.returns-in_err-put_properties-clause-unindexed
returns-in_err-put_properties-clause-unindexed g c _ _ =
    never_ok c.from_residual-in_err-put_properties.result _ _ c.from_residual-in_err-put_properties.ensures.1

pub returns-in_err-put_properties-clause-stands : goal.returns-in_err-put_properties-clause-stands
returns-in_err-put_properties-clause-stands g c _ = never_ok c.from_residual-in_err-put_properties.result _ _ c.from_residual-in_err-put_properties.ensures.1

pub returns-in_err-put_properties-clause-light : goal.returns-in_err-put_properties-clause-light
returns-in_err-put_properties-clause-light g c = never_ok c.from_residual-in_err-put_properties.result _ _ c.from_residual-in_err-put_properties.ensures.1

pub returns-in_err-put_properties-clause-writes : goal.returns-in_err-put_properties-clause-writes
returns-in_err-put_properties-clause-writes g c = never_ok c.from_residual-in_err-put_properties.result _ _ c.from_residual-in_err-put_properties.ensures.1

pub returns-in_err-enter_values-clause-made : goal.returns-in_err-enter_values-clause-made
returns-in_err-enter_values-clause-made g c _ = never_ok c.from_residual-in_err-enter_values.result _ _ c.from_residual-in_err-enter_values.ensures.1

pub returns-in_err-enter_values-clause-taken : goal.returns-in_err-enter_values-clause-taken
returns-in_err-enter_values-clause-taken g c _ = never_ok c.from_residual-in_err-enter_values.result _ _ c.from_residual-in_err-enter_values.ensures.1

pub returns-in_err-enter_values-clause-weight : goal.returns-in_err-enter_values-clause-weight
returns-in_err-enter_values-clause-weight g c = never_ok c.from_residual-in_err-enter_values.result _ _ c.from_residual-in_err-enter_values.ensures.1

pub returns-in_err-enter_values-clause-unindexed : goal.returns-in_err-enter_values-clause-unindexed
returns-in_err-enter_values-clause-unindexed g c _ _ = never_ok c.from_residual-in_err-enter_values.result _ _ c.from_residual-in_err-enter_values.ensures.1

pub returns-in_err-enter_values-clause-stands : goal.returns-in_err-enter_values-clause-stands
returns-in_err-enter_values-clause-stands g c _ = never_ok c.from_residual-in_err-enter_values.result _ _ c.from_residual-in_err-enter_values.ensures.1

pub returns-in_err-enter_values-clause-light : goal.returns-in_err-enter_values-clause-light
returns-in_err-enter_values-clause-light g c = never_ok c.from_residual-in_err-enter_values.result _ _ c.from_residual-in_err-enter_values.ensures.1

pub returns-in_err-enter_values-clause-writes : goal.returns-in_err-enter_values-clause-writes
returns-in_err-enter_values-clause-writes g c = never_ok c.from_residual-in_err-enter_values.result _ _ c.from_residual-in_err-enter_values.ensures.1

pub returns-clause-cause : goal.returns-clause-cause
returns-clause-cause g c =
    ok_cause _ _ _ _ (later_on (later_on (later_on (later_on c.in_ok-prepared.ensures.cause.later c.in_ok-listed.ensures.cause.later)
    c.in_ok-id.ensures.cause.later) c.in_ok-put_properties.ensures.cause.later) c.in_ok-enter_values.ensures.cause.later)

-- ---- an exit by a fault is no answer
pub returns-in_err-test_room-clause-names_full : goal.returns-in_err-test_room-clause-names_full
returns-in_err-test_room-clause-names_full g c used uses many = is_err c.from_residual.result _ c.from_residual.ensures.1

pub returns-in_err-prepared-clause-names_full : goal.returns-in_err-prepared-clause-names_full
returns-in_err-prepared-clause-names_full g c used uses many = is_err c.from_residual-in_err-prepared.result _ c.from_residual-in_err-prepared.ensures.1

pub returns-in_err-listed-clause-names_full : goal.returns-in_err-listed-clause-names_full
returns-in_err-listed-clause-names_full g c used uses many = is_err c.from_residual-in_err-listed.result _ c.from_residual-in_err-listed.ensures.1

pub returns-in_err-test_room-2-clause-names_full : goal.returns-in_err-test_room-2-clause-names_full
returns-in_err-test_room-2-clause-names_full g c used uses many =
    is_err c.from_residual-in_err-test_room-2.result _ c.from_residual-in_err-test_room-2.ensures.1

pub returns-in_err-id-clause-names_full : goal.returns-in_err-id-clause-names_full
returns-in_err-id-clause-names_full g c used uses many = is_err c.from_residual-in_err-id.result _ c.from_residual-in_err-id.ensures.1

pub returns-in_err-put_properties-clause-names_full : goal.returns-in_err-put_properties-clause-names_full
returns-in_err-put_properties-clause-names_full g c used uses many =
    is_err c.from_residual-in_err-put_properties.result _ c.from_residual-in_err-put_properties.ensures.1

pub returns-in_err-enter_values-clause-names_full : goal.returns-in_err-enter_values-clause-names_full
returns-in_err-enter_values-clause-names_full g c used uses many =
    is_err c.from_residual-in_err-enter_values.result _ c.from_residual-in_err-enter_values.ensures.1

pub returns-clause-names_full : goal.returns-clause-names_full
returns-clause-names_full g c used uses many =
    absurd (false≢true (c.in_ok-prepared.ensures.names_full used (subst (λ l. UsesNames c.args.names.now.names (c.args.label.now ∷ keys_in l) used)
    (sym c.as_slice-pairs.ensures) uses) many))

-- ---- the names before, and the new ones
pub returns-in_err-test_room-clause-prefix : goal.returns-in_err-test_room-clause-prefix
returns-in_err-test_room-clause-prefix g c = ([], sym (append-nil c.args.names.now.names))

pub returns-in_err-prepared-clause-prefix : goal.returns-in_err-prepared-clause-prefix
returns-in_err-prepared-clause-prefix g c = c.prepare.ensures.prefix

pub returns-in_err-listed-clause-prefix : goal.returns-in_err-listed-clause-prefix
returns-in_err-listed-clause-prefix g c = c.prepare.ensures.prefix

pub returns-in_err-test_room-2-clause-prefix : goal.returns-in_err-test_room-2-clause-prefix
returns-in_err-test_room-2-clause-prefix g c = c.prepare.ensures.prefix

pub returns-in_err-id-clause-prefix : goal.returns-in_err-id-clause-prefix
returns-in_err-id-clause-prefix g c = c.prepare.ensures.prefix

pub returns-in_err-put_properties-clause-prefix : goal.returns-in_err-put_properties-clause-prefix
returns-in_err-put_properties-clause-prefix g c = c.prepare.ensures.prefix

pub returns-in_err-enter_values-clause-prefix : goal.returns-in_err-enter_values-clause-prefix
returns-in_err-enter_values-clause-prefix g c = c.prepare.ensures.prefix

pub returns-clause-prefix : goal.returns-clause-prefix
returns-clause-prefix g c = c.prepare.ensures.prefix

-- ---- the space goes on
to_listed : (g : Over) (c : After-listed_pairs g) → g.S.Reads.onward c.args.space.now c.listed_pairs.new.space
to_listed g c =
    g.met.S.Reads.further_onward c.args.space.now c.prepare.new.space c.listed_pairs.new.space c.prepare.ensures.onward c.listed_pairs.ensures.onward

to_properties : (g : Over) (c : After-put_properties g) → g.S.Reads.onward c.args.space.now c.put_properties.new.space
to_properties g c =
    let on = g.met.S.Reads.further_onward in
    on c.args.space.now c.put_node.new.space c.put_properties.new.space
    (on c.args.space.now c.listed_pairs.new.space c.put_node.new.space (to_listed g (goal.at.After-put_properties g c).After-listed_pairs)
    c.put_node.ensures.onward) c.put_properties.ensures.onward

to_values : (g : Over) (c : After-enter_values g) → g.S.Reads.onward c.args.space.now c.enter_values.new.space
to_values g c =
    g.met.S.Reads.further_onward c.args.space.now c.put_properties.new.space c.enter_values.new.space
    (to_properties g (goal.at.After-enter_values g c).After-put_properties) c.enter_values.ensures.onward

pub returns-in_err-prepared-clause-onward : goal.returns-in_err-prepared-clause-onward
returns-in_err-prepared-clause-onward g c = c.prepare.ensures.onward

pub returns-in_err-listed-clause-onward : goal.returns-in_err-listed-clause-onward
returns-in_err-listed-clause-onward g c = to_listed g (goal.at.returns-in_err-listed-clause-onward g c).After-listed_pairs

pub returns-in_err-test_room-2-clause-onward : goal.returns-in_err-test_room-2-clause-onward
returns-in_err-test_room-2-clause-onward g c = to_listed g (goal.at.returns-in_err-test_room-2-clause-onward g c).After-listed_pairs

pub returns-in_err-id-clause-onward : goal.returns-in_err-id-clause-onward
returns-in_err-id-clause-onward g c =
    g.met.S.Reads.further_onward c.args.space.now c.listed_pairs.new.space c.put_node.new.space
    (to_listed g (goal.at.returns-in_err-id-clause-onward g c).After-listed_pairs) c.put_node.ensures.onward

pub returns-in_err-put_properties-clause-onward : goal.returns-in_err-put_properties-clause-onward
returns-in_err-put_properties-clause-onward g c = to_properties g (goal.at.returns-in_err-put_properties-clause-onward g c).After-put_properties

pub returns-in_err-enter_values-clause-onward : goal.returns-in_err-enter_values-clause-onward
returns-in_err-enter_values-clause-onward g c = to_values g (goal.at.returns-in_err-enter_values-clause-onward g c).After-enter_values

pub returns-clause-onward : goal.returns-clause-onward
returns-clause-onward g c = to_values g (goal.at.returns-clause-onward g c).After-enter_values

-- ---- what refusals leave, write and count
pub returns-in_err-test_room-clause-leaves : goal.returns-in_err-test_room-clause-leaves
returns-in_err-test_room-clause-leaves g c tells =
    let s = g.S.Reads.state c.args.space.now in
    let fault = c.in_err-test_room.field-0.0 in
    fault_exit (λ f. f) (LeavesSpace s s) fault c.from_residual.result c.from_residual.ensures.1 (read_leaves s s refl fault)

pub returns-in_err-prepared-clause-leaves : goal.returns-in_err-prepared-clause-leaves
returns-in_err-prepared-clause-leaves g c tells =
    let s = g.S.Reads.state c.args.space.now in
    let t = g.S.Reads.state c.prepare.new.space in
    fault_exit (λ f. f) (LeavesSpace s t) c.in_err-prepared.field-0.0 c.from_residual-in_err-prepared.result c.from_residual-in_err-prepared.ensures.1
    c.in_err-prepared.ensures.leaves

pub returns-in_err-test_room-2-clause-leaves : goal.returns-in_err-test_room-2-clause-leaves
returns-in_err-test_room-2-clause-leaves g c tells =
    let s = g.S.Reads.state c.args.space.now in
    let t = g.S.Reads.state c.listed_pairs.new.space in
    let fault = c.in_err-test_room-2.field-0.0 in
    fault_exit (λ f. f) (LeavesSpace s t) fault c.from_residual-in_err-test_room-2.result c.from_residual-in_err-test_room-2.ensures.1
    (late_leaves s t fault (subst MayComeLate (sym c.in_err-test_room-2.ensures.full.is) refl))

pub returns-in_err-test_room-clause-refused_writes : goal.returns-in_err-test_room-clause-refused_writes
returns-in_err-test_room-clause-refused_writes g c = on_any_err _ _ (more_written (omega arith) (none_written _ _ refl))

pub returns-in_err-prepared-clause-refused_writes : goal.returns-in_err-prepared-clause-refused_writes
returns-in_err-prepared-clause-refused_writes g c = on_any_err _ _ (more_written (omega arith) c.prepare.ensures.few_writes)

pub returns-in_err-test_room-clause-cause : goal.returns-in_err-test_room-clause-cause
returns-in_err-test_room-clause-cause g c =
    room_refusal_cause _ _ c.from_residual.result c.in_err-test_room.field-0.0 c.in_err-test_room.ensures.full (omega arith) c.from_residual.ensures.1

pub returns-in_err-test_room-2-clause-cause : goal.returns-in_err-test_room-2-clause-cause
returns-in_err-test_room-2-clause-cause g c =
    room_refusal_cause _ _ c.from_residual-in_err-test_room-2.result c.in_err-test_room-2.field-0.0 c.in_err-test_room-2.ensures.full
    (later_on c.in_ok-prepared.ensures.cause.later c.in_ok-listed.ensures.cause.later) c.from_residual-in_err-test_room-2.ensures.1

-- ---- an answer is no refusal
pub returns-clause-refused : goal.returns-clause-refused
returns-clause-refused g c tells whole = tt

pub returns-clause-caused : goal.returns-clause-caused
returns-clause-caused g c tells = tt

pub returns-clause-caused_after : goal.returns-clause-caused_after
returns-clause-caused_after g c tells = tt

pub returns-clause-damaged : goal.returns-clause-damaged
returns-clause-damaged g c tells = tt

pub returns-clause-counts : goal.returns-clause-counts
returns-clause-counts g c tells whole = tt

pub returns-clause-leaves : goal.returns-clause-leaves
returns-clause-leaves g c tells = tt

pub returns-clause-refused_writes : goal.returns-clause-refused_writes
returns-clause-refused_writes g c = tt
