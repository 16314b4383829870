use Rattle.std.specs.Prelude.{Contains, slice_get}
use Rattle.std.proofs.Common.{◌≡◌, ◌∙◌, ◌+◌, ◌≤◌, ℕ, true, Option, Some, List, map, inl, inr, sym, ap, subst, arith, refl, rules}
use Rattle.plain_graph.specs.Reply.{Done}
use Rattle.plain_graph.specs.declared.command.Command.TheVariants as commands
use Rattle.prop_store.specs.Changing.{UnsetsValue, released_blocks}
use Rattle.change_parts.specs.Change.{IsRefusal}
use Rattle.change_parts.specs.ChangeFault.{of_fault, LeavesSpace}
use Rattle.change_parts.specs.Damage.{BlamesEntries, IsAsFound, IsBroken}
use Rattle.change_parts.specs.Owners.{owner_of}
use Rattle.change_parts.specs.Store.{IsStore}
use Rattle.prop_store.specs.Owner.{IsInUse}
use Rattle.rec_bytes.specs.Space.{SameButReads, State}
use Rattle.store_rules.specs.Views.{key_in}
use Rattle.change_parts.proofs.KeptIndexes.{midway, whole_read}
use Rattle.node_changes.proofs.Broken.{read_broken}
use Rattle.change_parts.proofs.Broken.{blames_both, blames_more}
use Rattle.node_changes.proofs.EntriesFaults.{owner_file}
use Rattle.change_parts.proofs.IndexesLeft.{properties_leave}
use Rattle.change_parts.specs.Causes.{IsCaused, IsCausedAfter}
use Rattle.change_parts.proofs.Causes.{absent_caused, any_blamed, caused_left, failure_caused}
use Rattle.change_parts.proofs.Exits.{fault_exit, fault_fails, failure_late, late_leaves, read_leaves}
use Rattle.change_parts.proofs.Readings.{made_read, there_read}
use Rattle.node_changes.proofs.Setting.{has_key, unnamed_none, unset_absent, unset_missing, unset_nothing}
use Rattle.change_parts.proofs.Elements.{has_owner}
use Rattle.change_parts.proofs.Readings.{prop_refused}
use Rattle.change_parts.proofs.DiskCauses.{change_cause_passed, fault_cause_passed, later_on}
use Rattle.plain_graph.specs.Graph.{has_element}
use Rattle.plain_graph.specs.Refusals.{change_reasons}
use Rattle.prop_store.specs.Changing.{HasElement}
use Rattle.store_rules.specs.Indexes.{wanted_in}
use Rattle.change_parts.proofs.Elements.{same_both}
use Rattle.change_parts.proofs.Reasons.{outside_refused}
use Rattle.node_changes.proofs.EntryChanges.{indexes_between, unset_any}
use Rattle.node_changes.proofs.IndexBeside.{index_written, touched_beside}
use Rattle.change_parts.proofs.PairsPut.{owner_is}
use Rattle.change_parts.proofs.Writes.{on_any_err}
use Rattle.store_rules.specs.Writes.{WritesAtMost}
use Rattle.store_rules.proofs.WriteLaws.{more_written, none_written, then_written}
use Rattle.change_parts.specs.Change.{MakesChange}
use Rattle.node_changes.specs.Entries.{IsIndexedValue}
use Rattle.prop_index.specs.Listing.{pair_of}
use Rattle.prop_store.specs.Alone.{OwnsProperties, RemovesAlone, UnsetsAlone}
use Rattle.prop_store.specs.Changing.{RemovesValue}
use Rattle.prop_store.specs.Owner.{IsOwner}
use Rattle.prop_store.specs.declared.owner.Owner.{Owner}
use Rattle.prop_store.proofs.ElementGraphs.{listed_at, owns_listed}
use Rattle.rec_bytes.specs.Key.{IsKey}
use Rattle.store_rules.specs.Indexes.{AreIndexed}
use Rattle.store_rules.specs.Properties.{Property}
use Rattle.rec_bytes.proofs.Causes.{never_ok, ok_cause}
use Rattle.prop_store.specs.Finding.{FreesMet}
use Rattle.rec_bytes.specs.Format as format
use Rattle.store_rules.specs.Views.{Records, kind_at}
use Rattle.node_changes.specs.PropertySetting.{LosesKey}
use Rattle.node_changes.proofs.IndexBeside.{kinds_beside}
use Rattle.node_changes.proofs.property_setting.unset.Goals as goal
use Rattle.node_changes.proofs.property_setting.unset.Goals.{After-indexed_value, After-leave_entry}
use Rattle.node_changes.proofs.property_setting.unset.Given.{Over}
use Rattle.store_rules.specs.Graph.{graph_in}

pub returns-in_err-owner-clause-refused : goal.returns-in_err-owner-clause-refused
returns-in_err-owner-clause-refused g c tells whole =
    let store = midway _ _ whole in
    let s = g.S.Reads.state c.args.space.now in
    fault_exit (λ f. f) (IsRefusal s.shape.limit (graph_in s) (commands.Unset c.args.target c.args.key.now)) c.in_err-owner.field-0.0 c.from_residual.result
    c.from_residual.ensures.1
    (unset_missing s.shape.limit (graph_in s) c.args.target c.args.key.now c.in_err-owner.field-0.0 (c.in_err-owner.ensures.refused tells c.args.names.now.names
    store))

-- ---- what is damaged

pub returns-in_err-owner-clause-damaged : goal.returns-in_err-owner-clause-damaged
returns-in_err-owner-clause-damaged g c tells =
    fault_exit (λ f. f) (BlamesEntries (g.S.Reads.state c.args.space.now) (g.S.Reads.state c.find_owner.new.space)) c.in_err-owner.field-0.0
    c.from_residual.result c.from_residual.ensures.1 (blames_more _ _ (λ damage broken. inl broken) c.in_err-owner.field-0.0
    (c.in_err-owner.ensures.damaged tells))

-- ---- why it is refused over any records
pub returns-in_err-owner-clause-caused : goal.returns-in_err-owner-clause-caused
returns-in_err-owner-clause-caused g c tells =
    let s = g.S.Reads.state c.args.space.now in
    let t = g.S.Reads.state c.find_owner.new.space in
    let names = c.args.names.now.names in
    let command = commands.Unset c.args.target c.args.key.now in
    fault_exit (λ f. f) (IsCaused command s t names names) c.in_err-owner.field-0.0 c.from_residual.result c.from_residual.ensures.1
    (absent_caused command s t names names c.args.target (λ id e. e) (λ id e. e) c.in_err-owner.field-0.0 (c.in_err-owner.ensures.absent tells))

-- ---- and by the space as it is left alone

pub returns-in_err-owner-clause-caused_after : goal.returns-in_err-owner-clause-caused_after
returns-in_err-owner-clause-caused_after g c tells =
    let s = g.S.Reads.state c.args.space.now in
    let t = g.S.Reads.state c.find_owner.new.space in
    let names = c.args.names.now.names in
    let command = commands.Unset c.args.target c.args.key.now in
    let fault = c.in_err-owner.field-0.0 in
    fault_exit (λ f. f) (IsCausedAfter command t names names) fault c.from_residual.result c.from_residual.ensures.1
    (record {
      caused = caused_left command s t t names names c.find_owner.ensures.state fault
          (absent_caused command s t names names c.args.target (λ id e. e) (λ id e. e) fault (c.in_err-owner.ensures.absent tells));
      damaged = any_blamed _ (λ damage. tt) fault;
    })

-- ---- the value that an index may have

module _ (g : Over) (c : After-indexed_value g) where
  abbrev s : State
  s = g.S.Reads.state c.args.space.now

  abbrev m : State
  m = g.S.Reads.state c.find_owner.new.space

  abbrev n : State
  n = g.S.Reads.state c.indexed_value.new.space

  read : SameButReads s n
  read = same_both s m n c.find_owner.ensures.state c.indexed_value.ensures.same

  -- the element is in use
  used_then : g.S.Reads.tells → IsInUse m.records (owner_of c.args.target)
  used_then tells = subst (λ (z : State). IsInUse z.records (owner_of c.args.target)) (sym c.find_owner.ensures.state) (c.in_ok-owner.ensures.in_use tells)

  at : slice_get c.args.names.now.names c.in-Some.number ≡ Some c.args.key.now
  at = c.in-Some.ensures.some ∙ ap Some c.as_bytes.ensures

  module _ (tells : g.S.Reads.tells) (whole : IsStore s c.args.names.now.names) where
    found : IsStore m c.args.names.now.names
    found = whole_read s m c.args.names.now.names c.find_owner.ensures.state whole

    store : IsStore n c.args.names.now.names
    store = whole_read s n c.args.names.now.names read whole

    there : has_element (graph_in n) c.args.target ≡ true
    there = there_read s n c.args.target read (c.in_ok-owner.ensures.there tells)

    element : HasElement n (owner_of c.args.target)
    element = has_owner n c.args.names.now.names c.args.target (midway n c.args.names.now.names store) there

pub returns-in_default-clause-made : goal.returns-in_default-clause-made
returns-in_default-clause-made g c tells whole =
    let s = g.S.Reads.state c.args.space.now in
    let m = g.S.Reads.state c.find_owner.new.space in
    let names = c.args.names.now.names in
    let there = c.in_ok-owner.ensures.there tells in
    unset_nothing s names c.args.target c.args.key.now (midway s names whole) there m whole c.find_owner.ensures.state
    (unnamed_none s names c.args.target c.args.key.now (midway s names whole) there (subst (λ k. ¬ Contains names k) c.as_bytes.ensures
    c.in_default.ensures.none))

pub returns-in_err-held-clause-refused : goal.returns-in_err-held-clause-refused
returns-in_err-held-clause-refused g c tells whole =
    let after = (goal.at.returns-in_err-held-clause-refused g c).After-indexed_value in
    let s = g.S.Reads.state c.args.space.now in
    let command = commands.Unset c.args.target c.args.key.now in
    let here = found g after tells whole in
    fault_exit (λ f. f) (IsRefusal s.shape.limit (graph_in s) command) c.in_err-held.field-0.0 c.from_residual-in_err-held.result
    c.from_residual-in_err-held.ensures.1
    (outside_refused change_reasons s.shape.limit (graph_in s) command c.in_err-held.field-0.0 (c.in_err-held.ensures.not_damaged tells
    (wanted_in (g.S.Reads.state c.find_owner.new.space).records) here.store.indexes here.store.store (used_then g after tells)))

pub returns-in_err-held-clause-caused : goal.returns-in_err-held-clause-caused
returns-in_err-held-clause-caused g c tells =
    let s = g.S.Reads.state c.args.space.now in
    let t = g.S.Reads.state c.indexed_value.new.space in
    let names = c.args.names.now.names in
    let command = commands.Unset c.args.target c.args.key.now in
    fault_exit (λ f. f) (IsCaused command s t names names) c.in_err-held.field-0.0 c.from_residual-in_err-held.result c.from_residual-in_err-held.ensures.1
    (failure_caused command s t names names c.in_err-held.field-0.0 c.in_err-held.ensures.failure)

pub returns-in_err-held-clause-caused_after : goal.returns-in_err-held-clause-caused_after
returns-in_err-held-clause-caused_after g c tells =
    let t = g.S.Reads.state c.indexed_value.new.space in
    let names = c.args.names.now.names in
    let command = commands.Unset c.args.target c.args.key.now in
    let fault = c.in_err-held.field-0.0 in
    fault_exit (λ f. f) (IsCausedAfter command t names names) fault c.from_residual-in_err-held.result c.from_residual-in_err-held.ensures.1
    (record { caused = failure_caused command t t names names fault c.in_err-held.ensures.failure; damaged = any_blamed _ (λ damage. tt) fault })

pub returns-in_err-held-clause-cause : goal.returns-in_err-held-clause-cause
returns-in_err-held-clause-cause g c =
    change_cause_passed _ _ _ c.from_residual-in_err-held.result c.in_err-held.field-0.0 c.in_ok-owner.ensures.cause.later c.in_err-held.ensures.cause
    c.from_residual-in_err-held.ensures.1

-- ---- the value that is taken away

pub returns-in_err-released-clause-refused : goal.returns-in_err-released-clause-refused
returns-in_err-released-clause-refused g c tells whole =
    let after = (goal.at.returns-in_err-released-clause-refused g c).After-indexed_value in
    let s = g.S.Reads.state c.args.space.now in
    let n = g.S.Reads.state c.indexed_value.new.space in
    let names = c.args.names.now.names in
    fault_exit of_fault (IsRefusal s.shape.limit (graph_in s) (commands.Unset c.args.target c.args.key.now)) c.in_err-released.field-0.0
    c.from_residual-in_err-released.result c.from_residual-in_err-released.ensures.1
    (prop_refused s.shape.limit (graph_in s) (commands.Unset c.args.target c.args.key.now) c.in_err-released.field-0.0
    (c.in_err-released.ensures.not_damaged tells
    (has_key n names c.args.target c.args.key.now (midway n names (store g after tells whole)) (there g after tells whole) c.in_ok-owner.owner c.in-Some.number
    c.in_ok-owner.ensures.owner (at g after))))

pub returns-in_err-released-clause-damaged : goal.returns-in_err-released-clause-damaged
returns-in_err-released-clause-damaged g c tells =
    let after = (goal.at.returns-in_err-released-clause-damaged g c).After-indexed_value in
    let s = g.S.Reads.state c.args.space.now in
    let n = g.S.Reads.state c.indexed_value.new.space in
    let used = subst (λ (z : State). IsInUse z.records (owner_of c.args.target)) (sym c.indexed_value.ensures.same) (used_then g after tells) in
    fault_exit of_fault (BlamesEntries s (g.S.Reads.state c.unset.new.space)) c.in_err-released.field-0.0 c.from_residual-in_err-released.result
    c.from_residual-in_err-released.ensures.1
    (blames_more _ _ (λ damage broken. inl broken) (of_fault c.in_err-released.field-0.0) (read_broken s n (read g after) c.in_err-released.field-0.0
    (c.in_err-released.ensures.damaged tells (subst (IsInUse n.records) (sym c.in_ok-owner.ensures.owner) used))))

pub returns-in_err-released-clause-caused : goal.returns-in_err-released-clause-caused
returns-in_err-released-clause-caused g c tells =
    let s = g.S.Reads.state c.args.space.now in
    let t = g.S.Reads.state c.unset.new.space in
    let names = c.args.names.now.names in
    let command = commands.Unset c.args.target c.args.key.now in
    fault_exit of_fault (IsCaused command s t names names) c.in_err-released.field-0.0 c.from_residual-in_err-released.result
    c.from_residual-in_err-released.ensures.1
    (failure_caused command s t names names (of_fault c.in_err-released.field-0.0) (fault_fails c.in_err-released.field-0.0))

pub returns-in_err-released-clause-caused_after : goal.returns-in_err-released-clause-caused_after
returns-in_err-released-clause-caused_after g c tells =
    let t = g.S.Reads.state c.unset.new.space in
    let names = c.args.names.now.names in
    let command = commands.Unset c.args.target c.args.key.now in
    let fault = of_fault c.in_err-released.field-0.0 in
    fault_exit of_fault (IsCausedAfter command t names names) c.in_err-released.field-0.0 c.from_residual-in_err-released.result
    c.from_residual-in_err-released.ensures.1 (record {
      caused = failure_caused command t t names names fault (fault_fails c.in_err-released.field-0.0);
      damaged = any_blamed _ (λ damage. tt) fault;
    })

pub returns-in_err-released-clause-cause : goal.returns-in_err-released-clause-cause
returns-in_err-released-clause-cause g c =
    fault_cause_passed _ _ _ c.from_residual-in_err-released.result c.in_err-released.field-0.0
    (later_on c.in_ok-owner.ensures.cause.later c.in_ok-held.ensures.cause.later) c.in_err-released.ensures.cause c.from_residual-in_err-released.ensures.1

pub returns-in_default-2-clause-made : goal.returns-in_default-2-clause-made
returns-in_default-2-clause-made g c tells whole =
    let after = (goal.at.returns-in_default-2-clause-made g c).After-indexed_value in
    let s = g.S.Reads.state c.args.space.now in
    let n = g.S.Reads.state c.indexed_value.new.space in
    let u = g.S.Reads.state c.unset.new.space in
    let names = c.args.names.now.names in
    let key = c.args.key.now in
    let here = store g after tells whole in
    let is = there g after tells whole in
    let known = has_key n names c.args.target key (midway n names here) is c.in_ok-owner.owner c.in-Some.number c.in_ok-owner.ensures.owner (at g after) in
    made_read s n u names (commands.Unset c.args.target key) Done 2 (read g after)
    (unset_absent n names c.args.target key (midway n names here) is u c.in_ok-owner.owner c.in-Some.number here c.in_ok-owner.ensures.owner (at g after)
    (subst (UnsetsValue n u c.in_ok-owner.owner c.in-Some.number) c.in_default-2.is (c.in_ok-released.ensures.unset tells known)))

-- ---- its entry leaves the index

module _ (g : Over) (c : After-leave_entry g) where
  abbrev back : After-indexed_value g
  back = (goal.at.After-leave_entry g c).After-indexed_value

  abbrev u : State
  u = g.S.Reads.state c.unset.new.space

  owned : IsOwner (owner_of c.args.target)
  owned = owner_is c.args.target (subst (λ (o : Owner). IsKey o.key) c.in_ok-owner.ensures.owner c.in_ok-owner.ensures.key)

  module _ (tells : g.S.Reads.tells) (whole : IsStore (g.S.Reads.state c.args.space.now) c.args.names.now.names) where
    removes : RemovesValue (n g back) u (owner_of c.args.target) c.in-Some.number c.in-Some-2.released
    removes =
        let here = midway (n g back) c.args.names.now.names (store g back tells whole) in
        let known = has_key (n g back) c.args.names.now.names c.args.target c.args.key.now here (there g back tells whole) c.in_ok-owner.owner c.in-Some.number
        c.in_ok-owner.ensures.owner (at g back) in
        subst (λ (o : Owner). RemovesValue (n g back) u o c.in-Some.number c.in-Some-2.released) c.in_ok-owner.ensures.owner
        (subst (UnsetsValue (n g back) u c.in_ok-owner.owner c.in-Some.number) c.in-Some-2.is (c.in_ok-released.ensures.unset tells known))

    alone : RemovesAlone (n g back) u (owner_of c.args.target) (listed_at (n g back) (owner_of c.args.target) owned (element g back tells whole))
        c.in-Some.number c.in-Some-2.released
    alone =
        let es = listed_at (n g back) (owner_of c.args.target) owned (element g back tells whole) in
        let unsets = subst (λ (o : Owner). (es : List Property) → OwnsProperties (n g back) o es → UnsetsAlone (n g back) u o es c.in-Some.number
        c.in_ok-released.field-0) c.in_ok-owner.ensures.owner (c.in_ok-released.ensures.owned tells) in
        subst (UnsetsAlone (n g back) u (owner_of c.args.target) es c.in-Some.number) c.in-Some-2.is
        (unsets es (owns_listed (n g back) (owner_of c.args.target) owned (element g back tells whole)))

    between : AreIndexed u.records (wanted_in (n g back).records)
    between = indexes_between (n g back) u (owner_of c.args.target) removes.changes (store g back tells whole).store.indexes

pub returns-in_err-entries-clause-refused : goal.returns-in_err-entries-clause-refused
returns-in_err-entries-clause-refused g c tells whole =
    let after = (goal.at.returns-in_err-entries-clause-refused g c).After-leave_entry in
    let s = g.S.Reads.state c.args.space.now in
    let n = g.S.Reads.state c.indexed_value.new.space in
    let command = commands.Unset c.args.target c.args.key.now in
    let change = removes g after tells whole in
    fault_exit (λ f. f) (IsRefusal s.shape.limit (graph_in s) command) c.in_err-entries.field-0.0 c.from_residual-in_err-entries.result
    c.from_residual-in_err-entries.ensures.1
    (outside_refused change_reasons s.shape.limit (graph_in s) command c.in_err-entries.field-0.0 (c.in_err-entries.ensures.not_damaged tells
    (wanted_in n.records)
    (between g after tells whole) change.changes.store))

pub returns-in_err-entries-clause-caused : goal.returns-in_err-entries-clause-caused
returns-in_err-entries-clause-caused g c tells =
    let s = g.S.Reads.state c.args.space.now in
    let t = g.S.Reads.state c.leave_entry.new.space in
    let names = c.args.names.now.names in
    let command = commands.Unset c.args.target c.args.key.now in
    fault_exit (λ f. f) (IsCaused command s t names names) c.in_err-entries.field-0.0 c.from_residual-in_err-entries.result
    c.from_residual-in_err-entries.ensures.1
    (failure_caused command s t names names c.in_err-entries.field-0.0 c.in_err-entries.ensures.failure)

pub returns-in_err-entries-clause-caused_after : goal.returns-in_err-entries-clause-caused_after
returns-in_err-entries-clause-caused_after g c tells =
    let t = g.S.Reads.state c.leave_entry.new.space in
    let names = c.args.names.now.names in
    let command = commands.Unset c.args.target c.args.key.now in
    let fault = c.in_err-entries.field-0.0 in
    fault_exit (λ f. f) (IsCausedAfter command t names names) fault c.from_residual-in_err-entries.result c.from_residual-in_err-entries.ensures.1
    (record { caused = failure_caused command t t names names fault c.in_err-entries.ensures.failure; damaged = any_blamed _ (λ damage. tt) fault })

pub returns-in_err-entries-clause-cause : goal.returns-in_err-entries-clause-cause
returns-in_err-entries-clause-cause g c =
    change_cause_passed _ _ _ c.from_residual-in_err-entries.result c.in_err-entries.field-0.0
    (later_on (later_on c.in_ok-owner.ensures.cause.later c.in_ok-held.ensures.cause.later) c.in_ok-released.ensures.cause.later)
    c.in_err-entries.ensures.cause c.from_residual-in_err-entries.ensures.1

pub returns-clause-made : goal.returns-clause-made
returns-clause-made g c tells whole =
    let after = (goal.at.returns-clause-made g c).After-leave_entry in
    let back = (goal.at.After-leave_entry g after).After-indexed_value in
    let s = g.S.Reads.state c.args.space.now in
    let m = g.S.Reads.state c.find_owner.new.space in
    let n = g.S.Reads.state c.indexed_value.new.space in
    let u = g.S.Reads.state c.unset.new.space in
    let v = g.S.Reads.state c.leave_entry.new.space in
    let names = c.args.names.now.names in
    let key = c.args.key.now in
    let target = c.args.target in
    let number = c.in-Some.number in
    let held = c.in_ok-held.held in
    let here = store g back tells whole in
    let change = removes g after tells whole in
    let indexed = between g after tells whole in
    let entries = c.in_ok-entries.ensures in
    let is = subst (λ (z : State). (ix : AreIndexed z.records (wanted_in z.records)) → IsIndexedValue z.records (map (pair_of z.records) ix.definitions)
    target number held) (sym c.indexed_value.ensures.same)
    (λ ix. c.in_ok-held.ensures.held tells (wanted_in m.records) ix (found g back tells whole).store.store (used_then g back tells)) here.store.indexes in
    made_read s n v names (commands.Unset target key) Done (2 + c.in-Some-2.released + c.in_ok-entries.entries) (read g back)
    (subst (λ w. MakesChange (commands.Unset target key) Done (2 + c.in-Some-2.released + w) n v names) (sym entries.weight)
    (unset_any n u v names target key number here (there g back tells whole) (at g back) (owned g after) (element g back tells whole) c.in-Some-2.released
    change (alone g after tells whole) held
    (record {
      beside = touched_beside c.in_ok-entries.entries u v tells entries.touches;
      graph = entries.graph tells (wanted_in n.records) indexed change.changes.store;
      idle = c.leave_entry.ensures.idle;
      keeps = entries.keeps tells (wanted_in n.records) indexed change.changes.store;
      indexed = entries.left tells (wanted_in n.records) indexed change.changes.store;
    }) is))

-- what is written
written : (g : Over) (c : After-leave_entry g) → WritesAtMost (2 + c.in-Some-2.released) (g.S.Reads.state c.args.space.now) (g.S.Reads.state c.unset.new.space)
written g c = more_written (omega arith) (then_written (none_written _ _ (read g (goal.at.After-leave_entry g c).After-indexed_value))
    (subst (λ (o : Option ℕ). WritesAtMost (2 + released_blocks o) (g.S.Reads.state c.indexed_value.new.space) (g.S.Reads.state c.unset.new.space))
    c.in-Some-2.is c.in_ok-released.ensures.writes))

pub returns-clause-writes : goal.returns-clause-writes
returns-clause-writes g c =
    let after = (goal.at.returns-clause-writes g c).After-leave_entry in
    more_written (omega arith) (then_written (written g after) (index_written c.in_ok-entries.entries _ _ c.in_ok-entries.ensures.touches))

pub returns-in_err-entries-clause-refused_writes : goal.returns-in_err-entries-clause-refused_writes
returns-in_err-entries-clause-refused_writes g c =
    let after = (goal.at.returns-in_err-entries-clause-refused_writes g c).After-leave_entry in
    let few : released_blocks (Some c.in-Some-2.released) ≤ 22 = subst (λ r. released_blocks r ≤ 22) c.in-Some-2.is c.in_ok-released.ensures.few in
    on_any_err _ _ (more_written (omega arith) (then_written (written g after) (index_written 3 _ _ c.leave_entry.ensures.at_most)))

pub returns-clause-onward : goal.returns-clause-onward
returns-clause-onward g c =
    let on = g.met.S.Reads.further_onward in
    on c.args.space.now c.unset.new.space c.leave_entry.new.space
    (on c.args.space.now c.indexed_value.new.space c.unset.new.space (on c.args.space.now c.find_owner.new.space c.indexed_value.new.space
    c.find_owner.ensures.onward c.indexed_value.ensures.onward) c.unset.ensures.onward)
    c.leave_entry.ensures.onward

pub returns-in_err-entries-clause-onward : goal.returns-in_err-entries-clause-onward
returns-in_err-entries-clause-onward g c =
    let on = g.met.S.Reads.further_onward in
    on c.args.space.now c.unset.new.space c.leave_entry.new.space
    (on c.args.space.now c.indexed_value.new.space c.unset.new.space (on c.args.space.now c.find_owner.new.space c.indexed_value.new.space
    c.find_owner.ensures.onward c.indexed_value.ensures.onward) c.unset.ensures.onward)
    c.leave_entry.ensures.onward

-- ---- which record is damaged

pub returns-in_err-held-clause-damaged : goal.returns-in_err-held-clause-damaged
returns-in_err-held-clause-damaged g c tells =
    let after = (goal.at.returns-in_err-held-clause-damaged g c).After-indexed_value in
    let s = g.S.Reads.state c.args.space.now in
    let t = g.S.Reads.state c.indexed_value.new.space in
    fault_exit (λ f. f) (BlamesEntries s t) c.in_err-held.field-0.0 c.from_residual-in_err-held.result c.from_residual-in_err-held.ensures.1
    (blames_more _ _ (λ damage broken. inl (subst (λ (z : State). IsBroken z damage) c.find_owner.ensures.state broken)) c.in_err-held.field-0.0
    (c.in_err-held.ensures.damaged tells (used_then g after tells)))

pub returns-in_err-entries-clause-damaged : goal.returns-in_err-entries-clause-damaged
returns-in_err-entries-clause-damaged g c tells =
    let after = (goal.at.After-leave_entry g (goal.at.returns-in_err-entries-clause-damaged g c).After-leave_entry).After-indexed_value in
    let s = g.S.Reads.state c.args.space.now in
    let n = g.S.Reads.state c.indexed_value.new.space in
    let u = g.S.Reads.state c.unset.new.space in
    let v = g.S.Reads.state c.leave_entry.new.space in
    let fault = c.in_err-entries.field-0.0 in
    fault_exit (λ f. f) (BlamesEntries s v) fault c.from_residual-in_err-entries.result c.from_residual-in_err-entries.ensures.1
    (blames_more _ _ (λ damage told.
    let found : IsAsFound s n damage = ap (λ (z : State). z.records (key_in damage.file damage.id)) (read g after) in
    inr (
      told.0,
      told.1 ∙ properties_leave g.S.Reads.tells 2 22 n u c.in_ok-owner.owner (owner_file c.in_ok-owner.owner c.args.target
          c.in_ok-owner.ensures.owner) tells c.unset.ensures.at_most damage told.0.0 ∙ found,
    )) fault
    (blames_both _ _ fault (c.in_err-entries.ensures.blames tells) (c.in_err-entries.ensures.untouched tells)))

pub returns-in_err-owner-clause-made : goal.returns-in_err-owner-clause-made
returns-in_err-owner-clause-made g c _ = never_ok c.from_residual.result _ _ c.from_residual.ensures.1

pub returns-in_err-owner-clause-light : goal.returns-in_err-owner-clause-light
returns-in_err-owner-clause-light g c = never_ok c.from_residual.result _ _ c.from_residual.ensures.1

pub returns-in_err-owner-clause-writes : goal.returns-in_err-owner-clause-writes
returns-in_err-owner-clause-writes g c = never_ok c.from_residual.result _ _ c.from_residual.ensures.1

pub returns-in_err-owner-clause-onward : goal.returns-in_err-owner-clause-onward
returns-in_err-owner-clause-onward g c = search rules

pub returns-in_err-held-clause-made : goal.returns-in_err-held-clause-made
returns-in_err-held-clause-made g c _ = never_ok c.from_residual-in_err-held.result _ _ c.from_residual-in_err-held.ensures.1

pub returns-in_err-held-clause-light : goal.returns-in_err-held-clause-light
returns-in_err-held-clause-light g c = never_ok c.from_residual-in_err-held.result _ _ c.from_residual-in_err-held.ensures.1

pub returns-in_err-held-clause-writes : goal.returns-in_err-held-clause-writes
returns-in_err-held-clause-writes g c = never_ok c.from_residual-in_err-held.result _ _ c.from_residual-in_err-held.ensures.1

pub returns-in_err-released-clause-made : goal.returns-in_err-released-clause-made
returns-in_err-released-clause-made g c _ = never_ok c.from_residual-in_err-released.result _ _ c.from_residual-in_err-released.ensures.1

pub returns-in_err-released-clause-light : goal.returns-in_err-released-clause-light
returns-in_err-released-clause-light g c = never_ok c.from_residual-in_err-released.result _ _ c.from_residual-in_err-released.ensures.1

pub returns-in_err-released-clause-writes : goal.returns-in_err-released-clause-writes
returns-in_err-released-clause-writes g c = never_ok c.from_residual-in_err-released.result _ _ c.from_residual-in_err-released.ensures.1

pub returns-in_err-entries-clause-made : goal.returns-in_err-entries-clause-made
returns-in_err-entries-clause-made g c _ = never_ok c.from_residual-in_err-entries.result _ _ c.from_residual-in_err-entries.ensures.1

pub returns-in_err-entries-clause-light : goal.returns-in_err-entries-clause-light
returns-in_err-entries-clause-light g c = never_ok c.from_residual-in_err-entries.result _ _ c.from_residual-in_err-entries.ensures.1

pub returns-in_err-entries-clause-writes : goal.returns-in_err-entries-clause-writes
returns-in_err-entries-clause-writes g c = never_ok c.from_residual-in_err-entries.result _ _ c.from_residual-in_err-entries.ensures.1

pub returns-clause-cause : goal.returns-clause-cause
returns-clause-cause g c =
    ok_cause _ _ _ _ (later_on (later_on (later_on c.in_ok-owner.ensures.cause.later c.in_ok-held.ensures.cause.later) c.in_ok-released.ensures.cause.later)
    c.in_ok-entries.ensures.cause.later)

pub returns-in_err-owner-clause-leaves : goal.returns-in_err-owner-clause-leaves
returns-in_err-owner-clause-leaves g c =
    let s = g.S.Reads.state c.args.space.now in
    let t = g.S.Reads.state c.find_owner.new.space in
    let fault = c.in_err-owner.field-0.0 in
    fault_exit (λ f. f) (LeavesSpace s t) fault c.from_residual.result c.from_residual.ensures.1 (read_leaves s t c.find_owner.ensures.state fault)

pub returns-in_err-owner-clause-refused_writes : goal.returns-in_err-owner-clause-refused_writes
returns-in_err-owner-clause-refused_writes g c = on_any_err _ _ (more_written (omega arith) (none_written _ _ c.find_owner.ensures.state))

pub returns-in_err-owner-clause-cause : goal.returns-in_err-owner-clause-cause
returns-in_err-owner-clause-cause g c =
    change_cause_passed _ _ _ c.from_residual.result c.in_err-owner.field-0.0 (omega arith) c.in_err-owner.ensures.cause c.from_residual.ensures.1

pub returns-in_err-held-clause-leaves : goal.returns-in_err-held-clause-leaves
returns-in_err-held-clause-leaves g c =
    let s = g.S.Reads.state c.args.space.now in
    let t = g.S.Reads.state c.indexed_value.new.space in
    let fault = c.in_err-held.field-0.0 in
    fault_exit (λ f. f) (LeavesSpace s t) fault c.from_residual-in_err-held.result c.from_residual-in_err-held.ensures.1
    (late_leaves s t fault (failure_late fault c.in_err-held.ensures.failure))

pub returns-in_err-held-clause-refused_writes : goal.returns-in_err-held-clause-refused_writes
returns-in_err-held-clause-refused_writes g c =
    on_any_err _ _ (more_written (omega arith) (then_written (none_written _ _ c.find_owner.ensures.state) (none_written _ _ c.indexed_value.ensures.same)))

pub returns-in_err-held-clause-onward : goal.returns-in_err-held-clause-onward
returns-in_err-held-clause-onward g c =
    g.met.S.Reads.further_onward c.args.space.now c.find_owner.new.space c.indexed_value.new.space c.find_owner.ensures.onward c.indexed_value.ensures.onward

pub returns-in_err-released-clause-leaves : goal.returns-in_err-released-clause-leaves
returns-in_err-released-clause-leaves g c =
    let s = g.S.Reads.state c.args.space.now in
    let t = g.S.Reads.state c.unset.new.space in
    let fault = of_fault c.in_err-released.field-0.0 in
    fault_exit of_fault (LeavesSpace s t) c.in_err-released.field-0.0 c.from_residual-in_err-released.result c.from_residual-in_err-released.ensures.1
    (late_leaves s t fault (failure_late fault (fault_fails c.in_err-released.field-0.0)))

pub returns-in_err-released-clause-onward : goal.returns-in_err-released-clause-onward
returns-in_err-released-clause-onward g c =
    g.met.S.Reads.further_onward c.args.space.now c.indexed_value.new.space c.unset.new.space
    (g.met.S.Reads.further_onward c.args.space.now c.find_owner.new.space c.indexed_value.new.space c.find_owner.ensures.onward c.indexed_value.ensures.onward)
    c.unset.ensures.onward

pub returns-in_err-entries-clause-leaves : goal.returns-in_err-entries-clause-leaves
returns-in_err-entries-clause-leaves g c =
    let s = g.S.Reads.state c.args.space.now in
    let t = g.S.Reads.state c.leave_entry.new.space in
    let fault = c.in_err-entries.field-0.0 in
    fault_exit (λ f. f) (LeavesSpace s t) fault c.from_residual-in_err-entries.result c.from_residual-in_err-entries.ensures.1
    (late_leaves s t fault (failure_late fault c.in_err-entries.ensures.failure))

pub returns-in_default-clause-onward : goal.returns-in_default-clause-onward
returns-in_default-clause-onward g c = c.find_owner.ensures.onward

pub returns-in_default-clause-cause : goal.returns-in_default-clause-cause
returns-in_default-clause-cause g c = ok_cause _ _ _ _ c.in_ok-owner.ensures.cause.later

pub returns-in_default-2-clause-onward : goal.returns-in_default-2-clause-onward
returns-in_default-2-clause-onward g c =
    g.met.S.Reads.further_onward c.args.space.now c.indexed_value.new.space c.unset.new.space
    (g.met.S.Reads.further_onward c.args.space.now c.find_owner.new.space c.indexed_value.new.space c.find_owner.ensures.onward c.indexed_value.ensures.onward)
    c.unset.ensures.onward

pub returns-in_default-2-clause-cause : goal.returns-in_default-2-clause-cause
returns-in_default-2-clause-cause g c =
    ok_cause _ _ _ _ (later_on (later_on c.in_ok-owner.ensures.cause.later c.in_ok-held.ensures.cause.later) c.in_ok-released.ensures.cause.later)

-- ---- the property of the key is in use no more

pub returns-in_err-owner-clause-gone : goal.returns-in_err-owner-clause-gone
returns-in_err-owner-clause-gone g c _ = never_ok c.from_residual.result _ _ c.from_residual.ensures.1

pub returns-in_default-clause-gone : goal.returns-in_default-clause-gone
returns-in_default-clause-gone g c tells = inl (subst (λ k. ¬ Contains c.args.names.now.names k) c.as_bytes.ensures c.in_default.ensures.none)

pub returns-in_err-held-clause-gone : goal.returns-in_err-held-clause-gone
returns-in_err-held-clause-gone g c _ = never_ok c.from_residual-in_err-held.result _ _ c.from_residual-in_err-held.ensures.1

pub returns-in_err-released-clause-gone : goal.returns-in_err-released-clause-gone
returns-in_err-released-clause-gone g c _ = never_ok c.from_residual-in_err-released.result _ _ c.from_residual-in_err-released.ensures.1

frees_read : (s n : State) (u : Records) (o owner : Owner) (number : ℕ) → SameButReads s n → o ≡ owner → FreesMet n.records u o number
    → FreesMet s.records u owner number
frees_read s n u o owner number read is frees =
    subst (λ (q : Owner). FreesMet s.records u q number) is
    (subst (λ (r : Records). FreesMet r u o number) (ap (λ (z : State). z.records) read) frees)

pub returns-in_default-2-clause-gone : goal.returns-in_default-2-clause-gone
returns-in_default-2-clause-gone g c tells =
    let after = (goal.at.returns-in_default-2-clause-gone g c).After-indexed_value in
    let s = g.S.Reads.state c.args.space.now in
    let n = g.S.Reads.state c.indexed_value.new.space in
    let u = g.S.Reads.state c.unset.new.space in
    inr (
      c.in-Some.number,
      at g after,
      frees_read s n u.records c.in_ok-owner.owner (owner_of c.args.target) c.in-Some.number (read g after) c.in_ok-owner.ensures.owner
          (c.in_ok-released.ensures.gone tells),
    )

pub returns-in_err-entries-clause-gone : goal.returns-in_err-entries-clause-gone
returns-in_err-entries-clause-gone g c _ = never_ok c.from_residual-in_err-entries.result _ _ c.from_residual-in_err-entries.ensures.1

pub returns-clause-gone : goal.returns-clause-gone
returns-clause-gone g c tells =
    let after = (goal.at.returns-clause-gone g c).After-leave_entry in
    let back = (goal.at.After-leave_entry g after).After-indexed_value in
    let s = g.S.Reads.state c.args.space.now in
    let n = g.S.Reads.state c.indexed_value.new.space in
    let u = g.S.Reads.state c.unset.new.space in
    let v = g.S.Reads.state c.leave_entry.new.space in
    let beside = touched_beside c.in_ok-entries.entries u v tells c.in_ok-entries.ensures.touches in
    let frees = frees_read s n u.records c.in_ok-owner.owner (owner_of c.args.target) c.in-Some.number (read g back) c.in_ok-owner.ensures.owner
    (c.in_ok-released.ensures.gone tells) in
    inr (
      c.in-Some.number,
      at g back,
      λ e met. ap (λ (f : ℕ → ℕ). f e.id) (kinds_beside u.records v.records beside format.properties_file refl (λ q. omega arith)) ∙ frees e met,
    )
