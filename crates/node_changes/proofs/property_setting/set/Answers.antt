use Rattle.std.specs.Prelude.{Contains, IfSome, slice_get}
use Rattle.std.proofs.Common.{◌≡◌, ◌≢◌, ◌∙◌, ℕ, ◌+◌, ◌-◌, ◌<◌, ◌≤◌, true, ⊎_elim, Option, None, Some, List, [], ◌∷◌, length}
use Rattle.std.proofs.Common.{append-nil, map, inr, sym, ap, subst, inl, arith, refl, rules}
use Rattle.plain_graph.specs.Graph.{UsesName, has_element}
use Rattle.plain_graph.specs.Properties.{blocks_of}
use Rattle.plain_graph.specs.Refusals.{most_names}
use Rattle.plain_graph.specs.Reply.{Done}
use Rattle.plain_graph.specs.declared.command.Command.TheVariants as commands
use Rattle.prop_store.specs.Changing.{HasKey, IsSetRefusal}
use Rattle.prop_store.specs.declared.owner.Owner.{Owner}
use Rattle.prop_store.specs.declared.set_fault.SetFault.{SetFault}
use Rattle.prop_store.specs.Finding.{IsCrowded, LacksMet}
use Rattle.prop_store.specs.Finding.{value_of}
use Rattle.prop_store.specs.Reading.{properties_met}
use Rattle.prop_store.specs.SetFault.{IsSetCause}
use Rattle.rec_bytes.specs.declared.shape.Shape.{Shape}
use Rattle.rec_bytes.specs.RecordFiles.{is_meta_file, meta_key_of}
use Rattle.store_rules.specs.Writes.{WritesAtMost}
use Rattle.name_store.specs.Interning.{IsFullFault, interned}
use Rattle.change_parts.specs.Change.{IsRefusal, IsSetCount}
use Rattle.change_parts.specs.ChangeFault.{LeavesSpace, of_intern, of_set}
use Rattle.change_parts.specs.Store.{IsMidway, IsStore, KeepsElements}
use Rattle.change_parts.proofs.KeptIndexes.{midway, store_now, whole_read}
use Rattle.change_parts.proofs.Counted.{count_full, element_exact, named_exact, set_exact}
use Rattle.node_changes.proofs.EntriesFaults.{entry_exact}
use Rattle.change_parts.proofs.Exits.{failure_late, fault_exit, late_leaves, read_leaves, set_late}
use Rattle.change_parts.proofs.Interned.{keeps_interned, name_written, one_written}
use Rattle.change_parts.proofs.Late.{intern_late, is_err}
use Rattle.change_parts.proofs.LineNames.{held_name, name_prefix, uses_once}
use Rattle.change_parts.proofs.NewNames.{name_one}
use Rattle.node_changes.proofs.Setting.{few_blocks, set_known, set_missing, set_refused, set_unnamed}
use Rattle.change_parts.proofs.Readings.{made_read, store_read, there_read}
use Rattle.store_rules.proofs.WriteLaws.{more_written, none_written, then_written}
use Rattle.change_parts.proofs.Writes.{on_any_err, own_record, touched_written}
use Rattle.change_parts.specs.Causes.{IsCaused, IsNodeTarget, IsCausedAfter}
use Rattle.change_parts.specs.Damage.{BlamesGiven, IsBroken, LeavesIndexes}
use Rattle.node_changes.proofs.EntriesNamed.{found_before, held_leaves}
use Rattle.change_parts.specs.Owners.{owner_of}
use Rattle.prop_store.specs.Owner.{IsInUse}
use Rattle.rec_bytes.specs.Space.{SameButReads, State}
use Rattle.node_changes.proofs.EntriesFaults.{other_leaves, owner_file}
use Rattle.change_parts.proofs.IndexesLeft.{properties_leave}
use Rattle.node_changes.proofs.Broken.{interned_in_use, interned_read, key_blamed, value_blamed}
use Rattle.change_parts.proofs.Broken.{blames_both, blames_more}
use Rattle.change_parts.proofs.Adding.{interned_beside, met_beside}
use Rattle.change_parts.proofs.Causes.{absent_caused, broken_left, caused_left, failure_caused}
use Rattle.node_changes.proofs.EntriesFaults.{entry_caused}
use Rattle.change_parts.proofs.Causes.{intern_blamed, key_caused, set_blamed, set_cause_map, set_caused}
use Rattle.change_parts.proofs.DiskCauses.{change_cause_passed, intern_cause_passed, later_on, set_cause_passed}
use Rattle.change_parts.proofs.Elements.{same_both}
use Rattle.plain_graph.specs.Refusals.{change_reasons}
use Rattle.change_parts.proofs.Reasons.{outside_refused}
use Rattle.node_changes.proofs.EntryChanges.{MakesEntries, held_low, indexes_between, kept_read, set_any, wants_held}
use Rattle.node_changes.proofs.IndexBeside.{index_written, touched_beside}
use Rattle.change_parts.proofs.PairsPut.{owner_is}
use Rattle.node_changes.proofs.SetRefused.{set_entry_refused}
use Rattle.change_parts.specs.Rooms.{LacksRoom}
use Rattle.node_changes.specs.Entries.{IsIndexedValue, LacksValue, new_weight, old_weight, with_new, without_old}
use Rattle.plain_graph.specs.declared.command.Target.{Target}
use Rattle.plain_graph.specs.declared.command.Target.TheVariants as targets
use Rattle.rec_bytes.specs.declared.key.Key.{Key}
use Rattle.rec_bytes.specs.declared.record.Rec.{Rec}
use Rattle.rec_bytes.specs.Format as format
use Rattle.rec_bytes.specs.Meta as metas
use Rattle.store_rules.specs.Views.{high, key_in}
use Rattle.prop_index.specs.Listing.{pair_of}
use Rattle.prop_store.specs.Alone.{IsKnownKey, OwnsProperties, SetsAlone}
use Rattle.prop_store.specs.Changing.{HasElement, SetsValue}
use Rattle.prop_store.specs.Owner.{IsOwner}
use Rattle.prop_store.proofs.ElementGraphs.{listed_at, owns_listed}
use Rattle.rec_bytes.specs.Key.{IsKey}
use Rattle.store_rules.specs.Indexes.{AreIndexed, wanted_in}
use Rattle.store_rules.specs.Properties.{Property}
use Rattle.rec_bytes.proofs.Causes.{never_ok, ok_cause}
use Rattle.plain_graph.specs.declared.value.Value.{Value}
use Rattle.prop_store.specs.Finding.{GivesMet}
use Rattle.node_changes.proofs.GivenKeys.{given_beside}
use Rattle.node_changes.proofs.property_setting.set.Goals as goal
use Rattle.node_changes.proofs.property_setting.set.Goals.{After-change_entry, After-indexed_value, After-intern, In_err-entries}
use Rattle.node_changes.proofs.property_setting.set.Given.{Over}
use Rattle.store_rules.specs.Graph.{graph_in}

pub returns-in_err-owner-clause-refused : goal.returns-in_err-owner-clause-refused
returns-in_err-owner-clause-refused g c tells whole =
    let store = midway _ _ whole in
    let s = g.S.Reads.state c.args.space.now in
    fault_exit (λ f. f) (IsRefusal s.shape.limit (graph_in s) (commands.Set c.args.target c.args.key.now c.args.value.now)) c.in_err-owner.field-0.0
    c.from_residual.result c.from_residual.ensures.1
    (set_missing s.shape.limit (graph_in s) c.args.target c.args.key.now c.args.value.now c.in_err-owner.field-0.0 (c.in_err-owner.ensures.refused tells
    c.args.names.now.names store))

pub returns-in_err-number-clause-refused : goal.returns-in_err-number-clause-refused
returns-in_err-number-clause-refused g c tells whole =
    let store = midway _ _ whole in
    let s = g.S.Reads.state c.args.space.now in
    let old = c.args.names.now.names in
    fault_exit of_intern (IsRefusal s.shape.limit (graph_in s) (commands.Set c.args.target c.args.key.now c.args.value.now)) c.in_err-number.field-0.0
    c.from_residual-in_err-number.result c.from_residual-in_err-number.ensures.1
    (set_unnamed s old c.args.target c.args.key.now c.args.value.now store (c.in_ok-owner.ensures.there tells) c.in_err-number.field-0.0
    (subst (λ k. IsFullFault old k c.in_err-number.field-0.0) c.as_bytes.ensures c.in_err-number.ensures.full_only))

-- the name of the key
text_is : (g : Over) (c : After-indexed_value g) → c.as_bytes.result.now ≡ c.args.key.now
text_is g c = c.as_bytes.ensures

uses : (g : Over) (c : After-indexed_value g) → UsesName c.args.names.now.names c.args.key.now c.intern.new.self.names
uses g c = subst (λ k. UsesName c.args.names.now.names k c.intern.new.self.names) (text_is g c) c.in_ok-number.ensures.names

-- there is room for it where it is new
room : (g : Over) (c : After-indexed_value g) → ¬ Contains c.args.names.now.names c.args.key.now → length c.args.names.now.names ≢ most_names
room g c lacks all = absurd (let e = c.in_ok-number.ensures.full all (subst (λ k. ¬ Contains c.args.names.now.names k) (sym (text_is g c)) lacks) in cc)

few : (g : Over) (c : After-indexed_value g) → length c.intern.new.self.names ≤ most_names
few g c = (held_name c.args.names.now.names c.args.key.now c.intern.new.self.names c.count-known.ensures.are_names (uses g c) c.requires.0 (room g c)).few

at : (g : Over) (c : After-indexed_value g) → slice_get c.intern.new.self.names c.in_ok-number.number ≡ Some c.args.key.now
at g c = c.in_ok-number.ensures.number ∙ ap Some (text_is g c)

module _ (g : Over) (c : After-indexed_value g) (tells : g.S.Reads.tells) (store : IsMidway (g.S.Reads.state c.args.space.now) c.args.names.now.names) where
  -- the store before the name got its number, and after that
  store_found : IsMidway (g.S.Reads.state c.find_owner.new.space) c.args.names.now.names
  store_found = store_read (g.S.Reads.state c.args.space.now) (g.S.Reads.state c.find_owner.new.space) c.args.names.now.names c.find_owner.ensures.state store

  there : has_element (graph_in (g.S.Reads.state c.find_owner.new.space)) c.args.target ≡ true
  there = there_read (g.S.Reads.state c.args.space.now) (g.S.Reads.state c.find_owner.new.space) c.args.target c.find_owner.ensures.state
      (c.in_ok-owner.ensures.there tells)

  kept : KeepsElements (g.S.Reads.state c.find_owner.new.space) (g.S.Reads.state c.intern.new.space) c.intern.new.self.names
  kept = keeps_interned (g.S.Reads.state c.find_owner.new.space) (g.S.Reads.state c.intern.new.space) c.args.names.now.names c.intern.new.self.names
      c.args.key.now
      (subst (λ k. g.S.Reads.state c.intern.new.space ≡ interned (g.S.Reads.state c.find_owner.new.space) c.args.names.now.names k) (text_is g c)
      (c.in_ok-number.ensures.ok tells))
      (uses g c) c.requires.0 (room g c) store_found

  -- so it is after the value that was there was read
  kept_then : KeepsElements (g.S.Reads.state c.find_owner.new.space) (g.S.Reads.state c.indexed_value.new.space) c.intern.new.self.names
  kept_then = kept_read (g.S.Reads.state c.find_owner.new.space) (g.S.Reads.state c.intern.new.space) (g.S.Reads.state c.indexed_value.new.space)
      c.intern.new.self.names c.indexed_value.ensures.same kept

  known : HasKey (g.S.Reads.state c.indexed_value.new.space) c.in_ok-owner.owner c.in_ok-number.number
  known = set_known (g.S.Reads.state c.find_owner.new.space) c.args.names.now.names c.args.target c.args.key.now c.args.value.now store_found there
      (g.S.Reads.state c.indexed_value.new.space) c.intern.new.self.names c.in_ok-number.number c.in_ok-owner.owner c.in_ok-owner.ensures.owner (uses g c)
      kept_then (few g c) (at g c)

  refused : (fault : SetFault) → IsSetRefusal (g.S.Reads.state c.indexed_value.new.space) c.in_ok-owner.owner c.in_ok-number.number c.args.value.now fault
      → IsRefusal (g.S.Reads.state c.args.space.now).shape.limit (graph_in (g.S.Reads.state c.args.space.now))
      (commands.Set c.args.target c.args.key.now c.args.value.now) (of_set fault)
  refused fault why = subst (λ z. IsRefusal z.shape.limit (graph_in z) (commands.Set c.args.target c.args.key.now c.args.value.now) (of_set fault))
      c.find_owner.ensures.state
      (set_refused (g.S.Reads.state c.find_owner.new.space) c.args.names.now.names c.args.target c.args.key.now c.args.value.now store_found there
      (g.S.Reads.state c.indexed_value.new.space) c.intern.new.self.names c.in_ok-number.number c.in_ok-owner.owner c.in_ok-owner.ensures.owner (uses g c)
      kept_then (few g c) (at g c) fault why)

-- the element was read, and the key has its record
key_written : (g : Over) (c : After-intern g) → WritesAtMost 1 (g.S.Reads.state c.args.space.now) (g.S.Reads.state c.intern.new.space)
key_written g c = then_written (none_written _ _ c.find_owner.ensures.state) (one_written _ _ _ c.intern.ensures.writes)

-- the value that an index may have is read of a store with all rules
full_before : (g : Over) (c : After-indexed_value g) → g.S.Reads.tells → IsStore (g.S.Reads.state c.args.space.now) c.args.names.now.names
    → IsStore (g.S.Reads.state c.intern.new.space) c.intern.new.self.names
full_before g c tells whole =
    let s = g.S.Reads.state c.args.space.now in
    let m = g.S.Reads.state c.find_owner.new.space in
    let i = g.S.Reads.state c.intern.new.space in
    let keeps = kept g c tells (midway s c.args.names.now.names whole) in
    store_now i c.intern.new.self.names keeps.store (keeps.keeps (whole_read s m c.args.names.now.names c.find_owner.ensures.state whole).store.indexes)

used_before : (g : Over) (c : After-indexed_value g) → g.S.Reads.tells → IsInUse (g.S.Reads.state c.intern.new.space).records (owner_of c.args.target)
used_before g c tells =
    let m = g.S.Reads.state c.find_owner.new.space in
    let i = g.S.Reads.state c.intern.new.space in
    let is = subst (λ k. i ≡ interned m c.args.names.now.names k) (text_is g c) (c.in_ok-number.ensures.ok tells) in
    let used = subst (λ (z : State). IsInUse z.records (owner_of c.args.target)) (sym c.find_owner.ensures.state) (c.in_ok-owner.ensures.in_use tells) in
    subst (λ (z : State). IsInUse z.records (owner_of c.args.target)) (sym is) (interned_in_use m c.args.names.now.names c.args.key.now c.args.target used)

pub returns-in_err-held-clause-refused : goal.returns-in_err-held-clause-refused
returns-in_err-held-clause-refused g c tells whole =
    let after = (goal.at.returns-in_err-held-clause-refused g c).After-indexed_value in
    let s = g.S.Reads.state c.args.space.now in
    let i = g.S.Reads.state c.intern.new.space in
    let command = commands.Set c.args.target c.args.key.now c.args.value.now in
    let here = full_before g after tells whole in
    fault_exit (λ f. f) (IsRefusal s.shape.limit (graph_in s) command) c.in_err-held.field-0.0 c.from_residual-in_err-held.result
    c.from_residual-in_err-held.ensures.1
    (outside_refused change_reasons s.shape.limit (graph_in s) command c.in_err-held.field-0.0 (c.in_err-held.ensures.not_damaged tells (wanted_in i.records)
    here.store.indexes here.store.store (used_before g after tells)))

pub returns-in_err-held-clause-caused : goal.returns-in_err-held-clause-caused
returns-in_err-held-clause-caused g c tells =
    let s = g.S.Reads.state c.args.space.now in
    let t = g.S.Reads.state c.indexed_value.new.space in
    let names = c.args.names.now.names in
    let now = c.intern.new.self.names in
    let command = commands.Set c.args.target c.args.key.now c.args.value.now in
    fault_exit (λ f. f) (IsCaused command s t names now) c.in_err-held.field-0.0 c.from_residual-in_err-held.result c.from_residual-in_err-held.ensures.1
    (failure_caused command s t names now c.in_err-held.field-0.0 c.in_err-held.ensures.failure)

pub returns-in_err-held-clause-leaves : goal.returns-in_err-held-clause-leaves
returns-in_err-held-clause-leaves g c tells =
    let s = g.S.Reads.state c.args.space.now in
    let t = g.S.Reads.state c.indexed_value.new.space in
    fault_exit (λ f. f) (LeavesSpace s t) c.in_err-held.field-0.0 c.from_residual-in_err-held.result c.from_residual-in_err-held.ensures.1
    (late_leaves s t c.in_err-held.field-0.0 (failure_late c.in_err-held.field-0.0 c.in_err-held.ensures.failure))

pub returns-in_err-held-clause-refused_writes : goal.returns-in_err-held-clause-refused_writes
returns-in_err-held-clause-refused_writes g c = on_any_err _ _ (more_written (omega arith)
    (then_written (key_written g (goal.at.returns-in_err-held-clause-refused_writes g c).After-intern) (none_written _ _ c.indexed_value.ensures.same)))

pub returns-in_err-held-clause-cause : goal.returns-in_err-held-clause-cause
returns-in_err-held-clause-cause g c =
    change_cause_passed _ _ _ c.from_residual-in_err-held.result c.in_err-held.field-0.0
    (later_on c.in_ok-owner.ensures.cause.later c.in_ok-number.ensures.cause.later) c.in_err-held.ensures.cause c.from_residual-in_err-held.ensures.1

pub returns-in_err-released-clause-refused : goal.returns-in_err-released-clause-refused
returns-in_err-released-clause-refused g c tells whole =
    let store = midway _ _ whole in
    let s = g.S.Reads.state c.args.space.now in
    let after = (goal.at.returns-in_err-released-clause-refused g c).After-indexed_value in
    fault_exit of_set (IsRefusal s.shape.limit (graph_in s) (commands.Set c.args.target c.args.key.now c.args.value.now)) c.in_err-released.field-0.0
    c.from_residual-in_err-released.result c.from_residual-in_err-released.ensures.1
    (refused g after tells store c.in_err-released.field-0.0 (c.in_err-released.ensures.refused tells (known g after tells store)))

pub returns-in_err-released-clause-leaves : goal.returns-in_err-released-clause-leaves
returns-in_err-released-clause-leaves g c tells =
    let s = g.S.Reads.state c.args.space.now in
    let u = g.S.Reads.state c.set.new.space in
    fault_exit of_set (LeavesSpace s u) c.in_err-released.field-0.0 c.from_residual-in_err-released.result c.from_residual-in_err-released.ensures.1
    (late_leaves s u (of_set c.in_err-released.field-0.0) (set_late _ _ _ (g.S.Reads.state c.set.new.space) c.in_err-released.field-0.0
    (c.in_err-released.ensures.caused tells)))

pub returns-in_err-number-clause-refused_writes : goal.returns-in_err-number-clause-refused_writes
returns-in_err-number-clause-refused_writes g c = on_any_err _ _ (more_written (omega arith) (key_written g (goal.at.returns-in_err-number-clause-refused_writes
    g c).After-intern))

pub returns-in_err-released-clause-refused_writes : goal.returns-in_err-released-clause-refused_writes
returns-in_err-released-clause-refused_writes g c =
    let few = few_blocks c.args.value.now c.requires.1 in
    let own = subst (λ (o : Owner). is_meta_file o.key.file ≡ true) (sym c.in_ok-owner.ensures.owner) (own_record c.args.target) in
    on_any_err _ _ (more_written (omega arith) (then_written (key_written g (goal.at.returns-in_err-released-clause-refused_writes g c).After-intern)
    (then_written (none_written _ _ c.indexed_value.ensures.same) (touched_written own c.set.ensures.at_most))))

pub returns-clause-light : goal.returns-clause-light
returns-clause-light g c =
    let one = name_one c.args.names.now.names c.as_bytes.result.now c.intern.new.self.names c.in_ok-number.ensures.names in
    let k = c.count-known.ensures.value in
    let m = c.count.ensures.value in
    let b = c.block_count.ensures.few in
    let r = c.in_ok-released.ensures.few in
    let e = c.in_ok-entries.ensures.few in
    omega arith

-- what the weight is
weight_is : (known now blocks old new of released entries held : ℕ) → known ≡ old → now ≡ new → blocks ≡ of → entries ≡ held
    → 2 + blocks + released + (now - known) + entries ≡ 2 + of + released + (new - old) + held
weight_is known now blocks old new of released entries held a b e h = omega arith

-- ---- the value and its entries

module _ (g : Over) (c : After-change_entry g) where
  abbrev after : After-indexed_value g
  after = (goal.at.After-change_entry g c).After-indexed_value

  abbrev m : State
  m = g.S.Reads.state c.find_owner.new.space

  abbrev i : State
  i = g.S.Reads.state c.intern.new.space

  abbrev n : State
  n = g.S.Reads.state c.indexed_value.new.space

  abbrev u : State
  u = g.S.Reads.state c.set.new.space

  abbrev v : State
  v = g.S.Reads.state c.change_entry.new.space

  abbrev new : List (List ℕ)
  new = c.intern.new.self.names

  owned : IsOwner (owner_of c.args.target)
  owned = owner_is c.args.target (subst (λ (o : Owner). IsKey o.key) c.in_ok-owner.ensures.owner c.in_ok-owner.ensures.key)

  module _ (tells : g.S.Reads.tells) (whole : IsStore (g.S.Reads.state c.args.space.now) c.args.names.now.names) where
    abbrev mid : IsMidway (g.S.Reads.state c.args.space.now) c.args.names.now.names
    mid = midway (g.S.Reads.state c.args.space.now) c.args.names.now.names whole

    element : HasElement n (owner_of c.args.target)
    element = subst (HasElement n) c.in_ok-owner.ensures.owner (known g after tells mid).element

    full_then : IsStore n new
    full_then = whole_read i n new c.indexed_value.ensures.same (full_before g after tells whole)

    sets : SetsValue n u (owner_of c.args.target) c.in_ok-number.number c.args.value.now c.in_ok-released.released
    sets = subst (λ (o : Owner). SetsValue n u o c.in_ok-number.number c.args.value.now c.in_ok-released.released) c.in_ok-owner.ensures.owner
        (c.in_ok-released.ensures.set tells (known g after tells mid))

    alone : SetsAlone n u (owner_of c.args.target) (listed_at n (owner_of c.args.target) owned element) c.in_ok-number.number c.args.value.now
        c.in_ok-released.released
    alone = subst (λ (o : Owner). (es : List Property) → OwnsProperties n o es → IsKnownKey n c.in_ok-number.number → SetsAlone n u o es c.in_ok-number.number
        c.args.value.now c.in_ok-released.released) c.in_ok-owner.ensures.owner (c.in_ok-released.ensures.owned tells)
        (listed_at n (owner_of c.args.target) owned element) (owns_listed n (owner_of c.args.target) owned element) (known g after tells mid).known

    between : AreIndexed u.records (wanted_in n.records)
    between = indexes_between n u (owner_of c.args.target) sets.changes full_then.store.indexes

    is_held : IsIndexedValue n.records (map (pair_of n.records) full_then.store.indexes.definitions) c.args.target c.in_ok-number.number c.in_ok-held.held
    is_held = subst (λ (z : State). (ix : AreIndexed z.records (wanted_in z.records)) → IsIndexedValue z.records (map (pair_of z.records) ix.definitions)
        c.args.target c.in_ok-number.number c.in_ok-held.held) (sym c.indexed_value.ensures.same)
        (λ ix. c.in_ok-held.ensures.held tells (wanted_in i.records) ix (full_before g after tells whole).store.store (used_before g after tells))
        full_then.store.indexes

-- the node of the value that was held was given out
node_low : (g : Over) (c : After-change_entry g) (tells : g.S.Reads.tells) → IsStore (g.S.Reads.state c.args.space.now) c.args.names.now.names
    → IfSome c.in_ok-held.held (λ h. h.node < high (g.S.Reads.state c.set.new.space).records format.nodes_file)
node_low g c tells whole =
    let n = g.S.Reads.state c.indexed_value.new.space in
    let change = sets g c tells whole in
    let mark = ap (λ (r : Rec). (metas.meta_of r).high) (change.changes.changes.others (meta_key_of format.nodes_file) (λ e. omega arith) (λ e. omega arith)
    (λ e. let f = ap (λ (k : Key). k.id) e in omega arith) (λ e. let f = ap (λ (k : Key). k.id) e in omega arith) (meta_apart c.args.target)) in
    subst (λ z. IfSome c.in_ok-held.held (λ h. h.node < z)) (sym mark) (held_low n.records c.args.target c.in_ok-number.number (map (pair_of n.records)
    (full_then g c tells whole).store.indexes.definitions) c.in_ok-held.held (is_held g c tells whole) (element g c tells whole).used)
  where
    meta_apart : (t : Target) → meta_key_of format.nodes_file ≢ key_in (owner_of t).key.file (owner_of t).key.id
    meta_apart (targets.Node id) e = let f = ap (λ (k : Key). k.file) e in omega arith
    meta_apart (targets.Edge id) e = let f = ap (λ (k : Key). k.file) e in omega arith

pub returns-clause-made : goal.returns-clause-made
returns-clause-made g c tells whole =
    let after = (goal.at.returns-clause-made g c).After-change_entry in
    let back = (goal.at.After-change_entry g after).After-indexed_value in
    let s = g.S.Reads.state c.args.space.now in
    let m = g.S.Reads.state c.find_owner.new.space in
    let n = g.S.Reads.state c.indexed_value.new.space in
    let u = g.S.Reads.state c.set.new.space in
    let v = g.S.Reads.state c.change_entry.new.space in
    let old = c.args.names.now.names in
    let new = c.intern.new.self.names in
    let target = c.args.target in
    let key = c.args.key.now in
    let value = c.args.value.now in
    let number = c.in_ok-number.number in
    let held = c.in_ok-held.held in
    let mid = midway s old whole in
    let ready = full_then g after tells whole in
    let change = sets g after tells whole in
    let indexed = between g after tells whole in
    let entries = c.in_ok-entries.ensures in
    let weight = 2 + c.block_count.result + c.in_ok-released.released + (c.count.result - c.count-known.result) + c.in_ok-entries.entries in
    let made : MakesEntries u v held (with_new (without_old (wanted_in n.records) held) held value) = record {
      beside = touched_beside c.in_ok-entries.entries u v tells entries.touches;
      graph = entries.graph tells (wanted_in n.records) indexed change.changes.store;
      idle = c.change_entry.ensures.idle;
      keeps = entries.keeps tells (wanted_in n.records) indexed change.changes.store (node_low g after tells whole);
      indexed = entries.changed tells (wanted_in n.records) indexed change.changes.store
          (wants_held n.records target number (map (pair_of n.records) ready.store.indexes.definitions) held (is_held g after tells whole));
    } in
    made_read s m v new (commands.Set target key value) Done weight c.find_owner.ensures.state
    (set_any m old target key value (store_found g back tells mid) (there g back tells mid) n u v new number (uses g back) (kept_then g back tells mid)
    (few g back) (at g back)
    ready (owned g after) (element g after tells whole) c.in_ok-released.released change (g.met.S.Reads.onward_shape _ _ c.set.ensures.onward)
    (alone g after tells whole) held made (is_held g after tells whole)
    (g.met.S.Reads.onward_shape _ _ c.change_entry.ensures.onward) weight
    (weight_is c.count-known.result c.count.result c.block_count.result (length old) (length new) (blocks_of value) c.in_ok-released.released
    c.in_ok-entries.entries (old_weight held + new_weight held) c.count-known.ensures.value c.count.ensures.value c.block_count.ensures.is entries.weight))

pub returns-clause-writes : goal.returns-clause-writes
returns-clause-writes g c =
    let s = g.S.Reads.state c.args.space.now in
    let m = g.S.Reads.state c.find_owner.new.space in
    let t = g.S.Reads.state c.intern.new.space in
    let u = g.S.Reads.state c.set.new.space in
    let v = g.S.Reads.state c.change_entry.new.space in
    let old = c.args.names.now.names in
    let new = c.intern.new.self.names in
    let named = name_written m t old new c.as_bytes.result.now c.in_ok-number.ensures.names (λ k. (c.intern.ensures.known k).1) c.intern.ensures.writes in
    let weight = weight_is c.count-known.result c.count.result c.block_count.result (length old) (length new) (blocks_of c.args.value.now)
    c.in_ok-released.released c.in_ok-entries.entries c.in_ok-entries.entries c.count-known.ensures.value c.count.ensures.value c.block_count.ensures.is
    refl in
    more_written (omega arith) (then_written (none_written s m c.find_owner.ensures.state)
    (then_written named (then_written (none_written _ _ c.indexed_value.ensures.same)
    (then_written c.in_ok-released.ensures.writes (index_written c.in_ok-entries.entries u v c.in_ok-entries.ensures.touches)))))

-- ---- what is counted

pub returns-in_err-owner-clause-counts : goal.returns-in_err-owner-clause-counts
returns-in_err-owner-clause-counts g c tells =
    let shape = (g.S.Reads.state c.args.space.now).shape in
    fault_exit (λ f. f) (IsSetCount shape) c.in_err-owner.field-0.0 c.from_residual.result c.from_residual.ensures.1
    (element_exact shape c.in_err-owner.field-0.0 c.in_err-owner.ensures.missing)

pub returns-in_err-number-clause-counts : goal.returns-in_err-number-clause-counts
returns-in_err-number-clause-counts g c tells =
    let shape = (g.S.Reads.state c.args.space.now).shape in
    fault_exit of_intern (IsSetCount shape) c.in_err-number.field-0.0 c.from_residual-in_err-number.result c.from_residual-in_err-number.ensures.1
    (named_exact shape (of_intern c.in_err-number.field-0.0) (count_full c.args.names.now.names c.as_bytes.result.now c.in_err-number.field-0.0
    c.in_err-number.ensures.full_only))

pub returns-in_err-released-clause-counts : goal.returns-in_err-released-clause-counts
returns-in_err-released-clause-counts g c tells =
    let s = g.S.Reads.state c.args.space.now in
    let t = g.S.Reads.state c.set.new.space in
    let shape : t.shape ≡ s.shape = g.met.S.Reads.onward_shape _ _ c.set.ensures.onward ∙ g.met.S.Reads.onward_shape _ _ c.indexed_value.ensures.onward
    ∙ g.met.S.Reads.onward_shape _ _ c.intern.ensures.onward ∙ g.met.S.Reads.onward_shape _ _ c.find_owner.ensures.onward in
    fault_exit of_set (IsSetCount s.shape) c.in_err-released.field-0.0 c.from_residual-in_err-released.result c.from_residual-in_err-released.ensures.1
    (subst (λ (h : Shape). IsSetCount h (of_set c.in_err-released.field-0.0)) shape (set_exact _ _ _ t c.in_err-released.field-0.0
    (c.in_err-released.ensures.caused tells)))

-- ---- why it is refused over any records
pub returns-in_err-owner-clause-caused : goal.returns-in_err-owner-clause-caused
returns-in_err-owner-clause-caused g c tells =
    let s = g.S.Reads.state c.args.space.now in
    let t = g.S.Reads.state c.find_owner.new.space in
    let names = c.args.names.now.names in
    let command = commands.Set c.args.target c.args.key.now c.args.value.now in
    fault_exit (λ f. f) (IsCaused command s t names names) c.in_err-owner.field-0.0 c.from_residual.result c.from_residual.ensures.1
    (absent_caused command s t names names c.args.target (λ id e. e) (λ id e. e) c.in_err-owner.field-0.0 (c.in_err-owner.ensures.absent tells))

pub returns-in_err-number-clause-caused : goal.returns-in_err-number-clause-caused
returns-in_err-number-clause-caused g c tells =
    let s = g.S.Reads.state c.args.space.now in
    let t = g.S.Reads.state c.intern.new.space in
    let names = c.args.names.now.names in
    let now = c.intern.new.self.names in
    let command = commands.Set c.args.target c.args.key.now c.args.value.now in
    fault_exit of_intern (IsCaused command s t names now) c.in_err-number.field-0.0 c.from_residual-in_err-number.result c.from_residual-in_err-number.ensures.1
    (key_caused s t names now c.args.target c.args.key.now c.args.value.now c.in_err-number.field-0.0
    (subst (λ k. IsFullFault names k c.in_err-number.field-0.0) c.as_bytes.ensures c.in_err-number.ensures.full_only))

pub returns-in_err-released-clause-caused : goal.returns-in_err-released-clause-caused
returns-in_err-released-clause-caused g c tells =
    let s = g.S.Reads.state c.args.space.now in
    let m = g.S.Reads.state c.find_owner.new.space in
    let n = g.S.Reads.state c.intern.new.space in
    let t = g.S.Reads.state c.set.new.space in
    let names = c.args.names.now.names in
    let now = c.intern.new.self.names in
    let target = c.args.target in
    let number = c.in_ok-number.number in
    let blocks = blocks_of c.args.value.now in
    let command = commands.Set target c.args.key.now c.args.value.now in
    let fault = c.in_err-released.field-0.0 in
    let numbered = c.in_ok-number.ensures.number ∙ ap (λ k. Some k) c.as_bytes.ensures in
    let met = met_beside m.records n.records target (interned_beside m n names c.as_bytes.result.now (c.in_ok-number.ensures.ok tells))
    ∙ ap (λ (z : State). properties_met z.records (owner_of target)) c.find_owner.ensures.state in
    let of = c.in_ok-owner.owner in
    let after = g.S.Reads.state c.indexed_value.new.space in
    let only = subst (λ (z : State). IsSetCause (IsCrowded z.records of number) (LacksMet z.records of number) blocks t fault) c.indexed_value.ensures.same
    (set_cause_map _ _ (IsCrowded after.records of number) (LacksMet after.records of number) (λ k. k.0) (λ k. k.0) blocks t fault
    (c.in_err-released.ensures.caused tells)) in
    let why = subst (λ (o : Owner). IsSetCause (IsCrowded n.records o number) (LacksMet n.records o number) blocks t fault) c.in_ok-owner.ensures.owner only in
    fault_exit of_set (IsCaused command s t names now) fault c.from_residual-in_err-released.result c.from_residual-in_err-released.ensures.1
    (set_caused s t names now target c.args.key.now c.args.value.now number numbered n.records met fault why)

-- ---- what is damaged
pub returns-in_err-owner-clause-damaged : goal.returns-in_err-owner-clause-damaged
returns-in_err-owner-clause-damaged g c tells =
    let s = g.S.Reads.state c.args.space.now in
    let named = interned s c.args.names.now.names c.args.key.now in
    fault_exit (λ f. f) (BlamesGiven s named (g.S.Reads.state c.find_owner.new.space))
    c.in_err-owner.field-0.0 c.from_residual.result c.from_residual.ensures.1
    (blames_more _ _ (λ damage broken. inl broken) c.in_err-owner.field-0.0 (c.in_err-owner.ensures.damaged tells))

pub returns-in_err-number-clause-damaged : goal.returns-in_err-number-clause-damaged
returns-in_err-number-clause-damaged g c tells =
    let s = g.S.Reads.state c.args.space.now in
    let named = interned s c.args.names.now.names c.args.key.now in
    fault_exit of_intern (BlamesGiven s named (g.S.Reads.state c.intern.new.space))
    c.in_err-number.field-0.0 c.from_residual-in_err-number.result c.from_residual-in_err-number.ensures.1
    (key_blamed s named (g.S.Reads.state c.intern.new.space) c.in_err-number.field-0.0)

pub returns-in_err-released-clause-damaged : goal.returns-in_err-released-clause-damaged
returns-in_err-released-clause-damaged g c tells =
    let after = (goal.at.returns-in_err-released-clause-damaged g c).After-indexed_value in
    let s = g.S.Reads.state c.args.space.now in
    let m = g.S.Reads.state c.find_owner.new.space in
    let t = g.S.Reads.state c.intern.new.space in
    let names = c.args.names.now.names in
    let key = c.args.key.now in
    let named = interned s names key in
    let is = subst (λ k. t ≡ interned m names k) (text_is g after) (c.in_ok-number.ensures.ok tells) in
    let v = g.S.Reads.state c.indexed_value.new.space in
    let same = same_both named t v (subst (SameButReads named) (sym is) (interned_read s m names key c.find_owner.ensures.state))
    c.indexed_value.ensures.same in
    let used = subst (λ (z : State). IsInUse z.records (owner_of c.args.target)) (sym c.find_owner.ensures.state) (c.in_ok-owner.ensures.in_use tells) in
    let kept = subst (λ (z : State). IsInUse z.records (owner_of c.args.target)) (sym c.indexed_value.ensures.same)
    (subst (λ (z : State). IsInUse z.records (owner_of c.args.target)) (sym is) (interned_in_use m names key c.args.target used)) in
    fault_exit of_set (BlamesGiven s named (g.S.Reads.state c.set.new.space))
    c.in_err-released.field-0.0 c.from_residual-in_err-released.result c.from_residual-in_err-released.ensures.1
    (value_blamed s named v (g.S.Reads.state c.set.new.space) same c.in_err-released.field-0.0 (c.in_err-released.ensures.damaged tells
    (subst (IsInUse v.records) (sym c.in_ok-owner.ensures.owner) kept)))

pub returns-in_err-number-clause-cause : goal.returns-in_err-number-clause-cause
returns-in_err-number-clause-cause g c =
    intern_cause_passed _ _ _ c.from_residual-in_err-number.result c.in_err-number.field-0.0 c.in_ok-owner.ensures.cause.later c.in_err-number.ensures.cause
    c.from_residual-in_err-number.ensures.1

pub returns-in_err-released-clause-cause : goal.returns-in_err-released-clause-cause
returns-in_err-released-clause-cause g c =
    set_cause_passed _ _ _ c.from_residual-in_err-released.result c.in_err-released.field-0.0
    (later_on (later_on c.in_ok-owner.ensures.cause.later c.in_ok-number.ensures.cause.later) c.in_ok-held.ensures.cause.later)
    c.in_err-released.ensures.cause c.from_residual-in_err-released.ensures.1

-- ---- and by the space as it is left alone

pub returns-in_err-owner-clause-caused_after : goal.returns-in_err-owner-clause-caused_after
returns-in_err-owner-clause-caused_after g c tells =
    let s = g.S.Reads.state c.args.space.now in
    let t = g.S.Reads.state c.find_owner.new.space in
    let names = c.args.names.now.names in
    let command = commands.Set c.args.target c.args.key.now c.args.value.now in
    let fault = c.in_err-owner.field-0.0 in
    fault_exit (λ f. f) (IsCausedAfter command t names names) fault c.from_residual.result c.from_residual.ensures.1
    (record {
      caused = caused_left command s t t names names c.find_owner.ensures.state fault
          (absent_caused command s t names names c.args.target (λ id e. e) (λ id e. e) fault (c.in_err-owner.ensures.absent tells));
      damaged = broken_left s t c.find_owner.ensures.state fault (c.in_err-owner.ensures.damaged tells);
    })

pub returns-in_err-number-clause-caused_after : goal.returns-in_err-number-clause-caused_after
returns-in_err-number-clause-caused_after g c tells =
    let t = g.S.Reads.state c.intern.new.space in
    let names = c.args.names.now.names in
    let now = c.intern.new.self.names in
    let command = commands.Set c.args.target c.args.key.now c.args.value.now in
    let fault = c.in_err-number.field-0.0 in
    fault_exit of_intern (IsCausedAfter command t names now) fault c.from_residual-in_err-number.result c.from_residual-in_err-number.ensures.1
    (record {
      caused = key_caused t t names now c.args.target c.args.key.now c.args.value.now fault
          (subst (λ k. IsFullFault names k fault) c.as_bytes.ensures c.in_err-number.ensures.full_only);
      damaged = intern_blamed _ fault;
    })

pub returns-in_err-released-clause-caused_after : goal.returns-in_err-released-clause-caused_after
returns-in_err-released-clause-caused_after g c tells =
    let after = (goal.at.returns-in_err-released-clause-caused_after g c).After-indexed_value in
    let m = g.S.Reads.state c.find_owner.new.space in
    let n = g.S.Reads.state c.intern.new.space in
    let t = g.S.Reads.state c.set.new.space in
    let names = c.args.names.now.names in
    let now = c.intern.new.self.names in
    let target = c.args.target in
    let owner = c.in_ok-owner.owner in
    let number = c.in_ok-number.number in
    let blocks = blocks_of c.args.value.now in
    let key = c.args.key.now in
    let command = commands.Set target key c.args.value.now in
    let fault = c.in_err-released.field-0.0 in
    let numbered = c.in_ok-number.ensures.number ∙ ap (λ k. Some k) c.as_bytes.ensures in
    let why : IsSetCause (IsCrowded t.records owner number) (LacksMet t.records owner number) blocks t fault
    = set_cause_map _ _ _ _ (λ k. subst (λ (z : State). IsCrowded z.records owner number) (sym k.1) k.0)
    (λ k. subst (λ (z : State). LacksMet z.records owner number) (sym k.1) k.0) blocks t fault (c.in_err-released.ensures.caused tells) in
    let is = subst (λ k. n ≡ interned m names k) (text_is g after) (c.in_ok-number.ensures.ok tells) in
    let used = subst (λ (z : State). IsInUse z.records (owner_of target)) (sym c.find_owner.ensures.state) (c.in_ok-owner.ensures.in_use tells) in
    let v = g.S.Reads.state c.indexed_value.new.space in
    let kept = subst (λ (z : State). IsInUse z.records (owner_of target)) (sym c.indexed_value.ensures.same)
    (subst (λ (z : State). IsInUse z.records (owner_of target)) (sym is) (interned_in_use m names key target used)) in
    fault_exit of_set (IsCausedAfter command t names now) fault c.from_residual-in_err-released.result c.from_residual-in_err-released.ensures.1
    (record {
      caused = set_caused t t names now target key c.args.value.now number numbered t.records refl fault
          (subst (λ (o : Owner). IsSetCause (IsCrowded t.records o number) (LacksMet t.records o number) blocks t fault) c.in_ok-owner.ensures.owner why);
      damaged = set_blamed t fault (c.in_err-released.ensures.damaged_after tells (subst (IsInUse v.records) (sym c.in_ok-owner.ensures.owner) kept));
    })

-- ---- the entries

pub returns-in_err-entries-clause-leaves : goal.returns-in_err-entries-clause-leaves
returns-in_err-entries-clause-leaves g c tells =
    let s = g.S.Reads.state c.args.space.now in
    let v = g.S.Reads.state c.change_entry.new.space in
    fault_exit (λ f. f) (LeavesSpace s v) c.in_err-entries.field-0.0 c.from_residual-in_err-entries.result c.from_residual-in_err-entries.ensures.1
    (late_leaves s v c.in_err-entries.field-0.0 (c.in_err-entries.ensures.may_come_late tells))

pub returns-in_err-entries-clause-cause : goal.returns-in_err-entries-clause-cause
returns-in_err-entries-clause-cause g c =
    change_cause_passed _ _ _ c.from_residual-in_err-entries.result c.in_err-entries.field-0.0
    (later_on (later_on (later_on c.in_ok-owner.ensures.cause.later c.in_ok-number.ensures.cause.later) c.in_ok-held.ensures.cause.later)
    c.in_ok-released.ensures.cause.later)
    c.in_err-entries.ensures.cause c.from_residual-in_err-entries.ensures.1

pub returns-in_err-held-clause-damaged : goal.returns-in_err-held-clause-damaged
returns-in_err-held-clause-damaged g c tells =
    let after = (goal.at.returns-in_err-held-clause-damaged g c).After-indexed_value in
    let s = g.S.Reads.state c.args.space.now in
    let m = g.S.Reads.state c.find_owner.new.space in
    let t = g.S.Reads.state c.intern.new.space in
    let v = g.S.Reads.state c.indexed_value.new.space in
    let names = c.args.names.now.names in
    let key = c.args.key.now in
    let named = interned s names key in
    let same : SameButReads named t = subst (SameButReads named) (sym (subst (λ k. t ≡ interned m names k) (text_is g after) (c.in_ok-number.ensures.ok tells)))
    (interned_read s m names key c.find_owner.ensures.state) in
    fault_exit (λ f. f) (BlamesGiven s named v) c.in_err-held.field-0.0
    c.from_residual-in_err-held.result c.from_residual-in_err-held.ensures.1
    (blames_more _ _ (λ damage broken. inr (inl (subst (λ (z : State). IsBroken z damage) same broken))) c.in_err-held.field-0.0
    (c.in_err-held.ensures.damaged tells (used_before g after tells)))

pub returns-in_err-entries-clause-damaged : goal.returns-in_err-entries-clause-damaged
returns-in_err-entries-clause-damaged g c tells =
    let after = (goal.at.After-change_entry g (goal.at.returns-in_err-entries-clause-damaged g c).After-change_entry).After-indexed_value in
    let s = g.S.Reads.state c.args.space.now in
    let m = g.S.Reads.state c.find_owner.new.space in
    let t = g.S.Reads.state c.intern.new.space in
    let n = g.S.Reads.state c.indexed_value.new.space in
    let u = g.S.Reads.state c.set.new.space in
    let v = g.S.Reads.state c.change_entry.new.space in
    let names = c.args.names.now.names in
    let key = c.args.key.now in
    let named = interned s names key in
    let is = subst (λ k. t ≡ interned m names k) (text_is g after) (c.in_ok-number.ensures.ok tells) in
    let beside = interned_beside m t names key is in
    let fault = c.in_err-entries.field-0.0 in
    let leaves : LeavesIndexes s n = λ damage of.
    ap (λ (z : State). z.records (key_in damage.file damage.id)) c.indexed_value.ensures.same
    ∙ other_leaves m t format.names_file (λ e. omega arith) (λ e. omega arith) beside damage of
    ∙ ap (λ (z : State). z.records (key_in damage.file damage.id)) c.find_owner.ensures.state in
    let later : LeavesIndexes n u = properties_leave g.S.Reads.tells _ _ n u c.in_ok-owner.owner
    (owner_file c.in_ok-owner.owner c.args.target c.in_ok-owner.ensures.owner) tells c.set.ensures.at_most in
    let both : LeavesIndexes s u = λ damage of. later damage of ∙ leaves damage of in
    let shape : u.shape ≡ s.shape = g.met.S.Reads.onward_shape _ _ (g.met.S.Reads.further_onward _ _ _ c.find_owner.ensures.onward
    (g.met.S.Reads.further_onward _ _ _ c.in_ok-number.ensures.onward (g.met.S.Reads.further_onward _ _ _ c.indexed_value.ensures.onward
    c.set.ensures.onward))) in
    let had = held_leaves t u c.in_ok-held.held
    (λ damage of. later damage of ∙ ap (λ (z : State). z.records (key_in damage.file damage.id)) c.indexed_value.ensures.same)
    (c.in_ok-held.ensures.walked tells) in
    fault_exit (λ f. f) (BlamesGiven s named v) fault c.from_residual-in_err-entries.result c.from_residual-in_err-entries.ensures.1
    (blames_more _ _ (λ damage told. ⊎_elim (λ broken. inl broken) (λ found. inr (inr found)) (found_before s u v damage both shape told.0 told.1)) fault
    (blames_both _ _ fault (c.in_err-entries.ensures.blames tells) (c.in_err-entries.ensures.found tells had)))

pub returns-in_err-held-clause-caused_after : goal.returns-in_err-held-clause-caused_after
returns-in_err-held-clause-caused_after g c tells =
    let after = (goal.at.returns-in_err-held-clause-caused_after g c).After-indexed_value in
    let i = g.S.Reads.state c.intern.new.space in
    let t = g.S.Reads.state c.indexed_value.new.space in
    let names = c.args.names.now.names in
    let now = c.intern.new.self.names in
    let command = commands.Set c.args.target c.args.key.now c.args.value.now in
    let fault = c.in_err-held.field-0.0 in
    fault_exit (λ f. f) (IsCausedAfter command t names now) fault c.from_residual-in_err-held.result c.from_residual-in_err-held.ensures.1
    (record {
      caused = failure_caused command t t names now fault c.in_err-held.ensures.failure;
      damaged = broken_left i t c.indexed_value.ensures.same fault (c.in_err-held.ensures.damaged tells (used_before g after tells));
    })

pub returns-in_err-entries-clause-refused_writes : goal.returns-in_err-entries-clause-refused_writes
returns-in_err-entries-clause-refused_writes g c =
    let few = few_blocks c.args.value.now c.requires.1 in
    let own = subst (λ (o : Owner). is_meta_file o.key.file ≡ true) (sym c.in_ok-owner.ensures.owner) (own_record c.args.target) in
    on_any_err _ _ (more_written (omega arith) (then_written (key_written g (goal.at.returns-in_err-entries-clause-refused_writes g c).After-intern)
    (then_written (none_written _ _ c.indexed_value.ensures.same)
    (then_written (touched_written own c.set.ensures.at_most) (index_written 6 _ _ c.change_entry.ensures.at_most)))))

-- the space goes on
gone_on : (g : Over) (c : After-change_entry g) → g.S.Reads.onward c.args.space.now c.change_entry.new.space
gone_on g c =
    let on = g.met.S.Reads.further_onward in
    on c.args.space.now c.set.new.space c.change_entry.new.space
    (on c.args.space.now c.indexed_value.new.space c.set.new.space (on c.args.space.now c.intern.new.space c.indexed_value.new.space
    (on c.args.space.now c.find_owner.new.space c.intern.new.space c.find_owner.ensures.onward c.intern.ensures.onward) c.indexed_value.ensures.onward)
    c.set.ensures.onward)
    c.change_entry.ensures.onward

pub returns-in_err-entries-clause-onward : goal.returns-in_err-entries-clause-onward
returns-in_err-entries-clause-onward g c = gone_on g (goal.at.returns-in_err-entries-clause-onward g c).After-change_entry

pub returns-clause-onward : goal.returns-clause-onward
returns-clause-onward g c = gone_on g (goal.at.returns-clause-onward g c).After-change_entry

-- an entry changes where a node had one
some_of : {A : Type 0} {B : Type 0} (o : Option A) → (o ≡ None → ⊥) → IfSome o (λ a. B) → B
some_of None has all = absurd (has refl)
some_of (Some a) has all = all

of_node : (g : Over) (c : In_err-entries g) → IsNodeTarget c.args.target
of_node g c = some_of c.in_ok-held.held c.in_err-entries.ensures.some c.in_ok-held.ensures.of_node

pub returns-in_err-entries-clause-caused : goal.returns-in_err-entries-clause-caused
returns-in_err-entries-clause-caused g c tells =
    let s = g.S.Reads.state c.args.space.now in
    let t = g.S.Reads.state c.change_entry.new.space in
    let names = c.args.names.now.names in
    let now = c.intern.new.self.names in
    let node = of_node g (goal.at.returns-in_err-entries-clause-caused g c).In_err-entries in
    fault_exit (λ f. f) (IsCaused (commands.Set c.args.target c.args.key.now c.args.value.now) s t names now) c.in_err-entries.field-0.0
    c.from_residual-in_err-entries.result c.from_residual-in_err-entries.ensures.1
    (entry_caused (commands.Set c.args.target c.args.key.now c.args.value.now) s t names now (inr (refl, node)) c.in_err-entries.field-0.0
    (c.in_err-entries.ensures.full tells))

pub returns-in_err-entries-clause-caused_after : goal.returns-in_err-entries-clause-caused_after
returns-in_err-entries-clause-caused_after g c tells =
    let t = g.S.Reads.state c.change_entry.new.space in
    let names = c.args.names.now.names in
    let now = c.intern.new.self.names in
    let fault = c.in_err-entries.field-0.0 in
    let node = of_node g (goal.at.returns-in_err-entries-clause-caused_after g c).In_err-entries in
    fault_exit (λ f. f) (IsCausedAfter (commands.Set c.args.target c.args.key.now c.args.value.now) t names now) fault c.from_residual-in_err-entries.result
    c.from_residual-in_err-entries.ensures.1
    (record {
      caused = entry_caused (commands.Set c.args.target c.args.key.now c.args.value.now) t t names now (inr (refl, node)) fault
          (c.in_err-entries.ensures.full tells);
      damaged = blames_more _ _ (λ damage entry. entry.1) fault (c.in_err-entries.ensures.blames tells);
    })

pub returns-in_err-entries-clause-counts : goal.returns-in_err-entries-clause-counts
returns-in_err-entries-clause-counts g c tells =
    let s = g.S.Reads.state c.args.space.now in
    let t = g.S.Reads.state c.change_entry.new.space in
    let shape : t.shape ≡ s.shape = g.met.S.Reads.onward_shape _ _ c.change_entry.ensures.onward ∙ g.met.S.Reads.onward_shape _ _ c.set.ensures.onward
    ∙ g.met.S.Reads.onward_shape _ _ c.indexed_value.ensures.onward ∙ g.met.S.Reads.onward_shape _ _ c.intern.ensures.onward
    ∙ g.met.S.Reads.onward_shape _ _ c.find_owner.ensures.onward in
    fault_exit (λ f. f) (IsSetCount s.shape) c.in_err-entries.field-0.0 c.from_residual-in_err-entries.result c.from_residual-in_err-entries.ensures.1
    (subst (λ (h : Shape). IsSetCount h c.in_err-entries.field-0.0) shape (entry_exact t c.in_err-entries.field-0.0 (c.in_err-entries.ensures.full tells)))

pub returns-in_err-entries-clause-refused : goal.returns-in_err-entries-clause-refused
returns-in_err-entries-clause-refused g c tells whole =
    let after = (goal.at.returns-in_err-entries-clause-refused g c).After-change_entry in
    let back = (goal.at.After-change_entry g after).After-indexed_value in
    let s = g.S.Reads.state c.args.space.now in
    let m = g.S.Reads.state c.find_owner.new.space in
    let n = g.S.Reads.state c.indexed_value.new.space in
    let u = g.S.Reads.state c.set.new.space in
    let old = c.args.names.now.names in
    let target = c.args.target in
    let key = c.args.key.now in
    let value = c.args.value.now in
    let number = c.in_ok-number.number in
    let held = c.in_ok-held.held in
    let mid = midway s old whole in
    let ready = full_then g after tells whole in
    let change = sets g after tells whole in
    let command = commands.Set target key value in
    let fault = c.in_err-entries.field-0.0 in
    let why = c.in_err-entries.ensures.refused tells (wanted_in n.records) (between g after tells whole) change.changes.store
    (wants_held n.records target number (map (pair_of n.records) ready.store.indexes.definitions) held (is_held g after tells whole))
    (node_low g after tells whole) in
    fault_exit (λ f. f) (IsRefusal s.shape.limit (graph_in s) command) fault c.from_residual-in_err-entries.result c.from_residual-in_err-entries.ensures.1
    (⊎_elim (λ outside. outside_refused change_reasons s.shape.limit (graph_in s) command fault outside)
    (λ (k : LacksValue held × LacksRoom u format.index_file 1 fault). subst (λ (z : State). IsRefusal z.shape.limit (graph_in z) command fault)
    c.find_owner.ensures.state
    (set_entry_refused m old target key value (store_found g back tells mid) (there g back tells mid) n u c.intern.new.self.names number (uses g back)
    (kept_then g back tells mid) (few g back) (at g back)
    ready (owned g after) (element g after tells whole) c.in_ok-released.released change (g.met.S.Reads.onward_shape _ _ c.set.ensures.onward) held
    (is_held g after tells whole) fault k.0 k.1)) why)

pub returns-in_err-owner-clause-made : goal.returns-in_err-owner-clause-made
returns-in_err-owner-clause-made g c _ = never_ok c.from_residual.result _ _ c.from_residual.ensures.1

pub returns-in_err-owner-clause-light : goal.returns-in_err-owner-clause-light
returns-in_err-owner-clause-light g c = never_ok c.from_residual.result _ _ c.from_residual.ensures.1

pub returns-in_err-owner-clause-writes : goal.returns-in_err-owner-clause-writes
returns-in_err-owner-clause-writes g c = never_ok c.from_residual.result _ _ c.from_residual.ensures.1

pub returns-in_err-owner-clause-onward : goal.returns-in_err-owner-clause-onward
returns-in_err-owner-clause-onward g c = search rules

pub returns-in_err-number-clause-made : goal.returns-in_err-number-clause-made
returns-in_err-number-clause-made g c _ = never_ok c.from_residual-in_err-number.result _ _ c.from_residual-in_err-number.ensures.1

pub returns-in_err-number-clause-light : goal.returns-in_err-number-clause-light
returns-in_err-number-clause-light g c = never_ok c.from_residual-in_err-number.result _ _ c.from_residual-in_err-number.ensures.1

pub returns-in_err-number-clause-writes : goal.returns-in_err-number-clause-writes
returns-in_err-number-clause-writes g c = never_ok c.from_residual-in_err-number.result _ _ c.from_residual-in_err-number.ensures.1

pub returns-in_err-held-clause-made : goal.returns-in_err-held-clause-made
returns-in_err-held-clause-made g c _ = never_ok c.from_residual-in_err-held.result _ _ c.from_residual-in_err-held.ensures.1

pub returns-in_err-held-clause-light : goal.returns-in_err-held-clause-light
returns-in_err-held-clause-light g c = never_ok c.from_residual-in_err-held.result _ _ c.from_residual-in_err-held.ensures.1

pub returns-in_err-held-clause-writes : goal.returns-in_err-held-clause-writes
returns-in_err-held-clause-writes g c = never_ok c.from_residual-in_err-held.result _ _ c.from_residual-in_err-held.ensures.1

pub returns-in_err-released-clause-made : goal.returns-in_err-released-clause-made
returns-in_err-released-clause-made g c _ = never_ok c.from_residual-in_err-released.result _ _ c.from_residual-in_err-released.ensures.1

pub returns-in_err-released-clause-light : goal.returns-in_err-released-clause-light
returns-in_err-released-clause-light g c = never_ok c.from_residual-in_err-released.result _ _ c.from_residual-in_err-released.ensures.1

pub returns-in_err-released-clause-writes : goal.returns-in_err-released-clause-writes
returns-in_err-released-clause-writes g c = never_ok c.from_residual-in_err-released.result _ _ c.from_residual-in_err-released.ensures.1

pub returns-in_err-entries-clause-made : goal.returns-in_err-entries-clause-made
returns-in_err-entries-clause-made g c _ = never_ok c.from_residual-in_err-entries.result _ _ c.from_residual-in_err-entries.ensures.1

pub returns-in_err-entries-clause-light : goal.returns-in_err-entries-clause-light
returns-in_err-entries-clause-light g c = never_ok c.from_residual-in_err-entries.result _ _ c.from_residual-in_err-entries.ensures.1

pub returns-in_err-entries-clause-writes : goal.returns-in_err-entries-clause-writes
returns-in_err-entries-clause-writes g c = never_ok c.from_residual-in_err-entries.result _ _ c.from_residual-in_err-entries.ensures.1

pub returns-clause-cause : goal.returns-clause-cause
returns-clause-cause g c =
    ok_cause _ _ _ _ (later_on (later_on (later_on (later_on c.in_ok-owner.ensures.cause.later c.in_ok-number.ensures.cause.later)
    c.in_ok-held.ensures.cause.later) c.in_ok-released.ensures.cause.later) c.in_ok-entries.ensures.cause.later)

-- ---- an exit by a fault is no answer
pub returns-in_err-owner-clause-names_full : goal.returns-in_err-owner-clause-names_full
returns-in_err-owner-clause-names_full g c used other many = is_err c.from_residual.result _ c.from_residual.ensures.1

pub returns-in_err-number-clause-names_full : goal.returns-in_err-number-clause-names_full
returns-in_err-number-clause-names_full g c used other many = is_err c.from_residual-in_err-number.result _ c.from_residual-in_err-number.ensures.1

pub returns-in_err-held-clause-names_full : goal.returns-in_err-held-clause-names_full
returns-in_err-held-clause-names_full g c used other many = is_err c.from_residual-in_err-held.result _ c.from_residual-in_err-held.ensures.1

pub returns-in_err-released-clause-names_full : goal.returns-in_err-released-clause-names_full
returns-in_err-released-clause-names_full g c used other many = is_err c.from_residual-in_err-released.result _ c.from_residual-in_err-released.ensures.1

pub returns-in_err-entries-clause-names_full : goal.returns-in_err-entries-clause-names_full
returns-in_err-entries-clause-names_full g c used other many = is_err c.from_residual-in_err-entries.result _ c.from_residual-in_err-entries.ensures.1

pub returns-clause-names_full : goal.returns-clause-names_full
returns-clause-names_full g c used other many =
    let after = (goal.at.returns-clause-names_full g c).After-indexed_value in
    let same = ap length (uses_once c.args.names.now.names (c.args.key.now ∷ []) used c.intern.new.self.names other
    (c.intern.new.self.names, uses g after, refl)) in
    let most = few g after in
    absurd (omega (arith, same, most, many))

-- ---- the names before, and the new one
pub returns-in_err-owner-clause-prefix : goal.returns-in_err-owner-clause-prefix
returns-in_err-owner-clause-prefix g c = ([], sym (append-nil c.args.names.now.names))

pub returns-in_err-number-clause-prefix : goal.returns-in_err-number-clause-prefix
returns-in_err-number-clause-prefix g c = ([], c.in_err-number.ensures.err ∙ sym (append-nil c.args.names.now.names))

pub returns-in_err-held-clause-prefix : goal.returns-in_err-held-clause-prefix
returns-in_err-held-clause-prefix g c = name_prefix c.args.names.now.names c.as_bytes.result.now c.intern.new.self.names c.in_ok-number.ensures.names

pub returns-in_err-released-clause-prefix : goal.returns-in_err-released-clause-prefix
returns-in_err-released-clause-prefix g c = name_prefix c.args.names.now.names c.as_bytes.result.now c.intern.new.self.names c.in_ok-number.ensures.names

pub returns-in_err-entries-clause-prefix : goal.returns-in_err-entries-clause-prefix
returns-in_err-entries-clause-prefix g c = name_prefix c.args.names.now.names c.as_bytes.result.now c.intern.new.self.names c.in_ok-number.ensures.names

pub returns-clause-prefix : goal.returns-clause-prefix
returns-clause-prefix g c = name_prefix c.args.names.now.names c.as_bytes.result.now c.intern.new.self.names c.in_ok-number.ensures.names

-- ---- the space goes on
pub returns-in_err-number-clause-onward : goal.returns-in_err-number-clause-onward
returns-in_err-number-clause-onward g c =
    g.met.S.Reads.further_onward c.args.space.now c.find_owner.new.space c.intern.new.space c.find_owner.ensures.onward c.intern.ensures.onward

pub returns-in_err-held-clause-onward : goal.returns-in_err-held-clause-onward
returns-in_err-held-clause-onward g c =
    let on = g.met.S.Reads.further_onward in
    on c.args.space.now c.intern.new.space c.indexed_value.new.space
    (on c.args.space.now c.find_owner.new.space c.intern.new.space c.find_owner.ensures.onward c.intern.ensures.onward) c.indexed_value.ensures.onward

pub returns-in_err-released-clause-onward : goal.returns-in_err-released-clause-onward
returns-in_err-released-clause-onward g c =
    let on = g.met.S.Reads.further_onward in
    on c.args.space.now c.indexed_value.new.space c.set.new.space
    (on c.args.space.now c.intern.new.space c.indexed_value.new.space
    (on c.args.space.now c.find_owner.new.space c.intern.new.space c.find_owner.ensures.onward c.intern.ensures.onward) c.indexed_value.ensures.onward)
    c.set.ensures.onward

-- ---- what refusals leave, write and blame
pub returns-in_err-owner-clause-leaves : goal.returns-in_err-owner-clause-leaves
returns-in_err-owner-clause-leaves g c tells =
    let s = g.S.Reads.state c.args.space.now in
    let t = g.S.Reads.state c.find_owner.new.space in
    let fault = c.in_err-owner.field-0.0 in
    fault_exit (λ f. f) (LeavesSpace s t) fault c.from_residual.result c.from_residual.ensures.1 (read_leaves s t c.find_owner.ensures.state fault)

pub returns-in_err-number-clause-leaves : goal.returns-in_err-number-clause-leaves
returns-in_err-number-clause-leaves g c tells =
    let s = g.S.Reads.state c.args.space.now in
    let t = g.S.Reads.state c.intern.new.space in
    let fault = c.in_err-number.field-0.0 in
    fault_exit of_intern (LeavesSpace s t) fault c.from_residual-in_err-number.result c.from_residual-in_err-number.ensures.1
    (late_leaves s t (of_intern fault) (intern_late fault))

pub returns-in_err-owner-clause-refused_writes : goal.returns-in_err-owner-clause-refused_writes
returns-in_err-owner-clause-refused_writes g c = on_any_err _ _ (more_written (omega arith) (none_written _ _ c.find_owner.ensures.state))

pub returns-in_err-owner-clause-cause : goal.returns-in_err-owner-clause-cause
returns-in_err-owner-clause-cause g c =
    change_cause_passed _ _ _ c.from_residual.result c.in_err-owner.field-0.0 (omega arith) c.in_err-owner.ensures.cause c.from_residual.ensures.1

-- ---- an answer is no refusal
pub returns-clause-refused : goal.returns-clause-refused
returns-clause-refused g c tells whole = tt

pub returns-clause-caused : goal.returns-clause-caused
returns-clause-caused g c tells = tt

pub returns-clause-caused_after : goal.returns-clause-caused_after
returns-clause-caused_after g c tells = tt

pub returns-clause-damaged : goal.returns-clause-damaged
returns-clause-damaged g c tells = tt

pub returns-clause-counts : goal.returns-clause-counts
returns-clause-counts g c tells = tt

pub returns-clause-leaves : goal.returns-clause-leaves
returns-clause-leaves g c tells = tt

pub returns-clause-refused_writes : goal.returns-clause-refused_writes
returns-clause-refused_writes g c = tt

-- ---- the records lead to the value

pub returns-clause-gives : goal.returns-clause-gives
returns-clause-gives g c tells =
    let after = (goal.at.returns-clause-gives g c).After-change_entry in
    let back = (goal.at.After-change_entry g after).After-indexed_value in
    let u = g.S.Reads.state c.set.new.space in
    let v = g.S.Reads.state c.change_entry.new.space in
    let number = c.in_ok-number.number in
    let beside = touched_beside c.in_ok-entries.entries u v tells c.in_ok-entries.ensures.touches in
    let gives = subst (λ (o : Owner). GivesMet u.records o number c.args.value.now) c.in_ok-owner.ensures.owner (c.in_ok-released.ensures.gives tells) in
    (number, at g back, given_beside u.records v.records beside c.args.target number c.args.value.now gives)

pub returns-in_err-owner-clause-gives : goal.returns-in_err-owner-clause-gives
returns-in_err-owner-clause-gives g c _ = never_ok c.from_residual.result _ _ c.from_residual.ensures.1

pub returns-in_err-number-clause-gives : goal.returns-in_err-number-clause-gives
returns-in_err-number-clause-gives g c _ = never_ok c.from_residual-in_err-number.result _ _ c.from_residual-in_err-number.ensures.1

pub returns-in_err-held-clause-gives : goal.returns-in_err-held-clause-gives
returns-in_err-held-clause-gives g c _ = never_ok c.from_residual-in_err-held.result _ _ c.from_residual-in_err-held.ensures.1

pub returns-in_err-released-clause-gives : goal.returns-in_err-released-clause-gives
returns-in_err-released-clause-gives g c _ = never_ok c.from_residual-in_err-released.result _ _ c.from_residual-in_err-released.ensures.1

pub returns-in_err-entries-clause-gives : goal.returns-in_err-entries-clause-gives
returns-in_err-entries-clause-gives g c _ = never_ok c.from_residual-in_err-entries.result _ _ c.from_residual-in_err-entries.ensures.1
