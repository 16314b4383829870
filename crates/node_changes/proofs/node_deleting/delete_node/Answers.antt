use Rattle.std.proofs.Common.{◌<◌, ◌≤◌, ◌≡◌, ◌≢◌, ◌∙◌, ℕ, ◌+◌, Some, List, [], ◌∷◌, length, map, sym, ap, subst, inl, inr, ⊎_elim, arith, refl, rules}
use Rattle.plain_graph.specs.Reply.{Done}
use Rattle.plain_graph.specs.declared.command.Command.TheVariants as commands
use Rattle.plain_graph.specs.declared.command.Target.TheVariants as targets
use Rattle.change_parts.specs.declared.change_fault.ChangeFault.TheVariants.{HasRelationships, NoNode}
use Rattle.prop_store.specs.Changing.{DropsAll, HasElement}
use Rattle.prop_store.specs.Touching.{TouchesProperties}
use Rattle.prop_store.specs.declared.owner.Owner.{Owner}
use Rattle.rec_bytes.specs.Format as format
use Rattle.rec_bytes.specs.RecordFiles.{meta_key_of}
use Rattle.rec_bytes.specs.Space.{SameButReads, State}
use Rattle.store_rules.specs.Views.{degree, key_in, kind_at}
use Rattle.store_rules.specs.Writes.{WritesAtMost, WritesBeside}
use Rattle.store_rules.proofs.GraphRows.{degree_in-degree}
use Rattle.change_parts.specs.Change.{IsRefusal}
use Rattle.change_parts.specs.ChangeFault.{of_fault, of_row, of_space, LeavesSpace}
use Rattle.node_changes.specs.NodeDeleting.{IsDeleteCause}
use Rattle.change_parts.specs.Store.{IsStore}
use Rattle.change_parts.proofs.KeptIndexes.{midway}
use Rattle.node_changes.proofs.Deleting.{node_joined, node_lacked}
use Rattle.change_parts.proofs.Elements.{node_loaded, node_missing, same_both, same_node, used_of}
use Rattle.change_parts.specs.Owners.{owner_of}
use Rattle.prop_store.specs.Owner.{IsInUse}
use Rattle.node_changes.proofs.Broken.{drop_cause, entry_cause, entry_left, held_cause}
use Rattle.change_parts.proofs.Broken.{blames_both, blames_more}
use Rattle.change_parts.proofs.Broken.{node_broken, node_in_use, unwritten_left}
use Rattle.node_changes.proofs.Broken.{node_cause}
use Rattle.change_parts.specs.Causes.{IsCaused, IsCausedAfter}
use Rattle.change_parts.proofs.Causes.{any_blamed, broken_left, caused_left, failure_caused}
use Rattle.change_parts.proofs.Adding.{space_blamed}
use Rattle.change_parts.proofs.Exits.{fault_exit, fault_fails, row_fails, space_fails, failure_late, late_leaves}
use Rattle.change_parts.proofs.Readings.{prop_refused}
use Rattle.change_parts.proofs.Readings.{made_read}
use Rattle.store_rules.proofs.WriteLaws.{among_metas, beside_then, beside_written, more_written, none_written, then_written, this_written}
use Rattle.change_parts.proofs.Writes.{on_any_err, read_exit, touched_written}
use Rattle.change_parts.proofs.DiskCauses.{change_cause_passed, fault_cause_passed, later_on, space_cause_passed, row_cause_passed}
use Rattle.node_store.specs.Loading as nodes
use Rattle.prop_index.specs.Listing.{pair_of}
use Rattle.prop_store.specs.Alone.{DropsAllAlone, OwnsProperties}
use Rattle.prop_store.specs.Owner.{IsOwner}
use Rattle.prop_store.specs.declared.changing.Dropped.{Dropped}
use Rattle.prop_store.proofs.ElementGraphs.{listed_at, owns_listed}
use Rattle.plain_graph.specs.Refusals.{change_reasons}
use Rattle.store_rules.specs.Properties.{Property}
use Rattle.node_changes.proofs.IndexBeside.{index_written, touched_beside}
use Rattle.change_parts.proofs.KeptIndexes.{whole_read}
use Rattle.node_changes.proofs.LiveIndexes.{node_owned}
use Rattle.node_changes.proofs.NodeGone.{gone_between, gone_kinds, gone_left, gone_made, label_found, unused_left}
use Rattle.change_parts.specs.Damage.{BlamesBroken, IsBroken, LeavesIndexes}
use Rattle.node_changes.proofs.EntriesNamed.{found_before, some_leaves}
use Rattle.node_changes.specs.Entries.{held_of}
use Rattle.node_changes.proofs.EntriesFaults.{given_beside, other_leaves, owner_file, reads_leave}
use Rattle.change_parts.proofs.IndexesLeft.{properties_leave}
use Rattle.store_rules.specs.Indexes.{AreIndexed, IsIndexed, wanted_in}
use Rattle.change_parts.proofs.PairsPut.{label_at}
use Rattle.change_parts.proofs.Reasons.{outside_refused}
use Rattle.rec_bytes.proofs.Causes.{never_ok, ok_cause}
use Rattle.node_changes.specs.NodeDeleting.{KeepsButNode}
use Rattle.node_changes.proofs.NodeFound.{kept_dropped, kept_given, kept_left, kept_read, kept_then}
use Rattle.node_changes.proofs.node_deleting.delete_node.Goals as goal
use Rattle.node_changes.proofs.node_deleting.delete_node.Goals.{After-drop_all, After-give, After-held_values, After-leave_values, After-load}
use Rattle.node_changes.proofs.node_deleting.delete_node.Given.{Over}
use Rattle.store_rules.specs.Rules.{IsWhole}
use Rattle.store_rules.specs.Graph.{graph_in}

pub returns-in_default-clause-refused : goal.returns-in_default-clause-refused
returns-in_default-clause-refused g c tells store =
    let s = g.S.Reads.state c.args.space.now in
    node_lacked s.shape.limit (graph_in s) c.args.id (node_missing s c.args.id (sym c.in_default.is ∙ c.in_ok-node.ensures.found tells))

pub returns-then-node-ne0-clause-refused : goal.returns-then-node-ne0-clause-refused
returns-then-node-ne0-clause-refused g c tells whole =
    let store = midway _ _ whole in
    let s = g.S.Reads.state c.args.space.now in
    let found = sym c.in-Some.is ∙ c.in_ok-node.ensures.found tells in
    let k = used_of s c.args.id c.in-Some.node found in
    node_joined s.shape.limit (graph_in s) c.args.id c.in-Some.node.degree (node_loaded s c.args.id c.in-Some.node found)
    (λ e. c.if-node-ne0.true (k.1 ∙ sym (degree_in-degree s.records s.shape store.store c.args.id k.0) ∙ e))

pub returns-in_err-node-clause-found : goal.returns-in_err-node-clause-found
returns-in_err-node-clause-found g c tells =
    let s = g.S.Reads.state c.args.space.now in
    fault_exit of_row (IsDeleteCause s (g.S.Reads.state c.load.new.space) c.args.id) c.in_err-node.field-0.0 c.from_residual.result c.from_residual.ensures.1
    (node_cause s (g.S.Reads.state c.load.new.space) c.args.id c.in_err-node.field-0.0 (c.in_err-node.ensures.damaged tells))

same : (g : Over) (c : After-load g) → SameButReads (g.S.Reads.state c.args.space.now) (g.S.Reads.state c.load.new.space)
same g c = subst (SameButReads (g.S.Reads.state c.args.space.now)) (sym c.load.ensures.state) (same_node (g.S.Reads.state c.args.space.now) c.args.id)

-- ---- the node, and its values, were read

module _ (g : Over) (c : After-held_values g) where
  abbrev s : State
  s = g.S.Reads.state c.args.space.now

  abbrev m : State
  m = g.S.Reads.state c.load.new.space

  abbrev n : State
  n = g.S.Reads.state c.held_values.new.space

  abbrev id : ℕ
  id = c.args.id

  loaded : SameButReads s m
  loaded = same g (goal.at.After-held_values g c).After-load

  read : SameButReads s n
  read = same_both s m n loaded c.held_values.ensures.same

  module _ (tells : g.S.Reads.tells) where
    row : (z : State) → SameButReads s z → Some c.in-Some.node ≡ nodes.row_at z.records id
    row z same = subst (λ (q : State). Some c.in-Some.node ≡ nodes.row_at q.records id) (sym same) (sym c.in-Some.is ∙ c.in_ok-node.ensures.found tells)

    used : (z : State) → SameButReads s z → kind_at z.records format.nodes_file id ≢ format.free_kind
    used z same = (used_of z id c.in-Some.node (row z same)).0

    lone : (z : State) → SameButReads s z → degree z.records id ≡ 0
    lone z same = sym (used_of z id c.in-Some.node (row z same)).1 ∙ c.if-node-ne0.false

    label : (z : State) → SameButReads s z → c.in-Some.node.label ≡ label_at z.records id
    label z same = label_found z id c.in-Some.node (row z same)

    store : IsStore s c.args.names.now.names → IsStore n c.args.names.now.names
    store whole = whole_read s n c.args.names.now.names read whole

pub returns-in_err-held-clause-refused : goal.returns-in_err-held-clause-refused
returns-in_err-held-clause-refused g c tells whole =
    let after = (goal.at.returns-in_err-held-clause-refused g c).After-held_values in
    let s = g.S.Reads.state c.args.space.now in
    let m = g.S.Reads.state c.load.new.space in
    let command = commands.Delete (targets.Node c.args.id) in
    fault_exit (λ f. f) (IsRefusal s.shape.limit (graph_in s) command) c.in_err-held.field-0.0 c.from_residual-in_err-held.result
    c.from_residual-in_err-held.ensures.1
    (outside_refused change_reasons s.shape.limit (graph_in s) command c.in_err-held.field-0.0 (c.in_err-held.ensures.not_damaged tells
    (whole_read s m c.args.names.now.names (loaded g after) whole).store (used g after tells m (loaded g after))))

pub returns-in_err-held-clause-found : goal.returns-in_err-held-clause-found
returns-in_err-held-clause-found g c tells =
    let after = (goal.at.returns-in_err-held-clause-found g c).After-held_values in
    let s = g.S.Reads.state c.args.space.now in
    let m = g.S.Reads.state c.load.new.space in
    let t = g.S.Reads.state c.held_values.new.space in
    fault_exit (λ f. f) (IsDeleteCause s t c.args.id) c.in_err-held.field-0.0 c.from_residual-in_err-held.result c.from_residual-in_err-held.ensures.1
    (held_cause s t c.args.id c.in_err-held.field-0.0 c.in_err-held.ensures.failure (blames_more _ _ (λ damage broken. subst (λ (z : State). IsBroken z damage)
    (loaded g after) broken) c.in_err-held.field-0.0 (c.in_err-held.ensures.damaged tells (used g after tells m (loaded g after)))))

pub returns-in_err-held-clause-refused_writes : goal.returns-in_err-held-clause-refused_writes
returns-in_err-held-clause-refused_writes g c =
    on_any_err _ _ (more_written (omega arith) (none_written _ _ (read g (goal.at.returns-in_err-held-clause-refused_writes g c).After-held_values)))

-- ---- its properties are taken away, and its identifier is given back

module _ (g : Over) (c : After-drop_all g) where
  abbrev back : After-held_values g
  back = (goal.at.After-drop_all g c).After-held_values

  element : g.S.Reads.tells → IsStore (g.S.Reads.state c.args.space.now) c.args.names.now.names → HasElement (n g back) (owner_of (targets.Node c.args.id))
  element tells whole = record { store = (store g back tells whole).store.store; used = used g back tells (n g back) (read g back) }

pub returns-in_err-dropped-clause-refused : goal.returns-in_err-dropped-clause-refused
returns-in_err-dropped-clause-refused g c tells whole =
    let after = (goal.at.returns-in_err-dropped-clause-refused g c).After-drop_all in
    let s = g.S.Reads.state c.args.space.now in
    let n = g.S.Reads.state c.held_values.new.space in
    fault_exit of_fault (IsRefusal s.shape.limit (graph_in s) (commands.Delete (targets.Node c.args.id))) c.in_err-dropped.field-0.0
    c.from_residual-in_err-dropped.result c.from_residual-in_err-dropped.ensures.1
    (prop_refused s.shape.limit (graph_in s) (commands.Delete (targets.Node c.args.id)) c.in_err-dropped.field-0.0
    (c.in_err-dropped.ensures.not_damaged tells (subst (HasElement n) (sym c.node_owner.ensures) (element g after tells whole))))

pub returns-in_err-dropped-clause-found : goal.returns-in_err-dropped-clause-found
returns-in_err-dropped-clause-found g c tells =
    let after = (goal.at.returns-in_err-dropped-clause-found g c).After-held_values in
    let s = g.S.Reads.state c.args.space.now in
    let n = g.S.Reads.state c.held_values.new.space in
    let t = g.S.Reads.state c.drop_all.new.space in
    let found = sym c.in-Some.is ∙ c.in_ok-node.ensures.found tells in
    let used = node_in_use s (targets.Node c.args.id) c.args.id c.in-Some.node refl found in
    fault_exit of_fault (IsDeleteCause s t c.args.id) c.in_err-dropped.field-0.0 c.from_residual-in_err-dropped.result c.from_residual-in_err-dropped.ensures.1
    (drop_cause s n t c.args.id (read g after) c.in_err-dropped.field-0.0
    (c.in_err-dropped.ensures.damaged tells (subst (IsInUse n.records) (sym c.node_owner.ensures)
    (subst (λ (z : State). IsInUse z.records (owner_of (targets.Node c.args.id))) (sym (read g after)) used))))

-- the node's record, those of its properties and their blocks
written : (g : Over) (c : After-give g) → WritesAtMost (1 + c.in_ok-dropped.dropped.properties + c.in_ok-dropped.dropped.blocks)
    (g.S.Reads.state c.args.space.now) (g.S.Reads.state c.give.new.space)
written g c =
    let s = g.S.Reads.state c.args.space.now in
    let n = g.S.Reads.state c.held_values.new.space in
    let u = g.S.Reads.state c.drop_all.new.space in
    let t = g.S.Reads.state c.give.new.space in
    let key = key_in format.nodes_file c.args.id in
    let count = c.in_ok-dropped.dropped.properties + c.in_ok-dropped.dropped.blocks in
    let drops = subst (λ (o : Owner). WritesBeside o.key count n u) c.node_owner.ensures c.in_ok-dropped.ensures.writes in
    let gives = this_written key u t (key ∷ meta_key_of format.nodes_file ∷ [])
    (λ q i. ⊎_elim (λ e. inl e) (λ j. inr (⊎_elim (λ e. among_metas format.nodes_file q refl e) (λ e. absurd e) j)) i) c.give.ensures.writes in
    more_written (omega arith) (then_written (none_written s n (read g (goal.at.After-give g c).After-held_values))
    (beside_written refl (beside_then drops gives)))

pub returns-clause-writes : goal.returns-clause-writes
returns-clause-writes g c =
    let after = (goal.at.returns-clause-writes g c).After-give in
    more_written (omega arith) (then_written (written g after) (index_written c.in_ok-entries.entries _ _ c.in_ok-entries.ensures.touches))

pub returns-in_err-node-clause-refused_writes : goal.returns-in_err-node-clause-refused_writes
returns-in_err-node-clause-refused_writes g c = read_exit _ 785 _ _ (same g (goal.at.returns-in_err-node-clause-refused_writes g c).After-load)

pub returns-in_default-clause-refused_writes : goal.returns-in_default-clause-refused_writes
returns-in_default-clause-refused_writes g c = more_written (omega arith)
    (none_written _ _ (same g (goal.at.returns-in_default-clause-refused_writes g c).After-load))

pub returns-then-node-ne0-clause-refused_writes : goal.returns-then-node-ne0-clause-refused_writes
returns-then-node-ne0-clause-refused_writes g c = more_written (omega arith)
    (none_written _ _ (same g (goal.at.returns-then-node-ne0-clause-refused_writes g c).After-load))

pub returns-in_err-dropped-clause-refused_writes : goal.returns-in_err-dropped-clause-refused_writes
returns-in_err-dropped-clause-refused_writes g c =
    let n = g.S.Reads.state c.held_values.new.space in
    let u = g.S.Reads.state c.drop_all.new.space in
    let touched = subst (λ (o : Owner). TouchesProperties g.S.Reads.tells (o.key ∷ []) 32 704 n u) c.node_owner.ensures c.drop_all.ensures.at_most in
    on_any_err _ _ (more_written (omega arith)
    (then_written (none_written _ _ (read g (goal.at.returns-in_err-dropped-clause-refused_writes g c).After-held_values)) (touched_written refl touched)))

pub returns-in_err-give-clause-refused_writes : goal.returns-in_err-give-clause-refused_writes
returns-in_err-give-clause-refused_writes g c =
    let p = c.in_ok-dropped.ensures.few_properties in
    let b = c.in_ok-dropped.ensures.few_blocks in
    on_any_err _ _ (more_written (omega arith) (written g (goal.at.returns-in_err-give-clause-refused_writes g c).After-give))

pub returns-in_err-entries-clause-refused_writes : goal.returns-in_err-entries-clause-refused_writes
returns-in_err-entries-clause-refused_writes g c =
    let p = c.in_ok-dropped.ensures.few_properties in
    let b = c.in_ok-dropped.ensures.few_blocks in
    on_any_err _ _ (more_written (omega arith) (then_written (written g (goal.at.returns-in_err-entries-clause-refused_writes g c).After-give)
    (index_written 48 _ _ c.leave_values.ensures.at_most)))

pub returns-clause-light : goal.returns-clause-light
returns-clause-light g c = let p = c.in_ok-dropped.ensures.few_properties in let b = c.in_ok-dropped.ensures.few_blocks in let e =
    c.in_ok-entries.ensures.few in omega arith

-- ---- its entries leave the indexes

module _ (g : Over) (c : After-leave_values g) (tells : g.S.Reads.tells) (whole : IsStore (g.S.Reads.state c.args.space.now) c.args.names.now.names) where
  abbrev dropped_at : After-drop_all g
  dropped_at = (goal.at.After-leave_values g c).After-drop_all

  abbrev held_at : After-held_values g
  held_at = (goal.at.After-leave_values g c).After-held_values

  abbrev u : State
  u = g.S.Reads.state c.drop_all.new.space

  abbrev t : State
  t = g.S.Reads.state c.give.new.space

  abbrev dropped : Dropped
  dropped = c.in_ok-dropped.dropped

  abbrev here : IsStore (n g held_at) c.args.names.now.names
  here = store g held_at tells whole

  abbrev used_here : kind_at (n g held_at).records format.nodes_file c.args.id ≢ format.free_kind
  used_here = used g held_at tells (n g held_at) (read g held_at)

  abbrev owned_here : IsOwner (owner_of (targets.Node c.args.id))
  owned_here = node_owned (n g held_at) here.store.store c.args.id used_here

  abbrev there : HasElement (n g held_at) (owner_of (targets.Node c.args.id))
  there = record { store = here.store.store; used = used_here }

  drops : DropsAll (n g held_at) u (owner_of (targets.Node c.args.id)) dropped
  drops = subst (λ (o : Owner). HasElement (n g held_at) o → DropsAll (n g held_at) u o dropped) c.node_owner.ensures (c.in_ok-dropped.ensures.dropped tells)
      there

  alone : DropsAllAlone (n g held_at) u (owner_of (targets.Node c.args.id)) (listed_at (n g held_at) (owner_of (targets.Node c.args.id)) owned_here there)
      dropped
  alone = subst (λ (o : Owner). (es : List Property) → OwnsProperties (n g held_at) o es → DropsAllAlone (n g held_at) u o es dropped) c.node_owner.ensures
      (c.in_ok-dropped.ensures.owned tells)
      (listed_at (n g held_at) (owner_of (targets.Node c.args.id)) owned_here there)
      (owns_listed (n g held_at) (owner_of (targets.Node c.args.id)) owned_here there)

  between : AreIndexed t.records (wanted_in (n g held_at).records)
  between = gone_between (n g held_at) u t c.args.names.now.names c.args.id here used_here (lone g held_at tells (n g held_at) (read g held_at)) dropped
      owned_here drops (g.met.S.Reads.onward_shape _ _ c.drop_all.ensures.onward) (g.met.S.Reads.onward_shape _ _ c.give.ensures.onward)
      (c.in_ok-give.ensures.given tells)

  keeps : IsWhole t
  keeps = (gone_left (n g held_at) u t c.args.names.now.names c.args.id here used_here (lone g held_at tells (n g held_at) (read g held_at)) dropped owned_here
      drops (g.met.S.Reads.onward_shape _ _ c.drop_all.ensures.onward) (g.met.S.Reads.onward_shape _ _ c.give.ensures.onward)
      (c.in_ok-give.ensures.given tells)).store

  -- the values that were held
  held_is : c.in_ok-held.held.items ≡ held_of (n g held_at).records (label_at (n g held_at).records c.args.id) c.args.id
      (map (pair_of (n g held_at).records) here.store.indexes.definitions)
  held_is = subst (λ (z : State). (store : IsIndexed z.records z.shape) → c.in_ok-held.held.items ≡ held_of z.records (label_at z.records c.args.id) c.args.id
      (map (pair_of z.records) store.indexes.definitions)) (sym c.held_values.ensures.same)
      (λ store. c.in_ok-held.ensures.held tells (record { store = store.store; indexes = store.indexes }) (used g held_at tells (m g held_at)
      (loaded g held_at)) (label g held_at tells (m g held_at) (loaded g held_at))
      ∙ ap (λ l. held_of (m g held_at).records l c.args.id (map (pair_of (m g held_at).records) store.indexes.definitions))
      (label g held_at tells (m g held_at) (loaded g held_at))) here.store

pub returns-in_err-entries-clause-refused : goal.returns-in_err-entries-clause-refused
returns-in_err-entries-clause-refused g c tells whole =
    let after = (goal.at.returns-in_err-entries-clause-refused g c).After-leave_values in
    let s = g.S.Reads.state c.args.space.now in
    let n = g.S.Reads.state c.held_values.new.space in
    let command = commands.Delete (targets.Node c.args.id) in
    fault_exit (λ f. f) (IsRefusal s.shape.limit (graph_in s) command) c.in_err-entries.field-0.0 c.from_residual-in_err-entries.result
    c.from_residual-in_err-entries.ensures.1
    (outside_refused change_reasons s.shape.limit (graph_in s) command c.in_err-entries.field-0.0 (c.in_err-entries.ensures.not_damaged tells
    (wanted_in n.records)
    (between g after tells whole) (keeps g after tells whole)))

pub returns-in_err-entries-clause-found : goal.returns-in_err-entries-clause-found
returns-in_err-entries-clause-found g c tells =
    let after = (goal.at.After-leave_values g (goal.at.returns-in_err-entries-clause-found g c).After-leave_values).After-held_values in
    let s = g.S.Reads.state c.args.space.now in
    let m = g.S.Reads.state c.load.new.space in
    let n = g.S.Reads.state c.held_values.new.space in
    let d = g.S.Reads.state c.drop_all.new.space in
    let e = g.S.Reads.state c.give.new.space in
    let v = g.S.Reads.state c.leave_values.new.space in
    let fault = c.in_err-entries.field-0.0 in
    let owner = owner_file c.node_owner.result (targets.Node c.args.id) c.node_owner.ensures in
    let later : LeavesIndexes n e = λ damage of. other_leaves d e format.nodes_file (λ z. omega arith) (λ z. omega arith)
    (given_beside d e format.nodes_file c.args.id (c.in_ok-give.ensures.stays tells)) damage of
    ∙ properties_leave g.S.Reads.tells _ _ n d c.node_owner.result owner tells c.drop_all.ensures.at_most damage of in
    let left : LeavesIndexes s e = λ damage of. later damage of ∙ reads_leave s n (read g after) damage of in
    let shape : e.shape ≡ s.shape = g.met.S.Reads.onward_shape _ _ c.give.ensures.onward ∙ g.met.S.Reads.onward_shape _ _ c.drop_all.ensures.onward
    ∙ ap (λ (z : State). z.shape) (read g after) in
    let from : LeavesIndexes m e = λ damage of. later damage of ∙ ap (λ (z : State). z.records (key_in damage.file damage.id)) c.held_values.ensures.same in
    let has = some_leaves m e (0 < length c.deref.result.now) from (λ some. c.in_ok-held.ensures.walked tells (let len = ap length c.deref.ensures.value in
    omega (arith, some, len))) in
    fault_exit (λ f. f) (IsDeleteCause s v c.args.id) fault c.from_residual-in_err-entries.result c.from_residual-in_err-entries.ensures.1
    (entry_cause s v c.args.id fault c.in_err-entries.ensures.failure
    (blames_more _ _ (λ damage told. found_before s e v damage left shape told.0 told.1) fault
    (blames_both _ _ fault (c.in_err-entries.ensures.blames tells) (c.in_err-entries.ensures.found tells has))))

pub returns-clause-made : goal.returns-clause-made
returns-clause-made g c tells whole =
    let after = (goal.at.returns-clause-made g c).After-leave_values in
    let held = held_at g after tells whole in
    let s = g.S.Reads.state c.args.space.now in
    let n = g.S.Reads.state c.held_values.new.space in
    let t = g.S.Reads.state c.give.new.space in
    let v = g.S.Reads.state c.leave_values.new.space in
    let names = c.args.names.now.names in
    let e = c.in_ok-entries.ensures in
    let items = c.deref.result.now in
    made_read s n v names (commands.Delete (targets.Node c.args.id)) Done
    (1 + c.in_ok-dropped.dropped.properties + c.in_ok-dropped.dropped.blocks + c.in_ok-entries.entries) (read g held)
    (gone_made n (g.S.Reads.state c.drop_all.new.space) t names c.args.id (here g after tells whole) (used_here g after tells whole)
    (lone g held tells n (read g held)) c.in_ok-dropped.dropped (owned_here g after tells whole) (drops g after tells whole)
    (g.met.S.Reads.onward_shape _ _ c.drop_all.ensures.onward) (g.met.S.Reads.onward_shape _ _ c.give.ensures.onward) (c.in_ok-give.ensures.given tells)
    (alone g after tells whole)
    v (touched_beside c.in_ok-entries.entries t v tells e.touches) (e.graph tells (wanted_in n.records) (between g after tells whole)
    (keeps g after tells whole)) (e.keeps tells (wanted_in n.records) (between g after tells whole) (keeps g after tells whole))
    items (c.deref.ensures.value ∙ held_is g after tells whole) (e.left tells (wanted_in n.records) (between g after tells whole) (keeps g after tells whole))
    c.in_ok-entries.entries e.weight)

-- whatever the records are, the node is in use no more
pub returns-clause-gone : goal.returns-clause-gone
returns-clause-gone g c tells =
    let u = g.S.Reads.state c.drop_all.new.space in
    let t = g.S.Reads.state c.give.new.space in
    let v = g.S.Reads.state c.leave_values.new.space in
    unused_left u t v c.args.id (c.in_ok-give.ensures.ok tells) (touched_beside c.in_ok-entries.entries t v tells c.in_ok-entries.ensures.touches)

pub returns-clause-kinds : goal.returns-clause-kinds
returns-clause-kinds g c tells whole x ne =
    let after = (goal.at.returns-clause-kinds g c).After-leave_values in
    let held = held_at g after tells whole in
    let n = g.S.Reads.state c.held_values.new.space in
    let t = g.S.Reads.state c.give.new.space in
    let v = g.S.Reads.state c.leave_values.new.space in
    gone_kinds n (g.S.Reads.state c.drop_all.new.space) t c.args.names.now.names c.args.id (here g after tells whole) (used_here g after tells whole)
    (lone g held tells n (read g held)) c.in_ok-dropped.dropped (owned_here g after tells whole) (drops g after tells whole)
    (g.met.S.Reads.onward_shape _ _ c.drop_all.ensures.onward) (g.met.S.Reads.onward_shape _ _ c.give.ensures.onward) (c.in_ok-give.ensures.given tells) v
    (touched_beside c.in_ok-entries.entries t v tells c.in_ok-entries.ensures.touches) x ne
    ∙ ap (λ (z : State). kind_at z.records format.nodes_file x) (read g held)

pub returns-in_err-held-clause-caused : goal.returns-in_err-held-clause-caused
returns-in_err-held-clause-caused g c tells =
    let command = commands.Delete (targets.Node c.args.id) in
    let s = g.S.Reads.state c.args.space.now in
    let t = g.S.Reads.state c.held_values.new.space in
    let names = c.args.names.now.names in
    fault_exit (λ f. f) (IsCaused command s t names names) c.in_err-held.field-0.0 c.from_residual-in_err-held.result c.from_residual-in_err-held.ensures.1
    (failure_caused command s t names names c.in_err-held.field-0.0 c.in_err-held.ensures.failure)

pub returns-in_err-entries-clause-caused : goal.returns-in_err-entries-clause-caused
returns-in_err-entries-clause-caused g c tells =
    let command = commands.Delete (targets.Node c.args.id) in
    let s = g.S.Reads.state c.args.space.now in
    let t = g.S.Reads.state c.leave_values.new.space in
    let names = c.args.names.now.names in
    fault_exit (λ f. f) (IsCaused command s t names names) c.in_err-entries.field-0.0 c.from_residual-in_err-entries.result
    c.from_residual-in_err-entries.ensures.1
    (failure_caused command s t names names c.in_err-entries.field-0.0 c.in_err-entries.ensures.failure)

pub returns-in_err-held-clause-caused_after : goal.returns-in_err-held-clause-caused_after
returns-in_err-held-clause-caused_after g c tells =
    let t = g.S.Reads.state c.held_values.new.space in
    let names = c.args.names.now.names in
    let command = commands.Delete (targets.Node c.args.id) in
    let fault = c.in_err-held.field-0.0 in
    fault_exit (λ f. f) (IsCausedAfter command t names names) fault c.from_residual-in_err-held.result c.from_residual-in_err-held.ensures.1
    (record { caused = failure_caused command t t names names fault c.in_err-held.ensures.failure; damaged = any_blamed _ (λ damage. tt) fault })

pub returns-in_err-entries-clause-caused_after : goal.returns-in_err-entries-clause-caused_after
returns-in_err-entries-clause-caused_after g c tells =
    let t = g.S.Reads.state c.leave_values.new.space in
    let names = c.args.names.now.names in
    let command = commands.Delete (targets.Node c.args.id) in
    let fault = c.in_err-entries.field-0.0 in
    fault_exit (λ f. f) (IsCausedAfter command t names names) fault c.from_residual-in_err-entries.result c.from_residual-in_err-entries.ensures.1
    (record { caused = failure_caused command t t names names fault c.in_err-entries.ensures.failure; damaged = any_blamed _ (λ damage. tt) fault })

pub returns-in_err-held-clause-cause : goal.returns-in_err-held-clause-cause
returns-in_err-held-clause-cause g c =
    change_cause_passed _ _ _ c.from_residual-in_err-held.result c.in_err-held.field-0.0 c.in_ok-node.ensures.cause.later c.in_err-held.ensures.cause
    c.from_residual-in_err-held.ensures.1

pub returns-in_err-dropped-clause-cause : goal.returns-in_err-dropped-clause-cause
returns-in_err-dropped-clause-cause g c =
    fault_cause_passed _ _ _ c.from_residual-in_err-dropped.result c.in_err-dropped.field-0.0
    (later_on c.in_ok-node.ensures.cause.later c.in_ok-held.ensures.cause.later) c.in_err-dropped.ensures.cause c.from_residual-in_err-dropped.ensures.1

pub returns-in_err-give-clause-cause : goal.returns-in_err-give-clause-cause
returns-in_err-give-clause-cause g c =
    space_cause_passed _ _ _ c.from_residual-in_err-give.result c.in_err-give.field-0.0
    (later_on (later_on c.in_ok-node.ensures.cause.later c.in_ok-held.ensures.cause.later) c.in_ok-dropped.ensures.cause.later) c.in_err-give.ensures.cause
    c.from_residual-in_err-give.ensures.1

pub returns-in_err-entries-clause-cause : goal.returns-in_err-entries-clause-cause
returns-in_err-entries-clause-cause g c =
    change_cause_passed _ _ _ c.from_residual-in_err-entries.result c.in_err-entries.field-0.0
    (later_on (later_on (later_on c.in_ok-node.ensures.cause.later c.in_ok-held.ensures.cause.later) c.in_ok-dropped.ensures.cause.later)
    c.in_ok-give.ensures.cause.later) c.in_err-entries.ensures.cause c.from_residual-in_err-entries.ensures.1

-- ---- the space goes on

gone_on : (g : Over) (c : After-give g) → g.S.Reads.onward c.args.space.now c.give.new.space
gone_on g c =
    let on = g.met.S.Reads.further_onward in
    on c.args.space.now c.drop_all.new.space c.give.new.space
    (on c.args.space.now c.held_values.new.space c.drop_all.new.space (on c.args.space.now c.load.new.space c.held_values.new.space c.load.ensures.onward
    c.held_values.ensures.onward) c.drop_all.ensures.onward)
    c.give.ensures.onward

pub returns-in_err-give-clause-onward : goal.returns-in_err-give-clause-onward
returns-in_err-give-clause-onward g c = gone_on g (goal.at.returns-in_err-give-clause-onward g c).After-give

pub returns-in_err-entries-clause-onward : goal.returns-in_err-entries-clause-onward
returns-in_err-entries-clause-onward g c = g.met.S.Reads.further_onward c.args.space.now c.give.new.space c.leave_values.new.space
    (gone_on g (goal.at.returns-in_err-entries-clause-onward g c).After-give) c.leave_values.ensures.onward

pub returns-clause-onward : goal.returns-clause-onward
returns-clause-onward g c = g.met.S.Reads.further_onward c.args.space.now c.give.new.space c.leave_values.new.space
    (gone_on g (goal.at.returns-clause-onward g c).After-give) c.leave_values.ensures.onward

-- ---- why it is refused over any records
pub returns-in_err-node-clause-caused : goal.returns-in_err-node-clause-caused
returns-in_err-node-clause-caused g c tells =
    let command = commands.Delete (targets.Node c.args.id) in
    let s = g.S.Reads.state c.args.space.now in
    let t = g.S.Reads.state c.load.new.space in
    let names = c.args.names.now.names in
    fault_exit of_row (IsCaused command s t names names) c.in_err-node.field-0.0 c.from_residual.result c.from_residual.ensures.1
    (failure_caused command s t names names (of_row c.in_err-node.field-0.0) (row_fails c.in_err-node.field-0.0))

pub returns-in_default-clause-caused : goal.returns-in_default-clause-caused
returns-in_default-clause-caused g c tells = (refl, sym (sym c.in_default.is ∙ c.in_ok-node.ensures.found tells))

pub returns-then-node-ne0-clause-caused : goal.returns-then-node-ne0-clause-caused
returns-then-node-ne0-clause-caused g c tells =
    (refl, record { row = c.in-Some.node; found = sym (sym c.in-Some.is ∙ c.in_ok-node.ensures.found tells); is = refl }, c.if-node-ne0.true)

pub returns-in_err-dropped-clause-caused : goal.returns-in_err-dropped-clause-caused
returns-in_err-dropped-clause-caused g c tells =
    let command = commands.Delete (targets.Node c.args.id) in
    let s = g.S.Reads.state c.args.space.now in
    let t = g.S.Reads.state c.drop_all.new.space in
    let names = c.args.names.now.names in
    fault_exit of_fault (IsCaused command s t names names) c.in_err-dropped.field-0.0 c.from_residual-in_err-dropped.result
    c.from_residual-in_err-dropped.ensures.1
    (failure_caused command s t names names (of_fault c.in_err-dropped.field-0.0) (fault_fails c.in_err-dropped.field-0.0))

pub returns-in_err-give-clause-caused : goal.returns-in_err-give-clause-caused
returns-in_err-give-clause-caused g c tells =
    let command = commands.Delete (targets.Node c.args.id) in
    let s = g.S.Reads.state c.args.space.now in
    let t = g.S.Reads.state c.give.new.space in
    let names = c.args.names.now.names in
    fault_exit of_space (IsCaused command s t names names) c.in_err-give.field-0.0 c.from_residual-in_err-give.result c.from_residual-in_err-give.ensures.1
    (failure_caused command s t names names (of_space c.in_err-give.field-0.0) (space_fails c.in_err-give.field-0.0))

-- ---- and by the space as it is left alone

pub returns-in_err-node-clause-caused_after : goal.returns-in_err-node-clause-caused_after
returns-in_err-node-clause-caused_after g c tells =
    let t = g.S.Reads.state c.load.new.space in
    let names = c.args.names.now.names in
    let command = commands.Delete (targets.Node c.args.id) in
    let fault = of_row c.in_err-node.field-0.0 in
    fault_exit of_row (IsCausedAfter command t names names) c.in_err-node.field-0.0 c.from_residual.result c.from_residual.ensures.1
    (record { caused = failure_caused command t t names names fault (row_fails c.in_err-node.field-0.0); damaged = any_blamed _ (λ damage. tt) fault })

pub returns-in_err-dropped-clause-caused_after : goal.returns-in_err-dropped-clause-caused_after
returns-in_err-dropped-clause-caused_after g c tells =
    let t = g.S.Reads.state c.drop_all.new.space in
    let names = c.args.names.now.names in
    let command = commands.Delete (targets.Node c.args.id) in
    let fault = of_fault c.in_err-dropped.field-0.0 in
    fault_exit of_fault (IsCausedAfter command t names names) c.in_err-dropped.field-0.0 c.from_residual-in_err-dropped.result
    c.from_residual-in_err-dropped.ensures.1 (record {
      caused = failure_caused command t t names names fault (fault_fails c.in_err-dropped.field-0.0);
      damaged =
          any_blamed _ (λ damage. tt) fault;
    })

pub returns-in_err-give-clause-caused_after : goal.returns-in_err-give-clause-caused_after
returns-in_err-give-clause-caused_after g c tells =
    let t = g.S.Reads.state c.give.new.space in
    let names = c.args.names.now.names in
    let command = commands.Delete (targets.Node c.args.id) in
    let fault = of_space c.in_err-give.field-0.0 in
    fault_exit of_space (IsCausedAfter command t names names) c.in_err-give.field-0.0 c.from_residual-in_err-give.result c.from_residual-in_err-give.ensures.1
    (record { caused = failure_caused command t t names names fault (space_fails c.in_err-give.field-0.0); damaged = any_blamed _ (λ damage. tt) fault })

pub returns-in_default-clause-caused_after : goal.returns-in_default-clause-caused_after
returns-in_default-clause-caused_after g c tells =
    let s = g.S.Reads.state c.args.space.now in
    let t = g.S.Reads.state c.load.new.space in
    let names = c.args.names.now.names in
    let read = same g (goal.at.returns-in_default-clause-caused_after g c).After-load in
    record {
      caused = caused_left (commands.Delete (targets.Node c.args.id)) s t t names names read (NoNode c.args.id)
          (refl, sym (sym c.in_default.is ∙ c.in_ok-node.ensures.found tells));
      damaged = tt;
    }

pub returns-then-node-ne0-clause-caused_after : goal.returns-then-node-ne0-clause-caused_after
returns-then-node-ne0-clause-caused_after g c tells =
    let s = g.S.Reads.state c.args.space.now in
    let t = g.S.Reads.state c.load.new.space in
    let names = c.args.names.now.names in
    let read = same g (goal.at.returns-then-node-ne0-clause-caused_after g c).After-load in
    record {
      caused = caused_left (commands.Delete (targets.Node c.args.id)) s t t names names read (HasRelationships c.args.id c.in-Some.node.degree)
          (refl, record { row = c.in-Some.node; found = sym (sym c.in-Some.is ∙ c.in_ok-node.ensures.found tells); is = refl }, c.if-node-ne0.true);
      damaged = tt;
    }

-- ---- which record is blamed, in the space as it is left

pub returns-in_err-node-clause-broken : goal.returns-in_err-node-clause-broken
returns-in_err-node-clause-broken g c tells =
    let s = g.S.Reads.state c.args.space.now in
    let t = g.S.Reads.state c.load.new.space in
    let loaded_only = same g (goal.at.returns-in_err-node-clause-broken g c).After-load in
    fault_exit of_row (BlamesBroken t) c.in_err-node.field-0.0 c.from_residual.result c.from_residual.ensures.1
    (broken_left s t loaded_only (of_row c.in_err-node.field-0.0) (node_broken s c.args.id c.in_err-node.field-0.0 (c.in_err-node.ensures.damaged tells)))

pub returns-in_err-held-clause-broken : goal.returns-in_err-held-clause-broken
returns-in_err-held-clause-broken g c tells =
    let after = (goal.at.returns-in_err-held-clause-broken g c).After-held_values in
    let s = g.S.Reads.state c.args.space.now in
    let m = g.S.Reads.state c.load.new.space in
    let t = g.S.Reads.state c.held_values.new.space in
    let fault = c.in_err-held.field-0.0 in
    fault_exit (λ f. f) (BlamesBroken t) fault c.from_residual-in_err-held.result c.from_residual-in_err-held.ensures.1
    (broken_left s t (read g after) fault (blames_more (IsBroken m) (IsBroken s) (λ damage broken. subst (λ (z : State). IsBroken z damage) (loaded g after)
    broken) fault (c.in_err-held.ensures.damaged tells (used g after tells m (loaded g after)))))

pub returns-in_err-dropped-clause-broken : goal.returns-in_err-dropped-clause-broken
returns-in_err-dropped-clause-broken g c tells =
    let after = (goal.at.returns-in_err-dropped-clause-broken g c).After-held_values in
    let s = g.S.Reads.state c.args.space.now in
    let n = g.S.Reads.state c.held_values.new.space in
    let t = g.S.Reads.state c.drop_all.new.space in
    let in_use = node_in_use s (targets.Node c.args.id) c.args.id c.in-Some.node refl (sym c.in-Some.is ∙ c.in_ok-node.ensures.found tells) in
    fault_exit of_fault (BlamesBroken t) c.in_err-dropped.field-0.0 c.from_residual-in_err-dropped.result c.from_residual-in_err-dropped.ensures.1
    (unwritten_left n t c.in_err-dropped.field-0.0 (c.in_err-dropped.ensures.damaged tells (subst (IsInUse n.records) (sym c.node_owner.ensures)
    (subst (λ (z : State). IsInUse z.records (owner_of (targets.Node c.args.id))) (sym (read g after)) in_use)))
    c.in_err-dropped.ensures.unwritten)

pub returns-in_err-give-clause-broken : goal.returns-in_err-give-clause-broken
returns-in_err-give-clause-broken g c tells =
    fault_exit of_space (BlamesBroken (g.S.Reads.state c.give.new.space)) c.in_err-give.field-0.0 c.from_residual-in_err-give.result
    c.from_residual-in_err-give.ensures.1 (space_blamed _ c.in_err-give.field-0.0)

pub returns-in_err-entries-clause-broken : goal.returns-in_err-entries-clause-broken
returns-in_err-entries-clause-broken g c tells =
    let t = g.S.Reads.state c.leave_values.new.space in
    fault_exit (λ f. f) (BlamesBroken t) c.in_err-entries.field-0.0 c.from_residual-in_err-entries.result c.from_residual-in_err-entries.ensures.1
    (entry_left t c.in_err-entries.field-0.0 (c.in_err-entries.ensures.blames tells))

pub returns-in_err-node-clause-made : goal.returns-in_err-node-clause-made
returns-in_err-node-clause-made g c _ = never_ok c.from_residual.result _ _ c.from_residual.ensures.1

pub returns-in_err-node-clause-lone : goal.returns-in_err-node-clause-lone
returns-in_err-node-clause-lone g c _ = never_ok c.from_residual.result _ _ c.from_residual.ensures.1

pub returns-in_err-node-clause-gone : goal.returns-in_err-node-clause-gone
returns-in_err-node-clause-gone g c _ = never_ok c.from_residual.result _ _ c.from_residual.ensures.1

pub returns-in_err-node-clause-kinds : goal.returns-in_err-node-clause-kinds
returns-in_err-node-clause-kinds g c _ = never_ok c.from_residual.result _ _ c.from_residual.ensures.1

pub returns-in_err-node-clause-light : goal.returns-in_err-node-clause-light
returns-in_err-node-clause-light g c = never_ok c.from_residual.result _ _ c.from_residual.ensures.1

pub returns-in_err-node-clause-writes : goal.returns-in_err-node-clause-writes
returns-in_err-node-clause-writes g c = never_ok c.from_residual.result _ _ c.from_residual.ensures.1

pub returns-in_err-node-clause-onward : goal.returns-in_err-node-clause-onward
returns-in_err-node-clause-onward g c = search rules

pub returns-in_err-held-clause-made : goal.returns-in_err-held-clause-made
returns-in_err-held-clause-made g c _ = never_ok c.from_residual-in_err-held.result _ _ c.from_residual-in_err-held.ensures.1

pub returns-in_err-held-clause-lone : goal.returns-in_err-held-clause-lone
returns-in_err-held-clause-lone g c _ = never_ok c.from_residual-in_err-held.result _ _ c.from_residual-in_err-held.ensures.1

pub returns-in_err-held-clause-gone : goal.returns-in_err-held-clause-gone
returns-in_err-held-clause-gone g c _ = never_ok c.from_residual-in_err-held.result _ _ c.from_residual-in_err-held.ensures.1

pub returns-in_err-held-clause-kinds : goal.returns-in_err-held-clause-kinds
returns-in_err-held-clause-kinds g c _ = never_ok c.from_residual-in_err-held.result _ _ c.from_residual-in_err-held.ensures.1

pub returns-in_err-held-clause-light : goal.returns-in_err-held-clause-light
returns-in_err-held-clause-light g c = never_ok c.from_residual-in_err-held.result _ _ c.from_residual-in_err-held.ensures.1

pub returns-in_err-held-clause-writes : goal.returns-in_err-held-clause-writes
returns-in_err-held-clause-writes g c = never_ok c.from_residual-in_err-held.result _ _ c.from_residual-in_err-held.ensures.1

pub returns-in_err-dropped-clause-made : goal.returns-in_err-dropped-clause-made
returns-in_err-dropped-clause-made g c _ = never_ok c.from_residual-in_err-dropped.result _ _ c.from_residual-in_err-dropped.ensures.1

pub returns-in_err-dropped-clause-lone : goal.returns-in_err-dropped-clause-lone
returns-in_err-dropped-clause-lone g c _ = never_ok c.from_residual-in_err-dropped.result _ _ c.from_residual-in_err-dropped.ensures.1

pub returns-in_err-dropped-clause-gone : goal.returns-in_err-dropped-clause-gone
returns-in_err-dropped-clause-gone g c _ = never_ok c.from_residual-in_err-dropped.result _ _ c.from_residual-in_err-dropped.ensures.1

pub returns-in_err-dropped-clause-kinds : goal.returns-in_err-dropped-clause-kinds
returns-in_err-dropped-clause-kinds g c _ = never_ok c.from_residual-in_err-dropped.result _ _ c.from_residual-in_err-dropped.ensures.1

pub returns-in_err-dropped-clause-light : goal.returns-in_err-dropped-clause-light
returns-in_err-dropped-clause-light g c = never_ok c.from_residual-in_err-dropped.result _ _ c.from_residual-in_err-dropped.ensures.1

pub returns-in_err-dropped-clause-writes : goal.returns-in_err-dropped-clause-writes
returns-in_err-dropped-clause-writes g c = never_ok c.from_residual-in_err-dropped.result _ _ c.from_residual-in_err-dropped.ensures.1

pub returns-in_err-give-clause-made : goal.returns-in_err-give-clause-made
returns-in_err-give-clause-made g c _ = never_ok c.from_residual-in_err-give.result _ _ c.from_residual-in_err-give.ensures.1

pub returns-in_err-give-clause-lone : goal.returns-in_err-give-clause-lone
returns-in_err-give-clause-lone g c _ = never_ok c.from_residual-in_err-give.result _ _ c.from_residual-in_err-give.ensures.1

pub returns-in_err-give-clause-gone : goal.returns-in_err-give-clause-gone
returns-in_err-give-clause-gone g c _ = never_ok c.from_residual-in_err-give.result _ _ c.from_residual-in_err-give.ensures.1

pub returns-in_err-give-clause-kinds : goal.returns-in_err-give-clause-kinds
returns-in_err-give-clause-kinds g c _ = never_ok c.from_residual-in_err-give.result _ _ c.from_residual-in_err-give.ensures.1

pub returns-in_err-give-clause-light : goal.returns-in_err-give-clause-light
returns-in_err-give-clause-light g c = never_ok c.from_residual-in_err-give.result _ _ c.from_residual-in_err-give.ensures.1

pub returns-in_err-give-clause-writes : goal.returns-in_err-give-clause-writes
returns-in_err-give-clause-writes g c = never_ok c.from_residual-in_err-give.result _ _ c.from_residual-in_err-give.ensures.1

pub returns-in_err-entries-clause-made : goal.returns-in_err-entries-clause-made
returns-in_err-entries-clause-made g c _ = never_ok c.from_residual-in_err-entries.result _ _ c.from_residual-in_err-entries.ensures.1

pub returns-in_err-entries-clause-lone : goal.returns-in_err-entries-clause-lone
returns-in_err-entries-clause-lone g c _ = never_ok c.from_residual-in_err-entries.result _ _ c.from_residual-in_err-entries.ensures.1

pub returns-in_err-entries-clause-gone : goal.returns-in_err-entries-clause-gone
returns-in_err-entries-clause-gone g c _ = never_ok c.from_residual-in_err-entries.result _ _ c.from_residual-in_err-entries.ensures.1

pub returns-in_err-entries-clause-kinds : goal.returns-in_err-entries-clause-kinds
returns-in_err-entries-clause-kinds g c _ = never_ok c.from_residual-in_err-entries.result _ _ c.from_residual-in_err-entries.ensures.1

pub returns-in_err-entries-clause-light : goal.returns-in_err-entries-clause-light
returns-in_err-entries-clause-light g c = never_ok c.from_residual-in_err-entries.result _ _ c.from_residual-in_err-entries.ensures.1

pub returns-in_err-entries-clause-writes : goal.returns-in_err-entries-clause-writes
returns-in_err-entries-clause-writes g c = never_ok c.from_residual-in_err-entries.result _ _ c.from_residual-in_err-entries.ensures.1

pub returns-clause-cause : goal.returns-clause-cause
returns-clause-cause g c =
    ok_cause _ _ _ _ (later_on (later_on (later_on (later_on c.in_ok-node.ensures.cause.later c.in_ok-held.ensures.cause.later)
    c.in_ok-dropped.ensures.cause.later) c.in_ok-give.ensures.cause.later) c.in_ok-entries.ensures.cause.later)

-- ---- which records are other

-- after the properties were taken away, and after the identifier was given back
dropped_keeps : (g : Over) (c : After-drop_all g) → g.S.Reads.tells
    → KeepsButNode (g.S.Reads.state c.args.space.now) (g.S.Reads.state c.drop_all.new.space) c.args.id
dropped_keeps g c tells =
    let s = g.S.Reads.state c.args.space.now in
    let n = g.S.Reads.state c.held_values.new.space in
    let u = g.S.Reads.state c.drop_all.new.space in
    kept_then s n u c.args.id (kept_read s n c.args.id (read g (goal.at.After-drop_all g c).After-held_values))
    (kept_dropped n u c.args.id c.node_owner.result c.node_owner.ensures (c.drop_all.ensures.leaves tells))

given_keeps : (g : Over) (c : After-give g) → g.S.Reads.tells
    → KeepsButNode (g.S.Reads.state c.args.space.now) (g.S.Reads.state c.give.new.space) c.args.id
given_keeps g c tells =
    let s = g.S.Reads.state c.args.space.now in
    let u = g.S.Reads.state c.drop_all.new.space in
    let v = g.S.Reads.state c.give.new.space in
    kept_then s u v c.args.id (dropped_keeps g (goal.at.After-give g c).After-drop_all tells) (kept_given u v c.args.id (c.give.ensures.stays tells))

left_keeps : (g : Over) (c : After-leave_values g) → g.S.Reads.tells
    → KeepsButNode (g.S.Reads.state c.args.space.now) (g.S.Reads.state c.leave_values.new.space) c.args.id
left_keeps g c tells =
    let s = g.S.Reads.state c.args.space.now in
    let v = g.S.Reads.state c.give.new.space in
    let w = g.S.Reads.state c.leave_values.new.space in
    kept_then s v w c.args.id (given_keeps g (goal.at.After-leave_values g c).After-give tells)
    (kept_left 48 v w c.args.id tells c.leave_values.ensures.at_most)

pub returns-in_err-node-clause-keeps : goal.returns-in_err-node-clause-keeps
returns-in_err-node-clause-keeps g c tells =
    kept_read (g.S.Reads.state c.args.space.now) (g.S.Reads.state c.load.new.space) c.args.id
    (same g (goal.at.returns-in_err-node-clause-keeps g c).After-load)

pub returns-in_default-clause-keeps : goal.returns-in_default-clause-keeps
returns-in_default-clause-keeps g c tells =
    kept_read (g.S.Reads.state c.args.space.now) (g.S.Reads.state c.load.new.space) c.args.id
    (same g (goal.at.returns-in_default-clause-keeps g c).After-load)

pub returns-then-node-ne0-clause-keeps : goal.returns-then-node-ne0-clause-keeps
returns-then-node-ne0-clause-keeps g c tells =
    kept_read (g.S.Reads.state c.args.space.now) (g.S.Reads.state c.load.new.space) c.args.id
    (same g (goal.at.returns-then-node-ne0-clause-keeps g c).After-load)

pub returns-in_err-held-clause-keeps : goal.returns-in_err-held-clause-keeps
returns-in_err-held-clause-keeps g c tells =
    kept_read (g.S.Reads.state c.args.space.now) (g.S.Reads.state c.held_values.new.space) c.args.id
    (read g (goal.at.returns-in_err-held-clause-keeps g c).After-held_values)

pub returns-in_err-dropped-clause-keeps : goal.returns-in_err-dropped-clause-keeps
returns-in_err-dropped-clause-keeps g c tells = dropped_keeps g (goal.at.returns-in_err-dropped-clause-keeps g c).After-drop_all tells

pub returns-in_err-give-clause-keeps : goal.returns-in_err-give-clause-keeps
returns-in_err-give-clause-keeps g c tells = given_keeps g (goal.at.returns-in_err-give-clause-keeps g c).After-give tells

pub returns-in_err-entries-clause-keeps : goal.returns-in_err-entries-clause-keeps
returns-in_err-entries-clause-keeps g c tells = left_keeps g (goal.at.returns-in_err-entries-clause-keeps g c).After-leave_values tells

pub returns-clause-keeps : goal.returns-clause-keeps
returns-clause-keeps g c tells = left_keeps g (goal.at.returns-clause-keeps g c).After-leave_values tells

pub returns-in_err-node-clause-leaves : goal.returns-in_err-node-clause-leaves
returns-in_err-node-clause-leaves g c =
    let s = g.S.Reads.state c.args.space.now in
    let t = g.S.Reads.state c.load.new.space in
    fault_exit of_row (LeavesSpace s t) c.in_err-node.field-0.0 c.from_residual.result c.from_residual.ensures.1
    (late_leaves s t (of_row c.in_err-node.field-0.0) (failure_late (of_row c.in_err-node.field-0.0) (row_fails c.in_err-node.field-0.0)))

pub returns-in_err-held-clause-leaves : goal.returns-in_err-held-clause-leaves
returns-in_err-held-clause-leaves g c =
    let s = g.S.Reads.state c.args.space.now in
    let t = g.S.Reads.state c.held_values.new.space in
    fault_exit (λ f. f) (LeavesSpace s t) c.in_err-held.field-0.0 c.from_residual-in_err-held.result c.from_residual-in_err-held.ensures.1
    (late_leaves s t c.in_err-held.field-0.0 (failure_late c.in_err-held.field-0.0 c.in_err-held.ensures.failure))

pub returns-in_err-dropped-clause-leaves : goal.returns-in_err-dropped-clause-leaves
returns-in_err-dropped-clause-leaves g c =
    let s = g.S.Reads.state c.args.space.now in
    let t = g.S.Reads.state c.drop_all.new.space in
    fault_exit of_fault (LeavesSpace s t) c.in_err-dropped.field-0.0 c.from_residual-in_err-dropped.result c.from_residual-in_err-dropped.ensures.1
    (late_leaves s t (of_fault c.in_err-dropped.field-0.0) (failure_late (of_fault c.in_err-dropped.field-0.0) (fault_fails c.in_err-dropped.field-0.0)))

pub returns-in_err-give-clause-leaves : goal.returns-in_err-give-clause-leaves
returns-in_err-give-clause-leaves g c =
    let s = g.S.Reads.state c.args.space.now in
    let t = g.S.Reads.state c.give.new.space in
    fault_exit of_space (LeavesSpace s t) c.in_err-give.field-0.0 c.from_residual-in_err-give.result c.from_residual-in_err-give.ensures.1
    (late_leaves s t (of_space c.in_err-give.field-0.0) (failure_late (of_space c.in_err-give.field-0.0) (space_fails c.in_err-give.field-0.0)))

pub returns-in_err-entries-clause-leaves : goal.returns-in_err-entries-clause-leaves
returns-in_err-entries-clause-leaves g c =
    let s = g.S.Reads.state c.args.space.now in
    let t = g.S.Reads.state c.leave_values.new.space in
    fault_exit (λ f. f) (LeavesSpace s t) c.in_err-entries.field-0.0 c.from_residual-in_err-entries.result c.from_residual-in_err-entries.ensures.1
    (late_leaves s t c.in_err-entries.field-0.0 (failure_late c.in_err-entries.field-0.0 c.in_err-entries.ensures.failure))

pub returns-in_err-node-clause-cause : goal.returns-in_err-node-clause-cause
returns-in_err-node-clause-cause g c =
    row_cause_passed _ _ _ c.from_residual.result c.in_err-node.field-0.0 (omega arith) c.in_err-node.ensures.cause c.from_residual.ensures.1

pub returns-in_err-held-clause-onward : goal.returns-in_err-held-clause-onward
returns-in_err-held-clause-onward g c =
    g.met.S.Reads.further_onward c.args.space.now c.load.new.space c.held_values.new.space c.load.ensures.onward c.held_values.ensures.onward

pub returns-in_err-dropped-clause-onward : goal.returns-in_err-dropped-clause-onward
returns-in_err-dropped-clause-onward g c =
    g.met.S.Reads.further_onward c.args.space.now c.held_values.new.space c.drop_all.new.space
    (g.met.S.Reads.further_onward c.args.space.now c.load.new.space c.held_values.new.space c.load.ensures.onward c.held_values.ensures.onward)
    c.drop_all.ensures.onward

pub returns-in_default-clause-onward : goal.returns-in_default-clause-onward
returns-in_default-clause-onward g c = c.load.ensures.onward

pub returns-then-node-ne0-clause-onward : goal.returns-then-node-ne0-clause-onward
returns-then-node-ne0-clause-onward g c = c.load.ensures.onward
