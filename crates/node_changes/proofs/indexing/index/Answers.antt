use Rattle.std.specs.Prelude.{Contains, slice_get}
use Rattle.rec_bytes.specs.Space.{SameButReads, State}
use Rattle.std.proofs.Common.{ℕ, List, inl, inr, ◌≡◌, ◌≢◌, ◌+◌, ◌≤◌, Some, [], ◌∷◌, ◌++◌, length, ap, sym, ◌∙◌, subst, append_assoc, arith, refl, rules}
use Rattle.plain_graph.specs.Graph.{UsesName}
use Rattle.plain_graph.specs.Refusals.{most_names}
use Rattle.plain_graph.specs.declared.command.Command.TheVariants as commands
use Rattle.rec_bytes.specs.Format as format
use Rattle.store_rules.specs.Indexes.{IsIndexed}
use Rattle.store_rules.specs.Writes.{WritesAtMost}
use Rattle.store_rules.proofs.WriteLaws.{more_written, none_written, then_written}
use Rattle.name_store.specs.Interning.{IsFullFault, interned}
use Rattle.name_store.specs.Names.{AreHeldNames}
use Rattle.prop_index.specs.Defining.{AreNamesOf}
use Rattle.prop_index.specs.Making.{count_of}
use Rattle.change_parts.specs.Causes.{IsCaused, IsCausedAfter}
use Rattle.change_parts.specs.Change.{IsCounted, IsRefusal}
use Rattle.change_parts.specs.Damage.{BlamesMaking, IsBroken}
use Rattle.change_parts.specs.ChangeFault.{LeavesSpace, of_intern, of_make}
use Rattle.change_parts.specs.Store.{IsStore}
use Rattle.change_parts.proofs.Broken.{blames_more}
use Rattle.node_changes.proofs.Broken.{interned_read}
use Rattle.change_parts.proofs.Causes.{broken_left, caused_left, intern_blamed}
use Rattle.change_parts.proofs.DiskCauses.{change_cause_passed, intern_cause_passed, later_on, make_cause_passed}
use Rattle.change_parts.proofs.Exits.{fault_exit, read_leaves}
use Rattle.node_changes.proofs.IndexBeside.{index_written, touched_beside}
use Rattle.node_changes.proofs.IndexMakes.{AreNumbered, index_makes, index_refused_key, index_refused_label}
use Rattle.node_changes.proofs.IndexMakes.{index_refused_make, index_refused_pair, numbered_names, numbered_store}
use Rattle.node_changes.proofs.IndexCounted.{count_beside, count_kept, file_kept}
use Rattle.node_changes.proofs.IndexFree.{few_there, none_there}
use Rattle.node_changes.proofs.IndexNumbers.{number_stays, pair_is_got}
use Rattle.node_changes.proofs.IndexRefused.{IsNamedFor, caused_counted, make_blamed, make_caused, make_leaves, make_still}
use Rattle.node_changes.proofs.IndexRefused.{meta_named, name_caused, name_leaves, records_named, second_lacks}
use Rattle.node_changes.proofs.IndexRefused.{shape_named}
use Rattle.change_parts.proofs.Interned.{name_written, one_written}
use Rattle.change_parts.proofs.LineNames.{first_lacks, held_name, name_long, name_once, name_prefix, uses_once}
use Rattle.change_parts.proofs.NewNames.{name_one}
use Rattle.change_parts.proofs.Writes.{on_any_err, read_exit}
use Rattle.rec_bytes.proofs.Causes.{never_ok}
use Rattle.node_changes.proofs.indexing.index.Goals as goal
use Rattle.node_changes.proofs.indexing.index.Goals.{After-intern, After-intern-2, After-make, In_err-key, In_err-label}
use Rattle.node_changes.proofs.indexing.index.Given.{Over}
use Rattle.store_rules.specs.Graph.{graph_in}

-- ---- the pair may have no index

pub returns-in_err-test_pair-clause-refused : goal.returns-in_err-test_pair-clause-refused
returns-in_err-test_pair-clause-refused g c tells whole =
    let s = g.S.Reads.state c.args.space.now in
    let names = c.args.names.now.names in
    let now = c.args.names.now.names in
    let label = c.args.label.now in
    let key = c.args.key.now in
    let command = commands.Index c.args.label.now c.args.key.now in
    let fault = c.in_err-test_pair.field-0.0 in
    fault_exit (λ f. f) (IsRefusal s.shape.limit (graph_in s) command) fault c.from_residual.result c.from_residual.ensures.1
    (index_refused_pair s label key fault (c.in_err-test_pair.ensures.refused tells whole))

pub returns-in_err-test_pair-clause-caused : goal.returns-in_err-test_pair-clause-caused
returns-in_err-test_pair-clause-caused g c tells =
    let s = g.S.Reads.state c.args.space.now in
    let t = g.S.Reads.state c.test_pair.new.space in
    let names = c.args.names.now.names in
    let now = c.args.names.now.names in
    let label = c.args.label.now in
    let key = c.args.key.now in
    let command = commands.Index c.args.label.now c.args.key.now in
    let fault = c.in_err-test_pair.field-0.0 in
    fault_exit (λ f. f) (IsCaused command s t names now) fault c.from_residual.result c.from_residual.ensures.1
    (c.in_err-test_pair.ensures.caused tells)

pub returns-in_err-test_pair-clause-caused_after : goal.returns-in_err-test_pair-clause-caused_after
returns-in_err-test_pair-clause-caused_after g c tells =
    let s = g.S.Reads.state c.args.space.now in
    let t = g.S.Reads.state c.test_pair.new.space in
    let names = c.args.names.now.names in
    let now = c.args.names.now.names in
    let label = c.args.label.now in
    let key = c.args.key.now in
    let command = commands.Index c.args.label.now c.args.key.now in
    let fault = c.in_err-test_pair.field-0.0 in
    fault_exit (λ f. f) (IsCausedAfter command t names now) fault c.from_residual.result c.from_residual.ensures.1
    (record {
      caused = caused_left command s t t names now c.test_pair.ensures.same fault (c.in_err-test_pair.ensures.caused tells);
      damaged = broken_left s t c.test_pair.ensures.same fault (c.in_err-test_pair.ensures.damaged tells);
    })

pub returns-in_err-test_pair-clause-damaged : goal.returns-in_err-test_pair-clause-damaged
returns-in_err-test_pair-clause-damaged g c tells known uses =
    let s = g.S.Reads.state c.args.space.now in
    let named = interned (interned s c.args.names.now.names c.args.label.now) known c.args.key.now in
    let fault = c.in_err-test_pair.field-0.0 in
    fault_exit (λ f. f) (BlamesMaking s named) fault c.from_residual.result c.from_residual.ensures.1
    (blames_more _ _ (λ damage broken. inl broken) fault (c.in_err-test_pair.ensures.damaged tells))

pub returns-in_err-test_pair-clause-counts : goal.returns-in_err-test_pair-clause-counts
returns-in_err-test_pair-clause-counts g c tells whole =
    let s = g.S.Reads.state c.args.space.now in
    let t = g.S.Reads.state c.test_pair.new.space in
    let names = c.args.names.now.names in
    let now = c.args.names.now.names in
    let label = c.args.label.now in
    let key = c.args.key.now in
    let fault = c.in_err-test_pair.field-0.0 in
    fault_exit (λ f. f) (IsCounted s) fault c.from_residual.result c.from_residual.ensures.1
    (caused_counted s t names now label key fault (c.in_err-test_pair.ensures.caused tells))

pub returns-in_err-test_pair-clause-leaves : goal.returns-in_err-test_pair-clause-leaves
returns-in_err-test_pair-clause-leaves g c tells =
    let s = g.S.Reads.state c.args.space.now in
    let t = g.S.Reads.state c.test_pair.new.space in
    let fault = c.in_err-test_pair.field-0.0 in
    fault_exit (λ f. f) (LeavesSpace s t) fault c.from_residual.result c.from_residual.ensures.1
    (read_leaves s t c.test_pair.ensures.same fault)

pub returns-in_err-test_pair-clause-refused_writes : goal.returns-in_err-test_pair-clause-refused_writes
returns-in_err-test_pair-clause-refused_writes g c = read_exit _ 1039 _ _ c.test_pair.ensures.same

pub returns-in_err-test_pair-clause-cause : goal.returns-in_err-test_pair-clause-cause
returns-in_err-test_pair-clause-cause g c = change_cause_passed _ _ _ c.from_residual.result c.in_err-test_pair.field-0.0 (omega arith)
    c.in_err-test_pair.ensures.cause c.from_residual.ensures.1

-- ---- the label gets no number

label_written : (g : Over) (c : After-intern g) → WritesAtMost 1 (g.S.Reads.state c.args.space.now) (g.S.Reads.state c.intern.new.space)
label_written g c = then_written (none_written _ _ c.test_pair.ensures.same) (one_written _ _ _ c.intern.ensures.writes)

label_full : (g : Over) (c : In_err-label g) → IsFullFault c.args.names.now.names c.args.label.now c.in_err-label.field-0.0
label_full g c = subst (λ x. IsFullFault c.args.names.now.names x c.in_err-label.field-0.0) c.as_bytes.ensures c.in_err-label.ensures.full_only

pub returns-in_err-label-clause-refused : goal.returns-in_err-label-clause-refused
returns-in_err-label-clause-refused g c tells whole =
    let s = g.S.Reads.state c.args.space.now in
    let names = c.args.names.now.names in
    let now = c.intern.new.self.names in
    let label = c.args.label.now in
    let key = c.args.key.now in
    let command = commands.Index c.args.label.now c.args.key.now in
    let fault = c.in_err-label.field-0.0 in
    fault_exit of_intern (IsRefusal s.shape.limit (graph_in s) command) fault c.from_residual-in_err-label.result c.from_residual-in_err-label.ensures.1
    (index_refused_label s names label key whole (c.in_ok-test_pair.ensures.may tells whole) fault (label_full g (goal.at.returns-in_err-label-clause-refused g
    c).In_err-label))

pub returns-in_err-label-clause-caused : goal.returns-in_err-label-clause-caused
returns-in_err-label-clause-caused g c tells =
    let s = g.S.Reads.state c.args.space.now in
    let t = g.S.Reads.state c.intern.new.space in
    let names = c.args.names.now.names in
    let now = c.intern.new.self.names in
    let label = c.args.label.now in
    let key = c.args.key.now in
    let command = commands.Index c.args.label.now c.args.key.now in
    let fault = c.in_err-label.field-0.0 in
    fault_exit of_intern (IsCaused command s t names now) fault c.from_residual-in_err-label.result c.from_residual-in_err-label.ensures.1
    (name_caused s t names now names label key label (λ all lacks. first_lacks names label (key ∷ []) all lacks) fault
    (label_full g (goal.at.returns-in_err-label-clause-caused g c).In_err-label))

pub returns-in_err-label-clause-caused_after : goal.returns-in_err-label-clause-caused_after
returns-in_err-label-clause-caused_after g c tells =
    let t = g.S.Reads.state c.intern.new.space in
    let names = c.args.names.now.names in
    let now = c.intern.new.self.names in
    let label = c.args.label.now in
    let key = c.args.key.now in
    let command = commands.Index c.args.label.now c.args.key.now in
    let fault = c.in_err-label.field-0.0 in
    fault_exit of_intern (IsCausedAfter command t names now) fault c.from_residual-in_err-label.result c.from_residual-in_err-label.ensures.1
    (record {
      caused = (name_caused t t names now names label key label (λ all lacks. first_lacks names label (key ∷ []) all lacks) fault
          (label_full g (goal.at.returns-in_err-label-clause-caused_after g c).In_err-label));
      damaged = intern_blamed (IsBroken t) fault;
    })

pub returns-in_err-label-clause-damaged : goal.returns-in_err-label-clause-damaged
returns-in_err-label-clause-damaged g c tells known uses =
    let s = g.S.Reads.state c.args.space.now in
    let named = interned (interned s c.args.names.now.names c.args.label.now) known c.args.key.now in
    let fault = c.in_err-label.field-0.0 in
    fault_exit of_intern (BlamesMaking s named) fault c.from_residual-in_err-label.result c.from_residual-in_err-label.ensures.1 (intern_blamed _ fault)

pub returns-in_err-label-clause-counts : goal.returns-in_err-label-clause-counts
returns-in_err-label-clause-counts g c tells whole =
    let s = g.S.Reads.state c.args.space.now in
    let t = g.S.Reads.state c.intern.new.space in
    let names = c.args.names.now.names in
    let now = c.intern.new.self.names in
    let label = c.args.label.now in
    let key = c.args.key.now in
    let fault = c.in_err-label.field-0.0 in
    fault_exit of_intern (IsCounted s) fault c.from_residual-in_err-label.result c.from_residual-in_err-label.ensures.1
    (caused_counted s t names now label key (of_intern fault) (name_caused s t names now names label key label (λ all lacks. first_lacks names label (key ∷ [])
    all lacks) fault (label_full g (goal.at.returns-in_err-label-clause-counts g c).In_err-label)))

pub returns-in_err-label-clause-leaves : goal.returns-in_err-label-clause-leaves
returns-in_err-label-clause-leaves g c tells =
    let s = g.S.Reads.state c.args.space.now in
    let t = g.S.Reads.state c.intern.new.space in
    let fault = c.in_err-label.field-0.0 in
    fault_exit of_intern (LeavesSpace s t) fault c.from_residual-in_err-label.result c.from_residual-in_err-label.ensures.1
    (name_leaves s t fault)

pub returns-in_err-label-clause-refused_writes : goal.returns-in_err-label-clause-refused_writes
returns-in_err-label-clause-refused_writes g c = on_any_err _ _ (more_written (omega arith) (label_written g (goal.at.returns-in_err-label-clause-refused_writes
    g c).After-intern))

pub returns-in_err-label-clause-cause : goal.returns-in_err-label-clause-cause
returns-in_err-label-clause-cause g c = intern_cause_passed _ _ _ c.from_residual-in_err-label.result c.in_err-label.field-0.0
    c.in_ok-test_pair.ensures.cause.later c.in_err-label.ensures.cause c.from_residual-in_err-label.ensures.1

-- ---- the key gets none

names_written : (g : Over) (c : After-intern-2 g) → WritesAtMost 2 (g.S.Reads.state c.args.space.now) (g.S.Reads.state c.intern-2.new.space)
names_written g c = then_written (label_written g (goal.at.After-intern-2 g c).After-intern) (one_written _ _ _ c.intern-2.ensures.writes)

-- the label has its number
label_uses : (g : Over) (c : After-intern-2 g) → UsesName c.args.names.now.names c.args.label.now c.intern.new.self.names
label_uses g c = subst (λ x. UsesName c.args.names.now.names x c.intern.new.self.names) c.as_bytes.ensures c.in_ok-label.ensures.names

key_full : (g : Over) (c : In_err-key g) → IsFullFault c.intern.new.self.names c.args.key.now c.in_err-key.field-0.0
key_full g c = subst (λ x. IsFullFault c.intern.new.self.names x c.in_err-key.field-0.0) c.as_bytes-2.ensures c.in_err-key.ensures.full_only

pub returns-in_err-key-clause-refused : goal.returns-in_err-key-clause-refused
returns-in_err-key-clause-refused g c tells whole =
    let s = g.S.Reads.state c.args.space.now in
    let names = c.args.names.now.names in
    let now = c.intern-2.new.self.names in
    let label = c.args.label.now in
    let key = c.args.key.now in
    let command = commands.Index c.args.label.now c.args.key.now in
    let fault = c.in_err-key.field-0.0 in
    fault_exit of_intern (IsRefusal s.shape.limit (graph_in s) command) fault c.from_residual-in_err-key.result c.from_residual-in_err-key.ensures.1
    (index_refused_key s names label key whole (c.in_ok-test_pair.ensures.may tells whole) c.intern.new.self.names
    (label_uses g (goal.at.returns-in_err-key-clause-refused g c).After-intern-2) fault (key_full g (goal.at.returns-in_err-key-clause-refused g
    c).In_err-key))

pub returns-in_err-key-clause-caused : goal.returns-in_err-key-clause-caused
returns-in_err-key-clause-caused g c tells =
    let s = g.S.Reads.state c.args.space.now in
    let t = g.S.Reads.state c.intern-2.new.space in
    let names = c.args.names.now.names in
    let now = c.intern-2.new.self.names in
    let label = c.args.label.now in
    let key = c.args.key.now in
    let command = commands.Index c.args.label.now c.args.key.now in
    let fault = c.in_err-key.field-0.0 in
    fault_exit of_intern (IsCaused command s t names now) fault c.from_residual-in_err-key.result c.from_residual-in_err-key.ensures.1
    (name_caused s t names now c.intern.new.self.names label key key (λ all lacks. second_lacks names c.intern.new.self.names label key
    (label_uses g (goal.at.returns-in_err-key-clause-caused g c).After-intern-2) all lacks) fault
    (key_full g (goal.at.returns-in_err-key-clause-caused g c).In_err-key))

pub returns-in_err-key-clause-caused_after : goal.returns-in_err-key-clause-caused_after
returns-in_err-key-clause-caused_after g c tells =
    let t = g.S.Reads.state c.intern-2.new.space in
    let names = c.args.names.now.names in
    let now = c.intern-2.new.self.names in
    let label = c.args.label.now in
    let key = c.args.key.now in
    let command = commands.Index c.args.label.now c.args.key.now in
    let fault = c.in_err-key.field-0.0 in
    fault_exit of_intern (IsCausedAfter command t names now) fault c.from_residual-in_err-key.result c.from_residual-in_err-key.ensures.1
    (record {
      caused = (name_caused t t names now c.intern.new.self.names label key key (λ all lacks. second_lacks names c.intern.new.self.names label key
          (label_uses g (goal.at.returns-in_err-key-clause-caused_after g c).After-intern-2) all lacks) fault
          (key_full g (goal.at.returns-in_err-key-clause-caused_after g c).In_err-key));
      damaged = intern_blamed (IsBroken t) fault;
    })

pub returns-in_err-key-clause-damaged : goal.returns-in_err-key-clause-damaged
returns-in_err-key-clause-damaged g c tells known uses =
    let s = g.S.Reads.state c.args.space.now in
    let named = interned (interned s c.args.names.now.names c.args.label.now) known c.args.key.now in
    let fault = c.in_err-key.field-0.0 in
    fault_exit of_intern (BlamesMaking s named) fault c.from_residual-in_err-key.result c.from_residual-in_err-key.ensures.1 (intern_blamed _ fault)

pub returns-in_err-key-clause-counts : goal.returns-in_err-key-clause-counts
returns-in_err-key-clause-counts g c tells whole =
    let s = g.S.Reads.state c.args.space.now in
    let t = g.S.Reads.state c.intern-2.new.space in
    let names = c.args.names.now.names in
    let now = c.intern-2.new.self.names in
    let label = c.args.label.now in
    let key = c.args.key.now in
    let fault = c.in_err-key.field-0.0 in
    fault_exit of_intern (IsCounted s) fault c.from_residual-in_err-key.result c.from_residual-in_err-key.ensures.1
    (caused_counted s t names now label key (of_intern fault) (name_caused s t names now c.intern.new.self.names label key key
    (λ all lacks. second_lacks names c.intern.new.self.names label key (label_uses g (goal.at.returns-in_err-key-clause-counts g c).After-intern-2)
    all lacks) fault (key_full g (goal.at.returns-in_err-key-clause-counts g c).In_err-key)))

pub returns-in_err-key-clause-leaves : goal.returns-in_err-key-clause-leaves
returns-in_err-key-clause-leaves g c tells =
    let s = g.S.Reads.state c.args.space.now in
    let t = g.S.Reads.state c.intern-2.new.space in
    let fault = c.in_err-key.field-0.0 in
    fault_exit of_intern (LeavesSpace s t) fault c.from_residual-in_err-key.result c.from_residual-in_err-key.ensures.1
    (name_leaves s t fault)

pub returns-in_err-key-clause-refused_writes : goal.returns-in_err-key-clause-refused_writes
returns-in_err-key-clause-refused_writes g c = on_any_err _ _ (more_written (omega arith) (names_written g (goal.at.returns-in_err-key-clause-refused_writes g
    c).After-intern-2))

pub returns-in_err-key-clause-cause : goal.returns-in_err-key-clause-cause
returns-in_err-key-clause-cause g c = intern_cause_passed _ _ _ c.from_residual-in_err-key.result c.in_err-key.field-0.0
    (later_on c.in_ok-test_pair.ensures.cause.later c.in_ok-label.ensures.cause.later) c.in_err-key.ensures.cause c.from_residual-in_err-key.ensures.1

-- ---- no index is made

made_written : (g : Over) (c : After-make g) → WritesAtMost 1039 (g.S.Reads.state c.args.space.now) (g.S.Reads.state c.make.new.space)
made_written g c = then_written (names_written g (goal.at.After-make g c).After-intern-2) (index_written 1037 _ _ c.make.ensures.at_most)

module _ (g : Over) (c : After-make g) where
  label_is : c.as_bytes.result.now ≡ c.args.label.now
  label_is = c.as_bytes.ensures

  key_is : c.as_bytes-2.result.now ≡ c.args.key.now
  key_is = c.as_bytes-2.ensures

  first_uses : UsesName c.args.names.now.names c.args.label.now c.intern.new.self.names
  first_uses = label_uses g (goal.at.After-make g c).After-intern-2

  last_uses : UsesName c.intern.new.self.names c.args.key.now c.intern-2.new.self.names
  last_uses = subst (λ x. UsesName c.intern.new.self.names x c.intern-2.new.self.names) key_is c.in_ok-key.ensures.names

  -- there is room for each where it is new
  label_room : ¬ Contains c.args.names.now.names c.args.label.now → length c.args.names.now.names ≢ format.most_names
  label_room lacks all = absurd (let e = c.in_ok-label.ensures.full all (subst (λ x. ¬ Contains c.args.names.now.names x) (sym label_is) lacks) in cc)

  key_room : ¬ Contains c.intern.new.self.names c.args.key.now → length c.intern.new.self.names ≢ format.most_names
  key_room lacks all = absurd (let e = c.in_ok-key.ensures.full all (subst (λ x. ¬ Contains c.intern.new.self.names x) (sym key_is) lacks) in cc)

  held_first : AreHeldNames c.intern.new.self.names
  held_first = held_name c.args.names.now.names c.args.label.now c.intern.new.self.names c.count-known.ensures.are_names first_uses c.requires.0 label_room

  held_last : AreHeldNames c.intern-2.new.self.names
  held_last = held_name c.intern.new.self.names c.args.key.now c.intern-2.new.self.names held_first last_uses c.requires.1 key_room

  few_names : length c.intern-2.new.self.names ≤ most_names
  few_names = held_last.few

  few_more : length c.intern-2.new.self.names ≤ length c.args.names.now.names + 2
  few_more =
      let one = name_one c.args.names.now.names c.args.label.now c.intern.new.self.names first_uses in
      let two = name_one c.intern.new.self.names c.args.key.now c.intern-2.new.self.names last_uses in
      omega arith

  no_fewer : length c.args.names.now.names ≤ length c.intern-2.new.self.names
  no_fewer =
      let one = name_long c.args.names.now.names c.args.label.now c.intern.new.self.names first_uses in
      let two = name_long c.intern.new.self.names c.args.key.now c.intern-2.new.self.names last_uses in
      omega arith

  label_ok : g.S.Reads.tells → g.S.Reads.state c.intern.new.space ≡ interned (g.S.Reads.state c.test_pair.new.space) c.args.names.now.names c.args.label.now
  label_ok tells = subst (λ x. g.S.Reads.state c.intern.new.space ≡ interned (g.S.Reads.state c.test_pair.new.space) c.args.names.now.names x) label_is
      (c.in_ok-label.ensures.ok tells)

  key_ok : g.S.Reads.tells → g.S.Reads.state c.intern-2.new.space ≡ interned (g.S.Reads.state c.intern.new.space) c.intern.new.self.names c.args.key.now
  key_ok tells = subst (λ x. g.S.Reads.state c.intern-2.new.space ≡ interned (g.S.Reads.state c.intern.new.space) c.intern.new.self.names x) key_is
      (c.in_ok-key.ensures.ok tells)

  numbered : g.S.Reads.tells → AreNumbered (g.S.Reads.state c.test_pair.new.space) (g.S.Reads.state c.intern.new.space) (g.S.Reads.state c.intern-2.new.space)
      c.args.names.now.names c.intern.new.self.names c.intern-2.new.self.names c.args.label.now c.args.key.now c.in_ok-label.label c.in_ok-key.key
  numbered tells = record {
    label_short = c.requires.0;
    key_short = c.requires.1;
    label_is = label_ok tells;
    key_is = key_ok tells;
    label_uses = first_uses;
    key_uses = last_uses;
    label_room = label_room;
    key_room = key_room;
    label_at = c.in_ok-label.ensures.number ∙ ap Some label_is;
    key_at = c.in_ok-key.ensures.number ∙ ap Some key_is;
  }

  -- the test was of the numbers that they got
  named_for : g.S.Reads.tells → IsNamedFor (g.S.Reads.state c.args.space.now) (g.S.Reads.state c.intern-2.new.space) c.intern-2.new.self.names c.args.label.now
      c.args.key.now c.in_ok-label.label c.in_ok-key.key
  named_for tells =
      let s = g.S.Reads.state c.args.space.now in
      let p = g.S.Reads.state c.test_pair.new.space in
      let a = g.S.Reads.state c.intern.new.space in
      let b = g.S.Reads.state c.intern-2.new.space in
      let names = c.args.names.now.names in
      let first = c.intern.new.self.names in
      let last = c.intern-2.new.self.names in
      let label = c.args.label.now in
      let key = c.args.key.now in
      let l = c.in_ok-label.label in
      let k = c.in_ok-key.key in
      let given = numbered tells in
      let free = c.in_ok-test_pair.ensures.tested tells in
      let beside = records_named s p a b names first label key c.test_pair.ensures.same given.label_is given.key_is in
      let file = file_kept s.records b.records beside format.index_file (λ e. omega arith) (λ e. omega arith) in
      let same = pair_is_got names label key free.pair free.pair_is first last l k held_first.distinct held_last.distinct first_uses last_uses given.label_at
      given.key_at in
      record {
        label_at = number_stays first key last l label given.label_at last_uses;
        key_at = given.key_at;
        count = count_kept s.records b.records beside l k;
        meta = meta_named s p a b names first label key c.test_pair.ensures.same given.label_is given.key_is;
        shape = shape_named s p a b names first label key c.test_pair.ensures.same given.label_is given.key_is;
        free = none_there s.records b.records file names label key free l k same;
        few = few_there s.records b.records file names label key free;
      }

  -- the nodes are as they were when the names came
  left_count : g.S.Reads.tells → count_of (g.S.Reads.state c.make.new.space).records c.in_ok-label.label c.in_ok-key.key ≡ count_of
      (g.S.Reads.state c.intern-2.new.space).records c.in_ok-label.label c.in_ok-key.key
  left_count tells =
      let b = g.S.Reads.state c.intern-2.new.space in
      let t = g.S.Reads.state c.make.new.space in
      count_beside b.records t.records (touched_beside 1037 b t tells c.make.ensures.at_most) c.in_ok-label.label c.in_ok-key.key

  was : g.S.Reads.tells → IsStore (g.S.Reads.state c.args.space.now) c.args.names.now.names
      → IsIndexed ((g.S.Reads.state c.intern-2.new.space).records) ((g.S.Reads.state c.intern-2.new.space).shape)
  was tells whole = (numbered_store (g.S.Reads.state c.args.space.now) (g.S.Reads.state c.test_pair.new.space) (g.S.Reads.state c.intern.new.space)
      (g.S.Reads.state c.intern-2.new.space) c.args.names.now.names c.intern.new.self.names c.intern-2.new.self.names c.args.label.now c.args.key.now
      c.in_ok-label.label c.in_ok-key.key c.test_pair.ensures.same whole (numbered tells)).store

  names_are : g.S.Reads.tells → IsStore (g.S.Reads.state c.args.space.now) c.args.names.now.names
      → AreNamesOf ((g.S.Reads.state c.intern-2.new.space).records) c.in_ok-label.label c.in_ok-key.key
  names_are tells whole = numbered_names (g.S.Reads.state c.args.space.now) (g.S.Reads.state c.test_pair.new.space) (g.S.Reads.state c.intern.new.space)
      (g.S.Reads.state c.intern-2.new.space) c.args.names.now.names c.intern.new.self.names c.intern-2.new.self.names c.args.label.now c.args.key.now
      c.in_ok-label.label c.in_ok-key.key c.test_pair.ensures.same whole (numbered tells)

  later : g.S.Reads.faults c.args.space.now ≤ g.S.Reads.faults c.intern-2.new.space
  later = later_on (later_on c.in_ok-test_pair.ensures.cause.later c.in_ok-label.ensures.cause.later) c.in_ok-key.ensures.cause.later

  gone_on : g.S.Reads.onward c.args.space.now c.make.new.space
  gone_on =
      let on = g.met.S.Reads.further_onward in
      on c.args.space.now c.intern-2.new.space c.make.new.space
      (on c.args.space.now c.intern.new.space c.intern-2.new.space (on c.args.space.now c.test_pair.new.space c.intern.new.space c.test_pair.ensures.onward
      c.intern.ensures.onward) c.intern-2.ensures.onward)
      c.make.ensures.onward

pub returns-in_err-count-clause-refused : goal.returns-in_err-count-clause-refused
returns-in_err-count-clause-refused g c tells whole =
    let s = g.S.Reads.state c.args.space.now in
    let names = c.args.names.now.names in
    let now = c.intern-2.new.self.names in
    let label = c.args.label.now in
    let key = c.args.key.now in
    let command = commands.Index c.args.label.now c.args.key.now in
    let fault = c.in_err-count.field-0.0 in
    fault_exit of_make (IsRefusal s.shape.limit (graph_in s) command) fault c.from_residual-in_err-count.result c.from_residual-in_err-count.ensures.1
    (index_refused_make s (g.S.Reads.state c.test_pair.new.space) (g.S.Reads.state c.intern.new.space) (g.S.Reads.state c.intern-2.new.space)
    names c.intern.new.self.names now label key c.in_ok-label.label c.in_ok-key.key c.test_pair.ensures.same whole
    (numbered g (goal.at.returns-in_err-count-clause-refused g c).After-make tells) (was g (goal.at.returns-in_err-count-clause-refused g c).After-make
    tells whole) (c.in_ok-test_pair.ensures.may tells whole) fault (c.in_err-count.ensures.refused tells
    (was g (goal.at.returns-in_err-count-clause-refused g c).After-make tells whole) (names_are g (goal.at.returns-in_err-count-clause-refused g
    c).After-make tells whole)))

pub returns-in_err-count-clause-caused : goal.returns-in_err-count-clause-caused
returns-in_err-count-clause-caused g c tells =
    let s = g.S.Reads.state c.args.space.now in
    let t = g.S.Reads.state c.make.new.space in
    let names = c.args.names.now.names in
    let now = c.intern-2.new.self.names in
    let label = c.args.label.now in
    let key = c.args.key.now in
    let command = commands.Index c.args.label.now c.args.key.now in
    let fault = c.in_err-count.field-0.0 in
    fault_exit of_make (IsCaused command s t names now) fault c.from_residual-in_err-count.result c.from_residual-in_err-count.ensures.1
    (make_caused (g.S.Reads.state c.intern-2.new.space) names now label key c.in_ok-label.label c.in_ok-key.key s t
    (named_for g (goal.at.returns-in_err-count-clause-caused g c).After-make tells) fault (c.in_err-count.ensures.caused tells))

pub returns-in_err-count-clause-caused_after : goal.returns-in_err-count-clause-caused_after
returns-in_err-count-clause-caused_after g c tells =
    let t = g.S.Reads.state c.make.new.space in
    let names = c.args.names.now.names in
    let now = c.intern-2.new.self.names in
    let label = c.args.label.now in
    let key = c.args.key.now in
    let command = commands.Index c.args.label.now c.args.key.now in
    let fault = c.in_err-count.field-0.0 in
    fault_exit of_make (IsCausedAfter command t names now) fault c.from_residual-in_err-count.result c.from_residual-in_err-count.ensures.1
    (record {
      caused = make_still (g.S.Reads.state c.intern-2.new.space) names now label key c.in_ok-label.label c.in_ok-key.key (g.S.Reads.state c.args.space.now) t
          (named_for g (goal.at.returns-in_err-count-clause-caused_after g c).After-make tells)
          (left_count g (goal.at.returns-in_err-count-clause-caused_after g c).After-make tells) fault (c.in_err-count.ensures.unwritten tells)
          (c.in_err-count.ensures.caused tells);
      damaged = make_blamed t fault (c.in_err-count.ensures.damaged_after tells);
    })

-- the names that the label and the key have become
named_read : (s m n t : State) (names known then : List (List ℕ)) (label key : List ℕ) → SameButReads s m → n ≡ interned m names label
    → UsesName names label known → UsesName names label then → t ≡ interned n then key → SameButReads (interned (interned s names label) known key) t
named_read s m n t names known then label key same first is uses second =
    let one : SameButReads (interned s names label) n = subst (SameButReads (interned s names label)) (sym first) (interned_read s m names label same) in
    let two : SameButReads (interned (interned s names label) then key) t =
    subst (SameButReads (interned (interned s names label) then key)) (sym second) (interned_read (interned s names label) n then key one) in
    subst (λ k. SameButReads (interned (interned s names label) k key) t) (name_once names label then known uses is) two

pub returns-in_err-count-clause-damaged : goal.returns-in_err-count-clause-damaged
returns-in_err-count-clause-damaged g c tells known uses =
    let s = g.S.Reads.state c.args.space.now in
    let m = g.S.Reads.state c.test_pair.new.space in
    let n = g.S.Reads.state c.intern.new.space in
    let t = g.S.Reads.state c.intern-2.new.space in
    let names = c.args.names.now.names in
    let label = c.args.label.now in
    let key = c.args.key.now in
    let named = interned (interned s names label) known key in
    let fault = c.in_err-count.field-0.0 in
    let first : n ≡ interned m names label = subst (λ k. n ≡ interned m names k) c.as_bytes.ensures (c.in_ok-label.ensures.ok tells) in
    let used : UsesName names label c.intern.new.self.names = subst (λ k. UsesName names k c.intern.new.self.names) c.as_bytes.ensures
    c.in_ok-label.ensures.names in
    let second : t ≡ interned n c.intern.new.self.names key = subst (λ k. t ≡ interned n c.intern.new.self.names k) c.as_bytes-2.ensures
    (c.in_ok-key.ensures.ok tells) in
    let same = named_read s m n t names known c.intern.new.self.names label key c.test_pair.ensures.same first uses used second in
    fault_exit of_make (BlamesMaking s named) fault c.from_residual-in_err-count.result c.from_residual-in_err-count.ensures.1
    (blames_more _ _ (λ damage broken. inr (subst (λ (z : State). IsBroken z damage) same broken)) (of_make fault)
    (make_blamed t fault (c.in_err-count.ensures.damaged tells)))

pub returns-in_err-count-clause-counts : goal.returns-in_err-count-clause-counts
returns-in_err-count-clause-counts g c tells whole =
    let s = g.S.Reads.state c.args.space.now in
    let t = g.S.Reads.state c.make.new.space in
    let names = c.args.names.now.names in
    let now = c.intern-2.new.self.names in
    let label = c.args.label.now in
    let key = c.args.key.now in
    let fault = c.in_err-count.field-0.0 in
    fault_exit of_make (IsCounted s) fault c.from_residual-in_err-count.result c.from_residual-in_err-count.ensures.1
    (caused_counted s t names now label key (of_make fault) (make_caused (g.S.Reads.state c.intern-2.new.space) names now label key c.in_ok-label.label
    c.in_ok-key.key s t (named_for g (goal.at.returns-in_err-count-clause-counts g c).After-make tells) fault (c.in_err-count.ensures.caused tells)))

pub returns-in_err-count-clause-leaves : goal.returns-in_err-count-clause-leaves
returns-in_err-count-clause-leaves g c tells =
    let s = g.S.Reads.state c.args.space.now in
    let t = g.S.Reads.state c.make.new.space in
    let fault = c.in_err-count.field-0.0 in
    fault_exit of_make (LeavesSpace s t) fault c.from_residual-in_err-count.result c.from_residual-in_err-count.ensures.1
    (make_leaves (g.S.Reads.state c.intern-2.new.space) c.args.names.now.names c.intern-2.new.self.names c.args.label.now c.args.key.now c.in_ok-label.label
    c.in_ok-key.key s t (named_for g (goal.at.returns-in_err-count-clause-leaves g c).After-make tells) fault (c.in_err-count.ensures.caused tells))

pub returns-in_err-count-clause-refused_writes : goal.returns-in_err-count-clause-refused_writes
returns-in_err-count-clause-refused_writes g c = on_any_err _ _ (made_written g (goal.at.returns-in_err-count-clause-refused_writes g c).After-make)

pub returns-in_err-count-clause-cause : goal.returns-in_err-count-clause-cause
returns-in_err-count-clause-cause g c = make_cause_passed _ _ _ c.from_residual-in_err-count.result c.in_err-count.field-0.0
    (later_on (later_on c.in_ok-test_pair.ensures.cause.later c.in_ok-label.ensures.cause.later) c.in_ok-key.ensures.cause.later) c.in_err-count.ensures.cause
    c.from_residual-in_err-count.ensures.1

pub returns-in_err-count-clause-onward : goal.returns-in_err-count-clause-onward
returns-in_err-count-clause-onward g c = gone_on g (goal.at.returns-in_err-count-clause-onward g c).After-make

pub returns-in_err-count-clause-prefix : goal.returns-in_err-count-clause-prefix
returns-in_err-count-clause-prefix g c =
    let after = (goal.at.returns-in_err-count-clause-prefix g c).After-make in
    let one = name_prefix c.args.names.now.names c.args.label.now c.intern.new.self.names (first_uses g after) in
    let two = name_prefix c.intern.new.self.names c.args.key.now c.intern-2.new.self.names (last_uses g after) in
    (one.0 ++ two.0, two.1 ∙ ap (λ l. l ++ two.0) one.1 ∙ append_assoc c.args.names.now.names one.0 two.0)

pub returns-in_err-key-clause-prefix : goal.returns-in_err-key-clause-prefix
returns-in_err-key-clause-prefix g c =
    let one = name_prefix c.args.names.now.names c.args.label.now c.intern.new.self.names
    (label_uses g (goal.at.returns-in_err-key-clause-prefix g c).After-intern-2) in
    (one.0, c.in_err-key.ensures.err ∙ one.1)

-- ---- an index is made

pub overflow_sub-result : goal.overflow_sub-result
overflow_sub-result g c =
    let le = no_fewer g (goal.at.overflow_sub-result g c).After-make in
    let k = c.count-known.ensures.value in
    let m = c.count.ensures.value in
    omega arith

pub overflow_add-result : goal.overflow_add-result
overflow_add-result g c =
    let few = few_more g (goal.at.overflow_add-result g c).After-make in
    let k = c.count-known.ensures.value in
    let m = c.count.ensures.value in
    omega arith

pub overflow_add-result-2 : goal.overflow_add-result-2
overflow_add-result-2 g c =
    let few = few_more g (goal.at.overflow_add-result-2 g c).After-make in
    let made = c.in_ok-count.ensures.few in
    let k = c.count-known.ensures.value in
    let m = c.count.ensures.value in
    omega arith

pub returns-clause-made : goal.returns-clause-made
returns-clause-made g c tells whole =
    let after = (goal.at.returns-clause-made g c).After-make in
    let s = g.S.Reads.state c.args.space.now in
    let names = c.args.names.now.names in
    let now = c.intern-2.new.self.names in
    let label = c.args.label.now in
    let key = c.args.key.now in
    let had = was g after tells whole in
    index_makes s (g.S.Reads.state c.test_pair.new.space) (g.S.Reads.state c.intern.new.space) (g.S.Reads.state c.intern-2.new.space) names
    c.intern.new.self.names now label key c.in_ok-label.label c.in_ok-key.key c.test_pair.ensures.same whole (numbered g after tells) had
    (c.in_ok-test_pair.ensures.may tells whole) (g.S.Reads.state c.make.new.space) c.in_ok-count.count
    (c.in_ok-count.ensures.made tells had (names_are g after tells whole)) _
    (let k = c.count-known.ensures.value in let m = c.count.ensures.value in omega arith)

pub returns-clause-names_full : goal.returns-clause-names_full
returns-clause-names_full g c used other many =
    let after = (goal.at.returns-clause-names_full g c).After-make in
    let same = ap length (uses_once c.args.names.now.names (c.args.label.now ∷ c.args.key.now ∷ []) used c.intern-2.new.self.names other
    (c.intern.new.self.names, first_uses g after, (c.intern-2.new.self.names, last_uses g after, refl))) in
    let few = few_names g after in
    absurd (omega arith)

pub returns-clause-light : goal.returns-clause-light
returns-clause-light g c =
    let few = few_more g (goal.at.returns-clause-light g c).After-make in
    let made = c.in_ok-count.ensures.few in
    let k = c.count-known.ensures.value in
    let m = c.count.ensures.value in
    omega arith

pub returns-clause-prefix : goal.returns-clause-prefix
returns-clause-prefix g c =
    let after = (goal.at.returns-clause-prefix g c).After-make in
    let one = name_prefix c.args.names.now.names c.args.label.now c.intern.new.self.names (first_uses g after) in
    let two = name_prefix c.intern.new.self.names c.args.key.now c.intern-2.new.self.names (last_uses g after) in
    (one.0 ++ two.0, two.1 ∙ ap (λ l. l ++ two.0) one.1 ∙ append_assoc c.args.names.now.names one.0 two.0)

pub returns-clause-writes : goal.returns-clause-writes
returns-clause-writes g c =
    let after = (goal.at.returns-clause-writes g c).After-make in
    let one = name_long c.args.names.now.names c.args.label.now c.intern.new.self.names (first_uses g after) in
    let two = name_long c.intern.new.self.names c.args.key.now c.intern-2.new.self.names (last_uses g after) in
    let k = c.count-known.ensures.value in
    let m = c.count.ensures.value in
    more_written (omega arith) (then_written (none_written _ _ c.test_pair.ensures.same) (then_written
    (name_written _ _ _ _ _ c.in_ok-label.ensures.names (λ k. (c.intern.ensures.known k).1) c.intern.ensures.writes) (then_written
    (name_written _ _ _ _ _ c.in_ok-key.ensures.names (λ k. (c.intern-2.ensures.known k).1) c.intern-2.ensures.writes)
    (index_written (13 + c.in_ok-count.count) _ _ c.in_ok-count.ensures.written))))

pub returns-clause-onward : goal.returns-clause-onward
returns-clause-onward g c = gone_on g (goal.at.returns-clause-onward g c).After-make

pub returns-clause-cause : goal.returns-clause-cause
returns-clause-cause g c = record {
  later = later_on (later g (goal.at.returns-clause-cause g c).After-make) c.in_ok-count.ensures.cause.later;
  disk = λ blamed. absurd cc;
}

pub returns-in_err-test_pair-clause-made : goal.returns-in_err-test_pair-clause-made
returns-in_err-test_pair-clause-made g c _ = never_ok c.from_residual.result _ _ c.from_residual.ensures.1

pub returns-in_err-test_pair-clause-light : goal.returns-in_err-test_pair-clause-light
returns-in_err-test_pair-clause-light g c = never_ok c.from_residual.result _ _ c.from_residual.ensures.1

pub returns-in_err-test_pair-clause-writes : goal.returns-in_err-test_pair-clause-writes
returns-in_err-test_pair-clause-writes g c = never_ok c.from_residual.result _ _ c.from_residual.ensures.1

pub returns-in_err-test_pair-clause-onward : goal.returns-in_err-test_pair-clause-onward
returns-in_err-test_pair-clause-onward g c = search rules

pub returns-in_err-label-clause-made : goal.returns-in_err-label-clause-made
returns-in_err-label-clause-made g c _ = never_ok c.from_residual-in_err-label.result _ _ c.from_residual-in_err-label.ensures.1

pub returns-in_err-label-clause-light : goal.returns-in_err-label-clause-light
returns-in_err-label-clause-light g c = never_ok c.from_residual-in_err-label.result _ _ c.from_residual-in_err-label.ensures.1

pub returns-in_err-label-clause-writes : goal.returns-in_err-label-clause-writes
returns-in_err-label-clause-writes g c = never_ok c.from_residual-in_err-label.result _ _ c.from_residual-in_err-label.ensures.1

pub returns-in_err-key-clause-made : goal.returns-in_err-key-clause-made
returns-in_err-key-clause-made g c _ = never_ok c.from_residual-in_err-key.result _ _ c.from_residual-in_err-key.ensures.1

pub returns-in_err-key-clause-light : goal.returns-in_err-key-clause-light
returns-in_err-key-clause-light g c = never_ok c.from_residual-in_err-key.result _ _ c.from_residual-in_err-key.ensures.1

pub returns-in_err-key-clause-writes : goal.returns-in_err-key-clause-writes
returns-in_err-key-clause-writes g c = never_ok c.from_residual-in_err-key.result _ _ c.from_residual-in_err-key.ensures.1

pub returns-in_err-count-clause-made : goal.returns-in_err-count-clause-made
returns-in_err-count-clause-made g c _ = never_ok c.from_residual-in_err-count.result _ _ c.from_residual-in_err-count.ensures.1

pub returns-in_err-count-clause-light : goal.returns-in_err-count-clause-light
returns-in_err-count-clause-light g c = never_ok c.from_residual-in_err-count.result _ _ c.from_residual-in_err-count.ensures.1

pub returns-in_err-count-clause-writes : goal.returns-in_err-count-clause-writes
returns-in_err-count-clause-writes g c = never_ok c.from_residual-in_err-count.result _ _ c.from_residual-in_err-count.ensures.1

-- ---- a definition stands

pub returns-clause-stands : goal.returns-clause-stands
returns-clause-stands g c tells =
    let named = named_for g (goal.at.returns-clause-stands g c).After-make tells in
    let pair = c.in_ok-count.ensures.stands tells in
    let now = c.intern-2.new.self.names in (
      pair.0,
      pair.1,
      subst (λ n. slice_get now n ≡ Some c.args.label.now) (sym pair.2) named.label_at,
      subst (λ n. slice_get now n ≡ Some c.args.key.now) (sym pair.3) named.key_at,
    )

pub returns-in_err-test_pair-clause-stands : goal.returns-in_err-test_pair-clause-stands
returns-in_err-test_pair-clause-stands g c _ = never_ok c.from_residual.result _ _ c.from_residual.ensures.1

pub returns-in_err-label-clause-stands : goal.returns-in_err-label-clause-stands
returns-in_err-label-clause-stands g c _ = never_ok c.from_residual-in_err-label.result _ _ c.from_residual-in_err-label.ensures.1

pub returns-in_err-key-clause-stands : goal.returns-in_err-key-clause-stands
returns-in_err-key-clause-stands g c _ = never_ok c.from_residual-in_err-key.result _ _ c.from_residual-in_err-key.ensures.1

pub returns-in_err-count-clause-stands : goal.returns-in_err-count-clause-stands
returns-in_err-count-clause-stands g c _ = never_ok c.from_residual-in_err-count.result _ _ c.from_residual-in_err-count.ensures.1
