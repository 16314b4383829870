use Rattle.std.specs.FinMap as maps
use Rattle.std.proofs.Common.{◌≡◌, ◌+◌, ◌<◌, ℕ, true, ⊎_elim, None, Some, List, [], get_or, length, ◌∙◌, sym, ap, subst, inl, arith, refl}
use Rattle.std.proofs.lemmas.List.{get_or_read, take_all}
use Rattle.std.proofs.lemmas.List.Sums.{get_or-le-sum_by, sum_by-take-le, sum_by_more}
use Rattle.plain_graph.specs.Properties.{blocks_of}
use Rattle.plain_graph.specs.declared.pairs.Pair.{Pair}
use Rattle.plain_graph.specs.declared.value.Value.TheVariants as values
use Rattle.plain_graph.specs.declared.command.Target.TheVariants as targets
use Rattle.rec_bytes.specs.Format as format
use Rattle.store_rules.specs.IndexChange.{ChangesValue}
use Rattle.store_rules.specs.Indexes.{wanted_in}
use Rattle.store_rules.specs.Properties.{Property}
use Rattle.prop_store.specs.Alone.{IsKnownKey, LacksKey, OwnsProperties, SetsAlone}
use Rattle.prop_store.specs.Owner.{IsOwner}
use Rattle.prop_store.proofs.LeftElements.{left_then}
use Rattle.prop_store.proofs.ElementGraphs.{count_is, lacks_key, listed_at, owns_listed}
use Rattle.change_parts.specs.GivenValues.{with_assigned}
use Rattle.change_parts.specs.Owners.{owner_of}
use Rattle.change_parts.proofs.GivenValues.{more_given, none_given}
use Rattle.change_parts.proofs.KeptIndexes.{properties_keep}
use Rattle.prop_store.specs.Changing.{HasKey, IsSetRefusal, SetsValue, properties_of, text_at}
use Rattle.prop_store.specs.declared.owner.Owner.{Owner}
use Rattle.rec_bytes.specs.RecordFiles.{is_meta_file}
use Rattle.change_parts.specs.Assigning.{IsPutCause, assigned_blocks, pair_at, pairs_of}
use Rattle.change_parts.specs.ChangeFault.{IsOutside, MayComeLate, of_set}
use Rattle.change_parts.specs.declared.assigning.Assignment.{Assignment}
use Rattle.change_parts.proofs.Assigned.{pair_form}
use Rattle.change_parts.proofs.IndexesLeft.{properties_leave}
use Rattle.change_parts.proofs.Exits.{fault_exit, set_late}
use Rattle.change_parts.proofs.PairsPut.{added_value, all_put, index_kept, key_fits, key_new, key_there, label_at, label_kept, none_put, put_more, put_outside}
use Rattle.store_rules.proofs.WriteLaws.{beside_more, beside_then, beside_written, more_written, then_written, this_written}
use Rattle.change_parts.proofs.Writes.{on_any_err, touched_written}
use Rattle.change_parts.proofs.Causes.{add_caused, set_blamed}
use Rattle.change_parts.specs.Damage.{BlamesBroken, IfBlames, IsOfLists}
use Rattle.change_parts.proofs.Adding.{no_lists_harmed, no_lists_then, value_lists}
use Rattle.change_parts.proofs.DiskCauses.{set_cause_passed}
use Rattle.rec_bytes.proofs.Causes.{never_ok, ok_cause}
use Rattle.change_parts.proofs.assigning.put_properties.Goals as goal
use Rattle.change_parts.proofs.assigning.put_properties.Goals.{After-index-pairs-assignment}
use Rattle.change_parts.proofs.assigning.put_properties.Given.{Over}

pub loop-assignment-init : goal.loop-assignment-init
loop-assignment-init g c =
    let s = g.S.Reads.state c.args.space.now in
    record {
      put = λ tells names target is can. none_put s names target (pairs_of names c.args.pairs.now c.args.assigned.now) can.store;
      values = λ tells names id is can e. none_given (wanted_in s.records) (label_at s.records id) id c.args.pairs.now e;
      indexes = λ tells names id is can are. are;
      shape = λ tells. refl;
      harmless = λ tells. no_lists_harmed s;
      beside = λ tells damage of. refl;
      leaves = λ tells. record { others = λ key a b c d ne. refl; own = λ n at fits apart. refl };
      writes = this_written c.args.owner.key s s [] (λ q i. absurd i) (record { each = λ q w. inl w });
      onward_is = g.met.S.Reads.stays_onward c.args.space.now;
      later = omega arith;
    }

-- the assignment at the place
abbrev this : (g : Over) → After-index-pairs-assignment g → Assignment
this g c = get_or c.args.assigned.now c.loop-assignment.assignment-index (record { key = 0; pair = 0 })

inside : (g : Over) (c : After-index-pairs-assignment g) → (this g c).pair < length c.args.pairs.now
inside g c = c.requires.placed c.loop-assignment.assignment-index (record { key = 0; pair = 0 }) c.loop-assignment-test.true

-- its value is that of its pair
value_is : (g : Over) (c : After-index-pairs-assignment g) → (get_or c.args.pairs.now (this g c).pair c.index-pairs-assignment.result).value
    ≡ (pair_at c.args.pairs.now (this g c).pair).value
value_is g c = ap (λ (p : Pair). p.value) (sym c.index-pairs-assignment.is ∙ get_or_read c.args.pairs.now (this g c).pair c.index-pairs-assignment.result
    (inside g c) c.index-pairs-assignment.is (record { key = []; value = values.Text [] }))

pub add-requires-clause-kept : goal.add-requires-clause-kept
add-requires-clause-kept g c = (pair_form c.args.pairs.now (this g c).pair c.index-pairs-assignment.result c.requires.pairs (inside g c)).1

pub loop-assignment-preserved : goal.loop-assignment-preserved
loop-assignment-preserved g c =
    let inv = c.loop-assignment.invariant in
    let at = (goal.at.loop-assignment-preserved g c).After-index-pairs-assignment in
    let s = g.S.Reads.state c.args.space.now in
    let t = g.S.Reads.state c.loop-assignment.space in
    let u = g.S.Reads.state c.add.new.space in
    let pairs = c.args.pairs.now in
    let assigned = c.args.assigned.now in
    let i = c.loop-assignment.assignment-index in
    let value = (get_or pairs (get_or assigned i (record { key = 0; pair = 0 })).pair c.index-pairs-assignment.result).value in
    record {
      put = λ tells names target is can.
          let put = inv.put tells names target is can in
          let lt = c.loop-assignment-test.true in
          let shape = inv.shape tells in
          let added = subst (λ (o : Owner). HasKey t o (this g at).key → maps.get (properties_of t o) (text_at t (this g at).key) ≡ None → maps.len
          (properties_of t o) < 32 → SetsValue t u o (this g at).key value 0) is (c.in_ok-add.ensures.added tells) in
          put_more s t names target pairs assigned i can c.requires.few put lt shape u value (value_is g at)
          (added (key_there s t names target pairs assigned i can c.requires.few put lt shape) (key_new s t names target pairs assigned i can c.requires.few put
          lt shape) (key_fits s t names target pairs assigned i can c.requires.few put lt shape));
      values = λ tells names id is can.
          let target = targets.Node id in
          let put = inv.put tells names target is can in
          let lt = c.loop-assignment-test.true in
          let shape = inv.shape tells in
          let owned = subst IsOwner is c.requires.owner in
          let there = key_there s t names target pairs assigned i can c.requires.few put lt shape in
          let none = key_new s t names target pairs assigned i can c.requires.few put lt shape in
          let has = there.element in
          let alone = subst (λ (o : Owner). (es : List Property) → OwnsProperties t o es → IsKnownKey t (this g at).key → LacksKey es (this g at).key
          → length es < 32 → SetsAlone t u o es (this g at).key value 0) is (c.in_ok-add.ensures.owned tells) in
          let es = listed_at t (owner_of target) owned has in
          let few = key_fits s t names target pairs assigned i can c.requires.few put lt shape in
          let count = count_is t (owner_of target) owned has in
          let sets = alone es (owns_listed t (owner_of target) owned has) there.known (lacks_key t (owner_of target) owned has (this g at).key none)
          (omega arith) in
          more_given t.records u.records (wanted_in s.records) (label_at s.records id) id pairs assigned i (record { key = 0; pair = 0 }) value lt
          (value_is g at)
          (subst (λ l. ChangesValue t.records u.records l (this g at).key id None (Some value)) (label_kept s.records t.records id put.keeps)
          (added_value t u id (this g at).key value owned there none sets))
          (inv.values tells names id is can);
      indexes = λ tells names id is can.
          let target = targets.Edge id in
          let put = inv.put tells names target is can in
          let lt = c.loop-assignment-test.true in
          let shape = inv.shape tells in
          let added = subst (λ (o : Owner). HasKey t o (this g at).key → maps.get (properties_of t o) (text_at t (this g at).key) ≡ None → maps.len
          (properties_of t o) < 32 → SetsValue t u o (this g at).key value 0) is (c.in_ok-add.ensures.added tells) in
          let sets = added (key_there s t names target pairs assigned i can c.requires.few put lt shape)
          (key_new s t names target pairs assigned i can c.requires.few put lt shape)
          (key_fits s t names target pairs assigned i can c.requires.few put lt shape) in
          λ are. properties_keep t u t.shape format.relationships_file id sets.changes.before sets.changes.after sets.changes.changes refl put.store.store
          (inv.indexes tells names id is can are);
      shape = λ tells. (g.met.S.Reads.onward_shape _ _ c.add.ensures.onward) ∙ inv.shape tells;
      harmless = λ tells. no_lists_then s t u (inv.harmless tells) (c.in_ok-add.ensures.harmless tells);
      beside = λ tells damage of. properties_leave g.S.Reads.tells _ _ t u c.args.owner c.requires.owner.file tells c.add.ensures.touches damage of
          ∙ inv.beside tells damage of;
      leaves = λ tells. left_then s t u c.args.owner (inv.leaves tells) (c.in_ok-add.ensures.leaves tells);
      writes =
          let more = sum_by_more (λ (a : Assignment). blocks_of (pair_at pairs a.pair).value) assigned i (record { key = 0; pair = 0 })
          c.loop-assignment-test.true in
          let same = ap blocks_of (value_is g at) in
          beside_more (omega arith) (beside_then inv.writes c.in_ok-add.ensures.writes);
      onward_is = g.met.S.Reads.further_onward c.args.space.now c.loop-assignment.space c.add.new.space inv.onward_is c.add.ensures.onward;
      later = let a = inv.later in let b = c.add.ensures.cause.later in omega arith;
    }

pub returns-in_err-add-clause-not_damaged : goal.returns-in_err-add-clause-not_damaged
returns-in_err-add-clause-not_damaged g c tells names target is can room =
    let inv = c.loop-assignment.invariant in
    let at = (goal.at.returns-in_err-add-clause-not_damaged g c).After-index-pairs-assignment in
    let s = g.S.Reads.state c.args.space.now in
    let t = g.S.Reads.state c.loop-assignment.space in
    let pairs = c.args.pairs.now in
    let assigned = c.args.assigned.now in
    let i = c.loop-assignment.assignment-index in
    let value = (get_or pairs (get_or assigned i (record { key = 0; pair = 0 })).pair c.index-pairs-assignment.result).value in
    let fault = c.in_err-add.field-0.0 in
    let put = inv.put tells names target is can in
    let lt = c.loop-assignment-test.true in
    let shape = inv.shape tells in
    let refused = subst (λ (o : Owner). HasKey t o (this g at).key → maps.get (properties_of t o) (text_at t (this g at).key) ≡ None → maps.len
    (properties_of t o) < 32 → IsSetRefusal t o (this g at).key value fault) is (c.in_err-add.ensures.refused tells) in
    fault_exit of_set IsOutside fault c.from_residual.result c.from_residual.ensures.1
    (put_outside s t names target pairs assigned i can c.requires.few put lt shape room value (value_is g at) fault
    (refused (key_there s t names target pairs assigned i can c.requires.few put lt shape) (key_new s t names target pairs assigned i can c.requires.few put lt
    shape) (key_fits s t names target pairs assigned i can c.requires.few put lt shape)))

pub returns-clause-put : goal.returns-clause-put
returns-clause-put g c tells names target is can =
    all_put (g.S.Reads.state c.args.space.now) (g.S.Reads.state c.loop-assignment.space) names target c.args.pairs.now c.args.assigned.now
    c.loop-assignment.assignment-index c.loop-assignment-test.false (c.loop-assignment.invariant.put tells names target is can)

pub returns-clause-values : goal.returns-clause-values
returns-clause-values g c tells names id is can =
    let s = g.S.Reads.state c.args.space.now in
    let t = g.S.Reads.state c.loop-assignment.space in
    let assigned = c.args.assigned.now in
    let i = c.loop-assignment.assignment-index in
    let put = c.loop-assignment.invariant.put tells names (targets.Node id) is can in
    record {
      file = index_kept s.records t.records (targets.Node id) put.keeps;
      values = λ e. c.loop-assignment.invariant.values tells names id is can e
          ∙ ap (λ (l : List Assignment). with_assigned (wanted_in s.records) (label_at s.records id) id c.args.pairs.now l e)
          (take_all i assigned c.loop-assignment-test.false);
    }

pub returns-clause-indexes : goal.returns-clause-indexes
returns-clause-indexes g c tells names id is can = c.loop-assignment.invariant.indexes tells names id is can

pub returns-in_err-add-clause-may_come_late : goal.returns-in_err-add-clause-may_come_late
returns-in_err-add-clause-may_come_late g c tells = fault_exit of_set MayComeLate c.in_err-add.field-0.0 c.from_residual.result c.from_residual.ensures.1
    (set_late _ _ _ (g.S.Reads.state c.add.new.space) c.in_err-add.field-0.0 (c.in_err-add.ensures.caused tells))

pub returns-in_err-add-clause-err_writes : goal.returns-in_err-add-clause-err_writes
returns-in_err-add-clause-err_writes g c =
    let at = (goal.at.returns-in_err-add-clause-err_writes g c).After-index-pairs-assignment in
    let assigned = c.args.assigned.now in
    let i = c.loop-assignment.assignment-index in
    let blocks : Assignment → ℕ = λ a. blocks_of (pair_at c.args.pairs.now a.pair).value in
    let own : is_meta_file c.args.owner.key.file ≡ true = ⊎_elim (λ e. ap is_meta_file e) (λ e. ap is_meta_file e) c.requires.owner.file in
    let lt = c.loop-assignment-test.true in
    let more = sum_by_more blocks assigned i (record { key = 0; pair = 0 }) lt in
    let part = sum_by-take-le blocks assigned (i + 1) in
    let same = ap blocks_of (value_is g at) in
    on_any_err _ _ (more_written (omega arith) (then_written (beside_written own c.loop-assignment.invariant.writes)
    (touched_written own c.add.ensures.touches)))

pub returns-in_err-add-clause-caused : goal.returns-in_err-add-clause-caused
returns-in_err-add-clause-caused g c tells =
    let at = (goal.at.returns-in_err-add-clause-caused g c).After-index-pairs-assignment in
    let t = g.S.Reads.state c.add.new.space in
    let assigned = c.args.assigned.now in
    let i = c.loop-assignment.assignment-index in
    let blocks : Assignment → ℕ = λ a. blocks_of (pair_at c.args.pairs.now a.pair).value in
    let lt = c.loop-assignment-test.true in
    let part = get_or-le-sum_by blocks assigned i (record { key = 0; pair = 0 }) lt in
    let same = ap blocks_of (value_is g at) in
    fault_exit of_set (IsPutCause t (length assigned) (assigned_blocks c.args.pairs.now assigned)) c.in_err-add.field-0.0 c.from_residual.result
    c.from_residual.ensures.1
    (add_caused _ t (length assigned) (assigned_blocks c.args.pairs.now assigned) _ (omega arith) (omega arith) c.in_err-add.field-0.0
    (c.in_err-add.ensures.caused tells))

pub returns-in_err-add-clause-damaged : goal.returns-in_err-add-clause-damaged
returns-in_err-add-clause-damaged g c tells =
    let s = g.S.Reads.state c.args.space.now in
    let t = g.S.Reads.state c.loop-assignment.space in
    fault_exit of_set (IfBlames (IsOfLists s)) c.in_err-add.field-0.0 c.from_residual.result c.from_residual.ensures.1
    (value_lists s t (c.loop-assignment.invariant.harmless tells) c.in_err-add.field-0.0 (c.in_err-add.ensures.lists tells))

pub returns-in_err-add-clause-cause : goal.returns-in_err-add-clause-cause
returns-in_err-add-clause-cause g c =
    set_cause_passed _ _ _ c.from_residual.result c.in_err-add.field-0.0 c.loop-assignment.invariant.later c.in_err-add.ensures.cause c.from_residual.ensures.1

pub returns-in_err-add-clause-damaged_after : goal.returns-in_err-add-clause-damaged_after
returns-in_err-add-clause-damaged_after g c tells =
    let t = g.S.Reads.state c.add.new.space in
    fault_exit of_set (BlamesBroken t) c.in_err-add.field-0.0 c.from_residual.result c.from_residual.ensures.1
    (set_blamed t c.in_err-add.field-0.0 (c.in_err-add.ensures.damaged_after tells))

pub returns-in_err-add-clause-put : goal.returns-in_err-add-clause-put
returns-in_err-add-clause-put g c _ = never_ok c.from_residual.result _ _ c.from_residual.ensures.1

pub returns-in_err-add-clause-values : goal.returns-in_err-add-clause-values
returns-in_err-add-clause-values g c _ = never_ok c.from_residual.result _ _ c.from_residual.ensures.1

pub returns-in_err-add-clause-indexes : goal.returns-in_err-add-clause-indexes
returns-in_err-add-clause-indexes g c _ = never_ok c.from_residual.result _ _ c.from_residual.ensures.1

pub returns-in_err-add-clause-writes : goal.returns-in_err-add-clause-writes
returns-in_err-add-clause-writes g c = never_ok c.from_residual.result _ _ c.from_residual.ensures.1

pub returns-clause-cause : goal.returns-clause-cause
returns-clause-cause g c = ok_cause _ _ _ _ c.loop-assignment.invariant.later

-- ---- which records are other

pub returns-clause-leaves : goal.returns-clause-leaves
returns-clause-leaves g c tells = c.loop-assignment.invariant.leaves tells

pub returns-in_err-add-clause-leaves : goal.returns-in_err-add-clause-leaves
returns-in_err-add-clause-leaves g c _ = never_ok c.from_residual.result _ _ c.from_residual.ensures.1
