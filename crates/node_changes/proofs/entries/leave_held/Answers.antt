use Rattle.std.specs.Prelude.{Option}
use Rattle.std.proofs.Common.{◌≡◌, true, ap, ◌∙◌, refl, sym, subst, arith, rules}
use Rattle.plain_graph.specs.declared.value.Value.{Value}
use Rattle.prop_index.proofs.LinkRules.{free_list, store_takes}
use Rattle.prop_index.specs.Entering.{entry_of}
use Rattle.store_rules.specs.Hashes.{hash_of}
use Rattle.store_rules.specs.IndexChange.{without_value}
use Rattle.store_rules.specs.Indexes.{AreIndexed, has_hash}
use Rattle.store_rules.proofs.NumberLaws.{eq_true}
use Rattle.change_parts.specs.ChangeFault.{IsOutside, of_fault}
use Rattle.change_parts.specs.Damage.{BlamesEntry, BlamesUntouched, IfBlames}
use Rattle.prop_index.specs.Naming.{IsDefinitionOrList}
use Rattle.prop_index.proofs.Sparing.{spares_none}
use Rattle.node_changes.proofs.EntriesNamed.{fault_named}
use Rattle.node_changes.specs.Entries.{value_weight}
use Rattle.node_changes.proofs.EntriesFaults.{fault_blames, fault_untouched}
use Rattle.node_changes.proofs.EntriesHeld.{definition_of, no_definition, some_live}
use Rattle.change_parts.proofs.Exits.{fault_exit, fault_outside}
use Rattle.rec_bytes.proofs.Causes.{never_ok, ok_cause}
use Rattle.node_changes.proofs.entries.leave_held.Goals as goal

pub returns-in_err-leave-clause-not_damaged : goal.returns-in_err-leave-clause-not_damaged
returns-in_err-leave-clause-not_damaged g c tells wanted ix store =
    let s = g.S.Reads.state c.args.space.now in
    fault_exit of_fault IsOutside c.in_err-leave.field-0.0 c.from_residual.result c.from_residual.ensures.1
    (fault_outside Unit c.in_err-leave.field-0.0 (c.in_err-leave.ensures.not_damaged tells wanted (free_list s store).0 ix (store_takes s store)))

pub returns-clause-left : goal.returns-clause-left
returns-clause-left g c tells wanted ix store =
    let s = g.S.Reads.state c.args.space.now in
    let t = g.S.Reads.state c.leave.new.space in
    let held = c.args.held.now in
    subst (λ (v : Option Value). AreIndexed t.records (without_value wanted held.label held.key held.node v)) (sym c.in-Some.is)
    (c.in_ok-leave.ensures.left tells wanted (free_list s store).0 ix (store_takes s store))

pub returns-clause-graph : goal.returns-clause-graph
returns-clause-graph g c tells wanted ix store =
    let s = g.S.Reads.state c.args.space.now in
    c.in_ok-leave.ensures.graph tells wanted (free_list s store).0 ix (store_takes s store)

pub returns-clause-gone : goal.returns-clause-gone
returns-clause-gone g c tells wanted ix store wants listed some =
    let s = g.S.Reads.state c.args.space.now in
    let held = c.args.held.now in
    let v = c.in-Some.value in
    let there : wanted (entry_of held.label held.key held.node v) ≡ true
    = wants (hash_of v) ∙ ap (has_hash (hash_of v)) c.in-Some.is ∙ eq_true (hash_of v) (hash_of v) refl in
    let of = definition_of s.records ix.definitions held.label held.key listed in
    some_live s wanted ix store of.0 of.1.0 _ (c.in_ok-leave.ensures.gone tells wanted ix of.0 of.1.0 of.1.1 there)

pub returns-in_default-clause-gone : goal.returns-in_default-clause-gone
returns-in_default-clause-gone g c tells wanted ix store wants listed some = let none = ap value_weight c.in_default.is in absurd (omega (arith, none, some))

pub returns-clause-calm : goal.returns-clause-calm
returns-clause-calm g c none = let some = ap value_weight c.in-Some.is in absurd (omega (arith, none, some))

pub returns-in_err-leave-clause-calm : goal.returns-in_err-leave-clause-calm
returns-in_err-leave-clause-calm g c none = let some = ap value_weight c.in-Some.is in absurd (omega (arith, none, some))

pub returns-in_err-leave-clause-blames : goal.returns-in_err-leave-clause-blames
returns-in_err-leave-clause-blames g c tells =
    let t = g.S.Reads.state c.leave.new.space in
    fault_exit of_fault (BlamesEntry t) c.in_err-leave.field-0.0 c.from_residual.result c.from_residual.ensures.1
    (fault_blames t c.in_err-leave.field-0.0 (c.in_err-leave.ensures.damaged_after tells) (c.in_err-leave.ensures.names tells))

pub returns-in_err-leave-clause-untouched : goal.returns-in_err-leave-clause-untouched
returns-in_err-leave-clause-untouched g c tells =
    let s = g.S.Reads.state c.args.space.now in
    let t = g.S.Reads.state c.leave.new.space in
    fault_exit of_fault (BlamesUntouched s t) c.in_err-leave.field-0.0 c.from_residual.result c.from_residual.ensures.1
    (fault_untouched s t c.in_err-leave.field-0.0 c.in_err-leave.ensures.unwritten)

pub returns-clause-unlisted : goal.returns-clause-unlisted
returns-clause-unlisted g c tells wanted ix none =
    let s = g.S.Reads.state c.args.space.now in
    let held = c.args.held.now in
    c.in_ok-leave.ensures.unlisted tells wanted ix (no_definition s.records ix.definitions held.label held.key none)

pub returns-in_err-leave-clause-left : goal.returns-in_err-leave-clause-left
returns-in_err-leave-clause-left g c _ _ _ _ = never_ok c.from_residual.result _ _ c.from_residual.ensures.1

pub returns-in_err-leave-clause-keeps : goal.returns-in_err-leave-clause-keeps
returns-in_err-leave-clause-keeps g c _ _ _ _ = never_ok c.from_residual.result _ _ c.from_residual.ensures.1

pub returns-in_err-leave-clause-weight : goal.returns-in_err-leave-clause-weight
returns-in_err-leave-clause-weight g c = never_ok c.from_residual.result _ _ c.from_residual.ensures.1

pub returns-in_err-leave-clause-few : goal.returns-in_err-leave-clause-few
returns-in_err-leave-clause-few g c = never_ok c.from_residual.result _ _ c.from_residual.ensures.1

pub returns-in_err-leave-clause-touches : goal.returns-in_err-leave-clause-touches
returns-in_err-leave-clause-touches g c = never_ok c.from_residual.result _ _ c.from_residual.ensures.1

pub returns-in_err-leave-clause-graph : goal.returns-in_err-leave-clause-graph
returns-in_err-leave-clause-graph g c _ _ _ _ = never_ok c.from_residual.result _ _ c.from_residual.ensures.1

pub returns-in_err-leave-clause-unlisted : goal.returns-in_err-leave-clause-unlisted
returns-in_err-leave-clause-unlisted g c _ _ _ _ = never_ok c.from_residual.result _ _ c.from_residual.ensures.1

pub returns-in_err-leave-clause-gone : goal.returns-in_err-leave-clause-gone
returns-in_err-leave-clause-gone g c _ _ _ _ _ _ _ = never_ok c.from_residual.result _ _ c.from_residual.ensures.1

pub returns-in_err-leave-clause-onward : goal.returns-in_err-leave-clause-onward
returns-in_err-leave-clause-onward g c = search rules

pub returns-clause-cause : goal.returns-clause-cause
returns-clause-cause g c = ok_cause _ _ _ _ c.in_ok-leave.ensures.cause.later

pub returns-in_err-leave-clause-named : goal.returns-in_err-leave-clause-named
returns-in_err-leave-clause-named g c tells has =
    let s = g.S.Reads.state c.args.space.now in
    fault_exit of_fault (IfBlames (IsDefinitionOrList s)) c.in_err-leave.field-0.0 c.from_residual.result c.from_residual.ensures.1
    (fault_named s c.in_err-leave.field-0.0 (c.in_err-leave.ensures.listed tells has.members has.list))

pub returns-in_err-leave-clause-spares : goal.returns-in_err-leave-clause-spares
returns-in_err-leave-clause-spares g c _ = never_ok c.from_residual.result _ _ c.from_residual.ensures.1

pub returns-in_default-clause-spares : goal.returns-in_default-clause-spares
returns-in_default-clause-spares g c tells = spares_none _ _ refl
