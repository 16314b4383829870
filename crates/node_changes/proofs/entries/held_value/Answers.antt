use Rattle.std.proofs.Common.{None, Some, sym, ap, ◌∙◌, subst, arith, rules}
use Rattle.prop_store.proofs.ReadCounts.{reads_same}
use Rattle.prop_store.specs.Finding.{value_of}
use Rattle.prop_store.specs.Owner.{HasProperties}
use Rattle.prop_store.specs.Reading.{properties_met}
use Rattle.prop_store.specs.declared.owner.Owner.{Owner}
use Rattle.change_parts.specs.ChangeFault.{IsOutside, of_fault}
use Rattle.node_changes.proofs.EntriesGone.{owner_known}
use Rattle.node_changes.proofs.EntriesHeld.{held_met}
use Rattle.change_parts.proofs.Exits.{fault_exit, fault_outside}
use Rattle.rec_bytes.proofs.Causes.{never_ok, ok_cause}
use Rattle.node_changes.proofs.entries.held_value.Goals as goal

pub returns-in_err-value-clause-not_damaged : goal.returns-in_err-value-clause-not_damaged
returns-in_err-value-clause-not_damaged g c tells store used =
    let s = g.R.Reads.state c.args.space.now in
    let known = owner_known s c.args.node store used in
    fault_exit of_fault IsOutside c.in_err-value.field-0.0 c.from_residual.result c.from_residual.ensures.1
    (fault_outside Unit c.in_err-value.field-0.0 (c.in_err-value.ensures.not_damaged tells known.0 (subst (λ (o : Owner). HasProperties s.records o known.0)
    (sym c.node_owner.ensures) known.1)))

pub returns-in_err-value-clause-same : goal.returns-in_err-value-clause-same
returns-in_err-value-clause-same g c = reads_same 55 _ _ c.read_key.ensures.at_most

pub returns-in_default-clause-held : goal.returns-in_default-clause-held
returns-in_default-clause-held g c tells used is =
    let s = g.R.Reads.state c.args.space.now in
    let none = sym (ap (λ (o : Owner). value_of (properties_met s.records o) c.args.pair.key) c.node_owner.ensures) ∙ sym (c.in_ok-value.ensures.met tells)
    ∙ c.in_default.is in
    sym (held_met s.records c.args.label c.args.node c.args.pair (omega (arith, c.if-pair-label.false)) used is None none)

pub returns-in_default-clause-same : goal.returns-in_default-clause-same
returns-in_default-clause-same g c = reads_same 55 _ _ c.read_key.ensures.at_most

pub returns-clause-held : goal.returns-clause-held
returns-clause-held g c tells used is =
    let s = g.R.Reads.state c.args.space.now in
    let some = sym (ap (λ (o : Owner). value_of (properties_met s.records o) c.args.pair.key) c.node_owner.ensures) ∙ sym (c.in_ok-value.ensures.met tells)
    ∙ c.in-Some.is in
    sym (held_met s.records c.args.label c.args.node c.args.pair (omega (arith, c.if-pair-label.false)) used is (Some c.in-Some.value) some)

pub returns-clause-same : goal.returns-clause-same
returns-clause-same g c = reads_same 55 _ _ c.read_key.ensures.at_most

pub returns-in_err-value-clause-held : goal.returns-in_err-value-clause-held
returns-in_err-value-clause-held g c _ _ _ = never_ok c.from_residual.result _ _ c.from_residual.ensures.1

pub returns-in_err-value-clause-onward : goal.returns-in_err-value-clause-onward
returns-in_err-value-clause-onward g c = search rules

pub returns-in_default-clause-cause : goal.returns-in_default-clause-cause
returns-in_default-clause-cause g c = ok_cause _ _ _ _ c.in_ok-value.ensures.cause.later

pub returns-clause-cause : goal.returns-clause-cause
returns-clause-cause g c = ok_cause _ _ _ _ c.in_ok-value.ensures.cause.later
