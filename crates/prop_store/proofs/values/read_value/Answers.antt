use Rattle.std.proofs.Common.{arith, ap, ◌∙◌, ◌≡◌, ◌≤◌, ℕ, List, Some, length, subst, rules}
use Rattle.rec_bytes.specs.Format.{property_text}
use Rattle.rec_bytes.proofs.Texts.{length-text_in}
use Rattle.prop_store.specs.Form.{FormFits}
use Rattle.prop_store.specs.Blocks.{IsTextFault}
use Rattle.prop_store.proofs.Breaches.{text_of_row}
use Rattle.prop_store.proofs.Exits.{same_has}
use Rattle.prop_store.proofs.ReadCounts.{reads_none}
use Rattle.rec_bytes.proofs.Causes.{never_ok, ok_cause}
use Rattle.std.specs.Prelude.{IfSome}
use Rattle.rec_bytes.specs.Fault.{damage_of}
use Rattle.rec_bytes.specs.Format.{strings_file}
use Rattle.rec_bytes.specs.declared.fault.Fault.TheVariants as faults
use Rattle.store_rules.specs.Views.{rec_at}
use Rattle.prop_store.specs.declared.form.Form.TheVariants as forms
use Rattle.prop_store.proofs.Causes.{cause_passed, memory_cause}
use Rattle.prop_store.proofs.Meanings.{means}
use Rattle.prop_store.proofs.values.read_value.Goals as goal

pub returns-in_err-bytes-in-Inline-clause-at_most : goal.returns-in_err-bytes-in-Inline-clause-at_most
returns-in_err-bytes-in-Inline-clause-at_most g c = reads_none 22 _

pub returns-in-Number-clause-reads : goal.returns-in-Number-clause-reads
returns-in-Number-clause-reads g c = reads_none 0 _

pub returns-in-Number-clause-at_most : goal.returns-in-Number-clause-at_most
returns-in-Number-clause-at_most g c = reads_none 22 _

pub returns-in-Truth-clause-reads : goal.returns-in-Truth-clause-reads
returns-in-Truth-clause-reads g c = reads_none 0 _

pub returns-in-Truth-clause-at_most : goal.returns-in-Truth-clause-at_most
returns-in-Truth-clause-at_most g c = reads_none 22 _

pub returns-in_ok-bytes-in-Inline-clause-reads : goal.returns-in_ok-bytes-in-Inline-clause-reads
returns-in_ok-bytes-in-Inline-clause-reads g c = reads_none _ _

pub returns-in_ok-bytes-in-Inline-clause-at_most : goal.returns-in_ok-bytes-in-Inline-clause-at_most
returns-in_ok-bytes-in-Inline-clause-at_most g c = reads_none 22 _

pub returns-in_ok-bytes-in-Inline-clause-kept : goal.returns-in_ok-bytes-in-Inline-clause-kept
returns-in_ok-bytes-in-Inline-clause-kept g c =
    let size = c.in-Inline.size in
    let few : size ≤ 40 = subst (λ f. FormFits (Some f)) c.in-Inline.is c.requires.fits in
    let long : length c.new.result ≡ size = ap (λ (z : List ℕ). length z) (c.new.ensures ∙ c.in_ok-bytes-in-Inline.ensures.items ∙ c.text.ensures)
    ∙ length-text_in c.args.row.now.rec property_text size (omega arith) in
    omega arith

pub returns-in_err-bytes-in-Long-clause-damaged : goal.returns-in_err-bytes-in-Long-clause-damaged
returns-in_err-bytes-in-Long-clause-damaged g c tells read =
    let old = g.R.Reads.state c.args.space.now in
    same_has (IsTextFault old c.args.row.now.id) c.from_residual-in_err-bytes-in-Long.result c.in_err-bytes-in-Long.field-0.0
    c.from_residual-in_err-bytes-in-Long.ensures.1
    (c.in_err-bytes-in-Long.ensures.damaged tells (text_of_row old.records c.args.row.now c.in-Long.size c.in-Long.first c.requires.form_is c.in-Long.is read))

pub returns-in_err-bytes-in-Inline-clause-met : goal.returns-in_err-bytes-in-Inline-clause-met
returns-in_err-bytes-in-Inline-clause-met g c _ = never_ok c.from_residual.result _ _ c.from_residual.ensures.1

pub returns-in_err-bytes-in-Inline-clause-kept : goal.returns-in_err-bytes-in-Inline-clause-kept
returns-in_err-bytes-in-Inline-clause-kept g c = never_ok c.from_residual.result _ _ c.from_residual.ensures.1

pub returns-in_err-bytes-in-Inline-clause-reads : goal.returns-in_err-bytes-in-Inline-clause-reads
returns-in_err-bytes-in-Inline-clause-reads g c = never_ok c.from_residual.result _ _ c.from_residual.ensures.1

pub returns-in_err-bytes-in-Inline-clause-onward : goal.returns-in_err-bytes-in-Inline-clause-onward
returns-in_err-bytes-in-Inline-clause-onward g c = search rules

pub returns-in_err-bytes-in-Long-clause-met : goal.returns-in_err-bytes-in-Long-clause-met
returns-in_err-bytes-in-Long-clause-met g c _ = never_ok c.from_residual-in_err-bytes-in-Long.result _ _ c.from_residual-in_err-bytes-in-Long.ensures.1

pub returns-in_err-bytes-in-Long-clause-kept : goal.returns-in_err-bytes-in-Long-clause-kept
returns-in_err-bytes-in-Long-clause-kept g c = never_ok c.from_residual-in_err-bytes-in-Long.result _ _ c.from_residual-in_err-bytes-in-Long.ensures.1

pub returns-in_err-bytes-in-Long-clause-reads : goal.returns-in_err-bytes-in-Long-clause-reads
returns-in_err-bytes-in-Long-clause-reads g c = never_ok c.from_residual-in_err-bytes-in-Long.result _ _ c.from_residual-in_err-bytes-in-Long.ensures.1

pub returns-in-Number-clause-cause : goal.returns-in-Number-clause-cause
returns-in-Number-clause-cause g c = ok_cause _ _ _ _ (omega arith)

pub returns-in-Truth-clause-cause : goal.returns-in-Truth-clause-cause
returns-in-Truth-clause-cause g c = ok_cause _ _ _ _ (omega arith)

pub returns-in_ok-bytes-in-Inline-clause-cause : goal.returns-in_ok-bytes-in-Inline-clause-cause
returns-in_ok-bytes-in-Inline-clause-cause g c = ok_cause _ _ _ _ (omega arith)

pub returns-in_ok-bytes-in-Long-clause-cause : goal.returns-in_ok-bytes-in-Long-clause-cause
returns-in_ok-bytes-in-Long-clause-cause g c = ok_cause _ _ _ _ (omega arith)

pub returns-in_err-bytes-in-Inline-clause-cause : goal.returns-in_err-bytes-in-Inline-clause-cause
returns-in_err-bytes-in-Inline-clause-cause g c = memory_cause _ _ c.from_residual.result (omega arith) c.from_residual.ensures.1

pub returns-in_err-bytes-in-Inline-clause-damaged : goal.returns-in_err-bytes-in-Inline-clause-damaged
returns-in_err-bytes-in-Inline-clause-damaged g c tells read =
    same_has (IsTextFault (g.R.Reads.state c.args.space.now) c.args.row.now.id) c.from_residual.result faults.Memory c.from_residual.ensures.1 tt

pub returns-in_err-bytes-in-Inline-clause-not_damaged : goal.returns-in_err-bytes-in-Inline-clause-not_damaged
returns-in_err-bytes-in-Inline-clause-not_damaged g c tells value blocks has given =
    same_has (λ fault. IfSome (damage_of fault) (λ _. ⊥)) c.from_residual.result faults.Memory c.from_residual.ensures.1 tt

pub returns-in_err-bytes-in-Long-clause-cause : goal.returns-in_err-bytes-in-Long-clause-cause
returns-in_err-bytes-in-Long-clause-cause g c =
    cause_passed _ _ _ c.from_residual-in_err-bytes-in-Long.result c.in_err-bytes-in-Long.field-0.0 (omega arith) c.in_err-bytes-in-Long.ensures.cause
    c.from_residual-in_err-bytes-in-Long.ensures.1

pub returns-in_err-bytes-in-Long-clause-onward : goal.returns-in_err-bytes-in-Long-clause-onward
returns-in_err-bytes-in-Long-clause-onward g c = c.in_err-bytes-in-Long.ensures.onward

pub returns-in_err-bytes-in-Long-clause-not_damaged : goal.returns-in_err-bytes-in-Long-clause-not_damaged
returns-in_err-bytes-in-Long-clause-not_damaged g c tells value blocks has given =
    let string_file = rec_at (g.R.Reads.state c.args.space.now).records strings_file in
    let m = means string_file c.args.row.now.rec value blocks (forms.Long c.in-Long.size c.in-Long.first) has (c.requires.form_is ∙ ap Some c.in-Long.is) in
    same_has (λ fault. IfSome (damage_of fault) (λ _. ⊥)) c.from_residual-in_err-bytes-in-Long.result c.in_err-bytes-in-Long.field-0.0
    c.from_residual-in_err-bytes-in-Long.ensures.1 (c.in_err-bytes-in-Long.ensures.not_damaged tells m.0 blocks m.2 given)

pub returns-in_ok-bytes-in-Long-clause-onward : goal.returns-in_ok-bytes-in-Long-clause-onward
returns-in_ok-bytes-in-Long-clause-onward g c = c.in_ok-bytes-in-Long.ensures.onward

pub returns-in-Number-clause-onward : goal.returns-in-Number-clause-onward
returns-in-Number-clause-onward g c = g.met.R.Reads.stays_onward _

pub returns-in-Truth-clause-onward : goal.returns-in-Truth-clause-onward
returns-in-Truth-clause-onward g c = g.met.R.Reads.stays_onward _

pub returns-in_ok-bytes-in-Inline-clause-onward : goal.returns-in_ok-bytes-in-Inline-clause-onward
returns-in_ok-bytes-in-Inline-clause-onward g c = g.met.R.Reads.stays_onward _
