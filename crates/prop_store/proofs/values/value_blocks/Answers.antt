use Rattle.std.proofs.Common.{sym, subst, ◌∙◌, arith, ap, Some}
use Rattle.rec_bytes.specs.Format.{strings_file}
use Rattle.store_rules.specs.Chains.{In}
use Rattle.store_rules.specs.Views.{rec_at}
use Rattle.prop_store.specs.Blocks.{AreUsedOnce}
use Rattle.prop_store.proofs.Breaches.{text_of_row}
use Rattle.prop_store.proofs.Meanings.{means, none_if_short}
use Rattle.prop_store.proofs.ReadCounts.{reads_none}
use Rattle.rec_bytes.proofs.Causes.{ok_cause}
use Rattle.prop_store.specs.declared.form.Form.TheVariants as forms
use Rattle.prop_store.proofs.values.value_blocks.Goals as goal

pub returns-in_default-clause-at_most : goal.returns-in_default-clause-at_most
returns-in_default-clause-at_most g c = reads_none 22 _

pub returns-in_default-clause-followed : goal.returns-in_default-clause-followed
returns-in_default-clause-followed g c tells value blocks has =
    let row = c.args.row.now in
    c.new.ensures ∙ sym (none_if_short (rec_at (g.R.Reads.state c.args.space.now).records strings_file) row.rec value blocks row.form has c.requires.form_is
    c.in_default.not-Long)

pub returns-in-Long-clause-damaged : goal.returns-in-Long-clause-damaged
returns-in-Long-clause-damaged g c tells read =
    c.block_ids.ensures.damaged tells (text_of_row (g.R.Reads.state c.args.space.now).records c.args.row.now c.in-Long.size c.in-Long.first c.requires.form_is
    c.in-Long.is read)

pub returns-in-Long-clause-has : goal.returns-in-Long-clause-has
returns-in-Long-clause-has g c tells read =
    c.block_ids.ensures.has tells (text_of_row (g.R.Reads.state c.args.space.now).records c.args.row.now c.in-Long.size c.in-Long.first c.requires.form_is
    c.in-Long.is read)

pub returns-in_default-clause-has : goal.returns-in_default-clause-has
returns-in_default-clause-has g c tells read b i = elim (subst (In b) c.new.ensures i) [ ]

pub returns-in_default-clause-once : goal.returns-in_default-clause-once
returns-in_default-clause-once g c tells = subst (AreUsedOnce (g.R.Reads.state c.args.space.now).records) (sym c.new.ensures)
    (record { once = tt; used = λ b i. elim i [ ] })

pub returns-in_default-clause-cause : goal.returns-in_default-clause-cause
returns-in_default-clause-cause g c = ok_cause _ _ _ _ (omega arith)

pub returns-in-Long-clause-followed : goal.returns-in-Long-clause-followed
returns-in-Long-clause-followed g c tells value blocks has =
    let string_file = rec_at (g.R.Reads.state c.args.space.now).records strings_file in
    let m = means string_file c.args.row.now.rec value blocks (forms.Long c.in-Long.size c.in-Long.first) has (c.requires.form_is ∙ ap Some c.in-Long.is) in
    c.block_ids.ensures.followed tells m.0 blocks m.2

pub returns-in-Long-clause-not_damaged : goal.returns-in-Long-clause-not_damaged
returns-in-Long-clause-not_damaged g c tells value blocks has given =
    let string_file = rec_at (g.R.Reads.state c.args.space.now).records strings_file in
    let m = means string_file c.args.row.now.rec value blocks (forms.Long c.in-Long.size c.in-Long.first) has (c.requires.form_is ∙ ap Some c.in-Long.is) in
    c.block_ids.ensures.not_damaged tells m.0 blocks m.2 given

pub returns-in-Long-clause-at_most : goal.returns-in-Long-clause-at_most
returns-in-Long-clause-at_most g c = c.block_ids.ensures.at_most

pub returns-in-Long-clause-cause : goal.returns-in-Long-clause-cause
returns-in-Long-clause-cause g c = c.block_ids.ensures.cause

pub returns-in-Long-clause-once : goal.returns-in-Long-clause-once
returns-in-Long-clause-once g c = c.block_ids.ensures.once

pub returns-in-Long-clause-onward : goal.returns-in-Long-clause-onward
returns-in-Long-clause-onward g c = c.block_ids.ensures.onward

pub returns-in_default-clause-onward : goal.returns-in_default-clause-onward
returns-in_default-clause-onward g c = g.met.R.Reads.stays_onward _
