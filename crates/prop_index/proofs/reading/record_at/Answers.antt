use Rattle.std.proofs.Common.{◌≡◌, ◌≢◌, ◌<◌, ◌≤◌, ℕ, sym, ap, ◌∙◌, subst, arith, rules, refl}
use Rattle.rec_bytes.specs.declared.meta.Meta.{Meta}
use Rattle.rec_bytes.specs.declared.record.Rec.{Rec}
use Rattle.rec_bytes.specs.declared.shape.Shape.{Shape}
use Rattle.rec_bytes.specs.Format as format
use Rattle.rec_bytes.specs.Record.{field}
use Rattle.rec_bytes.specs.RecordFiles.{room_of}
use Rattle.store_rules.specs.Indexes.{index_rec}
use Rattle.store_rules.specs.Views.{high, kind_at}
use Rattle.store_rules.proofs.ViewLaws.{kind_low}
use Rattle.prop_store.proofs.ReadCounts.{reads_none, reads_one}
use Rattle.prop_index.specs.Reading.{HighMark, IsReadFault, LeadsNowhere, OtherKind}
use Rattle.rec_bytes.proofs.Causes.{never_ok, ok_cause}
use Rattle.prop_store.proofs.Causes.{space_cause_passed}
use Rattle.prop_store.proofs.Exits.{space_exit, space_has}
use Rattle.prop_index.proofs.Causes.{told_cause}
use Rattle.prop_index.proofs.reading.record_at.Goals as goal

pub returns-then-id-meta-clause-damaged : goal.returns-then-id-meta-clause-damaged
returns-then-id-meta-clause-damaged g c tells = LeadsNowhere (subst (λ (m : Meta). m.high ≤ c.args.id) c.meta.ensures c.if-id-meta.true)

pub returns-then-id-meta-clause-at_most : goal.returns-then-id-meta-clause-at_most
returns-then-id-meta-clause-at_most g c = reads_none 1 _

pub returns-then-id-room_of-clause-damaged : goal.returns-then-id-room_of-clause-damaged
returns-then-id-room_of-clause-damaged g c tells =
    let s = g.R.Reads.state c.args.space.now in
    let low : c.args.id < high s.records format.index_file = subst (λ (m : Meta). c.args.id < m.high) c.meta.ensures c.if-id-meta.false in
    let room : c.room_of.result ≡ room_of s.shape format.index_file = c.room_of.ensures ∙ ap (λ (h : Shape). room_of h format.index_file) c.shape.ensures.is in
    let past : room_of s.shape format.index_file ≤ c.args.id = subst (λ (n : ℕ). n ≤ c.args.id) room c.if-id-room_of.true in
    subst (IsReadFault s c.args.id c.args.kind c.args.named) (sym c.damaged.ensures) (HighMark (omega (arith, low, past)))

pub returns-then-id-room_of-clause-at_most : goal.returns-then-id-room_of-clause-at_most
returns-then-id-room_of-clause-at_most g c = reads_none 1 _

pub returns-in_err-get_into-clause-at_most : goal.returns-in_err-get_into-clause-at_most
returns-in_err-get_into-clause-at_most g c = reads_one 1 _ _ (omega arith) c.get_into.ensures.state

pub returns-then-byte-kind-clause-damaged : goal.returns-then-byte-kind-clause-damaged
returns-then-byte-kind-clause-damaged g c tells =
    let s = g.R.Reads.state c.args.space.now in
    let low : c.args.id < high s.records format.index_file = subst (λ (m : Meta). c.args.id < m.high) c.meta.ensures c.if-id-meta.false in
    let got : c.get_into.new.rec ≡ index_rec s.records c.args.id = c.in_ok-get_into.ensures.got tells in
    let other : kind_at s.records format.index_file c.args.id ≢ c.args.kind = λ e. c.if-byte-kind.true
    (c.byte.ensures ∙ ap (λ (r : Rec). field 1 r format.kind) got ∙ sym (kind_low (high s.records format.index_file) (index_rec s.records c.args.id)
    c.args.id low) ∙ e) in
    subst (IsReadFault s c.args.id c.args.kind c.args.named) (sym c.damaged-then-byte-kind.ensures) (OtherKind low other)

pub returns-then-byte-kind-clause-at_most : goal.returns-then-byte-kind-clause-at_most
returns-then-byte-kind-clause-at_most g c = reads_one 1 _ _ (omega arith) c.get_into.ensures.state

pub returns-clause-at_most : goal.returns-clause-at_most
returns-clause-at_most g c = reads_one 1 _ _ (omega arith) c.get_into.ensures.state

pub returns-in_err-get_into-clause-key : goal.returns-in_err-get_into-clause-key
returns-in_err-get_into-clause-key g c = never_ok c.from_residual.result _ _ c.from_residual.ensures.1

pub returns-in_err-get_into-clause-got : goal.returns-in_err-get_into-clause-got
returns-in_err-get_into-clause-got g c _ = never_ok c.from_residual.result _ _ c.from_residual.ensures.1

pub returns-in_err-get_into-clause-used : goal.returns-in_err-get_into-clause-used
returns-in_err-get_into-clause-used g c _ = never_ok c.from_residual.result _ _ c.from_residual.ensures.1

pub returns-in_err-get_into-clause-state : goal.returns-in_err-get_into-clause-state
returns-in_err-get_into-clause-state g c = never_ok c.from_residual.result _ _ c.from_residual.ensures.1

pub returns-in_err-get_into-clause-onward : goal.returns-in_err-get_into-clause-onward
returns-in_err-get_into-clause-onward g c = search rules

pub returns-clause-cause : goal.returns-clause-cause
returns-clause-cause g c = ok_cause _ _ _ _ (omega arith)

pub returns-in_err-get_into-clause-cause : goal.returns-in_err-get_into-clause-cause
returns-in_err-get_into-clause-cause g c =
    space_cause_passed _ _ _ c.from_residual.result c.in_err-get_into.field-0.0 (omega arith) c.in_err-get_into.ensures.cause c.from_residual.ensures.1

pub returns-in_err-get_into-clause-damaged : goal.returns-in_err-get_into-clause-damaged
returns-in_err-get_into-clause-damaged g c tells =
    space_has (IsReadFault (g.R.Reads.state c.args.space.now) c.args.id c.args.kind c.args.named) tt tt c.from_residual.result c.in_err-get_into.field-0.0
    c.from_residual.ensures.1

pub returns-in_err-get_into-clause-not_damaged : goal.returns-in_err-get_into-clause-not_damaged
returns-in_err-get_into-clause-not_damaged g c tells room used = space_exit c.from_residual.result c.in_err-get_into.field-0.0 c.from_residual.ensures.1

pub returns-then-byte-kind-clause-onward : goal.returns-then-byte-kind-clause-onward
returns-then-byte-kind-clause-onward g c = c.in_ok-get_into.ensures.onward

pub returns-then-byte-kind-clause-cause : goal.returns-then-byte-kind-clause-cause
returns-then-byte-kind-clause-cause g c = told_cause _ _ _ _ c.in_ok-get_into.ensures.cause.later c.damaged-then-byte-kind.ensures

pub returns-then-id-meta-clause-cause : goal.returns-then-id-meta-clause-cause
returns-then-id-meta-clause-cause g c = told_cause _ _ _ _ (omega arith) refl

pub returns-then-id-meta-clause-onward : goal.returns-then-id-meta-clause-onward
returns-then-id-meta-clause-onward g c = g.met.R.Reads.stays_onward _

pub returns-then-id-room_of-clause-cause : goal.returns-then-id-room_of-clause-cause
returns-then-id-room_of-clause-cause g c = told_cause _ _ _ _ (omega arith) c.damaged.ensures

pub returns-then-id-room_of-clause-onward : goal.returns-then-id-room_of-clause-onward
returns-then-id-room_of-clause-onward g c = g.met.R.Reads.stays_onward _

pub returns-clause-got : goal.returns-clause-got
returns-clause-got g c = c.in_ok-get_into.ensures.got

pub returns-clause-state : goal.returns-clause-state
returns-clause-state g c = c.in_ok-get_into.ensures.state

pub returns-clause-onward : goal.returns-clause-onward
returns-clause-onward g c = c.in_ok-get_into.ensures.onward
