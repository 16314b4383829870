use Rattle.std.proofs.Common.{rules, arith, ◌≡◌, ◌≤◌, ◌<◌, ◌∙◌, ap, sym, subst}
use Rattle.rec_bytes.specs.Format as format
use Rattle.rec_bytes.specs.Record.{field}
use Rattle.rec_bytes.specs.Space.{State}
use Rattle.rec_bytes.specs.declared.meta.Meta.{Meta}
use Rattle.rec_bytes.specs.declared.record.Rec.{Rec}
use Rattle.prop_index.specs.Gathering.{node_owner}
use Rattle.prop_store.specs.Finding.{value_of}
use Rattle.prop_store.specs.Owner.{HasProperties}
use Rattle.prop_store.specs.Reading.{properties_met}
use Rattle.prop_store.proofs.Causes.{cause_passed, space_cause_passed, later_on}
use Rattle.record_lists.proofs.RecordLaws.{kind_read}
use Rattle.store_rules.specs.Views.{high, rec_at}
use Rattle.store_rules.proofs.ViewLaws.{kind_high}
use Rattle.index_check.proofs.SoundExits.{sound_exit}
use Rattle.index_check.proofs.ValueLaws.{value_free, value_met, value_other}
use Rattle.rec_bytes.proofs.Causes.{never_ok, ok_cause}
use Rattle.prop_store.proofs.Exits.{space_exit}
use Rattle.record_lists.proofs.OnlyReads.{is_read-on, is_read-get, is_read-gets}
use Rattle.index_check.proofs.values.value_at.Goals as goal

pub returns-then-node-meta-clause-is : goal.returns-then-node-meta-clause-is
returns-then-node-meta-clause-is g c = λ tells.
    let records = (g.R.Reads.state c.args.space.now).records in
    let mark : c.meta.result.high ≡ high records format.nodes_file = ap (λ (m : Meta). m.high) c.meta.ensures in
    let past : high records format.nodes_file ≤ c.args.node = omega (arith, c.if-node-meta.true) in
    sym (value_free records c.args.label c.args.key c.args.node (kind_high (high records format.nodes_file) (rec_at records format.nodes_file c.args.node)
    c.args.node past))

pub returns-then-byte-eq-FREE-clause-is : goal.returns-then-byte-eq-FREE-clause-is
returns-then-byte-eq-FREE-clause-is g c = λ tells.
    let records = (g.R.Reads.state c.args.space.now).records in
    let mark : c.meta.result.high ≡ high records format.nodes_file = ap (λ (m : Meta). m.high) c.meta.ensures in
    let low : c.args.node < high records format.nodes_file = omega (arith, c.if-node-meta.false) in
    let kind = kind_read records format.nodes_file c.args.node c.in_ok-rec.rec low (c.in_ok-rec.ensures.got tells) in
    sym (value_free records c.args.label c.args.key c.args.node (kind ∙ sym c.byte.ensures ∙ c.if-byte-eq-FREE.true))

pub returns-then-number-label-clause-is : goal.returns-then-number-label-clause-is
returns-then-number-label-clause-is g c = λ tells.
    let records = (g.R.Reads.state c.args.space.now).records in
    let mark : c.meta.result.high ≡ high records format.nodes_file = ap (λ (m : Meta). m.high) c.meta.ensures in
    let low : c.args.node < high records format.nodes_file = omega (arith, c.if-node-meta.false) in
    let got = c.in_ok-rec.ensures.got tells in
    let kind = kind_read records format.nodes_file c.args.node c.in_ok-rec.rec low got in
    sym (value_other records c.args.label c.args.key c.args.node (λ z. c.if-byte-eq-FREE.false (c.byte.ensures ∙ sym kind ∙ z))
    (λ e. c.if-number-label.true (c.number.ensures ∙ ap (λ (r : Rec). field 4 r format.node_label) got ∙ e)))

pub returns-clause-is : goal.returns-clause-is
returns-clause-is g c = λ tells.
    let records = (g.R.Reads.state c.args.space.now).records in
    let mark : c.meta.result.high ≡ high records format.nodes_file = ap (λ (m : Meta). m.high) c.meta.ensures in
    let low : c.args.node < high records format.nodes_file = omega (arith, c.if-node-meta.false) in
    let got = c.in_ok-rec.ensures.got tells in
    let kind = kind_read records format.nodes_file c.args.node c.in_ok-rec.rec low got in
    let same : c.number.result ≡ c.args.label = search rules in
    c.in_ok-value.ensures.met tells ∙ ap (λ (s : State). value_of (properties_met s.records (node_owner c.args.node)) c.args.key) c.in_ok-rec.ensures.state
    ∙ sym (value_met records c.args.label c.args.key c.args.node (λ z. c.if-byte-eq-FREE.false (c.byte.ensures ∙ sym kind ∙ z))
    (sym (c.number.ensures ∙ ap (λ (r : Rec). field 4 r format.node_label) got) ∙ same))

pub returns-clause-read : goal.returns-clause-read
returns-clause-read g c =
    is_read-on g.R.Reads g.met.R.Reads.further_onward _ _ _ (is_read-get g.R.Reads _ _ c.in_ok-rec.ensures.state c.in_ok-rec.ensures.onward
    c.in_ok-rec.ensures.cause.later)
    (is_read-gets g.R.Reads c.in_ok-value.ensures.at_most.count _ _ c.in_ok-value.ensures.at_most.is c.in_ok-value.ensures.onward
    c.in_ok-value.ensures.cause.later)

pub returns-in_err-value-clause-read : goal.returns-in_err-value-clause-read
returns-in_err-value-clause-read g c =
    is_read-on g.R.Reads g.met.R.Reads.further_onward _ _ _ (is_read-get g.R.Reads _ _ c.in_ok-rec.ensures.state c.in_ok-rec.ensures.onward
    c.in_ok-rec.ensures.cause.later)
    (is_read-gets g.R.Reads c.in_err-value.ensures.at_most.count _ _ c.in_err-value.ensures.at_most.is c.in_err-value.ensures.onward
    c.in_err-value.ensures.cause.later)

pub returns-in_err-value-clause-not_damaged : goal.returns-in_err-value-clause-not_damaged
returns-in_err-value-clause-not_damaged g c = λ tells readable.
    let records = (g.R.Reads.state c.args.space.now).records in
    let mark : c.meta.result.high ≡ high records format.nodes_file = ap (λ (m : Meta). m.high) c.meta.ensures in
    let low : c.args.node < high records format.nodes_file = omega (arith, c.if-node-meta.false) in
    let kind = kind_read records format.nodes_file c.args.node c.in_ok-rec.rec low (c.in_ok-rec.ensures.got tells) in
    let has = readable c.args.node (λ z. c.if-byte-eq-FREE.false (c.byte.ensures ∙ sym kind ∙ z)) in
    sound_exit c.from_residual-in_err-value.result c.in_err-value.field-0.0 c.from_residual-in_err-value.ensures.1
    (c.in_err-value.ensures.not_damaged tells has.0 (subst (λ (s : State). HasProperties s.records (node_owner c.args.node) has.0)
    (sym c.in_ok-rec.ensures.state)
    has.1))

pub returns-in_err-value-clause-cause : goal.returns-in_err-value-clause-cause
returns-in_err-value-clause-cause g c =
    cause_passed _ _ _ c.from_residual-in_err-value.result c.in_err-value.field-0.0 c.in_ok-rec.ensures.cause.later c.in_err-value.ensures.cause
    c.from_residual-in_err-value.ensures.1

pub returns-in_err-rec-clause-cause : goal.returns-in_err-rec-clause-cause
returns-in_err-rec-clause-cause g c =
    space_cause_passed _ _ _ c.from_residual.result c.in_err-rec.field-0.0 (omega arith) c.in_err-rec.ensures.cause c.from_residual.ensures.1

pub returns-in_err-rec-clause-is : goal.returns-in_err-rec-clause-is
returns-in_err-rec-clause-is g c _ = never_ok c.from_residual.result _ _ c.from_residual.ensures.1

pub returns-in_err-rec-clause-low : goal.returns-in_err-rec-clause-low
returns-in_err-rec-clause-low g c = never_ok c.from_residual.result _ _ c.from_residual.ensures.1

pub returns-in_err-rec-clause-read : goal.returns-in_err-rec-clause-read
returns-in_err-rec-clause-read g c =
    is_read-get g.R.Reads _ _ c.in_err-rec.ensures.state c.in_err-rec.ensures.onward c.in_err-rec.ensures.cause.later

pub returns-in_err-value-clause-is : goal.returns-in_err-value-clause-is
returns-in_err-value-clause-is g c _ = never_ok c.from_residual-in_err-value.result _ _ c.from_residual-in_err-value.ensures.1

pub returns-in_err-value-clause-low : goal.returns-in_err-value-clause-low
returns-in_err-value-clause-low g c = never_ok c.from_residual-in_err-value.result _ _ c.from_residual-in_err-value.ensures.1

pub returns-in_err-rec-clause-not_damaged : goal.returns-in_err-rec-clause-not_damaged
returns-in_err-rec-clause-not_damaged g c _ _ = space_exit c.from_residual.result c.in_err-rec.field-0.0 c.from_residual.ensures.1

pub returns-then-byte-eq-FREE-clause-cause : goal.returns-then-byte-eq-FREE-clause-cause
returns-then-byte-eq-FREE-clause-cause g c = ok_cause _ _ _ _ c.in_ok-rec.ensures.cause.later

pub returns-then-number-label-clause-cause : goal.returns-then-number-label-clause-cause
returns-then-number-label-clause-cause g c = ok_cause _ _ _ _ c.in_ok-rec.ensures.cause.later

pub returns-clause-cause : goal.returns-clause-cause
returns-clause-cause g c = ok_cause _ _ _ _ (later_on c.in_ok-rec.ensures.cause.later c.in_ok-value.ensures.cause.later)
