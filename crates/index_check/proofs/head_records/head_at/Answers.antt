use Rattle.std.proofs.Common.{rules, arith, ◌≡◌, ◌≤◌, ◌<◌, ◌+◌, ◌*◌, ◌∙◌, ap, sym}
use Rattle.rec_bytes.specs.Format as format
use Rattle.rec_bytes.specs.Record.{field}
use Rattle.rec_bytes.specs.Space.{State}
use Rattle.record_lists.proofs.RecordLaws.{kind_read}
use Rattle.store_rules.specs.Indexes.{heads_of, index_rec}
use Rattle.store_rules.specs.Views.{high, kind_at}
use Rattle.store_rules.proofs.ViewLaws.{kind_high}
use Rattle.rec_bytes.proofs.Causes.{never_ok, ok_cause}
use Rattle.record_lists.proofs.Causes.{cause_passed}
use Rattle.record_lists.proofs.OnlyReads.{is_read-on, is_read-get}
use Rattle.index_check.proofs.head_records.head_at.Goals as goal

pub returns-then-id-records-clause-none : goal.returns-then-id-records-clause-none
returns-then-id-records-clause-none g c = λ tells e.
    let records = (g.R.Reads.state c.args.space.now).records in
    let id : c.number-id.result ≡ heads_of records c.args.definition c.args.number = c.number-id.ensures
    ∙ ap (λ r. field 4 r (format.definition_heads + 4 * c.args.number)) (c.in_ok-rec.ensures.got tells) in
    let past : high records format.index_file ≤ heads_of records c.args.definition c.args.number = omega arith in
    let none = kind_high (high records format.index_file) (index_rec records (heads_of records c.args.definition c.args.number))
    (heads_of records c.args.definition c.args.number) past in
    let differ : 0 ≡ format.heads = sym none ∙ e in
    omega (arith, differ)

pub returns-then-byte-ne-HEADS-clause-none : goal.returns-then-byte-ne-HEADS-clause-none
returns-then-byte-ne-HEADS-clause-none g c = λ tells e.
    let records = (g.R.Reads.state c.args.space.now).records in
    let id : c.number-id.result ≡ heads_of records c.args.definition c.args.number = c.number-id.ensures
    ∙ ap (λ r. field 4 r (format.definition_heads + 4 * c.args.number)) (c.in_ok-rec.ensures.got tells) in
    let got : c.in_ok-rec-2.rec ≡ index_rec records c.number-id.result = c.in_ok-rec-2.ensures.got tells
    ∙ ap (λ (s : State). index_rec s.records c.number-id.result) c.in_ok-rec.ensures.state in
    let low : c.number-id.result < high records format.index_file = omega arith in
    let kind = kind_read records format.index_file c.number-id.result c.in_ok-rec-2.rec low got in
    c.if-byte-ne-HEADS.true (c.byte.ensures ∙ sym kind ∙ ap (kind_at records format.index_file) id ∙ e)

pub returns-clause-found : goal.returns-clause-found
returns-clause-found g c = λ tells.
    let records = (g.R.Reads.state c.args.space.now).records in
    let id : c.number-id.result ≡ heads_of records c.args.definition c.args.number = c.number-id.ensures
    ∙ ap (λ r. field 4 r (format.definition_heads + 4 * c.args.number)) (c.in_ok-rec.ensures.got tells) in
    let got : c.in_ok-rec-2.rec ≡ index_rec records c.number-id.result = c.in_ok-rec-2.ensures.got tells
    ∙ ap (λ (s : State). index_rec s.records c.number-id.result) c.in_ok-rec.ensures.state in
    let low : c.number-id.result < high records format.index_file = omega arith in
    let kind = kind_read records format.index_file c.number-id.result c.in_ok-rec-2.rec low got in
    let two : c.byte.result ≡ 2 = search rules in
    record {
      id_is = id;
      kind = ap (kind_at records format.index_file) (sym id) ∙ kind ∙ sym c.byte.ensures ∙ two;
      rec_is = got ∙ ap (index_rec records) id;
    }

pub returns-in_err-rec-2-clause-read : goal.returns-in_err-rec-2-clause-read
returns-in_err-rec-2-clause-read g c =
    is_read-on g.R.Reads g.met.R.Reads.further_onward _ _ _ (is_read-get g.R.Reads _ _ c.in_ok-rec.ensures.state c.in_ok-rec.ensures.onward
    c.in_ok-rec.ensures.cause.later) (is_read-get g.R.Reads _ _ c.in_err-rec-2.ensures.state c.in_err-rec-2.ensures.onward
    c.in_err-rec-2.ensures.cause.later)

pub returns-then-byte-ne-HEADS-clause-read : goal.returns-then-byte-ne-HEADS-clause-read
returns-then-byte-ne-HEADS-clause-read g c =
    is_read-on g.R.Reads g.met.R.Reads.further_onward _ _ _ (is_read-get g.R.Reads _ _ c.in_ok-rec.ensures.state c.in_ok-rec.ensures.onward
    c.in_ok-rec.ensures.cause.later) (is_read-get g.R.Reads _ _ c.in_ok-rec-2.ensures.state c.in_ok-rec-2.ensures.onward c.in_ok-rec-2.ensures.cause.later)

pub returns-clause-read : goal.returns-clause-read
returns-clause-read g c =
    is_read-on g.R.Reads g.met.R.Reads.further_onward _ _ _ (is_read-get g.R.Reads _ _ c.in_ok-rec.ensures.state c.in_ok-rec.ensures.onward
    c.in_ok-rec.ensures.cause.later) (is_read-get g.R.Reads _ _ c.in_ok-rec-2.ensures.state c.in_ok-rec-2.ensures.onward c.in_ok-rec-2.ensures.cause.later)

pub returns-in_err-rec-clause-found : goal.returns-in_err-rec-clause-found
returns-in_err-rec-clause-found g c _ = never_ok c.from_residual.result _ _ c.from_residual.ensures.1

pub returns-in_err-rec-clause-none : goal.returns-in_err-rec-clause-none
returns-in_err-rec-clause-none g c _ = never_ok c.from_residual.result _ _ c.from_residual.ensures.1

pub returns-in_err-rec-clause-low : goal.returns-in_err-rec-clause-low
returns-in_err-rec-clause-low g c = never_ok c.from_residual.result _ _ c.from_residual.ensures.1

pub returns-in_err-rec-clause-read : goal.returns-in_err-rec-clause-read
returns-in_err-rec-clause-read g c =
    is_read-get g.R.Reads _ _ c.in_err-rec.ensures.state c.in_err-rec.ensures.onward c.in_err-rec.ensures.cause.later

pub returns-in_err-rec-2-clause-found : goal.returns-in_err-rec-2-clause-found
returns-in_err-rec-2-clause-found g c _ = never_ok c.from_residual-in_err-rec-2.result _ _ c.from_residual-in_err-rec-2.ensures.1

pub returns-in_err-rec-2-clause-none : goal.returns-in_err-rec-2-clause-none
returns-in_err-rec-2-clause-none g c _ = never_ok c.from_residual-in_err-rec-2.result _ _ c.from_residual-in_err-rec-2.ensures.1

pub returns-in_err-rec-2-clause-low : goal.returns-in_err-rec-2-clause-low
returns-in_err-rec-2-clause-low g c = never_ok c.from_residual-in_err-rec-2.result _ _ c.from_residual-in_err-rec-2.ensures.1

pub returns-clause-cause : goal.returns-clause-cause
returns-clause-cause g c = ok_cause _ _ _ _ (omega arith)

pub returns-in_err-rec-clause-cause : goal.returns-in_err-rec-clause-cause
returns-in_err-rec-clause-cause g c =
    cause_passed _ _ _ c.from_residual.result c.in_err-rec.field-0.0 (omega arith) c.in_err-rec.ensures.cause c.from_residual.ensures.1

pub returns-in_err-rec-2-clause-cause : goal.returns-in_err-rec-2-clause-cause
returns-in_err-rec-2-clause-cause g c =
    cause_passed _ _ _ c.from_residual-in_err-rec-2.result c.in_err-rec-2.field-0.0 c.in_ok-rec.ensures.cause.later
    c.in_err-rec-2.ensures.cause c.from_residual-in_err-rec-2.ensures.1
