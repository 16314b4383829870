use Rattle.std.proofs.Common.{inl, inr, refl, ap, sym, ◌∙◌, subst, arith}
use Rattle.rec_bytes.specs.declared.record.Rec.{Rec}
use Rattle.rec_bytes.specs.Format as format
use Rattle.rec_bytes.specs.Record.{field}
use Rattle.prop_store.proofs.Causes.{cause_passed}
use Rattle.prop_store.proofs.Exits.{same_has}
use Rattle.prop_store.proofs.ReadCounts.{reads_same}
use Rattle.prop_index.specs.Blaming.{IsOfIndexes, NamesIndexes}
use Rattle.prop_index.specs.Naming.{BlamesBucket}
use Rattle.prop_index.specs.Reading.{IsReadFault}
use Rattle.prop_index.proofs.Causes.{told_cause}
use Rattle.prop_index.proofs.IndexBlames.{read_names}
use Rattle.prop_index.proofs.IndexNamed.{after_fault, after_lacks}
use Rattle.prop_index.proofs.leaving.test_after.Goals as goal

pub returns-in_err-record_at-clause-wrong : goal.returns-in_err-record_at-clause-wrong
returns-in_err-record_at-clause-wrong g c tells d b n leads used next =
    let s = g.R.Reads.state c.args.space.now in
    let fault = c.in_err-record_at.field-0.0 in
    same_has (BlamesBucket s d b) c.from_residual.result fault c.from_residual.ensures.1
    (after_fault s d b n c.args.id c.args.after leads used next c.if-after-eq-NIL.false fault
    (subst (λ named. IsReadFault s c.args.after format.indexed named fault) c.out_of_range-named.ensures (c.in_err-record_at.ensures.damaged tells)))

pub returns-then-back-id-clause-wrong : goal.returns-then-back-id-clause-wrong
returns-then-back-id-clause-wrong g c tells d b n leads used next =
    let s = g.R.Reads.state c.args.space.now in
    subst (BlamesBucket s d b) (sym c.damaged.ensures) (inr (
      refl,
      after_lacks s.records d b n c.args.id c.args.after leads next c.if-after-eq-NIL.false
          (λ e. c.if-back-id.true (c.number-back.ensures ∙ ap (λ (r : Rec). field 4 r format.indexed_previous) (c.in_ok-record_at.ensures.got tells) ∙ e)),
    ))

pub returns-clause-back : goal.returns-clause-back
returns-clause-back g c tells some =
    ap (λ (r : Rec). field 4 r format.indexed_previous) (sym (c.in_ok-record_at.ensures.got tells)) ∙ sym c.number-back.ensures ∙ c.if-back-id.false

pub returns-in_err-record_at-clause-names : goal.returns-in_err-record_at-clause-names
returns-in_err-record_at-clause-names g c tells =
    let s = g.R.Reads.state c.args.space.now in
    same_has NamesIndexes c.from_residual.result c.in_err-record_at.field-0.0 c.from_residual.ensures.1
    (read_names s c.args.after format.indexed c.out_of_range-named.result c.in_err-record_at.field-0.0 (subst IsOfIndexes (sym c.out_of_range-named.ensures)
    (inl refl)) (c.in_err-record_at.ensures.damaged tells))

pub returns-then-back-id-clause-names : goal.returns-then-back-id-clause-names
returns-then-back-id-clause-names g c tells = subst NamesIndexes (sym c.damaged.ensures) (inl refl)

pub returns-in_err-record_at-clause-same : goal.returns-in_err-record_at-clause-same
returns-in_err-record_at-clause-same g c = reads_same 1 _ _ c.in_err-record_at.ensures.at_most

pub returns-then-back-id-clause-same : goal.returns-then-back-id-clause-same
returns-then-back-id-clause-same g c = reads_same 1 _ _ c.in_ok-record_at.ensures.at_most

pub returns-clause-same : goal.returns-clause-same
returns-clause-same g c = reads_same 1 _ _ c.in_ok-record_at.ensures.at_most

pub returns-in_err-record_at-clause-cause : goal.returns-in_err-record_at-clause-cause
returns-in_err-record_at-clause-cause g c =
    cause_passed _ _ _ c.from_residual.result c.in_err-record_at.field-0.0 (omega arith) c.in_err-record_at.ensures.cause c.from_residual.ensures.1

pub returns-then-back-id-clause-cause : goal.returns-then-back-id-clause-cause
returns-then-back-id-clause-cause g c = told_cause _ _ _ _ c.in_ok-record_at.ensures.cause.later c.damaged.ensures
