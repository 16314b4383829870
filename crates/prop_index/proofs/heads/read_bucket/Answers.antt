use Rattle.std.proofs.Common.{◌≡◌, ◌/◌, ◌+◌, ◌*◌, ap, ◌∙◌, inl, refl, sym, subst, arith, rules}
use Rattle.rec_bytes.specs.declared.record.Rec.{Rec}
use Rattle.rec_bytes.specs.Format as format
use Rattle.rec_bytes.specs.Record.{field}
use Rattle.store_rules.specs.Indexes.{heads_of}
use Rattle.prop_index.specs.Blaming.{BlamesBroken}
use Rattle.prop_store.proofs.Exits.{same_has}
use Rattle.prop_index.specs.Blaming.{IsOfIndexes, NamesIndexes}
use Rattle.prop_index.specs.Naming.{BlamesHead}
use Rattle.prop_index.specs.Reading.{IsReadFault}
use Rattle.prop_index.proofs.IndexNamed.{heads_fault}
use Rattle.prop_index.proofs.IndexBlames.{heads_blames, read_names}
use Rattle.rec_bytes.proofs.Causes.{never_ok, ok_cause}
use Rattle.prop_store.proofs.Causes.{cause_passed}
use Rattle.prop_index.proofs.heads.read_bucket.Goals as goal

pub returns-in_err-record_at-clause-damaged : goal.returns-in_err-record_at-clause-damaged
returns-in_err-record_at-clause-damaged g c tells rec_is leads used =
    let s = g.R.Reads.state c.args.space.now in
    let d = c.args.definition.now.id in
    let fault = c.in_err-record_at.field-0.0 in
    let id_is : c.slot_of-slot.result.id ≡ heads_of s.records d (c.args.number / 15)
    = c.slot_of-slot.ensures.is.id_is ∙ ap (λ (r : Rec). field 4 r (format.definition_heads + 4 * (c.args.number / 15))) rec_is in
    same_has (BlamesBroken s.records s.shape) c.from_residual.result fault c.from_residual.ensures.1
    (heads_blames s d (c.args.number / 15) c.slot_of-slot.result.id leads used (omega arith) id_is fault
    (subst (λ named. IsReadFault s c.slot_of-slot.result.id format.heads named fault) c.out_of_range.ensures (c.in_err-record_at.ensures.damaged tells)))

pub returns-in_err-record_at-clause-wrong : goal.returns-in_err-record_at-clause-wrong
returns-in_err-record_at-clause-wrong g c tells rec_is =
    let s = g.R.Reads.state c.args.space.now in
    let d = c.args.definition.now.id in
    let fault = c.in_err-record_at.field-0.0 in
    let id_is : c.slot_of-slot.result.id ≡ heads_of s.records d (c.args.number / 15)
    = c.slot_of-slot.ensures.is.id_is ∙ ap (λ (r : Rec). field 4 r (format.definition_heads + 4 * (c.args.number / 15))) rec_is in
    same_has (BlamesHead s d (c.args.number / 15)) c.from_residual.result fault c.from_residual.ensures.1
    (heads_fault s d (c.args.number / 15) c.slot_of-slot.result.id id_is fault
    (subst (λ named. IsReadFault s c.slot_of-slot.result.id format.heads named fault) c.out_of_range.ensures (c.in_err-record_at.ensures.damaged tells)))

pub returns-in_err-record_at-clause-names : goal.returns-in_err-record_at-clause-names
returns-in_err-record_at-clause-names g c tells =
    let s = g.R.Reads.state c.args.space.now in
    let fault = c.in_err-record_at.field-0.0 in
    same_has NamesIndexes c.from_residual.result fault c.from_residual.ensures.1
    (read_names s c.slot_of-slot.result.id format.heads c.out_of_range.result fault (subst IsOfIndexes (sym c.out_of_range.ensures) (inl refl))
    (c.in_err-record_at.ensures.damaged tells))

pub returns-in_err-record_at-clause-is : goal.returns-in_err-record_at-clause-is
returns-in_err-record_at-clause-is g c _ _ = never_ok c.from_residual.result _ _ c.from_residual.ensures.1

pub returns-in_err-record_at-clause-key : goal.returns-in_err-record_at-clause-key
returns-in_err-record_at-clause-key g c = never_ok c.from_residual.result _ _ c.from_residual.ensures.1

pub returns-in_err-record_at-clause-place : goal.returns-in_err-record_at-clause-place
returns-in_err-record_at-clause-place g c = never_ok c.from_residual.result _ _ c.from_residual.ensures.1

pub returns-in_err-record_at-clause-onward : goal.returns-in_err-record_at-clause-onward
returns-in_err-record_at-clause-onward g c = search rules

pub returns-clause-cause : goal.returns-clause-cause
returns-clause-cause g c = ok_cause _ _ _ _ (omega arith)

pub returns-in_err-record_at-clause-cause : goal.returns-in_err-record_at-clause-cause
returns-in_err-record_at-clause-cause g c =
    cause_passed _ _ _ c.from_residual.result c.in_err-record_at.field-0.0 (omega arith) c.in_err-record_at.ensures.cause c.from_residual.ensures.1

pub returns-in_err-record_at-clause-at_most : goal.returns-in_err-record_at-clause-at_most
returns-in_err-record_at-clause-at_most g c = c.in_err-record_at.ensures.at_most

pub returns-clause-at_most : goal.returns-clause-at_most
returns-clause-at_most g c = c.in_ok-record_at.ensures.at_most

pub returns-clause-onward : goal.returns-clause-onward
returns-clause-onward g c = c.in_ok-record_at.ensures.onward
