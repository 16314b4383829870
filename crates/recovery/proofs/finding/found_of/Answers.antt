use Rattle.std.proofs.Common.{◌≡◌, ◌∙◌, ap, sym, refl, Option, Some, None}
use Rattle.std.proofs.lemmas.Bool.{false≢true}
use Rattle.std.proofs.lemmas.Result.{err_from_is_err_and}
use Rattle.rec_bytes.specs.Shape.{shape_of_record}
use Rattle.redo_log.specs.Redo.{redone}
use Rattle.record_file.specs.Records.{record_at}
use Rattle.recovery.proofs.StoreForms.{own_read}
use Rattle.recovery.proofs.finding.found_of.Goals as goal

none_of : {X : Type 0} (o : Option X) → ((x : X) → o ≡ Some x → ⊥) → o ≡ None
none_of None other = refl
none_of (Some x) other = absurd (other x refl)

pub returns-in-Some-clause-found : goal.returns-in-Some-clause-found
returns-in-Some-clause-found c content has =
    record {
      own = ap shape_of_record (own_read content c.args.logged.now has c.own.result c.own.ensures) ∙ sym c.in-Some.ensures.value;
      metas = c.in_ok-check_metas.ensures.right (redone (record_at content) has.entries) has.are;
    }

pub returns-in_err-check_metas-clause-refused : goal.returns-in_err-check_metas-clause-refused
returns-in_err-check_metas-clause-refused c content has =
    let p = err_from_is_err_and c.from_residual.result c.from_residual.ensures.1 in
    let own = ap shape_of_record (own_read content c.args.logged.now has c.own.result c.own.ensures) ∙ sym c.in-Some.ensures.value in
    rw (p.1, p.2) (c.in_err-check_metas.ensures.wrong (redone (record_at content) has.entries) has.are own content)

pub returns-then-is_unmade-clause-found : goal.returns-then-is_unmade-clause-found
returns-then-is_unmade-clause-found c content has = (c.is_unmade.ensures content has).0 c.if-is_unmade.true

pub returns-clause-refused : goal.returns-clause-refused
returns-clause-refused c content has = (
  ap shape_of_record (own_read content c.args.logged.now has c.own.result c.own.ensures) ∙ sym c.of.ensures.value ∙ none_of c.of.result c.in_default.not-Some,
  λ unmade. false≢true (sym c.if-is_unmade.false ∙ (c.is_unmade.ensures content has).1 unmade),
)
