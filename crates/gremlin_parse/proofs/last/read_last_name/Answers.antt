use Rattle.std.proofs.Common.{inl, inr, refl}
use Rattle.std.proofs.lemmas.Result.{err_from_is_err_and}
use Rattle.gremlin_parse.proofs.Runs.{not_empty}
use Rattle.gremlin_parse.proofs.Lasts.{stop_in_name, stop_after_name}
use Rattle.gremlin_parse.proofs.Exits.{never_ok}
use Rattle.gremlin_parse.proofs.last.read_last_name.Goals as goal

pub returns-in_err-at_name-clause-err : goal.returns-in_err-at_name-clause-err
returns-in_err-at_name-clause-err c =
    let p = err_from_is_err_and c.from_residual.result c.from_residual.ensures.1 in
    let blanks = c.skip_blanks.result.now in
    rw (p.1, p.2) (stop_in_name ⊥ c.args.bytes.now blanks c.in_err-at_name.field-0.0 c.skip_blanks.ensures.takes (not_empty blanks c.is_empty.result
    c.is_empty.ensures c.if-is_empty.false) (inl c.in_err-at_name.ensures.err))

pub returns-in_err-name-clause-err : goal.returns-in_err-name-clause-err
returns-in_err-name-clause-err c =
    let p = err_from_is_err_and c.from_residual-in_err-name.result c.from_residual-in_err-name.ensures.1 in
    let blanks = c.skip_blanks.result.now in
    rw (p.1, p.2) (stop_in_name ⊥ c.args.bytes.now blanks c.in_err-name.field-0.0 c.skip_blanks.ensures.takes (not_empty blanks c.is_empty.result
    c.is_empty.ensures c.if-is_empty.false) (inr (tt, c.in_ok-at_name.at_name.now, c.in_ok-at_name.ensures.ok, inl c.in_err-name.ensures.err)))

pub returns-in_err-read_end-clause-err : goal.returns-in_err-read_end-clause-err
returns-in_err-read_end-clause-err c =
    let p = err_from_is_err_and c.from_residual-in_err-read_end.result c.from_residual-in_err-read_end.ensures.1 in
    let blanks = c.skip_blanks.result.now in
    let rest = c.skip_blanks-2.result.now in
    rw (p.1, p.2) (stop_after_name ⊥ c.args.bytes.now blanks c.in_ok-name.name.now rest c.in_err-read_end.field-0.0 c.skip_blanks.ensures.takes
    (not_empty blanks c.is_empty.result c.is_empty.ensures c.if-is_empty.false) (
      c.in_ok-at_name.at_name.now,
      c.in_ok-at_name.ensures.ok,
      (c.in_ok-name.rest.now, c.in_ok-name.ensures.ok, (rest, c.skip_blanks-2.ensures, refl)),
    ) c.in_err-read_end.ensures.err)

pub returns-in_err-at_name-clause-ok : goal.returns-in_err-at_name-clause-ok
returns-in_err-at_name-clause-ok c = never_ok c.from_residual.result _ _ c.from_residual.ensures.1

pub returns-in_err-at_name-clause-bounds : goal.returns-in_err-at_name-clause-bounds
returns-in_err-at_name-clause-bounds c = never_ok c.from_residual.result _ _ c.from_residual.ensures.1

pub returns-in_err-name-clause-ok : goal.returns-in_err-name-clause-ok
returns-in_err-name-clause-ok c = never_ok c.from_residual-in_err-name.result _ _ c.from_residual-in_err-name.ensures.1

pub returns-in_err-name-clause-bounds : goal.returns-in_err-name-clause-bounds
returns-in_err-name-clause-bounds c = never_ok c.from_residual-in_err-name.result _ _ c.from_residual-in_err-name.ensures.1

pub returns-in_err-read_end-clause-ok : goal.returns-in_err-read_end-clause-ok
returns-in_err-read_end-clause-ok c = never_ok c.from_residual-in_err-read_end.result _ _ c.from_residual-in_err-read_end.ensures.1

pub returns-in_err-read_end-clause-bounds : goal.returns-in_err-read_end-clause-bounds
returns-in_err-read_end-clause-bounds c = never_ok c.from_residual-in_err-read_end.result _ _ c.from_residual-in_err-read_end.ensures.1
