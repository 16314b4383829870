use Rattle.std.proofs.lemmas.Result.{err_from_is_err_and}
use Rattle.gremlin_parse.specs.Queries.{words_after}
use Rattle.gremlin_parse.proofs.QueryReads.{stop_at_dot, stop_at_step_name, stop_at_opening, opening_read, opening_shorter, by_is_ordered}
use Rattle.gremlin_parse.proofs.RepeatReads.{early_step}
use Rattle.gremlin_parse.proofs.Exits.{never_ok}
use Rattle.gremlin_parse.proofs.step.read_opening.Goals as goal

pub returns-in_err-at_name-clause-err : goal.returns-in_err-at_name-clause-err
returns-in_err-at_name-clause-err c =
    let p = err_from_is_err_and c.from_residual.result c.from_residual.ensures.1 in
    rw (p.1, p.2) (λ query same. stop_at_dot c.args.is_ordered query c.args.bytes.now c.in_err-at_name.field-0.0 c.requires.some c.in_err-at_name.ensures.err)

pub returns-in_err-word-clause-err : goal.returns-in_err-word-clause-err
returns-in_err-word-clause-err c =
    let p = err_from_is_err_and c.from_residual-in_err-word.result c.from_residual-in_err-word.ensures.1 in
    rw (p.1, p.2) (stop_at_step_name c.args.stage c.args.is_ordered c.args.bytes.now c.in_ok-at_name.at_name.now c.in_err-word.field-0.0
    c.in_ok-at_name.ensures.ok c.in_err-word.ensures.err)

pub returns-in_err-rest-clause-err : goal.returns-in_err-rest-clause-err
returns-in_err-rest-clause-err c =
    let p = err_from_is_err_and c.from_residual-in_err-rest.result c.from_residual-in_err-rest.ensures.1 in
    rw (p.1, p.2) (stop_at_opening c.args.stage c.args.is_ordered c.args.bytes.now c.in_ok-at_name.at_name.now c.in_ok-word.after_name.now
    c.skip_blanks-at_open.result.now c.in_ok-word.word c.in_err-rest.field-0.0 c.in_ok-at_name.ensures.ok c.in_ok-word.ensures.no_fault
    c.in_ok-word.ensures.ok c.skip_blanks-at_open.ensures c.in_err-rest.ensures.err)

pub returns-clause-ok : goal.returns-clause-ok
returns-clause-ok c = opening_read c.args.stage c.args.is_ordered c.args.bytes.now c.in_ok-at_name.at_name.now c.in_ok-word.after_name.now
    c.skip_blanks-at_open.result.now c.in_ok-rest.rest.now c.in_ok-word.word c.in_ok-at_name.ensures.ok c.in_ok-word.ensures.no_fault c.in_ok-word.ensures.ok
    c.skip_blanks-at_open.ensures c.in_ok-rest.ensures.ok

pub returns-clause-less : goal.returns-clause-less
returns-clause-less c = opening_shorter (words_after c.args.is_ordered) c.args.bytes.now c.in_ok-at_name.at_name.now c.in_ok-word.after_name.now
    c.skip_blanks-at_open.result.now c.in_ok-rest.rest.now c.in_ok-word.word c.in_ok-at_name.ensures.ok c.in_ok-word.ensures.ok c.skip_blanks-at_open.ensures
    c.in_ok-rest.ensures.ok

pub returns-clause-by : goal.returns-clause-by
returns-clause-by c = by_is_ordered c.args.is_ordered c.in_ok-at_name.at_name.now c.in_ok-word.after_name.now c.in_ok-word.word c.in_ok-word.ensures.ok

pub returns-clause-few : goal.returns-clause-few
returns-clause-few c = early_step c.args.stage c.in_ok-word.word c.in_ok-at_name.at_name.now c.requires.early c.in_ok-word.ensures.no_fault

pub returns-in_err-at_name-clause-ok : goal.returns-in_err-at_name-clause-ok
returns-in_err-at_name-clause-ok c = never_ok c.from_residual.result _ _ c.from_residual.ensures.1

pub returns-in_err-at_name-clause-by : goal.returns-in_err-at_name-clause-by
returns-in_err-at_name-clause-by c = never_ok c.from_residual.result _ _ c.from_residual.ensures.1

pub returns-in_err-at_name-clause-few : goal.returns-in_err-at_name-clause-few
returns-in_err-at_name-clause-few c = never_ok c.from_residual.result _ _ c.from_residual.ensures.1

pub returns-in_err-at_name-clause-less : goal.returns-in_err-at_name-clause-less
returns-in_err-at_name-clause-less c = never_ok c.from_residual.result _ _ c.from_residual.ensures.1

pub returns-in_err-word-clause-ok : goal.returns-in_err-word-clause-ok
returns-in_err-word-clause-ok c = never_ok c.from_residual-in_err-word.result _ _ c.from_residual-in_err-word.ensures.1

pub returns-in_err-word-clause-by : goal.returns-in_err-word-clause-by
returns-in_err-word-clause-by c = never_ok c.from_residual-in_err-word.result _ _ c.from_residual-in_err-word.ensures.1

pub returns-in_err-word-clause-few : goal.returns-in_err-word-clause-few
returns-in_err-word-clause-few c = never_ok c.from_residual-in_err-word.result _ _ c.from_residual-in_err-word.ensures.1

pub returns-in_err-word-clause-less : goal.returns-in_err-word-clause-less
returns-in_err-word-clause-less c = never_ok c.from_residual-in_err-word.result _ _ c.from_residual-in_err-word.ensures.1

pub returns-in_err-rest-clause-ok : goal.returns-in_err-rest-clause-ok
returns-in_err-rest-clause-ok c = never_ok c.from_residual-in_err-rest.result _ _ c.from_residual-in_err-rest.ensures.1

pub returns-in_err-rest-clause-by : goal.returns-in_err-rest-clause-by
returns-in_err-rest-clause-by c = never_ok c.from_residual-in_err-rest.result _ _ c.from_residual-in_err-rest.ensures.1

pub returns-in_err-rest-clause-few : goal.returns-in_err-rest-clause-few
returns-in_err-rest-clause-few c = never_ok c.from_residual-in_err-rest.result _ _ c.from_residual-in_err-rest.ensures.1

pub returns-in_err-rest-clause-less : goal.returns-in_err-rest-clause-less
returns-in_err-rest-clause-less c = never_ok c.from_residual-in_err-rest.result _ _ c.from_residual-in_err-rest.ensures.1
