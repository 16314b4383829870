use Rattle.std.proofs.lemmas.Result.{err_from_is_err_and}
use Rattle.gremlin_parse.proofs.RepeatReads.{stop_before_times, stop_in_times_word, stop_after_times_word, stop_in_times, stop_after_times, times_read}
use Rattle.gremlin_parse.proofs.Exits.{never_ok}
use Rattle.gremlin_parse.proofs.repeat.read_call_of_times.Goals as goal

pub returns-in_err-at_word-clause-err : goal.returns-in_err-at_word-clause-err
returns-in_err-at_word-clause-err c =
    let p = err_from_is_err_and c.from_residual.result c.from_residual.ensures.1 in
    rw (p.1, p.2) (stop_before_times c.args.bytes.now c.in_err-at_word.field-0.0 c.in_err-at_word.ensures.err)

pub returns-in_err-at_open-clause-err : goal.returns-in_err-at_open-clause-err
returns-in_err-at_open-clause-err c =
    let p = err_from_is_err_and c.from_residual-in_err-at_open.result c.from_residual-in_err-at_open.ensures.1 in
    rw (p.1, p.2) (stop_in_times_word c.args.bytes.now c.in_ok-at_word.at_word.now c.in_err-at_open.field-0.0 c.in_ok-at_word.ensures.ok
    c.in_err-at_open.ensures.err)

pub returns-in_err-at_number-clause-err : goal.returns-in_err-at_number-clause-err
returns-in_err-at_number-clause-err c =
    let p = err_from_is_err_and c.from_residual-in_err-at_number.result c.from_residual-in_err-at_number.ensures.1 in
    rw (p.1, p.2) (stop_after_times_word c.args.bytes.now c.in_ok-at_word.at_word.now c.in_ok-at_open.at_open.now c.in_err-at_number.field-0.0
    c.in_ok-at_word.ensures.ok c.in_ok-at_open.ensures.ok c.in_err-at_number.ensures.err)

pub returns-in_err-times-clause-err : goal.returns-in_err-times-clause-err
returns-in_err-times-clause-err c =
    let p = err_from_is_err_and c.from_residual-in_err-times.result c.from_residual-in_err-times.ensures.1 in
    rw (p.1, p.2) (stop_in_times c.args.bytes.now c.in_ok-at_word.at_word.now c.in_ok-at_open.at_open.now c.in_ok-at_number.at_number.now
    c.in_err-times.field-0.0 c.in_ok-at_word.ensures.ok c.in_ok-at_open.ensures.ok c.in_ok-at_number.ensures.ok c.in_err-times.ensures.err)

pub returns-in_err-rest-clause-err : goal.returns-in_err-rest-clause-err
returns-in_err-rest-clause-err c =
    let p = err_from_is_err_and c.from_residual-in_err-rest.result c.from_residual-in_err-rest.ensures.1 in
    rw (p.1, p.2) (stop_after_times c.args.bytes.now c.in_ok-at_word.at_word.now c.in_ok-at_open.at_open.now c.in_ok-at_number.at_number.now
    c.in_ok-times.after.now c.skip_blanks-at_close.result.now c.in_ok-times.times c.in_err-rest.field-0.0 c.in_ok-at_word.ensures.ok
    c.in_ok-at_open.ensures.ok c.in_ok-at_number.ensures.ok c.in_ok-times.ensures.ok c.skip_blanks-at_close.ensures c.in_err-rest.ensures.err)

pub returns-clause-ok : goal.returns-clause-ok
returns-clause-ok c = times_read c.args.bytes.now c.in_ok-at_word.at_word.now c.in_ok-at_open.at_open.now c.in_ok-at_number.at_number.now
    c.in_ok-times.after.now c.skip_blanks-at_close.result.now c.in_ok-rest.rest.now c.in_ok-times.times c.in_ok-at_word.ensures.ok c.in_ok-at_open.ensures.ok
    c.in_ok-at_number.ensures.ok c.in_ok-times.ensures.ok c.skip_blanks-at_close.ensures c.in_ok-rest.ensures.ok

pub returns-in_err-at_word-clause-ok : goal.returns-in_err-at_word-clause-ok
returns-in_err-at_word-clause-ok c = never_ok c.from_residual.result _ _ c.from_residual.ensures.1

pub returns-in_err-at_word-clause-within : goal.returns-in_err-at_word-clause-within
returns-in_err-at_word-clause-within c = never_ok c.from_residual.result _ _ c.from_residual.ensures.1

pub returns-in_err-at_open-clause-ok : goal.returns-in_err-at_open-clause-ok
returns-in_err-at_open-clause-ok c = never_ok c.from_residual-in_err-at_open.result _ _ c.from_residual-in_err-at_open.ensures.1

pub returns-in_err-at_open-clause-within : goal.returns-in_err-at_open-clause-within
returns-in_err-at_open-clause-within c = never_ok c.from_residual-in_err-at_open.result _ _ c.from_residual-in_err-at_open.ensures.1

pub returns-in_err-at_number-clause-ok : goal.returns-in_err-at_number-clause-ok
returns-in_err-at_number-clause-ok c = never_ok c.from_residual-in_err-at_number.result _ _ c.from_residual-in_err-at_number.ensures.1

pub returns-in_err-at_number-clause-within : goal.returns-in_err-at_number-clause-within
returns-in_err-at_number-clause-within c = never_ok c.from_residual-in_err-at_number.result _ _ c.from_residual-in_err-at_number.ensures.1

pub returns-in_err-times-clause-ok : goal.returns-in_err-times-clause-ok
returns-in_err-times-clause-ok c = never_ok c.from_residual-in_err-times.result _ _ c.from_residual-in_err-times.ensures.1

pub returns-in_err-times-clause-within : goal.returns-in_err-times-clause-within
returns-in_err-times-clause-within c = never_ok c.from_residual-in_err-times.result _ _ c.from_residual-in_err-times.ensures.1

pub returns-in_err-rest-clause-ok : goal.returns-in_err-rest-clause-ok
returns-in_err-rest-clause-ok c = never_ok c.from_residual-in_err-rest.result _ _ c.from_residual-in_err-rest.ensures.1

pub returns-in_err-rest-clause-within : goal.returns-in_err-rest-clause-within
returns-in_err-rest-clause-within c = never_ok c.from_residual-in_err-rest.result _ _ c.from_residual-in_err-rest.ensures.1
