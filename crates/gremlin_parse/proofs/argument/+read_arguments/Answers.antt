use Rattle.std.proofs.lemmas.Result.{err_from_is_err_and}
use Rattle.gremlin_parse.proofs.Arguments.{first_read, stop_after, stop_before, stop_in}
use Rattle.gremlin_parse.proofs.Exits.{never_ok}
use Rattle.gremlin_parse.proofs.argument.+read_arguments.Goals as goal

pub returns-clause-ok : goal.returns-clause-ok
returns-clause-ok t c = first_read c.args.arguments.now c.in_ok-first.first c.in_ok-others.others c.args.bytes.now c.in_ok-at_argument.at_argument.now
    c.in_ok-first.after.now c.in_ok-others.rest.now c.in-len1-up.len_at_least c.requires c.in_ok-at_argument.ensures.ok c.in_ok-first.ensures.ok
    c.in_ok-others.ensures.ok

pub returns-in_err-at_argument-clause-ok : goal.returns-in_err-at_argument-clause-ok
returns-in_err-at_argument-clause-ok t c = never_ok c.from_residual.result _ _ c.from_residual.ensures.1

pub returns-in_err-first-clause-ok : goal.returns-in_err-first-clause-ok
returns-in_err-first-clause-ok t c = never_ok c.from_residual-in_err-first.result _ _ c.from_residual-in_err-first.ensures.1

pub returns-in_err-others-clause-ok : goal.returns-in_err-others-clause-ok
returns-in_err-others-clause-ok t c = never_ok c.from_residual-in_err-others.result _ _ c.from_residual-in_err-others.ensures.1

pub returns-in_err-at_argument-clause-err : goal.returns-in_err-at_argument-clause-err
returns-in_err-at_argument-clause-err t c =
    let p = err_from_is_err_and c.from_residual.result c.from_residual.ensures.1 in
    rw (p.1, p.2) (stop_before c.args.arguments.now c.args.bytes.now c.in_err-at_argument.field-0.0 c.in-len1-up.len_at_least c.in_err-at_argument.ensures.err)

pub returns-in_err-first-clause-err : goal.returns-in_err-first-clause-err
returns-in_err-first-clause-err t c =
    let p = err_from_is_err_and c.from_residual-in_err-first.result c.from_residual-in_err-first.ensures.1 in
    rw (p.1, p.2) (stop_in c.args.arguments.now c.args.bytes.now c.in_ok-at_argument.at_argument.now c.in_err-first.field-0.0 c.in-len1-up.len_at_least
    c.in_ok-at_argument.ensures.ok c.in_err-first.ensures.err)

pub returns-in_err-others-clause-err : goal.returns-in_err-others-clause-err
returns-in_err-others-clause-err t c =
    let p = err_from_is_err_and c.from_residual-in_err-others.result c.from_residual-in_err-others.ensures.1 in
    rw (p.1, p.2) (stop_after c.args.arguments.now c.in_ok-first.first c.args.bytes.now c.in_ok-at_argument.at_argument.now c.in_ok-first.after.now
    c.in_err-others.field-0.0 c.in-len1-up.len_at_least c.in_ok-at_argument.ensures.ok c.in_ok-first.ensures.ok c.in_err-others.ensures.err)
