use Rattle.std.proofs.lemmas.Result.{err_from_is_err_and, IfErr-weaker, IfOk-weaker}
use Rattle.std.proofs.Common.{◌++◌, ◌∷◌, [], arith}
use Rattle.gremlin_parse.specs.Queries.{OfBody, BodyName, InBody, opened_body}
use Rattle.gremlin_parse.proofs.QueryReads.{on}
use Rattle.gremlin_parse.proofs.RepeatReads.{before_33rd, stop_at_body_name, stop_at_body_opening, body_opening_read}
use Rattle.gremlin_parse.proofs.LeftWords.{body_opening_within}
use Rattle.gremlin_parse.proofs.Exits.{never_ok}
use Rattle.gremlin_parse.proofs.repeat.read_body_step.Goals as goal

pub returns-in_err-word-clause-err : goal.returns-in_err-word-clause-err
returns-in_err-word-clause-err c =
    let p = err_from_is_err_and c.from_residual.result c.from_residual.ensures.1 in
    rw (p.1, p.2) (stop_at_body_name c.args.before c.args.bytes.now c.in_err-word.field-0.0 c.in_err-word.ensures.err)

pub returns-in_err-at_arguments-clause-err : goal.returns-in_err-at_arguments-clause-err
returns-in_err-at_arguments-clause-err c =
    let p = err_from_is_err_and c.from_residual-in_err-at_arguments.result c.from_residual-in_err-at_arguments.ensures.1 in
    rw (p.1, p.2) (stop_at_body_opening c.args.before c.args.bytes.now c.in_ok-word.after_name.now c.skip_blanks-at_open.result.now c.in_ok-word.word
    c.in_err-at_arguments.field-0.0 c.in_ok-word.ensures.no_fault c.in_ok-word.ensures.ok c.skip_blanks-at_open.ensures c.in_err-at_arguments.ensures.err)

pub returns-in_err-word-clause-ok : goal.returns-in_err-word-clause-ok
returns-in_err-word-clause-ok c = never_ok c.from_residual.result _ _ c.from_residual.ensures.1

pub returns-in_err-word-clause-early : goal.returns-in_err-word-clause-early
returns-in_err-word-clause-early c = never_ok c.from_residual.result _ _ c.from_residual.ensures.1

pub returns-in_err-word-clause-within : goal.returns-in_err-word-clause-within
returns-in_err-word-clause-within c = never_ok c.from_residual.result _ _ c.from_residual.ensures.1

pub returns-in_err-at_arguments-clause-ok : goal.returns-in_err-at_arguments-clause-ok
returns-in_err-at_arguments-clause-ok c = never_ok c.from_residual-in_err-at_arguments.result _ _ c.from_residual-in_err-at_arguments.ensures.1

pub returns-in_err-at_arguments-clause-early : goal.returns-in_err-at_arguments-clause-early
returns-in_err-at_arguments-clause-early c = never_ok c.from_residual-in_err-at_arguments.result _ _ c.from_residual-in_err-at_arguments.ensures.1

pub returns-in_err-at_arguments-clause-within : goal.returns-in_err-at_arguments-clause-within
returns-in_err-at_arguments-clause-within c = never_ok c.from_residual-in_err-at_arguments.result _ _ c.from_residual-in_err-at_arguments.ensures.1

pub returns-clause-ok : goal.returns-clause-ok
returns-clause-ok c =
    let opens = body_opening_read c.args.before c.args.bytes.now c.in_ok-word.after_name.now c.skip_blanks-at_open.result.now
    c.in_ok-at_arguments.at_arguments.now c.in_ok-word.word c.in_ok-word.ensures.no_fault c.in_ok-word.ensures.ok c.skip_blanks-at_open.ensures
    c.in_ok-at_arguments.ensures.ok in
    IfOk-weaker c.read_body_arguments.result _ _ (λ r reads query body same. on (BodyName query body) c.args.bytes.now (opened_body (OfBody query body)
    c.in_ok-word.word) c.in_ok-at_arguments.at_arguments.now (InBody query (body ++ r.0 ∷ [])) r.1.now (opens query body same) (reads (OfBody query body)))
    c.read_body_arguments.ensures.ok

pub returns-clause-early : goal.returns-clause-early
returns-clause-early c = IfOk-weaker c.read_body_arguments.result _ _ (λ r reads. before_33rd c.args.before c.in_ok-word.ensures.no_fault)
    c.read_body_arguments.ensures.ok

pub returns-clause-within : goal.returns-clause-within
returns-clause-within c =
    let start = body_opening_within c.args.bytes.now c.in_ok-word.after_name.now c.skip_blanks-at_open.result.now c.in_ok-at_arguments.at_arguments.now
    c.in_ok-word.word c.in_ok-word.ensures.ok c.skip_blanks-at_open.ensures c.in_ok-at_arguments.ensures.ok in
    IfOk-weaker c.read_body_arguments.result _ _ (λ r le. omega (arith, start, le)) c.read_body_arguments.ensures.within

pub returns-clause-err : goal.returns-clause-err
returns-clause-err c =
    let opens = body_opening_read c.args.before c.args.bytes.now c.in_ok-word.after_name.now c.skip_blanks-at_open.result.now
    c.in_ok-at_arguments.at_arguments.now c.in_ok-word.word c.in_ok-word.ensures.no_fault c.in_ok-word.ensures.ok c.skip_blanks-at_open.ensures
    c.in_ok-at_arguments.ensures.ok in
    IfErr-weaker c.read_body_arguments.result _ _ (λ stop stops query body same. (opens query body same).stops stop (stops (OfBody query body)))
    c.read_body_arguments.ensures.err
