use Rattle.std.proofs.lemmas.Result.{err_from_is_err_and, IfOk-weaker, IfErr-weaker}
use Rattle.gremlin_parse.proofs.RepeatReads.{body_begins, no_underscore, nothing_first, stop_at_second, stop_after_anonymous, anonymous_read}
use Rattle.gremlin_parse.proofs.Exits.{never_ok}
use Rattle.gremlin_parse.proofs.repeat.skip_anonymous.Goals as goal

pub returns-in_default-clause-ok : goal.returns-in_default-clause-ok
returns-in_default-clause-ok c = λ query. body_begins query c.args.bytes.now (nothing_first c.args.bytes.now c.in_default.len_below)

pub returns-then-first-ne95-clause-ok : goal.returns-then-first-ne95-clause-ok
returns-then-first-ne95-clause-ok c = λ query. body_begins query c.args.bytes.now (no_underscore c.args.bytes.now c.if-first-ne95.true)

pub returns-in_err-at_dot-clause-err : goal.returns-in_err-at_dot-clause-err
returns-in_err-at_dot-clause-err c =
    let p = err_from_is_err_and c.from_residual.result c.from_residual.ensures.1 in
    rw (p.1, p.2) (stop_at_second c.args.bytes.now c.in_err-at_dot.field-0.0 c.in-len1-up.len_at_least c.if-first-ne95.false c.in_err-at_dot.ensures.err)

pub returns-clause-err : goal.returns-clause-err
returns-clause-err c =
    IfErr-weaker c.read_token-2.result _ _
    (λ stop at. stop_after_anonymous c.args.bytes.now c.in_ok-at_dot.at_dot.now stop c.in-len1-up.len_at_least c.if-first-ne95.false c.in_ok-at_dot.ensures.ok
    at)
    c.read_token-2.ensures.err

pub returns-clause-ok : goal.returns-clause-ok
returns-clause-ok c =
    IfOk-weaker c.read_token-2.result _ _
    (λ rest reads. anonymous_read c.args.bytes.now c.in_ok-at_dot.at_dot.now rest.now c.in-len1-up.len_at_least c.if-first-ne95.false c.in_ok-at_dot.ensures.ok
    reads)
    c.read_token-2.ensures.ok

pub returns-in_err-at_dot-clause-ok : goal.returns-in_err-at_dot-clause-ok
returns-in_err-at_dot-clause-ok c = never_ok c.from_residual.result _ _ c.from_residual.ensures.1

pub returns-in_err-at_dot-clause-within : goal.returns-in_err-at_dot-clause-within
returns-in_err-at_dot-clause-within c = never_ok c.from_residual.result _ _ c.from_residual.ensures.1
