use Rattle.std.proofs.lemmas.Result.{err_from_is_err_and, IfOk-weaker, IfErr-weaker}
use Rattle.gremlin_parse.proofs.OrderReads.{stop_after_order_word, stop_at_sort_name, qualified_leads}
use Rattle.gremlin_parse.proofs.Exits.{never_ok}
use Rattle.gremlin_parse.proofs.order.read_qualified.Goals as goal

pub returns-in_err-at_name-in-Ok-clause-err : goal.returns-in_err-at_name-in-Ok-clause-err
returns-in_err-at_name-in-Ok-clause-err c =
    let p = err_from_is_err_and c.from_residual.result c.from_residual.ensures.1 in
    rw (p.1, p.2) (stop_after_order_word c.args.bytes.now c.in-Ok.at_dot.now c.in_err-at_name-in-Ok.field-0.0 c.in-Ok.ensures.ok
    c.in_err-at_name-in-Ok.ensures.err)

pub returns-in_ok-at_name-in-Ok-clause-err : goal.returns-in_ok-at_name-in-Ok-clause-err
returns-in_ok-at_name-in-Ok-clause-err c =
    IfErr-weaker c.read_sort_name.result _ _
    (λ stop at. stop_at_sort_name c.args.bytes.now c.in-Ok.at_dot.now c.in_ok-at_name-in-Ok.at_name.now stop c.in-Ok.ensures.ok c.in_ok-at_name-in-Ok.ensures.ok
    at)
    c.read_sort_name.ensures.err

pub returns-in_ok-at_name-in-Ok-clause-ok : goal.returns-in_ok-at_name-in-Ok-clause-ok
returns-in_ok-at_name-in-Ok-clause-ok c =
    IfOk-weaker c.read_sort_name.result _ _
    (λ r reads. qualified_leads c.args.bytes.now c.in-Ok.at_dot.now c.in_ok-at_name-in-Ok.at_name.now r.1.now r.0 c.in-Ok.ensures.ok
    c.in_ok-at_name-in-Ok.ensures.ok reads)
    c.read_sort_name.ensures.ok

pub returns-in_err-at_name-in-Ok-clause-ok : goal.returns-in_err-at_name-in-Ok-clause-ok
returns-in_err-at_name-in-Ok-clause-ok c = never_ok c.from_residual.result _ _ c.from_residual.ensures.1

pub returns-in_err-at_name-in-Ok-clause-within : goal.returns-in_err-at_name-in-Ok-clause-within
returns-in_err-at_name-in-Ok-clause-within c = never_ok c.from_residual.result _ _ c.from_residual.ensures.1
