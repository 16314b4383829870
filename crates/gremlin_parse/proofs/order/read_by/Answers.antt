use Rattle.std.proofs.Common.{rules, sym, ◌∙◌}
use Rattle.std.proofs.lemmas.Result.{err_from_is_err_and}
use Rattle.gremlin_parse.proofs.OrderReads.{empty_by_read, stop_in_direction, keyless_read}
use Rattle.gremlin_parse.proofs.Exits.{never_ok}
use Rattle.gremlin_parse.proofs.order.read_by.Goals as goal

pub returns-in-Some-clause-ok : goal.returns-in-Some-clause-ok
returns-in-Some-clause-ok c = empty_by_read c.args.bytes.now c.in-Some.rest.now c.in-Some.ensures.some

pub returns-in_err-descending-clause-err : goal.returns-in_err-descending-clause-err
returns-in_err-descending-clause-err c =
    let p = err_from_is_err_and c.from_residual-in_err-descending.result c.from_residual-in_err-descending.ensures.1 in
    rw (p.1, p.2) (stop_in_direction c.args.bytes.now c.in_err-descending.field-0.0 (sym c.starts_quote.ensures ∙ c.if-starts_quote.false)
    c.in_default.ensures.none c.in_err-descending.ensures.err)

pub returns-clause-ok : goal.returns-clause-ok
returns-clause-ok c = keyless_read c.args.bytes.now c.in_ok-descending.rest.now c.in_ok-descending.descending
    (sym c.starts_quote.ensures ∙ c.if-starts_quote.false) c.in_default.ensures.none c.in_ok-descending.ensures.ok

pub returns-then-starts_quote-clause-ok : goal.returns-then-starts_quote-clause-ok
returns-then-starts_quote-clause-ok c = search rules

pub returns-in_err-descending-clause-ok : goal.returns-in_err-descending-clause-ok
returns-in_err-descending-clause-ok c = never_ok c.from_residual-in_err-descending.result _ _ c.from_residual-in_err-descending.ensures.1

pub returns-in_err-descending-clause-within : goal.returns-in_err-descending-clause-within
returns-in_err-descending-clause-within c = never_ok c.from_residual-in_err-descending.result _ _ c.from_residual-in_err-descending.ensures.1

pub returns-in_err-key-clause-ok : goal.returns-in_err-key-clause-ok
returns-in_err-key-clause-ok c = never_ok c.from_residual.result _ _ c.from_residual.ensures.1

pub returns-in_err-key-clause-within : goal.returns-in_err-key-clause-within
returns-in_err-key-clause-within c = never_ok c.from_residual.result _ _ c.from_residual.ensures.1
