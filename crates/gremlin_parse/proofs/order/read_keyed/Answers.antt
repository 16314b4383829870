use Rattle.std.proofs.Common.{List, ℕ, Some, false, sym, subst}
use Rattle.std.proofs.lemmas.Result.{err_from_is_err_and}
use Rattle.gremlin_parse.specs.Queries.{Steps, ByFirst, LeadsTo, reordered}
use Rattle.gremlin_parse.proofs.OrderReads.{stop_in_order_key, stop_after_order_key, key_read, stop_after_key_comma, keyed_read}
use Rattle.gremlin_parse.proofs.Exits.{never_ok}
use Rattle.gremlin_parse.proofs.order.read_keyed.Goals as goal

pub returns-in_err-name-clause-err : goal.returns-in_err-name-clause-err
returns-in_err-name-clause-err c =
    let p = err_from_is_err_and c.from_residual.result c.from_residual.ensures.1 in
    rw (p.1, p.2) (stop_in_order_key c.args.bytes.now c.in_err-name.field-0.0 c.requires c.in_err-name.ensures.err)

pub returns-in_err-more-clause-err : goal.returns-in_err-more-clause-err
returns-in_err-more-clause-err c =
    let p = err_from_is_err_and c.from_residual-in_err-more.result c.from_residual-in_err-more.ensures.1 in
    rw (p.1, p.2) (stop_after_order_key c.in_ok-name.name.now c.args.bytes.now c.in_ok-name.after_name.now c.in_err-more.field-0.0 c.requires
    c.in_ok-name.ensures.ok c.in_err-more.ensures.err)

pub returns-then-not-more-clause-ok : goal.returns-then-not-more-clause-ok
returns-then-not-more-clause-ok c = λ query.
    subst (λ (key : List ℕ). LeadsTo (ByFirst query) c.args.bytes.now (Steps (reordered query (Some key) false)) c.in_ok-more.at_direction.now)
    (sym c.in_ok-key.ensures.ok) (key_read c.in_ok-name.name.now c.args.bytes.now c.in_ok-name.after_name.now c.in_ok-more.at_direction.now c.in_ok-more.more
    c.if-not-more.true c.requires c.in_ok-name.ensures.ok c.in_ok-more.ensures.ok query)

pub returns-in_err-descending-clause-err : goal.returns-in_err-descending-clause-err
returns-in_err-descending-clause-err c =
    let p = err_from_is_err_and c.from_residual-in_err-descending.result c.from_residual-in_err-descending.ensures.1 in
    rw (p.1, p.2) (stop_after_key_comma c.in_ok-name.name.now c.args.bytes.now c.in_ok-name.after_name.now c.in_ok-more.at_direction.now c.in_ok-more.more
    c.in_err-descending.field-0.0 c.if-not-more.false c.requires c.in_ok-name.ensures.ok c.in_ok-more.ensures.ok c.in_err-descending.ensures.err)

pub returns-clause-ok : goal.returns-clause-ok
returns-clause-ok c = λ query.
    subst (λ (key : List ℕ). LeadsTo (ByFirst query) c.args.bytes.now (Steps (reordered query (Some key) c.in_ok-descending.descending))
    c.in_ok-descending.rest.now) (sym c.in_ok-key.ensures.ok) (keyed_read c.in_ok-name.name.now c.args.bytes.now c.in_ok-name.after_name.now
    c.in_ok-more.at_direction.now c.in_ok-descending.rest.now c.in_ok-more.more c.in_ok-descending.descending c.if-not-more.false c.requires
    c.in_ok-name.ensures.ok c.in_ok-more.ensures.ok c.in_ok-descending.ensures.ok query)

pub returns-in_err-name-clause-ok : goal.returns-in_err-name-clause-ok
returns-in_err-name-clause-ok c = never_ok c.from_residual.result _ _ c.from_residual.ensures.1

pub returns-in_err-name-clause-within : goal.returns-in_err-name-clause-within
returns-in_err-name-clause-within c = never_ok c.from_residual.result _ _ c.from_residual.ensures.1

pub returns-in_err-more-clause-ok : goal.returns-in_err-more-clause-ok
returns-in_err-more-clause-ok c = never_ok c.from_residual-in_err-more.result _ _ c.from_residual-in_err-more.ensures.1

pub returns-in_err-more-clause-within : goal.returns-in_err-more-clause-within
returns-in_err-more-clause-within c = never_ok c.from_residual-in_err-more.result _ _ c.from_residual-in_err-more.ensures.1

pub returns-in_err-descending-clause-ok : goal.returns-in_err-descending-clause-ok
returns-in_err-descending-clause-ok c = never_ok c.from_residual-in_err-descending.result _ _ c.from_residual-in_err-descending.ensures.1

pub returns-in_err-descending-clause-within : goal.returns-in_err-descending-clause-within
returns-in_err-descending-clause-within c = never_ok c.from_residual-in_err-descending.result _ _ c.from_residual-in_err-descending.ensures.1

pub returns-in_err-key-clause-ok : goal.returns-in_err-key-clause-ok
returns-in_err-key-clause-ok c = never_ok c.from_residual-in_err-key.result _ _ c.from_residual-in_err-key.ensures.1

pub returns-in_err-key-clause-within : goal.returns-in_err-key-clause-within
returns-in_err-key-clause-within c = never_ok c.from_residual-in_err-key.result _ _ c.from_residual-in_err-key.ensures.1
