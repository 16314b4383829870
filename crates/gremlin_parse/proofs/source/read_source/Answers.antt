use Rattle.std.proofs.Common.{refl}
use Rattle.std.proofs.lemmas.Result.{err_from_is_err_and}
use Rattle.gremlin_parse.specs.Queries.{Start, SourceName}
use Rattle.gremlin_parse.proofs.QueryReads.{source_read, stop_at_sign, stop_in_kind, stop_in_opening}
use Rattle.gremlin_parse.proofs.Exits.{never_ok}
use Rattle.gremlin_parse.proofs.source.read_source.Goals as goal

pub returns-in_err-at_kind-clause-err : goal.returns-in_err-at_kind-clause-err
returns-in_err-at_kind-clause-err c =
    let p = err_from_is_err_and c.from_residual.result c.from_residual.ensures.1 in
    rw (p.1, p.2) (stop_at_sign Start 46 SourceName c.args.bytes.now c.in_err-at_kind.field-0.0 refl c.in_err-at_kind.ensures.err)

pub returns-in_err-kind-clause-err : goal.returns-in_err-kind-clause-err
returns-in_err-kind-clause-err c =
    let p = err_from_is_err_and c.from_residual-in_err-kind.result c.from_residual-in_err-kind.ensures.1 in
    rw (p.1, p.2) (stop_in_kind c.args.bytes.now c.in_ok-at_kind.at_kind.now c.in_err-kind.field-0.0 c.in_ok-at_kind.ensures.ok c.in_err-kind.ensures.err)

pub returns-in_err-rest-clause-err : goal.returns-in_err-rest-clause-err
returns-in_err-rest-clause-err c =
    let p = err_from_is_err_and c.from_residual-in_err-rest.result c.from_residual-in_err-rest.ensures.1 in
    rw (p.1, p.2) (stop_in_opening c.args.bytes.now c.in_ok-at_kind.at_kind.now c.in_ok-kind.at_open.now c.in_ok-kind.kind c.in_err-rest.field-0.0
    c.in_ok-at_kind.ensures.ok c.in_ok-kind.ensures.ok c.in_err-rest.ensures.err)

pub returns-clause-ok : goal.returns-clause-ok
returns-clause-ok c = source_read c.args.bytes.now c.in_ok-at_kind.at_kind.now c.in_ok-kind.at_open.now c.in_ok-rest.rest.now c.in_ok-kind.kind
    c.in_ok-at_kind.ensures.ok c.in_ok-kind.ensures.ok c.in_ok-rest.ensures.ok

pub returns-in_err-at_kind-clause-ok : goal.returns-in_err-at_kind-clause-ok
returns-in_err-at_kind-clause-ok c = never_ok c.from_residual.result _ _ c.from_residual.ensures.1

pub returns-in_err-kind-clause-ok : goal.returns-in_err-kind-clause-ok
returns-in_err-kind-clause-ok c = never_ok c.from_residual-in_err-kind.result _ _ c.from_residual-in_err-kind.ensures.1

pub returns-in_err-rest-clause-ok : goal.returns-in_err-rest-clause-ok
returns-in_err-rest-clause-ok c = never_ok c.from_residual-in_err-rest.result _ _ c.from_residual-in_err-rest.ensures.1
