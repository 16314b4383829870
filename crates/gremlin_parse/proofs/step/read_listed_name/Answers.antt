use Rattle.std.proofs.Common.{arith}
use Rattle.std.proofs.lemmas.Result.{err_from_is_err_and}
use Rattle.gremlin_parse.specs.Queries.{OneName}
use Rattle.gremlin_parse.proofs.QueryReads.{name_listed, stop_after_name}
use Rattle.gremlin_parse.proofs.Exits.{never_ok}
use Rattle.gremlin_parse.proofs.step.read_listed_name.Goals as goal

pub returns-in_err-name-clause-err : goal.returns-in_err-name-clause-err
returns-in_err-name-clause-err c =
    let p = err_from_is_err_and c.from_residual.result c.from_residual.ensures.1 in
    rw (p.1, p.2) (λ purpose names place quotes. c.in_err-name.ensures.err place (OneName purpose names) quotes)

pub returns-in_err-more-clause-err : goal.returns-in_err-more-clause-err
returns-in_err-more-clause-err c =
    let p = err_from_is_err_and c.from_residual-in_err-more.result c.from_residual-in_err-more.ensures.1 in
    rw (p.1, p.2) (stop_after_name c.args.bytes.now c.in_ok-name.after_name.now c.in_ok-name.name.now c.in_err-more.field-0.0 c.in_ok-name.ensures.ok
    c.in_err-more.ensures.err)

pub returns-clause-ok : goal.returns-clause-ok
returns-clause-ok c = name_listed c.args.bytes.now c.in_ok-name.after_name.now c.in_ok-more.rest.now c.in_ok-name.name.now c.in_ok-more.more
    c.in_ok-name.ensures.ok c.in_ok-more.ensures.ok

pub returns-clause-less : goal.returns-clause-less
returns-clause-less c =
    let shorter = c.in_ok-name.ensures.within in
    let less = c.in_ok-more.ensures.less in
    omega (arith, shorter, less)

pub returns-in_err-name-clause-ok : goal.returns-in_err-name-clause-ok
returns-in_err-name-clause-ok c = never_ok c.from_residual.result _ _ c.from_residual.ensures.1

pub returns-in_err-name-clause-less : goal.returns-in_err-name-clause-less
returns-in_err-name-clause-less c = never_ok c.from_residual.result _ _ c.from_residual.ensures.1

pub returns-in_err-more-clause-ok : goal.returns-in_err-more-clause-ok
returns-in_err-more-clause-ok c = never_ok c.from_residual-in_err-more.result _ _ c.from_residual-in_err-more.ensures.1

pub returns-in_err-more-clause-less : goal.returns-in_err-more-clause-less
returns-in_err-more-clause-less c = never_ok c.from_residual-in_err-more.result _ _ c.from_residual-in_err-more.ensures.1
