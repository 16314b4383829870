use Rattle.std.proofs.lemmas.Result.{err_from_is_err_and, IfOk-weaker, IfErr-weaker}
use Rattle.gremlin_parse.specs.Queries.{property_words}
use Rattle.gremlin_parse.proofs.QueryReads.{opening_shorter}
use Rattle.gremlin_parse.proofs.MutationReads.{property_name_read, stop_at_property_dot, stop_at_property_name, stop_at_property_opening}
use Rattle.gremlin_parse.proofs.RepeatReads.{before_33rd}
use Rattle.gremlin_parse.proofs.Exits.{never_ok}
use Rattle.gremlin_parse.proofs.mutation.read_property_name.Goals as goal

pub returns-in_err-at_name-clause-err : goal.returns-in_err-at_name-clause-err
returns-in_err-at_name-clause-err c =
    let p = err_from_is_err_and c.from_residual.result c.from_residual.ensures.1 in
    rw (p.1, p.2) (λ subject pairs same. stop_at_property_dot c.args.bytes.now c.in_err-at_name.field-0.0 c.requires c.in_err-at_name.ensures.err subject pairs)

pub returns-in_err-named-clause-err : goal.returns-in_err-named-clause-err
returns-in_err-named-clause-err c =
    let p = err_from_is_err_and c.from_residual-in_err-named.result c.from_residual-in_err-named.ensures.1 in
    rw (p.1, p.2) (stop_at_property_name c.args.before c.args.bytes.now c.in_ok-at_name.at_name.now c.in_err-named.field-0.0 c.in_ok-at_name.ensures.ok
    c.in_err-named.ensures.err)

pub returns-clause-err : goal.returns-clause-err
returns-clause-err c =
    IfErr-weaker c.read_token-2.result _ _
    (λ stop at. stop_at_property_opening c.args.before c.args.bytes.now c.in_ok-at_name.at_name.now c.in_ok-named.named.1.now c.skip_blanks-at_open.result.now
    c.in_ok-named.named.0 stop c.in_ok-at_name.ensures.ok c.in_ok-named.ensures.no_fault c.in_ok-named.ensures.ok c.skip_blanks-at_open.ensures at)
    c.read_token-2.ensures.err

pub returns-clause-ok : goal.returns-clause-ok
returns-clause-ok c =
    IfOk-weaker c.read_token-2.result _ _
    (λ rest reads. property_name_read c.args.before c.args.bytes.now c.in_ok-at_name.at_name.now c.in_ok-named.named.1.now c.skip_blanks-at_open.result.now
    rest.now c.in_ok-named.named.0 c.in_ok-at_name.ensures.ok c.in_ok-named.ensures.no_fault c.in_ok-named.ensures.ok c.skip_blanks-at_open.ensures reads)
    c.read_token-2.ensures.ok

pub returns-clause-early : goal.returns-clause-early
returns-clause-early c =
    IfOk-weaker c.read_token-2.result _ _
    (λ rest reads. before_33rd c.args.before c.in_ok-named.ensures.no_fault)
    c.read_token-2.ensures.ok

pub returns-clause-less : goal.returns-clause-less
returns-clause-less c =
    IfOk-weaker c.read_token-2.result _ _
    (λ rest reads. opening_shorter property_words c.args.bytes.now c.in_ok-at_name.at_name.now c.in_ok-named.named.1.now c.skip_blanks-at_open.result.now
    rest.now c.in_ok-named.named.0 c.in_ok-at_name.ensures.ok c.in_ok-named.ensures.ok c.skip_blanks-at_open.ensures reads)
    c.read_token-2.ensures.ok

pub returns-in_err-at_name-clause-ok : goal.returns-in_err-at_name-clause-ok
returns-in_err-at_name-clause-ok c = never_ok c.from_residual.result _ _ c.from_residual.ensures.1

pub returns-in_err-at_name-clause-early : goal.returns-in_err-at_name-clause-early
returns-in_err-at_name-clause-early c = never_ok c.from_residual.result _ _ c.from_residual.ensures.1

pub returns-in_err-at_name-clause-less : goal.returns-in_err-at_name-clause-less
returns-in_err-at_name-clause-less c = never_ok c.from_residual.result _ _ c.from_residual.ensures.1

pub returns-in_err-named-clause-ok : goal.returns-in_err-named-clause-ok
returns-in_err-named-clause-ok c = never_ok c.from_residual-in_err-named.result _ _ c.from_residual-in_err-named.ensures.1

pub returns-in_err-named-clause-early : goal.returns-in_err-named-clause-early
returns-in_err-named-clause-early c = never_ok c.from_residual-in_err-named.result _ _ c.from_residual-in_err-named.ensures.1

pub returns-in_err-named-clause-less : goal.returns-in_err-named-clause-less
returns-in_err-named-clause-less c = never_ok c.from_residual-in_err-named.result _ _ c.from_residual-in_err-named.ensures.1
