use Rattle.std.proofs.Common.{arith}
use Rattle.std.proofs.lemmas.Result.{IfErr-weaker, IfOk-weaker, err_from_is_err_and}
use Rattle.gremlin_parse.specs.Queries.{ValueOf, OpensValue, after_filter, relation_filter}
use Rattle.gremlin_parse.specs.Values.{value_of}
use Rattle.gremlin_parse.proofs.QueryReads.{on, stop_after_p, stop_at_relation, p_relation_leads, relation_leads}
use Rattle.gremlin_parse.proofs.QueryReads.{relation_within, token_shorter}
use Rattle.gremlin_parse.proofs.Exits.{never_ok}
use Rattle.gremlin_parse.proofs.comparison.read_comparison.Goals as goal

pub returns-in_err-at_relation-clause-err : goal.returns-in_err-at_relation-clause-err
returns-in_err-at_relation-clause-err c =
    let p = err_from_is_err_and c.from_residual.result c.from_residual.ensures.1 in
    rw (p.1, p.2) (stop_after_p c.args.bytes.now c.in-Some.at_dot.now c.in_err-at_relation.field-0.0 c.in-Some.ensures.some c.in_err-at_relation.ensures.err)

pub returns-in_err-relation-clause-err : goal.returns-in_err-relation-clause-err
returns-in_err-relation-clause-err c =
    let p = err_from_is_err_and c.from_residual-in_err-relation.result c.from_residual-in_err-relation.ensures.1 in
    rw (p.1, p.2) (stop_at_relation c.args.bytes.now c.in-Some.at_dot.now c.in_ok-at_relation.at_relation.now c.in_err-relation.field-0.0 c.in-Some.ensures.some
    c.in_ok-at_relation.ensures.ok c.in_err-relation.ensures.err)

pub returns-in-Some-clause-ok : goal.returns-in-Some-clause-ok
returns-in-Some-clause-ok c =
    let relation = c.in_ok-relation.relation in
    IfOk-weaker c.read_compared.result _ _
    (λ r leads into key. on (ValueOf into key) c.args.bytes.now (OpensValue into key relation) c.in_ok-relation.at_open.now
    (after_filter into (relation_filter key r.0 (value_of r.1))) r.2.now
    (p_relation_leads c.args.bytes.now c.in-Some.at_dot.now c.in_ok-at_relation.at_relation.now c.in_ok-relation.at_open.now relation c.in-Some.ensures.some
    c.in_ok-at_relation.ensures.ok c.in_ok-relation.ensures.ok into key) (leads into key))
    c.read_compared.ensures.ok

pub returns-in-Some-clause-within : goal.returns-in-Some-clause-within
returns-in-Some-clause-within c =
    let one = token_shorter 80 c.args.bytes.now c.in-Some.at_dot.now c.in-Some.ensures.some in
    let two = token_shorter 46 c.in-Some.at_dot.now c.in_ok-at_relation.at_relation.now c.in_ok-at_relation.ensures.ok in
    let three = relation_within c.in_ok-relation.relation c.in_ok-at_relation.at_relation.now c.in_ok-relation.at_open.now c.in_ok-relation.ensures.ok in
    IfOk-weaker c.read_compared.result _ _ (λ r within. omega (arith, one, two, three, within)) c.read_compared.ensures.within

pub returns-in-Some-clause-err : goal.returns-in-Some-clause-err
returns-in-Some-clause-err c =
    IfErr-weaker c.read_compared.result _ _
    (λ stop at into key. (p_relation_leads c.args.bytes.now c.in-Some.at_dot.now c.in_ok-at_relation.at_relation.now c.in_ok-relation.at_open.now
    c.in_ok-relation.relation c.in-Some.ensures.some c.in_ok-at_relation.ensures.ok c.in_ok-relation.ensures.ok into key).stops stop (at into key))
    c.read_compared.ensures.err

pub returns-in-Ok-clause-ok : goal.returns-in-Ok-clause-ok
returns-in-Ok-clause-ok c =
    let relation = c.in-Ok.relation in
    IfOk-weaker c.read_compared-in-Ok.result _ _
    (λ r leads into key. on (ValueOf into key) c.args.bytes.now (OpensValue into key relation) c.in-Ok.at_open.now
    (after_filter into (relation_filter key r.0 (value_of r.1))) r.2.now
    (relation_leads into key relation c.args.bytes.now c.in-Ok.at_open.now c.in-Ok.ensures.ok) (leads into key))
    c.read_compared-in-Ok.ensures.ok

pub returns-in-Ok-clause-within : goal.returns-in-Ok-clause-within
returns-in-Ok-clause-within c =
    let one = relation_within c.in-Ok.relation c.args.bytes.now c.in-Ok.at_open.now c.in-Ok.ensures.ok in
    IfOk-weaker c.read_compared-in-Ok.result _ _ (λ r within. omega (arith, one, within)) c.read_compared-in-Ok.ensures.within

pub returns-in-Ok-clause-err : goal.returns-in-Ok-clause-err
returns-in-Ok-clause-err c =
    IfErr-weaker c.read_compared-in-Ok.result _ _
    (λ stop at into key. (relation_leads into key c.in-Ok.relation c.args.bytes.now c.in-Ok.at_open.now c.in-Ok.ensures.ok).stops stop (at into key))
    c.read_compared-in-Ok.ensures.err

pub returns-in_err-at_relation-clause-ok : goal.returns-in_err-at_relation-clause-ok
returns-in_err-at_relation-clause-ok c = never_ok c.from_residual.result _ _ c.from_residual.ensures.1

pub returns-in_err-at_relation-clause-within : goal.returns-in_err-at_relation-clause-within
returns-in_err-at_relation-clause-within c = never_ok c.from_residual.result _ _ c.from_residual.ensures.1

pub returns-in_err-relation-clause-ok : goal.returns-in_err-relation-clause-ok
returns-in_err-relation-clause-ok c = never_ok c.from_residual-in_err-relation.result _ _ c.from_residual-in_err-relation.ensures.1

pub returns-in_err-relation-clause-within : goal.returns-in_err-relation-clause-within
returns-in_err-relation-clause-within c = never_ok c.from_residual-in_err-relation.result _ _ c.from_residual-in_err-relation.ensures.1
