use Rattle.std.proofs.Common.{List, ℕ, sym, ◌∙◌, subst}
use Rattle.std.proofs.lemmas.Result.{IfOk-weaker, IfErr-weaker}
use Rattle.gremlin_parse.specs.Queries.{opened_names, after_names, LeadsTo}
use Rattle.gremlin_parse.proofs.QueryReads.{no_names, quotes_needed, quotes_unclosed}
use Rattle.gremlin_parse.proofs.step.read_names.Goals as goal

pub returns-in-Some-clause-ok : goal.returns-in-Some-clause-ok
returns-in-Some-clause-ok c = λ purpose needs.
    let names = c.new-in-Some.ensures ∙ c.new.ensures.items in
    subst (λ (list : List (List ℕ)). LeadsTo (opened_names purpose) c.args.bytes.now (after_names purpose list) c.in-Some.rest.now) (sym names)
    (no_names purpose c.args.bytes.now c.in-Some.rest.now (needs ∙ c.if-is_needed.false) c.in-Some.ensures.some)

pub returns-then-is_needed-clause-err : goal.returns-then-is_needed-clause-err
returns-then-is_needed-clause-err c =
    IfErr-weaker c.read_some_names.result _ _
    (λ stop at purpose needs. at purpose (opened_names purpose) (quotes_needed purpose c.args.bytes.now (needs ∙ c.if-is_needed.true)))
    c.read_some_names.ensures.err

pub returns-then-is_needed-clause-ok : goal.returns-then-is_needed-clause-ok
returns-then-is_needed-clause-ok c =
    IfOk-weaker c.read_some_names.result _ _
    (λ r leads purpose needs. leads purpose (opened_names purpose) (quotes_needed purpose c.args.bytes.now (needs ∙ c.if-is_needed.true)))
    c.read_some_names.ensures.ok

pub returns-in-None-clause-err : goal.returns-in-None-clause-err
returns-in-None-clause-err c =
    IfErr-weaker c.read_some_names-in-None.result _ _
    (λ stop at purpose needs. at purpose (opened_names purpose) (quotes_unclosed purpose c.args.bytes.now (needs ∙ c.if-is_needed.false)
    c.in-None.ensures.none))
    c.read_some_names-in-None.ensures.err

pub returns-in-None-clause-ok : goal.returns-in-None-clause-ok
returns-in-None-clause-ok c =
    IfOk-weaker c.read_some_names-in-None.result _ _
    (λ r leads purpose needs. leads purpose (opened_names purpose) (quotes_unclosed purpose c.args.bytes.now (needs ∙ c.if-is_needed.false)
    c.in-None.ensures.none))
    c.read_some_names-in-None.ensures.ok
