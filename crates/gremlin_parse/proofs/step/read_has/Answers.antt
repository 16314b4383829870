use Rattle.std.proofs.Common.{List, ℕ, sym, subst}
use Rattle.std.proofs.lemmas.Result.{err_from_is_err_and}
use Rattle.plain_graph.specs.declared.filter.Filter.{Filter}
use Rattle.plain_graph.specs.declared.filter.Filter.TheVariants as filters
use Rattle.gremlin_parse.specs.Values.{value_of}
use Rattle.gremlin_parse.specs.Queries.{Quote, Key, after_filter, LeadsTo}
use Rattle.gremlin_parse.proofs.QueryReads.{stop_in_key, stop_after_key, stop_in_comparison, has_read, comparison_read, stop_of_memory}
use Rattle.gremlin_parse.proofs.Exits.{never_ok}
use Rattle.gremlin_parse.proofs.step.read_has.Goals as goal

pub returns-in_err-name-clause-err : goal.returns-in_err-name-clause-err
returns-in_err-name-clause-err c =
    let p = err_from_is_err_and c.from_residual.result c.from_residual.ensures.1 in
    rw (p.1, p.2) (stop_in_key c.args.bytes.now c.in_err-name.field-0.0 c.in_err-name.ensures.err)

pub returns-in_err-more-clause-err : goal.returns-in_err-more-clause-err
returns-in_err-more-clause-err c =
    let p = err_from_is_err_and c.from_residual-in_err-more.result c.from_residual-in_err-more.ensures.1 in
    rw (p.1, p.2) (stop_after_key c.in_ok-name.name.now c.args.bytes.now c.in_ok-name.after_name.now c.in_err-more.field-0.0 c.in_ok-name.ensures.ok
    c.in_err-more.ensures.err)

pub returns-then-not-more-clause-ok : goal.returns-then-not-more-clause-ok
returns-then-not-more-clause-ok c = λ into.
    subst (λ (key : List ℕ). LeadsTo (Quote (Key into)) c.args.bytes.now (after_filter into (filters.Has key)) c.in_ok-more.at_value.now)
    (sym c.in_ok-key.ensures.ok) (has_read c.in_ok-name.name.now c.args.bytes.now c.in_ok-name.after_name.now c.in_ok-more.at_value.now c.in_ok-more.more
    c.if-not-more.true c.in_ok-name.ensures.ok c.in_ok-more.ensures.ok into)

pub returns-in_err-relation-clause-err : goal.returns-in_err-relation-clause-err
returns-in_err-relation-clause-err c =
    let p = err_from_is_err_and c.from_residual-in_err-relation.result c.from_residual-in_err-relation.ensures.1 in
    rw (p.1, p.2) (stop_in_comparison c.in_ok-name.name.now c.args.bytes.now c.in_ok-name.after_name.now c.in_ok-more.at_value.now c.in_ok-more.more
    c.in_err-relation.field-0.0 c.if-not-more.false c.in_ok-name.ensures.ok c.in_ok-more.ensures.ok c.in_err-relation.ensures.err)

pub returns-in_err-key-clause-err : goal.returns-in_err-key-clause-err
returns-in_err-key-clause-err c =
    let p = err_from_is_err_and c.from_residual-in_err-key.result c.from_residual-in_err-key.ensures.1 in
    rw (p.1, p.2) (λ into. stop_of_memory (Quote (Key into)) c.args.bytes.now c.in_err-key.field-0.0 c.in_err-key.ensures.err)

pub returns-in_err-filter-clause-err : goal.returns-in_err-filter-clause-err
returns-in_err-filter-clause-err c =
    let p = err_from_is_err_and c.from_residual-in_err-filter.result c.from_residual-in_err-filter.ensures.1 in
    rw (p.1, p.2) (λ into. stop_of_memory (Quote (Key into)) c.args.bytes.now c.in_err-filter.field-0.0 c.in_err-filter.ensures.err)

pub returns-clause-ok : goal.returns-clause-ok
returns-clause-ok c = λ into.
    subst (λ (filter : Filter). LeadsTo (Quote (Key into)) c.args.bytes.now (after_filter into filter) c.in_ok-relation.rest.now)
    (sym c.in_ok-filter.ensures.ok)
    (comparison_read c.in_ok-name.name.now c.args.bytes.now c.in_ok-name.after_name.now c.in_ok-more.at_value.now c.in_ok-relation.rest.now
    c.in_ok-relation.relation (value_of c.in_ok-relation.written) c.in_ok-more.more c.if-not-more.false c.in_ok-name.ensures.ok c.in_ok-more.ensures.ok
    c.in_ok-relation.ensures.ok into)

pub returns-in_err-name-clause-ok : goal.returns-in_err-name-clause-ok
returns-in_err-name-clause-ok c = never_ok c.from_residual.result _ _ c.from_residual.ensures.1

pub returns-in_err-name-clause-within : goal.returns-in_err-name-clause-within
returns-in_err-name-clause-within c = never_ok c.from_residual.result _ _ c.from_residual.ensures.1

pub returns-in_err-key-clause-ok : goal.returns-in_err-key-clause-ok
returns-in_err-key-clause-ok c = never_ok c.from_residual-in_err-key.result _ _ c.from_residual-in_err-key.ensures.1

pub returns-in_err-key-clause-within : goal.returns-in_err-key-clause-within
returns-in_err-key-clause-within c = never_ok c.from_residual-in_err-key.result _ _ c.from_residual-in_err-key.ensures.1

pub returns-in_err-more-clause-ok : goal.returns-in_err-more-clause-ok
returns-in_err-more-clause-ok c = never_ok c.from_residual-in_err-more.result _ _ c.from_residual-in_err-more.ensures.1

pub returns-in_err-more-clause-within : goal.returns-in_err-more-clause-within
returns-in_err-more-clause-within c = never_ok c.from_residual-in_err-more.result _ _ c.from_residual-in_err-more.ensures.1

pub returns-in_err-relation-clause-ok : goal.returns-in_err-relation-clause-ok
returns-in_err-relation-clause-ok c = never_ok c.from_residual-in_err-relation.result _ _ c.from_residual-in_err-relation.ensures.1

pub returns-in_err-relation-clause-within : goal.returns-in_err-relation-clause-within
returns-in_err-relation-clause-within c = never_ok c.from_residual-in_err-relation.result _ _ c.from_residual-in_err-relation.ensures.1

pub returns-in_err-filter-clause-ok : goal.returns-in_err-filter-clause-ok
returns-in_err-filter-clause-ok c = never_ok c.from_residual-in_err-filter.result _ _ c.from_residual-in_err-filter.ensures.1

pub returns-in_err-filter-clause-within : goal.returns-in_err-filter-clause-within
returns-in_err-filter-clause-within c = never_ok c.from_residual-in_err-filter.result _ _ c.from_residual-in_err-filter.ensures.1
