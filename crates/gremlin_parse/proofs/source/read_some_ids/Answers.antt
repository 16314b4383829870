use Rattle.std.proofs.Common.{List, ℕ, ◌++◌, ◌∷◌, [], sym, ◌∙◌, ap, subst}
use Rattle.std.proofs.lemmas.Result.{err_from_is_err_and}
use Rattle.gremlin_parse.specs.Queries.{FirstId, Steps, elements_of, query_from, LeadsTo}
use Rattle.gremlin_parse.proofs.QueryReads.{IdsSoFar, stop_at_first_id, stop_after_first_id, stop_in_ids, stop_after_id, first_ids, ids_more, ids_done}
use Rattle.gremlin_parse.proofs.Exits.{never_ok}
use Rattle.gremlin_parse.proofs.source.read_some_ids.Goals as goal

pub returns-in_err-first-clause-err : goal.returns-in_err-first-clause-err
returns-in_err-first-clause-err c =
    let p = err_from_is_err_and c.from_residual.result c.from_residual.ensures.1 in
    rw (p.1, p.2) (λ edges. stop_at_first_id edges c.args.bytes.now c.in_err-first.field-0.0 c.requires c.in_err-first.ensures.err)

pub returns-in_err-more-clause-err : goal.returns-in_err-more-clause-err
returns-in_err-more-clause-err c =
    let p = err_from_is_err_and c.from_residual-in_err-more.result c.from_residual-in_err-more.ensures.1 in
    rw (p.1, p.2) (stop_after_first_id c.args.bytes.now c.in_ok-first.after_first.now c.in_ok-first.first c.in_err-more.field-0.0 c.in_ok-first.ensures.ok
    c.in_err-more.ensures.err)

pub loop-more-init : goal.loop-more-init
loop-more-init c =
    let list = c.in_ok-push_id.ensures.ok ∙ ap (λ (ids : List ℕ). ids ++ c.in_ok-first.first ∷ []) c.new-ids.ensures.items in
    subst (λ (ids : List ℕ). IdsSoFar c.args.bytes.now c.in_ok-more.more ids c.in_ok-more.rest.now) (sym list)
    (first_ids c.args.bytes.now c.in_ok-first.after_first.now c.in_ok-more.rest.now c.in_ok-first.first c.in_ok-more.more c.in_ok-first.ensures.ok
    c.in_ok-more.ensures.ok)

pub returns-in_err-id-clause-err : goal.returns-in_err-id-clause-err
returns-in_err-id-clause-err c =
    let p = err_from_is_err_and c.from_residual-in_err-id.result c.from_residual-in_err-id.ensures.1 in
    rw (p.1, p.2) (stop_in_ids c.args.bytes.now c.loop-more.rest.now c.loop-more.ids.items c.loop-more.more c.in_err-id.field-0.0 c.loop-more-test.true
    c.loop-more.invariant c.in_err-id.ensures.err)

pub returns-in_err-again-clause-err : goal.returns-in_err-again-clause-err
returns-in_err-again-clause-err c =
    let p = err_from_is_err_and c.from_residual-in_err-again.result c.from_residual-in_err-again.ensures.1 in
    rw (p.1, p.2) (stop_after_id c.args.bytes.now c.loop-more.rest.now c.in_ok-id.after_id.now c.loop-more.ids.items c.in_ok-id.id c.loop-more.more
    c.in_err-again.field-0.0 c.loop-more-test.true c.loop-more.invariant c.in_ok-id.ensures.ok c.in_err-again.ensures.err)

pub loop-more-preserved : goal.loop-more-preserved
loop-more-preserved c =
    subst (λ (ids : List ℕ). IdsSoFar c.args.bytes.now c.in_ok-again.again ids c.in_ok-again.after.now) (sym c.in_ok-push_id-2.ensures.ok)
    (ids_more c.args.bytes.now c.loop-more.rest.now c.in_ok-id.after_id.now c.in_ok-again.after.now c.loop-more.ids.items c.in_ok-id.id c.loop-more.more
    c.in_ok-again.again c.loop-more-test.true c.loop-more.invariant c.in_ok-id.ensures.ok c.in_ok-again.ensures.ok)

pub returns-clause-ok : goal.returns-clause-ok
returns-clause-ok c = λ edges.
    subst (λ (ids : List ℕ). LeadsTo (FirstId edges) c.args.bytes.now (Steps (query_from (elements_of edges ids))) c.loop-more.rest.now) (sym c.new.ensures)
    (ids_done c.args.bytes.now c.loop-more.rest.now c.loop-more.ids.items c.loop-more.more c.loop-more-test.false c.loop-more.invariant edges)

pub returns-in_err-first-clause-ok : goal.returns-in_err-first-clause-ok
returns-in_err-first-clause-ok c = never_ok c.from_residual.result _ _ c.from_residual.ensures.1

pub returns-in_err-more-clause-ok : goal.returns-in_err-more-clause-ok
returns-in_err-more-clause-ok c = never_ok c.from_residual-in_err-more.result _ _ c.from_residual-in_err-more.ensures.1

pub returns-in_err-id-clause-ok : goal.returns-in_err-id-clause-ok
returns-in_err-id-clause-ok c = never_ok c.from_residual-in_err-id.result _ _ c.from_residual-in_err-id.ensures.1

pub returns-in_err-again-clause-ok : goal.returns-in_err-again-clause-ok
returns-in_err-again-clause-ok c = never_ok c.from_residual-in_err-again.result _ _ c.from_residual-in_err-again.ensures.1
