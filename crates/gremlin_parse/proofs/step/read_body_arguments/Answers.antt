use Rattle.std.proofs.Common.{sym, subst, refl}
use Rattle.std.proofs.lemmas.Result.{err_from_is_err_and}
use Rattle.plain_graph.specs.declared.filter.Filter.TheVariants as filters
use Rattle.plain_graph.specs.declared.query.BodyStep.TheVariants as bodies
use Rattle.gremlin_parse.specs.Queries.{OfHop, OfLabels, opened_body, after_step, LeadsTo, StopsFrom}
use Rattle.gremlin_parse.specs.declared.step_word.BodyWord.{BodyWord}
use Rattle.gremlin_parse.proofs.Exits.{never_ok}
use Rattle.gremlin_parse.proofs.step.read_body_arguments.Goals as goal

pub returns-in_err-labels-in-Neighbours-clause-err : goal.returns-in_err-labels-in-Neighbours-clause-err
returns-in_err-labels-in-Neighbours-clause-err c =
    let p = err_from_is_err_and c.from_residual.result c.from_residual.ensures.1 in
    rw (p.1, p.2) (λ into. subst (λ (w : BodyWord). StopsFrom (opened_body into w) c.args.bytes.now c.in_err-labels-in-Neighbours.field-0.0)
    (sym c.in-Neighbours.is) (c.in_err-labels-in-Neighbours.ensures.err (OfHop into c.in-Neighbours.direction) refl))

pub returns-in_err-labels-in-HasLabel-clause-err : goal.returns-in_err-labels-in-HasLabel-clause-err
returns-in_err-labels-in-HasLabel-clause-err c =
    let p = err_from_is_err_and c.from_residual-in_err-labels-in-HasLabel.result c.from_residual-in_err-labels-in-HasLabel.ensures.1 in
    rw (p.1, p.2) (λ into. subst (λ (w : BodyWord). StopsFrom (opened_body into w) c.args.bytes.now c.in_err-labels-in-HasLabel.field-0.0)
    (sym c.in-HasLabel.is) (c.in_err-labels-in-HasLabel.ensures.err (OfLabels into) refl))

pub returns-in_err-filter-in-Has-clause-err : goal.returns-in_err-filter-in-Has-clause-err
returns-in_err-filter-in-Has-clause-err c =
    let p = err_from_is_err_and c.from_residual-in_err-filter-in-Has.result c.from_residual-in_err-filter-in-Has.ensures.1 in
    rw (p.1, p.2) (λ into. subst (λ (w : BodyWord). StopsFrom (opened_body into w) c.args.bytes.now c.in_err-filter-in-Has.field-0.0) (sym c.in-Has.is)
    (c.in_err-filter-in-Has.ensures.err into))

pub returns-in_ok-labels-in-Neighbours-clause-ok : goal.returns-in_ok-labels-in-Neighbours-clause-ok
returns-in_ok-labels-in-Neighbours-clause-ok c = λ into.
    subst (λ (w : BodyWord). LeadsTo (opened_body into w) c.args.bytes.now
    (after_step into (bodies.Neighbours (record { direction = c.in-Neighbours.direction; labels = c.in_ok-labels-in-Neighbours.labels })))
    c.in_ok-labels-in-Neighbours.rest.now) (sym c.in-Neighbours.is) (c.in_ok-labels-in-Neighbours.ensures.ok (OfHop into c.in-Neighbours.direction) refl)

pub returns-in_ok-labels-in-HasLabel-clause-ok : goal.returns-in_ok-labels-in-HasLabel-clause-ok
returns-in_ok-labels-in-HasLabel-clause-ok c = λ into.
    subst (λ (w : BodyWord). LeadsTo (opened_body into w) c.args.bytes.now
    (after_step into (bodies.Filter (filters.HasLabel c.in_ok-labels-in-HasLabel.labels))) c.in_ok-labels-in-HasLabel.rest.now) (sym c.in-HasLabel.is)
    (c.in_ok-labels-in-HasLabel.ensures.ok (OfLabels into) refl)

pub returns-in_err-labels-in-Neighbours-clause-ok : goal.returns-in_err-labels-in-Neighbours-clause-ok
returns-in_err-labels-in-Neighbours-clause-ok c = never_ok c.from_residual.result _ _ c.from_residual.ensures.1

pub returns-in_err-labels-in-Neighbours-clause-within : goal.returns-in_err-labels-in-Neighbours-clause-within
returns-in_err-labels-in-Neighbours-clause-within c = never_ok c.from_residual.result _ _ c.from_residual.ensures.1

pub returns-in_err-labels-in-HasLabel-clause-ok : goal.returns-in_err-labels-in-HasLabel-clause-ok
returns-in_err-labels-in-HasLabel-clause-ok c = never_ok c.from_residual-in_err-labels-in-HasLabel.result _ _
    c.from_residual-in_err-labels-in-HasLabel.ensures.1

pub returns-in_err-labels-in-HasLabel-clause-within : goal.returns-in_err-labels-in-HasLabel-clause-within
returns-in_err-labels-in-HasLabel-clause-within c = never_ok c.from_residual-in_err-labels-in-HasLabel.result _ _
    c.from_residual-in_err-labels-in-HasLabel.ensures.1

pub returns-in_err-filter-in-Has-clause-ok : goal.returns-in_err-filter-in-Has-clause-ok
returns-in_err-filter-in-Has-clause-ok c = never_ok c.from_residual-in_err-filter-in-Has.result _ _ c.from_residual-in_err-filter-in-Has.ensures.1

pub returns-in_err-filter-in-Has-clause-within : goal.returns-in_err-filter-in-Has-clause-within
returns-in_err-filter-in-Has-clause-within c = never_ok c.from_residual-in_err-filter-in-Has.result _ _ c.from_residual-in_err-filter-in-Has.ensures.1
