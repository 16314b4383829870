use Rattle.std.proofs.Common.{sym, subst, ap, ◌∙◌, refl}
use Rattle.std.proofs.lemmas.Result.{err_from_is_err_and, IfErr-weaker, IfOk-weaker}
use Rattle.plain_graph.specs.declared.query.Step.{Step}
use Rattle.gremlin_parse.specs.Queries.{OfQuery, OfStep, Steps, Ordered, with_step, after_word, opened, IsOrderStep, LeadsTo, StopsFrom}
use Rattle.gremlin_parse.specs.Stages.{step_count}
use Rattle.gremlin_parse.specs.declared.stage.Stage.{Stage}
use Rattle.gremlin_parse.specs.declared.step_word.StepWord.{StepWord}
use Rattle.gremlin_parse.specs.declared.step_word.StepWord.TheVariants as words
use Rattle.gremlin_parse.proofs.QueryReads.{bare_read, stop_in_bare}
use Rattle.gremlin_parse.proofs.OrderReads.{stop_in_order, order_read}
use Rattle.gremlin_parse.proofs.RepeatReads.{one_more, repeat_few, one_bare, one_with_names, one_of_body}
use Rattle.gremlin_parse.proofs.Exits.{never_ok}
use Rattle.gremlin_parse.proofs.step.read_arguments.Goals as goal

pub returns-in_err-rest-in-Bare-clause-err : goal.returns-in_err-rest-in-Bare-clause-err
returns-in_err-rest-in-Bare-clause-err c =
    let p = err_from_is_err_and c.from_residual.result c.from_residual.ensures.1 in
    rw (p.1, p.2) (λ query same. subst (λ (w : StepWord). StopsFrom (opened query w) c.args.bytes.now c.in_err-rest-in-Bare.field-0.0) (sym c.in-Bare.is)
    (stop_in_bare query c.in-Bare.bare c.args.bytes.now c.in_err-rest-in-Bare.field-0.0 c.in_err-rest-in-Bare.ensures.err))

pub returns-in_err-names-in-Names-clause-err : goal.returns-in_err-names-in-Names-clause-err
returns-in_err-names-in-Names-clause-err c =
    let p = err_from_is_err_and c.from_residual-in_err-names-in-Names.result c.from_residual-in_err-names-in-Names.ensures.1 in
    rw (p.1, p.2) (λ query same. subst (λ (w : StepWord). StopsFrom (opened query w) c.args.bytes.now c.in_err-names-in-Names.field-0.0) (sym c.in-Names.is)
    (c.in_err-names-in-Names.ensures.err (OfStep query c.in-Names.step) refl))

pub returns-in_err-step-in-Body-clause-err : goal.returns-in_err-step-in-Body-clause-err
returns-in_err-step-in-Body-clause-err c =
    let p = err_from_is_err_and c.from_residual-in_err-step-in-Body.result c.from_residual-in_err-step-in-Body.ensures.1 in
    rw (p.1, p.2) (λ query same. subst (λ (w : StepWord). StopsFrom (opened query w) c.args.bytes.now c.in_err-step-in-Body.field-0.0) (sym c.in-Body.is)
    (c.in_err-step-in-Body.ensures.err (OfQuery query)))

pub returns-in_err-most-in-Limit-clause-err : goal.returns-in_err-most-in-Limit-clause-err
returns-in_err-most-in-Limit-clause-err c =
    let p = err_from_is_err_and c.from_residual-in_err-most-in-Limit.result c.from_residual-in_err-most-in-Limit.ensures.1 in
    rw (p.1, p.2) (λ query same. subst (λ (w : StepWord). StopsFrom (opened query w) c.args.bytes.now c.in_err-most-in-Limit.field-0.0) (sym c.in-Limit.is)
    (c.in_err-most-in-Limit.ensures.err query))

pub returns-in_ok-rest-in-Bare-clause-ok : goal.returns-in_ok-rest-in-Bare-clause-ok
returns-in_ok-rest-in-Bare-clause-ok c = λ query same.
    let rest = c.in_ok-rest-in-Bare.rest.now in
    let read = subst (λ (s : Step). LeadsTo (opened query (words.Bare c.in-Bare.bare)) c.args.bytes.now (Steps (with_step query s)) rest)
    (sym c.bare_step.ensures) (bare_read query c.in-Bare.bare c.args.bytes.now rest c.in_ok-rest-in-Bare.ensures.ok) in
    subst (λ (w : StepWord). LeadsTo (opened query w) c.args.bytes.now (after_word w query c.bare_step.result) rest) (sym c.in-Bare.is) read

pub returns-in_ok-rest-in-Bare-clause-few : goal.returns-in_ok-rest-in-Bare-clause-few
returns-in_ok-rest-in-Bare-clause-few c = one_more c.args.stage.steps c.args.word c.bare_step.result
    (ap (λ (s : Step). step_count s) c.bare_step.ensures ∙ one_bare c.in-Bare.bare) c.requires.few

pub returns-in_ok-names-in-Names-clause-ok : goal.returns-in_ok-names-in-Names-clause-ok
returns-in_ok-names-in-Names-clause-ok c = λ query same.
    let rest = c.in_ok-names-in-Names.rest.now in
    let read = subst (λ (s : Step). LeadsTo (opened query (words.Names c.in-Names.step)) c.args.bytes.now (Steps (with_step query s)) rest)
    (sym c.names_step.ensures) (c.in_ok-names-in-Names.ensures.ok (OfStep query c.in-Names.step) refl) in
    subst (λ (w : StepWord). LeadsTo (opened query w) c.args.bytes.now (after_word w query c.names_step.result) rest) (sym c.in-Names.is) read

pub returns-in_ok-names-in-Names-clause-few : goal.returns-in_ok-names-in-Names-clause-few
returns-in_ok-names-in-Names-clause-few c = one_more c.args.stage.steps c.args.word c.names_step.result
    (ap (λ (s : Step). step_count s) c.names_step.ensures ∙ one_with_names c.in-Names.step c.in_ok-names-in-Names.names) c.requires.few

pub returns-in_ok-step-in-Body-clause-ok : goal.returns-in_ok-step-in-Body-clause-ok
returns-in_ok-step-in-Body-clause-ok c = λ query same.
    let rest = c.in_ok-step-in-Body.rest.now in
    let read = subst (λ (s : Step). LeadsTo (opened query (words.Body c.in-Body.word)) c.args.bytes.now (Steps (with_step query s)) rest)
    (sym c.step_of.ensures) (c.in_ok-step-in-Body.ensures.ok (OfQuery query)) in
    subst (λ (w : StepWord). LeadsTo (opened query w) c.args.bytes.now (after_word w query c.step_of.result) rest) (sym c.in-Body.is) read

pub returns-in_ok-step-in-Body-clause-few : goal.returns-in_ok-step-in-Body-clause-few
returns-in_ok-step-in-Body-clause-few c = one_more c.args.stage.steps c.args.word c.step_of.result
    (ap (λ (s : Step). step_count s) c.step_of.ensures ∙ one_of_body c.in_ok-step-in-Body.step) c.requires.few

pub returns-in_err-rest-in-Order-clause-err : goal.returns-in_err-rest-in-Order-clause-err
returns-in_err-rest-in-Order-clause-err c =
    let p = err_from_is_err_and c.from_residual-in_err-rest-in-Order.result c.from_residual-in_err-rest-in-Order.ensures.1 in
    rw (p.1, p.2) (λ query same. subst (λ (w : StepWord). StopsFrom (opened query w) c.args.bytes.now c.in_err-rest-in-Order.field-0.0) (sym c.in-Order.is)
    (stop_in_order query c.args.bytes.now c.in_err-rest-in-Order.field-0.0 c.in_err-rest-in-Order.ensures.err))

pub returns-in_ok-rest-in-Order-clause-ok : goal.returns-in_ok-rest-in-Order-clause-ok
returns-in_ok-rest-in-Order-clause-ok c = λ query same.
    let rest = c.in_ok-rest-in-Order.rest.now in
    let read = subst (λ (s : Step). LeadsTo (opened query words.Order) c.args.bytes.now (Ordered (with_step query s)) rest) (sym c.plain_order.ensures)
    (order_read query c.args.bytes.now rest c.in_ok-rest-in-Order.ensures.ok) in
    subst (λ (w : StepWord). LeadsTo (opened query w) c.args.bytes.now (after_word w query c.plain_order.result) rest) (sym c.in-Order.is) read

pub returns-in_err-key-in-By-clause-err : goal.returns-in_err-key-in-By-clause-err
returns-in_err-key-in-By-clause-err c =
    let p = err_from_is_err_and c.from_residual-in_err-key-in-By.result c.from_residual-in_err-key-in-By.ensures.1 in
    rw (p.1, p.2) (λ query same. subst (λ (w : StepWord). StopsFrom (opened query w) c.args.bytes.now c.in_err-key-in-By.field-0.0) (sym c.in-By.is)
    (c.in_err-key-in-By.ensures.err query))

pub returns-in_ok-rest-in-Order-clause-few : goal.returns-in_ok-rest-in-Order-clause-few
returns-in_ok-rest-in-Order-clause-few c = one_more c.args.stage.steps c.args.word c.plain_order.result (ap (λ (s : Step). step_count s) c.plain_order.ensures)
    c.requires.few

pub returns-in_err-rest-in-Bare-clause-ok : goal.returns-in_err-rest-in-Bare-clause-ok
returns-in_err-rest-in-Bare-clause-ok c = never_ok c.from_residual.result _ _ c.from_residual.ensures.1

pub returns-in_err-rest-in-Bare-clause-order : goal.returns-in_err-rest-in-Bare-clause-order
returns-in_err-rest-in-Bare-clause-order c = never_ok c.from_residual.result _ _ c.from_residual.ensures.1

pub returns-in_err-rest-in-Bare-clause-few : goal.returns-in_err-rest-in-Bare-clause-few
returns-in_err-rest-in-Bare-clause-few c = never_ok c.from_residual.result _ _ c.from_residual.ensures.1

pub returns-in_err-rest-in-Bare-clause-within : goal.returns-in_err-rest-in-Bare-clause-within
returns-in_err-rest-in-Bare-clause-within c = never_ok c.from_residual.result _ _ c.from_residual.ensures.1

pub returns-in_err-names-in-Names-clause-ok : goal.returns-in_err-names-in-Names-clause-ok
returns-in_err-names-in-Names-clause-ok c = never_ok c.from_residual-in_err-names-in-Names.result _ _ c.from_residual-in_err-names-in-Names.ensures.1

pub returns-in_err-names-in-Names-clause-order : goal.returns-in_err-names-in-Names-clause-order
returns-in_err-names-in-Names-clause-order c = never_ok c.from_residual-in_err-names-in-Names.result _ _ c.from_residual-in_err-names-in-Names.ensures.1

pub returns-in_err-names-in-Names-clause-few : goal.returns-in_err-names-in-Names-clause-few
returns-in_err-names-in-Names-clause-few c = never_ok c.from_residual-in_err-names-in-Names.result _ _ c.from_residual-in_err-names-in-Names.ensures.1

pub returns-in_err-names-in-Names-clause-within : goal.returns-in_err-names-in-Names-clause-within
returns-in_err-names-in-Names-clause-within c = never_ok c.from_residual-in_err-names-in-Names.result _ _ c.from_residual-in_err-names-in-Names.ensures.1

pub returns-in_err-step-in-Body-clause-ok : goal.returns-in_err-step-in-Body-clause-ok
returns-in_err-step-in-Body-clause-ok c = never_ok c.from_residual-in_err-step-in-Body.result _ _ c.from_residual-in_err-step-in-Body.ensures.1

pub returns-in_err-step-in-Body-clause-order : goal.returns-in_err-step-in-Body-clause-order
returns-in_err-step-in-Body-clause-order c = never_ok c.from_residual-in_err-step-in-Body.result _ _ c.from_residual-in_err-step-in-Body.ensures.1

pub returns-in_err-step-in-Body-clause-few : goal.returns-in_err-step-in-Body-clause-few
returns-in_err-step-in-Body-clause-few c = never_ok c.from_residual-in_err-step-in-Body.result _ _ c.from_residual-in_err-step-in-Body.ensures.1

pub returns-in_err-step-in-Body-clause-within : goal.returns-in_err-step-in-Body-clause-within
returns-in_err-step-in-Body-clause-within c = never_ok c.from_residual-in_err-step-in-Body.result _ _ c.from_residual-in_err-step-in-Body.ensures.1

pub returns-in_err-most-in-Limit-clause-ok : goal.returns-in_err-most-in-Limit-clause-ok
returns-in_err-most-in-Limit-clause-ok c = never_ok c.from_residual-in_err-most-in-Limit.result _ _ c.from_residual-in_err-most-in-Limit.ensures.1

pub returns-in_err-most-in-Limit-clause-order : goal.returns-in_err-most-in-Limit-clause-order
returns-in_err-most-in-Limit-clause-order c = never_ok c.from_residual-in_err-most-in-Limit.result _ _ c.from_residual-in_err-most-in-Limit.ensures.1

pub returns-in_err-most-in-Limit-clause-few : goal.returns-in_err-most-in-Limit-clause-few
returns-in_err-most-in-Limit-clause-few c = never_ok c.from_residual-in_err-most-in-Limit.result _ _ c.from_residual-in_err-most-in-Limit.ensures.1

pub returns-in_err-most-in-Limit-clause-within : goal.returns-in_err-most-in-Limit-clause-within
returns-in_err-most-in-Limit-clause-within c = never_ok c.from_residual-in_err-most-in-Limit.result _ _ c.from_residual-in_err-most-in-Limit.ensures.1

pub returns-in_err-rest-in-Order-clause-ok : goal.returns-in_err-rest-in-Order-clause-ok
returns-in_err-rest-in-Order-clause-ok c = never_ok c.from_residual-in_err-rest-in-Order.result _ _ c.from_residual-in_err-rest-in-Order.ensures.1

pub returns-in_err-rest-in-Order-clause-order : goal.returns-in_err-rest-in-Order-clause-order
returns-in_err-rest-in-Order-clause-order c = never_ok c.from_residual-in_err-rest-in-Order.result _ _ c.from_residual-in_err-rest-in-Order.ensures.1

pub returns-in_err-rest-in-Order-clause-few : goal.returns-in_err-rest-in-Order-clause-few
returns-in_err-rest-in-Order-clause-few c = never_ok c.from_residual-in_err-rest-in-Order.result _ _ c.from_residual-in_err-rest-in-Order.ensures.1

pub returns-in_err-rest-in-Order-clause-within : goal.returns-in_err-rest-in-Order-clause-within
returns-in_err-rest-in-Order-clause-within c = never_ok c.from_residual-in_err-rest-in-Order.result _ _ c.from_residual-in_err-rest-in-Order.ensures.1

pub returns-in_err-key-in-By-clause-ok : goal.returns-in_err-key-in-By-clause-ok
returns-in_err-key-in-By-clause-ok c = never_ok c.from_residual-in_err-key-in-By.result _ _ c.from_residual-in_err-key-in-By.ensures.1

pub returns-in_err-key-in-By-clause-order : goal.returns-in_err-key-in-By-clause-order
returns-in_err-key-in-By-clause-order c = never_ok c.from_residual-in_err-key-in-By.result _ _ c.from_residual-in_err-key-in-By.ensures.1

pub returns-in_err-key-in-By-clause-few : goal.returns-in_err-key-in-By-clause-few
returns-in_err-key-in-By-clause-few c = never_ok c.from_residual-in_err-key-in-By.result _ _ c.from_residual-in_err-key-in-By.ensures.1

pub returns-in_err-key-in-By-clause-within : goal.returns-in_err-key-in-By-clause-within
returns-in_err-key-in-By-clause-within c = never_ok c.from_residual-in_err-key-in-By.result _ _ c.from_residual-in_err-key-in-By.ensures.1

pub returns-in-Repeat-clause-ok : goal.returns-in-Repeat-clause-ok
returns-in-Repeat-clause-ok c =
    IfOk-weaker c.read_repeat.result _ _ (λ r reads query same. subst (λ (w : StepWord). LeadsTo (opened query w) c.args.bytes.now (after_word w query r.0)
    r.1.now) (sym c.in-Repeat.is) (reads query (ap (λ (s : Stage). s.steps) same))) c.read_repeat.ensures.ok

pub returns-in-Repeat-clause-order : goal.returns-in-Repeat-clause-order
returns-in-Repeat-clause-order c = IfOk-weaker c.read_repeat.result _ _ (λ r reads. subst (λ (w : StepWord). IsOrderStep w r.0) (sym c.in-Repeat.is) tt)
    c.read_repeat.ensures.ok

pub returns-in-Repeat-clause-few : goal.returns-in-Repeat-clause-few
returns-in-Repeat-clause-few c = IfOk-weaker c.read_repeat.result _ _ (λ r few. repeat_few c.args.stage.steps c.args.word r.0 c.in-Repeat.is few)
    c.read_repeat.ensures.few

pub returns-in-Repeat-clause-within : goal.returns-in-Repeat-clause-within
returns-in-Repeat-clause-within c = c.read_repeat.ensures.within

pub returns-in-Repeat-clause-err : goal.returns-in-Repeat-clause-err
returns-in-Repeat-clause-err c =
    IfErr-weaker c.read_repeat.result _ _ (λ stop stops query same. subst (λ (w : StepWord). StopsFrom (opened query w) c.args.bytes.now stop)
    (sym c.in-Repeat.is) (stops query (ap (λ (s : Stage). s.steps) same))) c.read_repeat.ensures.err
