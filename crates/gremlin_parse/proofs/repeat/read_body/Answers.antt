use Rattle.std.proofs.Common.{◌+◌, List, length, sym, subst, ap, refl, arith}
use Rattle.std.proofs.lemmas.Result.{err_from_is_err_and}
use Rattle.plain_graph.specs.declared.query.BodyStep.{BodyStep}
use Rattle.gremlin_parse.specs.Queries.{BodyFirst, AfterBody, LeadsTo}
use Rattle.gremlin_parse.proofs.QueryReads.{stop_of_memory}
use Rattle.gremlin_parse.proofs.RepeatReads.{BodySoFar, no_body_steps, stop_in_body_step, stop_after_body_step, body_steps_more, body_done}
use Rattle.gremlin_parse.proofs.Exits.{never_ok}
use Rattle.gremlin_parse.proofs.repeat.read_body.Goals as goal

pub returns-in_err-rest-clause-err : goal.returns-in_err-rest-clause-err
returns-in_err-rest-clause-err c =
    let p = err_from_is_err_and c.from_residual.result c.from_residual.ensures.1 in
    rw (p.1, p.2) (λ query same. c.in_err-rest.ensures.err query)

pub loop-more-init : goal.loop-more-init
loop-more-init c = record {
  so_far = no_body_steps c.args.before (c.args.before + 1) c.args.bytes.now c.in_ok-rest.rest.now c.new-steps.result.items c.new-steps.ensures.items refl
      c.in_ok-rest.ensures.ok;
  few = omega (arith, c.requires);
  within = c.in_ok-rest.ensures.within;
}

pub returns-in_err-step-clause-err : goal.returns-in_err-step-clause-err
returns-in_err-step-clause-err c =
    let p = err_from_is_err_and c.from_residual-in_err-step.result c.from_residual-in_err-step.ensures.1 in
    rw (p.1, p.2) (stop_in_body_step c.args.before c.loop-more.count c.args.bytes.now c.loop-more.rest.now c.loop-more.more c.loop-more.steps.items
    c.in_err-step.field-0.0 c.loop-more-test.true c.loop-more.invariant.so_far c.in_err-step.ensures.err)

pub returns-in_err-push_body_step-clause-err : goal.returns-in_err-push_body_step-clause-err
returns-in_err-push_body_step-clause-err c =
    let p = err_from_is_err_and c.from_residual-in_err-push_body_step.result c.from_residual-in_err-push_body_step.ensures.1 in
    rw (p.1, p.2) (λ query same. stop_of_memory (BodyFirst query) c.args.bytes.now c.in_err-push_body_step.field-0.0 c.in_err-push_body_step.ensures.err)

pub returns-in_err-again-clause-err : goal.returns-in_err-again-clause-err
returns-in_err-again-clause-err c =
    let p = err_from_is_err_and c.from_residual-in_err-again.result c.from_residual-in_err-again.ensures.1 in
    rw (p.1, p.2) (stop_after_body_step c.args.before c.loop-more.count c.args.bytes.now c.loop-more.rest.now c.in_ok-step.after_step.now c.loop-more.more
    c.loop-more.steps.items c.in_ok-step.step c.in_err-again.field-0.0 c.loop-more-test.true c.loop-more.invariant.so_far c.in_ok-step.ensures.ok
    c.in_err-again.ensures.err)

pub loop-more-preserved : goal.loop-more-preserved
loop-more-preserved c =
    let early = c.in_ok-step.ensures.early in
    let before = c.loop-more.invariant.within in
    let shorter = c.in_ok-step.ensures.within in
    let less = c.in_ok-again.ensures.less in
    record {
      so_far = subst (λ (list : List BodyStep). BodySoFar c.args.before c.args.bytes.now c.in_ok-again.again list (c.loop-more.count + 1)
          c.in_ok-again.after.now) (sym c.in_ok-push_body_step.ensures.ok) (body_steps_more c.args.before c.loop-more.count (c.loop-more.count + 1)
          c.args.bytes.now c.loop-more.rest.now c.in_ok-step.after_step.now c.in_ok-again.after.now c.loop-more.more c.in_ok-again.again c.loop-more.steps.items
          c.in_ok-step.step c.loop-more-test.true c.loop-more.invariant.so_far c.in_ok-step.ensures.ok c.in_ok-again.ensures.ok refl);
      few = omega (arith, early);
      within = omega (arith, before, shorter, less);
    }

pub returns-clause-ok : goal.returns-clause-ok
returns-clause-ok c = λ query same.
    subst (λ (body : List BodyStep). LeadsTo (BodyFirst query) c.args.bytes.now (AfterBody query body) c.loop-more.rest.now) (sym c.new.ensures)
    (body_done c.args.before c.loop-more.count c.args.bytes.now c.loop-more.rest.now c.loop-more.more c.loop-more.steps.items c.loop-more-test.false
    c.loop-more.invariant.so_far query same)

pub returns-clause-few : goal.returns-clause-few
returns-clause-few c =
    let len = ap (λ (body : List BodyStep). length body) c.new.ensures in
    let counted = c.loop-more.invariant.so_far.counted in
    let few = c.loop-more.invariant.few in
    omega (arith, len, counted, few)

pub returns-clause-within : goal.returns-clause-within
returns-clause-within c = c.loop-more.invariant.within

pub returns-in_err-rest-clause-ok : goal.returns-in_err-rest-clause-ok
returns-in_err-rest-clause-ok c = never_ok c.from_residual.result _ _ c.from_residual.ensures.1

pub returns-in_err-rest-clause-few : goal.returns-in_err-rest-clause-few
returns-in_err-rest-clause-few c = never_ok c.from_residual.result _ _ c.from_residual.ensures.1

pub returns-in_err-rest-clause-within : goal.returns-in_err-rest-clause-within
returns-in_err-rest-clause-within c = never_ok c.from_residual.result _ _ c.from_residual.ensures.1

pub returns-in_err-step-clause-ok : goal.returns-in_err-step-clause-ok
returns-in_err-step-clause-ok c = never_ok c.from_residual-in_err-step.result _ _ c.from_residual-in_err-step.ensures.1

pub returns-in_err-step-clause-few : goal.returns-in_err-step-clause-few
returns-in_err-step-clause-few c = never_ok c.from_residual-in_err-step.result _ _ c.from_residual-in_err-step.ensures.1

pub returns-in_err-step-clause-within : goal.returns-in_err-step-clause-within
returns-in_err-step-clause-within c = never_ok c.from_residual-in_err-step.result _ _ c.from_residual-in_err-step.ensures.1

pub returns-in_err-push_body_step-clause-ok : goal.returns-in_err-push_body_step-clause-ok
returns-in_err-push_body_step-clause-ok c = never_ok c.from_residual-in_err-push_body_step.result _ _ c.from_residual-in_err-push_body_step.ensures.1

pub returns-in_err-push_body_step-clause-few : goal.returns-in_err-push_body_step-clause-few
returns-in_err-push_body_step-clause-few c = never_ok c.from_residual-in_err-push_body_step.result _ _ c.from_residual-in_err-push_body_step.ensures.1

pub returns-in_err-push_body_step-clause-within : goal.returns-in_err-push_body_step-clause-within
returns-in_err-push_body_step-clause-within c = never_ok c.from_residual-in_err-push_body_step.result _ _ c.from_residual-in_err-push_body_step.ensures.1

pub returns-in_err-again-clause-ok : goal.returns-in_err-again-clause-ok
returns-in_err-again-clause-ok c = never_ok c.from_residual-in_err-again.result _ _ c.from_residual-in_err-again.ensures.1

pub returns-in_err-again-clause-few : goal.returns-in_err-again-clause-few
returns-in_err-again-clause-few c = never_ok c.from_residual-in_err-again.result _ _ c.from_residual-in_err-again.ensures.1

pub returns-in_err-again-clause-within : goal.returns-in_err-again-clause-within
returns-in_err-again-clause-within c = never_ok c.from_residual-in_err-again.result _ _ c.from_residual-in_err-again.ensures.1
