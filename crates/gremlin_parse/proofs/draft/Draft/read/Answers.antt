use Rattle.std.proofs.Common.{◌≤◌, ◌+◌, ◌∙◌, sym, subst}
use Rattle.gremlin_parse.specs.Stages.{added_count}
use Rattle.gremlin_parse.specs.declared.stage.Stage.{Stage}
use Rattle.gremlin_parse.proofs.Drafts.{step_read}
use Rattle.gremlin_parse.proofs.draft.Draft.read.Goals as goal

pub returns : goal.returns
returns c =
    let few = subst (λ (stage : Stage). stage.steps + added_count c.args.word c.in_ok-step.step ≤ 32) c.stage.ensures c.in_ok-step.ensures.few in
    record {
      ok = λ source is. step_read source c.args.self.now c.put.new.self c.args.word c.in_ok-step.step c.args.bytes.now c.in_ok-step.rest.now is
          c.in_ok-put.ensures.ok c.in_ok-step.ensures.order c.requires.by few (λ query same. c.in_ok-step.ensures.ok query (same ∙ sym c.stage.ensures));
      within = c.in_ok-step.ensures.within;
      err = tt;
    }
