use Rattle.std.proofs.Common.{◌∙◌}
use Rattle.stream_io.proofs.Passing.{outcome_takes, passed_on}
use Rattle.stream_io.proofs.line_reader.LineReader.advance.Goals as goal

pub returns-in-Ended-clause-takes : goal.returns-in-Ended-clause-takes
returns-in-Ended-clause-takes g c = λ t. outcome_takes c.in-Ended.outcome c.steps.dropped _ _ _ c.step.new.self (c.steps.invariant.passed.part t)
    (c.in-Ended.ensures.takes t)

pub steps-preserved : goal.steps-preserved
steps-preserved g c = record {
  passed = passed_on _ c.args.self.now c.steps.self c.step.new.self _ _ _ c.steps.dropped c.in-GoOn.now_dropped c.steps.invariant.passed c.in-GoOn.ensures.takes
      c.in-GoOn.ensures.counts;
  source_counted = λ t. c.step.ensures.source_counted t ∙ c.steps.invariant.source_counted t;
  none_left = λ t was. c.step.ensures.none_left t (c.steps.invariant.none_left t was);
  faults = c.step.ensures.told (λ e. cc) ∙ c.steps.invariant.faults;
}
