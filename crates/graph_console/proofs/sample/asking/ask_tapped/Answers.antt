use Rattle.std.proofs.Common.{◌≡◌, ◌∙◌, List, ℕ, false, sym, subst}
use Rattle.stream_io.specs.Lines.{Whole}
use Rattle.graph_console.specs.Sample.{tells_failure}
use Rattle.graph_console.proofs.Delivered.{delivered}
use Rattle.graph_console.proofs.sample.asking.ask_tapped.Goals as goal

pub returns : goal.returns
returns g c =
    let taps = c.step_tapped.ensures.answers in
    record {
      reply = taps.answers.reply;
      text_is = sym (delivered c.step_tapped.result c.in_ok-page.page.taken c.step_tapped.new.output.taken _ c.in_default.not-SinkFault
          (let is = c.in_ok-page.ensures in cc) (taps.answers.text tt));
      well = subst (λ (text : List ℕ). tells_failure text ≡ false) c.taken.ensures (sym c.tells_failure.ensures ∙ c.if-tells_failure.false);
      steps = λ state at. c.sends_what_it_commits.ensures.steps (Whole c.args.line.now) _ _ c.step_tapped.result _ state taps at;
    }
