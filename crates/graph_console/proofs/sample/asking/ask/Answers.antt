use Rattle.std.proofs.Common.{◌≡◌, ◌∙◌, List, ℕ, true, false, refl, sym, subst}
use Rattle.stream_io.specs.Lines.{Whole}
use Rattle.graph_console.specs.Sample.{tells_failure}
use Rattle.graph_console.proofs.Delivered.{delivered}
use Rattle.graph_console.proofs.sample.asking.ask.Goals as goal

pub returns : goal.returns
returns g c = λ state at.
    let answers = c.step.ensures.answers in
    let settled = (answers.settles true state at).shared in
    record {
      exchange = record { line = Whole c.args.line.now; disk_failed = settled.disk_failed; reply = answers.reply };
      after = settled.after;
      line_is = refl;
      text_is = delivered c.step.result c.in_ok-page.page.taken c.step.new.output.taken _ c.in_default.not-SinkFault (let is = c.in_ok-page.ensures in cc)
          (answers.text tt);
      step = record { step = settled.step; blames = settled.blames };
      is_at = settled.arrives.is_at;
      well = subst (λ (text : List ℕ). tells_failure text ≡ false) c.taken.ensures (sym c.tells_failure.ensures ∙ c.if-tells_failure.false);
    }
