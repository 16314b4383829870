use Rattle.std.proofs.Common.{rules, ap, ap₂, ◌≡◌, ◌∙◌}
use Rattle.std.specs.Prelude.{pos}
use Rattle.std.proofs.lemmas.Result.{IfOk-weaker}
use Rattle.clap.specs.Words.{App, app_of, with_subcommand}
use Rattle.clap.specs.declared.builder.value_parser.ValueParser.TheVariants.{Signed}
use Rattle.console_words.specs.Command.{empty_app}
use Rattle.console_words.proofs.command.command.Goals as goal

pub returns : goal.returns
returns c =
    let empty_is : app_of c.subcommand_required.result ≡ empty_app = search rules in
    let sample_made = rw c.value_parser.ensures at c.range.ensures in
    let sample_counts : c.range.result ≡ Signed (pos 1) (pos 20000) = rw (c.new-2.ensures.start, c.new-2.ensures.end) at sample_made in
    let follow_made = rw c.value_parser-2.ensures at c.range-2.ensures in
    let follow_counts : c.range-2.result ≡ Signed (pos 1) (pos 2000) = rw (c.new-3.ensures.start, c.new-3.ensures.end) at follow_made in
    let top = λ (a : App). a.top in
    IfOk-weaker c.subcommand-3.result _ _ (λ d h. h.shape c.in_ok-follow.ensures.globals
    ∙ ap₂ with_subcommand (c.in_ok-with_sample.ensures.shape c.in_ok-sample.ensures.globals
    ∙ ap₂ with_subcommand (c.in_ok-with_run.ensures.shape c.in_ok-run.ensures.globals ∙ ap₂ with_subcommand empty_is (ap top c.in_ok-run.ensures.app))
    (ap top (c.in_ok-sample.ensures.app 20000 sample_counts)))
    (ap top (c.in_ok-follow.ensures.app 2000 follow_counts)))
    c.subcommand-3.ensures
