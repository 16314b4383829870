use Rattle.std.proofs.Common.{rules, ap, ap₂, codes, false, ◌≡◌, ◌∙◌, ◌||◌}
use Rattle.std.specs.Prelude.{pos, Option, Some}
use Rattle.std.proofs.lemmas.Result.{IfOk-weaker}
use Rattle.clap.specs.Words.{Rule, new_rule, rule_of, with_rule}
use Rattle.clap.specs.declared.builder.action.ArgAction.TheVariants.{Set}
use Rattle.clap.specs.declared.builder.value_parser.ValueParser.{ValueParser}
use Rattle.clap.specs.declared.builder.value_parser.ValueParser.TheVariants as vp
use Rattle.console_words.specs.Command.{limit_option, threshold_option}
use Rattle.console_words.proofs.command.run_command.Goals as goal

pub returns-clause-app : goal.returns-clause-app
returns-clause-app c =
    let threshold_made = rw c.value_parser.ensures at c.range.ensures in
    let limit_made = rw c.value_parser-2.ensures at c.range-2.ensures in
    let threshold_range : c.range.result ≡ vp.Signed (pos 2) (pos 200) = rw (c.new-2.ensures.start, c.new-2.ensures.end) at threshold_made in
    let limit_range : c.range-2.result ≡ vp.Signed (pos 16) (pos 16777216) = rw (c.new-4.ensures.start, c.new-4.ensures.end) at limit_made in
    let threshold_long : rule_of c.action.result ≡ record (new_rule (codes "threshold")) { long = Some (codes "threshold"); action = Some Set } =
    search rules in
    let limit_long : rule_of c.action-2.result ≡ record (new_rule (codes "limit")) { long = Some (codes "limit"); action = Some Set } = search rules in
    let threshold_given = c.value_parser-threshold.ensures.given in
    let limit_given = c.value_parser-limit.ensures.given in
    let threshold_is : rule_of c.value_parser-threshold.result ≡ threshold_option =
    ap rule_of c.value_parser-threshold.ensures.others
    ∙ ap₂ (λ (r : Rule) (p : Option ValueParser). record r { parser = p }) threshold_long (threshold_given.1 ∙ ap Some (threshold_given.2 ∙ threshold_range)) in
    let limit_is : rule_of c.value_parser-limit.result ≡ limit_option =
    ap rule_of c.value_parser-limit.ensures.others
    ∙ ap₂ (λ (r : Rule) (p : Option ValueParser). record r { parser = p }) limit_long (limit_given.1 ∙ ap Some (limit_given.2 ∙ limit_range)) in
    IfOk-weaker c.arg-2.result _ _ (λ d h. h.shape (search rules)
    ∙ ap₂ with_rule (c.in_ok-arg.ensures.shape (search rules) ∙ ap₂ with_rule c.new-5.ensures.app threshold_is) limit_is) c.arg-2.ensures

pub returns-clause-globals : goal.returns-clause-globals
returns-clause-globals c =
    let threshold_local : c.value_parser-threshold.result.global ≡ false = search rules in
    let limit_local : c.value_parser-limit.result.global ≡ false = search rules in
    IfOk-weaker c.arg-2.result _ _ (λ d h. h.globals
    ∙ ap₂ (λ a b. a || b) (c.in_ok-arg.ensures.globals ∙ ap₂ (λ a b. a || b) c.new-5.ensures.local threshold_local) limit_local) c.arg-2.ensures
