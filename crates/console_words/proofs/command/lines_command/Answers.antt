use Rattle.std.proofs.Common.{rules, ap, ap₂, codes, false, true, ◌≡◌, ◌∙◌, ◌||◌}
use Rattle.std.specs.Prelude.{ℕ, pos, Option, Some}
use Rattle.std.proofs.lemmas.Result.{IfOk-weaker}
use Rattle.clap.specs.Words.{Rule, new_rule, rule_of, with_rule}
use Rattle.clap.specs.declared.builder.action.ArgAction.TheVariants.{Set}
use Rattle.clap.specs.declared.builder.value_parser.ValueParser.{ValueParser}
use Rattle.clap.specs.declared.builder.value_parser.ValueParser.TheVariants as vp
use Rattle.console_words.specs.Command.{count_word, seed_word}
use Rattle.console_words.proofs.command.lines_command.Goals as goal

pub returns-clause-app : goal.returns-clause-app
returns-clause-app c =
    let seed_made : rule_of c.action.result ≡ record (new_rule (codes "seed")) { action = Some Set; required = true } = search rules in
    let count_placed : rule_of c.action-2.result ≡ record (new_rule (codes "count")) { action = Some Set; required = true } = search rules in
    let seed_given = c.value_parser-seed.ensures.given in
    let count_given = c.value_parser-count.ensures.given in
    let seed_is : rule_of c.value_parser-seed.result ≡ seed_word =
    ap rule_of c.value_parser-seed.ensures.others
    ∙ ap₂ (λ (r : Rule) (p : Option ValueParser). record r { parser = p }) seed_made (seed_given.1 ∙ ap Some (seed_given.2 ∙ c.value_parser.ensures)) in
    let count_is : (most : ℕ) → c.args.counts ≡ vp.Signed (pos 1) (pos most) → rule_of c.value_parser-count.result ≡ count_word most =
    λ most counts_are. ap rule_of c.value_parser-count.ensures.others
    ∙ ap₂ (λ (r : Rule) (p : Option ValueParser). record r { parser = p }) count_placed (count_given.1 ∙ ap Some (count_given.2 ∙ counts_are)) in
    IfOk-weaker c.arg-2.result _ _ (λ d h most counts_are. h.shape (search rules)
    ∙ ap₂ with_rule (c.in_ok-arg.ensures.shape (search rules) ∙ ap₂ with_rule c.new-3.ensures.app seed_is) (count_is most counts_are)) c.arg-2.ensures

pub returns-clause-globals : goal.returns-clause-globals
returns-clause-globals c =
    let seed_local : c.value_parser-seed.result.global ≡ false = search rules in
    let count_local : c.value_parser-count.result.global ≡ false = search rules in
    IfOk-weaker c.arg-2.result _ _ (λ d h. h.globals
    ∙ ap₂ (λ a b. a || b) (c.in_ok-arg.ensures.globals ∙ ap₂ (λ a b. a || b) c.new-3.ensures.local seed_local) count_local) c.arg-2.ensures
