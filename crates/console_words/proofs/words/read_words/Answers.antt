use Rattle.std.proofs.Common.{None, Some, map, refl, string_bytes, sym, true≢false, ◌∙◌}
use Rattle.clap.specs.Words.{found_of}
use Rattle.console_words.proofs.Answered.{escape_asks_nothing, escape_of_texts, follow_asks, follow_is_given}
use Rattle.console_words.proofs.Answered.{names_of_rows, no_other_sub, refused_asks_nothing, run_asks, run_found}
use Rattle.console_words.proofs.Answered.{same_error, sample_asks, sample_found, sample_is_given, taken_by}
use Rattle.console_words.proofs.Unique.{asks_one}
use Rattle.console_words.proofs.words.read_words.Goals as goal

pub returns-then-has_escape-clause-usage : goal.returns-then-has_escape-clause-usage
returns-then-has_escape-clause-usage c = λ is asked asks.
    escape_asks_nothing (map string_bytes c.args.words.now)
    (sym (escape_of_texts string_bytes c.args.words.now) ∙ (sym c.has_escape.ensures ∙ c.if-has_escape.true)) asked asks

pub returns-in-Err-clause-usage : goal.returns-in-Err-clause-usage
returns-in-Err-clause-usage c = λ is asked asks.
    refused_asks_nothing (map string_bytes c.args.words.now) c.in-Err.fault _ c.in_ok-command.ensures c.in-Err.ensures.kinds
    (λ memory. c.fault_of.ensures (same_error _ _ is) (c.kind.ensures ∙ memory)) asked asks

pub returns-in-Some-clause-taken : goal.returns-in-Some-clause-taken
returns-in-Some-clause-taken c =
    let words = map string_bytes c.args.words.now in
    let taken = taken_by words (sym (escape_of_texts string_bytes c.args.words.now) ∙ (sym c.has_escape.ensures ∙ c.if-has_escape.false))
    _ c.in_ok-command.ensures c.in-Ok.ensures.kinds _ _ c.in-Ok.ensures.matches in
    let named = sym (names_of_rows c.in-Ok.matches) ∙ c.in-Some.ensures.found.0 refl in
    run_asks words _ taken _ c.in-Some.ensures.rows named c.run_options.result
    (run_found (found_of c.in-Some.run'.now) c.run_options.result c.run_options.ensures.threshold c.run_options.ensures.limit)

pub returns-in-Some-clause-only : goal.returns-in-Some-clause-only
returns-in-Some-clause-only c = λ other asks.
    asks_one (map string_bytes c.args.words.now) other _ asks (returns-in-Some-clause-taken c)

pub returns-in_default-subcommand_matches-3-clause-usage : goal.returns-in_default-subcommand_matches-3-clause-usage
returns-in_default-subcommand_matches-3-clause-usage c = λ is asked asks.
    let words = map string_bytes c.args.words.now in
    let taken = taken_by words (sym (escape_of_texts string_bytes c.args.words.now) ∙ (sym c.has_escape.ensures ∙ c.if-has_escape.false))
    _ c.in_ok-command.ensures c.in-Ok.ensures.kinds _ _ c.in-Ok.ensures.matches in
    let names = names_of_rows c.in-Ok.matches in
    no_other_sub words _ taken (λ e. true≢false (sym (c.in_default-subcommand_matches.ensures.found.1 (names ∙ e))))
    (λ e. true≢false (sym (c.in_default-subcommand_matches-2.ensures.found.1 (names ∙ e))))
    (λ e. true≢false (sym (c.in_default-subcommand_matches-3.ensures.found.1 (names ∙ e))))

pub returns-in-Some-subcommand_matches-clause-taken : goal.returns-in-Some-subcommand_matches-clause-taken
returns-in-Some-subcommand_matches-clause-taken c =
    let words = map string_bytes c.args.words.now in
    let taken = taken_by words (sym (escape_of_texts string_bytes c.args.words.now) ∙ (sym c.has_escape.ensures ∙ c.if-has_escape.false))
    _ c.in_ok-command.ensures c.in-Ok.ensures.kinds _ _ c.in-Ok.ensures.matches in
    let named = sym (names_of_rows c.in-Ok.matches) ∙ c.in-Some-subcommand_matches.ensures.found.0 refl in
    sample_asks words _ taken _ c.in-Some-subcommand_matches.ensures.rows named c.in-Some-sample_options.options
    (sample_found (found_of c.in-Some-subcommand_matches.sample.now) (Some c.in-Some-sample_options.options) c.in-Some-sample_options.ensures)

pub returns-in-Some-subcommand_matches-clause-only : goal.returns-in-Some-subcommand_matches-clause-only
returns-in-Some-subcommand_matches-clause-only c = λ other asks.
    asks_one (map string_bytes c.args.words.now) other _ asks (returns-in-Some-subcommand_matches-clause-taken c)

pub returns-in_default-sample_options-clause-usage : goal.returns-in_default-sample_options-clause-usage
returns-in_default-sample_options-clause-usage c = λ is asked asks.
    let words = map string_bytes c.args.words.now in
    let taken = taken_by words (sym (escape_of_texts string_bytes c.args.words.now) ∙ (sym c.has_escape.ensures ∙ c.if-has_escape.false))
    _ c.in_ok-command.ensures c.in-Ok.ensures.kinds _ _ c.in-Ok.ensures.matches in
    let named = sym (names_of_rows c.in-Ok.matches) ∙ c.in-Some-subcommand_matches.ensures.found.0 refl in
    sample_is_given words _ taken _ c.in-Some-subcommand_matches.ensures.rows named
    (sample_found (found_of c.in-Some-subcommand_matches.sample.now) None c.in_default-sample_options.ensures)

pub returns-in-Some-sample_options-2-clause-taken : goal.returns-in-Some-sample_options-2-clause-taken
returns-in-Some-sample_options-2-clause-taken c =
    let words = map string_bytes c.args.words.now in
    let taken = taken_by words (sym (escape_of_texts string_bytes c.args.words.now) ∙ (sym c.has_escape.ensures ∙ c.if-has_escape.false))
    _ c.in_ok-command.ensures c.in-Ok.ensures.kinds _ _ c.in-Ok.ensures.matches in
    let named = sym (names_of_rows c.in-Ok.matches) ∙ c.in-Some-subcommand_matches-2.ensures.found.0 refl in
    follow_asks words _ taken _ c.in-Some-subcommand_matches-2.ensures.rows named c.in-Some-sample_options-2.options
    (sample_found (found_of c.in-Some-subcommand_matches-2.follow.now) (Some c.in-Some-sample_options-2.options) c.in-Some-sample_options-2.ensures)

pub returns-in-Some-sample_options-2-clause-only : goal.returns-in-Some-sample_options-2-clause-only
returns-in-Some-sample_options-2-clause-only c = λ other asks.
    asks_one (map string_bytes c.args.words.now) other _ asks (returns-in-Some-sample_options-2-clause-taken c)

pub returns-clause-usage : goal.returns-clause-usage
returns-clause-usage c = λ is asked asks.
    let words = map string_bytes c.args.words.now in
    let taken = taken_by words (sym (escape_of_texts string_bytes c.args.words.now) ∙ (sym c.has_escape.ensures ∙ c.if-has_escape.false))
    _ c.in_ok-command.ensures c.in-Ok.ensures.kinds _ _ c.in-Ok.ensures.matches in
    let named = sym (names_of_rows c.in-Ok.matches) ∙ c.in-Some-subcommand_matches-2.ensures.found.0 refl in
    follow_is_given words _ taken _ c.in-Some-subcommand_matches-2.ensures.rows named
    (sample_found (found_of c.in-Some-subcommand_matches-2.follow.now) None c.in-None.ensures)
