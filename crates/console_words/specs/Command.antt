-- The command as `clap` reads it: `run` with its two options, `sample` and `follow` with their two
-- numbers, and nothing of clap's own.
use Rattle.std.specs.Prelude.{ℕ, pos, true, Some, codes}
use Rattle.clap.specs.Words.{App, Rule, Text, new_app, new_rule, with_rule, with_subcommand}
use Rattle.clap.specs.declared.builder.action.ArgAction.TheVariants.{Set}
use Rattle.clap.specs.declared.builder.value_parser.ValueParser.{ValueParser}
use Rattle.clap.specs.declared.builder.value_parser.ValueParser.TheVariants as parsers

-- an option that takes one number, from low to high
abbrev pub number_option : Text → ℕ → ℕ → Rule
number_option name low high = record (new_rule name) {
  long = Some name;
  action = Some Set;
  parser = Some (parsers.Signed (pos low) (pos high));
}

-- the option of the threshold
abbrev pub threshold_option : Rule
threshold_option = number_option (codes "threshold") 2 200

-- the option of the limit
abbrev pub limit_option : Rule
limit_option = number_option (codes "limit") 16 16777216

-- `run`, as it is made
abbrev pub run_app : App
run_app = with_rule (with_rule (new_app (codes "run")) threshold_option) limit_option

-- a word that has to stand in its place, which the parser takes
abbrev pub number_word : Text → ValueParser → Rule
number_word name parser = record (new_rule name) {
  action = Some Set;
  parser = Some parser;
  required = true;
}

-- the first word of a sample
abbrev pub seed_word : Rule
seed_word = number_word (codes "seed") (parsers.Unsigned 0 18446744073709551615)

-- the second word of a sample of at most so many lines
abbrev pub count_word : ℕ → Rule
count_word most = number_word (codes "count") (parsers.Signed (pos 1) (pos most))

-- a subcommand of this name with both, as it is made
abbrev pub lines_app : Text → ℕ → App
lines_app name most = with_rule (with_rule (new_app name) seed_word) (count_word most)

-- `sample`, as it is made
abbrev pub sample_app : App
sample_app = lines_app (codes "sample") 20000

-- `follow`, as it is made
abbrev pub follow_app : App
follow_app = lines_app (codes "follow") 2000

-- the program's command before its subcommands
abbrev pub empty_app : App
empty_app = record (new_app (codes "graph")) {
  top = record (new_app (codes "graph")).top {
    disable_help_flag = true;
    disable_help_subcommand = true;
    subcommand_required = true;
  };
}

-- the program's command
abbrev pub program_app : App
program_app =
    with_subcommand (with_subcommand (with_subcommand empty_app run_app.top) sample_app.top)
    follow_app.top
