-- What the words ask for: a run, a sample or one that a follower takes over, and no other.
use Rattle.std.proofs.Common.{◌≡◌, inl, inr, ℕ, ◌+◌, ◌≤◌, true, Option, Some, None, List, unwrap_or, subst, arith}
use Rattle.std.proofs.lemmas.Bool.Decides.{nat_tests}
use Rattle.rec_bytes.specs.Shape.{is_allowed}
use Rattle.txn_core.specs.Config.{shape_of}
use Rattle.console_words.specs.Words.{AsksFor, AsksForRun, Gives}
use Rattle.console_words.specs.declared.asked.Asked.{Asked}
use Rattle.console_words.specs.declared.asked.Asked.TheVariants.{Follow, Run, Sample}
use Rattle.console_words.specs.declared.run_options.RunOptions.{RunOptions}
use Rattle.console_words.specs.declared.sample_options.SampleOptions.{SampleOptions}
use Rattle.graph_console.specs.Program.{AskForSample, config_for}
use Rattle.graph_console.specs.Sample.{IsSampleExit, sample_config}
use Rattle.graph_console.specs.declared.exit.Exit.{Exit}
use Rattle.graph_console.specs.declared.exit.Exit.TheVariants as exits

-- a value that is given or left out lies in its range
given_within : (name : List ℕ) (low high : ℕ) (n : Option ℕ) (words : List (List ℕ)) (other : ℕ) → low ≤ other → other ≤ high → Gives name low high n words
    → (low ≤ unwrap_or n other) × (unwrap_or n other ≤ high)
given_within name low high None words other least most gives = (least, most)
given_within name low high (Some n) words other least most gives = (gives.number.least, gives.number.most)

within_allowed : (threshold limit : ℕ) → 2 ≤ threshold → threshold ≤ 200 → 16 ≤ limit → limit ≤ 16777216
    → is_allowed (record { threshold = threshold; limit = limit }) ≡ true
within_allowed threshold limit low high least most = grind (arith, nat_tests)

-- a store may have the shape that a run asks for
pub run_allowed : (words : List (List ℕ)) (options : RunOptions) (asked : Asked) → AsksFor words asked → asked ≡ Run options
    → is_allowed (shape_of (config_for options)) ≡ true
run_allowed words options asked asks is =
    let run : AsksForRun words options = subst (λ (a : Asked). AsksFor words a) is asks in
    let threshold = given_within _ 2 200 options.threshold run.threshold_words 50 (omega arith) (omega arith) run.threshold in
    let limit = given_within _ 16 16777216 options.limit run.limit_words 1048576 (omega arith) (omega arith) run.limit in
    within_allowed (unwrap_or options.threshold 50) (unwrap_or options.limit 1048576) threshold.0 threshold.1 limit.0 limit.1

-- and the one that a sample asks for
pub sample_allowed : (options : SampleOptions) → options.count ≤ 20000 → is_allowed (shape_of (sample_config options)) ≡ true
sample_allowed options few = within_allowed 50 (options.count + 16) (omega arith) (omega arith) (omega arith) (omega arith)

-- a sample has at most 20,000 turns
pub sample_within : (words : List (List ℕ)) (options : SampleOptions) (asked : Asked) → AsksFor words asked → asked ≡ Sample options → options.count ≤ 20000
sample_within words options asked asks is = (subst (λ (a : Asked). AsksFor words a) is asks).count.most

-- one that a follower takes over has at most 2,000
pub follow_within : (words : List (List ℕ)) (options : SampleOptions) (asked : Asked) → AsksFor words asked → asked ≡ Follow options → options.count ≤ 2000
follow_within words options asked asks is = (subst (λ (a : Asked). AsksFor words a) is asks).count.most

-- one run, one sample, one of the others, and no two
pub same_run : (a b : RunOptions) (asked : Asked) → Run a ≡ asked → asked ≡ Run b → a ≡ b
same_run a b asked one two = cc

pub same_sample : (a b : SampleOptions) (asked : Asked) → Sample a ≡ asked → asked ≡ Sample b → a ≡ b
same_sample a b asked one two = cc

pub run-not_sample : (run : RunOptions) (sample : SampleOptions) (asked : Asked) → Run run ≡ asked → ¬ (asked ≡ Sample sample)
run-not_sample run sample asked one two = cc

pub sample-not_run : (sample : SampleOptions) (run : RunOptions) (asked : Asked) → Sample sample ≡ asked → ¬ (asked ≡ Run run)
sample-not_run sample run asked one two = cc

pub same_follow : (a b : SampleOptions) (asked : Asked) → Follow a ≡ asked → asked ≡ Follow b → a ≡ b
same_follow a b asked one two = cc

pub run-not_follow : (run : RunOptions) (sample : SampleOptions) (asked : Asked) → Run run ≡ asked → ¬ (asked ≡ Follow sample)
run-not_follow run sample asked one two = cc

pub follow-not_run : (sample : SampleOptions) (run : RunOptions) (asked : Asked) → Follow sample ≡ asked → ¬ (asked ≡ Run run)
follow-not_run sample run asked one two = cc

pub sample-not_follow : (a b : SampleOptions) (asked : Asked) → Sample a ≡ asked → ¬ (asked ≡ Follow b)
sample-not_follow a b asked one two = cc

pub follow-not_sample : (a b : SampleOptions) (asked : Asked) → Follow a ≡ asked → ¬ (asked ≡ Sample b)
follow-not_sample a b asked one two = cc

-- words that ask for either don't ask for a run
pub asks-not_run : (words : List (List ℕ)) (run : RunOptions) (asked : Asked) → ((other : Asked) → AsksFor words other → other ≡ asked) → asked ≡ Run run
    → ¬ AskForSample words
asks-not_run words run asked only is (options, inl asks) = sample-not_run options run asked (only (Sample options) asks) is
asks-not_run words run asked only is (options, inr asks) = follow-not_run options run asked (only (Follow options) asks) is

-- words for which nothing is done don't ask for either
pub asks-nothing : (words : List (List ℕ)) → ((asked : Asked) → ¬ AsksFor words asked) → ¬ AskForSample words
asks-nothing words none (options, inl asks) = none (Sample options) asks
asks-nothing words none (options, inr asks) = none (Follow options) asks

-- a sample ends in no other way
pub other_exit : (exit : Exit) → IsSampleExit exit → (¬ (exit ≡ exits.Usage)) × (¬ (exit ≡ exits.InputFault)) × (¬ (exit ≡ exits.DiskFault))
    × (¬ (exit ≡ exits.StoreFailed))
other_exit exit (inl done) = (λ is. cc, λ is. cc, λ is. cc, λ is. cc)
other_exit exit (inr (inl lacks)) = (λ is. cc, λ is. cc, λ is. cc, λ is. cc)
other_exit exit (inr (inr fails)) = (λ is. cc, λ is. cc, λ is. cc, λ is. cc)
