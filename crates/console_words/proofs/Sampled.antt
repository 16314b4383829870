-- The words with the numbers of a sample that pass are what `AsksForLines` says, both ways.
use Rattle.std.proofs.Common.{◌≡◌, ◌⊎◌, ◌<◌, ◌^◌, ℕ, false, codes, ap, subst, arith, inl, inr, List, [], ◌∷◌, Option, Some, None}
use Rattle.clap.specs.Lexer.{without_minus}
use Rattle.clap.specs.Walk.{Row, Text, nothing_held, one_of}
use Rattle.clap.specs.Faults.{level_fault}
use Rattle.console_words.specs.Words.{AsksForLines}
use Rattle.console_words.specs.Numbers.{ReadsNumber, ReadsSample}
use Rattle.console_words.specs.declared.sample_options.SampleOptions.{SampleOptions}
use Rattle.console_words.proofs.Asks.{given_number, number_given}
use Rattle.console_words.proofs.Values.{IsNumberIn, IsPlainWord, number_is_plain, without_minus-text}
use Rattle.console_words.proofs.Reading.{LacksEscape}
use Rattle.console_words.proofs.Sampling.{IsTakenSample, count_back, count_fits, rows_at_end, sample_back, sample_leaf, seed_back, seed_fits}

-- what the getters give for the two numbers
abbrev pub SampleAnswers : List Row → Option SampleOptions → Type 0
SampleAnswers rows options = ReadsSample (one_of (codes "seed") rows) (one_of (codes "count") rows) options

-- a number that fits is read
number_read : (k : ℕ) {low high : ℕ} (text : Text) → high < 2 ^ k → IsNumberIn low high text → ReadsNumber k (Some text) None → ⊥
number_read k text fits t none =
    let most = t.most in
    none (t.numeral, omega arith)

module _ (word : Text) (most : ℕ) (small : most < 2 ^ 32) (words : List Text) (t : IsTakenSample word most words) where
  seed_text : IsNumberIn 0 18446744073709551615 t.seed
  seed_text = seed_fits word most t.seed t.seed_passes

  count_text : IsNumberIn 1 most t.count
  count_text = count_fits word most t.seed t.count t.count_passes

  pub asks_for_sample : (name : Text) (options : SampleOptions) → SampleAnswers (rows_at_end word most words) (Some options)
      → AsksForLines word most (name ∷ word ∷ words) options
  asks_for_sample name options answers =
      let a : ReadsNumber 64 (Some t.seed) (Some options.seed) × ReadsNumber 32 (Some (without_minus t.count)) (Some options.count)
      = subst (λ (rows : List Row). SampleAnswers rows (Some options)) t.ends answers in
      let count : ReadsNumber 32 (Some t.count) (Some options.count) =
      subst (λ u. ReadsNumber 32 (Some u) (Some options.count)) (without_minus-text t.count count_text) a.1 in
      record {
        name = name;
        seed_text = t.seed;
        count_text = t.count;
        seed = given_number a.0.1 seed_text;
        count = given_number count.1 count_text;
        are = ap (λ ws. name ∷ word ∷ ws) t.words_are;
      }

  -- both numbers are there to be read
  pub sample_is_read : SampleAnswers (rows_at_end word most words) None → ⊥
  sample_is_read answers = go (subst (λ (rows : List Row). SampleAnswers rows None) t.ends answers)
    where
      go : ReadsNumber 64 (Some t.seed) None ⊎ ReadsNumber 32 (Some (without_minus t.count)) None → ⊥
      go (inl none) = number_read 64 t.seed (omega arith) seed_text none
      go (inr none) = number_read 32 t.count small count_text
          (subst (λ u. ReadsNumber 32 (Some u) None) (without_minus-text t.count count_text) none)

-- ---- and back

pub record SampleBack (word : Text) (most : ℕ) (words : List Text) : Type 0 where
  pub name : Text
  pub rest : List Text
  pub words_are : words ≡ name ∷ word ∷ rest
  pub lacks : LacksEscape rest
  pub level : level_fault (sample_leaf word most) [] nothing_held rest false [] ≡ []

pub sample_asked : (word : Text) (most : ℕ) → most < 2 ^ 63 → (words : List Text) (options : SampleOptions) → AsksForLines word most words options
    → SampleBack word most words
sample_asked word most small words options a =
    let seed = number_given a.seed in
    let count = number_given a.count in
    let seed_plain : IsPlainWord a.seed_text = number_is_plain a.seed_text seed in
    let count_plain : IsPlainWord a.count_text = number_is_plain a.count_text count in
    record {
      name = a.name;
      rest = a.seed_text ∷ a.count_text ∷ [];
      words_are = a.are;
      lacks = (seed_plain.other, (count_plain.other, tt));
      level = sample_back word most a.seed_text a.count_text seed_plain count_plain (seed_back word most a.seed_text seed)
          (count_back word most a.seed_text a.count_text small count);
    }
