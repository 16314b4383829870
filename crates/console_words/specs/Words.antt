-- What the program's words ask for.
use Rattle.std.specs.Prelude.{◌≡◌, ◌⊎◌, ◌≤◌, ℕ, List, [], ◌∷◌, ◌++◌, Option, Some, None, codes}
use Rattle.std.specs.Str.Parse.{IsNumeral, digits_value, without_leading_plus}
use Rattle.console_words.specs.declared.asked.Asked.{Asked}
use Rattle.console_words.specs.declared.asked.Asked.TheVariants.{Follow, Run, Sample}
use Rattle.console_words.specs.declared.run_options.RunOptions.{RunOptions}
use Rattle.console_words.specs.declared.sample_options.SampleOptions.{SampleOptions}

-- the text is a decimal number n as Rust reads one: zeros may stand first, and a plus before them
abbrev pub IsNumber : List ℕ → ℕ → Type 0
IsNumber text n = IsNumeral 10 (without_leading_plus text)
    × (digits_value 10 (without_leading_plus text) ≡ n)

-- the text is the number n, which lies from low to high
pub record IsNumberFrom (low high n : ℕ) (text : List ℕ) : Type 0 where
  pub number : IsNumber text n
  pub least : low ≤ n
  pub most : n ≤ high

-- the words `--name TEXT` or the word `--name=TEXT`, where the text is such a number
pub record GivesNumber (name : List ℕ) (low high n : ℕ) (words : List (List ℕ)) : Type 0 where
  pub text : List ℕ
  pub number : IsNumberFrom low high n text
  pub written : (words ≡ name ∷ text ∷ []) ⊎ (words ≡ (name ++ codes "=" ++ text) ∷ [])

-- the words of an option that may be left out
abbrev pub Gives : List ℕ → ℕ → ℕ → Option ℕ → List (List ℕ) → Type 0
Gives name low high None words = words ≡ []
Gives name low high (Some n) words = GivesNumber name low high n words

-- The words are the program's name, `run`, and the words of the two options, in either order.
pub record AsksForRun (words : List (List ℕ)) (options : RunOptions) : Type 0 where
  pub name : List ℕ
  pub threshold_words : List (List ℕ)
  pub limit_words : List (List ℕ)
  pub threshold : Gives (codes "--threshold") 2 200 options.threshold threshold_words
  pub limit : Gives (codes "--limit") 16 16777216 options.limit limit_words
  pub are : (words ≡ name ∷ codes "run" ∷ threshold_words ++ limit_words)
      ⊎ (words ≡ name ∷ codes "run" ∷ limit_words ++ threshold_words)

-- The words are the program's name, the word, and the two numbers of a sample of at most so many
-- lines, the seed first.
pub record AsksForLines (word : List ℕ) (most_lines : ℕ) (words : List (List ℕ))
    (options : SampleOptions) : Type 0 where
  pub name : List ℕ
  pub seed_text : List ℕ
  pub count_text : List ℕ
  pub seed : IsNumberFrom 0 18446744073709551615 options.seed seed_text
  pub count : IsNumberFrom 1 most_lines options.count count_text
  pub are : words ≡ name ∷ word ∷ seed_text ∷ count_text ∷ []

-- the words are those of a sample
abbrev pub AsksForSample : List (List ℕ) → SampleOptions → Type 0
AsksForSample = AsksForLines (codes "sample") 20000

-- the words are those of a sample that a follower takes over
abbrev pub AsksForFollow : List (List ℕ) → SampleOptions → Type 0
AsksForFollow = AsksForLines (codes "follow") 2000

-- the words ask for this run, for this sample, or for one that a follower takes over
abbrev pub AsksFor : List (List ℕ) → Asked → Type 0
AsksFor words (Run options) = AsksForRun words options
AsksFor words (Sample options) = AsksForSample words options
AsksFor words (Follow options) = AsksForFollow words options
