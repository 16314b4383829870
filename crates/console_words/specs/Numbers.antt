-- What the getters of clap give for an argument that is a number.
use Rattle.std.specs.Prelude.{◌≡◌, ◌⊎◌, ◌<◌, ◌^◌, ℕ, List, Option, Some, None, SomeIff}
use Rattle.std.specs.Str.Parse.{IsNumeral, digits_value, without_leading_plus}
use Rattle.console_words.specs.declared.sample_options.SampleOptions.{SampleOptions}

-- no text gives nothing, and a text the number of k bits that it writes
abbrev pub ReadsNumber : ℕ → Option (List ℕ) → Option ℕ → Type 0
ReadsNumber k None n = n ≡ None
ReadsNumber k (Some text) n =
    SomeIff n (IsNumeral 10 (without_leading_plus text)
    × (digits_value 10 (without_leading_plus text) < 2 ^ k))
    (digits_value 10 (without_leading_plus text))

-- both texts give their numbers, or one of them gives none
abbrev pub ReadsSample : Option (List ℕ) → Option (List ℕ) → Option SampleOptions → Type 0
ReadsSample seed_text count_text (Some options) =
    ReadsNumber 64 seed_text (Some options.seed) × ReadsNumber 32 count_text (Some options.count)
ReadsSample seed_text count_text None =
    ReadsNumber 64 seed_text None ⊎ ReadsNumber 32 count_text None
