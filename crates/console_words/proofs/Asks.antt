-- The uses of options that pass are what `AsksForRun` says, both ways.
use Rattle.std.proofs.Common.{◌≡◌, ◌⊎◌, ◌∙◌, ◌<◌, ◌≤◌, ◌^◌, ℕ, Bool, true, false, codes, refl, sym, ap, subst, arith}
use Rattle.std.proofs.Common.{inl, inr, List, [], ◌∷◌, ◌++◌, Option, Some, None, append-nil}
use Rattle.std.specs.Str.Parse.{digits_value, without_leading_plus}
use Rattle.clap.specs.Lexer.{without_minus}
use Rattle.clap.specs.Walk.{Row, Text, has_row, one_of}
use Rattle.console_words.specs.Words.{AsksForRun, Gives, IsNumberFrom}
use Rattle.console_words.specs.Numbers.{ReadsNumber}
use Rattle.console_words.specs.declared.run_options.RunOptions.{RunOptions}
use Rattle.console_words.proofs.Turns.{least_of, most_of, name_of}
use Rattle.console_words.proofs.Values.{Fits, IsNumberIn, IsOptionText, use_fits, use_from, without_minus-text}
use Rattle.console_words.proofs.Reading.{AllPass, Use, rows_after_uses, spelled, words_of}

-- the getter's answers for the two options
pub record RunAnswers (rows : List Row) (asked : RunOptions) : Type 0 where
  pub threshold : ReadsNumber 16 (one_of (name_of true) rows) asked.threshold
  pub limit : ReadsNumber 32 (one_of (name_of false) rows) asked.limit

abbrev dashed : Bool → Text
dashed which = 45 ∷ 45 ∷ name_of which

abbrev GivesOption : Bool → Option ℕ → List Text → Type 0
GivesOption which n words = Gives (dashed which) (least_of which) (most_of which) n words

written_as : (joined which : Bool) (text : Text) → (spelled joined which text ≡ dashed which ∷ text ∷ [])
    ⊎ (spelled joined which text ≡ (dashed which ++ codes "=" ++ text) ∷ [])
written_as true true text = inr refl
written_as true false text = inr refl
written_as false which text = inl refl

joined_is : (which : Bool) (text : Text) → spelled true which text ≡ (dashed which ++ codes "=" ++ text) ∷ []
joined_is true text = refl
joined_is false text = refl

-- a text that is a number in its bounds is this number, as `AsksFor` has it
pub given_number : {low high n : ℕ} {text : Text} → n ≡ digits_value 10 (without_leading_plus text) → IsNumberIn low high text → IsNumberFrom low high n text
given_number {low} {high} {n} {text} is t = record {
  number = (t.numeral, sym is);
  least = subst (λ m. low ≤ m) (sym is) t.least;
  most = subst (λ m. m ≤ high) (sym is) t.most;
}

-- and back
pub number_given : {low high n : ℕ} {text : Text} → IsNumberFrom low high n text → IsNumberIn low high text
number_given {low} {high} {n} {text} h = record {
  numeral = h.number.0;
  least = subst (λ m. low ≤ m) (sym h.number.1) h.least;
  most = subst (λ m. m ≤ high) (sym h.number.1) h.most;
}

-- an option that was given, as the getter reads it
given : (which joined : Bool) (k : ℕ) (text : Text) (n : Option ℕ) → most_of which < 2 ^ k → IsOptionText which text
    → ReadsNumber k (Some (without_minus text)) n → GivesOption which n (spelled joined which text)
given which joined k text n fits t reads = go n (subst (λ u. ReadsNumber k (Some u) n) (without_minus-text text t) reads)
  where
    small : digits_value 10 (without_leading_plus text) < 2 ^ k
    small = let most = t.most in omega arith

    go : (n : Option ℕ) → ReadsNumber k (Some text) n → GivesOption which n (spelled joined which text)
    go None h = absurd (h (t.numeral, small))
    go (Some x) h = record {
      text = text;
      number = given_number h.1 t;
      written = written_as joined which text;
    }

not_given : (which : Bool) (k : ℕ) (n : Option ℕ) → ReadsNumber k None n → GivesOption which n []
not_given which k None h = refl
not_given which k (Some x) h = cc

threshold_fits : most_of true < 2 ^ 16
threshold_fits = omega arith

limit_fits : most_of false < 2 ^ 32
limit_fits = omega arith

-- one option
one_use : (name : Text) (which joined : Bool) (text : Text) (asked : RunOptions) → IsOptionText which text
    → RunAnswers (rows_after_uses (record { which = which; text = text; is_joined = joined } ∷ []) []) asked
    → AsksForRun (name ∷ codes "run" ∷ (spelled joined which text ++ [])) asked
one_use name true joined text asked t a = record {
  name = name;
  threshold_words = spelled joined true text;
  limit_words = [];
  threshold = given true joined 16 text asked.threshold threshold_fits t a.threshold;
  limit = not_given false 32 asked.limit a.limit;
  are = inl refl;
}
one_use name false joined text asked t a = record {
  name = name;
  threshold_words = [];
  limit_words = spelled joined false text;
  threshold = not_given true 16 asked.threshold a.threshold;
  limit = given false joined 32 text asked.limit limit_fits t a.limit;
  are = inr refl;
}

-- two options
two_uses : (name : Text) (which joined : Bool) (text : Text) (which2 joined2 : Bool) (text2 : Text) (asked : RunOptions) → IsOptionText which text
    → Fits which2 (rows_after_uses (record { which = which; text = text; is_joined = joined } ∷ []) []) text2
    → RunAnswers (rows_after_uses (record { which = which; text = text; is_joined = joined } ∷ record { which = which2; text = text2; is_joined = joined2 } ∷
    []) []) asked
    → AsksForRun (name ∷ codes "run" ∷ (spelled joined which text ++ (spelled joined2 which2 text2 ++ []))) asked
two_uses name true joined text true joined2 text2 asked t f a = let first = f.is_first in cc
two_uses name false joined text false joined2 text2 asked t f a = let first = f.is_first in cc
two_uses name true joined text false joined2 text2 asked t f a = record {
  name = name;
  threshold_words = spelled joined true text;
  limit_words = spelled joined2 false text2;
  threshold = given true joined 16 text asked.threshold threshold_fits t a.threshold;
  limit = given false joined2 32 text2 asked.limit limit_fits f.is_text a.limit;
  are = inl (ap (λ ws. name ∷ codes "run" ∷ (spelled joined true text ++ ws)) (append-nil (spelled joined2 false text2)));
}
two_uses name false joined text true joined2 text2 asked t f a = record {
  name = name;
  threshold_words = spelled joined2 true text2;
  limit_words = spelled joined false text;
  threshold = given true joined2 16 text2 asked.threshold threshold_fits f.is_text a.threshold;
  limit = given false joined 32 text asked.limit limit_fits t a.limit;
  are = inr (ap (λ ws. name ∷ codes "run" ∷ (spelled joined false text ++ ws)) (append-nil (spelled joined2 true text2)));
}

-- a third option is one of the first two again
no_third : (which joined : Bool) (text : Text) (which2 joined2 : Bool) (text2 : Text) (which3 : Bool) (text3 : Text)
    → Fits which2 (rows_after_uses (record { which = which; text = text; is_joined = joined } ∷ []) []) text2
    → Fits which3 (rows_after_uses (record { which = which; text = text; is_joined = joined } ∷ record { which = which2; text = text2; is_joined = joined2 } ∷
    []) []) text3 → ⊥
no_third true joined text true joined2 text2 which3 text3 f g = let first = f.is_first in cc
no_third false joined text false joined2 text2 which3 text3 f g = let first = f.is_first in cc
no_third true joined text false joined2 text2 true text3 f g = let first = g.is_first in cc
no_third true joined text false joined2 text2 false text3 f g = let first = g.is_first in cc
no_third false joined text true joined2 text2 true text3 f g = let first = g.is_first in cc
no_third false joined text true joined2 text2 false text3 f g = let first = g.is_first in cc

pub asks_for : (name : Text) (us : List Use) (asked : RunOptions) → AllPass us [] → RunAnswers (rows_after_uses us []) asked
    → AsksForRun (name ∷ codes "run" ∷ words_of us) asked
asks_for name [] asked pass a = record {
  name = name;
  threshold_words = [];
  limit_words = [];
  threshold = not_given true 16 asked.threshold a.threshold;
  limit = not_given false 32 asked.limit a.limit;
  are = inl refl;
}
asks_for name (u ∷ []) asked pass a = one_use name u.which u.is_joined u.text asked (use_fits u.which [] u.text pass.0).is_text a
asks_for name (u ∷ v ∷ []) asked pass a = two_uses name u.which u.is_joined u.text v.which v.is_joined v.text asked
    (use_fits u.which [] u.text pass.0).is_text (use_fits v.which _ v.text pass.1.0) a
asks_for name (u ∷ v ∷ w ∷ us) asked pass a = absurd (no_third u.which u.is_joined u.text v.which v.is_joined v.text w.which w.text
    (use_fits v.which _ v.text pass.1.0) (use_fits w.which _ w.text pass.1.1.0))

-- ---- and back

abbrev bits_of : Bool → ℕ
bits_of true = 16
bits_of false = 32

-- the words of an option are no use of it, or one, and this is what the getter reads
pub data Given (which : Bool) (n : Option ℕ) (words : List Text) : Type 0 where
  absent : n ≡ None → words ≡ [] → Given which n words
  used_once : (joined : Bool) (text : Text) → IsOptionText which text → ReadsNumber (bits_of which) (Some (without_minus text)) n
      → words ≡ spelled joined which text → Given which n words

given_back : (which : Bool) (n : Option ℕ) (words : List Text) → GivesOption which n words → Given which n words
given_back which None words h = absent refl h
given_back which (Some n) words h = go h.written
  where
    is_text : IsOptionText which h.text
    is_text = number_given h.number

    small : (which : Bool) → IsOptionText which h.text → digits_value 10 (without_leading_plus h.text) < 2 ^ bits_of which
    small true t = let most = t.most in let fits = threshold_fits in omega arith
    small false t = let most = t.most in let fits = limit_fits in omega arith

    reads : ReadsNumber (bits_of which) (Some (without_minus h.text)) (Some n)
    reads = subst (λ u. ReadsNumber (bits_of which) (Some u) (Some n)) (sym (without_minus-text h.text is_text))
        ((h.number.number.0, small which is_text), sym h.number.number.1)

    go : (words ≡ dashed which ∷ h.text ∷ []) ⊎ (words ≡ (dashed which ++ codes "=" ++ h.text) ∷ []) → Given which (Some n) words
    go (inl apart) = used_once false h.text is_text reads apart
    go (inr together) = used_once true h.text is_text reads (together ∙ sym (joined_is which h.text))

-- the words are uses that pass, and this is what the getters read
pub record Passing (asked : RunOptions) (words : List Text) : Type 0 where
  pub uses : List Use
  pub words_are : words ≡ words_of uses
  pub pass : AllPass uses []
  pub answers : RunAnswers (rows_after_uses uses []) asked

other : Bool → Bool
other true = false
other false = true

second_first : (which : Bool) (joined : Bool) (text : Text) → has_row (name_of (other which))
    (rows_after_uses (record { which = which; text = text; is_joined = joined } ∷ []) []) ≡ false
unfolding other
second_first true joined text = refl
second_first false joined text = refl

number_of : Bool → RunOptions → Option ℕ
number_of true asked = asked.threshold
number_of false asked = asked.limit

passing : (which : Bool) (asked : RunOptions) (first second : List Text) → Given which (number_of which asked) first
    → Given (other which) (number_of (other which) asked) second → Passing asked (first ++ second)
unfolding other number_of
passing which asked first second (absent m e) (absent n f) = record {
  uses = [];
  words_are = ap (λ t. t ++ second) e ∙ f;
  pass = tt;
  answers = answers which m n;
}
  where
    answers : (which : Bool) → number_of which asked ≡ None → number_of (other which) asked ≡ None → RunAnswers [] asked
    answers true m n = record { threshold = m; limit = n }
    answers false m n = record { threshold = n; limit = m }
passing which asked first second (absent m e) (used_once joined text t r f) = record {
  uses = record { which = other which; text = text; is_joined = joined } ∷ [];
  words_are = ap (λ l. l ++ second) e ∙ (f ∙ sym (append-nil (spelled joined (other which) text)));
  pass = (use_from (other which) [] text refl t, tt);
  answers = answers which m r;
}
  where
    answers : (which : Bool) → number_of which asked ≡ None → ReadsNumber (bits_of (other which)) (Some (without_minus text)) (number_of (other which) asked)
        → RunAnswers (rows_after_uses (record { which = other which; text = text; is_joined = joined } ∷ []) []) asked
    answers true m r = record { threshold = m; limit = r }
    answers false m r = record { threshold = r; limit = m }
passing which asked first second (used_once joined text t r e) (absent n f) = record {
  uses = record { which = which; text = text; is_joined = joined } ∷ [];
  words_are = ap (λ l. l ++ second) e ∙ ap (λ l. spelled joined which text ++ l) f;
  pass = (use_from which [] text refl t, tt);
  answers = answers which r n;
}
  where
    answers : (which : Bool) → ReadsNumber (bits_of which) (Some (without_minus text)) (number_of which asked) → number_of (other which) asked ≡ None
        → RunAnswers (rows_after_uses (record { which = which; text = text; is_joined = joined } ∷ []) []) asked
    answers true r n = record { threshold = r; limit = n }
    answers false r n = record { threshold = n; limit = r }
passing which asked first second (used_once joined text t r e) (used_once joined2 text2 t2 r2 f) = record {
  uses = record { which = which; text = text; is_joined = joined } ∷ record { which = other which; text = text2; is_joined = joined2 } ∷ [];
  words_are = ap (λ l. l ++ second) e ∙ ap (λ l. spelled joined which text ++ l) (f ∙ sym (append-nil (spelled joined2 (other which) text2)));
  pass = (
    use_from which [] text refl t,
    (
      use_from (other which) (rows_after_uses (record { which = which; text = text; is_joined = joined } ∷ []) []) text2
          (second_first which joined text) t2,
      tt,
    ),
  );
  answers = answers which r r2;
}
  where
    answers : (which : Bool) → ReadsNumber (bits_of which) (Some (without_minus text)) (number_of which asked)
        → ReadsNumber (bits_of (other which)) (Some (without_minus text2)) (number_of (other which) asked)
        → RunAnswers (rows_after_uses (record { which = which; text = text; is_joined = joined } ∷ record {
          which = other which;
          text = text2;
          is_joined =
              joined2;
        } ∷ []) []) asked
    answers true r r2 = record { threshold = r; limit = r2 }
    answers false r r2 = record { threshold = r2; limit = r }

-- what is behind `run`
pub record AsksBack (asked : RunOptions) (words : List Text) : Type 0 where
  pub name : Text
  pub rest : List Text
  pub words_are : words ≡ name ∷ codes "run" ∷ rest
  pub passes : Passing asked rest

pub asks_back : (words : List Text) (asked : RunOptions) → AsksForRun words asked → AsksBack asked words
unfolding other number_of
asks_back words asked a = go a.are
  where
    threshold : Given true asked.threshold a.threshold_words
    threshold = given_back true asked.threshold a.threshold_words a.threshold

    limit : Given false asked.limit a.limit_words
    limit = given_back false asked.limit a.limit_words a.limit

    go : (words ≡ a.name ∷ codes "run" ∷ a.threshold_words ++ a.limit_words) ⊎ (words ≡ a.name ∷ codes "run" ∷ a.limit_words ++ a.threshold_words)
        → AsksBack asked words
    go (inl are) = record {
      name = a.name;
      rest = a.threshold_words ++ a.limit_words;
      words_are = are;
      passes = passing true asked a.threshold_words
          a.limit_words threshold limit;
    }
    go (inr are) = record {
      name = a.name;
      rest = a.limit_words ++ a.threshold_words;
      words_are = are;
      passes = passing false asked a.limit_words
          a.threshold_words limit threshold;
    }
