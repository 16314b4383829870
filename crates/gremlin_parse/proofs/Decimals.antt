-- Numbers that stand whole.
use Rattle.std.proofs.Common.{◌≡◌, ◌≢◌, ◌≤◌, ◌<◌, ◌+◌, ◌-◌, ◌*◌, suc, zero, take, drop, get_or, inl, inr, ℕ, nat_eq}
use Rattle.std.proofs.Common.{Bool, true, false, not, ◌&&◌, List, [], ◌∷◌, ◌++◌, length, refl, sym, ap, ◌∙◌, subst}
use Rattle.std.proofs.Common.{⊎_elim, arith}
use Rattle.std.specs.List.{prefix_len}
use Rattle.std.proofs.lemmas.Bool.{cond-true, cases_Bool}
use borrow.Author.Tests.{eqb-true}
use Rattle.gremlin_parse.specs.Grammar.{most_id}
use Rattle.gremlin_parse.specs.Numbers.{is_digit, are_digits, is_number, value_after, CountsNumber}
use Rattle.gremlin_parse.specs.Faults.{EndsRun}
use Rattle.gremlin_parse.specs.Reading.{first_byte, Passes, StartsNumber}
use Rattle.gremlin_parse.specs.Symbols.{AnyNumber, Takes}
use Rattle.gremlin_parse.proofs.Runs.{both, turned, cut_run, run_is_unique}

digits_pass : (bytes : List ℕ) → are_digits bytes ≡ true → Passes is_digit bytes
digits_pass [] is = tt
digits_pass (b ∷ bytes) is = let two = both (is_digit b) (are_digits bytes) is in (two.0, digits_pass bytes two.1)

number_passes : (bytes : List ℕ) → is_number bytes ≡ true → Passes is_digit bytes
number_passes [] is = cc
number_passes (b ∷ []) is = (is, tt)
number_passes (b ∷ c ∷ bytes) is =
    let two = both (is_digit b) (not (nat_eq b 48) && are_digits (c ∷ bytes)) is in
    let more = both (not (nat_eq b 48)) (are_digits (c ∷ bytes)) two.1 in
    (two.0, digits_pass (c ∷ bytes) more.1)

-- a number that begins with 0 is 0
zero_alone : (prefix rest more : List ℕ) → is_number prefix ≡ true → 48 ∷ rest ≡ prefix ++ more → (48 ∷ [] ≡ prefix) × (rest ≡ more)
zero_alone [] rest more is whole = cc
zero_alone (b ∷ []) rest more is whole = let head : 48 ≡ b = cc in let tails : rest ≡ more = cc in ((λ i. head i ∷ []), tails)
zero_alone (b ∷ c ∷ prefix) rest more is whole =
    let head : b ≡ 48 = cc in
    let two = both (is_digit b) (not (nat_eq b 48) && are_digits (c ∷ prefix)) is in
    let other = turned (nat_eq b 48) (both (not (nat_eq b 48)) (are_digits (c ∷ prefix)) two.1).0 in
    let clash : true ≡ false = ap (λ n. nat_eq n 48) (sym head) ∙ other in
    cc

-- The number that stands whole at the head is the only one.
pub one_number : (n m : ℕ) (bytes rest more : List ℕ) → Takes (AnyNumber most_id) n bytes rest → Takes (AnyNumber most_id) m bytes more → (n ≡ m)
    × (rest ≡ more)
one_number n m bytes rest more one two =
    let whole : one.prefix ++ rest ≡ two.prefix ++ more = sym one.bytes_are ∙ two.bytes_are in
    let same : (one.prefix ≡ two.prefix) × (rest ≡ more) =
    ⊎_elim
    (λ (zero : one.prefix ≡ 48 ∷ []). let alone = zero_alone two.prefix rest more two.is.0 (ap (λ f. f ++ rest) (sym zero) ∙ whole) in let pair :
    (one.prefix ≡ two.prefix) × (rest ≡ more) = (zero ∙ alone.0, alone.1) in pair)
    (λ (stops_here : EndsRun is_digit rest).
    ⊎_elim
    (λ (zero : two.prefix ≡ 48 ∷ []). let alone = zero_alone one.prefix more rest one.is.0 (ap (λ f. f ++ more) (sym zero) ∙ sym whole) in let pair :
    (one.prefix ≡ two.prefix) × (rest ≡ more) = (sym (zero ∙ alone.0), sym alone.1) in pair)
    (λ (stops_there : EndsRun is_digit more). run_is_unique is_digit one.prefix two.prefix rest more (number_passes one.prefix one.is.0)
    (number_passes two.prefix two.is.0) stops_here stops_there whole)
    two.ends)
    one.ends in
    (one.is.1 ∙ ap (value_after 0) same.0 ∙ sym two.is.1, same.1)

-- a number before any bytes
pub number_starts : (prefix rest : List ℕ) → is_number prefix ≡ true → StartsNumber (prefix ++ rest)
number_starts [] rest is = cc
number_starts (b ∷ prefix) rest is = (number_passes (b ∷ prefix) is).0

pub StartsNumber-first_byte : (bytes more : List ℕ) → first_byte bytes ≡ first_byte more → StartsNumber bytes → StartsNumber more
StartsNumber-first_byte [] more same is = absurd is
StartsNumber-first_byte (b ∷ bytes) [] same is = cc
StartsNumber-first_byte (b ∷ bytes) (c ∷ more) same is = let e : c ≡ b = cc in ap is_digit e ∙ is

value_grows : (n : ℕ) (bytes : List ℕ) → n ≤ value_after n bytes
value_grows n [] = omega arith
value_grows n (b ∷ bytes) = let more = value_grows (n * 10 + (b - 48)) bytes in omega (arith, more)

-- a value above the most stays above it
pub stays_above : (most n : ℕ) (bytes : List ℕ) → most < n → most < value_after n bytes
stays_above most n bytes above = let more = value_grows n bytes in omega (arith, more)

-- one digit more
pub value_more : (n i : ℕ) (bytes : List ℕ) → i < length bytes → value_after (n * 10 + (get_or bytes i 0 - 48)) (drop (i + 1) bytes) ≡ value_after n
    (drop i bytes)
value_more n i bytes lt = let next : suc i ≡ i + 1 = omega arith in ap (λ k. value_after (n * 10 + (get_or bytes i 0 - 48)) (drop k bytes)) (sym next)
    ∙ sym (ap (value_after n) (cells i bytes lt))
  where
    cells : (i : ℕ) (bytes : List ℕ) → i < length bytes → drop i bytes ≡ get_or bytes i 0 ∷ drop (suc i) bytes
    cells i [] lt = absurd (omega arith)
    cells zero (b ∷ bytes) lt = refl
    cells (suc i) (b ∷ bytes) lt = cells i bytes (omega arith)

pub above_at : (most n i : ℕ) (bytes : List ℕ) → i < length bytes → most < n * 10 + (get_or bytes i 0 - 48) → most < value_after n (drop i bytes)
above_at most n i bytes lt above = subst (λ v. most < v) (value_more n i bytes lt)
    (stays_above most (n * 10 + (get_or bytes i 0 - 48)) (drop (i + 1) bytes) above)

digits_are : (bytes : List ℕ) → Passes is_digit bytes → are_digits bytes ≡ true
digits_are [] passes = refl
digits_are (b ∷ bytes) passes = ap (λ (t : Bool). t && are_digits bytes) passes.0 ∙ digits_are bytes passes.1

not_same : (b c : ℕ) → b ≢ c → nat_eq b c ≡ false
not_same b c other = ⊎_elim (λ (same : nat_eq b c ≡ true). absurd (other (eqb-true b c same))) (λ (none : nat_eq b c ≡ false). none) (cases_Bool (nat_eq b c))

run_is_number : (b : ℕ) (run : List ℕ) → b ≢ 48 → Passes is_digit (b ∷ run) → is_number (b ∷ run) ≡ true
run_is_number b [] other passes = passes.0
run_is_number b (c ∷ run) other passes = ap (λ (t : Bool). t && (not (nat_eq b 48) && are_digits (c ∷ run))) passes.0
    ∙ ap (λ (t : Bool). not t && are_digits (c ∷ run)) (not_same b 48 other) ∙ digits_are (c ∷ run) passes.1

abbrev NumberOf : List ℕ → ℕ → Type 0
NumberOf bytes len = Takes (AnyNumber most_id) (value_after 0 (take len bytes)) bytes (drop len bytes)

number_of : (bytes : List ℕ) (len : ℕ) → CountsNumber bytes len → len ≢ 0 → NumberOf bytes len
number_of [] len counts some = absurd (some counts)
number_of (b ∷ bytes) len counts some =
    ⊎_elim
    (λ ((zero_is, one) : (b ≡ 48) × (len ≡ 1)). subst (NumberOf (b ∷ bytes)) (sym one) (zero_cut zero_is))
    (λ ((other, count) : (b ≢ 48) × (len ≡ prefix_len is_digit (b ∷ bytes))). subst (NumberOf (b ∷ bytes)) (sym count)
    (run_cut other (λ none. some (count ∙ none))))
    counts
  where
    zero_cut : b ≡ 48 → NumberOf (b ∷ bytes) 1
    zero_cut is = record {
      prefix = b ∷ take 0 bytes;
      bytes_are = λ i. b ∷ (nil_prefix bytes i);
      is = (
        ap (λ c. is_number (c ∷ take 0 bytes)) is ∙ zero_number
            bytes,
        refl,
      );
      ends = inl ((λ i. is i ∷ take 0 bytes) ∙ zero_list bytes);
    }
      where
        nil_prefix : (list : List ℕ) → list ≡ take 0 list ++ drop 0 list
        nil_prefix [] = refl
        nil_prefix (x ∷ list) = refl

        zero_number : (list : List ℕ) → is_number (48 ∷ take 0 list) ≡ true
        zero_number [] = refl
        zero_number (x ∷ list) = refl

        zero_list : (list : List ℕ) → 48 ∷ take 0 list ≡ 48 ∷ []
        zero_list [] = refl
        zero_list (x ∷ list) = refl

    run_cut : b ≢ 48 → prefix_len is_digit (b ∷ bytes) ≢ 0 → NumberOf (b ∷ bytes) (prefix_len is_digit (b ∷ bytes))
    run_cut other some_len =
        let cut = cut_run is_digit (b ∷ bytes) in
        let n : ℕ = prefix_len is_digit (b ∷ bytes) in
        record {
          prefix = take n (b ∷ bytes);
          bytes_are = cut.bytes_are;
          is = (
            run_number (take n (b ∷ bytes)) (drop n (b ∷ bytes)) cut.bytes_are cut.passes
                (taken n some_len),
            refl,
          );
          ends = inr cut.ends;
        }
      where
        taken : (k : ℕ) → k ≢ 0 → take k (b ∷ bytes) ≢ []
        taken zero some_k = λ none. some_k refl
        taken (suc k) some_k = λ none. cc

        run_number : (run rest : List ℕ) → b ∷ bytes ≡ run ++ rest → Passes is_digit run → run ≢ [] → is_number run ≡ true
        run_number [] rest whole passes some_run = absurd (some_run refl)
        run_number (c ∷ run) rest whole passes some_run = let head : c ≡ b = cc in run_is_number c run (λ zero_is. other (sym head ∙ zero_is)) passes

no_count : (b : ℕ) (bytes : List ℕ) → prefix_len is_digit (b ∷ bytes) ≡ 0 → is_digit b ≡ true → ⊥
no_count b bytes none is = let one = cond-true (is_digit b) (1 + prefix_len is_digit bytes) 0 is in absurd (omega (arith, none, one))

pub no_number : (bytes : List ℕ) (len : ℕ) → CountsNumber bytes len → len ≡ 0 → ¬ StartsNumber bytes
no_number [] len counts none = λ is. is
no_number (b ∷ bytes) len counts none = λ is. ⊎_elim (λ ((zero_is, one) : (b ≡ 48) × (len ≡ 1)). absurd (omega (arith, one, none)))
    (λ ((other, count) : (b ≢ 48) × (len ≡ prefix_len is_digit (b ∷ bytes))). no_count b bytes (sym count ∙ none) is) counts

-- the number of so many bytes
pub takes_number : (bytes digits rest : List ℕ) (n len : ℕ) → CountsNumber bytes len → len ≢ 0 → digits ≡ take len bytes → rest ≡ drop len bytes
    → n ≡ value_after 0 digits → Takes (AnyNumber most_id) n bytes rest
takes_number bytes digits rest n len counts some digits_are_these rest_is value =
    let takes = number_of bytes len counts some in
    let value_is : n ≡ value_after 0 (take len bytes) = value ∙ ap (value_after 0) digits_are_these in
    subst (λ k. Takes (AnyNumber most_id) k bytes rest) (sym value_is) (subst (Takes (AnyNumber most_id) (value_after 0 (take len bytes)) bytes) (sym rest_is)
    takes)
