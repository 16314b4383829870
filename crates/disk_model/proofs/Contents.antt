-- Bytes that stand in a file, and contents that are the same but for a range of one.
use Rattle.std.proofs.Common.{◌≡◌, ◌∙◌, ap, sym, ⊎_elim, ℕ, zero, suc, ◌+◌, ◌-◌, ◌≤◌, ◌<◌, List, [], ◌∷◌, ◌++◌, length, refl, arith, length-append}
use Rattle.std.proofs.lemmas.Bool.{cases_lt}
use Rattle.std.proofs.lemmas.List.{get_or_append_left, get_or-append_right, get_or-append-add}
use Rattle.disk_model.specs.Contents.{Files, Holds, Same, SameOutside, bytes_from}

-- the same but for a smaller range
pub SameOutside-within : (file at n wide_at wide_n : ℕ) (old new : Files) → wide_at ≤ at → at + n ≤ wide_at + wide_n → SameOutside file at n old new
    → SameOutside file wide_at wide_n old new
SameOutside-within file at n wide_at wide_n old new first last same other place out =
    same other place (λ within. out (record {
      in_file = within.in_file;
      at_or_behind = omega (arith, within.at_or_behind, first);
      before_end = omega
          (arith, within.before_end, last);
    }))

-- two changes in the range
pub SameOutside-then : (file at n : ℕ) (old middle new : Files) → SameOutside file at n old middle → SameOutside file at n middle new
    → SameOutside file at n old new
SameOutside-then file at n old middle new before after other place out = after other place out ∙ before other place out

-- no change at all
pub SameOutside-same : (file at n : ℕ) (old new : Files) → Same old new → SameOutside file at n old new
SameOutside-same file at n old new same other place out = same other place

-- bytes before the range stay
pub Holds-before : (file start at n : ℕ) (bytes : List ℕ) (old new : Files) → Holds file start bytes old → SameOutside file at n old new
    → start + length bytes ≤ at → Holds file start bytes new
Holds-before file start at n bytes old new holds same before i below =
    holds i below ∙ sym (same file (start + i) (λ within. omega (arith, within.at_or_behind, before, below)))

-- bytes with those behind them
pub Holds-append : (file at : ℕ) (front back : List ℕ) (content : Files) → Holds file at front content → Holds file (at + length front) back content
    → Holds file at (front ++ back) content
Holds-append file at front back content first second i below =
    ⊎_elim
    (λ before. get_or_append_left front back 0 i before ∙ first i before)
    (λ behind. get_or-append_right front back (length front) i 0 refl behind
    ∙ second (i - length front) (omega (arith, below, behind, length-append front back))
    ∙ ap (content file) (omega (arith, behind)))
    (cases_lt i (length front))

-- the bytes in front
pub Holds-front : (file at : ℕ) (front back : List ℕ) (content : Files) → Holds file at (front ++ back) content → Holds file at front content
Holds-front file at front back content holds i below =
    sym (get_or_append_left front back 0 i below) ∙ holds i (omega (arith, below, length-append front back))

-- the bytes behind them
pub Holds-back : (file at : ℕ) (front back : List ℕ) (content : Files) → Holds file at (front ++ back) content → Holds file (at + length front) back content
Holds-back file at front back content holds i below =
    sym (get_or-append-add front back i 0)
    ∙ holds (length front + i) (omega (arith, below, length-append front back))
    ∙ ap (content file) (omega arith)

-- the same bytes of a file
pub bytes_from-same : (n place : ℕ) (old new : ℕ → ℕ) → ((p : ℕ) → place ≤ p → p < place + n → new p ≡ old p) → bytes_from new place n ≡ bytes_from old place n
bytes_from-same zero place old new same = refl
bytes_from-same (suc n) place old new same =
    ap (λ b. b ∷ bytes_from new (place + 1) n) (same place (omega arith) (omega arith))
    ∙ ap (λ bytes. old place ∷ bytes) (bytes_from-same n (place + 1) old new (λ p first end. same p (omega (arith, first)) (omega (arith, end))))

-- bytes that stand in the file from a place on
pub bytes_from-holds : (bytes : List ℕ) (file place : ℕ) (content : Files) → Holds file place bytes content
    → bytes_from (content file) place (length bytes) ≡ bytes
bytes_from-holds [] file place content holds = refl
bytes_from-holds (b ∷ bytes) file place content holds =
    let first : content file place ≡ b = ap (content file) (omega arith) ∙ sym (holds 0 (omega arith)) in
    let rest : bytes_from (content file) (place + 1) (length bytes) ≡ bytes =
    bytes_from-holds bytes file (place + 1) content (Holds-back file place (b ∷ []) bytes content holds) in
    ap (λ c. c ∷ bytes_from (content file) (place + 1) (length bytes)) first ∙ ap (λ bs. b ∷ bs) rest

pub length-bytes_from : (file : ℕ → ℕ) (place n : ℕ) → length (bytes_from file place n) ≡ n
length-bytes_from file place zero = refl
length-bytes_from file place (suc n) = ap suc (length-bytes_from file (place + 1) n)
