-- Ranges of a buffer, one behind the other.
use Rattle.std.proofs.Common.{◌≡◌, ℕ, ◌+◌, ◌-◌, ◌≤◌, ◌<◌, List, [], ◌∷◌, ◌++◌, length, take, drop, sym, ◌∙◌, ap, subst, arith, append_assoc, length-drop}
use Rattle.std.specs.List.{slice_range}
use Rattle.std.proofs.Math.Seq.{take-add}
use Rattle.std.proofs.lemmas.List.{take-take, drop-drop, drop-take, length-take}
use Rattle.stream_io.specs.Answers.{IsPiece}

pub IsPiece-append : (xs ys : List ℕ) → IsPiece xs → IsPiece ys → IsPiece (xs ++ ys)
IsPiece-append [] ys p q = q
IsPiece-append (x ∷ xs) ys p q = (p.0, IsPiece-append xs ys p.1 q)

-- two ranges that meet are one
pub range_joined : (xs : List ℕ) (a b c : ℕ) → a ≤ b → b ≤ c → slice_range xs a b ++ slice_range xs b c ≡ slice_range xs a c
range_joined xs a b c ab bc =
    let whole : (b - a) + (c - b) ≡ c - a = omega arith in
    let seam : b ≡ a + (b - a) = omega arith in
    ap (λ (k : ℕ). take (b - a) (drop a xs) ++ take (c - b) (drop k xs)) seam
    ∙ ap (λ (ys : List ℕ). take (b - a) (drop a xs) ++ take (c - b) ys) (sym (drop-drop (b - a) a xs))
    ∙ sym (take-add (b - a) (c - b) (drop a xs))
    ∙ ap (λ (k : ℕ). take k (drop a xs)) whole

pub take-range : (xs : List ℕ) (a b n : ℕ) → n ≤ b - a → take n (slice_range xs a b) ≡ slice_range xs a (a + n)
take-range xs a b n le =
    let count : n ≡ a + n - a = omega arith in
    take-take n (b - a) (drop a xs) le ∙ ap (λ (k : ℕ). take k (drop a xs)) count

-- the same for a length within the range as it is
pub take-range_held : (xs : List ℕ) (a b n : ℕ) → n ≤ length (slice_range xs a b) → take n (slice_range xs a b) ≡ slice_range xs a (a + n)
take-range_held xs a b n le = take-range xs a b n (omega (arith, length-take (b - a) (drop a xs)))

pub drop-range : (xs : List ℕ) (a b n : ℕ) → n ≤ b - a → drop n (slice_range xs a b) ≡ slice_range xs (a + n) b
drop-range xs a b n le =
    let size : b - a ≡ n + (b - (a + n)) = omega arith in
    ap (λ (k : ℕ). drop n (take k (drop a xs))) size
    ∙ drop-take n (b - (a + n)) (drop a xs)
    ∙ ap (take (b - (a + n))) (drop-drop n a xs)

-- The bytes held from start to end, of which those before searched have no newline, and the place of the first newline
-- behind searched.
module _ (xs : List ℕ) (start searched end : ℕ) (order : start ≤ searched) (searched_order : searched ≤ end)
    (before : IsPiece (slice_range xs start searched)) where
  pub none_held : IsPiece (slice_range xs searched end) → IsPiece (slice_range xs start end)
  none_held none = subst IsPiece (range_joined xs start searched end order searched_order)
      (IsPiece-append (slice_range xs start searched) (slice_range xs searched end) before none)

  module _ (at : ℕ) (is_held : at < length (slice_range xs searched end)) (piece : IsPiece (take at (slice_range xs searched end)))
      (found : slice_range xs searched end ≡ take at (slice_range xs searched end) ++ 10 ∷ drop (at + 1) (slice_range xs searched end)) where
    within : at < end - searched
    within = omega (arith, is_held, length-take (end - searched) (drop searched xs))

    front : take at (slice_range xs searched end) ≡ slice_range xs searched (searched + at)
    front = take-range xs searched end at (omega (arith, within))

    pub piece_held : IsPiece (slice_range xs start (searched + at))
    piece_held = subst IsPiece (range_joined xs start searched (searched + at) order (omega arith))
        (IsPiece-append (slice_range xs start searched) (slice_range xs searched (searched + at)) before (subst IsPiece front piece))

    pub split_held : slice_range xs start end ≡ slice_range xs start (searched + at) ++ 10 ∷ slice_range xs (searched + at + 1) end
    split_held =
        let next : searched + (at + 1) ≡ searched + at + 1 = omega arith in
        sym (range_joined xs start searched end order searched_order)
        ∙ ap (λ (ys : List ℕ). slice_range xs start searched ++ ys) (found
        ∙ ap (λ (ys : List ℕ). ys ++ 10 ∷ drop (at + 1) (slice_range xs searched end)) front
        ∙ ap (λ (ys : List ℕ). slice_range xs searched (searched + at) ++ 10 ∷ ys)
        (drop-range xs searched end (at + 1) (omega (arith, within)) ∙ ap (λ (k : ℕ). slice_range xs k end) next))
        ∙ sym (append_assoc (slice_range xs start searched) (slice_range xs searched (searched + at)) (10 ∷ slice_range xs (searched + at + 1) end))
        ∙ ap (λ (ys : List ℕ). ys ++ 10 ∷ slice_range xs (searched + at + 1) end) (range_joined xs start searched (searched + at) order (omega arith))

pub length-range : (xs : List ℕ) (a b : ℕ) → b ≤ length xs → length (slice_range xs a b) ≡ b - a
length-range xs a b le = omega (arith, length-take (b - a) (drop a xs), length-drop a xs)

-- a range lies in the bytes before its end
range_front : (xs : List ℕ) (a b : ℕ) → a ≤ b → slice_range xs a b ≡ drop a (take b xs)
range_front xs a b ab =
    let whole : a + (b - a) ≡ b = omega arith in
    sym (drop-take a (b - a) xs) ∙ ap (λ (k : ℕ). drop a (take k xs)) whole

-- so it is the same where these are
pub range_same : (xs ys : List ℕ) (a b end : ℕ) → a ≤ b → b ≤ end → take end xs ≡ take end ys → slice_range xs a b ≡ slice_range ys a b
range_same xs ys a b end ab be same =
    range_front xs a b ab
    ∙ ap (drop a) (sym (take-take b end xs be) ∙ ap (take b) same ∙ take-take b end ys be)
    ∙ sym (range_front ys a b ab)
