-- The lines of bytes that begin with a whole piece.
use Rattle.std.proofs.Common.{◌≡◌, ◌≢◌, inl, inr, ℕ, List, [], ◌∷◌, ◌++◌, refl, sym, ◌∙◌, ap, subst, arith, map}
use Rattle.std.proofs.lemmas.Bool.{cases_eq}
use Rattle.std.proofs.lemmas.Bool.Decides.{nat_tests}
use Rattle.stream_io.specs.Lines.{Pieces, pieces_of, onto_first, line_of, lines_of, last_line}
use Rattle.stream_io.specs.Answers.{IsPiece}

-- a byte that is no newline goes onto the first piece
on_first : (b : ℕ) (bs : List ℕ) → b ≢ 10 → pieces_of (b ∷ bs) ≡ onto_first b (pieces_of bs).ended (pieces_of bs).rest
on_first b bs differs = grind (arith, nat_tests)

-- a piece and its newline, and the pieces behind it
pub piece_first : (piece bs : List ℕ) → IsPiece piece → pieces_of (piece ++ 10 ∷ bs) ≡ record
    { ended = piece ∷ (pieces_of bs).ended; rest = (pieces_of bs).rest }
piece_first [] bs p = refl
piece_first (b ∷ piece) bs p =
    on_first b (piece ++ 10 ∷ bs) p.0 ∙ ap (λ (ps : Pieces). onto_first b ps.ended ps.rest) (piece_first piece bs p.1)

-- a piece alone
pub piece_alone : (piece : List ℕ) → IsPiece piece → pieces_of piece ≡ record { ended = []; rest = piece }
piece_alone [] p = refl
piece_alone (b ∷ piece) p = on_first b piece p.0 ∙ ap (λ (ps : Pieces). onto_first b ps.ended ps.rest) (piece_alone piece p.1)

module _ (ys : List ℕ) where
  joined_onto : (b : ℕ) (es : List (List ℕ)) (rest : List ℕ) → (onto_first b es rest).rest ≡ [] → (ps : Pieces)
      → ps ≡ record { ended = es ++ (pieces_of ys).ended; rest = (pieces_of ys).rest }
      → onto_first b ps.ended ps.rest ≡ record { ended = (onto_first b es rest).ended ++ (pieces_of ys).ended; rest = (pieces_of ys).rest }
  joined_onto b [] rest none ps is = absurd (cc none)
  joined_onto b (e ∷ es) rest none ps is = ap (λ (qs : Pieces). onto_first b qs.ended qs.rest) is

  rest_onto : (b : ℕ) (es : List (List ℕ)) (rest : List ℕ) → (onto_first b es rest).rest ≡ [] → rest ≡ []
  rest_onto b [] rest none = absurd (cc none)
  rest_onto b (e ∷ es) rest none = none

  pub pieces_joined : (xs : List ℕ) → (pieces_of xs).rest ≡ [] → pieces_of (xs ++ ys) ≡ record
      { ended = (pieces_of xs).ended ++ (pieces_of ys).ended; rest = (pieces_of ys).rest }
  pieces_joined [] none = refl
  pieces_joined (b ∷ xs) none = elim (cases_eq b 10) [
    | inl is ↦ subst Joins (sym is) (λ (no_rest : (pieces_of xs).rest ≡ []). ap (λ (ps : Pieces). record { ended = [] ∷ ps.ended; rest = ps.rest })
        (pieces_joined xs no_rest)) none
    | inr is_not ↦
        let first : pieces_of (b ∷ xs) ≡ onto_first b (pieces_of xs).ended (pieces_of xs).rest = on_first b xs is_not in
        let no_rest : (onto_first b (pieces_of xs).ended (pieces_of xs).rest).rest ≡ [] = ap (λ (ps : Pieces). ps.rest) (sym first) ∙ none in
        on_first b (xs ++ ys) is_not
        ∙ joined_onto b (pieces_of xs).ended (pieces_of xs).rest no_rest (pieces_of (xs ++ ys))
        (pieces_joined xs (rest_onto b (pieces_of xs).ended (pieces_of xs).rest no_rest))
        ∙ ap (λ (ps : Pieces). record { ended = ps.ended ++ (pieces_of ys).ended; rest = (pieces_of ys).rest }) (sym first)
  ] where
    Joins : ℕ → Type 0
    Joins k = (pieces_of (k ∷ xs)).rest ≡ [] → pieces_of (k ∷ (xs ++ ys)) ≡ record
        { ended = (pieces_of (k ∷ xs)).ended ++ (pieces_of ys).ended; rest = (pieces_of ys).rest }

pub lines-piece : (piece bs : List ℕ) → IsPiece piece → lines_of (piece ++ 10 ∷ bs) ≡ line_of piece ∷ lines_of bs
lines-piece piece bs p = ap (λ (ps : Pieces). map line_of ps.ended ++ last_line ps.rest) (piece_first piece bs p)

last_of : (piece : List ℕ) → piece ≢ [] → last_line piece ≡ line_of piece ∷ []
last_of [] some = absurd (some refl)
last_of (b ∷ bs) some = refl

pub lines-last : (piece : List ℕ) → IsPiece piece → piece ≢ [] → lines_of piece ≡ line_of piece ∷ []
lines-last piece p some = ap (λ (ps : Pieces). map line_of ps.ended ++ last_line ps.rest) (piece_alone piece p) ∙ last_of piece some
