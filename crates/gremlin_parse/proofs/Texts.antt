-- Texts between quotes: the pieces of their bytes, and the one way to read them.
use Rattle.std.proofs.Common.{◌≡◌, ◌≢◌, ◌<◌, ◌+◌, inl, inr, ℕ, Bool, true, false, cond, Some, Option, IsSome, unwrap_or}
use Rattle.std.proofs.Common.{◌-◌, List, [], ◌∷◌, ◌++◌, length, take, drop, eqb, refl, sym, ap, ◌∙◌, subst}
use Rattle.std.proofs.Common.{append_assoc, length-append, arith}
use Rattle.std.proofs.lemmas.List.{append-nil}
use Rattle.std.proofs.Math.Seq.{take-append_seam, drop-append_seam}
use borrow.Author.Tests.{eqb-true}
use Rattle.gremlin_parse.specs.Values.{is_quote, escaped, IsPiece, ArePieces, unescaped, unescaped_after}
use Rattle.gremlin_parse.specs.Reading.{first_byte}
use Rattle.gremlin_parse.specs.Texts.{StartsWith, TakesPiece, TakesLetter, LeavesPiece, StartsEscape, ReadsQuoted, LeavesQuoted}

-- A backslash is no quote.
pub no_quote : (quote : ℕ) → is_quote quote ≡ true → quote ≢ 92
no_quote quote is = λ same. let clash : is_quote quote ≡ false = ap is_quote same in cc

-- A piece begins with no closing quote.
pub piece_no_quote : (quote b : ℕ) → is_quote quote ≡ true → (piece rest more : List ℕ) → IsPiece quote b piece → piece ++ rest ≡ quote ∷ more → ⊥
piece_no_quote quote b is piece rest more (inl (piece_is, other, plain)) whole =
    let here : b ∷ rest ≡ quote ∷ more = ap (λ p. p ++ rest) (sym piece_is) ∙ whole in
    let same : b ≡ quote = cc in
    other same
piece_no_quote quote b is piece rest more (inr (letter, piece_is, stands)) whole =
    let here : 92 ∷ letter ∷ rest ≡ quote ∷ more = ap (λ p. p ++ rest) (sym piece_is) ∙ whole in
    let same : 92 ≡ quote = cc in
    no_quote quote is (sym same)

-- two pieces at one place are one
pub record SamePiece (b c : ℕ) (piece other rest more : List ℕ) : Type 0 where
  pub byte : b ≡ c
  pub is : piece ≡ other
  pub later : rest ≡ more

pub one_piece : (quote b c : ℕ) (piece other rest more : List ℕ) → IsPiece quote b piece → IsPiece quote c other → piece ++ rest ≡ other ++ more
    → SamePiece b c piece other rest more
one_piece quote b c piece other rest more (inl (is, close, plain)) (inl (is_other, closes, plains)) whole =
    let here : b ∷ rest ≡ c ∷ more = ap (λ p. p ++ rest) (sym is) ∙ whole ∙ ap (λ p. p ++ more) is_other in
    let same : b ≡ c = cc in
    record { byte = same; is = is ∙ (λ i. same i ∷ []) ∙ sym is_other; later = cc }
one_piece quote b c piece other rest more (inl (is, close, plain)) (inr (letter, is_other, stands)) whole =
    let here : b ∷ rest ≡ 92 ∷ letter ∷ more = ap (λ p. p ++ rest) (sym is) ∙ whole ∙ ap (λ p. p ++ more) is_other in
    let same : b ≡ 92 = cc in
    absurd (plain same)
one_piece quote b c piece other rest more (inr (letter, is, stands)) (inl (is_other, closes, plains)) whole =
    let here : 92 ∷ letter ∷ rest ≡ c ∷ more = ap (λ p. p ++ rest) (sym is) ∙ whole ∙ ap (λ p. p ++ more) is_other in
    let same : c ≡ 92 = cc in
    absurd (plains same)
one_piece quote b c piece other rest more (inr (letter, is, stands)) (inr (second, is_other, stand)) whole =
    let here : 92 ∷ letter ∷ rest ≡ 92 ∷ second ∷ more = ap (λ p. p ++ rest) (sym is) ∙ whole ∙ ap (λ p. p ++ more) is_other in
    let same : letter ≡ second = cc in
    let bytes : Some b ≡ Some c = sym stands ∙ ap escaped same ∙ stand in
    record { byte = cc; is = is ∙ (λ i. 92 ∷ same i ∷ []) ∙ sym is_other; later = cc }

-- The pieces of a text go on after those of another one.
pub record Later (quote : ℕ) (text inside other others more rest : List ℕ) : Type 0 where
  pub text_left : List ℕ
  pub left : List ℕ
  pub other_is : other ≡ text ++ text_left
  pub others_are : others ≡ inside ++ left
  pub pieces : ArePieces quote text_left left
  pub more_is : more ≡ left ++ quote ∷ rest

-- Where pieces stand at the head of a text and its closing quote, they are its first ones.
pub pieces_go_on : (quote : ℕ) → is_quote quote ≡ true → (text inside other others more rest : List ℕ) → ArePieces quote text inside
    → ArePieces quote other others → inside ++ more ≡ others ++ quote ∷ rest → Later quote text inside other others more rest
pieces_go_on quote is [] inside other others more rest none pieces whole = record {
  text_left = other;
  left = others;
  other_is = refl;
  others_are = sym (ap (λ i. i ++ others) none);
  pieces = pieces;
  more_is = sym (ap (λ i. i ++ more) none) ∙ whole;
}
pieces_go_on quote is (b ∷ text) inside [] others more rest (piece, later, inside_is, this, pieces) none whole =
    let here : piece ++ (later ++ more) ≡ quote ∷ rest = sym (append_assoc piece later more) ∙ ap (λ i. i ++ more) (sym inside_is) ∙ whole
    ∙ ap (λ o. o ++ quote ∷ rest) none in
    absurd (piece_no_quote quote b is piece (later ++ more) rest this here)
pieces_go_on quote is (b ∷ text) inside (c ∷ other) others more rest (piece, later, inside_is, this, pieces) (second, afters, others_are, that, others_pieces)
    whole =
    let here : piece ++ (later ++ more) ≡ second ++ (afters ++ quote ∷ rest) = sym (append_assoc piece later more) ∙ ap (λ i. i ++ more) (sym inside_is) ∙ whole
    ∙ ap (λ o. o ++ quote ∷ rest) others_are ∙ append_assoc second afters (quote ∷ rest) in
    let same = one_piece quote b c piece second (later ++ more) (afters ++ quote ∷ rest) this that here in
    let after = pieces_go_on quote is text later other afters more rest pieces others_pieces same.later in
    record {
      text_left = after.text_left;
      left = after.left;
      other_is = (λ i. sym same.byte i ∷ after.other_is i);
      others_are = others_are ∙ ap (λ p. p ++ afters) (sym same.is) ∙ ap (λ a. piece ++ a) after.others_are ∙ sym (append_assoc piece later after.left)
          ∙ ap (λ i. i ++ after.left) (sym inside_is);
      pieces = after.pieces;
      more_is = after.more_is;
    }

-- The text between two quotes is the only one, and so is what stands after it.
pub one_text : (quote : ℕ) → is_quote quote ≡ true → (text inside other others rest more : List ℕ) → ArePieces quote text inside → ArePieces quote other others
    → inside ++ quote ∷ rest ≡ others ++ quote ∷ more → (text ≡ other) × (rest ≡ more)
one_text quote is text inside other others rest more pieces others_pieces whole =
    let later = pieces_go_on quote is text inside other others (quote ∷ rest) more pieces others_pieces whole in
    let last = ended later.text_left later.left later.pieces later.more_is in
    (sym (append-nil text) ∙ ap (λ t. text ++ t) (sym last.0) ∙ sym later.other_is, last.1)
  where
    ended : (left inside_left : List ℕ) → ArePieces quote left inside_left → quote ∷ rest ≡ inside_left ++ quote ∷ more → (left ≡ []) × (rest ≡ more)
    ended [] inside_left none here = let same : quote ∷ rest ≡ quote ∷ more = here ∙ ap (λ i. i ++ quote ∷ more) none in (refl, cc)
    ended (b ∷ left) inside_left (piece, after, inside_is, this, pieces_left) here =
        absurd (piece_no_quote quote b is piece (after ++ quote ∷ more) rest this (sym (append_assoc piece after (quote ∷ more)) ∙ ap (λ i. i ++ quote ∷ more)
        (sym inside_is) ∙ sym here))

-- one piece more
pub pieces_more : (quote b : ℕ) (text inside piece : List ℕ) → ArePieces quote text inside → IsPiece quote b piece
    → ArePieces quote (text ++ b ∷ []) (inside ++ piece)
pieces_more quote b [] inside piece none this = (piece, [], ap (λ i. i ++ piece) none ∙ sym (append-nil piece), this, refl)
pieces_more quote b (c ∷ text) inside piece (first, later, inside_is, that, pieces) this =
    (first, later ++ piece, ap (λ i. i ++ piece) inside_is ∙ append_assoc first later piece, that, pieces_more quote b text later piece pieces this)

-- the text of its pieces
pub unescaped_pieces : (quote : ℕ) (text inside : List ℕ) → ArePieces quote text inside → unescaped inside ≡ text
unescaped_pieces quote [] inside none = ap unescaped none
unescaped_pieces quote (b ∷ text) inside (piece, later, inside_is, inl (piece_is, close, plain), pieces) =
    let whole : inside ≡ b ∷ later = inside_is ∙ ap (λ p. p ++ later) piece_is in
    ap unescaped whole ∙ here (eqb b 92) refl ∙ ap (λ t. b ∷ t) (unescaped_pieces quote text later pieces)
  where
    here : (t : Bool) → eqb b 92 ≡ t → cond t (unescaped_after true later) (b ∷ unescaped_after false later) ≡ b ∷ unescaped later
    here true is = absurd (plain (eqb-true b 92 is))
    here false is = refl
unescaped_pieces quote (b ∷ text) inside (piece, later, inside_is, inr (letter, piece_is, stands), pieces) =
    let whole : inside ≡ 92 ∷ letter ∷ later = inside_is ∙ ap (λ p. p ++ later) piece_is in
    ap unescaped whole ∙ ap (λ (o : Option ℕ). unwrap_or o letter ∷ unescaped later) stands ∙ ap (λ t. b ∷ t) (unescaped_pieces quote text later pieces)

-- ---- reading a text byte by byte

-- a byte for itself
pub plain_piece : (quote first : ℕ) (bytes after : List ℕ) → bytes ≡ first ∷ after → first ≢ quote → first ≢ 92 → TakesPiece quote bytes after
plain_piece quote first bytes after whole close plain = record { b = first; piece = first ∷ []; bytes_are = whole; is = inl (refl, close, plain) }

-- a backslash and its letter
pub escape_piece : (quote first : ℕ) (bytes after rest : List ℕ) → bytes ≡ first ∷ after → first ≡ 92 → TakesLetter after rest → TakesPiece quote bytes rest
escape_piece quote first bytes after rest whole is (letter, b, after_is, stands) =
    record { b = b; piece = 92 ∷ letter ∷ []; bytes_are = whole ∙ (λ i. is i ∷ after_is i); is = inr (letter, refl, stands) }

-- A piece has some byte, so what follows it is shorter.
pub piece_shorter : (quote : ℕ) (bytes rest : List ℕ) → TakesPiece quote bytes rest → length rest < length bytes
piece_shorter quote bytes rest takes =
    let len : length bytes ≡ length takes.piece + length rest = ap length takes.bytes_are ∙ length-append takes.piece rest in
    let some : 0 < length takes.piece = longer takes.is in
    omega arith
  where
    longer : IsPiece quote takes.b takes.piece → 0 < length takes.piece
    longer (inl (is, close, plain)) = let one : length takes.piece ≡ 1 = ap length is in omega arith
    longer (inr (letter, is, stands)) = let two : length takes.piece ≡ 2 = ap length is in omega arith

-- whether a letter of an escape stands there depends on the first byte only
pub StartsEscape-first_byte : (bytes more : List ℕ) → first_byte bytes ≡ first_byte more → StartsEscape bytes → StartsEscape more
StartsEscape-first_byte [] more same starts = absurd starts
StartsEscape-first_byte (b ∷ bytes) [] same starts = cc
StartsEscape-first_byte (b ∷ bytes) (c ∷ more) same starts =
    let e : b ≡ c = cc in subst (λ letter. IsSome (escaped letter)) e starts

-- the pieces that were read, and what is left
pub record TextSoFar (quote : ℕ) (bytes rest : List ℕ) (len : ℕ) : Type 0 where
  pub text : List ℕ
  pub inside : List ℕ
  pub bytes_are : bytes ≡ inside ++ rest
  pub pieces : ArePieces quote text inside
  pub len_is : len ≡ length text

pub text_more : (quote : ℕ) (bytes rest after : List ℕ) (len : ℕ) → TextSoFar quote bytes rest len → TakesPiece quote rest after
    → TextSoFar quote bytes after (len + 1)
text_more quote bytes rest after len so_far takes = record {
  text = so_far.text ++ takes.b ∷ [];
  inside = so_far.inside ++ takes.piece;
  bytes_are = so_far.bytes_are ∙ ap (λ r. so_far.inside ++ r) takes.bytes_are ∙ sym (append_assoc so_far.inside takes.piece after);
  pieces = pieces_more quote takes.b so_far.text so_far.inside takes.piece so_far.pieces takes.is;
  len_is = let more = length-append so_far.text (takes.b ∷ []) in omega (arith, so_far.len_is, more);
}

pub text_stops : (quote : ℕ) (bytes rest : List ℕ) (len left : ℕ) → TextSoFar quote bytes rest len → LeavesPiece rest left → LeavesQuoted quote bytes left
text_stops quote bytes rest len left so_far leaves = record {
  text = so_far.text;
  inside = so_far.inside;
  rest = rest;
  bytes_are = so_far.bytes_are;
  pieces =
      so_far.pieces;
  leaves = leaves;
}

-- the whole text, cut where its closing quote stands
pub text_closes : (quote : ℕ) (bytes rest : List ℕ) (len : ℕ) → TextSoFar quote bytes rest len → StartsWith quote rest → (cut closed : List ℕ)
    → cut ≡ take (length bytes - length rest) bytes → closed ≡ drop (length bytes - length rest) bytes → (after : List ℕ) → after ≡ drop 1 closed
    → ReadsQuoted quote cut len bytes after
text_closes quote bytes rest len so_far (more, starts) cut closed cut_is closed_is after after_is =
    let sizes : length bytes ≡ length so_far.inside + length rest = ap length so_far.bytes_are ∙ length-append so_far.inside rest in
    let n : length bytes - length rest ≡ length so_far.inside = omega arith in
    let inside_is : cut ≡ so_far.inside = cut_is ∙ ap (λ k. take k bytes) n ∙ ap (take (length so_far.inside)) so_far.bytes_are
    ∙ take-append_seam so_far.inside rest in
    let rest_is : closed ≡ rest = closed_is ∙ ap (λ k. drop k bytes) n ∙ ap (drop (length so_far.inside)) so_far.bytes_are
    ∙ drop-append_seam so_far.inside rest in
    let more_is : after ≡ more = after_is ∙ ap (drop 1) (rest_is ∙ starts) in
    let text_is : unescaped cut ≡ so_far.text = ap unescaped inside_is ∙ unescaped_pieces quote so_far.text so_far.inside so_far.pieces in
    record {
      bytes_are = so_far.bytes_are ∙ ap (λ r. so_far.inside ++ r) starts ∙ (λ i. sym inside_is i ++ quote ∷ sym more_is i);
      pieces = subst (λ t. ArePieces quote t cut) (sym text_is) (subst (ArePieces quote so_far.text) (sym inside_is) so_far.pieces);
      len_is = so_far.len_is ∙ ap length (sym text_is);
    }
