-- Where reading stops in a value: no value goes on as the bytes do.
use Rattle.std.proofs.Common.{◌≡◌, inl, inr, ℕ, Bool, true, false, IsSome, List, [], ◌∷◌, ◌++◌, length, pos, codes, refl, sym, ap, ◌∙◌, subst, append_assoc}
use Rattle.plain_graph.specs.Names.{is_name_byte}
use Rattle.plain_graph.specs.declared.value.Value.{Value}
use Rattle.plain_graph.specs.declared.value.Value.TheVariants as values
use Rattle.gremlin_parse.specs.Values.{is_quote, truth_word, ArePieces, IsWritten}
use Rattle.gremlin_parse.specs.Faults.{EndsRun, IsBadValue}
use Rattle.gremlin_parse.specs.Reading.{first_byte, StopsBefore, StartsNumber}
use Rattle.gremlin_parse.specs.Keywords.{Entry, InTable, ThenWord}
use Rattle.gremlin_parse.specs.Texts.{StartsEscape, LeavesPiece, LeavesQuoted}
use Rattle.gremlin_parse.specs.Symbols.{AnyValue, IsBad, LeavesAt, LeavesNegative, LeavesText, LeavesTruth, truth_words, is_integer_start}
use Rattle.gremlin_parse.specs.declared.bad_token.BadToken.{BadToken}
use Rattle.gremlin_parse.proofs.Runs.{Halts, EndsRun-first_byte}
use Rattle.gremlin_parse.proofs.Stops.{stops_of_same}
use Rattle.gremlin_parse.proofs.Decimals.{number_starts, StartsNumber-first_byte}
use Rattle.gremlin_parse.proofs.Tables.{IsWordTable, word_table, stops_in_table, no_word}
use Rattle.gremlin_parse.proofs.Texts.{no_quote, pieces_go_on, pieces_more, StartsEscape-first_byte}
use Rattle.gremlin_parse.proofs.Values.{StartsKind, value_starts, integer_no_quote, name_no_quote, quoted_bytes}
use Rattle.gremlin_parse.proofs.Symbols.{One}

-- No bytes of the language go on after the read ones as the unread ones do.
record Blocks (Language : List ℕ → Type 0) (bytes : List ℕ) (left : ℕ) : Type 0 where
  pub read : List ℕ
  pub unread : List ℕ
  pub bytes_are : bytes ≡ read ++ unread
  pub left_is : left ≡ length unread
  pub none : (more : List ℕ) → first_byte more ≡ first_byte unread → ¬ Language (read ++ more)

blocks_refuse : (Language : List ℕ → Type 0) (bytes : List ℕ) (left : ℕ) → Blocks Language bytes left → ¬ Language bytes
blocks_refuse Language bytes left blocks is = blocks.none blocks.unread refl (subst Language blocks.bytes_are is)

blocks_stop : (Language : List ℕ → Type 0) (bytes : List ℕ) (left : ℕ) → (blocks : Blocks Language bytes left) → (more : List ℕ)
    → Language (blocks.read ++ more) → StopsBefore Language bytes left
blocks_stop Language bytes left blocks more line = record {
  read = blocks.read;
  unread = blocks.unread;
  bytes_are = blocks.bytes_are;
  left_is = blocks.left_is;
  viable = (more, line);
  none = blocks.none;
}

-- ---- after a minus

-- After a minus a value has a digit.
minus_starts : (value : Value) (prefix rest more : List ℕ) → IsWritten value prefix → 45 ∷ more ≡ prefix ++ rest → StartsNumber more
minus_starts (values.Int number) prefix rest more (inl (size, is, digits)) whole =
    let clash : false ≡ true = subst StartsNumber (sym whole) (number_starts prefix rest digits.0) in cc
minus_starts (values.Int number) prefix rest more (inr (size, digits, is, minus, digits_are)) whole =
    let here : 45 ∷ more ≡ 45 ∷ (digits ++ rest) = whole ∙ ap (λ p. p ++ rest) minus in
    let tails : digits ++ rest ≡ more = cc in
    subst StartsNumber tails (number_starts digits rest digits_are.0)
minus_starts (values.Bool truth) prefix rest more written whole =
    let clash : false ≡ true = subst (StartsKind (values.Bool truth)) (sym whole) (value_starts (values.Bool truth) prefix rest written) in cc
minus_starts (values.Text text) prefix rest more written whole =
    let clash : false ≡ true = subst (StartsKind (values.Text text)) (sym whole) (value_starts (values.Text text) prefix rest written) in cc

negative_blocks : (After : List ℕ → Type 0) (bytes : List ℕ) (left : ℕ) → LeavesNegative bytes left → Blocks (One AnyValue After) bytes left
negative_blocks After bytes left (after, minus, left_is, numberless) = record {
  read = 45 ∷ [];
  unread = after;
  bytes_are = minus;
  left_is = left_is;
  none = λ more same (value, allows, (prefix, rest, whole, written, last)).
      numberless (StartsNumber-first_byte more after same (minus_starts value prefix rest more written whole));
}

negative_stops : (After : List ℕ → Type 0) (line bytes : List ℕ) (left : ℕ) → After line → LeavesNegative bytes left
    → StopsBefore (One AnyValue After) bytes left
unfolding negative_blocks
negative_stops After line bytes left some leaves = blocks_stop (One AnyValue After) bytes left (negative_blocks After bytes left leaves) (codes "0" ++ line)
    (values.Int (pos 0), tt, (codes "-0", line, refl, inr (0, codes "0", refl, refl, (refl, refl)), some))

-- ---- in a text

-- a value that begins with a quote
record QuotedLine (quote : ℕ) (bytes : List ℕ) : Type 0 where
  pub text : List ℕ
  pub inside : List ℕ
  pub rest : List ℕ
  pub bytes_are : bytes ≡ inside ++ quote ∷ rest
  pub pieces : ArePieces quote text inside

quoted_line : (quote : ℕ) (bytes : List ℕ) → is_quote quote ≡ true → (value : Value) (prefix rest : List ℕ) → IsWritten value prefix
    → quote ∷ bytes ≡ prefix ++ rest → QuotedLine quote bytes
quoted_line quote bytes is (values.Int number) prefix rest written whole =
    absurd (integer_no_quote quote (subst (StartsKind (values.Int number)) (sym whole) (value_starts (values.Int number) prefix rest written)) is)
quoted_line quote bytes is (values.Bool truth) prefix rest written whole =
    absurd (name_no_quote quote (subst (StartsKind (values.Bool truth)) (sym whole) (value_starts (values.Bool truth) prefix rest written)) is)
quoted_line quote bytes is (values.Text text) prefix rest (other, inside, is_other, prefix_is, pieces) whole =
    let here : quote ∷ bytes ≡ other ∷ (inside ++ other ∷ rest) = whole ∙ ap (λ p. p ++ rest) prefix_is ∙ quoted_bytes other inside rest in
    let same : other ≡ quote = cc in
    let tails : bytes ≡ inside ++ other ∷ rest = cc in
    record {
      text = text;
      inside = inside;
      rest = rest;
      bytes_are = tails ∙ ap (λ q. inside ++ q ∷ rest) same;
      pieces = subst (λ q. ArePieces q text inside)
          same pieces;
    }

not_nothing : (left : List ℕ) (b : ℕ) (rest more : List ℕ) → more ≡ left ++ b ∷ rest → more ≡ [] → ⊥
not_nothing [] b rest more whole none = cc
not_nothing (c ∷ left) b rest more whole none = cc

-- After a backslash a text has a letter.
backslash_starts : (quote : ℕ) → is_quote quote ≡ true → (text left rest more : List ℕ) → ArePieces quote text left → 92 ∷ more ≡ left ++ quote ∷ rest
    → StartsEscape more
backslash_starts quote is [] left rest more none whole =
    let here : 92 ∷ more ≡ quote ∷ rest = whole ∙ ap (λ l. l ++ quote ∷ rest) none in
    let same : quote ≡ 92 = cc in
    absurd (no_quote quote is same)
backslash_starts quote is (b ∷ text) left rest more (piece, later, left_is, inl (piece_is, close, plain), pieces) whole =
    let here : 92 ∷ more ≡ b ∷ (later ++ quote ∷ rest) = whole ∙ ap (λ l. l ++ quote ∷ rest) (left_is ∙ ap (λ p. p ++ later) piece_is) in
    let same : b ≡ 92 = cc in
    absurd (plain same)
backslash_starts quote is (b ∷ text) left rest more (piece, later, left_is, inr (letter, piece_is, stands), pieces) whole =
    let here : 92 ∷ more ≡ 92 ∷ letter ∷ (later ++ quote ∷ rest) = whole ∙ ap (λ l. l ++ quote ∷ rest) (left_is ∙ ap (λ p. p ++ later) piece_is) in
    let tails : letter ∷ (later ++ quote ∷ rest) ≡ more = cc in
    subst StartsEscape tails (subst IsSome (sym stands) refl)

module _ (After : List ℕ → Type 0) (quote : ℕ) (is : is_quote quote ≡ true) (after : List ℕ) (left : ℕ) (leaves : LeavesQuoted quote after left) where
  -- what a text of the language goes on with after the pieces that were read
  go_on : (more : List ℕ) → One AnyValue After (quote ∷ (leaves.inside ++ more)) → QuotedLine quote more
  go_on more (value, allows, (prefix, rest, whole, written, last)) =
      let line = quoted_line quote (leaves.inside ++ more) is value prefix rest written whole in
      let later = pieces_go_on quote is leaves.text leaves.inside line.text line.inside more line.rest leaves.pieces line.pieces line.bytes_are in
      record { text = later.text_left; inside = later.left; rest = line.rest; bytes_are = later.more_is; pieces = later.pieces }

  quoted_blocks : (LeavesPiece leaves.rest left) → Blocks (One AnyValue After) (quote ∷ after) left
  quoted_blocks (inl (end, nothing_left)) = record {
    read = quote ∷ leaves.inside;
    unread = leaves.rest;
    bytes_are = ap (λ b. quote ∷ b) leaves.bytes_are;
    left_is = nothing_left ∙ ap length (sym end);
    none = λ more same one.
        let line = go_on more one in
        not_nothing line.inside quote line.rest more line.bytes_are (no_first more (same ∙ ap first_byte end));
  }
    where
      no_first : (more : List ℕ) → first_byte more ≡ first_byte [] → more ≡ []
      no_first [] same = refl
      no_first (b ∷ more) same = cc
  quoted_blocks (inr (wrong, backslash, left_is, letterless)) = record {
    read = quote ∷ (leaves.inside ++ 92 ∷ []);
    unread = wrong;
    bytes_are = ap (λ b. quote ∷ b) (leaves.bytes_are ∙ ap (λ r. leaves.inside ++ r) backslash ∙ sym (append_assoc leaves.inside (92 ∷ []) wrong));
    left_is = left_is;
    none = λ more same one.
        let line = go_on (92 ∷ more) (subst (λ b. One AnyValue After (quote ∷ b)) (append_assoc leaves.inside (92 ∷ []) more) one) in
        letterless (StartsEscape-first_byte more wrong same (backslash_starts quote is line.text line.inside line.rest more line.pieces line.bytes_are));
  }

  -- a text that goes on after the pieces that were read, and ends
  text_line : (text inside line : List ℕ) → ArePieces quote text inside → After line → One AnyValue After (quote ∷ (inside ++ quote ∷ line))
  text_line text inside line pieces some = (
    values.Text text,
    tt,
    (
      quote ∷ (inside ++ quote ∷ []),
      line,
      sym (quoted_bytes quote inside line),
      (quote, inside, is, refl, pieces),
      some,
    ),
  )

  quoted_stops : (line : List ℕ) → After line → LeavesPiece leaves.rest left → StopsBefore (One AnyValue After) (quote ∷ after) left
  unfolding quoted_blocks
  quoted_stops line some (inl (end, nothing_left)) =
      blocks_stop (One AnyValue After) (quote ∷ after) left (quoted_blocks (inl (end, nothing_left))) (quote ∷ line)
      (text_line leaves.text leaves.inside line leaves.pieces some)
  quoted_stops line some (inr (wrong, backslash, left_is, letterless)) =
      let escape : ArePieces quote (leaves.text ++ 10 ∷ []) (leaves.inside ++ 92 ∷ 110 ∷ []) =
      pieces_more quote 10 leaves.text leaves.inside (92 ∷ 110 ∷ []) leaves.pieces (inr (110, refl, refl)) in
      let same : (leaves.inside ++ 92 ∷ 110 ∷ []) ++ quote ∷ line ≡ (leaves.inside ++ 92 ∷ []) ++ 110 ∷ quote ∷ line =
      append_assoc leaves.inside (92 ∷ 110 ∷ []) (quote ∷ line) ∙ sym (append_assoc leaves.inside (92 ∷ []) (110 ∷ quote ∷ line)) in
      blocks_stop (One AnyValue After) (quote ∷ after) left (quoted_blocks (inr (wrong, backslash, left_is, letterless))) (110 ∷ quote ∷ line)
      (subst (λ b. One AnyValue After (quote ∷ b)) same (text_line (leaves.text ++ 10 ∷ []) (leaves.inside ++ 92 ∷ 110 ∷ []) line escape some))

text_blocks : (After : List ℕ → Type 0) (bytes : List ℕ) (left : ℕ) → LeavesText bytes left → Blocks (One AnyValue After) bytes left
text_blocks After bytes left (quote, after, is, whole, leaves) = subst (λ b. Blocks (One AnyValue After) b left) (sym whole)
    (quoted_blocks After quote is after left leaves leaves.leaves)

text_stops : (After : List ℕ → Type 0) (line bytes : List ℕ) (left : ℕ) → After line → LeavesText bytes left → StopsBefore (One AnyValue After) bytes left
text_stops After line bytes left some (quote, after, is, whole, leaves) =
    subst (λ b. StopsBefore (One AnyValue After) b left) (sym whole) (quoted_stops After quote is after left leaves line some leaves.leaves)

-- ---- in true or false

truth_table : IsWordTable truth_words
truth_table = word_table truth_words refl

-- a value that begins as neither a number nor a text does
record TruthLine (value : Value) (bytes : List ℕ) : Type 0 where
  pub truth : Bool
  pub is : value ≡ values.Bool truth

truth_line : (value : Value) (bytes : List ℕ) → EndsRun is_integer_start bytes → EndsRun is_quote bytes → StartsKind value bytes → TruthLine value bytes
truth_line value [] no_number quoteless starts = absurd starts
truth_line (values.Int number) (b ∷ bytes) no_number quoteless starts = let clash : true ≡ false = sym starts ∙ no_number in cc
truth_line (values.Bool truth) (b ∷ bytes) no_number quoteless starts = record { truth = truth; is = refl }
truth_line (values.Text text) (b ∷ bytes) no_number quoteless starts = let clash : true ≡ false = sym starts ∙ quoteless in cc

truth_entry : (truth : Bool) → InTable (truth_word truth, truth) truth_words
truth_entry true = inl refl
truth_entry false = inr (inl refl)

entry_truth : (entry : Entry Bool) → InTable entry truth_words → entry.0 ≡ truth_word entry.1
entry_truth entry (inl is) = ap (λ (e : Entry Bool). e.0) is ∙ sym (ap (λ (e : Entry Bool). truth_word e.1) is)
entry_truth entry (inr (inl is)) = ap (λ (e : Entry Bool). e.0) is ∙ sym (ap (λ (e : Entry Bool). truth_word e.1) is)
entry_truth entry (inr (inr none)) = absurd none

value_of_word : (After : List ℕ → Type 0) (bytes : List ℕ) → ThenWord truth_words (λ _. After) bytes → One AnyValue After bytes
value_of_word After bytes (entry, within, (prefix, rest, whole, is, after)) =
    (values.Bool entry.1, tt, (prefix, rest, whole, is ∙ entry_truth entry within, after))

word_of_value : (After : List ℕ → Type 0) (bytes : List ℕ) → EndsRun is_integer_start bytes → EndsRun is_quote bytes → One AnyValue After bytes
    → ThenWord truth_words (λ _. After) bytes
word_of_value After bytes no_number quoteless (value, allows, (prefix, rest, whole, written, after)) =
    let line = truth_line value bytes no_number quoteless (subst (StartsKind value) (sym whole) (value_starts value prefix rest written)) in
    ((truth_word line.truth, line.truth), truth_entry line.truth, (prefix, rest, whole, subst (λ (v : Value). IsWritten v prefix) line.is written, after))

module _ (After : List ℕ → Type 0) (ends : Halts is_name_byte After) where
  truth_stops : (line bytes : List ℕ) (left : ℕ) → After line → LeavesTruth bytes left → StopsBefore (One AnyValue After) bytes left
  truth_stops line bytes left some (no_number, quoteless, leaves) =
      stops_of_same (One AnyValue After) (ThenWord truth_words (λ _. After)) bytes left
      (value_of_word After)
      (λ more same one. word_of_value After more (EndsRun-first_byte is_integer_start bytes more same no_number) (EndsRun-first_byte is_quote bytes more same
      quoteless) one)
      (stops_in_table _ _ truth_table (λ _. After) (λ _. ends) (λ _. (line, some)) bytes left leaves)

  -- where reading stops in a value
  pub value_stops : (line bytes : List ℕ) (left : ℕ) → After line → LeavesAt AnyValue bytes left → StopsBefore (One AnyValue After) bytes left
  value_stops line bytes left some (inl leaves) = negative_stops After line bytes left some leaves
  value_stops line bytes left some (inr (inl leaves)) = text_stops After line bytes left some leaves
  value_stops line bytes left some (inr (inr leaves)) = truth_stops line bytes left some leaves

  -- No value stands there.
  pub value_refuses : (bytes : List ℕ) (left : ℕ) → LeavesAt AnyValue bytes left → ¬ One AnyValue After bytes
  value_refuses bytes left (inl leaves) = blocks_refuse (One AnyValue After) bytes left (negative_blocks After bytes left leaves)
  value_refuses bytes left (inr (inl leaves)) = blocks_refuse (One AnyValue After) bytes left (text_blocks After bytes left leaves)
  value_refuses bytes left (inr (inr (no_number, quoteless, leaves))) = λ one.
      no_word truth_words truth_table (λ _. After) (λ _. ends) bytes left leaves (word_of_value After bytes no_number quoteless one)

-- No value out of its bounds stands there.
pub no_bad_value : (bytes : List ℕ) (left : ℕ) → LeavesAt AnyValue bytes left → (kind : BadToken) (place : ℕ) → ¬ IsBad AnyValue kind place bytes
no_bad_value bytes left leaves kind place = λ (value, bad, rest, takes, at). refuse value bad takes.prefix rest takes.bytes_are takes.is leaves
  where
    Any : List ℕ → Type 0
    Any rest = Unit {0}

    refuse : (value : Value) → IsBadValue value kind → (prefix rest : List ℕ) → bytes ≡ prefix ++ rest → IsWritten value prefix → LeavesAt AnyValue bytes left
        → ⊥
    refuse value bad prefix rest whole written (inl negative) = blocks_refuse (One AnyValue Any) bytes left (negative_blocks Any bytes left negative)
        (value, tt, (prefix, rest, whole, written, tt))
    refuse value bad prefix rest whole written (inr (inl text)) = blocks_refuse (One AnyValue Any) bytes left (text_blocks Any bytes left text)
        (value, tt, (prefix, rest, whole, written, tt))
    refuse value bad prefix rest whole written (inr (inr (no_number, quoteless, truth))) =
        let line = truth_line value bytes no_number quoteless (subst (StartsKind value) (sym whole) (value_starts value prefix rest written)) in
        subst (λ (v : Value). IsBadValue v kind) line.is bad
