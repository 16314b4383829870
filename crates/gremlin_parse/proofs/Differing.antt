-- The place where bytes differ from a word.
use Rattle.std.proofs.Common.{◌≡◌, ◌≢◌, ℕ, ◌<◌, Some, List, [], ◌∷◌, ◌++◌, length, take, drop, get_or, refl, sym, ap}
use Rattle.std.proofs.Common.{◌∙◌, take-append-drop, append_assoc, subst, suc, arith}
use Rattle.std.proofs.lemmas.List.{append_cancel_left}
use Rattle.std.proofs.Math.Seq.{drop-cons}
use Rattle.gremlin_parse.specs.Reading.{first_byte, LeavesWord}

pub short_differs : (bytes : List ℕ) (next : ℕ) → length bytes < 1 → first_byte bytes ≢ Some next
short_differs [] next short = λ same. cc
short_differs (b ∷ bytes) next short = absurd (omega arith)

pub first_differs : (bytes : List ℕ) (next : ℕ) → get_or bytes 0 0 ≢ next → first_byte bytes ≢ Some next
first_differs [] next differs = λ same. cc
first_differs (b ∷ bytes) next differs = λ same. let e : b ≡ next = cc in differs e

pub leaves_word : (word bytes rest : List ℕ) (i : ℕ) → i < length word → bytes ≡ take i word ++ rest → first_byte rest ≢ Some (get_or word i 0)
    → LeavesWord word bytes (length rest)
leaves_word word bytes rest i within bytes_are differs = record {
  read = take i word;
  next = get_or word i 0;
  more = drop (suc i) word;
  unread = rest;
  word_is = sym (take-append-drop i word) ∙ ap (λ r. take i word ++ r) (drop-cons word i 0 within);
  bytes_are = bytes_are;
  left_is = refl;
  differs = differs;
}

pub leaves_word_at_end : (word bytes rest : List ℕ) (i : ℕ) → i < length word → bytes ≡ take i word ++ rest → length rest < 1 → LeavesWord word bytes 0
leaves_word_at_end word bytes rest i within bytes_are short =
    let left_is : length rest ≡ 0 = omega arith in
    subst (LeavesWord word bytes) left_is (leaves_word word bytes rest i within bytes_are (short_differs rest (get_or word i 0) short))

-- Bytes that differ from a word don't begin with it.
pub LeavesWord-refuses : (word bytes rest : List ℕ) (left : ℕ) → LeavesWord word bytes left → ¬ (bytes ≡ word ++ rest)
LeavesWord-refuses word bytes rest left leaves = λ whole.
    let goes_on : leaves.unread ≡ leaves.next ∷ (leaves.more ++ rest) =
    append_cancel_left leaves.read leaves.unread (leaves.next ∷ (leaves.more ++ rest))
    (sym leaves.bytes_are ∙ whole ∙ ap (λ w. w ++ rest) leaves.word_is ∙ append_assoc leaves.read (leaves.next ∷ leaves.more) rest) in
    leaves.differs (ap first_byte goes_on)
