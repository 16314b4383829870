-- A name is written as its record, which is read back and fits.
use Rattle.std.proofs.Common.{◌≡◌, ◌⊎◌, ⊎_elim, inl, inr, ℕ, zero, suc, ◌+◌, ◌-◌, ◌<◌, ◌≤◌, true, false, ◌&&◌, cond}
use Rattle.std.proofs.Common.{nat_lt, List, [], ◌∷◌, ◌++◌, Some, None, get_or, length, take, drop, refl, sym, ap, ◌∙◌}
use Rattle.std.proofs.Common.{arith}
use Rattle.std.specs.Prelude.{nat_le, replicate}
use Rattle.std.specs.List.{list_any}
use Rattle.std.proofs.lemmas.Bool.{cases_lt}
use Rattle.std.proofs.lemmas.Bool.Decides.{nat_tests}
use Rattle.std.proofs.lemmas.List.{take_at, drop-replicate, get_or-append_right, get_or-replicate, get_or_append_left, length-append}
use native.Mathlib.Nat.{mod-eq_of_lt}
use borrow.Rule.Slice.PartMut.{put_mid}
use Rattle.plain_graph.specs.Names.{IsShortName}
use Rattle.rec_bytes.specs.Format as format
use Rattle.rec_bytes.specs.Record.{as_64, field, with_bytes, with_field, zeros}
use Rattle.rec_bytes.proofs.Numbers.{byte-is}
use Rattle.store_rules.specs.Ranges.{Fits, Range, bytes_of, is_in, laid, layout_by, layout_of, name_layout}
use Rattle.store_rules.specs.Views.{text_of}
use Rattle.name_store.specs.NameRecord.{name_record}

-- the length of the name
pub length-name_record : (text : List ℕ) → length text ≤ 48 → field 1 (name_record text) format.name_length ≡ length text
length-name_record text short = sym (byte-is (name_record text) format.name_length (omega arith))

-- the text of the record is the name
pub text_of-name_record : (text : List ℕ) → length text ≤ 48 → text_of (name_record text) ≡ text
text_of-name_record text short = ap (λ n. take n (drop format.name_text (name_record text).bytes)) (length-name_record text short)
    ∙ take_at text (replicate (56 - length text) 0) (length text) refl

-- the kind and the length are written
head-name_record : (len : ℕ) → len < 256 → (with_field 1 (with_field 1 zeros format.kind format.named) format.name_length len).bytes ≡ format.named ∷ len
    ∷ replicate 62 0
unfolding with_field with_bytes as_64
head-name_record len small = ap (λ low. format.named ∷ low ∷ replicate 62 0) (mod-eq_of_lt small)

-- the name is written after its kind and its length
put_mid-name_record : (text bytes : List ℕ) → bytes ≡ format.named ∷ length text ∷ replicate 62 0
    → put_mid 8 ((8 + length text) - 8) bytes text ≡ (name_record text).bytes
put_mid-name_record text bytes head =
    let after : (8 + length text) - 8 ≡ length text = omega arith in
    let rest = drop-replicate ((8 + length text) - 8) 56 0 ∙ ap (λ len. replicate (56 - len) 0) after in
    ap (λ xs. put_mid 8 ((8 + length text) - 8) xs text) head ∙ ap (λ zeros. format.named ∷ length text ∷ (replicate 6 0 ++ text ++ zeros)) rest

pub written-name_record : (text bytes : List ℕ) → length text ≤ 48 → bytes
    ≡ (with_field 1 (with_field 1 zeros format.kind format.named) format.name_length (length text)).bytes
    → put_mid 8 ((8 + length text) - 8) bytes text ≡ (name_record text).bytes
written-name_record text bytes short is = put_mid-name_record text bytes (is ∙ head-name_record (length text) (omega arith))

kind-name_record : (text : List ℕ) → field 1 (name_record text) format.kind ≡ format.named
kind-name_record text = sym (byte-is (name_record text) format.kind (omega arith))

-- a name has a byte at least
pub some_bytes : (text : List ℕ) → IsShortName text → 0 < length text
some_bytes [] short = absurd short.0
some_bytes (b ∷ text) short = omega arith

-- the bytes of a name's record
abbrev used : ℕ → List Range
used size = bytes_of format.kind 2 ∷ bytes_of format.name_text size ∷ []

layout-name_record : (text : List ℕ) → IsShortName text → layout_of format.names_file (name_record text) ≡ Some
    (record { pointers = []; used = used (length text) })
layout-name_record text short =
    let rec = name_record text in
    let some = some_bytes text short in
    let few = short.1 in
    let right : (nat_lt 0 (length text) && nat_le (length text) 48) ≡ true = grind (arith, nat_tests) in
    ap (layout_by format.names_file rec) (kind-name_record text) ∙ ap name_layout (length-name_record text few)
    ∙ ap (λ b. cond b (laid [] (used (length text))) None) right

-- past its length, and before its text, a name's record has zeros
zero_at : (text : List ℕ) (i : ℕ) → length text ≤ 48 → i < 64 → (2 ≤ i) × ((i < 8) ⊎ (8 + length text ≤ i)) → get_or (name_record text).bytes i 0 ≡ 0
zero_at text i short lt out =
    let low = out.0 in
    let rest = (replicate 6 0 ++ text) ++ replicate (56 - length text) 0 in
    let two : get_or (name_record text).bytes i 0 ≡ get_or rest (i - 2) 0 = by i low in
    let long : length (replicate 6 0 ++ text) ≡ 6 + length text = length-append (replicate 6 0) text in
    two ∙ ⊎_elim
    (λ (before : i < 8). get_or_append_left (replicate 6 0 ++ text) (replicate (56 - length text) 0) 0 (i - 2) (omega arith) ∙ get_or_append_left
    (replicate 6 0) text 0 (i - 2) (omega arith)
    ∙ get_or-replicate 6 (i - 2) 0 0 (omega arith))
    (λ (after : 8 + length text ≤ i). get_or-append_right (replicate 6 0 ++ text) (replicate (56 - length text) 0) (6 + length text) (i - 2) 0 long
    (omega arith)
    ∙ get_or-replicate (56 - length text) ((i - 2) - (6 + length text)) 0 0 (omega arith)) out.1
  where
    by : (n : ℕ) → 2 ≤ n → get_or (name_record text).bytes n 0 ≡ get_or ((replicate 6 0 ++ text) ++ replicate (56 - length text) 0) (n - 2) 0
    by zero le = absurd (omega arith)
    by (suc zero) le = absurd (omega arith)
    by (suc (suc n)) le = let same : suc (suc n) - 2 ≡ n = omega arith in
        ap (λ k. get_or ((replicate 6 0 ++ text) ++ replicate (56 - length text) 0) k 0) (sym same)

outside : (size i : ℕ) → list_any (is_in i) (used size) ≡ false → (2 ≤ i) × ((i < 8) ⊎ (8 + size ≤ i))
outside size i out = (grind (arith, nat_tests), ⊎_elim (λ (h : i < 8). inl h) (λ (h : 8 ≤ i). inr (grind (arith, nat_tests))) (cases_lt i 8))

-- the record of a name fits
pub Fits-name_record : (marks : ℕ → ℕ) (text : List ℕ) → IsShortName text → Fits marks format.names_file (name_record text)
Fits-name_record marks text short = record {
  layout = record { pointers = []; used = used (length text) };
  is = layout-name_record text short;
  point = refl;
  blank = λ i lt out. let none = zero_at text i short.1 lt (outside (length text) i out) in sym (byte-is (name_record text) i (omega arith)) ∙ none;
}
