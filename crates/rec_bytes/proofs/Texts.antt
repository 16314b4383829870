-- Laws of the texts in a record.
use Rattle.std.proofs.Common.{◌≡◌, ℕ, suc, ◌+◌, ◌-◌, ◌<◌, ◌≤◌, ◌⊎◌, List, [], ◌∷◌, ◌++◌, length, take, drop, get_or}
use Rattle.std.proofs.Common.{sym, ap, ◌∙◌, inl, inr, arith, ⊎_elim, refl, ◌%◌, ◌^◌, set}
use Rattle.std.proofs.lemmas.List.{drop_at, take_at, get_or-drop, get_or-take, length-take-le, length-drop, length-set, ext_get_or, drop-drop}
use borrow.Rule.Slice.PartMut.{put_mid}
use Rattle.byteorder.specs.Endian.{little_bytes}
use Rattle.byteorder.specs.Numbers.{length-bytes_low_first}
use Rattle.rec_bytes.specs.declared.record.Rec.{Rec}
use Rattle.rec_bytes.specs.Record.{field, with_field, with_bytes, as_64, text_in, with_text}
use Rattle.rec_bytes.proofs.Numbers.{Apart, length-as_64, get_or-as_64, as_64-whole, get_or-with_bytes, with_bytes-is, little_from-same}

pub length-with_bytes : (xs : List ℕ) (at : ℕ) (bs : List ℕ) → length (with_bytes xs at bs) ≡ length xs
unfolding with_bytes
length-with_bytes xs at [] = refl
length-with_bytes xs at (b ∷ bs) = length-with_bytes (set xs at b) (suc at) bs ∙ length-set xs at b

pub length-text_in : (r : Rec) (at n : ℕ) → at + n ≤ 64 → length (text_in r at n) ≡ n
unfolding text_in
length-text_in r at n fits = length-take-le n (drop at (as_64 r.bytes)) (omega (arith, length-drop at (as_64 r.bytes), length-as_64 r.bytes))

get_or-text_in : (r : Rec) (at n i : ℕ) → at + n ≤ 64 → i < n → get_or (text_in r at n) i 0 ≡ get_or r.bytes (at + i) 0
unfolding text_in
get_or-text_in r at n i fits lt = get_or-take n (drop at (as_64 r.bytes)) i 0 lt ∙ get_or-drop at (as_64 r.bytes) i 0
    ∙ get_or-as_64 r.bytes (at + i) (omega arith)

-- records with the same bytes there have the same text
same_text : (r s : Rec) (at n : ℕ) → at + n ≤ 64 → ((i : ℕ) → i < n → get_or r.bytes (at + i) 0 ≡ get_or s.bytes (at + i) 0) → text_in r at n ≡ text_in s at n
same_text r s at n fits same =
    let one = length-text_in r at n fits in
    let other = length-text_in s at n fits in
    ext_get_or 0 (text_in r at n) (text_in s at n) (one ∙ sym other) (λ i lt.
    get_or-text_in r at n i fits (omega arith) ∙ same i (omega arith) ∙ sym (get_or-text_in s at n i fits (omega arith)))

-- the text set is the text got
pub text_in-with_text_same : (r : Rec) (at : ℕ) (text : List ℕ) → at + length text ≤ 64 → text_in (with_text r at text) at (length text) ≡ text
unfolding text_in with_text
text_in-with_text_same r at text fits =
    let xs = as_64 r.bytes in
    let long : length xs ≡ 64 = length-as_64 r.bytes in
    let front : length (take at xs) ≡ at = length-take-le at xs (omega arith) in
    ap (λ ys. take (length text) (drop at ys)) (as_64-whole (with_bytes xs at text) (length-with_bytes xs at text ∙ long) ∙ with_bytes-is xs at text
    (omega arith))
    ∙ ap (take (length text)) (drop_at (take at xs) (text ++ drop (at + length text) xs) at front)
    ∙ take_at text (drop (at + length text) xs) (length text) refl

-- what a write of a number leaves of a text elsewhere
pub text_in-with_field_other : (n : ℕ) (r : Rec) (at value other m : ℕ) → other + m ≤ 64 → Apart n at m other
    → text_in (with_field n r at value) other m ≡ text_in r other m
unfolding with_field
text_in-with_field_other n r at value other m fits apart =
    let bytes : length (little_bytes n value) ≡ n = length-bytes_low_first 0 n value in
    same_text (record { bytes = with_bytes (as_64 r.bytes) at (little_bytes n value) }) r other m fits (λ i lt.
    get_or-with_bytes (as_64 r.bytes) at (little_bytes n value) (other + i) (⊎_elim (λ h. inr (omega arith)) (λ h. inl (omega arith)) apart)
    ∙ get_or-as_64 r.bytes (other + i) (omega arith))

-- what a write of a text leaves of a number elsewhere
pub field-with_text_other : (r : Rec) (at : ℕ) (text : List ℕ) (m other : ℕ) → other + m ≤ 64 → (other + m ≤ at) ⊎ (at + length text ≤ other)
    → field m (with_text r at text) other ≡ field m r other
unfolding field with_text
field-with_text_other r at text m other fits apart =
    let new = with_bytes (as_64 r.bytes) at text in
    ap (λ k. k % 256 ^ m) (little_from-same m 0 (drop other new) (drop other r.bytes) (λ i lt.
    get_or-drop other new i 0
    ∙ get_or-with_bytes (as_64 r.bytes) at text (other + i) (⊎_elim (λ h. inl (omega arith)) (λ h. inr (omega arith)) apart)
    ∙ get_or-as_64 r.bytes (other + i) (omega arith)
    ∙ sym (get_or-drop other r.bytes i 0)))

-- a piece of the bytes
pub mid-text_in : (r : Rec) (at n : ℕ) → length r.bytes ≡ 64 → take (at + n - at) (drop at r.bytes) ≡ text_in r at n
unfolding text_in
mid-text_in r at n long = ap (λ k. take k (drop at r.bytes)) (omega arith) ∙ ap (λ xs. take n (drop at xs)) (sym (as_64-whole r.bytes long))

-- a piece replaced
pub put_mid-with_text : (r : Rec) (at : ℕ) (text : List ℕ) → at + length text ≤ 64 → length r.bytes ≡ 64
    → record { bytes = put_mid at (at + length text - at) r.bytes text } ≡ with_text r at text
unfolding with_text
put_mid-with_text r at text fits long =
    let n : at + length text - at ≡ length text = omega arith in
    let is : with_bytes r.bytes at text ≡ take at r.bytes ++ (text ++ drop (at + length text) r.bytes) = with_bytes-is r.bytes at text (omega arith) in
    ap (λ b. record { bytes = b }) (ap (λ k. take at r.bytes ++ (text ++ drop k (drop at r.bytes))) n ∙ ap (λ e. take at r.bytes ++ (text ++ e))
    (drop-drop (length text) at r.bytes) ∙ sym is ∙ ap (λ xs. with_bytes xs at text) (sym (as_64-whole r.bytes long)))
