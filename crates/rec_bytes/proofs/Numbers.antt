-- Laws of the numbers in a record, for every width.
use Rattle.std.proofs.Common.{◌≡◌, ℕ, zero, suc, ◌+◌, ◌*◌, ◌-◌, ◌^◌, ◌%◌, ◌<◌, ◌≤◌, ◌⊎◌, List, [], ◌∷◌, ◌++◌, length}
use Rattle.std.proofs.Common.{take, drop, get_or, set, sym, ap, ◌∙◌, inl, inr, arith, ⊎_elim, refl}
use Rattle.std.specs.Prelude.{replicate}
use Rattle.std.proofs.lemmas.List.{drop_at, get_or-drop, length-take-le, get_or-set_other, length-set, append_assoc}
use Rattle.std.proofs.lemmas.List.{append-nil, take_all, drop_all, drop-drop, length-drop, drop-set-lt, take_at}
use Rattle.std.proofs.lemmas.List.{get_or-take, get_or_append_left, get_or-append_right, get_or_past, get_or-replicate}
use Rattle.std.proofs.lemmas.List.{length-append, length-replicate}
use Rattle.std.proofs.lemmas.Bool.{cases_lt}
use native.Mathlib.Nat.{mod-eq_of_lt, mod-lt, one-le-pow}
use Rattle.std.proofs.Math.Seq.{take-suc-set}
use Rattle.std.proofs.lemmas.Grind.{common_steps}
use borrow.Rule.Slice.PartMut.{put_mid}
use Rattle.byteorder.specs.Endian.{little_number, little_from, little_bytes}
use Rattle.byteorder.specs.Numbers.{little_number-reads_back, length-bytes_low_first}
use Rattle.rec_bytes.specs.declared.record.Rec.{Rec}
use Rattle.rec_bytes.specs.Record.{field, with_field, with_bytes, as_64}

-- a power of 256 is above zero
pow_pos : (n : ℕ) → 0 < 256 ^ n
pow_pos n = let h = one-le-pow n 256 (omega arith) in omega arith

-- the n bytes from a place stand apart from the m bytes from another
abbrev pub Apart : ℕ → ℕ → ℕ → ℕ → Type 0
Apart n at m other = (at + n ≤ other) ⊎ (other + m ≤ at)

pub length-as_64 : (xs : List ℕ) → length (as_64 xs) ≡ 64
unfolding as_64
length-as_64 xs = length-take-le 64 (xs ++ replicate 64 0) (omega (arith, length-append xs (replicate 64 0), length-replicate {A = ℕ} 64 0))

pub get_or-as_64 : (xs : List ℕ) (k : ℕ) → k < 64 → get_or (as_64 xs) k 0 ≡ get_or xs k 0
unfolding as_64
get_or-as_64 xs k lt =
    get_or-take 64 (xs ++ replicate 64 0) k 0 lt ∙ ⊎_elim
    (λ (inside : k < length xs). get_or_append_left xs (replicate 64 0) 0 k inside)
    (λ (past : length xs ≤ k). get_or-append_right xs (replicate 64 0) (length xs) k 0 refl past ∙ get_or-replicate 64 (k - length xs) 0 0 (omega arith) ∙ sym
    (get_or_past xs k 0 past))
    (cases_lt k (length xs))

pub as_64-whole : (xs : List ℕ) → length xs ≡ 64 → as_64 xs ≡ xs
unfolding as_64
as_64-whole xs long = take_at xs (replicate 64 0) 64 long

-- a byte outside the place stays
pub get_or-with_bytes : (xs : List ℕ) (at : ℕ) (bs : List ℕ) (k : ℕ) → (k < at) ⊎ (at + length bs ≤ k) → get_or (with_bytes xs at bs) k 0 ≡ get_or xs k 0
unfolding with_bytes
get_or-with_bytes xs at [] k out = refl
get_or-with_bytes xs at (b ∷ bs) k out =
    get_or-with_bytes (set xs at b) (suc at) bs k (⊎_elim (λ h. inl (omega arith)) (λ h. inr (omega arith)) out)
    ∙ get_or-set_other xs at k b 0 (⊎_elim (λ h e. omega arith) (λ h e. omega arith) out)

-- where there is room, the bytes stand between what was before and behind them
pub with_bytes-is : (xs : List ℕ) (at : ℕ) (bs : List ℕ) → at + length bs ≤ length xs → with_bytes xs at bs ≡ take at xs ++ (bs ++ drop (at + length bs) xs)
unfolding with_bytes
with_bytes-is xs at [] fits = grind (arith, common_steps)
with_bytes-is xs at (b ∷ bs) fits =
    let e = with_bytes-is (set xs at b) (suc at) bs (omega (arith, length-set {A = ℕ})) in
    let room : at < length xs = omega arith in
    let t = take-suc-set xs at b room in
    let n : suc at + length bs ≡ at + suc (length bs) = omega arith in
    let d = ap (λ k. drop k (set xs at b)) n ∙ drop-set-lt (at + suc (length bs)) xs at b (omega arith) in
    e ∙ rw (t, d) (append_assoc (take at xs) (b ∷ []) (bs ++ drop (at + suc (length bs)) xs))

-- n bytes make a number, whatever stands around them
pub little_from-same : (n i : ℕ) (xs ys : List ℕ) → ((k : ℕ) → k < i + n → get_or xs k 0 ≡ get_or ys k 0) → little_from i n xs ≡ little_from i n ys
little_from-same zero i xs ys same = refl
little_from-same (suc n) i xs ys same =
    let byte = same i (omega arith) in
    let rest = little_from-same n (suc i) xs ys (λ k lt. same k (omega arith)) in
    rw (byte, rest) refl

pub field-lt : (n : ℕ) (r : Rec) (at : ℕ) → field n r at < 256 ^ n
unfolding field
field-lt n r at = mod-lt (little_number n (drop at r.bytes)) (pow_pos n)

-- the number set is the number got
pub field-with_field_same : (n : ℕ) (r : Rec) (at value : ℕ) → at + n ≤ 64 → value < 256 ^ n → field n (with_field n r at value) at ≡ value
unfolding field with_field
field-with_field_same n r at value fits small =
    let xs = as_64 r.bytes in
    let long : length xs ≡ 64 = length-as_64 r.bytes in
    let bytes : length (little_bytes n value) ≡ n = length-bytes_low_first 0 n value in
    let front : length (take at xs) ≡ at = length-take-le at xs (omega arith) in
    let is = with_bytes-is xs at (little_bytes n value) (omega arith) in
    let got = little_number-reads_back n value (drop (at + length (little_bytes n value)) xs) small in
    rw (is, drop_at (take at xs) (little_bytes n value ++ drop (at + length (little_bytes n value)) xs) at front)
    (ap (λ k. k % 256 ^ n) got ∙ mod-eq_of_lt small)

-- the other numbers stay, of whatever width
pub field-with_field_other : (n : ℕ) (r : Rec) (at value m other : ℕ) → other + m ≤ 64 → Apart n at m other
    → field m (with_field n r at value) other ≡ field m r other
unfolding field with_field
field-with_field_other n r at value m other fits apart =
    let new = with_bytes (as_64 r.bytes) at (little_bytes n value) in
    let bytes : length (little_bytes n value) ≡ n = length-bytes_low_first 0 n value in
    ap (λ k. k % 256 ^ m) (little_from-same m 0 (drop other new) (drop other r.bytes) (λ i lt.
    get_or-drop other new i 0
    ∙ get_or-with_bytes (as_64 r.bytes) at (little_bytes n value) (other + i) (⊎_elim (λ h. inr (omega arith)) (λ h. inl (omega arith)) apart)
    ∙ get_or-as_64 r.bytes (other + i) (omega arith)
    ∙ sym (get_or-drop other r.bytes i 0)))

-- a write to the rest of the bytes from a place writes a number there
pub put_mid-field : (n : ℕ) (r : Rec) (at value : ℕ) (rest : List ℕ) → at + n ≤ 64 → length r.bytes ≡ 64
    → rest ≡ little_bytes n value ++ drop n (take (64 - at) (drop at r.bytes)) → record { bytes = put_mid at (64 - at) r.bytes rest } ≡ with_field n r at value
unfolding with_field
put_mid-field n r at value rest fits long is =
    let bytes : length (little_bytes n value) ≡ n = length-bytes_low_first 0 n value in
    let end : drop (64 - at) (drop at r.bytes) ≡ [] = drop_all (64 - at) (drop at r.bytes) (simp length-drop (omega arith)) in
    let tail : drop n (take (64 - at) (drop at r.bytes)) ≡ drop (at + n) r.bytes =
    ap (drop n) (take_all (64 - at) (drop at r.bytes) (simp length-drop (omega arith))) ∙ drop-drop n at r.bytes in
    let all : rest ++ drop (64 - at) (drop at r.bytes) ≡ little_bytes n value ++ drop (at + n) r.bytes = ap (λ e. rest ++ e) end ∙ append-nil rest ∙ is
    ∙ ap (λ e. little_bytes n value ++ e) tail in
    let mid : with_bytes r.bytes at (little_bytes n value) ≡ take at r.bytes ++ (little_bytes n value ++ drop (at + n) r.bytes)
    = with_bytes-is r.bytes at (little_bytes n value) (omega arith) ∙ ap (λ k. take at r.bytes ++ (little_bytes n value ++ drop (at + k) r.bytes)) bytes in
    ap (λ b. record { bytes = b }) (ap (λ e. take at r.bytes ++ e) all ∙ sym mid ∙ ap (λ xs. with_bytes xs at (little_bytes n value))
    (sym (as_64-whole r.bytes long)))

-- a number that was read from the rest of the bytes
pub field-read : (n : ℕ) (r : Rec) (at value : ℕ) → length r.bytes ≡ 64 → value ≡ little_number n (take (64 - at) (drop at r.bytes)) → value < 256 ^ n
    → value ≡ field n r at
unfolding field
field-read n r at value long is small =
    let whole = ap (little_number n) (take_all (64 - at) (drop at r.bytes) (simp length-drop (omega arith))) in
    sym (ap (λ m. m % 256 ^ n) (sym (is ∙ whole)) ∙ mod-eq_of_lt small)

-- one byte is a number of the width 1
pub byte-is : (r : Rec) (at : ℕ) → get_or r.bytes at 0 < 256 → get_or r.bytes at 0 ≡ field 1 r at
unfolding field
byte-is r at small =
    let here : at + 0 ≡ at = omega arith in
    let found : get_or (drop at r.bytes) 0 0 ≡ get_or r.bytes at 0 = get_or-drop at r.bytes 0 0 ∙ ap (λ k. get_or r.bytes k 0) here in
    let alone : get_or (drop at r.bytes) 0 0 + 256 * 0 ≡ get_or r.bytes at 0 = omega (arith, found) in
    sym (ap (λ k. k % 256 ^ 1) alone ∙ mod-eq_of_lt small)

pub set-byte_is : (r : Rec) (at value : ℕ) → length r.bytes ≡ 64 → value < 256 → record { bytes = set r.bytes at value } ≡ with_field 1 r at value
unfolding with_field with_bytes
set-byte_is r at value long small =
    let low : value % 256 ≡ value = mod-eq_of_lt small in
    rw (as_64-whole r.bytes long, low) refl

-- bytes written to the front of a record
pub front-with_bytes : (xs bs : List ℕ) → length xs ≡ 64 → length bs ≤ 64 → bs ++ drop (length bs) xs ≡ with_bytes (as_64 xs) 0 bs
front-with_bytes xs bs long fits =
    let whole = as_64-whole xs long in
    let is : with_bytes xs 0 bs ≡ take 0 xs ++ (bs ++ drop (0 + length bs) xs) = with_bytes-is xs 0 bs (omega arith) in
    let start : 0 + length bs ≡ length bs = omega arith in
    sym (ap (λ ys. with_bytes ys 0 bs) whole ∙ is ∙ ap (λ n. bs ++ drop n xs) start)
