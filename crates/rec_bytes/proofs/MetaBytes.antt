-- A meta record that is written twice.
use Rattle.std.specs.Prelude.{replicate}
use Rattle.std.specs.List.{list_all}
use Rattle.std.proofs.Common.{◌≡◌, ℕ, ◌+◌, ◌-◌, ◌≤◌, Bool, true, false, cond, nat_eq, List, [], ◌++◌, length, drop, take, sym, ap, ◌∙◌, arith, refl}
use Rattle.std.proofs.lemmas.List.{drop-drop, length-append, length-drop, length-replicate, length-take-le, append_assoc}
use Rattle.std.proofs.Math.Seq.{drop-append-add, take-append_seam}
use Rattle.byteorder.specs.Endian.{little_bytes}
use Rattle.byteorder.specs.Numbers.{length-bytes_low_first}
use Rattle.rec_bytes.specs.declared.record.Rec.{Rec}
use Rattle.rec_bytes.specs.declared.meta.Meta.{Meta}
use Rattle.rec_bytes.specs.Meta.{has_definition, rest_of, with_meta}
use Rattle.rec_bytes.specs.Format.{meta_index_rest, meta_rest}
use Rattle.rec_bytes.specs.Record.{with_field, as_64, with_bytes, zeros_from}
use Rattle.rec_bytes.proofs.Numbers.{with_bytes-is, as_64-whole}

length-as_64 : (xs : List ℕ) → length (as_64 xs) ≡ 64
unfolding as_64
length-as_64 xs = length-take-le 64 (xs ++ replicate 64 0) (omega (arith, length-append xs (replicate 64 0), length-replicate {A = ℕ} 64 0))

-- bytes written behind a part of a list
write_behind : (part rest bs : List ℕ) (at : ℕ) → at ≡ length part → length bs ≤ length rest
    → with_bytes (part ++ rest) at bs ≡ (part ++ bs) ++ drop (length bs) rest
write_behind part rest bs at e fits =
    ap (λ n. with_bytes (part ++ rest) n bs) e ∙ with_bytes-is (part ++ rest) (length part) bs (omega (arith, length-append part rest))
    ∙ ap (λ xs. xs ++ (bs ++ drop (length part + length bs) (part ++ rest))) (take-append_seam part rest)
    ∙ ap (λ xs. part ++ (bs ++ xs)) (drop-append-add part rest (length bs)) ∙ sym (append_assoc part bs (drop (length bs) rest))

-- the twelve bytes of the three numbers
meta_bytes : Meta → List ℕ
meta_bytes m = (([] ++ little_bytes 4 m.high) ++ little_bytes 4 m.free) ++ little_bytes 4 m.live

length-meta_bytes : (m : Meta) → length (meta_bytes m) ≡ 12
unfolding meta_bytes
length-meta_bytes m =
    let a = length-bytes_low_first 0 4 m.high in let b = length-bytes_low_first 0 4 m.free in let c = length-bytes_low_first 0 4 m.live in
    omega (
      arith,
      length-append ([] ++ little_bytes 4 m.high ++ little_bytes 4 m.free) (little_bytes 4 m.live),
      length-append ([] ++ little_bytes 4 m.high)
          (little_bytes 4 m.free),
    )

with_meta-is : (r : Rec) (m : Meta) → with_meta r m ≡ record { bytes = meta_bytes m ++ drop 12 (as_64 r.bytes) }
unfolding with_field meta_bytes
with_meta-is r m =
    let xs = as_64 r.bytes in
    let a = little_bytes 4 m.high in let b = little_bytes 4 m.free in let c = little_bytes 4 m.live in
    let la : length a ≡ 4 = length-bytes_low_first 0 4 m.high in
    let lb : length b ≡ 4 = length-bytes_low_first 0 4 m.free in
    let lc : length c ≡ 4 = length-bytes_low_first 0 4 m.live in
    let long : length xs ≡ 64 = length-as_64 r.bytes in
    let one : with_bytes xs 0 a ≡ ([] ++ a) ++ drop 4 xs = write_behind [] xs a 0 refl (omega arith) ∙ ap (λ n. ([] ++ a) ++ drop n xs) la in
    let d4 : length (drop 4 xs) ≡ 60 = length-drop 4 xs ∙ omega arith in
    let long1 : length (([] ++ a) ++ drop 4 xs) ≡ 64 = omega (arith, length-append a (drop 4 xs)) in
    let whole1 : as_64 (with_bytes xs 0 a) ≡ ([] ++ a) ++ drop 4 xs = ap as_64 one ∙ as_64-whole (([] ++ a) ++ drop 4 xs) long1 in
    let two : with_bytes (([] ++ a) ++ drop 4 xs) 4 b ≡ (([] ++ a) ++ b) ++ drop 8 xs = write_behind ([] ++ a) (drop 4 xs) b 4 (sym la) (omega arith)
    ∙ ap (λ n. (([] ++ a) ++ b) ++ drop n (drop 4 xs)) lb ∙ ap (λ ys. (([] ++ a) ++ b) ++ ys) (drop-drop 4 4 xs) in
    let lab : length (([] ++ a) ++ b) ≡ 8 = omega (arith, length-append a b) in
    let d8 : length (drop 8 xs) ≡ 56 = length-drop 8 xs ∙ omega arith in
    let long2 : length ((([] ++ a) ++ b) ++ drop 8 xs) ≡ 64 = omega (arith, length-append (([] ++ a) ++ b) (drop 8 xs)) in
    let whole2 : as_64 (with_bytes (as_64 (with_bytes xs 0 a)) 4 b) ≡ (([] ++ a) ++ b) ++ drop 8 xs = ap (λ ys. as_64 (with_bytes ys 4 b)) whole1 ∙ ap as_64 two
    ∙ as_64-whole ((([] ++ a) ++ b) ++ drop 8 xs) long2 in
    let three : with_bytes ((([] ++ a) ++ b) ++ drop 8 xs) 8 c ≡ ((([] ++ a) ++ b) ++ c) ++ drop 12 xs =
    write_behind (([] ++ a) ++ b) (drop 8 xs) c 8 (sym lab) (omega arith) ∙ ap (λ n. ((([] ++ a) ++ b) ++ c) ++ drop n (drop 8 xs)) lc
    ∙ ap (λ ys. ((([] ++ a) ++ b) ++ c) ++ ys) (drop-drop 4 8 xs) in
    ap (λ ys. record { bytes = with_bytes ys 8 c }) whole2 ∙ ap (λ ys. record { bytes = ys }) three

-- what stands behind the three numbers stays
drop-with_meta : (k : ℕ) (r : Rec) (m : Meta) → drop (12 + k) (as_64 (with_meta r m).bytes) ≡ drop (12 + k) (as_64 r.bytes)
drop-with_meta k r m =
    let xs = as_64 r.bytes in
    let front = meta_bytes m in
    let twelve : length front ≡ 12 = length-meta_bytes m in
    let whole : length (front ++ drop 12 xs) ≡ 64 = omega (arith, twelve, length-append front (drop 12 xs), length-drop 12 xs, length-as_64 r.bytes) in
    ap (λ (q : Rec). drop (12 + k) (as_64 q.bytes)) (with_meta-is r m)
    ∙ ap (drop (12 + k)) (as_64-whole (front ++ drop 12 xs) whole)
    ∙ ap (λ n. drop (n + k) (front ++ drop 12 xs)) (sym twelve)
    ∙ drop-append-add front (drop 12 xs) k
    ∙ drop-drop k 12 xs

pub zeros_from-with_meta : (at : ℕ) (r : Rec) (m : Meta) → 12 ≤ at → zeros_from at r ≡ true → zeros_from at (with_meta r m) ≡ true
unfolding zeros_from
zeros_from-with_meta at r m behind zeros =
    let split : 12 + (at - 12) ≡ at = omega (arith, behind) in
    ap (λ n. list_all (λ b. nat_eq b 0) (drop n (as_64 (with_meta r m).bytes))) (sym split)
    ∙ ap (list_all (λ b. nat_eq b 0)) (drop-with_meta (at - 12) r m)
    ∙ ap (λ n. list_all (λ b. nat_eq b 0) (drop n (as_64 r.bytes))) split
    ∙ zeros

-- zeros behind a number that is written stay
pub zeros_from-with_field : (n : ℕ) (r : Rec) (at value place : ℕ) → at + n ≤ place → place ≤ 64 → zeros_from place r ≡ true
    → zeros_from place (with_field n r at value) ≡ true
unfolding zeros_from with_field
zeros_from-with_field n r at value place behind inside zeros =
    let xs = as_64 r.bytes in
    let bs = little_bytes n value in
    let long : length xs ≡ 64 = length-as_64 r.bytes in
    let lb : length bs ≡ n = length-bytes_low_first 0 n value in
    let front = take at xs ++ bs in
    let la : length front ≡ at + n = omega (arith, length-append (take at xs) bs, length-take-le at xs (omega (arith, long, behind, inside)), lb) in
    let is : with_bytes xs at bs ≡ front ++ drop (at + n) xs
    = with_bytes-is xs at bs (omega (arith, lb, long, behind, inside)) ∙ ap (λ k. take at xs ++ (bs ++ drop (at + k) xs)) lb
    ∙ sym (append_assoc (take at xs) bs (drop (at + n) xs)) in
    let whole : length (front ++ drop (at + n) xs) ≡ 64 = omega (
      arith,
      length-append front (drop (at + n) xs),
      la,
      length-drop (at + n) xs,
      long,
      behind,
      inside,
    ) in
    let split : at + n + (place - (at + n)) ≡ place = omega (arith, behind) in
    let same : drop place (as_64 (with_bytes xs at bs)) ≡ drop place xs
    = ap (λ ys. drop place (as_64 ys)) is ∙ ap (drop place) (as_64-whole (front ++ drop (at + n) xs) whole)
    ∙ ap (λ k. drop k (front ++ drop (at + n) xs)) (sym (ap (λ k. k + (place - (at + n))) la ∙ split))
    ∙ drop-append-add front (drop (at + n) xs) (place - (at + n)) ∙ drop-drop (place - (at + n)) (at + n) xs ∙ ap (λ k. drop k xs) split in
    ap (list_all (λ b. nat_eq b 0)) same ∙ zeros

pub rest_of-behind : (file : ℕ) → 12 ≤ rest_of file
rest_of-behind file = pick (has_definition file)
  where
    pick : (b : Bool) → 12 ≤ cond b meta_index_rest meta_rest
    pick true = omega arith
    pick false = omega arith
