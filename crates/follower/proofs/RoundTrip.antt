-- The bytes that a sender makes are a shipment of its number and records.
use Rattle.std.proofs.Common.{◌≡◌, ◌∙◌, ap, sym, subst, ℕ, zero, suc, ◌+◌, ◌*◌, ◌<◌, ◌^◌, true, List, [], ◌∷◌, ◌++◌}
use Rattle.std.proofs.Common.{Option, None, Some, length, take, drop, refl, arith, length-append}
use Rattle.std.proofs.Math.Seq.{take-length}
use Rattle.std.proofs.lemmas.List.{append_assoc, get_or-append-add, take-append-le}
use Rattle.std.specs.List.{AllByRecursion, flat_map}
use Rattle.std.specs.Prelude.{get_or}
use Rattle.byteorder.specs.Endian.{little_bytes, little_from}
use Rattle.byteorder.specs.Numbers.{little_number-reads_back, length-bytes_low_first}
use Rattle.rec_bytes.specs.declared.key.Key.{Key}
use Rattle.rec_bytes.specs.declared.record.Rec.{Rec}
use Rattle.rec_bytes.specs.declared.shape.Shape.{Shape}
use Rattle.rec_bytes.specs.Pairs.{Pairs}
use Rattle.rec_bytes.specs.Shape.{is_allowed}
use Rattle.redo_log.specs.Appending.{AreWhole, write_bytes}
use Rattle.follower.specs.Shipment.{Ascend, IsShipment, count_of, number_of, write_in, writes_in, writes_of}
use Rattle.follower.specs.Shipping.{AreShipped, shipment_bytes}
use Rattle.follower.proofs.Slots.{shipped_key}

-- the number behind other bytes
pub little_from-behind : (xs ys : List ℕ) (n i k : ℕ) → k ≡ length xs + i → little_from k n (xs ++ ys) ≡ little_from i n ys
little_from-behind xs ys zero i k at = refl
little_from-behind xs ys (suc n) i k at =
    let byte : get_or (xs ++ ys) k 0 ≡ get_or ys i 0 = ap (λ (p : ℕ). get_or (xs ++ ys) p 0) at ∙ get_or-append-add xs ys i 0 in
    let rest = little_from-behind xs ys n (suc i) (suc k) (omega arith) in
    ap (λ (b : ℕ). b + 256 * little_from (suc k) n (xs ++ ys)) byte ∙ ap (λ (m : ℕ). get_or ys i 0 + 256 * m) rest

drop-behind : (xs ys : List ℕ) (i k : ℕ) → k ≡ length xs + i → drop k (xs ++ ys) ≡ drop i ys
drop-behind [] ys i k at = let same : k ≡ i = omega arith in ap (λ (n : ℕ). drop n ys) same
drop-behind (x ∷ xs) ys i zero at = absurd (omega arith)
drop-behind (x ∷ xs) ys i (suc k) at = drop-behind xs ys i k (omega arith)

write_in-behind : (xs ys : List ℕ) (p : ℕ) → p ≡ length xs → write_in (xs ++ ys) p ≡ write_in ys 0
write_in-behind xs ys p at =
    let file : get_or (xs ++ ys) p 0 ≡ get_or ys 0 0 = let here : p ≡ length xs + 0 = omega arith in ap (λ (n : ℕ). get_or (xs ++ ys) n 0) here
    ∙ get_or-append-add xs ys 0 0 in
    let id : little_from (p + 1) 4 (xs ++ ys) ≡ little_from 1 4 ys = little_from-behind xs ys 4 1 (p + 1) (omega arith) in
    let bytes : drop (p + 5) (xs ++ ys) ≡ drop 5 ys = drop-behind xs ys 5 (p + 5) (omega arith) in
    λ i. (record { file = file i; id = id i }, record { bytes = take 64 (bytes i) })

write_in-bytes : (write : Key × Rec) (rest : List ℕ) → length write.1.bytes ≡ 64 → write.0.id < 2 ^ 32 → write_in (write_bytes write ++ rest) 0 ≡ write
write_in-bytes write rest whole small =
    let number = little_bytes 4 write.0.id in
    let long : length number ≡ 4 = length-bytes_low_first 0 4 write.0.id in
    let head : List ℕ = write.0.file ∷ number in
    let apart : write_bytes write ++ rest ≡ head ++ (write.1.bytes ++ rest) = append_assoc head write.1.bytes rest in
    let id : little_from 1 4 (write_bytes write ++ rest) ≡ write.0.id =
    ap (little_from 1 4) apart ∙ little_from-behind (write.0.file ∷ []) (number ++ (write.1.bytes ++ rest)) 4 0 1 refl
    ∙ little_number-reads_back 4 write.0.id (write.1.bytes ++ rest) small in
    let bytes : take 64 (drop 5 (write_bytes write ++ rest)) ≡ write.1.bytes =
    ap (λ (xs : List ℕ). take 64 (drop 5 xs)) apart
    ∙ ap (take 64) (drop-behind head (write.1.bytes ++ rest) 0 5 (omega arith))
    ∙ ap (λ (n : ℕ). take n (write.1.bytes ++ rest)) (sym whole) ∙ take-append-le (length write.1.bytes) write.1.bytes rest (omega arith)
    ∙ take-length write.1.bytes in
    λ i. (record { file = write.0.file; id = id i }, record { bytes = bytes i })

length-write : (write : Key × Rec) → length write.1.bytes ≡ 64 → length (write_bytes write) ≡ 69
length-write write whole =
    let long : length (little_bytes 4 write.0.id) ≡ 4 = length-bytes_low_first 0 4 write.0.id in
    let head : List ℕ = write.0.file ∷ little_bytes 4 write.0.id in
    let all = length-append head write.1.bytes in
    omega (arith, all, long, whole)

-- each record comes back
pub writes_back : (xs : List ℕ) (writes : Pairs) (p : ℕ) → p ≡ length xs → AreWhole writes → AllByRecursion (λ (write : Key × Rec). write.0.id < 2 ^ 32) writes
    → writes_in (xs ++ flat_map write_bytes writes) p (length writes) ≡ writes
writes_back xs [] p at whole small = refl
writes_back xs (write ∷ later) p at whole small =
    let rest = flat_map write_bytes later in
    let first : write_in (xs ++ (write_bytes write ++ rest)) p ≡ write = write_in-behind xs (write_bytes write ++ rest) p at
    ∙ write_in-bytes write rest whole.0 small.0 in
    let long = length-write write whole.0 in
    let all = length-append xs (write_bytes write) in
    let next : writes_in (xs ++ (write_bytes write ++ rest)) (p + 69) (length later) ≡ later =
    ap (λ (ys : List ℕ). writes_in ys (p + 69) (length later)) (sym (append_assoc xs (write_bytes write) rest))
    ∙ writes_back (xs ++ write_bytes write) later (p + 69) (omega (arith, long, all, at)) whole.1 small.1 in
    λ i. first i ∷ next i

pub length-writes : (writes : Pairs) → AreWhole writes → length (flat_map write_bytes writes) ≡ 69 * length writes
length-writes [] whole = refl
length-writes (write ∷ later) whole =
    let long = length-write write whole.0 in
    let rest = length-writes later whole.1 in
    let all = length-append (write_bytes write) (flat_map write_bytes later) in
    omega (arith, long, rest, all)

small_ids : (shape : Shape) (last : Option Key) (writes : Pairs) → is_allowed shape ≡ true → Ascend shape last writes
    → AllByRecursion (λ (write : Key × Rec). write.0.id < 2 ^ 32) writes
small_ids shape last [] allowed ascend = tt
small_ids shape last (write ∷ later) allowed ascend = let low = (shipped_key shape write.0 allowed ascend.0.shipped).id in
    (omega (arith, low), small_ids shape (Some write.0) later allowed ascend.1)

module _ (shape : Shape) (number : ℕ) (writes : Pairs) (allowed : is_allowed shape ≡ true) (small : number < 2 ^ 64) (are : AreShipped shape writes) where
  long : length (little_bytes 8 number) ≡ 8
  long = length-bytes_low_first 0 8 number

  tall : length (little_bytes 2 (length writes)) ≡ 2
  tall = length-bytes_low_first 0 2 (length writes)

  pub number-back : number_of (shipment_bytes number writes) ≡ number
  number-back = little_number-reads_back 8 number (little_bytes 2 (length writes) ++ flat_map write_bytes writes) small

  count-back : count_of (shipment_bytes number writes) ≡ length writes
  count-back =
      let few = are.few in
      little_from-behind (little_bytes 8 number) (little_bytes 2 (length writes) ++ flat_map write_bytes writes) 2 0 8 (omega (arith, long))
      ∙ little_number-reads_back 2 (length writes) (flat_map write_bytes writes) (omega (arith, few))

  pub writes-back : writes_of (shipment_bytes number writes) ≡ writes
  writes-back =
      let all = length-append (little_bytes 8 number) (little_bytes 2 (length writes)) in
      ap (writes_in (shipment_bytes number writes) 10) count-back
      ∙ ap (λ (bytes : List ℕ). writes_in bytes 10 (length writes)) (sym (append_assoc (little_bytes 8 number) (little_bytes 2 (length writes))
      (flat_map write_bytes writes)))
      ∙ writes_back (little_bytes 8 number ++ little_bytes 2 (length writes)) writes 10 (omega (arith, all, long, tall)) are.whole
      (small_ids shape None writes allowed are.ascend)

  pub shipment-back : IsShipment shape (shipment_bytes number writes)
  shipment-back =
      let few = are.few in
      let all = length-append (little_bytes 8 number) (little_bytes 2 (length writes) ++ flat_map write_bytes writes) in
      let rest = length-append (little_bytes 2 (length writes)) (flat_map write_bytes writes) in
      let records = length-writes writes are.whole in
      record {
        few = omega (arith, count-back, few);
        whole = omega (arith, count-back, all, rest, records, long, tall);
        ascend = subst (Ascend shape None) (sym writes-back) are.ascend;
      }
