-- Lists that begin with the same bytes, and what of a shipment they tell.
use Rattle.std.proofs.Common.{◌≡◌, ◌∙◌, ◌↔◌, ap, sym, subst, refl, ℕ, zero, suc, ◌+◌, ◌*◌, ◌-◌, ◌^◌, ◌<◌, ◌≤◌, List}
use Rattle.std.proofs.Common.{◌∷◌, ◌++◌, Option, None, Some, length, take, get_or, arith, length-append, length-take-le}
use Rattle.std.proofs.Common.{get_or-take, pow-suc}
use lib.ListN.{get_or-append}
use Rattle.byteorder.specs.Endian.{little_from}
use Rattle.rec_bytes.specs.declared.key.Key.{Key}
use Rattle.rec_bytes.specs.declared.shape.Shape.{Shape}
use Rattle.follower.specs.Shipment.{Ascend, IsNext, IsShipment, count_of, key_at, write_in, writes_in, writes_of}

-- ---- a list that begins with the same n bytes

pub record SharesPrefix (bytes longer : List ℕ) (n : ℕ) : Type 0 where
  pub long : n ≤ length longer
  pub same : (i : ℕ) → i < n → get_or longer i 0 ≡ get_or bytes i 0

pub shares_self : (bytes : List ℕ) (n : ℕ) → n ≤ length bytes → SharesPrefix bytes bytes n
shares_self bytes n le = record { long = le; same = λ i lt. refl }

pub shares_less : (bytes longer : List ℕ) (m n : ℕ) → m ≤ n → SharesPrefix bytes longer n → SharesPrefix bytes longer m
shares_less bytes longer m n le shares = let long = shares.long in record { long = omega arith; same = λ i lt. shares.same i (omega arith) }

pub shares_append : (bytes rest : List ℕ) (n : ℕ) → n ≤ length bytes → SharesPrefix bytes (bytes ++ rest) n
shares_append bytes rest n le = record {
  long = let all = length-append bytes rest in omega (arith, all);
  same = λ i lt. get_or-append bytes rest 0 i (omega arith);
}

pub shares_take : (bytes rest : List ℕ) (n : ℕ) → n ≤ length bytes → SharesPrefix bytes (take n bytes ++ rest) n
shares_take bytes rest n le =
    let few = length-take-le n bytes le in record {
      long = let all = length-append (take n bytes) rest in omega (arith, all, few);
      same = λ i lt. get_or-append (take n bytes) rest 0 i (omega (arith, few)) ∙ get_or-take n bytes i 0 lt;
    }

-- the numbers in these bytes are the same
pub little_from-shares : (bytes longer : List ℕ) (m i n : ℕ) → SharesPrefix bytes longer n → i + m ≤ n → little_from i m longer ≡ little_from i m bytes
little_from-shares bytes longer zero i n shares le = refl
little_from-shares bytes longer (suc m) i n shares le =
    let byte = shares.same i (omega arith) in
    let rest = little_from-shares bytes longer m (suc i) n shares (omega arith) in
    ap (λ (b : ℕ). b + 256 * little_from (suc i) m longer) byte ∙ ap (λ (r : ℕ). get_or bytes i 0 + 256 * r) rest

-- a number is its low bytes, and its high bytes times a power
pub little_from-parts : (xs : List ℕ) (m k i n : ℕ) → n ≡ m + k → little_from i n xs ≡ little_from i m xs + 256 ^ m * little_from (i + m) k xs
little_from-parts xs zero k i n all =
    let count : n ≡ k = omega arith in
    let here : i ≡ i + 0 = omega arith in
    let same : little_from i n xs ≡ little_from (i + 0) k xs = ap (λ (j : ℕ). little_from i j xs) count ∙ ap (λ (j : ℕ). little_from j k xs) here in
    omega (arith, same)
little_from-parts xs (suc m) k i zero all = absurd (omega arith)
little_from-parts xs (suc m) k i (suc n) all =
    let later = little_from-parts xs m k (suc i) n (omega arith) in
    let there : suc i + m ≡ i + suc m = omega arith in
    ap (λ (r : ℕ). get_or xs i 0 + 256 * r) later
    ∙ ap (λ (j : ℕ). get_or xs i 0 + 256 * (little_from (suc i) m xs + 256 ^ m * little_from j k xs)) there
    ∙ spread (get_or xs i 0) (little_from (suc i) m xs) (256 ^ m) (little_from (i + suc m) k xs)
    ∙ ap (λ (p : ℕ). get_or xs i 0 + 256 * little_from (suc i) m xs + p * little_from (i + suc m) k xs) (sym (pow-suc 256 m))
  where
    spread : (a b p r : ℕ) → a + 256 * (b + p * r) ≡ a + 256 * b + p * 256 * r
    spread a b p r = omega arith

-- ---- the records from one on decide

abbrev pub Decides : Shape → List ℕ → Option Key → ℕ → Type 0
Decides shape bytes last index =
    Ascend shape last (writes_in bytes (10 + 69 * index) (count_of bytes - index)) ↔ Ascend shape None (writes_of bytes)

pub length-writes_in : (bytes : List ℕ) (place n : ℕ) → length (writes_in bytes place n) ≡ n
length-writes_in bytes place zero = refl
length-writes_in bytes place (suc n) = ap suc (length-writes_in bytes (place + 69) n)

writes_in-first : (bytes : List ℕ) (index count : ℕ) → index < count
    → writes_in bytes (10 + 69 * index) (count - index) ≡ write_in bytes (10 + 69 * index) ∷ writes_in bytes (10 + 69 * (index + 1)) (count - (index + 1))
writes_in-first bytes index count lt =
    let more : count - index ≡ suc (count - (index + 1)) = omega arith in
    let next : 10 + 69 * index + 69 ≡ 10 + 69 * (index + 1) = omega arith in
    ap (λ (n : ℕ). writes_in bytes (10 + 69 * index) n) more ∙ ap (λ (p : ℕ). write_in bytes (10 + 69 * index) ∷ writes_in bytes p (count - (index + 1))) next

pub decides_first : (shape : Shape) (bytes : List ℕ) → Decides shape bytes None 0
decides_first shape bytes =
    let all : count_of bytes - 0 ≡ count_of bytes = omega arith in
    (λ a. subst (λ (n : ℕ). Ascend shape None (writes_in bytes 10 n)) all a, λ a. subst (λ (n : ℕ). Ascend shape None (writes_in bytes 10 n)) (sym all) a)

pub decides_more : (shape : Shape) (bytes : List ℕ) (last : Option Key) (index : ℕ) (key : Key) → index < count_of bytes → key ≡ key_at bytes (10 + 69 * index)
    → IsNext shape last key → Decides shape bytes last index → Decides shape bytes (Some key) (index + 1)
decides_more shape bytes last index key lt is next decides =
    let later = writes_in bytes (10 + 69 * (index + 1)) (count_of bytes - (index + 1)) in
    let first = writes_in-first bytes index (count_of bytes) lt in (
      λ ascend. decides.0 (subst (Ascend shape last) (sym first) (subst (λ (k : Key). IsNext shape last k × Ascend shape (Some k) later) is (next, ascend))),
      λ ascend. (subst (λ (k : Key). IsNext shape last k × Ascend shape (Some k) later) (sym is) (subst (Ascend shape last) first (decides.1 ascend))).1,
    )

-- the next record of a shipment, and those after it
pub decided_next : (shape : Shape) (bytes : List ℕ) (last : Option Key) (index : ℕ) → index < count_of bytes → Decides shape bytes last index
    → IsShipment shape bytes
    → IsNext shape last (key_at bytes (10 + 69 * index)) × Ascend shape (Some (key_at bytes (10 + 69 * index)))
    (writes_in bytes (10 + 69 * (index + 1)) (count_of bytes - (index + 1)))
decided_next shape bytes last index lt decides is = subst (Ascend shape last) (writes_in-first bytes index (count_of bytes) lt) (decides.1 is.ascend)
