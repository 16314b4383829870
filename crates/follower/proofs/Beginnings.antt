-- Where bytes stop to begin a shipment.
use Rattle.std.proofs.Common.{◌≡◌, ◌∙◌, ◌⊎◌, ⊎_elim, inl, inr, ap, sym, subst, refl, ℕ, zero, suc, ◌+◌, ◌*◌, ◌-◌, ◌^◌}
use Rattle.std.proofs.Common.{◌<◌, ◌≤◌, true, List, [], ◌++◌, Option, None, Some, length, take, get_or, arith}
use Rattle.std.proofs.Common.{append_assoc, length-append, length-take-le, get_or-take}
use lib.ListN.{get_or-append}
use Rattle.std.proofs.lemmas.Bool.{cases_lt}
use Rattle.std.proofs.lemmas.List.{get_or-append_right, get_or-replicate}
use Rattle.byteorder.specs.Endian.{little_bytes, little_from}
use Rattle.byteorder.specs.Numbers.{length-bytes_low_first, little_number-reads_back}
use Rattle.rec_bytes.specs.declared.key.Key.{Key}
use Rattle.rec_bytes.specs.declared.shape.Shape.{Shape}
use Rattle.rec_bytes.specs.Shape.{is_allowed}
use Rattle.follower.specs.Shipment.{BeginsShipment, IsNoShipment, IsShipment, StopsInHead, count_of, key_at, writes_in}
use Rattle.follower.specs.Slot.{BeginsKey, MayStand, StopsInRecord, keys_left}
use Rattle.follower.proofs.Completing.{are_bytes-append, are_bytes-little, are_bytes-zero_bytes, ascend_left, begins_by, length-zero_bytes, zero_bytes}
use Rattle.follower.proofs.Reading.{Decides, SharesPrefix, decided_next, decides_first, decides_more, shares_less}
use Rattle.follower.proofs.Reading.{shares_self, shares_take, length-writes_in, little_from-shares, little_from-parts}
use Rattle.follower.proofs.RoundTrip.{little_from-behind}
use Rattle.follower.proofs.Slots.{stands_small}

-- ---- the records that are read

-- The bytes have so many records of a shipment, the last with this key, and enough keys may come
-- after it.
pub record HasRecords (shape : Shape) (bytes : List ℕ) (last : Option Key) (index : ℕ) : Type 0 where
  pub decides : (longer : List ℕ) → SharesPrefix bytes longer (10 + 69 * index) → Decides shape longer last index
  pub whole : 10 + 69 * index ≤ length bytes
  pub left : count_of bytes - index ≤ keys_left shape last

count-shares : (bytes longer : List ℕ) (n : ℕ) → 10 ≤ n → SharesPrefix bytes longer n → count_of longer ≡ count_of bytes
count-shares bytes longer n le shares = little_from-shares bytes longer 2 8 n shares (omega arith)

key-shares : (bytes longer : List ℕ) (place n : ℕ) → place + 5 ≤ n → SharesPrefix bytes longer n → key_at longer place ≡ key_at bytes place
key-shares bytes longer place n le shares =
    let file = shares.same place (omega arith) in
    let id = little_from-shares bytes longer 4 (place + 1) n shares (omega arith) in
    λ i. record { file = file i; id = id i }

pub has_one_more : (shape : Shape) (bytes : List ℕ) (last : Option Key) (index more : ℕ) (key : Key) → index + suc more ≡ count_of bytes
    → key ≡ key_at bytes (10 + 69 * index) → MayStand (record { shape = shape; last = last; more = more }) key → 10 + 69 * index + 69 ≤ length bytes
    → HasRecords shape bytes last index
    → HasRecords shape bytes (Some key) (index + 1)
has_one_more shape bytes last index more key counts is stands long has = record {
  decides = λ longer shares.
      let count = count-shares bytes longer (10 + 69 * (index + 1)) (omega arith) shares in
      decides_more shape longer last index key (omega (arith, count, counts))
      (is ∙ sym (key-shares bytes longer (10 + 69 * index) (10 + 69 * (index + 1)) (omega arith) shares)) stands.next
      (has.decides longer (shares_less bytes longer (10 + 69 * index) (10 + 69 * (index + 1)) (omega arith) shares));
  whole = omega (arith, long);
  left = let left = stands.left in omega (arith, left, counts);
}

-- ---- what is bad

-- no list that begins with one byte more is a shipment
abbrev pub NoLonger : Shape → List ℕ → ℕ → Type 0
NoLonger shape bytes at = at < length bytes → (longer : List ℕ) → SharesPrefix bytes longer (suc at) → ¬ IsShipment shape longer

is_bad : (shape : Shape) (bytes : List ℕ) (at : ℕ) → at ≤ length bytes → BeginsShipment shape (take at bytes) → NoLonger shape bytes at
    → (at ≡ length bytes → ¬ IsShipment shape bytes) → IsNoShipment shape bytes at
is_bad shape bytes at within begins no_longer at_end = record {
  none = λ is. ⊎_elim (λ (lt : at < length bytes). no_longer lt bytes (shares_self bytes (suc at) (omega arith)) is)
      (λ (ge : length bytes ≤ at). at_end (omega arith) is) (cases_lt at (length bytes));
  longest = record {
    within = within;
    begins = begins;
    longest = λ n lt le (rest, small, is). no_longer (omega arith) (take n bytes ++ rest)
        (shares_less bytes (take n bytes ++ rest) (suc at) n (omega arith) (shares_take bytes rest n le)) is;
  };
}

-- ---- the head

head_begins : (shape : Shape) (bytes : List ℕ) (n : ℕ) → is_allowed shape ≡ true → ((k : ℕ) → get_or bytes k 0 < 256) → n ≤ 9 → n ≤ length bytes
    → BeginsShipment shape (take n bytes)
head_begins shape bytes n allowed small few within =
    begins_by shape bytes (zero_bytes (10 - n)) n None 0 (count_of (take n bytes ++ zero_bytes (10 - n))) allowed within (omega (arith, pad_long))
    (are_bytes-zero_bytes (10 - n)) (omega arith) (omega (arith, low, high)) (omega (arith, low, high))
    (λ rest. decides_first shape (take n bytes ++ (zero_bytes (10 - n) ++ rest)))
  where
    pad_long : length (zero_bytes (10 - n)) ≡ 10 - n
    pad_long = length-zero_bytes (10 - n)

    zero_from : (k : ℕ) → n ≤ k → k ≤ 9 → get_or (take n bytes ++ zero_bytes (10 - n)) k 0 ≡ 0
    zero_from k from le = get_or-append_right (take n bytes) (zero_bytes (10 - n)) n k 0 (length-take-le n bytes within) from
        ∙ get_or-replicate (10 - n) (k - n) 0 0 (omega arith)

    high : get_or (take n bytes ++ zero_bytes (10 - n)) 9 0 ≡ 0
    high = zero_from 9 few (omega arith)

    low : get_or (take n bytes ++ zero_bytes (10 - n)) 8 0 < 256
    low =
        ⊎_elim
        (λ (in_bytes : 8 < n). let part = length-take-le n bytes within in let byte = get_or-append (take n bytes) (zero_bytes (10 - n)) 0 8
        (omega (arith, part)) ∙ get_or-take n bytes 8 0 in_bytes in let is = small 8 in omega (arith, byte, is))
        (λ (behind : n ≤ 8). let byte = zero_from 8 behind (omega arith) in omega (arith, byte))
        (cases_lt 8 n)

pub head_bad : (shape : Shape) (bytes : List ℕ) (at : ℕ) → is_allowed shape ≡ true → ((k : ℕ) → get_or bytes k 0 < 256) → StopsInHead bytes at
    → IsNoShipment shape bytes at
head_bad shape bytes at allowed small stops =
    ⊎_elim
    (λ (short : (length bytes < 10) × (at ≡ length bytes)).
    let less = short.0 in let end = short.1 in
    is_bad shape bytes at (omega arith) (head_begins shape bytes at allowed small (omega arith) (omega arith)) (λ lt. absurd (omega arith))
    (λ e is. let whole = is.whole in absurd (omega arith)))
    (λ (many : (10 ≤ length bytes) × (2047 < count_of bytes) × (at ≡ 9)).
    let long = many.0 in let more = many.1 in let nine = many.2 in
    is_bad shape bytes at (omega arith) (head_begins shape bytes at allowed small (omega arith) (omega arith))
    (λ lt longer shares is. let count = count-shares bytes longer (suc at) (omega arith) shares in let few = is.few in absurd (omega (arith, count, few, more)))
    (λ e. absurd (omega arith)))
    stops

-- ---- bytes after the last record

place_begins : (shape : Shape) (bytes : List ℕ) (last : Option Key) (index : ℕ) → is_allowed shape ≡ true → count_of bytes ≤ 2047 → index ≤ count_of bytes
    → HasRecords shape bytes last index → BeginsShipment shape (take (10 + 69 * index) bytes)
place_begins shape bytes last index allowed few le has =
    let place = 10 + 69 * index in
    let count : count_of (take place bytes ++ []) ≡ count_of bytes = count-shares bytes (take place bytes ++ []) place (omega arith)
    (shares_take bytes [] place has.whole) in
    begins_by shape bytes [] place last index (count_of bytes - index) allowed has.whole (omega arith) tt (omega (arith, count)) (omega arith) has.left
    (λ rest. has.decides (take place bytes ++ rest) (shares_take bytes rest place has.whole))

pub end_bad : (shape : Shape) (bytes : List ℕ) (last : Option Key) (index : ℕ) → is_allowed shape ≡ true → count_of bytes ≤ 2047 → index ≡ count_of bytes
    → 10 + 69 * index < length bytes → HasRecords shape bytes last index → IsNoShipment shape bytes (10 + 69 * index)
end_bad shape bytes last index allowed few all long has =
    is_bad shape bytes (10 + 69 * index) (omega arith) (place_begins shape bytes last index allowed few (omega arith) has)
    (λ lt longer shares is. let whole = is.whole in let count = count-shares bytes longer (suc (10 + 69 * index)) (omega arith) shares in let more =
    shares.long in absurd (omega (arith, whole, count, more, all)))
    (λ e. absurd (omega arith))

-- ---- within a record

-- the key with so many low bytes of its number
abbrev key_with : List ℕ → ℕ → ℕ → ℕ → Key
key_with bytes place m high = record { file = get_or bytes place 0; id = little_from (place + 1) m bytes + 256 ^ m * high }

-- what follows such bytes in a record
abbrev pad_with : ℕ → ℕ → ℕ → List ℕ
pad_with m high n = little_bytes (4 - m) high ++ zero_bytes n

high_small : (m low high : ℕ) → m ≤ 4 → low + 256 ^ m * high < 2 ^ 32 → high < 256 ^ (4 - m)
high_small zero low high le lt = omega arith
high_small (suc zero) low high le lt = omega arith
high_small (suc (suc zero)) low high le lt = omega arith
high_small (suc (suc (suc zero))) low high le lt = omega arith
high_small (suc (suc (suc (suc zero)))) low high le lt = omega arith
high_small (suc (suc (suc (suc (suc m))))) low high le lt = absurd (omega arith)

module _ (shape : Shape) (bytes : List ℕ) (last : Option Key) (index more : ℕ) (allowed : is_allowed shape ≡ true) (few : count_of bytes ≤ 2047)
    (counts : index + suc more ≡ count_of bytes) (has : HasRecords shape bytes last index) where
  -- a key whose first bytes are those at the place is read from them and any bytes that have the rest of its number
  key_is : (longer : List ℕ) (m n high : ℕ) → m ≤ 4 → 10 + 69 * index + 1 + m ≤ n → SharesPrefix bytes longer n
      → little_from (10 + 69 * index + 1 + m) (4 - m) longer ≡ high
      → key_with bytes (10 + 69 * index) m high ≡ key_at longer (10 + 69 * index)
  key_is longer m n high le within shares rest =
      let file = shares.same (10 + 69 * index) (omega arith) in
      let low = little_from-shares bytes longer m (10 + 69 * index + 1) n shares (omega arith) in
      let parts = little_from-parts longer m (4 - m) (10 + 69 * index + 1) 4 (omega arith) in
      let id : little_from (10 + 69 * index + 1) m bytes + 256 ^ m * high ≡ little_from (10 + 69 * index + 1) 4 longer =
      ap (λ (l : ℕ). l + 256 ^ m * high) (sym low) ∙ ap (λ (h : ℕ). little_from (10 + 69 * index + 1) m longer + 256 ^ m * h) (sym rest) ∙ sym parts in
      λ i. record { file = sym file i; id = id i }

  -- the bytes up to one of a key or of its record begin a shipment
  key_begins : (m at : ℕ) → m ≤ 4 → 10 + 69 * index + 1 + m ≤ at → (at ≡ 10 + 69 * index + 1 + m) ⊎ (m ≡ 4) → at ≤ length bytes → at ≤ 10 + 69 * index + 69
      → BeginsKey (record { shape = shape; last = last; more = more }) bytes (10 + 69 * index) (suc m) → BeginsShipment shape (take at bytes)
  key_begins m at le from all within short (high, stands) =
      begins_by shape bytes (pad_with m high (10 + 69 * index + 69 - (at + (4 - m)))) at (Some (key_with bytes (10 + 69 * index) m high)) (index + 1) more
      allowed within (omega (arith, pad_long)) (are_bytes-append (little_bytes (4 - m) high) (zero_bytes (10 + 69 * index + 69 - (at + (4 - m))))
      (are_bytes-little (4 - m) high) (are_bytes-zero_bytes (10 + 69 * index + 69 - (at + (4 - m)))))
      (count-shares bytes (take at bytes ++ pad_with m high (10 + 69 * index + 69 - (at + (4 - m)))) at (omega arith)
      (shares_take bytes (pad_with m high (10 + 69 * index + 69 - (at + (4 - m)))) at within) ∙ omega (arith, counts)) (omega (arith, few, counts))
      stands.left
      (λ rest.
      let longer = take at bytes ++ (pad_with m high (10 + 69 * index + 69 - (at + (4 - m))) ++ rest) in
      let shares = shares_take bytes (pad_with m high (10 + 69 * index + 69 - (at + (4 - m))) ++ rest) at within in
      let count = count-shares bytes longer at (omega arith) shares in
      decides_more shape longer last index (key_with bytes (10 + 69 * index) m high) (omega (arith, count, counts))
      (key_is longer m at high le from shares (high_is rest)) stands.next
      (has.decides longer (shares_less bytes longer (10 + 69 * index) at (omega arith) shares)))
    where
      high_fits : high < 256 ^ (4 - m)
      high_fits = high_small m (little_from (10 + 69 * index + 1) m bytes) high le
          (stands_small (record { shape = shape; last = last; more = more }) (get_or bytes (10 + 69 * index) 0) (little_from (10 + 69 * index + 1) m bytes + 256
          ^ m * high) allowed stands)

      pad_long : length (pad_with m high (10 + 69 * index + 69 - (at + (4 - m)))) ≡ 10 + 69 * index + 69 - at
      pad_long =
          let number = length-bytes_low_first 0 (4 - m) high in
          let blanks = length-zero_bytes (10 + 69 * index + 69 - (at + (4 - m))) in
          let both = length-append (little_bytes (4 - m) high) (zero_bytes (10 + 69 * index + 69 - (at + (4 - m)))) in
          ⊎_elim (λ (e : at ≡ 10 + 69 * index + 1 + m). omega (arith, number, blanks, both)) (λ (e : m ≡ 4). omega (arith, number, blanks, both)) all

      high_is : (rest : List ℕ) → little_from (10 + 69 * index + 1 + m) (4 - m)
          (take at bytes ++ (pad_with m high (10 + 69 * index + 69 - (at + (4 - m))) ++ rest)) ≡ high
      high_is rest = ⊎_elim here (λ (e : m ≡ 4). known e) all
        where
          here : at ≡ 10 + 69 * index + 1 + m → little_from (10 + 69 * index + 1 + m) (4 - m)
              (take at bytes ++ (pad_with m high (10 + 69 * index + 69 - (at + (4 - m))) ++ rest)) ≡ high
          here e =
              let part = length-take-le at bytes within in
              little_from-behind (take at bytes) (pad_with m high (10 + 69 * index + 69 - (at + (4 - m))) ++ rest) (4 - m) 0 (10 + 69 * index + 1 + m)
              (omega (arith, part, e))
              ∙ ap (little_from 0 (4 - m)) (append_assoc (little_bytes (4 - m) high) (zero_bytes (10 + 69 * index + 69 - (at + (4 - m)))) rest)
              ∙ little_number-reads_back (4 - m) high (zero_bytes (10 + 69 * index + 69 - (at + (4 - m))) ++ rest) high_fits

          known : m ≡ 4 → little_from (10 + 69 * index + 1 + m) (4 - m)
              (take at bytes ++ (pad_with m high (10 + 69 * index + 69 - (at + (4 - m))) ++ rest)) ≡ high
          known e =
              let no_bytes : 4 - m ≡ 0 = omega arith in
              let none : high < 1 = subst (λ (k : ℕ). high < 256 ^ k) no_bytes high_fits in
              ap (λ (k : ℕ). little_from (10 + 69 * index + 1 + m) k (take at bytes ++ (pad_with m high (10 + 69 * index + 69 - (at + (4 - m))) ++ rest)))
              no_bytes ∙ omega (arith, none)

  -- the first bytes of a shipment's key begin one that may stand in the slot
  shipment_begins : (longer : List ℕ) (known : ℕ) → known < 5 → SharesPrefix bytes longer (suc (10 + 69 * index + known)) → IsShipment shape longer
      → BeginsKey (record { shape = shape; last = last; more = more }) bytes (10 + 69 * index) (suc known)
  shipment_begins longer known lt shares is =
      let count = count-shares bytes longer (suc (10 + 69 * index + known)) (omega arith) shares in
      let next = decided_next shape longer last index (omega (arith, count, counts))
      (has.decides longer (shares_less bytes longer (10 + 69 * index) (suc (10 + 69 * index + known)) (omega arith) shares)) is in
      let high = little_from (10 + 69 * index + 1 + known) (4 - known) longer in
      let key = key_is longer known (suc (10 + 69 * index + known)) high (omega arith) (omega arith) shares refl in
      let later = writes_in longer (10 + 69 * (index + 1)) (count_of longer - (index + 1)) in
      let many : length later ≡ count_of longer - (index + 1) = length-writes_in longer (10 + 69 * (index + 1)) (count_of longer - (index + 1)) in
      let left = ascend_left shape (key_at longer (10 + 69 * index)) later allowed (omega (arith, many, count, few)) next.1 in
      let stands : MayStand (record { shape = shape; last = last; more = more }) (key_at longer (10 + 69 * index)) =
      record { next = next.0; left = omega (arith, left, many, count, counts) } in
      (high, subst (MayStand (record { shape = shape; last = last; more = more })) (sym key) stands)

  pub write_bad : (at : ℕ) → StopsInRecord (record { shape = shape; last = last; more = more }) bytes (10 + 69 * index) at → IsNoShipment shape bytes at
  write_bad at stops = is_bad shape bytes at stops.within (begins stops.known stops.few stops.from stops.all stops.begins) no_longer at_end
    where
      begins : (known : ℕ) → known ≤ 5 → 10 + 69 * index + known ≤ at → (at ≡ 10 + 69 * index + known) ⊎ (known ≡ 5)
          → BeginsKey (record { shape = shape; last = last; more = more }) bytes (10 + 69 * index) known → BeginsShipment shape (take at bytes)
      begins zero le from all key =
          let here : at ≡ 10 + 69 * index = ⊎_elim (λ (e : at ≡ 10 + 69 * index + 0). omega arith) (λ (e : zero ≡ 5). absurd (omega arith)) all in
          subst (λ (n : ℕ). BeginsShipment shape (take n bytes)) (sym here) (place_begins shape bytes last index allowed few (omega (arith, counts)) has)
      begins (suc m) le from all key =
          let short = stops.short in
          key_begins m at (omega arith) (omega arith) (⊎_elim (λ (e : at ≡ 10 + 69 * index + suc m). inl (omega arith)) (λ (e : suc m ≡ 5). inr (omega arith))
          all) stops.within (omega arith) key

      no_longer : NoLonger shape bytes at
      no_longer lt longer shares is =
          ⊎_elim (λ (e : at ≡ length bytes). absurd (omega arith))
          (λ wrong. let here = wrong.1 in wrong.3 (shipment_begins longer stops.known wrong.0 (subst (λ (n : ℕ). SharesPrefix bytes longer (suc n)) here shares)
          is))
          stops.stops

      at_end : at ≡ length bytes → ¬ IsShipment shape bytes
      at_end e is = let whole = is.whole in let short = stops.short in omega (arith, whole, short, e, counts)
