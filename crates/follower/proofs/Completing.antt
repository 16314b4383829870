-- Keys that come after a key, and bytes that are made a shipment by records of such keys.
use Rattle.std.proofs.Common.{◌≡◌, ◌∙◌, ◌⊎◌, ⊎_elim, inl, inr, ap, sym, subst, refl, ℕ, zero, suc, ◌+◌, ◌*◌, ◌-◌, ◌^◌}
use Rattle.std.proofs.Common.{◌<◌, ◌≤◌, true, List, [], ◌∷◌, ◌++◌, replicate, Option, None, Some, length, take, arith}
use Rattle.std.proofs.Common.{append_assoc, length-append, length-take-le, mod-lt}
use Rattle.std.proofs.lemmas.Bool.{cases_lt}
use Rattle.std.proofs.lemmas.List.{length-replicate}
use Rattle.std.specs.Int.{byte_at, bytes_low_first}
use Rattle.std.specs.List.{AllByRecursion, flat_map}
use Rattle.byteorder.specs.Endian.{little_bytes}
use Rattle.rec_bytes.specs.declared.key.Key.{Key}
use Rattle.rec_bytes.specs.declared.record.Rec.{Rec}
use Rattle.rec_bytes.specs.declared.shape.Shape.{Shape}
use Rattle.rec_bytes.specs.Pairs.{Pairs}
use Rattle.rec_bytes.specs.RecordFiles.{room_of}
use Rattle.rec_bytes.specs.Shape.{is_allowed}
use Rattle.rec_bytes.proofs.RecordFiles.{IsKey-room_of, is_record_file-low}
use Rattle.redo_log.specs.Appending.{AreWhole, write_bytes}
use Rattle.redo_log.specs.Reading.{IsAbove}
use Rattle.follower.specs.Shipment.{Ascend, BeginsShipment, IsNext, IsShipment, count_of, writes_in}
use Rattle.follower.specs.Slot.{keys_after, keys_left}
use Rattle.follower.proofs.Reading.{Decides, shares_append, little_from-shares}
use Rattle.follower.proofs.RoundTrip.{length-writes, writes_back}
use Rattle.follower.proofs.Slots.{
  Precedes,
  keys_in-above,
  keys_in-below,
  keys_in-same,
  less_precedes,
  precedes_less,
  shipped_by,
  shipped_key,
  shipped_room,
  three_ways,
}

-- each is a byte
abbrev pub AreBytes : List ℕ → Type 0
AreBytes bytes = AllByRecursion (λ byte. byte < 256) bytes

pub are_bytes-append : (xs ys : List ℕ) → AreBytes xs → AreBytes ys → AreBytes (xs ++ ys)
are_bytes-append [] ys a b = b
are_bytes-append (x ∷ xs) ys a b = (a.0, are_bytes-append xs ys a.1 b)

abbrev pub zero_bytes : ℕ → List ℕ
zero_bytes n = replicate n 0

pub length-zero_bytes : (n : ℕ) → length (zero_bytes n) ≡ n
length-zero_bytes n = length-replicate n 0

pub are_bytes-zero_bytes : (n : ℕ) → AreBytes (zero_bytes n)
are_bytes-zero_bytes zero = tt
are_bytes-zero_bytes (suc n) = (omega arith, are_bytes-zero_bytes n)

byte_at-small : (i n : ℕ) → byte_at i n < 256
byte_at-small zero n = mod-lt n (omega arith)
byte_at-small (suc i) n = mod-lt _ (omega arith)

are_bytes-low : (i k n : ℕ) → AreBytes (bytes_low_first i k n)
are_bytes-low i zero n = tt
are_bytes-low i (suc k) n = (byte_at-small i n, are_bytes-low (suc i) k n)

pub are_bytes-little : (k n : ℕ) → AreBytes (little_bytes k n)
are_bytes-little k n = are_bytes-low 0 k n

-- ---- keys that come after a key

-- a key that may come after the last one, and so many more after it
record IsFollowed (shape : Shape) (last : Option Key) (n : ℕ) (key : Key) : Type 0 where
  next : IsNext shape last key
  left : n ≤ keys_after shape key
  file : key.file < 256

a_name : (shape : Shape) (last : Option Key) (id n : ℕ) → id < 4096 → suc n ≤ 4096 - id + 2 * shape.limit → IsAbove last (record { file = 6; id = id })
    → (key : Key) × IsFollowed shape last n key
a_name shape last id n lt le above = (
  record { file = 6; id = id },
  record {
    next = record { shipped = shipped_by shape (record { file = 6; id = id }) lt refl; above = above };
    left = omega arith;
    file = omega arith;
  },
)

an_index : (shape : Shape) (last : Option Key) (id n : ℕ) → suc n ≤ 2 * shape.limit - id → IsAbove last (record { file = 8; id = id }) → (key : Key)
    × IsFollowed shape last n key
an_index shape last id n le above = (
  record { file = 8; id = id },
  record {
    next = record { shipped = shipped_by shape (record { file = 8; id = id }) (omega arith) refl; above = above };
    left = omega arith;
    file = omega arith;
  },
)

next_key : (shape : Shape) (last : Option Key) (n : ℕ) → suc n ≤ keys_left shape last → (key : Key) × IsFollowed shape last n key
next_key shape None n le = a_name shape None 0 n (omega arith) (omega arith) tt
next_key shape (Some last) n le =
    three_ways last.file 6 ((key : Key) × IsFollowed shape (Some last) n key)
    (λ (lt : last.file < 6).
    let names = keys_in-below shape 6 last lt in
    let index = keys_in-below shape 8 last (omega arith) in
    a_name shape (Some last) 0 n (omega arith) (omega (arith, le, names, index)) (precedes_less last (record { file = 6; id = 0 }) (inl lt)))
    (λ (same : last.file ≡ 6).
    let names = keys_in-same shape 6 last same in
    let index = keys_in-below shape 8 last (omega arith) in
    ⊎_elim
    (λ (lt : last.id + 1 < 4096). a_name shape (Some last) (last.id + 1) n lt (omega (arith, le, names, index))
    (precedes_less last (record { file = 6; id = last.id + 1 }) (inr (same, omega arith))))
    (λ (ge : 4096 ≤ last.id + 1). an_index shape (Some last) 0 n (omega (arith, le, names, index)) (precedes_less last (record { file = 8; id = 0 })
    (inl (omega arith))))
    (cases_lt (last.id + 1) 4096))
    (λ (gt : 6 < last.file).
    let names = keys_in-above shape 6 last gt in
    three_ways last.file 8 ((key : Key) × IsFollowed shape (Some last) n key)
    (λ (lt : last.file < 8).
    let index = keys_in-below shape 8 last lt in
    an_index shape (Some last) 0 n (omega (arith, le, names, index)) (precedes_less last (record { file = 8; id = 0 }) (inl lt)))
    (λ (same : last.file ≡ 8).
    let index = keys_in-same shape 8 last same in
    an_index shape (Some last) (last.id + 1) n (omega (arith, le, names, index))
    (precedes_less last (record { file = 8; id = last.id + 1 }) (inr (same, omega arith))))
    (λ (past : 8 < last.file). let index = keys_in-above shape 8 last past in absurd (omega (arith, le, names, index))))

-- records that may come after the last one
pub record AreMore (shape : Shape) (last : Option Key) (n : ℕ) (writes : Pairs) : Type 0 where
  pub ascend : Ascend shape last writes
  pub many : length writes ≡ n
  pub whole : AreWhole writes
  pub small : AllByRecursion (λ (write : Key × Rec). write.0.id < 2 ^ 32) writes
  pub bytes : AreBytes (flat_map write_bytes writes)

abbrev blank : Rec
blank = record { bytes = zero_bytes 64 }

pub more_writes : (n : ℕ) (shape : Shape) (last : Option Key) → is_allowed shape ≡ true → n ≤ keys_left shape last → (writes : Pairs)
    × AreMore shape last n writes
more_writes zero shape last allowed le = ([], record { ascend = tt; many = refl; whole = tt; small = tt; bytes = tt })
more_writes (suc n) shape last allowed le =
    let found = next_key shape last n le in
    let key = found.0 in
    let more = more_writes n shape (Some key) allowed found.1.left in
    let write : Key × Rec = (key, blank) in (
      write ∷ more.0,
      record {
        ascend = (found.1.next, more.1.ascend);
        many = ap suc more.1.many;
        whole = (length-zero_bytes 64, more.1.whole);
        small = (let small = (shipped_key shape key allowed found.1.next.shipped).id in omega arith, more.1.small);
        bytes = are_bytes-append (write_bytes write) (flat_map write_bytes more.0)
            (are_bytes-append (key.file ∷ little_bytes 4 key.id) (zero_bytes 64) (found.1.file, are_bytes-little 4 key.id) (are_bytes-zero_bytes 64))
            more.1.bytes;
      },
    )

-- ---- and no more than these do

last_files : (shape : Shape) (file id : ℕ) → is_allowed shape ≡ true → 6 ≤ file → id < room_of shape file → (file ≡ 6) ⊎ (file ≡ 8)
last_files shape file id allowed from within =
    three_ways file 6 ((file ≡ 6) ⊎ (file ≡ 8)) (λ lt. absurd (omega arith)) inl
    (λ gt. three_ways file 8 ((file ≡ 6) ⊎ (file ≡ 8))
    (λ lt. let log : file ≡ 7 = omega arith in let none : id < 0 = subst (λ (f : ℕ). id < room_of shape f) log within in absurd (omega arith))
    inr
    (λ past. let low = is_record_file-low file (IsKey-room_of shape (record { file = file; id = id }) allowed within).file in absurd (omega arith)))

keys_fall : (shape : Shape) (key next : Key) → is_allowed shape ≡ true → 6 ≤ key.file → Precedes key next → next.id < room_of shape next.file
    → suc (keys_after shape next) ≤ keys_after shape key
keys_fall shape key next allowed from precedes within =
    ⊎_elim
    (λ (name : next.file ≡ 6).
    let room : next.id < 4096 = subst (λ (f : ℕ). next.id < room_of shape f) name within in
    let names = keys_in-same shape 6 next name in
    let index = keys_in-below shape 8 next (omega arith) in
    ⊎_elim (λ (lt : key.file < next.file). absurd (omega arith))
    (λ (same : (key.file ≡ next.file) × (key.id < next.id)).
    let key_names = keys_in-same shape 6 key (same.0 ∙ name) in
    let key_index = keys_in-below shape 8 key (omega (arith, same.0)) in
    omega (arith, names, index, key_names, key_index, same.1, room))
    precedes)
    (λ (last : next.file ≡ 8).
    let room : next.id < 2 * shape.limit = subst (λ (f : ℕ). next.id < room_of shape f) last within in
    let names = keys_in-above shape 6 next (omega arith) in
    let index = keys_in-same shape 8 next last in
    ⊎_elim
    (λ (lt : key.file < next.file). let key_index = keys_in-below shape 8 key (omega arith) in omega (arith, names, index, key_index, room))
    (λ (same : (key.file ≡ next.file) × (key.id < next.id)).
    let key_index = keys_in-same shape 8 key (same.0 ∙ last) in omega (arith, names, index, key_index, same.1, room))
    precedes)
    (last_files shape next.file next.id allowed (⊎_elim (λ (lt : key.file < next.file). omega arith) (λ (same : (key.file ≡ next.file) × (key.id < next.id)).
    omega (arith, same.0)) precedes) within)

ascend_fits : (shape : Shape) (key : Key) (writes : Pairs) → is_allowed shape ≡ true → 6 ≤ key.file → Ascend shape (Some key) writes
    → length writes ≤ keys_after shape key
ascend_fits shape key [] allowed from ascend = omega arith
ascend_fits shape key (write ∷ later) allowed from ascend =
    let precedes = less_precedes key write.0 ascend.0.above in
    let falls = keys_fall shape key write.0 allowed from precedes (shipped_room shape write.0 ascend.0.shipped) in
    let next : 6 ≤ write.0.file = ⊎_elim (λ (lt : key.file < write.0.file). omega arith)
    (λ (same : (key.file ≡ write.0.file) × (key.id < write.0.id)). omega (arith, same.0)) precedes in
    let rest = ascend_fits shape write.0 later allowed next ascend.1 in
    omega (arith, falls, rest)

-- as many records as a shipment may have come after a key only where enough keys do
pub ascend_left : (shape : Shape) (key : Key) (writes : Pairs) → is_allowed shape ≡ true → length writes ≤ 2047 → Ascend shape (Some key) writes
    → length writes ≤ keys_after shape key
ascend_left shape key writes allowed few ascend =
    ⊎_elim (λ (lt : key.file < 6). let names = keys_in-below shape 6 key lt in omega (arith, names, few))
    (λ (ge : 6 ≤ key.file). ascend_fits shape key writes allowed ge ascend) (cases_lt key.file 6)

-- ---- bytes that are made a shipment

shipment_of : (shape : Shape) (bytes : List ℕ) (writes : Pairs) (last : Option Key) (index n : ℕ) → length bytes ≡ 10 + 69 * index → count_of bytes ≡ index + n
    → index + n ≤ 2047 → AreMore shape last n writes → Decides shape (bytes ++ flat_map write_bytes writes) last index
    → IsShipment shape (bytes ++ flat_map write_bytes writes)
shipment_of shape bytes writes last index n long counts few more decides =
    let all = bytes ++ flat_map write_bytes writes in
    let count : count_of all ≡ count_of bytes = little_from-shares bytes all 2 8 10 (shares_append bytes (flat_map write_bytes writes) 10 (omega (arith, long)))
    (omega arith) in
    let many = more.many in
    let left : count_of all - index ≡ length writes = omega (arith, count, counts, many) in
    let reads : writes_in all (10 + 69 * index) (count_of all - index) ≡ writes = ap (λ (m : ℕ). writes_in all (10 + 69 * index) m) left
    ∙ writes_back bytes writes (10 + 69 * index) (sym long) more.whole more.small in
    let both = length-append bytes (flat_map write_bytes writes) in
    let records = length-writes writes more.whole in
    record {
      few = omega (arith, count, counts, few);
      whole = omega (arith, both, records, long, count, counts, many);
      ascend = decides.0 (subst (Ascend shape last) (sym reads) more.ascend);
    }

-- Bytes begin a shipment if, with some more, they are the head and some of its records, after which
-- enough keys may come.
pub begins_by : (shape : Shape) (bytes pad : List ℕ) (n : ℕ) (last : Option Key) (index more : ℕ) → is_allowed shape ≡ true → n ≤ length bytes
    → n + length pad ≡ 10 + 69 * index → AreBytes pad → count_of (take n bytes ++ pad) ≡ index + more → index + more ≤ 2047 → more ≤ keys_left shape last
    → ((rest : List ℕ) → Decides shape (take n bytes ++ (pad ++ rest)) last index) → BeginsShipment shape (take n bytes)
begins_by shape bytes pad n last index more allowed within long are_bytes counts few left decides =
    let found = more_writes more shape last allowed left in
    let rest = flat_map write_bytes found.0 in
    let joined : take n bytes ++ pad ++ rest ≡ take n bytes ++ (pad ++ rest) = append_assoc (take n bytes) pad rest in
    let both = length-append (take n bytes) pad in
    let part = length-take-le n bytes within in (
      pad ++ rest,
      are_bytes-append pad rest are_bytes found.1.bytes,
      subst (IsShipment shape) joined
          (shipment_of shape (take n bytes ++ pad) found.0 last index more (omega (arith, both, part, long)) counts few found.1
          (subst (λ (all : List ℕ). Decides shape all last index) (sym joined) (decides rest))),
    )
