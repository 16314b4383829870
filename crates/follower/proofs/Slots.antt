-- Which keys may stand in a slot, and which bytes begin one.
use Rattle.std.proofs.Common.{◌≡◌, ◌≢◌, ◌∙◌, ◌⊎◌, ⊎_elim, inl, inr, ap, sym, subst, refl, ℕ, zero, suc, ◌+◌, ◌-◌, ◌*◌}
use Rattle.std.proofs.Common.{◌/◌, ◌%◌, ◌^◌, ◌<◌, ◌≤◌, Bool, true, false, cond, not, ◌&&◌, nat_eq, nat_lt, nat_cmp}
use Rattle.std.proofs.Common.{Ordering, Less, Equal, Greater, Option, None, Some, arith, div-add-mod', mod-lt}
use Rattle.std.proofs.Common.{mul-le-mul_left, mul-le-mul_right, mul_comm, pow-suc, List, get_or}
use Rattle.std.proofs.lemmas.Bool.{cases_lt}
use Rattle.std.proofs.lemmas.Bool.Decides.{nat_tests}
use Rattle.std.specs.Ordering.{ordering_then}
use Rattle.byteorder.specs.Endian.{little_from}
use Rattle.rec_bytes.specs.declared.key.Key.{Key}
use Rattle.rec_bytes.specs.declared.shape.Shape.{Shape}
use Rattle.rec_bytes.specs.Key.{IsKey, key_cmp}
use Rattle.rec_bytes.specs.RecordFiles.{room_of}
use Rattle.rec_bytes.specs.Shape.{is_allowed}
use Rattle.rec_bytes.proofs.RecordFiles.{IsKey-room_of, room_of-most}
use Rattle.redo_log.specs.Reading.{IsAbove}
use Rattle.follower.specs.declared.slot.Slot.{Slot}
use Rattle.txn_core.specs.Shipped.{is_kept_back, is_shipped}
use Rattle.follower.specs.Shipment.{key_at}
use Rattle.follower.specs.Slot.{
  BeginsIn,
  BeginsKey,
  IsLeastFrom,
  IsPower,
  MayStand,
  least_above,
  least_next,
  keys_in_after,
}
use Rattle.follower.proofs.Reading.{little_from-parts}

-- ---- the order of keys

-- the key comes before the other one, by file and then by id
abbrev pub Precedes : Key → Key → Type 0
Precedes a b = (a.file < b.file) ⊎ ((a.file ≡ b.file) × (a.id < b.id))

nat_cmp-less : (m n : ℕ) → m < n → nat_cmp m n ≡ Less
nat_cmp-less m n lt = grind (arith, nat_tests)

nat_cmp-equal : (m n : ℕ) → m ≡ n → nat_cmp m n ≡ Equal
nat_cmp-equal m n e = grind (arith, nat_tests)

nat_cmp-greater : (m n : ℕ) → n < m → nat_cmp m n ≡ Greater
nat_cmp-greater m n lt = grind (arith, nat_tests)

pub precedes_less : (a b : Key) → Precedes a b → key_cmp a b ≡ Less
precedes_less a b =
    ⊎_elim
    (λ (lt : a.file < b.file). ap (λ (o : Ordering). ordering_then o (nat_cmp a.id b.id)) (nat_cmp-less a.file b.file lt))
    (λ (same : (a.file ≡ b.file) × (a.id < b.id)).
    ap (λ (o : Ordering). ordering_then o (nat_cmp a.id b.id)) (nat_cmp-equal a.file b.file same.0) ∙ nat_cmp-less a.id b.id same.1)

-- of two numbers one is less, or they are the same
pub three_ways : (m n : ℕ) (P : Type 0) → (m < n → P) → (m ≡ n → P) → (n < m → P) → P
three_ways m n P less same more =
    ⊎_elim less (λ (le : n ≤ m). ⊎_elim more (λ (ge : m ≤ n). same (omega arith)) (cases_lt n m)) (cases_lt m n)

pub less_precedes : (a b : Key) → key_cmp a b ≡ Less → Precedes a b
less_precedes a b is =
    three_ways a.file b.file (Precedes a b) inl
    (λ (same : a.file ≡ b.file).
    let ids : nat_cmp a.id b.id ≡ Less = ap (λ (o : Ordering). ordering_then o (nat_cmp a.id b.id)) (sym (nat_cmp-equal a.file b.file same)) ∙ is in
    three_ways a.id b.id (Precedes a b) (λ lt. inr (same, lt))
    (λ (e : a.id ≡ b.id). let other = nat_cmp-equal a.id b.id e in absurd (cc))
    (λ (gt : b.id < a.id). let other = nat_cmp-greater a.id b.id gt in absurd (cc)))
    (λ (gt : b.file < a.file).
    let other : Greater ≡ Less = ap (λ (o : Ordering). ordering_then o (nat_cmp a.id b.id)) (sym (nat_cmp-greater a.file b.file gt)) ∙ is in
    absurd (cc))

-- ---- keys that may be shipped

pub shipped_room : (shape : Shape) (key : Key) → is_shipped shape key ≡ true → key.id < room_of shape key.file
shipped_room shape key shipped = room key.id (room_of shape key.file) (is_kept_back key) shipped
  where
    room : (a b : ℕ) (c : Bool) → nat_lt a b && not c ≡ true → a < b
    room a b c e = grind arith

shipped_kept : (shape : Shape) (key : Key) → is_shipped shape key ≡ true → is_kept_back key ≡ false
shipped_kept shape key shipped = kept (nat_lt key.id (room_of shape key.file)) (is_kept_back key) shipped
  where
    kept : (a c : Bool) → a && not c ≡ true → c ≡ false
    kept a true e = absurd (grind arith)
    kept a false e = refl

pub shipped_by : (shape : Shape) (key : Key) → key.id < room_of shape key.file → is_kept_back key ≡ false → is_shipped shape key ≡ true
shipped_by shape key within free = by key.id (room_of shape key.file) (is_kept_back key) within free
  where
    by : (a b : ℕ) (c : Bool) → a < b → c ≡ false → nat_lt a b && not c ≡ true
    by a b c lt e = grind (arith, nat_tests)

pub shipped_key : (shape : Shape) (key : Key) → is_allowed shape ≡ true → is_shipped shape key ≡ true → IsKey key
shipped_key shape key allowed shipped = IsKey-room_of shape key allowed (shipped_room shape key shipped)

-- only two records are kept back
free_by : (file id : ℕ) → (file ≡ 0 → (id ≢ 0) × (id ≢ 7)) → is_kept_back (record { file = file; id = id }) ≡ false
free_by file id other =
    three_ways file 0 (is_kept_back (record { file = file; id = id }) ≡ false) (λ lt. absurd (omega arith))
    (λ e. let apart = other e in let zero_not = apart.0 in let seven_not = apart.1 in grind (arith, nat_tests))
    (λ gt. grind (arith, nat_tests))

-- ---- the keys that come after a key

pub keys_in-below : (shape : Shape) (file : ℕ) (key : Key) → key.file < file → keys_in_after shape file key ≡ room_of shape file
keys_in-below shape file key lt = by (nat_lt key.file file) (grind (arith, nat_tests))
  where
    by : (b : Bool) → b ≡ true → cond b (room_of shape file) (cond (nat_eq key.file file) (room_of shape file - (key.id + 1)) 0) ≡ room_of shape file
    by true e = refl
    by false e = absurd (cc)

pub keys_in-same : (shape : Shape) (file : ℕ) (key : Key) → key.file ≡ file → keys_in_after shape file key ≡ room_of shape file - (key.id + 1)
keys_in-same shape file key e = by (nat_lt key.file file) (nat_eq key.file file) (grind (arith, nat_tests)) (grind (arith, nat_tests))
  where
    by : (a b : Bool) → a ≡ false → b ≡ true → cond a (room_of shape file) (cond b (room_of shape file - (key.id + 1)) 0) ≡ room_of shape file - (key.id + 1)
    by false true p q = refl
    by true b p q = absurd (cc)
    by false false p q = absurd (cc)

pub keys_in-above : (shape : Shape) (file : ℕ) (key : Key) → file < key.file → keys_in_after shape file key ≡ 0
keys_in-above shape file key gt = by (nat_lt key.file file) (nat_eq key.file file) (grind (arith, nat_tests)) (grind (arith, nat_tests))
  where
    by : (a b : Bool) → a ≡ false → b ≡ false → cond a (room_of shape file) (cond b (room_of shape file - (key.id + 1)) 0) ≡ 0
    by false false p q = refl
    by true b p q = absurd (cc)
    by false true p q = absurd (cc)

-- after a smaller id there come no fewer
keys_in-falls : (shape : Shape) (at file i j : ℕ) → i ≤ j → keys_in_after shape at (record { file = file; id = j }) ≤ keys_in_after shape at
    (record { file = file; id = i })
keys_in-falls shape at file i j le = by (nat_lt file at) (nat_eq file at) (room_of shape at)
  where
    by : (a b : Bool) (n : ℕ) → cond a n (cond b (n - (j + 1)) 0) ≤ cond a n (cond b (n - (i + 1)) 0)
    by true b n = omega arith
    by false true n = omega arith
    by false false n = omega arith

-- ---- the least id above the last key

least_above-above : (last : Option Key) (file id : ℕ) → IsAbove last (record { file = file; id = id }) → least_above last file ≤ id
least_above-above None file id above = omega arith
least_above-above (Some last) file id above =
    ⊎_elim
    (λ (lt : last.file < file). let other : nat_eq last.file file ≡ false = grind (arith, nat_tests) in subst (λ (b : Bool). cond b (last.id + 1) 0 ≤ id)
    (sym other) (omega arith))
    (λ (same : (last.file ≡ file) × (last.id < id)). by (nat_eq last.file file) (omega (arith, same.1)))
    (less_precedes last (record { file = file; id = id }) above)
  where
    by : (b : Bool) → last.id + 1 ≤ id → cond b (last.id + 1) 0 ≤ id
    by true le = le
    by false le = omega arith

above_least_above : (last : Option Key) (file id most : ℕ) → IsAbove last (record { file = file; id = most }) → least_above last file ≤ id
    → IsAbove last (record { file = file; id = id })
above_least_above None file id most above le = tt
above_least_above (Some last) file id most above le =
    precedes_less last (record { file = file; id = id })
    (⊎_elim inl
    (λ (same : (last.file ≡ file) × (last.id < most)).
    let is : nat_eq last.file file ≡ true = (let e = same.0 in grind (arith, nat_tests)) in
    let next : last.id + 1 ≤ id = subst (λ (b : Bool). cond b (last.id + 1) 0 ≤ id) is le in
    inr (same.0, omega arith))
    (less_precedes last (record { file = file; id = most }) above))

module _ (last : Option Key) (file : ℕ) where
  pub least_above-first_in : least_above last file ≤ least_next last file
  least_above-first_in = by (is_kept_back (record { file = file; id = least_above last file }))
    where
      by : (b : Bool) → least_above last file ≤ cond b (least_above last file + 1) (least_above last file)
      by true = omega arith
      by false = omega arith

  -- it isn't kept back
  pub least_next-free : is_kept_back (record { file = file; id = least_next last file }) ≡ false
  least_next-free = by (is_kept_back (record { file = file; id = least_above last file })) refl
    where
      by : (b : Bool) → is_kept_back (record { file = file; id = least_above last file }) ≡ b
          → is_kept_back (record { file = file; id = cond b (least_above last file + 1) (least_above last file) }) ≡ false
      by false e = e
      by true e = next (least_above last file) e
        where
          next : (n : ℕ) → is_kept_back (record { file = file; id = n }) ≡ true → is_kept_back (record { file = file; id = n + 1 }) ≡ false
          next n kept = free_by file (n + 1) (λ e. (
            λ z. omega arith,
            λ (s : n + 1 ≡ 7).
                let six : n ≡ 6 = omega arith in
                let not_kept : is_kept_back (record { file = file; id = n }) ≡ false = free_by file n (λ e. (λ z. omega arith, λ z. omega arith)) in
                absurd (cc),
          ))

  -- no id below it may come next
  pub least_next-least : (id : ℕ) → is_kept_back (record { file = file; id = id }) ≡ false → IsAbove last (record { file = file; id = id })
      → least_next last file ≤ id
  least_next-least id free above = by (is_kept_back (record { file = file; id = least_above last file })) refl
    where
      le : least_above last file ≤ id
      le = least_above-above last file id above

      by : (b : Bool) → is_kept_back (record { file = file; id = least_above last file }) ≡ b → cond b (least_above last file + 1) (least_above last file) ≤ id
      by false e = le
      by true e = ⊎_elim (λ (lt : least_above last file < id). omega arith)
          (λ (ge : id ≤ least_above last file).
          let same : id ≡ least_above last file = omega (arith, le) in
          let kept : is_kept_back (record { file = file; id = id }) ≡ true = ap (λ (n : ℕ). is_kept_back (record { file = file; id = n })) same ∙ e in
          absurd (cc))
          (cases_lt (least_above last file) id)

-- ---- the least id with a low part

pub is_least_from : (first low power gap id : ℕ) → IsPower power → low < power → gap ≡ first - low → id ≡ low + (gap + (power - 1)) / power * power
    → IsLeastFrom first low power id
is_least_from first low power gap id is_power below gap_is id_is = record {
  is = (high, id_is ∙ ap (λ (n : ℕ). low + n) (mul_comm high power));
  from = omega (arith, parts, less);
  least = least;
}
  where
    high : ℕ
    high = (gap + (power - 1)) / power

    parts : (gap + (power - 1)) / power * power + (gap + (power - 1)) % power ≡ gap + (power - 1)
    parts = div-add-mod' (gap + (power - 1)) power

    some : zero < power
    some = omega arith

    less : (gap + (power - 1)) % power < power
    less = mod-lt (gap + (power - 1)) some

    least : (other : ℕ) → first ≤ low + power * other → id ≤ low + power * other
    least other le =
        let turned : power * other ≡ other * power = mul_comm power other in
        ⊎_elim
        (λ (lt : other < (gap + (power - 1)) / power).
        let more : (other + 1) * power ≤ (gap + (power - 1)) / power * power = mul-le-mul_right power (omega arith) in
        omega (arith, more, parts, less, turned, some))
        (λ (ge : (gap + (power - 1)) / power ≤ other).
        let more : (gap + (power - 1)) / power * power ≤ other * power = mul-le-mul_right power ge in
        omega (arith, more, turned))
        (cases_lt other ((gap + (power - 1)) / power))

-- where any key with this low part may stand in the slot, that of the least id may
pub least_stands : (slot : Slot) (file low power id : ℕ) → IsPower power → low < power → IsLeastFrom (least_next slot.last file) low power id
    → BeginsIn slot file low power → MayStand slot (record { file = file; id = id })
least_stands slot file low power id is_power below least (high, stands) = record {
  next = record {
    shipped = shipped_by slot.shape (record { file = file; id = id }) room free;
    above = above_least_above slot.last file id (low + power * high) stands.next.above
        (let one = least_above-first_in slot.last file in let two = least.from in omega arith);
  };
  left = let names = keys_in-falls slot.shape 6 file id (low + power * high) le in let index = keys_in-falls slot.shape 8 file id (low + power * high) le in
      let left = stands.left in omega arith;
}
  where
    most_free : is_kept_back (record { file = file; id = low + power * high }) ≡ false
    most_free = shipped_kept slot.shape (record { file = file; id = low + power * high }) stands.next.shipped

    least_le : least_next slot.last file ≤ low + power * high
    least_le = least_next-least slot.last file (low + power * high) most_free stands.next.above

    le : id ≤ low + power * high
    le = least.least high least_le

    most_room : low + power * high < room_of slot.shape file
    most_room = shipped_room slot.shape (record { file = file; id = low + power * high }) stands.next.shipped

    room : id < room_of slot.shape file
    room = omega (arith, le, most_room)

    same_id : (other : ℕ) → id ≡ other → is_kept_back (record { file = file; id = other }) ≡ false → is_kept_back (record { file = file; id = id }) ≡ false
    same_id other e is = ap (λ (n : ℕ). is_kept_back (record { file = file; id = n })) e ∙ is

    -- in the meta file, a power of more than a byte is past the room
    in_meta : file ≡ 0 → is_kept_back (record { file = file; id = id }) ≡ false
    in_meta e =
        let few : low + power * high < 9 = subst (λ (f : ℕ). low + power * high < room_of slot.shape f) e most_room in
        ⊎_elim
        (λ (one : power ≡ 1).
        let all : power * least_next slot.last file ≡ least_next slot.last file = ap (λ (n : ℕ). n * least_next slot.last file) one ∙ (omega arith) in
        let up : id ≤ low + power * least_next slot.last file = least.least (least_next slot.last file) (omega (arith, all)) in
        let down = least.from in
        same_id (least_next slot.last file) (omega (arith, all, up, down, one)) (least_next-free slot.last file))
        (λ (wide : 256 ≤ power).
        let high_is : power * high ≡ 0 = none power high wide (omega arith) in
        let own = least.is in
        let own_is : power * own.0 ≡ 0 = none power own.0 wide (let e = own.1 in omega (arith, e, le, few)) in
        same_id (low + power * high) (own.1 ∙ (omega (arith, own_is, high_is))) most_free)
        is_power.one_or_more
      where
        none : (s h : ℕ) → 256 ≤ s → s * h < 9 → s * h ≡ 0
        none s zero wide lt = omega arith
        none s (suc h) wide lt = let more : 1 * s ≤ suc h * s = mul-le-mul_right s (omega arith) in let turned : s * suc h ≡ suc h * s = mul_comm s (suc h) in
            absurd (omega (arith, more, turned))

    free : is_kept_back (record { file = file; id = id }) ≡ false
    free = three_ways file 0 (is_kept_back (record { file = file; id = id }) ≡ false) (λ lt. absurd (omega arith)) in_meta
        (λ gt. free_by file id (λ e. absurd (omega arith)))

-- a key that may stand has an id below a limit
pub stands_small : (slot : Slot) (file id : ℕ) → is_allowed slot.shape ≡ true → MayStand slot (record { file = file; id = id }) → id < 2 ^ 32
stands_small slot file id allowed stands =
    let room = shipped_room slot.shape (record { file = file; id = id }) stands.next.shipped in
    let most = room_of-most slot.shape file allowed in
    omega arith

pub stands_begins : (slot : Slot) (file low power id least : ℕ) → IsLeastFrom least low power id → MayStand slot (record { file = file; id = id })
    → BeginsIn slot file low power
stands_begins slot file low power id least is stands = let parts = is.is in
    (parts.0, subst (λ (n : ℕ). MayStand slot (record { file = file; id = n })) parts.1 stands)

pub none_begins : (slot : Slot) (file low power id : ℕ) → is_allowed slot.shape ≡ true → IsPower power → low < power
    → IsLeastFrom (least_next slot.last file) low power id → 2 ^ 32 ≤ id → ¬ BeginsIn slot file low power
none_begins slot file low power id allowed is_power below least great begins =
    let small = stands_small slot file id allowed (least_stands slot file low power id is_power below least begins) in omega (arith, small, great)

-- ---- a number byte by byte

pow_small : (known : ℕ) → known < 4 → 256 ^ known ≤ 16777216
pow_small zero lt = omega arith
pow_small (suc zero) lt = omega arith
pow_small (suc (suc zero)) lt = omega arith
pow_small (suc (suc (suc zero))) lt = omega arith
pow_small (suc (suc (suc (suc known)))) lt = absurd (omega arith)

-- a byte more of a number of which few are known
pub record IsNextByte (bytes : List ℕ) (at next power : ℕ) : Type 0 where
  pub small : power ≤ 16777216
  pub product : power * get_or bytes at 0 ≤ power * 255
  pub power_is : power * 256 ≡ 256 ^ next

pub is_next_byte : (bytes : List ℕ) (at known next power : ℕ) → known < 4 → next ≡ suc known → power ≡ 256 ^ known → ((k : ℕ) → get_or bytes k 0 < 256)
    → IsNextByte bytes at next power
is_next_byte bytes at known next power lt is power_is small = record {
  small = let most = pow_small known lt in omega (arith, most, power_is);
  product = let byte = small at in mul-le-mul_left power (omega arith);
  power_is = ap (λ (n : ℕ). n * 256) power_is ∙ sym (ap (λ (n : ℕ). 256 ^ n) is ∙ pow-suc 256 known);
}

pub is_power_more : (bytes : List ℕ) (at next power : ℕ) → 0 < power → IsNextByte bytes at next power → IsPower (power * 256)
is_power_more bytes at next power some is = let small = is.small in record { one_or_more = inr (omega arith); small = omega arith }

pub low_more : (bytes : List ℕ) (place known next low power : ℕ) → next ≡ suc known → low ≡ little_from (place + 1) known bytes → power ≡ 256 ^ known
    → low + power * get_or bytes (place + 1 + known) 0 ≡ little_from (place + 1) next bytes
low_more bytes place known next low power is low_is power_is =
    let parts = little_from-parts bytes known 1 (place + 1) next (omega arith) in
    let byte : get_or bytes (place + 1 + known) 0 ≡ little_from (place + 1 + known) 1 bytes = omega arith in
    ap (λ (n : ℕ). n + power * get_or bytes (place + 1 + known) 0) low_is
    ∙ ap (λ (n : ℕ). little_from (place + 1) known bytes + n * get_or bytes (place + 1 + known) 0) power_is
    ∙ ap (λ (n : ℕ). little_from (place + 1) known bytes + 256 ^ known * n) byte ∙ sym parts

-- the bytes of a key that are known
pub begins_key : (slot : Slot) (bytes : List ℕ) (place known low power : ℕ) → low ≡ little_from (place + 1) known bytes → power ≡ 256 ^ known
    → BeginsIn slot (get_or bytes place 0) low power → BeginsKey slot bytes place (suc known)
begins_key slot bytes place known low power low_is power_is begins =
    subst (λ (l : ℕ). BeginsIn slot (get_or bytes place 0) l (256 ^ known)) low_is
    (subst (λ (s : ℕ). BeginsIn slot (get_or bytes place 0) low s) power_is begins)

pub key_begins_in : (slot : Slot) (bytes : List ℕ) (place known low power : ℕ) → low ≡ little_from (place + 1) known bytes → power ≡ 256 ^ known
    → BeginsKey slot bytes place (suc known) → BeginsIn slot (get_or bytes place 0) low power
key_begins_in slot bytes place known low power low_is power_is begins =
    subst (λ (s : ℕ). BeginsIn slot (get_or bytes place 0) low s) (sym power_is)
    (subst (λ (l : ℕ). BeginsIn slot (get_or bytes place 0) l (256 ^ known)) (sym low_is) begins)

-- the key is whole
pub whole_stands : (slot : Slot) (file low power : ℕ) → is_allowed slot.shape ≡ true → power ≡ 2 ^ 32 → BeginsIn slot file low power
    → MayStand slot (record { file = file; id = low })
whole_stands slot file low power allowed all (high, stands) =
    let few = stands_small slot file (low + power * high) allowed stands in
    let product : power * high ≡ 4294967296 * high = ap (λ (n : ℕ). n * high) all in
    let same : low + power * high ≡ low = omega (arith, few, product) in
    subst (λ (n : ℕ). MayStand slot (record { file = file; id = n })) same stands

pub whole_begins : (slot : Slot) (bytes : List ℕ) (place : ℕ) (key : Key) → key ≡ key_at bytes place → MayStand slot key → BeginsKey slot bytes place 5
whole_begins slot bytes place key is stands =
    let same : key_at bytes place ≡ record { file = get_or bytes place 0; id = little_from (place + 1) 4 bytes + 256 ^ 4 * 0 } =
    ap (λ (n : ℕ). record { file = get_or bytes place 0; id = n }) (omega arith) in
    (0, subst (MayStand slot) (is ∙ same) stands)
