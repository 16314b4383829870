-- The bytes of written records, one behind the other.
use Rattle.std.proofs.Common.{◌≡◌, ◌∙◌, ap, sym, ⊎_elim, ℕ, suc, ◌+◌, ◌-◌, ◌<◌, ◌≤◌, List, [], ◌∷◌, ◌++◌, Option}
use Rattle.std.proofs.Common.{unwrap_or, length, take, drop, get_or, arith, length-drop, refl}
use Rattle.std.proofs.lemmas.Bool.{cases_lt}
use Rattle.std.specs.Prelude.{Some}
use Rattle.std.specs.List.{flat_map, slice_get}
use Rattle.std.proofs.lemmas.List.{flat_map_more, take_more, get_or-drop}
use Rattle.std.proofs.lemmas.Option.{slice_get_within, get_or_from_slice_get}
use Rattle.rec_bytes.specs.declared.key.Key.{Key}
use Rattle.rec_bytes.specs.declared.record.Rec.{Rec}
use Rattle.rec_bytes.specs.Pairs.{Pairs}
use Rattle.redo_log.specs.Appending.{AreWhole, AreWholeFrom, write_bytes}

-- one record more of those from a place on
take-drop-more : (writes : Pairs) (from i : ℕ) (write : Key × Rec) → from ≤ i → slice_get writes i ≡ Some write
    → take (i + 1 - from) (drop from writes) ≡ take (i - from) (drop from writes) ++ write ∷ []
take-drop-more writes from i write first got =
    let within : i < length writes = slice_get_within writes i write got in
    let inside : i - from < length (drop from writes) = omega (arith, length-drop from writes) in
    let count : i + 1 - from ≡ (i - from) + 1 = omega arith in
    let place : from + (i - from) ≡ i = omega arith in
    let is : get_or (drop from writes) (i - from) write ≡ write =
    get_or-drop from writes (i - from) write ∙ ap (λ k. get_or writes k write) place ∙ get_or_from_slice_get writes i write write got in
    ap (λ n. take n (drop from writes)) count ∙ take_more (drop from writes) (i - from) write inside
    ∙ ap (λ (w : Key × Rec). take (i - from) (drop from writes) ++ w ∷ []) is

-- the bytes of one record more
pub filled-more : (old now new : List ℕ) (writes : Pairs) (from i : ℕ) (write : Key × Rec) → from ≤ i → slice_get writes i ≡ Some write
    → now ≡ old ++ flat_map write_bytes (take (i - from) (drop from writes)) → new ≡ now ++ write_bytes write
    → new ≡ old ++ flat_map write_bytes (take (i + 1 - from) (drop from writes))
filled-more old now new writes from i write first got is next =
    next ∙ ap (λ bytes. bytes ++ write_bytes write) is
    ∙ flat_map_more write_bytes old (take (i - from) (drop from writes)) write
    ∙ ap (λ (ws : Pairs). old ++ flat_map write_bytes ws) (sym (take-drop-more writes from i write first got))

-- one record more is whole
pub AreWholeFrom-more : (writes : Pairs) (from i : ℕ) (write : Key × Rec) → AreWholeFrom writes from i → slice_get writes i ≡ Some write
    → length write.1.bytes ≡ 64 → AreWholeFrom writes from (i + 1)
AreWholeFrom-more writes from i write before is whole j other first below got =
    ⊎_elim
    (λ earlier. before j other first earlier got)
    (λ last.
    let here : i ≡ j = omega (arith, last, below) in
    let same : write ≡ other = ap (λ (o : Option (Key × Rec)). unwrap_or o write) (sym is ∙ ap (slice_get writes) here ∙ got) in
    ap (λ (w : Key × Rec). length w.1.bytes) (sym same) ∙ whole)
    (cases_lt j i)

-- with those of a further range
pub AreWholeFrom-then : (writes : Pairs) (from middle end : ℕ) → AreWholeFrom writes from middle → AreWholeFrom writes middle end → AreWholeFrom writes from end
AreWholeFrom-then writes from middle end before after i write first below got =
    ⊎_elim (λ earlier. before i write first earlier got) (λ later. after i write later below got) (cases_lt i middle)

-- all of them
pub AreWhole-all : (writes : Pairs) (end : ℕ) → length writes ≤ end → AreWholeFrom writes 0 end → AreWhole writes
AreWhole-all [] end all whole = tt
AreWhole-all (write ∷ writes) end all whole = (
  whole 0 write (omega arith) (omega (arith, all)) refl,
  AreWhole-all writes (end - 1) (omega (arith, all)) (λ i other first below got. whole (suc i) other (omega arith) (omega (arith, below, all)) got),
)
