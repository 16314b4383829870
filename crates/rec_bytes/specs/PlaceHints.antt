-- How a write set finds the pair of a key without a search: by slots, of which a hash of the key
-- picks one.
use Rattle.std.specs.Prelude.{
  ◌≡◌,
  ℕ,
  List,
  [],
  ◌∷◌,
  ◌⊎◌,
  ◌+◌,
  ◌-◌,
  ◌*◌,
  ◌/◌,
  ◌<◌,
  bit_and,
  length,
  slice_index_or,
  IsSome,
}
use Rattle.rec_bytes.specs.declared.key.Key.{Key}
use Rattle.rec_bytes.specs.Pairs.{Pairs, find_pair, IsPlaceOf}
use Rattle.rec_bytes.specs.PairOrder.{no_pair, in_order, IsInOrder}

-- the slot of a key among so many
unfoldable pub slot_of : ℕ → Key → ℕ
slot_of slots key = bit_and ((key.id * 2654435769 + key.file * 31415927) / 4096) (slots - 1)

-- the slot of the key isn't empty, or there are no slots
abbrev pub IsMarked : List ℕ → Key → Type 0
IsMarked hints key = 0 < slice_index_or hints (slot_of (length hints) key) 1

-- the slot of each pair isn't empty
abbrev pub AreMarked : List ℕ → Pairs → Type 0
AreMarked hints pairs =
    (place : ℕ) → place < length pairs → IsMarked hints (slice_index_or pairs place no_pair).0

-- the place is in the list
abbrev pub HasPlace : List ℕ → ℕ → Type 0
HasPlace [] place = ⊥
HasPlace (p ∷ order) place = (p ≡ place) ⊎ HasPlace order place

-- the places by ascending key are those of all pairs, and the slot of no pair's key is empty
pub record IsHinted (pairs : Pairs) (order hints : List ℕ) : Type 0 where
  pub ordered : IsInOrder pairs order
  pub covers : (place : ℕ) → place < length pairs → HasPlace order place
  pub marked : (key : Key) → IsSome (find_pair (in_order pairs order) key) → IsMarked hints key

-- the pair of the key is at the place
pub record IsPairOf (pairs : Pairs) (order : List ℕ) (key : Key) (place : ℕ) : Type 0 where
  pub i : ℕ
  pub here : IsPlaceOf (in_order pairs order) key i
  pub stands : slice_index_or order i 0 ≡ place
