-- How a write set keeps its pairs: in the order of first put, beside their places by ascending key.
use Rattle.std.specs.Prelude.{◌≡◌, ℕ, List, [], ◌∷◌, ◌<◌, ◌≤◌, length, slice_index_or}
use Rattle.std.specs.List.{AllByRecursion}
use Rattle.rec_bytes.specs.declared.record.Rec.{Rec}
use Rattle.rec_bytes.specs.declared.key.Key.{Key}
use Rattle.rec_bytes.specs.Key.{IsKey}
use Rattle.rec_bytes.specs.Pairs.{Pairs, most_pairs, with_pair, IsOrdered}

-- what stands for the pair at a place past the last one
abbrev pub no_pair : Key × Rec
no_pair = (record { file = 0; id = 0 }, record { bytes = [] })

-- the pairs at the places
abbrev pub in_order : Pairs → List ℕ → Pairs
in_order pairs [] = []
in_order pairs (place ∷ order) = slice_index_or pairs place no_pair ∷ in_order pairs order

-- the places are those of all pairs, and the keys rise along them
pub record IsInOrder (pairs : Pairs) (order : List ℕ) : Type 0 where
  pub rising : IsOrdered (in_order pairs order)
  pub keys : AllByRecursion (λ (pair : Key × Rec). IsKey pair.0) (in_order pairs order)
  pub places : AllByRecursion (λ place. place < length pairs) order
  pub count : length order ≡ length pairs
  pub most : length pairs ≤ most_pairs

-- a record that is set at the key leads from both to the same pairs
abbrev pub SetsAlike : Pairs → Pairs → Key → Type 0
SetsAlike old new key = (rec : Rec) → with_pair new key rec ≡ with_pair old key rec
