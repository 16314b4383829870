-- A hole in the order of a write set, which is filled place by place while another set is merged.
use Rattle.std.specs.Prelude.{
  ◌≡◌,
  ℕ,
  List,
  ◌++◌,
  ◌+◌,
  ◌<◌,
  ◌≤◌,
  drop,
  length,
  slice_index_or,
  take,
}
use Rattle.std.specs.declared.cmp.Ordering.TheVariants.{Less}
use Rattle.rec_bytes.specs.declared.key.Key.{Key}
use Rattle.rec_bytes.specs.declared.order_hole.Hole.{Hole}
use Rattle.rec_bytes.specs.Key.{key_cmp}
use Rattle.rec_bytes.specs.Pairs.{Pairs, most_pairs}
use Rattle.rec_bytes.specs.PairOrder.{no_pair, in_order}
use Rattle.rec_bytes.specs.PlaceHints.{IsHinted}

-- the places without those of the hole
abbrev pub around : List ℕ → Hole → List ℕ
around order hole = take hole.start order ++ drop (hole.start + hole.size) order

-- the pairs at the places around the hole
abbrev pub in_order_around : Pairs → List ℕ → Hole → Pairs
in_order_around pairs order hole = in_order pairs (around order hole)

-- so many pairs at the front have smaller keys
abbrev pub AreBelow : Pairs → ℕ → Key → Type 0
AreBelow pairs count key =
    (k : ℕ) → k < count → key_cmp (slice_index_or pairs k no_pair).0 key ≡ Less

-- the places around the hole are those of all pairs, and each place of the hole may become one's
pub record IsOpen (pairs : Pairs) (order hints : List ℕ) (hole : Hole) : Type 0 where
  pub hinted : IsHinted pairs (around order hole) hints
  pub within : hole.start + hole.size ≤ length order
  pub most : length pairs + hole.size ≤ most_pairs
