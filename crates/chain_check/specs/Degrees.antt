-- Degrees, and counts of the relationships at each node.
use Rattle.std.specs.Prelude.{◌≡◌, ◌≢◌, ℕ, ◌≤◌, List, length}
use Rattle.std.proofs.Common.{get_or}
use Rattle.rec_bytes.specs.Format as format
use Rattle.store_rules.specs.Views.{Records, degree, high, kind_at}
use Rattle.chain_check.specs.declared.degrees.Degrees.{Degrees}

abbrev pub count_at : List ℕ → ℕ → ℕ
count_at counts n = get_or counts n 0

-- there is a count for each node
pub record AreOfNodes (degrees : Degrees) (records : Records) : Type 0 where
  pub nodes : length degrees.counts.items ≡ high records format.nodes_file
  pub few : high records format.nodes_file ≤ format.most_ids

-- a node in use has the degree that was counted, and a sparse one at most the threshold
pub record HasDegree (degrees : Degrees) (records : Records) (n : ℕ) : Type 0 where
  pub exact : kind_at records format.nodes_file n ≢ format.free_kind
      → degree records n ≡ count_at degrees.counts.items n
  pub few : kind_at records format.nodes_file n ≡ format.sparse
      → degree records n ≤ degrees.threshold
