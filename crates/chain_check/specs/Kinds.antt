-- The kinds of all nodes, in a list.
use Rattle.std.specs.Prelude.{◌≡◌, ℕ, List}
use Rattle.std.proofs.Common.{get_or}
use Rattle.rec_bytes.specs.Format as format
use Rattle.store_rules.specs.Views.{Records, kind_at}

-- the kind of a node in the list, that of a free record past its end
abbrev pub kind_of : List ℕ → ℕ → ℕ
kind_of kinds n = get_or kinds n format.free_kind

-- the list has the kind of each node
abbrev pub AreKinds : Records → List ℕ → Type 0
AreKinds records kinds = (n : ℕ) → kind_of kinds n ≡ kind_at records format.nodes_file n
