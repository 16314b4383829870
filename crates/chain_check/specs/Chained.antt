-- The groups that are seen on group chains.
use Rattle.std.specs.Prelude.{◌≡◌, ◌⊎◌, ℕ, Bool, true, List}
use Rattle.std.specs.Bool.{Decides}
use Rattle.rec_bytes.specs.Format as format
use Rattle.rec_bytes.specs.Record.{field}
use Rattle.store_rules.specs.Breaking.{IsOnChain, IsOnOwnChain}
use Rattle.store_rules.specs.Views.{Records, rec_at}
use Rattle.record_lists.specs.Seen.{is_seen}

-- the group after one
abbrev pub next_group : Records → ℕ → ℕ
next_group records g = field 4 (rec_at records format.groups_file g) format.group_next

-- the groups on the chain of the node become seen, and no others
abbrev pub SeesChain : Records → ℕ → List Bool → List Bool → Type 0
SeesChain records node old new =
    (g : ℕ) → Decides (is_seen new g) ((is_seen old g ≡ true) ⊎ IsOnChain records node g)

-- just the groups that are on the chains of their owners are seen
abbrev pub SeesChains : Records → List Bool → Type 0
SeesChains records seen = (g : ℕ) → Decides (is_seen seen g) (IsOnOwnChain records g)
