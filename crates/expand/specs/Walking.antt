-- What walks of several chains of a node find.
use Rattle.std.specs.Prelude.{◌≡◌, ℕ, ◌<◌, ◌≤◌, ◌&&◌, nat_eq, if◌then◌else◌, Bool, List}
use Rattle.std.specs.Prelude.{[], ◌∷◌, ◌++◌, length, map}
use Rattle.plain_graph.specs.declared.direction.Direction.{Direction}
use Rattle.rec_bytes.specs.declared.damage.Damage.{Damage}
use Rattle.rec_bytes.specs.declared.fault.Fault.{Fault}
use Rattle.rec_bytes.specs.declared.fault.Fault.TheVariants as faults
use Rattle.rec_bytes.specs.Format as format
use Rattle.rec_bytes.specs.Space.{State}
use Rattle.store_rules.specs.Chains.{In}
use Rattle.store_rules.specs.Views.{Records, first_link, kind_at}
use Rattle.rel_store.specs.declared.edge_row.EdgeRow.{EdgeRow}
use Rattle.rel_store.specs.Loading.{rel_mark}
use Rattle.chain_edit.specs.Chains.{IsChainFrom}
use Rattle.chain_edit.specs.Walking.{edge_at}
use Rattle.group_store.specs.declared.group_row.GroupRow.{GroupRow}
use Rattle.group_store.specs.Walking.{HasGroupRows}
use Rattle.group_store.specs.Walking as groups
use Rattle.expand.specs.declared.first_links.FirstLink.{FirstLink}
use Rattle.expand.specs.FirstLinks.{first_links}

-- The links of the node lead from each first one to an end and back, and these are met, one chain
-- after the other.
abbrev pub AreWalks : Records → ℕ → List ℕ → List ℕ → Type 0
AreWalks records node [] xs = xs ≡ []
AreWalks records node (first ∷ firsts) xs =
    (ys zs : List ℕ) × IsChainFrom records node first ys × AreWalks records node firsts zs
    × (xs ≡ ys ++ zs)

-- these are met by the links of the node, and all of them were given out, each once
pub record AreSoundWalks (s : State) (node : ℕ) (firsts : List ℕ) (budget : ℕ) (xs : List ℕ)
    : Type 0 where
  pub walks : AreWalks s.records node firsts xs
  pub few : length xs ≤ budget
  pub low : (x : ℕ) → In x xs → x < rel_mark s

-- the rows are those of what is met, in this order
pub record HaveWalked (s : State) (node : ℕ) (firsts : List ℕ) (rows : List EdgeRow) : Type 0 where
  pub members : List ℕ
  pub walks : AreWalks s.records node firsts members
  pub are : rows ≡ map (edge_at s.records) members

-- The node is dense, and the links are those of chains of its groups.
pub record AreOfGroups (s : State) (node : ℕ) (links : List FirstLink) : Type 0 where
  pub dense : kind_at s.records format.nodes_file node ≡ format.dense
  pub groups : List GroupRow
  pub listed : HasGroupRows s.records node (first_link s.records node) groups
  pub direction : Direction
  pub labels : List ℕ
  pub are : links ≡ first_links direction labels groups

-- ---- which record is damaged

-- the chains of the group break the third rule
abbrev pub chains_damage : ℕ → Damage
chains_damage group = record { file = format.groups_file; id = group; rule = 3 }

-- Where a group is damaged by its chain, the node is if it has two groups of one type.
abbrev pub chain_blamed : ℕ → Bool → Damage → Damage
chain_blamed node twins damage =
    if nat_eq damage.rule 3 && twins then groups.chain_damage node else damage

abbrev pub with_node : ℕ → Bool → Fault → Fault
with_node node twins faults.Memory = faults.Memory
with_node node twins faults.Disk = faults.Disk
with_node node twins (faults.Damaged damage) = faults.Damaged (chain_blamed node twins damage)
