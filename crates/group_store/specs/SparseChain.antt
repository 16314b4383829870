-- What a test of the chain of a sparse node finds.
use Rattle.std.specs.Prelude.{◌≡◌, ◌≢◌, ℕ, ◌<◌, ◌≤◌, true, None, List, length}
use Rattle.rec_bytes.specs.declared.damage.Damage.{Damage}
use Rattle.rec_bytes.specs.declared.fault.Fault.{Fault}
use Rattle.rec_bytes.specs.declared.fault.Fault.TheVariants.{Memory, Disk, Damaged}
use Rattle.rec_bytes.specs.Format as format
use Rattle.rec_bytes.specs.Space.{State}
use Rattle.rel_store.specs.Loading as rels
use Rattle.row_store.specs.Loading.{IsRowDamage}
use Rattle.store_rules.specs.Breaking.{IsHeadChain}
use Rattle.store_rules.specs.Chains.{In, IsWalk}
use Rattle.store_rules.specs.Rules.{degree_of, node_head, stands_in}
use Rattle.store_rules.specs.Views.{Records, high, rel_at}
use Rattle.chain_edit.specs.Chains.{next_of, prev_of}
use Rattle.group_store.specs.Raising.{degree_damage}
use Rattle.group_store.specs.Spreading.{rels_damage}

-- the relationship is in use, is at the node, and has this one before it
pub record IsMet (records : Records) (node before at : ℕ) : Type 0 where
  pub stands : stands_in node (rel_at records at) ≡ true
  pub back : prev_of records node at ≡ before

-- so it is, and that one comes after it
pub record IsStep (records : Records) (node before at next : ℕ) : Type 0 where
  pub met : IsMet records node before at
  pub on : next_of records node at ≡ next

-- A relationship that a link leads to isn't met so, or it can't be read.
pub data IsStepDamage (s : State) (node before at : ℕ) : Damage → Type 0 where
  NotMet : ¬ IsMet s.records node before at → IsStepDamage s node before at (rels_damage node)
  BadRow : (damage : Damage) → IsRowDamage format.relationships_file s at damage
      → IsStepDamage s node before at damage

abbrev pub IsStepFault : State → ℕ → ℕ → ℕ → Fault → Type 0
IsStepFault s node before at Memory = Unit {0}
IsStepFault s node before at Disk = Unit {0}
IsStepFault s node before at (Damaged damage) = IsStepDamage s node before at damage

-- the links lead from the first on through at most so many relationships in use to an end
pub record HasChain (records : Records) (node first count : ℕ) : Type 0 where
  pub members : List ℕ
  pub walk : IsWalk (next_of records node) first members
  pub live : (x : ℕ) → In x members → rel_at records x ≢ None
  pub few : length members ≤ count

-- each of these relationships can be read
abbrev pub AreReadable : State → List ℕ → Type 0
AreReadable s xs = (x : ℕ) → In x xs → rels.IsReadable s x

-- The sparse node has no right chain, or more relationships than this, or a record of one can't be
-- read.
pub data IsSparseDamage (s : State) (node count : ℕ) : Damage → Type 0 where
  NoChain : ((members : List ℕ) → ¬ IsHeadChain s.records (node_head node) node members)
      → IsSparseDamage s node count (rels_damage node)
  MoreThanSaid : count
      < degree_of (rel_at s.records) (high s.records format.relationships_file) node
      → IsSparseDamage s node count (degree_damage node)
  BadRelationship : (x : ℕ) (damage : Damage)
      → IsRowDamage format.relationships_file s x damage → IsSparseDamage s node count damage

abbrev pub IsSparseFault : State → ℕ → ℕ → Fault → Type 0
IsSparseFault s node count Memory = Unit {0}
IsSparseFault s node count Disk = Unit {0}
IsSparseFault s node count (Damaged damage) = IsSparseDamage s node count damage
