-- What a walk of a chain finds.
use Rattle.std.specs.Prelude.{◌≡◌, ◌≢◌, ℕ, ◌<◌, ◌≤◌, List, length, map}
use Rattle.rec_bytes.specs.declared.damage.Damage.{Damage}
use Rattle.rec_bytes.specs.declared.key.Key.{Key}
use Rattle.rec_bytes.specs.Format.{nil, relationships_file}
use Rattle.rec_bytes.specs.Space.{State, after_gets}
use Rattle.store_rules.specs.Chains.{In, IsChain}
use Rattle.store_rules.specs.Views.{Records, rec_at}
use Rattle.rel_store.specs.declared.edge_row.EdgeRow.{EdgeRow}
use Rattle.rel_store.specs.Loading.{mark_damage, rel_mark, rel_room}
use Rattle.rel_store.specs.RelRecord.{edge_of}
use Rattle.chain_edit.specs.Chains.{next_of, prev_of}
use Rattle.rec_bytes.specs.declared.fault.Fault.{Fault}
use Rattle.rec_bytes.specs.declared.fault.Fault.TheVariants.{Memory, Disk, Damaged}

-- the row of a relationship's record
abbrev pub edge_at : Records → ℕ → EdgeRow
edge_at records x = edge_of (rec_at records relationships_file x) x

-- These are met from a relationship on, by the links of the node. The first leads back to the one
-- that was met before, each other to the one before it, and all of them were given out.
pub record IsSoundFrom (s : State) (node before from budget : ℕ) (xs : List ℕ) : Type 0 where
  pub chain : IsChain (next_of s.records node) (prev_of s.records node) before from xs
  pub few : length xs ≤ budget
  pub low : (x : ℕ) → In x xs → x < rel_mark s

-- so they are from the first relationship of a chain on
abbrev pub IsSoundWalk : State → ℕ → ℕ → ℕ → List ℕ → Type 0
IsSoundWalk s first node budget xs = IsSoundFrom s node nil first budget xs

-- the rows are those of what is met, in this order
pub record HasWalked (s : State) (first node budget : ℕ) (rows : List EdgeRow) : Type 0 where
  pub members : List ℕ
  pub sound : IsSoundWalk s first node budget members
  pub are : rows ≡ map (edge_at s.records) members

-- at most so many reads, and nothing else
pub record ReadsAtMost (most : ℕ) (old new : State) : Type 0 where
  pub count : ℕ
  pub within : count ≤ most
  pub is : new ≡ after_gets count old

-- the chain that the record has the first link of breaks the third rule
abbrev pub chain_damage : Key → Damage
chain_damage owner = record { file = owner.file; id = owner.id; rule = 3 }

-- The record that is said to be damaged breaks the rule. The link leads to no relationship, or to
-- one that doesn't lead back, or the meta record counts more than there is room for.
pub data IsStepDamage (s : State) (owner : Key) (node before at : ℕ) : Damage → Type 0 where
  NoStep : (at < rel_mark s → prev_of s.records node at ≢ before)
      → IsStepDamage s owner node before at (chain_damage owner)
  HighLink : rel_room s < rel_mark s → IsStepDamage s owner node before at mark_damage

abbrev pub IsStepFault : State → Key → ℕ → ℕ → ℕ → Fault → Type 0
IsStepFault s owner node before at Memory = Unit {0}
IsStepFault s owner node before at Disk = Unit {0}
IsStepFault s owner node before at (Damaged damage) = IsStepDamage s owner node before at damage

-- The record that is said to be damaged breaks the rule. The chain doesn't end within the budget,
-- leads nowhere or isn't linked both ways, or the meta record counts more relationships than there
-- is room for.
pub data IsWalkDamage (s : State) (owner : Key) (first node budget : ℕ) : Damage → Type 0 where
  NoWalk : ((xs : List ℕ) → ¬ IsSoundWalk s first node budget xs)
      → IsWalkDamage s owner first node budget (chain_damage owner)
  HighMark : rel_room s < rel_mark s → IsWalkDamage s owner first node budget mark_damage

abbrev pub IsWalkFault : State → Key → ℕ → ℕ → ℕ → Fault → Type 0
IsWalkFault s owner first node budget Memory = Unit {0}
IsWalkFault s owner first node budget Disk = Unit {0}
IsWalkFault s owner first node budget (Damaged damage) =
    IsWalkDamage s owner first node budget damage
