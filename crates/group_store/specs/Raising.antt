-- A group that gets the numbers of the relationships in its chains.
use Rattle.std.specs.Prelude.{◌≡◌, ◌≢◌, ◌⊎◌, ℕ, true, false, List, length}
use Rattle.rec_bytes.specs.declared.damage.Damage.{Damage}
use Rattle.rec_bytes.specs.declared.fault.Fault.{Fault}
use Rattle.rec_bytes.specs.declared.fault.Fault.TheVariants.{Memory, Disk, Damaged}
use Rattle.rec_bytes.specs.declared.record.Rec.{Rec}
use Rattle.rec_bytes.specs.Format as format
use Rattle.rec_bytes.specs.Record.{with_field}
use Rattle.rec_bytes.specs.Space.{State, after_get, after_put}
use Rattle.store_rules.specs.Breaking.{IsOnChain}
use Rattle.store_rules.specs.Ends.{Regroups}
use Rattle.store_rules.specs.Rules.{KeepsRules, first_of}
use Rattle.store_rules.specs.Views.{Records, group_at, kind_at}
use Rattle.chain_edit.specs.declared.members.Members.{Members}
use Rattle.chain_edit.specs.Walking.{IsSoundWalk, chain_damage}
use Rattle.rel_store.specs.Loading.{mark_damage}
use Rattle.group_store.specs.declared.group_row.GroupRow.{GroupRow}
use Rattle.group_store.specs.declared.raising.Counts.{Counts}
use Rattle.group_store.specs.declared.side.Side.{Side}
use Rattle.group_store.specs.declared.side.Side.TheVariants.{Out, In, Loop}
use Rattle.group_store.specs.GroupChain.{IsDense, IsGroupOf}
use Rattle.group_store.specs.GroupRecord.{group_key}
use Rattle.group_store.specs.Leaving.{IsLowLink, LeavesOthers}
use Rattle.group_store.specs.Sides.{group_head}
use Rattle.group_store.specs.Walking.{group_row_at}

-- the first link of a side's chain, as the group's row says it
abbrev pub first_in : GroupRow → Side → ℕ
first_in row Out = row.first_out
first_in row In = row.first_in
first_in row Loop = row.first_loop

-- which relationships stand in it
abbrev pub members_of : ℕ → Side → Members
members_of label Out = record { label = label; leaves = true; enters = false }
members_of label In = record { label = label; leaves = false; enters = true }
members_of label Loop = record { label = label; leaves = true; enters = true }

-- the chain from a relationship on has so many
abbrev pub HasLength : State → ℕ → ℕ → ℕ → Type 0
HasLength s node first n = (xs : List ℕ) × IsSoundWalk s first node n xs × (length xs ≡ n)

-- these are the numbers of the group's chains
pub record AreLengths (s : State) (node : ℕ) (row : GroupRow) (counts : Counts) : Type 0 where
  pub out : HasLength s node row.first_out counts.out
  pub into : HasLength s node row.first_in counts.into
  pub loops : HasLength s node row.first_loop counts.loops

-- a group's record with these numbers
abbrev pub raised : Rec → Counts → Rec
raised r counts =
    with_field 4 (with_field 4 (with_field 4 (with_field 1 r format.kind format.counted)
    format.group_out_count counts.out) format.group_in_count counts.into)
    format.group_loop_count counts.loops

-- after a group's record was read, and written again with them
abbrev pub raised_state : State → ℕ → Counts → State
raised_state s g counts =
    after_put (after_get s) (group_key g) (raised (s.records (group_key g)) counts)

-- the row is that of a group of the dense node, on its group chain
pub record IsGroupAt (s : State) (node : ℕ) (row : GroupRow) : Type 0 where
  pub dense : IsDense s.records node
  pub member : IsGroupOf s.records node row.id
  pub on : IsOnChain s.records node row.id
  pub is : row ≡ group_row_at s.records row.id

-- So it is in a store that keeps the rules, but that these groups may be empty.
pub record CanRaise (s : State) (node : ℕ) (row : GroupRow) (most : ℕ) (empty : List ℕ)
    : Type 0 where
  pub keeps : KeepsRules s.records s.shape most empty
  pub group : IsGroupAt s node row

-- The group has exact counts, and the store keeps the rules as it did.
pub record HasRaised (s t : State) (node g most : ℕ) (empty : List ℕ) : Type 0 where
  pub keeps : KeepsRules t.records t.shape most empty
  pub counted : kind_at t.records format.groups_file g ≡ format.counted
  pub kinds : (n : ℕ)
      → kind_at t.records format.nodes_file n ≡ kind_at s.records format.nodes_file n
  pub others : (k : ℕ) → k ≢ g
      → kind_at t.records format.groups_file k ≡ kind_at s.records format.groups_file k
  pub groups : (k : ℕ) → group_at t.records k ≡ group_at s.records k
  pub regroups : Regroups s t node
  pub leaves : LeavesOthers s t node

-- each chain of the group begins at a relationship that was given out, or is empty
abbrev pub LeadsLow : Records → ℕ → Type 0
LeadsLow records g = (side : Side) → IsLowLink records (first_of records (group_head g side))

-- the degree of the node isn't that of its relationships
abbrev pub degree_damage : ℕ → Damage
degree_damage node = record { file = format.nodes_file; id = node; rule = 7 }

-- Which record is said to be damaged where a group's relationships are counted: the group, by the
-- third rule, the node, by the seventh, or the meta record of the relationships, by the first.
abbrev pub IsCountDamage : ℕ → ℕ → Damage → Type 0
IsCountDamage node g damage = (damage ≡ chain_damage (group_key g))
    ⊎ ((damage ≡ degree_damage node) ⊎ (damage ≡ mark_damage))

abbrev pub IsCountFault : ℕ → ℕ → Fault → Type 0
IsCountFault node g Memory = Unit {0}
IsCountFault node g Disk = Unit {0}
IsCountFault node g (Damaged damage) = IsCountDamage node g damage
