-- The chains of nodes and of groups as lines, and the ends of relationships in them.
use Rattle.std.specs.Prelude.{◌≡◌, ◌≢◌, ◌⊎◌, ℕ, ◌+◌, ◌*◌, ◌/◌, ◌%◌, ◌≤◌, true, Bool, not, ◌&&◌}
use Rattle.std.specs.Prelude.{◌||◌, cond, nat_eq, List, length, map, Some}
use Rattle.std.specs.Bool.{Decides}
use Rattle.rec_bytes.specs.declared.record.Rec.{Rec}
use Rattle.rec_bytes.specs.Format as format
use Rattle.rec_bytes.specs.Record.{field}
use Rattle.store_rules.specs.Chains.{In, next_in, prev_in}
use Rattle.store_rules.specs.Rules.{Head, node_head}
use Rattle.store_rules.specs.Views.{RelRow, Records, high, kind_at, rec_at, rel_at}
use Rattle.chain_check.specs.declared.chains.Attached.{Attached}
use Rattle.chain_check.specs.declared.chains.ChainHeads.{ChainHeads}
use Rattle.chain_check.specs.declared.chains.GroupHeads.{GroupHeads}
use Rattle.chain_check.specs.declared.chains.Side.{Side}
use Rattle.chain_check.specs.declared.chains.Side.TheVariants.{Any, Into, Loop, Out}
use Rattle.record_lists.specs.declared.heads.Found.{Found}
use Rattle.record_lists.specs.declared.heads.Found.TheVariants.{Items, Missing, Nothing}
use Rattle.store_rules.specs.Breaking.{GroupKeeps, IsChainHead, IsHeadChain}
use Rattle.store_rules.specs.Breaking.{IsOnOwnChain, NodeKeeps}
use Rattle.store_rules.specs.Breaking.{group_head}
use Rattle.record_lists.specs.Lines.{IsLineIn, LineKind}
use Rattle.record_lists.specs.Seen.{is_seen}

abbrev pub leaves : Rec → ℕ → Bool
leaves r node = nat_eq (field 4 r format.relationship_source) node

abbrev pub enters : Rec → ℕ → Bool
enters r node = nat_eq (field 4 r format.relationship_target) node

abbrev pub has_label : Rec → ℕ → Bool
has_label r label = nat_eq (field 4 r format.relationship_type) label

-- a relationship with this record is on the side of the node
abbrev pub is_on : Side → ℕ → Rec → Bool
is_on Any node r = leaves r node || enters r node
is_on (Out label) node r = leaves r node && (not (enters r node) && has_label r label)
is_on (Into label) node r = not (leaves r node) && (enters r node && has_label r label)
is_on (Loop label) node r = leaves r node && (enters r node && has_label r label)

-- the record is a relationship in use there
abbrev pub is_of : Side → ℕ → Rec → Bool
is_of side node r = not (nat_eq (field 1 r format.kind) format.free_kind) && is_on side node r

-- the record is a relationship in use of the node
abbrev pub is_of_node : ℕ → Rec → Bool
is_of_node node r = is_of Any node r

-- the side of the chain that begins at a place of a group
abbrev pub side_at : ℕ → ℕ → Side
side_at place label =
    cond (nat_eq place format.group_first_out) (Out label)
    (cond (nat_eq place format.group_first_in) (Into label) (Loop label))

-- a chain of a node
abbrev pub chain_line : Side → ℕ → LineKind
chain_line side node = record {
  file = format.relationships_file;
  next = λ r. next_in r node;
  fits = λ before x r. is_of side node r && nat_eq (prev_in r node) before;
}

-- the number of an end of a relationship, the one at the node: of the source it is even
abbrev pub end_in : Rec → ℕ → ℕ → ℕ
end_in r node x = 2 * x + cond (leaves r node) 0 1

abbrev pub end_of : Records → ℕ → ℕ → ℕ
end_of records node x = end_in (rec_at records format.relationships_file x) node x

-- these are the ends in a line
pub record AreLineEnds (records : Records) (high : ℕ) (side : Side) (node first : ℕ)
    (ends : List ℕ) : Type 0 where
  pub members : List ℕ
  pub line : IsLineIn (chain_line side node) records high first members
  pub are : ends ≡ map (end_of records node) members

abbrev pub EndsFound : Records → ℕ → Side → ℕ → ℕ → Found → Type 0
EndsFound records high side node first Nothing = ⊥
EndsFound records high side node first Missing =
    (xs : List ℕ) → ¬ IsLineIn (chain_line side node) records high first xs
EndsFound records high side node first (Items v) =
    AreLineEnds records high side node first v.items

-- these are the ends in the chain at a head of a node
pub record AreHeadEnds (records : Records) (head : Head) (n : ℕ) (ends : List ℕ) : Type 0 where
  pub members : List ℕ
  pub chain : IsHeadChain records head n members
  pub are : ends ≡ map (end_of records n) members

abbrev pub IsSparse : Records → ℕ → Type 0
IsSparse records n = kind_at records format.nodes_file n ≡ format.sparse

abbrev pub IsDense : Records → ℕ → Type 0
IsDense records n = kind_at records format.nodes_file n ≡ format.dense

-- these are the ends in the chain of a sparse node
abbrev pub AreNodeEnds : Records → ℕ → List ℕ → Type 0
AreNodeEnds records n ends = AreHeadEnds records (node_head n) n ends

-- the mark is that of the records, and there are few rows
pub record AreChainHeads (heads : ChainHeads) (records : Records) : Type 0 where
  pub nodes : heads.nodes ≡ high records format.nodes_file
  pub few_nodes : high records format.nodes_file ≤ format.most_ids
  pub few_rows : length heads.rows.now ≤ format.most_ids

-- ---- the chains of groups: three heads a group, by ascending place

abbrev pub group_of : ℕ → ℕ
group_of id = id / 3

abbrev pub place_of : ℕ → ℕ
place_of id = format.group_first_out + 4 * (id % 3)

abbrev pub owner_at : Records → ℕ → ℕ
owner_at records g = field 4 (rec_at records format.groups_file g) format.group_owner

-- the group is in use and seen
pub record IsChained (chained : List Bool) (records : Records) (g : ℕ) : Type 0 where
  pub live : kind_at records format.groups_file g ≢ format.free_kind
  pub seen : is_seen chained g ≡ true

-- these are the ends in the chain of a group at this head
abbrev pub AreGroupEnds : Records → ℕ → List ℕ → Type 0
AreGroupEnds records id ends =
    AreHeadEnds records (group_head (group_of id) (place_of id)) (owner_at records (group_of id))
    ends

pub record AreGroupHeads (heads : GroupHeads) (records : Records) : Type 0 where
  pub groups : length heads.chained.now ≡ high records format.groups_file
  pub relationships : heads.relationships ≡ high records format.relationships_file
  pub few_groups : high records format.groups_file ≤ format.most_ids
  pub few_relationships : high records format.relationships_file ≤ format.most_ids

-- ---- what it says that they are seen

-- the end of this number is in a chain of its node
pub record IsMet (records : Records) (p : ℕ) : Type 0 where
  pub node : ℕ
  pub head : Head
  pub owns : IsChainHead records head node
  pub ends : List ℕ
  pub here : AreHeadEnds records head node ends
  pub member : In p ends

-- Nodes and the groups on group chains keep the third rule. The ends in their chains are seen,
-- each in one.
pub record AreMet (records : Records) (seen : List Bool) : Type 0 where
  pub nodes : (n : ℕ) → NodeKeeps records n
  pub groups : (g : ℕ) → IsOnOwnChain records g → GroupKeeps records g
  pub told : (p : ℕ) → Decides (is_seen seen p) (IsMet records p)
  pub once : (p : ℕ) (one other : IsMet records p) → one.head ≡ other.head

-- where nodes have these kinds, the end of a relationship is a node, and met in a chain
pub record EndHolds (kind : ℕ → ℕ) (n : ℕ) (met : Bool) : Type 0 where
  pub node : kind n ≢ format.free_kind
  pub chain : (kind n ≡ format.sparse) ⊎ (kind n ≡ format.dense) → met ≡ true

-- so it is of both ends of a relationship, if the record is one
pub record RelHolds (kind : ℕ → ℕ) (records : Records) (seen : List Bool) (x : ℕ) : Type 0 where
  pub from : (row : RelRow) → rel_at records x ≡ Some row
      → EndHolds kind row.from (is_seen seen (end_of records row.from x))
  pub to : (row : RelRow) → rel_at records x ≡ Some row
      → EndHolds kind row.to (is_seen seen (end_of records row.to x))

-- there are two bits for each relationship
pub record AreAttached (attached : Attached) (records : Records) : Type 0 where
  pub relationships : attached.relationships ≡ high records format.relationships_file
  pub few_relationships : high records format.relationships_file ≤ format.most_ids
  pub ends : length attached.seen.now ≡ 2 * high records format.relationships_file
