-- A store in which one node's relationships are on their way into its groups.
use Rattle.std.specs.Prelude.{◌≡◌, ◌≢◌, ℕ, ◌+◌, ◌*◌, ◌≤◌, nat_eq, true, false, cond}
use Rattle.std.specs.Prelude.{Option, None}
use Rattle.std.specs.Prelude.{Some, List, length}
use Rattle.std.specs.List.{list_any}
use Rattle.chain_edit.specs.Chains.{next_of}
use Rattle.node_store.specs.NodeRecord.{node_key}
use Rattle.group_store.specs.declared.side.Side.{Side}
use Rattle.group_store.specs.Counting.{count_place}
use Rattle.group_store.specs.GroupChain.{IsDense, IsGroupChain, group_field, next_group, type_of}
use Rattle.group_store.specs.Leaving.{IsLowLink, KeepsOrLeads, LeavesOthers}
use Rattle.group_store.specs.Opening.{IsAt}
use Rattle.group_store.specs.Sides.{group_head, place_of}
use Rattle.id_freelist.specs.Taking.{CanTake}
use Rattle.rec_bytes.specs.declared.damage.Damage.{Damage}
use Rattle.rec_bytes.specs.declared.shape.Shape.{Shape}
use Rattle.rec_bytes.specs.Format as format
use Rattle.rec_bytes.specs.Record.{field, with_field}
use Rattle.rec_bytes.specs.RecordFiles.{is_meta_file, room_of}
use Rattle.rec_bytes.specs.Space.{State, after_get, after_put, meta_of}
use Rattle.store_rules.specs.Breaking.{IsHeadChain}
use Rattle.store_rules.specs.Chains.{In, IsWalk}
use Rattle.store_rules.specs.Ends.{Regroups}
use Rattle.store_rules.specs.Ranges.{AreInRange, is_reused}
use Rattle.store_rules.specs.Rules.{AllListed, AreAllLive, HasCounts, HasEnds, HasGroup, Head}
use Rattle.store_rules.specs.Rules.{IsEnd, IsSplit, KeepsDefinitions, KeepsDegrees, KeepsGroups}
use Rattle.store_rules.specs.Rules.{KeepsLabels, KeepsNames, KeepsProperties, Owns, StandsAt}
use Rattle.store_rules.specs.Rules.{first_of}
use Rattle.store_rules.specs.Views.{GroupRow, Records, RelRow, first_link, group_at, high, is_live}
use Rattle.store_rules.specs.Views.{kind_at, rec_at, rel_at}

-- ---- the rules, but that some relationships are in none of the node's groups

-- all rules but the third and the fourth
pub record KeepsOthers (records : Records) (shape : Shape) (most : ℕ) : Type 0 where
  pub ranges : AreInRange records shape
  pub split : (file : ℕ) → is_reused file ≡ true
      → (free : List ℕ) × IsSplit records file (is_live records file) free
  pub kept : (file : ℕ) → is_meta_file file ≡ true → is_reused file ≡ false
      → AreAllLive records file
  pub properties : KeepsProperties records
  pub named : KeepsLabels records
  pub defined : KeepsDefinitions records
  pub names : KeepsNames records
  pub degrees : KeepsDegrees records most

-- the head is that of a chain of one of the node's groups
pub record IsHeadOf (groups : ℕ → Option GroupRow) (node : ℕ) (h : Head) : Type 0 where
  pub file : h.key.file ≡ format.groups_file
  pub row : GroupRow
  pub group : groups h.key.id ≡ Some row
  pub owner : row.owner ≡ node

-- a relationship in use that stands at the head, unless it is one of these and the head the node's
pub record StandsBut (rels : ℕ → Option RelRow) (groups : ℕ → Option GroupRow) (node : ℕ)
    (rest : List ℕ) (h : Head) (x : ℕ) : Type 0 where
  pub stands : StandsAt rels groups h x
  pub apart : IsHeadOf groups node h → ¬ In x rest

-- the third rule, but that these relationships are in none of the node's groups
pub record IsLinkedBut (records : Records) (kind : ℕ → ℕ) (rels : ℕ → Option RelRow)
    (groups : ℕ → Option GroupRow) (node : ℕ) (rest : List ℕ) : Type 0 where
  pub ends : (x : ℕ) (row : RelRow) → rels x ≡ Some row → HasEnds kind row
  pub typed : (x n : ℕ) (row : RelRow) → rels x ≡ Some row → IsEnd n row → kind n ≡ format.dense
      → (n ≡ node → ¬ In x rest) → HasGroup groups n row.label
  pub listed : AllListed records (Owns kind groups) (StandsBut rels groups node rest)

-- The rules of a store of this shape, but that these relationships are in none of the node's
-- groups. So many relationships a sparse node may have, and these groups may be empty.
pub record KeepsBut (records : Records) (shape : Shape) (node : ℕ) (rest : List ℕ) (most : ℕ)
    (empty : List ℕ) : Type 0 where
  pub others : KeepsOthers records shape most
  pub linked : IsLinkedBut records (kind_at records format.nodes_file) (rel_at records)
      (group_at records) node rest
  pub grouped : KeepsGroups records empty

-- ---- the numbers of counted groups

-- the relationships but these
abbrev pub left_out : List ℕ → (ℕ → Option RelRow) → ℕ → Option RelRow
left_out rest rels x = cond (list_any (nat_eq x) rest) None (rels x)

-- those that the groups of an owner count: of this node all but these
abbrev pub counted_rels : ℕ → List ℕ → (ℕ → Option RelRow) → ℕ → ℕ → Option RelRow
counted_rels node rest rels owner = cond (nat_eq owner node) (left_out rest rels) rels

-- the numbers of counted groups are exact, but that these relationships are in none of the node's
abbrev pub AreExactBut : Records → ℕ → List ℕ → Type 0
AreExactBut records node rest = (g : ℕ) (row : GroupRow) → group_at records g ≡ Some row
    → kind_at records format.groups_file g ≡ format.counted
    → HasCounts (rec_at records format.groups_file g) row
    (counted_rels node rest (rel_at records) row.owner) (high records format.relationships_file)

-- each group of the node is counted
abbrev pub HasCountedGroups : Records → ℕ → Type 0
HasCountedGroups records node = (g : ℕ) (row : GroupRow) → group_at records g ≡ Some row
    → row.owner ≡ node → kind_at records format.groups_file g ≡ format.counted

-- ---- a group that is found or made

-- The node has the group of the type, and nothing but its groups changed. Numbers that were exact
-- but for these relationships are so.
pub record HasOpened (s t : State) (node label id : ℕ) (rest : List ℕ) : Type 0 where
  pub group : group_at t.records id ≡ Some (record { id = id; label = label; owner = node })
  pub dense : kind_at t.records format.nodes_file node ≡ format.dense
  pub regroups : Regroups s t node
  pub leaves : LeavesOthers s t node
  pub rels : (x : ℕ) → rec_at t.records format.relationships_file x
      ≡ rec_at s.records format.relationships_file x
  pub exact : AreExactBut s.records node rest → AreExactBut t.records node rest
  pub counted : HasCountedGroups s.records node → HasCountedGroups t.records node

-- ---- a relationship that comes into its group

-- The node is dense, and these are its relationships that are in no group of it. Its links lead
-- through them from this one on. Its groups count the others.
pub record IsSpread (s : State) (node at : ℕ) (rest : List ℕ) (most : ℕ) (empty : List ℕ)
    : Type 0 where
  pub keeps : KeepsBut s.records s.shape node rest most empty
  pub dense : kind_at s.records format.nodes_file node ≡ format.dense
  pub walk : IsWalk (next_of s.records node) at rest
  pub ends : (x : ℕ) → In x rest
      → (row : RelRow) × (rel_at s.records x ≡ Some row) × IsEnd node row
  pub exact : AreExactBut s.records node rest
  pub counted : HasCountedGroups s.records node

-- the file of groups has room for one at each end of each relationship besides those that are empty
abbrev pub HasEndRoom : State → List ℕ → Type 0
HasEndRoom s empty =
    2 * (meta_of s format.relationships_file).live + length empty
    ≤ room_of s.shape format.groups_file

-- after a node became dense and has no group
abbrev pub cleared : State → ℕ → State
cleared s node =
    let rec = s.records (node_key node) in
    after_put (after_get s) (node_key node)
    (with_field 4 (with_field 1 rec format.kind format.dense) format.node_first_link format.nil)

-- ---- the same by what the node has alone, whatever other records are

-- a relationship in use at the node, of the type and on the side
pub record IsMember (records : Records) (node label : ℕ) (side : Side) (x : ℕ) : Type 0 where
  pub row : RelRow
  pub live : rel_at records x ≡ Some row
  pub at : IsAt node label side row

-- The chain on one side of the group has just those of these relationships that are of its type and
-- on that side, and the group says how many.
pub record HasSide (records : Records) (node : ℕ) (came : List ℕ) (g : ℕ) (side : Side)
    : Type 0 where
  pub members : List ℕ
  pub list : IsHeadChain records (group_head g side) node members
  pub are : (x : ℕ) → In x members
      → In x came × IsMember records node (type_of records g) side x
  pub all : (x : ℕ) → In x came → IsMember records node (type_of records g) side x → In x members
  pub count : field 4 (rec_at records format.groups_file g) (count_place (place_of side))
      ≡ length members

-- The node is dense and has just these groups, linked both ways, each counted and with a type of
-- its own, which one of these relationships has. Each of them is in a chain of its type's group.
pub record HasSpread (records : Records) (node : ℕ) (groups came : List ℕ) : Type 0 where
  pub dense : IsDense records node
  pub chain : IsGroupChain records node groups
  pub counted : (g : ℕ) → In g groups → kind_at records format.groups_file g ≡ format.counted
  pub typed : (g : ℕ) → In g groups → (x : ℕ) × (side : Side)
      × (In x came × IsMember records node (type_of records g) side x)
  pub placed : (x : ℕ) → In x came → (g : ℕ) × (side : Side)
      × (In g groups × IsMember records node (type_of records g) side x)
  pub sides : (g : ℕ) → In g groups → (side : Side) → HasSide records node came g side

-- The links from the node on lead to these groups, each in use, or to none. The links from their
-- heads lead to these relationships that came, or to none.
pub record LeadsAmong (records : Records) (node : ℕ) (came groups : List ℕ) : Type 0 where
  pub first : In (first_link records node) groups
  pub next : (g : ℕ) → In g groups → g ≢ format.nil → In (next_group records g) groups
  pub used : (g : ℕ) → In g groups → g ≢ format.nil
      → kind_at records format.groups_file g ≢ format.free_kind
  pub heads : (g : ℕ) → In g groups → g ≢ format.nil → (side : Side)
      → In (first_of records (group_head g side)) came
  pub no_group : In format.nil groups
  pub no_rel : In format.nil came

-- The links from the node on lead through just these groups of it, each counted.
pub record HasCountedList (records : Records) (node : ℕ) : Type 0 where
  pub members : List ℕ
  pub walk : IsWalk (next_group records) (first_link records node) members
  pub counted : (g : ℕ) → In g members
      → kind_at records format.groups_file g ≡ format.counted
  pub owner : (g : ℕ) → In g members → group_field records format.group_owner g ≡ node

-- So they do. Their chains are empty, or begin at relationships that were given out.
pub record HasSpreadList (records : Records) (node : ℕ) : Type 0 where
  pub list : HasCountedList records node
  pub came : List ℕ
  pub groups : List ℕ
  pub leads : LeadsAmong records node came groups
  pub low : (x : ℕ) → In x came → IsLowLink records x

-- The head is of a group of the dense node that is as it was, or its chain begins at a relationship
-- that was given out, or is empty. Where the node had such a list before, its chain does.
pub record OpensHead (s t : Records) (node : ℕ) (head : Head) : Type 0 where
  pub dense : IsDense s node → KeepsOrLeads s t head
  pub spread : HasSpreadList s node → IsLowLink t (first_of t head)

-- A group can be made of each of the free identifiers, one after another: all others below the mark
-- are counted.
pub record CanTakeEach (s : State) (free : List ℕ) : Type 0 where
  pub take : CanTake s format.groups_file free
  pub exact : (meta_of s format.groups_file).live + length free ≡ high s.records format.groups_file

-- These relationships came into these groups of the node, and its links lead through the rest from
-- this one on.
pub record IsSpreading (s : State) (node at : ℕ) (came rest groups free : List ℕ) : Type 0 where
  pub spread : HasSpread s.records node groups came
  pub take : CanTakeEach s free
  pub walk : IsWalk (next_of s.records node) at rest
  pub ends : (x : ℕ) → In x rest
      → (row : RelRow) × (rel_at s.records x ≡ Some row) × IsEnd node row
  pub apart : (x : ℕ) → In x rest → ¬ In x came

-- the relationships of the node break the third rule
abbrev pub rels_damage : ℕ → Damage
rels_damage node = record { file = format.nodes_file; id = node; rule = 3 }
