-- The rules of a well-formed store by their numbers, and which records break each.
use Rattle.std.specs.Prelude.{◌≡◌, ◌≢◌, ℕ, ◌<◌, Bool, true, false, List, length, Some, zero, suc}
use Rattle.std.specs.Prelude.{◌≤◌, ◌⊎◌, ◌||◌, [], nat_eq}
use Rattle.plain_graph.specs.Names.{IsShortName}
use Rattle.rec_bytes.specs.declared.damage.Damage.{Damage}
use Rattle.rec_bytes.specs.declared.shape.Shape.{Shape}
use Rattle.rec_bytes.specs.Format as format
use Rattle.rec_bytes.specs.MetaForm.{IsMetaRight}
use Rattle.rec_bytes.specs.RecordFiles.{is_meta_file, meta_key_of}
use Rattle.rec_bytes.specs.Record.{field}
use Rattle.rec_bytes.specs.Shape.{shape_of_record, version_of}
use Rattle.rec_bytes.specs.Space.{meta_in}
use Rattle.store_rules.specs.Chains.{In, IsChain, IsWalk, next_in, prev_in}
use Rattle.store_rules.specs.IndexBreaking.{IndexBreaks}
use Rattle.store_rules.specs.Indexes.{AreIndexed, indexed_key, indexed_label, wanted_in}
use Rattle.store_rules.specs.Ranges.{AreInRange, Fits, is_reused}
use Rattle.store_rules.specs.Rows.{ids}
use Rattle.store_rules.specs.Rules as rules
use Rattle.store_rules.specs.Views.{GroupRow, Records, RelRow, degree, first_link, group_at, high}
use Rattle.store_rules.specs.Views.{is_live, key_in, kind_at, node_at, rec_at, rel_at, text_of}
use Rattle.store_rules.specs.Rules.{KeepsCounts, KeepsDefinitions, KeepsDegrees, KeepsGroups}
use Rattle.store_rules.specs.Rules.{KeepsLabels, KeepsNames}

-- ---- what each rule says of the whole store

-- The second rule: in the files whose records are used again, what is not in use is on the free
-- list, and the count is exact; in the other all are in use.
pub record AreSplit (records : Records) : Type 0 where
  pub split : (file : ℕ) → is_reused file ≡ true
      → (free : List ℕ) × rules.IsSplit records file (is_live records file) free
  pub kept : (file : ℕ) → is_meta_file file ≡ true → is_reused file ≡ false
      → rules.AreAllLive records file

-- The fourth rule: each group is on its owner's chain, and the counts of counted ones are exact.
pub record AreGroups (records : Records) : Type 0 where
  pub grouped : KeepsGroups records []
  pub exact : KeepsCounts records

-- The fifth rule: properties and blocks are held, and keys, labels and types are names, those of
-- definitions too.
pub record AreProperties (records : Records) : Type 0 where
  pub properties : rules.HaveProperties (rules.property_files records) (node_at records)
      (rel_at records) (high records format.names_file)
  pub named : KeepsLabels records
  pub defined : KeepsDefinitions records

-- ---- what each rule says of one record

-- the first rule of the store's own record: it says the shape, and the newest version
pub record IsOwnRight (records : Records) (shape : Shape) : Type 0 where
  pub own : shape_of_record (records (meta_key_of format.meta_file)) ≡ Some shape
  pub newest : version_of (records (meta_key_of format.meta_file)) ≡ format.newest_version

-- the first rule of another record of the meta file
abbrev pub IsMetaKept : Records → Shape → ℕ → Type 0
IsMetaKept records shape id =
    IsMetaRight format.newest_version shape id (records (meta_key_of id))

-- The free list of a file is these: a walk, of records below the mark that are not in use.
pub record IsFreeList (records : Records) (file : ℕ) (free : List ℕ) : Type 0 where
  pub walk : IsWalk (rules.next_free records file) (meta_in records file).free free
  pub low : (x : ℕ) → In x free → x < high records file
  pub only : (x : ℕ) → In x free → is_live records file x ≡ false

-- the second rule of a meta record: there is a free list, and the count is exact
pub record HasFreeList (records : Records) (file : ℕ) : Type 0 where
  pub members : List ℕ
  pub list : IsFreeList records file members
  pub exact : (meta_in records file).live ≡ length (ids (is_live records file) (high records file))

-- the second rule of a record that is not in use: it is on the free list
pub record IsOnFreeList (records : Records) (file x : ℕ) : Type 0 where
  pub members : List ℕ
  pub list : IsFreeList records file members
  pub member : In x members

-- The node owns the head: its own where it is sparse, one of its groups where it is dense.
abbrev pub IsHeadOf : Records → rules.Head → ℕ → Type 0
IsHeadOf records head n =
    rules.Owns (kind_at records format.nodes_file) (group_at records) head n

abbrev pub IsGroupHeadOf : Records → rules.Head → ℕ → Type 0
IsGroupHeadOf records head n =
    rules.GroupHead (kind_at records format.nodes_file) (group_at records) head n

-- The chain at a head of a node is these relationships, each of which stands there.
pub record IsHeadChain (records : Records) (head : rules.Head) (n : ℕ) (members : List ℕ)
    : Type 0 where
  pub chain : IsChain (λ x. next_in (rec_at records format.relationships_file x) n)
      (λ x. prev_in (rec_at records format.relationships_file x) n) format.nil
      (rules.first_of records head) members
  pub only : (x : ℕ) → In x members → rules.StandsAt (rel_at records) (group_at records) head x

-- the third rule of a node: if it is sparse, it has a chain
pub record NodeKeeps (records : Records) (n : ℕ) : Type 0 where
  pub chain : kind_at records format.nodes_file n ≡ format.sparse
      → (members : List ℕ) × IsHeadChain records (rules.node_head n) n members

-- the place of a first link in a group
abbrev pub group_head : ℕ → ℕ → rules.Head
group_head g place = record { key = key_in format.groups_file g; field = place }

-- the third rule of a group: if it is in use at a dense node, it has its chains
pub record GroupKeeps (records : Records) (g : ℕ) : Type 0 where
  pub chains : (place n : ℕ) → IsGroupHeadOf records (group_head g place) n
      → (members : List ℕ) × IsHeadChain records (group_head g place) n members

-- the record of a group is in use, and the node owns it
pub record IsOwnedBy (records : Records) (node g : ℕ) : Type 0 where
  pub used : kind_at records format.groups_file g ≢ format.free_kind
  pub owner : field 4 (rec_at records format.groups_file g) format.group_owner ≡ node

-- The group is on the group chain of the dense node. That chain begins at the node's first link,
-- and goes on as long as it leads to groups in use that the node owns.
pub data IsOnChain (records : Records) (n : ℕ) : ℕ → Type 0 where
  First : (g : ℕ) → kind_at records format.nodes_file n ≡ format.dense
      → first_link records n ≡ g → IsOwnedBy records n g → IsOnChain records n g
  Next : (g k : ℕ) → IsOnChain records n g
      → field 4 (rec_at records format.groups_file g) format.group_next ≡ k
      → IsOwnedBy records n k → IsOnChain records n k

-- the group is on the group chain of its owner
abbrev pub IsOnOwnChain : Records → ℕ → Type 0
IsOnOwnChain records g = (n : ℕ) × IsOnChain records n g

-- a head in a group that is on the group chain of the node
pub record ChainedHead (records : Records) (head : rules.Head) (n : ℕ) : Type 0 where
  pub own : IsGroupHeadOf records head n
  pub on : IsOnChain records n own.row.id

-- A chain of the node begins at the head: its own where it is sparse, where it is dense one of the
-- groups on its group chain.
abbrev pub IsChainHead : Records → rules.Head → ℕ → Type 0
IsChainHead records head n =
    rules.SparseHead (kind_at records format.nodes_file) head n ⊎ ChainedHead records head n

-- the relationship is in a chain of the node
pub record IsInChain (records : Records) (n x : ℕ) : Type 0 where
  pub head : rules.Head
  pub owns : IsChainHead records head n
  pub members : List ℕ
  pub chain : IsHeadChain records head n members
  pub member : In x members

abbrev pub HasChains : Records → ℕ → Type 0
HasChains records n =
    (kind_at records format.nodes_file n ≡ format.sparse)
    ⊎ (kind_at records format.nodes_file n ≡ format.dense)

-- the third rule of one end of a relationship: it is a node, and the relationship is in one of its
-- chains
pub record EndKeeps (records : Records) (n x : ℕ) : Type 0 where
  pub node : kind_at records format.nodes_file n ≢ format.free_kind
  pub chain : HasChains records n → IsInChain records n x
  pub once : (one other : IsInChain records n x) → one.head ≡ other.head

-- the third rule of a record of a relationship: if it is in use, its ends keep it
pub record RelKeeps (records : Records) (x : ℕ) : Type 0 where
  pub from : (row : RelRow) → rel_at records x ≡ Some row → EndKeeps records row.from x
  pub to : (row : RelRow) → rel_at records x ≡ Some row → EndKeeps records row.to x

-- The third rule: nodes have their chains, and so have the groups on their group chains. Each
-- relationship is in one chain of each end.
pub record AreChained (records : Records) : Type 0 where
  pub nodes : (n : ℕ) → NodeKeeps records n
  pub groups : (g : ℕ) → IsOnOwnChain records g → GroupKeeps records g
  pub rels : (x : ℕ) → RelKeeps records x

abbrev pub group_label : Records → ℕ → ℕ
group_label records g = field 4 (rec_at records format.groups_file g) format.group_type

-- The group chain of a node is these: groups in use of the node, each with a relationship, and no
-- two of one type.
pub record IsGroupChain (records : Records) (n : ℕ) (members : List ℕ) : Type 0 where
  pub chain : IsChain (λ g. field 4 (rec_at records format.groups_file g) format.group_next)
      (λ g. field 4 (rec_at records format.groups_file g) format.group_previous) format.nil
      (first_link records n) members
  pub only : (g : ℕ) → In g members
      → (row : GroupRow) × (group_at records g ≡ Some row) × (row.owner ≡ n)
  pub filled : (g : ℕ) → In g members
      → rules.is_filled (rec_at records format.groups_file g) ≡ true
  pub once : (g k : ℕ) → In g members → In k members
      → group_label records g ≡ group_label records k → g ≡ k

-- the fourth rule of a node: if it is dense, it has a group chain
pub record OwnerKeeps (records : Records) (n : ℕ) : Type 0 where
  pub groups : kind_at records format.nodes_file n ≡ format.dense
      → (members : List ℕ) × IsGroupChain records n members

-- the node is dense, and the group is in its group chain
pub record IsGroupOf (records : Records) (n g : ℕ) : Type 0 where
  pub dense : kind_at records format.nodes_file n ≡ format.dense
  pub members : List ℕ
  pub groups : IsGroupChain records n members
  pub member : In g members

-- the fourth rule of a record of a group: if it is in use, its owner has it, and if it has counts,
-- they are exact
pub record MemberKeeps (records : Records) (g : ℕ) : Type 0 where
  pub owner : (row : GroupRow) → group_at records g ≡ Some row → IsGroupOf records row.owner g
  pub counts : (row : GroupRow) → group_at records g ≡ Some row
      → kind_at records format.groups_file g ≡ format.counted
      → rules.HasCounts (rec_at records format.groups_file g) row (rel_at records)
      (high records format.relationships_file)

-- the files of nodes and relationships
abbrev pub is_element_file : ℕ → Bool
is_element_file file = nat_eq file format.nodes_file || nat_eq file format.relationships_file

-- The first property of an element in use: a node or a relationship.
abbrev pub Owns : Records → ℕ → ℕ → ℕ → Type 0
Owns records file x first =
    rules.property_owner (node_at records) (rel_at records) file x ≡ Some first

abbrev pub next_property : Records → ℕ → ℕ
next_property records p = field 4 (rec_at records format.properties_file p) format.property_next

abbrev pub key_of : Records → ℕ → ℕ
key_of records p = field 4 (rec_at records format.properties_file p) format.property_key

-- The properties from a first one on are these: in use, few, and their keys are names, none twice.
pub record IsPropertyList (records : Records) (first : ℕ) (members : List ℕ) : Type 0 where
  pub walk : IsWalk (next_property records) first members
  pub live : (p : ℕ) → In p members → is_live records format.properties_file p ≡ true
  pub few : length members ≤ 32
  pub named : (p : ℕ) → In p members → key_of records p < high records format.names_file
  pub distinct : (p q : ℕ) → In p members → In q members → key_of records p ≡ key_of records q
      → p ≡ q

-- the label of a node or the type of a relationship, which stand at one place
abbrev pub label_of : Records → ℕ → ℕ → ℕ
label_of records file x = field 4 (rec_at records file x) format.node_label

-- the fifth rule of an element: it has its properties, and its label is a name
pub record ElementKeeps (records : Records) (file x : ℕ) : Type 0 where
  pub list : (first : ℕ) → Owns records file x first
      → (members : List ℕ) × IsPropertyList records first members
  pub named : is_live records file x ≡ true
      → label_of records file x < high records format.names_file

-- the fifth rule of a definition of an index: its label and its key are names
pub record DefinitionKeeps (records : Records) (d : ℕ) : Type 0 where
  pub label : kind_at records format.index_file d ≡ format.definition
      → indexed_label records d < high records format.names_file
  pub key : kind_at records format.index_file d ≡ format.definition
      → indexed_key records d < high records format.names_file

-- the property is among those from a first one on
pub record IsAmongProperties (records : Records) (first p : ℕ) : Type 0 where
  pub members : List ℕ
  pub list : IsPropertyList records first members
  pub member : In p members

-- an element has the property
pub record HasProperty (records : Records) (file x p : ℕ) : Type 0 where
  pub first : ℕ
  pub owns : Owns records file x first
  pub among : IsAmongProperties records first p

-- the fifth rule of a property: it is held by one element
pub record IsHeldOnce (records : Records) (p : ℕ) : Type 0 where
  pub held : is_live records format.properties_file p ≡ true
      → (file : ℕ) × (x : ℕ) × HasProperty records file x p
  pub once : (file x other y : ℕ) → HasProperty records file x p → HasProperty records other y p
      → (file ≡ other) × (x ≡ y)

abbrev pub next_block : Records → ℕ → ℕ
next_block records b = field 4 (rec_at records format.strings_file b) format.block_next

abbrev pub first_block : Records → ℕ → ℕ
first_block records p =
    field 4 (rec_at records format.properties_file p) format.property_first_block

abbrev pub block_size : Records → ℕ → ℕ
block_size records b = field 1 (rec_at records format.strings_file b) format.block_length

abbrev pub text_size : Records → ℕ → ℕ
text_size records p = field 2 (rec_at records format.properties_file p) format.property_length

-- The blocks of a property are these: in use, and pieces of its text.
pub record IsBlockList (records : Records) (p : ℕ) (members : List ℕ) : Type 0 where
  pub walk : IsWalk (next_block records) (first_block records p) members
  pub live : (b : ℕ) → In b members → is_live records format.strings_file b ≡ true
  pub pieces : rules.ArePieces (block_size records) (text_size records p) members

-- the property has its text in blocks
abbrev pub IsLong : Records → ℕ → Type 0
IsLong records p = kind_at records format.properties_file p ≡ format.text_in_blocks

-- the fifth rule of the text of a property: if it is in blocks, it has them
pub record TextKeeps (records : Records) (p : ℕ) : Type 0 where
  pub text : IsLong records p → (members : List ℕ) × IsBlockList records p members

-- a property has the block
pub record HasBlock (records : Records) (p b : ℕ) : Type 0 where
  pub long : IsLong records p
  pub members : List ℕ
  pub list : IsBlockList records p members
  pub member : In b members

-- the fifth rule of a block: it is held by one property
pub record IsBlockHeldOnce (records : Records) (b : ℕ) : Type 0 where
  pub held : is_live records format.strings_file b ≡ true → (p : ℕ) × HasBlock records p b
  pub once : (p q : ℕ) → HasBlock records p b → HasBlock records q b → p ≡ q

-- the text of a name
abbrev pub text_at : Records → ℕ → List ℕ
text_at records x = text_of (rec_at records format.names_file x)

-- the sixth rule of a name: it has its form, and no other name has its text
pub record NameKeeps (records : Records) (x : ℕ) : Type 0 where
  pub form : IsShortName (text_at records x)
  pub alone : (y : ℕ) → y < high records format.names_file
      → text_at records y ≡ text_at records x → y ≡ x

-- the seventh rule of a node: its degree is exact, and if it is sparse, at most the threshold
pub record DegreeKeeps (records : Records) (threshold n : ℕ) : Type 0 where
  pub exact : kind_at records format.nodes_file n ≢ format.free_kind
      → degree records n
      ≡ rules.degree_of (rel_at records) (high records format.relationships_file) n
  pub few : kind_at records format.nodes_file n ≡ format.sparse → degree records n ≤ threshold

-- ---- the rules by their numbers

-- the rule of this number
abbrev pub Keeps : Records → Shape → ℕ → Type 0
Keeps records shape zero = Unit {0}
Keeps records shape (suc zero) = AreInRange records shape
Keeps records shape (suc (suc zero)) = AreSplit records
Keeps records shape (suc (suc (suc zero))) = AreChained records
Keeps records shape (suc (suc (suc (suc zero)))) =
    AreGroups records
Keeps records shape (suc (suc (suc (suc (suc zero))))) = AreProperties records
Keeps records shape (suc (suc (suc (suc (suc (suc zero)))))) = KeepsNames records
Keeps records shape (suc (suc (suc (suc (suc (suc (suc zero))))))) =
    KeepsDegrees records shape.threshold
Keeps records shape (suc (suc (suc (suc (suc (suc (suc (suc zero)))))))) =
    AreIndexed records (wanted_in records)
Keeps records shape (suc (suc (suc (suc (suc (suc (suc (suc (suc n))))))))) = Unit {0}

-- ---- the records that break them

abbrev pub damage : ℕ → ℕ → ℕ → Damage
damage file id rule = record { file = file; id = id; rule = rule }

-- The record breaks one of the first seven rules: what the rule says of it is false.
pub data Breaks (records : Records) (shape : Shape) : Damage → Type 0 where
  OwnRecord : ¬ IsOwnRight records shape
      → Breaks records shape (damage format.meta_file format.own_id 1)
  WrongMeta : (id : ℕ) → id < format.meta_records → ¬ IsMetaKept records shape id
      → Breaks records shape (damage format.meta_file id 1)
  RecordRange : (file x : ℕ) → is_meta_file file ≡ true → x < high records file
      → ¬ Fits (high records) file (rec_at records file x)
      → Breaks records shape (damage file x 1)
  FreeList : (file : ℕ) → is_reused file ≡ true → ¬ HasFreeList records file
      → Breaks records shape (damage format.meta_file file 2)
  OffFreeList : (file x : ℕ) → is_reused file ≡ true → x < high records file
      → is_live records file x ≡ false → ¬ IsOnFreeList records file x
      → Breaks records shape (damage file x 2)
  NameCount : ¬ rules.AreAllLive records format.names_file
      → Breaks records shape (damage format.meta_file format.names_file 2)
  NodeChain : (n : ℕ) → n < high records format.nodes_file → ¬ NodeKeeps records n
      → Breaks records shape (damage format.nodes_file n 3)
  GroupChains : (g : ℕ) → g < high records format.groups_file → IsOnOwnChain records g
      → ¬ GroupKeeps records g
      → Breaks records shape (damage format.groups_file g 3)
  RelEnds : (x : ℕ) → x < high records format.relationships_file → ¬ RelKeeps records x
      → Breaks records shape (damage format.relationships_file x 3)
  OwnerGroups : (n : ℕ) → n < high records format.nodes_file → ¬ OwnerKeeps records n
      → Breaks records shape (damage format.nodes_file n 4)
  GroupOwner : (g : ℕ) → ¬ MemberKeeps records g
      → Breaks records shape (damage format.groups_file g 4)
  WrongElement : (file x : ℕ) → is_element_file file ≡ true → x < high records file
      → ¬ ElementKeeps records file x → Breaks records shape (damage file x 5)
  WrongHolding : (p : ℕ) → ¬ IsHeldOnce records p
      → Breaks records shape (damage format.properties_file p 5)
  WrongText : (p : ℕ) → p < high records format.properties_file → ¬ TextKeeps records p
      → Breaks records shape (damage format.properties_file p 5)
  WrongBlock : (b : ℕ) → ¬ IsBlockHeldOnce records b
      → Breaks records shape (damage format.strings_file b 5)
  WrongDefinition : (d : ℕ) → d < high records format.index_file → ¬ DefinitionKeeps records d
      → Breaks records shape (damage format.index_file d 5)
  WrongName : (x : ℕ) → x < high records format.names_file → ¬ NameKeeps records x
      → Breaks records shape (damage format.names_file x 6)
  WrongDegree : (n : ℕ) → n < high records format.nodes_file
      → ¬ DegreeKeeps records shape.threshold n
      → Breaks records shape (damage format.nodes_file n 7)

-- The record breaks one of all eight.
abbrev pub BreaksAny : Records → Shape → Damage → Type 0
BreaksAny records shape d = Breaks records shape d ⊎ IndexBreaks records d
