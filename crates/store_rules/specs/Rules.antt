-- The rules of a well-formed store, over its records. Parameters stand for what holds in the middle
-- of a change.
use Rattle.std.specs.Prelude.{◌≡◌, ◌≢◌, ◌⊎◌, ℕ, ◌-◌, ◌<◌, ◌≤◌, nat_eq, Bool, true, false, ◌&&◌, not}
use Rattle.std.specs.Prelude.{cond, Option, None, Some, List, [], ◌∷◌, length}
use Rattle.rec_bytes.specs.declared.record.Rec.{Rec}
use Rattle.rec_bytes.specs.declared.key.Key.{Key}
use Rattle.rec_bytes.specs.declared.shape.Shape.{Shape}
use Rattle.rec_bytes.specs.Format as format
use Rattle.rec_bytes.specs.RecordFiles.{is_meta_file}
use Rattle.rec_bytes.specs.Record.{field}
use Rattle.rec_bytes.specs.Space.{State, meta_in}
use Rattle.plain_graph.specs.Names.{IsShortName}
use Rattle.store_rules.specs.Chains.{In, IsChain, IsWalk, next_in, prev_in}
use Rattle.store_rules.specs.Ranges.{AreInRange, is_reused}
use Rattle.store_rules.specs.Rows.{ids}
use Rattle.store_rules.specs.Views.{GroupRow, NodeRow, Records, RelRow, degree, first_link}
use Rattle.store_rules.specs.Views.{group_at, high, is_at, is_live, key_in, kind_at, node_at}
use Rattle.store_rules.specs.Views.{rec_at, rel_at, text_of}

-- ---- the second rule: what is not in use is on the free list, and the count is exact

-- the free identifier after one
abbrev pub next_free : Records → ℕ → ℕ → ℕ
next_free records file x = field 4 (rec_at records file x) format.free_next

-- The free list of a file is these, and they are just the identifiers below the mark that aren't
-- live.
pub record IsSplit (records : Records) (file : ℕ) (live : ℕ → Bool) (free : List ℕ) : Type 0 where
  pub walk : IsWalk (next_free records file) (meta_in records file).free free
  pub low : (x : ℕ) → In x free → x < high records file
  pub only : (x : ℕ) → In x free → live x ≡ false
  pub all : (x : ℕ) → x < high records file → live x ≡ false → In x free
  pub exact : (meta_in records file).live ≡ length (ids live (high records file))

-- names are never given back
abbrev pub AreAllLive : Records → ℕ → Type 0
AreAllLive records file = (meta_in records file).live ≡ high records file

-- ---- the third rule: the chains of each node list just the relationships at it

-- the place of a first link: a record, and the place in it
pub record Head : Type 0 where
  pub key : Key
  pub field : ℕ

abbrev pub first_of : Records → Head → ℕ
first_of records head = field 4 (records head.key) head.field

-- the chain that begins at the head, by the links of the node, has these members, each of which
-- stands there
pub record IsListed (records : Records) (head : Head) (node : ℕ) (at : ℕ → Type 0) : Type 0 where
  pub members : List ℕ
  pub chain : IsChain (λ x. next_in (rec_at records format.relationships_file x) node)
      (λ x. prev_in (rec_at records format.relationships_file x) node) format.nil
      (first_of records head) members
  pub only : (x : ℕ) → In x members → at x
  pub all : (x : ℕ) → at x → In x members

-- each head that a node owns lists what stands at it
pub record AllListed (records : Records) (owns : Head → ℕ → Type 0)
    (at : Head → ℕ → Type 0) : Type 0 where
  pub each : (head : Head) (node : ℕ) → owns head node → IsListed records head node (at head)

abbrev pub node_head : ℕ → Head
node_head n = record { key = key_in format.nodes_file n; field = format.node_first_link }

-- the one head of a sparse node
pub record SparseHead (kind : ℕ → ℕ) (h : Head) (n : ℕ) : Type 0 where
  pub sparse : kind n ≡ format.sparse
  pub is : h ≡ node_head n

-- a head in a group of a dense node
pub record GroupHead (kind : ℕ → ℕ) (groups : ℕ → Option GroupRow) (h : Head) (n : ℕ) : Type 0 where
  pub dense : kind n ≡ format.dense
  pub row : GroupRow
  pub group : groups row.id ≡ Some row
  pub owner : row.owner ≡ n
  pub key : h.key ≡ key_in format.groups_file row.id
  pub field : (h.field ≡ format.group_first_out)
      ⊎ ((h.field ≡ format.group_first_in) ⊎ (h.field ≡ format.group_first_loop))

abbrev pub Owns : (ℕ → ℕ) → (ℕ → Option GroupRow) → Head → ℕ → Type 0
Owns kind groups h n = SparseHead kind h n ⊎ GroupHead kind groups h n

-- the node is the source or the target
abbrev pub IsEnd : ℕ → RelRow → Type 0
IsEnd n row = (row.from ≡ n) ⊎ (row.to ≡ n)

-- the relationship has the group's type, and this direction at its owner
pub record IsInGroup (groups : ℕ → Option GroupRow) (h : Head) (rel : RelRow) : Type 0 where
  pub row : GroupRow
  pub group : groups h.key.id ≡ Some row
  pub label : rel.label ≡ row.label
  pub side : ((h.field ≡ format.group_first_out) × (rel.from ≡ row.owner) × (rel.to ≢ row.owner))
      ⊎ (((h.field ≡ format.group_first_in) × (rel.from ≢ row.owner) × (rel.to ≡ row.owner))
      ⊎ ((h.field ≡ format.group_first_loop) × (rel.from ≡ row.owner) × (rel.to ≡ row.owner)))

abbrev pub IsOn : (ℕ → Option GroupRow) → Head → RelRow → Type 0
IsOn groups h rel =
    ((h.key.file ≡ format.nodes_file) × IsEnd h.key.id rel)
    ⊎ ((h.key.file ≡ format.groups_file) × IsInGroup groups h rel)

-- a relationship in use that stands at the head
pub record StandsAt (rels : ℕ → Option RelRow)
    (groups : ℕ → Option GroupRow) (h : Head) (x : ℕ) : Type 0 where
  pub row : RelRow
  pub live : rels x ≡ Some row
  pub on : IsOn groups h row

-- both ends are nodes
pub record HasEnds (kind : ℕ → ℕ) (row : RelRow) : Type 0 where
  pub from : kind row.from ≢ format.free_kind
  pub to : kind row.to ≢ format.free_kind

-- the node has a group of the type
pub record HasGroup (groups : ℕ → Option GroupRow) (n type : ℕ) : Type 0 where
  pub row : GroupRow
  pub group : groups row.id ≡ Some row
  pub owner : row.owner ≡ n
  pub label : row.label ≡ type

-- The ends are nodes, a dense one of which has a group for the relationship, and each head lists
-- what stands at it.
pub record IsLinked (records : Records) (kind : ℕ → ℕ) (rels : ℕ → Option RelRow)
    (groups : ℕ → Option GroupRow) : Type 0 where
  pub ends : (x : ℕ) (row : RelRow) → rels x ≡ Some row → HasEnds kind row
  pub typed : (x n : ℕ) (row : RelRow) → rels x ≡ Some row → IsEnd n row → kind n ≡ format.dense
      → HasGroup groups n row.label
  pub listed : AllListed records (Owns kind groups) (StandsAt rels groups)

-- ---- the fourth rule: each group is on its owner's chain

-- one of its chains has a relationship
abbrev pub is_filled : Rec → Bool
is_filled r =
    not (nat_eq (field 4 r format.group_first_out) format.nil
    && (nat_eq (field 4 r format.group_first_in) format.nil
    && nat_eq (field 4 r format.group_first_loop) format.nil))

-- The groups of a node, from the first on. Each has a type of its own and a relationship, but those
-- that may be empty.
pub record HasGroups (first n : ℕ) (group_file : ℕ → Rec) (groups : ℕ → Option GroupRow)
    (empty : List ℕ) : Type 0 where
  pub members : List ℕ
  pub chain : IsChain (λ g. field 4 (group_file g) format.group_next)
      (λ g. field 4 (group_file g) format.group_previous) format.nil first members
  pub only : (g : ℕ) → In g members → (row : GroupRow) × (groups g ≡ Some row) × (row.owner ≡ n)
  pub filled : (g : ℕ) → In g members → (is_filled (group_file g) ≡ true) ⊎ In g empty
  pub all : (g : ℕ) (row : GroupRow) → groups g ≡ Some row → row.owner ≡ n → In g members
  pub once : (g k : ℕ) → In g members → In k members
      → field 4 (group_file g) format.group_type ≡ field 4 (group_file k) format.group_type → g ≡ k

pub record IsGrouped (kind first : ℕ → ℕ) (group_file : ℕ → Rec) (groups : ℕ → Option GroupRow)
    (empty : List ℕ) : Type 0 where
  pub owned : (g : ℕ) (row : GroupRow) → groups g ≡ Some row → kind row.owner ≡ format.dense
  pub each : (n : ℕ) → kind n ≡ format.dense → HasGroups (first n) n group_file groups empty

-- the relationship has the type of the group, and leaves its owner for another node
abbrev pub is_out_of : GroupRow → RelRow → Bool
is_out_of group rel =
    nat_eq rel.label group.label
    && (nat_eq rel.from group.owner && not (nat_eq rel.to group.owner))

-- it enters the owner from another node
abbrev pub is_into : GroupRow → RelRow → Bool
is_into group rel =
    nat_eq rel.label group.label
    && (not (nat_eq rel.from group.owner) && nat_eq rel.to group.owner)

-- it does both
abbrev pub is_loop_of : GroupRow → RelRow → Bool
is_loop_of group rel =
    nat_eq rel.label group.label && (nat_eq rel.from group.owner && nat_eq rel.to group.owner)

abbrev pub passes : (RelRow → Bool) → Option RelRow → Bool
passes test None = false
passes test (Some row) = test row

-- how many of the relationships below the mark pass a test
abbrev pub count_of : (RelRow → Bool) → (ℕ → Option RelRow) → ℕ → ℕ
count_of test rels mark = length (ids (λ x. passes test (rels x)) mark)

-- the numbers of a counted group are those of the relationships in its chains
pub record HasCounts (r : Rec) (group : GroupRow) (rels : ℕ → Option RelRow) (mark : ℕ)
    : Type 0 where
  pub out : field 4 r format.group_out_count ≡ count_of (is_out_of group) rels mark
  pub into : field 4 r format.group_in_count ≡ count_of (is_into group) rels mark
  pub loops : field 4 r format.group_loop_count ≡ count_of (is_loop_of group) rels mark

abbrev pub AreExact : (ℕ → ℕ) → (ℕ → Rec) → (ℕ → Option GroupRow) → (ℕ → Option RelRow) → ℕ
    → Type 0
AreExact group_kind group_file groups rels mark =
    (g : ℕ) (row : GroupRow) → groups g ≡ Some row → group_kind g ≡ format.counted
    → HasCounts (group_file g) row rels mark

-- ---- the fifth rule: properties and blocks are each in the list of one owner

-- An owner is a file and an identifier, with the first of its list where it is in use. Each record
-- in use is in the list of one owner, and the lists have records in use alone.
pub record AreHeld (owner : ℕ → ℕ → Option ℕ) (next : ℕ → ℕ) (live : ℕ → Bool) : Type 0 where
  pub lists : ℕ → ℕ → List ℕ
  pub walk : (file x first : ℕ) → owner file x ≡ Some first → IsWalk next first (lists file x)
  pub only : (file x first p : ℕ) → owner file x ≡ Some first → In p (lists file x) → live p ≡ true
  pub held : (p : ℕ) → live p ≡ true
      → (file : ℕ) × (x : ℕ) × (first : ℕ) × ((owner file x ≡ Some first) × In p (lists file x))
  pub once : (file x first other y second p : ℕ) → owner file x ≡ Some first
      → owner other y ≡ Some second → In p (lists file x) → In p (lists other y)
      → (file ≡ other) × (x ≡ y)

-- the first property of a node or relationship in use
abbrev pub node_first : Option NodeRow → Option ℕ
node_first None = None
node_first (Some row) = Some row.property

abbrev pub rel_first : Option RelRow → Option ℕ
rel_first None = None
rel_first (Some row) = Some row.property

-- the owners of properties
abbrev pub property_owner : (ℕ → Option NodeRow) → (ℕ → Option RelRow) → ℕ → ℕ → Option ℕ
property_owner nodes rels file x =
    cond (nat_eq file format.nodes_file) (node_first (nodes x))
    (cond (nat_eq file format.relationships_file) (rel_first (rels x)) None)

-- the owners of blocks: the properties with a text in blocks
abbrev pub block_owner : (ℕ → ℕ) → (ℕ → Rec) → ℕ → ℕ → Option ℕ
block_owner kind property_file file x =
    cond (nat_eq file format.properties_file && nat_eq (kind x) format.text_in_blocks)
    (Some (field 4 (property_file x) format.property_first_block))
    None

-- keys are names, no key comes twice among an owner's properties, and there are at most 32
pub record HaveKeys (owner : ℕ → ℕ → Option ℕ) (lists : ℕ → ℕ → List ℕ)
    (property_file : ℕ → Rec) (names : ℕ) : Type 0 where
  pub few : (file x first : ℕ) → owner file x ≡ Some first → length (lists file x) ≤ 32
  pub named : (file x first p : ℕ) → owner file x ≡ Some first → In p (lists file x)
      → field 4 (property_file p) format.property_key < names
  pub distinct : (file x first p q : ℕ) → owner file x ≡ Some first → In p (lists file x)
      → In q (lists file x)
      → field 4 (property_file p) format.property_key
      ≡ field 4 (property_file q) format.property_key → p ≡ q

-- the pieces of a text of so many bytes: all but the last have 48
abbrev pub ArePieces : (ℕ → ℕ) → ℕ → List ℕ → Type 0
ArePieces size n [] = n ≡ 0
ArePieces size n (b ∷ []) = (size b ≡ n) × (0 < n) × (n ≤ 48)
ArePieces size n (b ∷ c ∷ rest) = (size b ≡ 48) × (48 < n) × ArePieces size (n - 48) (c ∷ rest)

pub record HaveTexts (owner : ℕ → ℕ → Option ℕ)
    (lists : ℕ → ℕ → List ℕ) (property_file string_file : ℕ → Rec) : Type 0 where
  pub pieces : (file x first : ℕ) → owner file x ≡ Some first
      → ArePieces (λ b. field 1 (string_file b) format.block_length)
      (field 2 (property_file x) format.property_length) (lists file x)

-- What the fifth rule reads of the two files: kinds, records, and which are in use.
pub record PropertyFiles : Type 0 where
  pub kind : ℕ → ℕ
  pub property : ℕ → Rec
  pub string : ℕ → Rec
  pub property_live : ℕ → Bool
  pub string_live : ℕ → Bool

abbrev pub property_files : Records → PropertyFiles
property_files records = record {
  kind = kind_at records format.properties_file;
  property = rec_at records format.properties_file;
  string = rec_at records format.strings_file;
  property_live = is_live records format.properties_file;
  string_live = is_live records format.strings_file;
}

-- properties and blocks are held, by so many names
pub record HaveProperties (files : PropertyFiles) (nodes : ℕ → Option NodeRow)
    (rels : ℕ → Option RelRow) (names : ℕ) : Type 0 where
  pub held : AreHeld (property_owner nodes rels)
      (λ p. field 4 (files.property p) format.property_next) files.property_live
  pub keys : HaveKeys (property_owner nodes rels) held.lists files.property names
  pub blocks : AreHeld (block_owner files.kind files.property)
      (λ b. field 4 (files.string b) format.block_next) files.string_live
  pub texts : HaveTexts
      (block_owner files.kind files.property) blocks.lists files.property files.string

-- labels and types are names
pub record AreNamed (nodes : ℕ → Option NodeRow)
    (rels : ℕ → Option RelRow) (names : ℕ) : Type 0 where
  pub nodes_named : (x : ℕ) (row : NodeRow) → nodes x ≡ Some row → row.label < names
  pub rels_named : (x : ℕ) (row : RelRow) → rels x ≡ Some row → row.label < names

-- the label and the key of each definition of an index are names
pub record AreDefined (kind : ℕ → ℕ) (index_file : ℕ → Rec) (names : ℕ) : Type 0 where
  pub labels : (d : ℕ) → kind d ≡ format.definition
      → field 4 (index_file d) format.definition_label < names
  pub keys : (d : ℕ) → kind d ≡ format.definition
      → field 4 (index_file d) format.definition_key < names

-- ---- the sixth rule: names have their form, and none comes twice

pub record AreNames (name_file : ℕ → Rec) (names : ℕ) : Type 0 where
  pub form : (x : ℕ) → x < names → IsShortName (text_of (name_file x))
  pub distinct : (x y : ℕ) → x < names → y < names → text_of (name_file x) ≡ text_of (name_file y)
      → x ≡ y

-- ---- the seventh rule: degrees are exact

abbrev pub stands_in : ℕ → Option RelRow → Bool
stands_in n None = false
stands_in n (Some row) = is_at n row

-- how many of the relationships below the mark are at the node; a loop counts once
abbrev pub degree_of : (ℕ → Option RelRow) → ℕ → ℕ → ℕ
degree_of rels mark n = length (ids (λ x. stands_in n (rels x)) mark)

-- Degrees are exact, and a sparse node has at most so many relationships.
pub record AreCounted (kind degrees : ℕ → ℕ)
    (rels : ℕ → Option RelRow) (mark most : ℕ) : Type 0 where
  pub each : (n : ℕ) → kind n ≢ format.free_kind → degrees n ≡ degree_of rels mark n
  pub few : (n : ℕ) → kind n ≡ format.sparse → degrees n ≤ most

-- ---- what each says of records

abbrev pub KeepsLinks : Records → Type 0
KeepsLinks records =
    IsLinked records (kind_at records format.nodes_file) (rel_at records) (group_at records)

-- these groups may be empty
abbrev pub KeepsGroups : Records → List ℕ → Type 0
KeepsGroups records empty =
    IsGrouped (kind_at records format.nodes_file) (first_link records)
    (rec_at records format.groups_file) (group_at records) empty

abbrev pub KeepsCounts : Records → Type 0
KeepsCounts records =
    AreExact (kind_at records format.groups_file) (rec_at records format.groups_file)
    (group_at records) (rel_at records) (high records format.relationships_file)

abbrev pub KeepsProperties : Records → Type 0
KeepsProperties records =
    HaveProperties (property_files records) (node_at records) (rel_at records)
    (high records format.names_file)

abbrev pub KeepsLabels : Records → Type 0
KeepsLabels records =
    AreNamed (node_at records) (rel_at records) (high records format.names_file)

abbrev pub KeepsDefinitions : Records → Type 0
KeepsDefinitions records =
    AreDefined (kind_at records format.index_file) (rec_at records format.index_file)
    (high records format.names_file)

abbrev pub KeepsNames : Records → Type 0
KeepsNames records = AreNames (rec_at records format.names_file) (high records format.names_file)

-- so many relationships a sparse node may have
abbrev pub KeepsDegrees : Records → ℕ → Type 0
KeepsDegrees records most =
    AreCounted (kind_at records format.nodes_file) (degree records) (rel_at records)
    (high records format.relationships_file) most

-- ---- these rules together; the eighth, of the indexes, stands beside them

-- The first seven rules of a store of this shape. So many relationships a sparse node may have, and
-- these groups may be empty.
pub record KeepsRules (records : Records) (shape : Shape) (most : ℕ) (empty : List ℕ)
    : Type 0 where
  pub ranges : AreInRange records shape
  pub split : (file : ℕ) → is_reused file ≡ true
      → (free : List ℕ) × IsSplit records file (is_live records file) free
  pub kept : (file : ℕ) → is_meta_file file ≡ true → is_reused file ≡ false
      → AreAllLive records file
  pub linked : KeepsLinks records
  pub grouped : KeepsGroups records empty
  pub exact : KeepsCounts records
  pub properties : KeepsProperties records
  pub named : KeepsLabels records
  pub defined : KeepsDefinitions records
  pub names : KeepsNames records
  pub degrees : KeepsDegrees records most

-- the records of a well-formed store of this shape, whatever its indexes are
abbrev pub IsWellFormed : Records → Shape → Type 0
IsWellFormed records shape = KeepsRules records shape shape.threshold []

-- so are the records of a space
abbrev pub IsWhole : State → Type 0
IsWhole s = IsWellFormed s.records s.shape
