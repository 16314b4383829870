-- An edge that is deleted.
use Rattle.std.specs.Prelude.{◌≡◌, ◌≢◌, ◌⊎◌, ℕ, ◌+◌, ◌<◌, ◌≤◌, ◌∷◌, ◌++◌, List, Some, length}
use Rattle.plain_graph.specs.Graph.{RemovesEdge}
use Rattle.rec_bytes.specs.declared.damage.Damage.{Damage}
use Rattle.rec_bytes.specs.declared.key.Key.{Key}
use Rattle.rec_bytes.specs.declared.fault.Fault.TheVariants as faults
use Rattle.rec_bytes.specs.Format as format
use Rattle.rec_bytes.specs.Record.{field}
use Rattle.rec_bytes.specs.RecordFiles.{meta_key_of}
use Rattle.rec_bytes.specs.Space.{State, WritesOnly, meta_of}
use Rattle.rel_store.specs.RelRecord.{range_damage, rel_key}
use Rattle.rel_store.specs.declared.rel_row.RelRow.{RelRow}
use Rattle.store_rules.specs.Breaking.{HasChains, IsInChain, IsOnChain}
use Rattle.store_rules.specs.Chains.{In}
use Rattle.store_rules.specs.Ends.{Regroups}
use Rattle.store_rules.specs.Graph.{graph_in, names_of}
use Rattle.store_rules.specs.PropertyChange.{Apart}
use Rattle.store_rules.specs.Rules.{Head, KeepsRules, Owns, StandsAt}
use Rattle.store_rules.specs.Views as views
use Rattle.store_rules.specs.Views.{Records, degree, first_link, group_at, is_group_kind}
use Rattle.store_rules.specs.Views.{is_live, kind_at}
use Rattle.store_rules.specs.Views.{node_at, rec_at, rel_at}
use Rattle.store_rules.specs.Writes.{AreOwn, meta_keys}
use Rattle.chain_edit.specs.Chains.{next_of, prev_of}
use Rattle.chain_edit.specs.Heads.{head_of}
use Rattle.chain_edit.specs.Links.{IsLinkDamage}
use Rattle.group_store.specs.Closing.{IsOwnChain}
use Rattle.group_store.specs.Dropping.{astray_damage}
use Rattle.group_store.specs.GroupChain.{next_group, previous_group}
use Rattle.group_store.specs.GroupRecord as group_records
use Rattle.group_store.specs.Links as links
use Rattle.group_store.specs.Loading.{HasNoKind, group_mark, group_room, mark_damage}
use Rattle.group_store.specs.Opening.{IsPlaced, IsSearchDamage, LacksGroupOn, end_damage}
use Rattle.group_store.specs.Twins.{HasTwin, IsGroupsDamage, IsPartFault}
use Rattle.group_store.specs.Walking.{chain_damage}
use Rattle.change_parts.specs.Damage.{IfBlames, IsBroken}
use Rattle.edge_changes.specs.EdgeEnds.{AtEach, end_groups, end_keys, source_of, target_of}
use Rattle.change_parts.specs.Degrees.{HasDegree}
use Rattle.change_parts.specs.Store.{IsMidway, KeepsIndexes}
use Rattle.change_parts.specs.declared.change_fault.ChangeFault.{ChangeFault}
use Rattle.edge_changes.specs.declared.edge_end.EdgeEnd.{EdgeEnd}
use Rattle.edge_changes.specs.declared.edge_end.Ends.{Ends}

-- The relationship stands at the head, which the node owns, and the node has so many relationships.
pub record StandsAtEnd (records : Records) (id : ℕ) (end : EdgeEnd) : Type 0 where
  pub owns : Owns (kind_at records format.nodes_file) (group_at records)
      (head_of end.head) end.node
  pub stands : StandsAt (rel_at records) (group_at records) (head_of end.head) id
  pub degree : HasDegree records end.node end.degree

-- The edge has these ends, and no properties.
pub record IsBareEdge (s : State) (id : ℕ) (ends : Ends EdgeEnd) : Type 0 where
  pub label : ℕ
  pub there : rel_at s.records id ≡ Some (record {
    id = id;
    label = label;
    from = (source_of ends).node;
    to = (target_of ends).node;
    property = format.nil;
  })
  pub stands : AtEach (StandsAtEnd s.records id) ends

-- the edge's record is this one, without properties
abbrev pub HasBareRow : Records → ℕ → RelRow → Type 0
HasBareRow records id rel =
    rel_at records id ≡ Some (record {
      id = id;
      label = rel.label;
      from = rel.from;
      to = rel.to;
      property = format.nil;
    })

-- Sparse nodes are sparse still, and dense ones dense.
abbrev pub KeepsKinds : State → State → Type 0
KeepsKinds s t =
    (n : ℕ) → kind_at t.records format.nodes_file n ≡ kind_at s.records format.nodes_file n

-- The edge stands at an end. A group of the end's node may have counts now.
pub record FindsEnd (s t : State) (names : List (List ℕ)) (id : ℕ) (end : EdgeEnd) : Type 0 where
  pub store : IsMidway t names
  pub indexes : KeepsIndexes s t
  pub stands : StandsAtEnd t.records id end
  pub kinds : KeepsKinds s t
  pub regroups : Regroups s t end.node

-- It stands at each, and the graph is the same.
pub record FindsEnds (s t : State) (names : List (List ℕ)) (id : ℕ) (ends : Ends EdgeEnd)
    : Type 0 where
  pub store : IsMidway t names
  pub bare : IsBareEdge t id ends
  pub kinds : KeepsKinds s t
  pub graph : graph_in t ≡ graph_in s
  pub indexes : KeepsIndexes s t

-- The store lacks the edge, and keeps the rules, but that the groups of the heads at its ends may
-- be empty.
pub record PartsEdge (s t : State) (kept : List (List ℕ)) (id : ℕ) (ends : Ends EdgeEnd)
    : Type 0 where
  pub keeps : KeepsRules t.records t.shape t.shape.threshold (end_groups ends)
  pub names : kept ≡ names_of t.records
  pub indexes : KeepsIndexes s t
  pub removes : RemovesEdge (graph_in s) id (graph_in t)
  pub nodes : (n : ℕ) → node_at t.records n ≡ node_at s.records n
  pub kinds : (n : ℕ) → kind_at t.records format.nodes_file n
      ≡ kind_at s.records format.nodes_file n
  pub groups : (g : ℕ) → group_at t.records g ≡ group_at s.records g
  pub rels : (x : ℕ) → x ≢ id → rel_at t.records x ≡ rel_at s.records x
  pub less : (n : ℕ) → ((source_of ends).node ≡ n) ⊎ ((target_of ends).node ≡ n)
      → degree t.records n + 1 ≡ degree s.records n
  pub as_before : (n : ℕ) → n ≢ (source_of ends).node → n ≢ (target_of ends).node
      → degree t.records n ≡ degree s.records n
  pub metas : (file : ℕ) → file ≢ format.relationships_file → meta_of t file ≡ meta_of s file

-- The records of the relationship and of its ends are all that became written, meta records aside.
pub record WritesEnds (old new : State) (id : ℕ) (ends : Ends EdgeEnd) : Type 0 where
  pub before_source : ℕ
  pub after_source : ℕ
  pub before_target : ℕ
  pub after_target : ℕ
  pub only : WritesOnly old new (rel_key id ∷ end_keys before_source after_source (source_of ends)
      ++ end_keys before_target after_target (target_of ends) ++ meta_keys)

-- So are those of the relationship, of the heads at its ends, and of at most ten others.
pub record WritesTaken (old new : State) (id : ℕ) (ends : Ends EdgeEnd) : Type 0 where
  pub keys : List Key
  pub few : length keys ≤ 10
  pub own : AreOwn keys
  pub only : WritesOnly old new (rel_key id ∷ (source_of ends).head.key
      ∷ (target_of ends).head.key ∷ keys ++ meta_keys)

-- No relationship of this number is in use.
abbrev pub IsUnusedEdge : Records → ℕ → Type 0
IsUnusedEdge records id = kind_at records format.relationships_file id ≡ format.free_kind

-- The store lacks the edge.
pub record TakesEdge (s t : State) (names : List (List ℕ)) (id : ℕ) : Type 0 where
  pub store : IsMidway t names
  pub indexes : KeepsIndexes s t
  pub removes : RemovesEdge (graph_in s) id (graph_in t)
  pub kinds : KeepsKinds s t

-- ---- which record is blamed

-- The node has no chain for a relationship of the type: it isn't in use, or it is dense and no
-- group on its chain has the type.
abbrev pub LacksChain : State → ℕ → ℕ → Type 0
LacksChain s node label =
    (kind_at s.records format.nodes_file node ≡ format.free_kind)
    ⊎ LacksGroupOn s.records node label

-- What is told where an end of a relationship of the type is looked for breaks the rule, and a
-- search for its head tells it. Or it is the relationship, for which the node has no chain.
abbrev pub IsSoughtDamage : State → ℕ → ℕ → ℕ → Damage → Type 0
IsSoughtDamage s id node label damage =
    (IsBroken s damage × IsSearchDamage s node damage)
    ⊎ ((damage ≡ end_damage id) × LacksChain s node label)

abbrev pub BlamesEnd : State → ℕ → ℕ → ℕ → ChangeFault → Type 0
BlamesEnd s id node label fault = IfBlames (IsSoughtDamage s id node label) fault

-- which record is blamed where the edge is taken out of the chain at a head of the node
abbrev pub IsCutDamage : State → Head → ℕ → ℕ → Damage → Type 0
IsCutDamage s head node id damage = IsPartFault s head node id (faults.Damaged damage)

-- a link of the edge in a chain of the node leads nowhere
abbrev pub IsEdgeLink : State → ℕ → ℕ → Damage → Type 0
IsEdgeLink s id node damage =
    IsLinkDamage s (prev_of s.records node id) (range_damage id) damage
    ⊎ IsLinkDamage s (next_of s.records node id) (range_damage id) damage

-- so it is at one of the two ends
abbrev pub IsEndLink : State → ℕ → ℕ → ℕ → Damage → Type 0
IsEndLink s id from to damage = IsEdgeLink s id from damage ⊎ IsEdgeLink s id to damage

-- Both ends have chains, and the relationship isn't in a right one of each.
pub record IsStray (records : Records) (id from to : ℕ) : Type 0 where
  pub source : HasChains records from
  pub target : HasChains records to
  pub out : IsInChain records from id → ¬ IsInChain records to id

-- The node's links don't lead through its groups, or two of these have one type.
abbrev pub IsGroupedDamage : State → ℕ → Damage → Type 0
IsGroupedDamage s node damage = IsGroupsDamage s node damage
    ⊎ ((damage ≡ chain_damage node) × (g : ℕ) × IsOnChain s.records node g
    × HasTwin s.records node g)

-- Which record is blamed where an edge is taken out of the chains of its ends: the edge, of which a
-- link leads nowhere, or which isn't in them; or an end, whose groups break their rule.
abbrev pub IsPartedDamage : State → ℕ → ℕ → ℕ → Damage → Type 0
IsPartedDamage s id from to damage = IsEndLink s id from to damage
    ⊎ (((damage ≡ end_damage id) × IsStray s.records id from to)
    ⊎ (IsGroupedDamage s from damage ⊎ IsGroupedDamage s to damage))

-- the row of the edge, with this first property
abbrev pub with_property : ℕ → RelRow → ℕ → views.RelRow
with_property id rel property = record {
  id = id;
  label = rel.label;
  from = rel.from;
  to = rel.to;
  property = property;
}

-- the edge's record is this one, whatever its properties are
abbrev pub HasRow : Records → ℕ → RelRow → Type 0
HasRow records id rel =
    (property : ℕ) × (rel_at records id ≡ Some (with_property id rel property))

-- an edge of this row stands at the end's head, where a chain of its node begins
abbrev pub HasPlace : Records → views.RelRow → EdgeEnd → Type 0
HasPlace records row end = IsPlaced records (head_of end.head) end.node row

-- The edge has this row and these ends.
pub record IsPlacedEdge (records : Records) (id : ℕ) (row : views.RelRow) (ends : Ends EdgeEnd)
    : Type 0 where
  pub live : rel_at records id ≡ Some row
  pub source : (source_of ends).node ≡ row.from
  pub target : (target_of ends).node ≡ row.to
  pub places : AtEach (HasPlace records row) ends

-- The groups of dense nodes, and how they are linked, are told as they were.
pub record KeepsGroups (s t : State) : Type 0 where
  pub shape : t.shape ≡ s.shape
  pub kinds : (n : ℕ) → kind_at t.records format.nodes_file n
      ≡ kind_at s.records format.nodes_file n
  pub first : (n : ℕ) → kind_at s.records format.nodes_file n ≡ format.dense
      → first_link t.records n ≡ first_link s.records n
  pub mark : group_mark t ≡ group_mark s
  pub numbers : (g n at : ℕ) → at + n ≤ format.group_first_out
      → field n (rec_at t.records format.groups_file g) at
      ≡ field n (rec_at s.records format.groups_file g) at

-- No record is other but those of properties and blocks, and the meta records of their files. Of
-- the edge's own the place of its first property is, and of groups the kind and the numbers. Each
-- group is in use as it was, and of a kind that groups have as it was.
pub record LeavesEdge (s t : State) (id : ℕ) : Type 0 where
  pub shape : t.shape ≡ s.shape
  pub others : (key : Key) → key.file ≢ format.properties_file → key.file ≢ format.strings_file
      → key ≢ meta_key_of format.properties_file → key ≢ meta_key_of format.strings_file
      → key.file ≢ format.groups_file → key ≢ rel_key id → t.records key ≡ s.records key
  pub own : (n at : ℕ) → at + n ≤ format.record_bytes
      → Apart n at 4 format.relationship_first_property
      → field n (t.records (rel_key id)) at ≡ field n (s.records (rel_key id)) at
  pub groups : (g n at : ℕ) → 1 ≤ at → at + n ≤ format.group_out_count
      → field n (rec_at t.records format.groups_file g) at
      ≡ field n (rec_at s.records format.groups_file g) at
  pub used : (g : ℕ) → is_group_kind (kind_at t.records format.groups_file g)
      ≡ is_group_kind (kind_at s.records format.groups_file g)
  pub live : (g : ℕ) → is_live t.records format.groups_file g
      ≡ is_live s.records format.groups_file g

-- The node is dense, and the group is in use at it.
pub record HasGroup (records : Records) (node g : ℕ) : Type 0 where
  pub dense : kind_at records format.nodes_file node ≡ format.dense
  pub row : views.GroupRow
  pub group : group_at records g ≡ Some row
  pub owner : row.owner ≡ node

-- The group breaks the rule that it would be dropped by: its record is of no kind, a link of it
-- leads nowhere, more groups are counted than there is room for, or it is in no chain of groups of
-- the node alone.
pub data IsUndropped (s : State) (node g : ℕ) : Damage → Type 0 where
  NoKind : g < group_mark s → HasNoKind s.records g
      → IsUndropped s node g (group_records.range_damage g)
  BadLink : (link : ℕ) → (link ≡ previous_group s.records g) ⊎ (link ≡ next_group s.records g)
      → (damage : Damage) → links.IsLinkDamage s link (group_records.range_damage g) damage
      → IsUndropped s node g damage
  HighMark : group_room s < group_mark s → IsUndropped s node g mark_damage
  Astray : ((xs : List ℕ) → IsOwnChain s.records node xs → ¬ In g xs)
      → IsUndropped s node g (astray_damage g)

-- so it is with a group of a dense node
abbrev pub IsUndroppedDamage : State → Damage → Type 0
IsUndroppedDamage s damage =
    (node : ℕ) × (g : ℕ) × HasGroup s.records node g × IsUndropped s node g damage

-- A record that is blamed where an edge that had this row is taken out of its chains. It is found
-- where its ends are looked for, or where it is taken out, in a space that differs from what it was
-- in no more than properties, blocks and numbers of groups. Or a group of an end, which would be
-- empty then, isn't dropped: it broke the rule in such a space.
pub data IsTakenDamage (s : State) (id : ℕ) (rel : RelRow) : Damage → Type 0 where
  Sought : (damage : Damage) (node : ℕ) (mid : State) → (node ≡ rel.from) ⊎ (node ≡ rel.to)
      → LeavesEdge s mid id → IsSoughtDamage mid id node rel.label damage
      → IsTakenDamage s id rel damage
  Parted : (damage : Damage) (mid : State) → LeavesEdge s mid id
      → IsPartedDamage mid id rel.from rel.to damage → IsTakenDamage s id rel damage
  Undropped : (damage : Damage) (mid : State) → LeavesEdge s mid id
      → IsUndroppedDamage mid damage → IsTakenDamage s id rel damage
