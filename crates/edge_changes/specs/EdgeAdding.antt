-- An edge that is added.
use Rattle.std.specs.Prelude.{◌≡◌, ◌⊎◌, ℕ, ◌+◌, ◌*◌, nat_eq, if◌then◌else◌, length}
use Rattle.rec_bytes.specs.declared.damage.Damage.{Damage}
use Rattle.rec_bytes.specs.Format as format
use Rattle.rec_bytes.specs.Key.{IsKey}
use Rattle.rec_bytes.specs.Space.{State}
use Rattle.store_rules.specs.Views.{Records, key_in}
use Rattle.id_freelist.specs.ListDamage.{IsListDamage}
use Rattle.group_store.specs.Densing.{IsSparse}
use Rattle.group_store.specs.GroupChain.{IsDense}
use Rattle.group_store.specs.Naming.{IsNoOther, IsOfMarks, IsUnread}
use Rattle.change_parts.specs.Damage.{IfBlames, IsAsFound, IsBroken}
use Rattle.edge_changes.specs.EdgeEnds.{AreApart, source_of, target_of}
use Rattle.change_parts.specs.Degrees.{HasDegree}
use Rattle.change_parts.specs.declared.change_fault.ChangeFault.{ChangeFault}
use Rattle.edge_changes.specs.declared.edge_end.EndDegree.{EndDegree}
use Rattle.edge_changes.specs.declared.edge_end.Ends.{Ends}
use Rattle.store_rules.specs.Graph.{graph_in}

-- as many edges as the store has room for
abbrev pub IsFullOfEdges : State → Type 0
IsFullOfEdges s = length (graph_in s).edges ≡ s.shape.limit

-- what both ends weigh by the degrees that they had
abbrev pub degree_weight : ℕ → ℕ → ℕ
degree_weight threshold degree = if nat_eq degree threshold then 2 * (threshold + 1) else 0

abbrev pub degrees_weight : ℕ → ℕ → ℕ → ℕ → ℕ → ℕ
degrees_weight threshold from from_degree to to_degree =
    degree_weight threshold from_degree
    + (if nat_eq from to then 0 else degree_weight threshold to_degree)

-- ---- the ends

-- the end is a node that there can be
abbrev pub IsNodeEnd : EndDegree → Type 0
IsNodeEnd end = IsKey (key_in format.nodes_file end.node)

-- its node has so many relationships
abbrev pub HasEndDegree : Records → EndDegree → Type 0
HasEndDegree records end = HasDegree records end.node end.degree

-- The ends are those of a relationship from one node to another; a loop has one.
pub record LeadFrom (ends : Ends EndDegree) (from to : ℕ) : Type 0 where
  pub leaves : (source_of ends).node ≡ from
  pub enters : (target_of ends).node ≡ to
  pub apart : AreApart (λ (end : EndDegree). end.node) ends

-- the node is in use, sparse or dense
abbrev pub IsUsedNode : State → ℕ → Type 0
IsUsedNode s node = IsDense s.records node ⊎ IsSparse s.records node

abbrev pub IsUsedEnd : State → EndDegree → Type 0
IsUsedEnd s end = IsUsedNode s end.node

-- ---- which record is blamed

-- the record is one of the file, or the file's meta record
abbrev pub IsOfFile : ℕ → Damage → Type 0
IsOfFile file damage =
    (damage.file ≡ file) ⊎ ((damage.file ≡ format.meta_file) × (damage.id ≡ file))

-- It is one of those that the chains of an edge between two nodes are made of: a relationship, a
-- group, the meta record of one of these files, or one of the nodes.
abbrev pub IsOfChains : ℕ → ℕ → Damage → Type 0
IsOfChains from to damage =
    IsOfFile format.relationships_file damage
    ⊎ (IsOfFile format.groups_file damage
    ⊎ ((damage.file ≡ format.nodes_file) × ((damage.id ≡ from) ⊎ (damage.id ≡ to))))

-- every other record is as it was
abbrev pub KeepsButChains : State → State → ℕ → ℕ → Type 0
KeepsButChains s t from to =
    (damage : Damage) → IsAsFound s t damage ⊎ IsOfChains from to damage

-- it is one of the nodes
abbrev pub IsOfNodes : ℕ → ℕ → Damage → Type 0
IsOfNodes from to damage =
    (damage.file ≡ format.nodes_file) × ((damage.id ≡ from) ⊎ (damage.id ≡ to))

-- a relationship can't be read, or something is wrong with the free list of the relationships or
-- of the groups
abbrev pub IsFileDamage : State → Damage → Type 0
IsFileDamage s damage = IsUnread s damage
    ⊎ (IsListDamage s.records s.shape format.relationships_file damage
    ⊎ IsListDamage s.records s.shape format.groups_file damage)

-- what was wrong with them before is all that is
abbrev pub HarmsNoFiles : State → State → Type 0
HarmsNoFiles s t = (damage : Damage) → IsFileDamage t damage → IsFileDamage s damage

-- it is one of the nodes, or a group
abbrev pub IsOfEnds : ℕ → ℕ → Damage → Type 0
IsOfEnds from to damage = (damage.file ≡ format.groups_file) ⊎ IsOfNodes from to damage

-- it is the node, or a group that is no other node's
abbrev pub IsOfEnd : State → ℕ → Damage → Type 0
IsOfEnd s node damage =
    ((damage.file ≡ format.groups_file) × IsNoOther s.records node damage.id)
    ⊎ IsOfNodes node node damage

-- What is called damaged where an edge comes into its chains: what was wrong with the files before;
-- or one of these, or the meta record of the nodes or of the relationships, which is as it was
-- found.
abbrev pub IsChainDamage : State → State → (Damage → Type 0) → Damage → Type 0
IsChainDamage s t these damage = IsFileDamage s damage
    ⊎ ((IsOfMarks damage ⊎ these damage) × IsAsFound s t damage)

abbrev pub BlamesChains : State → State → ℕ → ℕ → ChangeFault → Type 0
BlamesChains s t from to fault = IfBlames (IsChainDamage s t (IsOfEnds from to)) fault

-- so at one end
abbrev pub BlamesEnd : State → State → ℕ → ChangeFault → Type 0
BlamesEnd s t node fault = IfBlames (IsChainDamage s t (IsOfEnd s node)) fault

-- How many groups may be made where an edge comes into its chains: at each end one for each of the
-- relationships of a node that becomes dense, and one for the edge.
abbrev pub groups_needed : ℕ → ℕ
groups_needed threshold = 2 * (threshold + 1)

-- A record that is blamed where an edge is added breaks a rule in the space as it was. Or it does
-- so in the space as it is left, and is as it was found.
abbrev pub IsAddDamage : State → State → Damage → Type 0
IsAddDamage s t damage = IsBroken s damage ⊎ (IsBroken t damage × IsAsFound s t damage)

abbrev pub BlamesAdded : State → State → ChangeFault → Type 0
BlamesAdded s t fault = IfBlames (IsAddDamage s t) fault
