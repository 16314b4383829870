-- What a row that was loaded, or none, says of the graph.
use Rattle.std.proofs.Common.{◌≡◌, ◌≢◌, ℕ, nat_lt, Bool, true, false, cond, ◌&&◌, None, Some, List, sym, ap, ◌∙◌, ⊎_elim, refl}
use Rattle.plain_graph.specs.Graph.{degree_in, has_edge, has_element, has_node}
use Rattle.plain_graph.specs.declared.command.Target.{Target}
use Rattle.plain_graph.specs.declared.command.Target.TheVariants as targets
use Rattle.rec_bytes.specs.Format as format
use Rattle.rec_bytes.specs.Space.{SameButReads, State, after_get}
use Rattle.store_rules.specs.Views.{degree, kind_at, rec_at, row_if}
use Rattle.store_rules.proofs.GraphRows as rows
use Rattle.store_rules.proofs.NumberLaws.{nat_cases}
use Rattle.store_rules.proofs.ViewLaws.{row_some}
use Rattle.node_store.specs.declared.node_row.NodeRow.{NodeRow}
use Rattle.node_store.specs.Loading as nodes
use Rattle.node_store.proofs.Rows as node_rows
use Rattle.rel_store.specs.declared.rel_row.RelRow.{RelRow}
use Rattle.rel_store.specs.Loading as rels
use Rattle.rel_store.specs.RelRecord.{row_of}
use Rattle.rel_store.proofs.Rows as rel_rows
use Rattle.change_parts.specs.Degrees.{HasDegree}
use Rattle.change_parts.specs.Owners.{owner_of}
use Rattle.change_parts.specs.Store.{IsMidway}
use Rattle.prop_store.specs.Changing.{HasElement}
use Rattle.store_rules.specs.Graph.{graph_in}

-- ---- a load changes nothing but the count of reads
same_or_not : (s : State) (b : Bool) → SameButReads s (cond b (after_get s) s)
same_or_not s true = refl
same_or_not s false = refl

pub same_node : (s : State) (id : ℕ) → SameButReads s (nodes.after_load s id)
same_node s id = same_or_not s (nat_lt id (nodes.node_mark s) && nat_lt id (nodes.node_room s))

pub same_rel : (s : State) (id : ℕ) → SameButReads s (rels.after_load s id)
same_rel s id = same_or_not s (nat_lt id (rels.rel_mark s) && nat_lt id (rels.rel_room s))

pub same_both : (a b c : State) → SameButReads a b → SameButReads b c → SameButReads a c
same_both a b c h k = k ∙ ap (λ (z : State). record z { reads = c.reads }) h

-- ---- nodes

-- the identifier of a row is in use, and the row has the degree of its record
pub used_of : (s : State) (id : ℕ) (node : NodeRow) → Some node ≡ nodes.row_at s.records id → (kind_at s.records format.nodes_file id ≢ format.free_kind)
    × (node.degree ≡ degree s.records id)
used_of s id node found = let k = node_rows.kind-row_at-Some s.records id node (sym found) in (k.0, ap (λ (n : NodeRow). n.degree) k.1)

pub degree_found : (s : State) (id n : ℕ) → HasDegree s.records id n → n ≡ degree s.records id
degree_found s id n has = sym has.is ∙ (used_of s id has.row (sym has.found)).1

pub node_loaded : (s : State) (id : ℕ) (node : NodeRow) → Some node ≡ nodes.row_at s.records id → has_node (graph_in s) id ≡ true
node_loaded s id node found = rows.node_there s.records id (used_of s id node found).0

pub node_missing : (s : State) (id : ℕ) → None ≡ nodes.row_at s.records id → has_node (graph_in s) id ≡ false
node_missing s id found = rows.no_node s.records id (node_rows.kind-row_at-None s.records id (sym found))

-- ---- edges

pub edge_loaded : (s : State) (id : ℕ) (rel : RelRow) → Some rel ≡ rels.row_at s.records id → has_edge (graph_in s) id ≡ true
edge_loaded s id rel found = rows.edge_there s.records id (rel_rows.kind-row_at-Some s.records id rel (sym found)).0

pub edge_missing : (s : State) (id : ℕ) → None ≡ rels.row_at s.records id → has_edge (graph_in s) id ≡ false
edge_missing s id found = rows.no_edge s.records id (none_if (kind_at s.records format.relationships_file id) (sym found))
  where
    none_if : (kind : ℕ) → row_if kind (row_of (rec_at s.records format.relationships_file id) id) ≡ None → kind ≡ 0
    none_if kind h = ⊎_elim (λ (e : kind ≡ 0). e) (λ (ne : kind ≢ 0). absurd (let z = sym (row_some kind (row_of (rec_at s.records format.relationships_file id)
        id) ne) ∙ h in cc)) (nat_cases kind 0)

-- ---- an element of the graph is in use
pub element_used : (s : State) (target : Target) → has_element (graph_in s) target ≡ true
    → kind_at s.records (owner_of target).key.file (owner_of target).key.id ≢ format.free_kind
element_used s (targets.Node id) there free = clash (sym there ∙ rows.no_node s.records id free)
  where
    clash : true ≡ false → ⊥
    clash e = cc
element_used s (targets.Edge id) there free = clash (sym there ∙ rows.no_edge s.records id free)
  where
    clash : true ≡ false → ⊥
    clash e = cc

-- ---- a store's records can be read
pub node_readable : (s : State) (names : List (List ℕ)) (id : ℕ) → IsMidway s names → nodes.IsReadable s id
node_readable s names id store = node_rows.IsReadable-AreInRange s id store.store.ranges

-- ---- the degree that was read of a node of a store

-- what a load of a node of a store says
module _ (s : State) (names : List (List ℕ)) (id n : ℕ) (store : IsMidway s names) (has : HasDegree s.records id n) where
  pub found_used : kind_at s.records format.nodes_file id ≢ format.free_kind
  found_used = (used_of s id has.row (sym has.found)).0

  pub found_degree : n ≡ degree s.records id
  found_degree = degree_found s id n has

  pub found_there : has_node (graph_in s) id ≡ true
  found_there = rows.node_there s.records id found_used

  pub found_in : n ≡ degree_in (graph_in s) id
  found_in = found_degree ∙ sym (rows.degree_in-degree s.records s.shape store.store id found_used)

-- an element that is there is one that properties may be given
pub has_owner : (s : State) (names : List (List ℕ)) (target : Target) → IsMidway s names → has_element (graph_in s) target ≡ true
    → HasElement s (owner_of target)
has_owner s names target store there = record { store = store.store; used = element_used s target there }
