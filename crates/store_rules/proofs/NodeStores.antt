-- A node of a well-formed store that may go.
use Rattle.std.proofs.Common.{◌≡◌, ◌≢◌, ℕ, [], Some, subst, ⊎_elim}
use Rattle.rec_bytes.specs.declared.shape.Shape.{Shape}
use Rattle.rec_bytes.specs.Format as format
use Rattle.rec_bytes.specs.Record.{field}
use Rattle.store_rules.specs.Chains.{In}
use Rattle.store_rules.specs.Rules.{GroupHead, IsEnd, IsWellFormed}
use Rattle.store_rules.specs.Views.{GroupRow, Records, RelRow, degree, group_at, kind_at, rec_at, rel_at}
use Rattle.store_rules.proofs.FilledGroups.{filled_has, group_head, owns_chain}
use Rattle.store_rules.proofs.GroupLaws.{stands_end}
use Rattle.store_rules.proofs.NodeGone.{IsBare, no_end}

-- each group has a relationship at its owner
module _ (s : Records) (shape : Shape) (store : IsWellFormed s shape) (g n : ℕ) (row : GroupRow) (is : group_at s g ≡ Some row) (owner : row.owner ≡ n) where
  -- a relationship at the node
  pub record HasOne : Type 0 where
    pub rel : ℕ
    pub edge : RelRow
    pub live : rel_at s rel ≡ Some edge
    pub end : IsEnd n edge

  dense : kind_at s format.nodes_file n ≡ format.dense
  dense = subst (λ z. kind_at s format.nodes_file z ≡ format.dense) owner (store.grouped.owned g row is)

  pub group_filled : HasOne
  group_filled =
      let has = store.grouped.each n dense in
      let filled = ⊎_elim (λ k. k) (λ (k : In g []). elim k [ ]) (has.filled g (has.all g row is owner)) in
      let k = filled_has s store.grouped g row is s (rel_at s) store.linked.listed filled in
      let o = subst (GroupHead (kind_at s format.nodes_file) (group_at s) (group_head g k.0)) owner (owns_chain s store.grouped g row is k.0 k.2) in
      record { rel = k.1; edge = k.3.row; live = k.3.live; end = stands_end s (group_head g k.0) n k.1 o k.3 }

-- a node in use may go once it has no relationships and no properties
pub is_bare : (s : Records) (shape : Shape) → IsWellFormed s shape → (id : ℕ) → kind_at s format.nodes_file id ≢ format.free_kind → degree s id ≡ 0
    → field 4 (rec_at s format.nodes_file id) format.node_first_property ≡ format.nil → IsBare s id
is_bare s shape store id used lone empty = record {
  used = used;
  alone = lone;
  bare = empty;
  ungrouped = λ g row e o. let k = group_filled s shape store g id row e o in no_end s shape store id used lone k.rel k.edge k.live k.end;
}
