-- The head of a chain that an end of a relationship stands in, with counts where it is a group's.
use Rattle.std.proofs.Common.{◌≡◌, ℕ, Some, List, refl, sym, ap, ◌∙◌, subst, inl, inr, arith}
use Rattle.std.specs.Prelude.{IfSome}
use Rattle.rec_bytes.specs.declared.fault.Fault.{Fault}
use Rattle.rec_bytes.specs.declared.fault.Fault.TheVariants.{Memory, Disk, Damaged}
use Rattle.rec_bytes.specs.Fault.{damage_of}
use Rattle.rec_bytes.specs.Format as format
use Rattle.rec_bytes.specs.Record.{field}
use Rattle.rec_bytes.specs.Space.{SameButReads, State}
use Rattle.store_rules.specs.Ends.{IsEndHead}
use Rattle.store_rules.specs.Rules.{KeepsRules, node_head}
use Rattle.store_rules.specs.Views as views
use Rattle.store_rules.specs.Views.{Records, RelRow, group_at, kind_at, rec_at}
use Rattle.store_rules.proofs.GroupLaws.{same_group}
use Rattle.group_store.specs.declared.group_row.GroupRow.{GroupRow}
use Rattle.group_store.specs.declared.side.Side.{Side}
use Rattle.group_store.specs.Finding.{IsFound}
use Rattle.group_store.specs.Densing.{IsSparse}
use Rattle.group_store.specs.GroupChain.{IsDense}
use Rattle.group_store.specs.Opening.{FindsChain, IsAt, IsEndOf, IsPlaced}
use Rattle.group_store.specs.Raising.{CanRaise, HasRaised, IsGroupAt}
use Rattle.group_store.specs.Sides.{group_head}
use Rattle.group_store.proofs.ChainHeads.{at_group, at_node, end_used, group_end, same_records, same_twice}
use Rattle.group_store.proofs.KeptHeads.{place_first}
use Rattle.group_store.proofs.Openings.{keeps_read, regroups_read}
use Rattle.group_store.proofs.Opens.{head_after}
use Rattle.group_store.proofs.Raises.{group_is, raises_after}
use Rattle.group_store.proofs.SideCounts.{row_as}

-- a sparse node's own
pub finds_node : (s z : State) → SameButReads s z → (node label : ℕ) (side : Side) (most : ℕ) (empty : List ℕ) (x : ℕ) (row : RelRow)
    → IsEndOf s node label side most empty x row → ¬ IsDense s.records node → FindsChain s z (node_head node) node row most empty
finds_node s z same node label side most empty x row end thin =
    let records = same_records s z same in
    record {
      keeps = keeps_read s z same most empty end.keeps;
      stands = subst (λ (r : Records). IsEndHead r (node_head node) node row) (sym records)
          (at_node s.records s.shape end.keeps node (end_used s.records s.shape end.keeps node x row end.live end.at.end) thin row end.at.end);
      counted = λ is. absurd (omega arith);
      kinds = λ n. ap (λ (r : Records). kind_at r format.nodes_file n) records;
      group_kinds = λ g group is ne. ap (λ (r : Records). kind_at r format.groups_file g) records;
      regroups = regroups_read s z same node;
    }

module _ (s z y : State) (same : SameButReads s z) (then : SameButReads z y) (node label : ℕ) (group : GroupRow) where
  after : SameButReads s y
  after = same_twice s z y same then

  -- a group that is found is one of the dense node
  pub found_at : IsFound z.records node label (Some group) → IsGroupAt y node group
  found_at found =
      let found_y = subst (λ (r : Records). IsFound r node label (Some group)) (sym (same_records z y then)) found in
      record { dense = found_y.0; member = found_y.1.member; on = found_y.1.on refl found_y.0; is = found_y.1.is }

  -- it can be counted
  pub found_raise : (most : ℕ) (empty : List ℕ) → KeepsRules s.records s.shape most empty → IsFound z.records node label (Some group)
      → CanRaise y node group most empty
  found_raise most empty keeps found = record { keeps = keeps_read s y after most empty keeps; group = found_at found }

  -- and then the relationship stands in one of its chains
  pub finds_group : (t : State) (side : Side) (most : ℕ) (empty : List ℕ) (x : ℕ) (row : RelRow) → IsEndOf s node label side most empty x row
      → IsFound z.records node label (Some group)
      → CanRaise y node group most empty → HasRaised y t node group.id most empty → FindsChain s t (group_head group.id side) node row most empty
  finds_group t side most empty x row end found can raised =
      let typed : field 4 (rec_at y.records format.groups_file group.id) format.group_type ≡ label = sym (ap (λ (q : GroupRow). q.label) can.group.is)
      ∙ found.1.typed in
      let h = raises_after s y t node group.id most empty after raised in
      record {
        keeps = h.keeps;
        stands = head_after y.records t.records (group_head group.id side) node row raised.kinds raised.groups
            (at_group y.records y.shape can.keeps node group.id label side row can.group.member typed end.at);
        counted = λ is. h.counted;
        kinds = h.kinds;
        group_kinds = λ g other is ne. h.others g (λ e. ne (ap (λ (q : views.GroupRow). q.owner) (same_group other (row_as group.id group.label node)
            (sym is ∙ ap (group_at s.records) e ∙ ap (λ (q : Records). group_at q group.id) (sym (same_records s y after)) ∙ group_is y node group
            can.group))));
        regroups = h.regroups;
      }

-- what holds where damage is told after reads
pub then_unwritten : (s y t : State) → SameButReads s y → (fault : Fault) → IfSome (damage_of fault) (λ _. SameButReads y t)
    → IfSome (damage_of fault) (λ _. SameButReads s t)
then_unwritten s y t same Memory told = tt
then_unwritten s y t same Disk told = tt
then_unwritten s y t same (Damaged damage) told = same_twice s y t same told

-- ---- where a relationship stands, whatever the other records are

-- at a sparse node's own head
pub placed_node : (s : Records) (node label : ℕ) (side : Side) (row : RelRow) → IsSparse s node → IsAt node label side row
    → IsPlaced s (node_head node) node row
placed_node s node label side row sparse at = record { owns = inl (record { sparse = sparse; is = refl }); on = inl (refl, at.end) }

-- at the head of a group on the chain of a dense one
pub placed_group : (s : State) (node label : ℕ) (group : GroupRow) (side : Side) (row : RelRow) → IsGroupAt s node group → group.label ≡ label
    → IsAt node label side row → IsPlaced s.records (group_head group.id side) node row
placed_group s node label group side row here typed at = record {
  owns = inr (record {
    own = record {
      dense = here.dense;
      row = row_as group.id group.label node;
      group = group_is s node group here;
      owner = refl;
      key = refl;
      field = place_first
          side;
    };
    on = here.on;
  });
  on = (group_end s.records node group.id label side row here.member (sym (ap (λ (q : GroupRow). q.label) here.is) ∙ typed) at here.dense).on;
}
