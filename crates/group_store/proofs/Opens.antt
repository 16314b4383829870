-- The head that a new relationship comes to: what opening it leaves of the store.
use Rattle.std.proofs.Common.{◌≡◌, ◌≢◌, ℕ, ◌+◌, ◌*◌, ◌<◌, Option, List, [], ◌∷◌, length, refl, sym, ap, ◌∙◌, subst, arith}
use Rattle.rec_bytes.specs.declared.key.Key.{Key}
use Rattle.rec_bytes.specs.declared.meta.Meta.{Meta}
use Rattle.rec_bytes.specs.declared.shape.Shape.{Shape}
use Rattle.rec_bytes.specs.Format as format
use Rattle.rec_bytes.specs.RecordFiles.{room_of}
use Rattle.rec_bytes.specs.Space.{SameButReads, State, meta_of}
use Rattle.store_rules.specs.Breaking.{IsOnChain}
use Rattle.store_rules.specs.Ends.{IsEndHead, Regroups}
use Rattle.store_rules.specs.Rules.{Head, IsOn, KeepsCounts, KeepsRules, Owns, node_head}
use Rattle.store_rules.specs.Views.{GroupRow, Records, RelRow, first_link, group_at, group_in, high, kind_at, rec_at, rel_at}
use Rattle.store_rules.specs.Writes.{WritesBeside}
use Rattle.store_rules.proofs.ChainLaws.{walk_of_chain}
use Rattle.store_rules.proofs.NumberLaws.{eq_true}
use Rattle.store_rules.proofs.ViewLaws.{some_row}
use Rattle.store_rules.proofs.WriteLaws.{beside_more, beside_then, none_beside}
use Rattle.group_store.specs.declared.group_row.GroupRow.{GroupRow as Row}
use Rattle.group_store.specs.declared.side.Side.{Side}
use Rattle.group_store.specs.Densing.{BecomesDense, CanBecomeDense, HasDenseRoom}
use Rattle.node_store.specs.NodeRecord.{node_key}
use Rattle.group_store.specs.GroupChain.{IsDense, IsGroupOf}
use Rattle.group_store.specs.Opening.{CanOpen, CanOpenGroup, HasGroupRoom, OpensChain, WritesOpened, moved_writes}
use Rattle.group_store.specs.Raising.{CanRaise, HasRaised}
use Rattle.group_store.specs.Sides.{group_head}
use Rattle.group_store.specs.Spreading.{HasOpened, KeepsBut, StandsBut}
use Rattle.group_store.specs.Walking.{group_row_at}
use Rattle.group_store.proofs.ChainHeads.{at_group, at_node, sparse_unless}
use Rattle.group_store.proofs.CountedRels.{all_exact, exact_all}
use Rattle.group_store.proofs.GroupCounts.{few_groups}
use Rattle.group_store.proofs.GroupRules.{IsGroupChain-HasGroups, group_of_row, list_on}
use Rattle.group_store.proofs.GroupWrites.{opened_more, opened_then}
use Rattle.group_store.proofs.Leaves.{group_kinds, leaves_both, leaves_read}
use Rattle.group_store.proofs.Regrouping.{KeepsRules-KeepsOthers, regroups_both, regroups_read}

-- ---- no relationship is apart

pub all_but : (s : Records) (shape : Shape) (node most : ℕ) (empty : List ℕ) → KeepsRules s shape most empty → KeepsBut s shape node [] most empty
all_but s shape node most empty well = record {
  others = KeepsRules-KeepsOthers s shape most empty well;
  linked = record {
    ends = well.linked.ends;
    typed = λ x n row live end dense out. well.linked.typed x n row live end dense;
    listed = record {
      each = λ h n o. let l = well.linked.listed.each h n o in record {
        members = l.members;
        chain = l.chain;
        only = λ x i.
            record { stands = l.only x i; apart = λ k i. i };
        all = λ x (a : StandsBut (rel_at s) (group_at s) node [] h x). l.all x a.stands;
      };
    };
  };
  grouped = well.grouped;
}

pub but_all : (s : Records) (shape : Shape) (node most : ℕ) (empty : List ℕ) → KeepsBut s shape node [] most empty
    → KeepsCounts s
    → KeepsRules s shape most empty
but_all s shape node most empty well exact = record {
  ranges = well.others.ranges;
  split = well.others.split;
  kept = well.others.kept;
  linked = record {
    ends = well.linked.ends;
    typed = λ x n row live end dense. well.linked.typed x n row live end dense (λ e i. i);
    listed = record {
      each = λ h n o. let l = well.linked.listed.each h n o in record {
        members = l.members;
        chain = l.chain;
        only = λ x i. (l.only x i).stands;
        all = λ x a.
            l.all x (record { stands = a; apart = λ k i. i });
      };
    };
  };
  grouped = well.grouped;
  exact = exact;
  properties = well.others.properties;
  named = well.others.named;
  defined = well.others.defined;
  names = well.others.names;
  degrees = well.others.degrees;
}

-- a store with room has a free identifier for a group
pub not_full : (s : State) (node most : ℕ) (empty : List ℕ) → KeepsRules s.records s.shape most empty → HasGroupRoom s empty
    → (meta_of s format.groups_file).live ≢ room_of s.shape format.groups_file
not_full s node most empty well room e = let f = few_groups s.records s.shape node [] most empty (all_but s.records s.shape node most empty well) in
    omega (arith, room, f, e)

-- ---- a group that was opened, and has counts

-- a head stays where the nodes and the groups do
pub head_after : (s t : Records) (h : Head) (n : ℕ) (row : RelRow) → ((m : ℕ) → kind_at t format.nodes_file m ≡ kind_at s format.nodes_file m)
    → ((k : ℕ) → group_at t k ≡ group_at s k) → IsEndHead s h n row → IsEndHead t h n row
head_after s t h n row kinds groups end =
    let kind : kind_at t format.nodes_file ≡ kind_at s format.nodes_file = λ i m. kinds m i in
    let group : group_at t ≡ group_at s = λ i k. groups k i in
    record {
      owns = subst (λ (v : ℕ → ℕ). Owns v (group_at t) h n) (sym kind) (subst (λ (v : ℕ → Option GroupRow). Owns (kind_at s format.nodes_file) v h n)
          (sym group) end.owns);
      on = subst (λ (v : ℕ → Option GroupRow). IsOn v h row) (sym group) end.on;
    }

module _ (s m : State) (node label : ℕ) (own : Row) (side : Side) (row : RelRow) (empty : List ℕ) (can : CanOpenGroup s node label side row empty)
    (keeps : KeepsBut m.records m.shape node [] s.shape.threshold (own.id ∷ empty)) (opened : HasOpened s m node label own.id []) where
  well : KeepsRules m.records m.shape s.shape.threshold (own.id ∷ empty)
  well = but_all m.records m.shape node s.shape.threshold (own.id ∷ empty) keeps
      (exact_all m.records node (opened.exact (all_exact s.records node can.keeps.exact)))

  row_is : group_in (rec_at m.records format.groups_file own.id) own.id ≡ record { id = own.id; label = label; owner = node }
  row_is = (some_row (kind_at m.records format.groups_file own.id) (group_in (rec_at m.records format.groups_file own.id) own.id)
      (record { id = own.id; label = label; owner = node }) opened.group).1

  member : IsGroupOf m.records node own.id
  member = group_of_row m.records m.shape node own.id (record { id = own.id; label = label; owner = node }) well.ranges opened.group refl

  dense_now : kind_at m.records format.nodes_file node ≡ format.dense
  dense_now = well.grouped.owned own.id (record { id = own.id; label = label; owner = node }) opened.group

  -- it is on the group chain
  on_chain : IsOnChain m.records node own.id
  on_chain =
      let has = well.grouped.each node dense_now in
      let groups = IsGroupChain-HasGroups m.records m.shape node well.ranges has in
      list_on m.records node has.members dense_now (record {
        walk = walk_of_chain _ _ format.nil (first_link m.records node) has.members groups.chain;
        only =
            groups.only;
      }) own.id (groups.all own.id member)

  -- so it can be counted
  pub can_raise : own ≡ group_row_at m.records own.id → CanRaise m node own s.shape.threshold (own.id ∷ empty)
  can_raise is = record { keeps = well; group = record { dense = dense_now; member = member; on = on_chain; is = is } }

  pub opens_group : (t : State) → HasRaised m t node own.id s.shape.threshold (own.id ∷ empty) → OpensChain s t (group_head own.id side) node row empty
  opens_group t raised = record {
    keeps = subst (λ (q : Shape). KeepsRules t.records t.shape q.threshold (own.id ∷ empty)) (sym (raised.regroups.shape ∙ opened.regroups.shape)) raised.keeps;
    stands = head_after m.records t.records (group_head own.id side) node row raised.kinds raised.groups
        (at_group m.records m.shape well node own.id label side row member (ap (λ (r : GroupRow). r.label) row_is) can.at);
    counted = λ is. raised.counted;
    few = λ sparse. let k = sym (raised.kinds node ∙ dense_now) ∙ sparse in absurd (omega arith);
    group_kinds = group_kinds s t node (regroups_both s m t node opened.regroups raised.regroups)
        (leaves_both s m t node opened.regroups opened.leaves raised.leaves);
    regroups = regroups_both s m t node opened.regroups raised.regroups;
    leaves = leaves_both s m t node opened.regroups opened.leaves raised.leaves;
  }

-- ---- a node whose head is opened

module _ (s z : State) (same : SameButReads s z) (node degree_is threshold label : ℕ) (side : Side) (row : RelRow) (empty : List ℕ)
    (can : CanOpen s node degree_is threshold label side row empty) where
  pub group_can : IsDense s.records node → CanOpenGroup z node label side row empty
  group_can dense = subst (λ (q : State). CanOpenGroup q node label side row empty) (sym same)
      (record { keeps = can.keeps; dense = dense; named = can.named; at = can.at })

  pub room_same : HasGroupRoom s empty → HasGroupRoom z empty
  room_same room = subst (λ (q : State). HasGroupRoom q empty) (sym same) room

  pub then_opens : (t : State) (h : Head) → OpensChain z t h node row empty → OpensChain s t h node row empty
  then_opens t h o =
      let to_z : Regroups s z node = subst (λ (q : State). Regroups s q node) (sym same) (regroups_read s z.reads node) in
      let regroups = regroups_both s z t node to_z o.regroups in
      let leaves = leaves_both s z t node to_z (leaves_read s z node same) o.leaves in
      record {
        keeps = o.keeps;
        stands = o.stands;
        counted = o.counted;
        few = o.few;
        group_kinds = group_kinds s t node regroups leaves;
        regroups = regroups;
        leaves = leaves;
      }

  module _ (thin : ¬ IsDense s.records node) where
    sparse : kind_at s.records format.nodes_file node ≡ format.sparse
    sparse = sparse_unless s.records s.shape node can.keeps.ranges can.used thin

    pub opens_node : degree_is ≢ threshold → OpensChain s z (node_head node) node row empty
    opens_node ne = subst (λ (q : State). OpensChain s q (node_head node) node row empty) (sym same) (record {
      keeps = can.keeps;
      stands = at_node s.records s.shape can.keeps node can.used thin row can.at.end;
      counted = λ is. absurd (omega arith);
      few = λ _. let f = can.keeps.degrees.few node sparse in let e = can.counted in let k = can.limit in omega arith;
      group_kinds = λ g group is ne. refl;
      regroups = regroups_read s z.reads node;
      leaves = leaves_read s (record s { reads = z.reads }) node refl;
    })

    pub dense_can : CanBecomeDense z node s.shape.threshold empty
    dense_can = subst (λ (q : State). CanBecomeDense q node s.shape.threshold empty) (sym same) (record { keeps = can.keeps; sparse = sparse })

    pub dense_room : HasGroupRoom s empty → HasDenseRoom z node threshold empty
    dense_room room = subst (λ (q : State). HasDenseRoom q node threshold empty) (sym same)
        (record { few = let f = can.keeps.degrees.few node sparse in let k = can.limit in omega arith; room = omega (arith, room) })

  -- after it became dense
  module _ (u : State) (becomes : BecomesDense z u node s.shape.threshold empty) where
    shape_u : u.shape ≡ s.shape
    shape_u = becomes.regroups.shape ∙ ap (λ (q : State). q.shape) same

    meta_u : (f : ℕ) → f ≢ format.groups_file → meta_of u f ≡ meta_of s f
    meta_u f ne = becomes.regroups.metas f ne ∙ ap (λ (q : State). meta_of q f) same

    pub dense_group_can : CanOpenGroup u node label side row empty
    dense_group_can = record {
      keeps = subst (λ (q : Shape). KeepsRules u.records u.shape q.threshold empty) (sym shape_u) becomes.keeps;
      dense = becomes.dense;
      named = subst (λ (m : Meta). label < m.high) (sym (meta_u format.names_file (λ e. omega arith))) can.named;
      at = can.at;
    }

    pub dense_group_room : HasGroupRoom s empty → HasGroupRoom u empty
    dense_group_room room = subst (λ (m : Meta). 2 * m.live + length empty < room_of u.shape format.groups_file)
        (sym (meta_u format.relationships_file (λ e. omega arith)))
        (subst (λ (q : Shape). 2 * (meta_of s format.relationships_file).live + length empty < room_of q format.groups_file) (sym shape_u) room)

    pub dense_opens : (t : State) (h : Head) → OpensChain u t h node row empty → OpensChain s t h node row empty
    dense_opens t h o =
        let regroups = regroups_both z u t node becomes.regroups o.regroups in
        let leaves = leaves_both z u t node becomes.regroups becomes.leaves o.leaves in
        then_opens t h (record {
          keeps = o.keeps;
          stands = o.stands;
          counted = o.counted;
          few = o.few;
          group_kinds = group_kinds z t node regroups leaves;
          regroups = regroups;
          leaves = leaves;
        })

-- ---- what is written

module _ (s z t : State) (node threshold degree_is : ℕ) (same : SameButReads s z) where
  -- a group in a node that was dense
  pub group_opened : (head : Key) → WritesOpened z t node head 1 → WritesOpened s t node head (moved_writes threshold degree_is + 1)
  group_opened head w = opened_more (omega arith) (opened_then s z t node head (none_beside (node_key node) s z same) w)

  -- relationships that came into groups
  module _ (u : State) (e : degree_is ≡ threshold) where
    count : moved_writes threshold degree_is ≡ 2 * (threshold + 1)
    count = rw (eq_true degree_is threshold e) refl

    pub failed_beside : WritesBeside (node_key node) (2 * (threshold + 1) + 2) z u → WritesBeside (node_key node) (moved_writes threshold degree_is + 2) s u
    failed_beside w = beside_more (let c = count in omega arith) (beside_then (none_beside (node_key node) s z same) w)

    pub dense_beside : WritesBeside (node_key node) (2 * (threshold + 1)) z u → WritesBeside (node_key node) 2 u t
        → WritesBeside (node_key node) (moved_writes threshold degree_is + 2) s t
    dense_beside w v = beside_more (let c = count in omega arith) (beside_then (none_beside (node_key node) s z same) (beside_then w v))

    pub dense_opened : (head : Key) → WritesBeside (node_key node) (2 * (threshold + 1)) z u → WritesOpened u t node head 1
        → WritesOpened s t node head (moved_writes threshold degree_is + 1)
    dense_opened head w v = opened_more (let c = count in omega arith) (opened_then s z t node head (none_beside (node_key node) s z same)
        (opened_then z u t node head w v))
