-- What the opening of the ends of a new edge needs, and what it leaves.
use Rattle.std.proofs.Common.{◌≡◌, ◌≢◌, ℕ, ◌<◌, ◌≤◌, nat_eq, Bool, true, false, cond, List, [], ◌∷◌, ◌++◌, length, sym, ap, ◌∙◌, subst, inl, inr, arith, refl}
use Rattle.rec_bytes.specs.declared.meta.Meta.{Meta}
use Rattle.rec_bytes.specs.declared.shape.Shape.{Shape}
use Rattle.rec_bytes.specs.Format as format
use Rattle.rec_bytes.specs.Space.{State, meta_of}
use Rattle.store_rules.specs.Ends.{group_of_head}
use Rattle.store_rules.specs.Rules.{Head}
use Rattle.store_rules.specs.Views.{RelRow, degree}
use Rattle.store_rules.proofs.NumberLaws.{eq_false, eq_true}
use Rattle.chain_edit.specs.declared.head.Head.{Head as ChainHead}
use Rattle.chain_edit.specs.Heads.{head_of}
use Rattle.group_store.specs.declared.side.Side.{Side}
use Rattle.group_store.specs.declared.side.Side.TheVariants as sides
use Rattle.group_store.specs.Opening.{CanOpen, HasGroupRoom, OpensChain}
use Rattle.group_store.specs.Sides.{side_at}
use Rattle.edge_changes.specs.declared.edge_end.EdgeEnd.{EdgeEnd}
use Rattle.edge_changes.specs.EdgeJoining.{edge_row}
use Rattle.edge_changes.specs.EdgeAdding.{HasEndDegree}
use Rattle.edge_changes.specs.EdgeEnds.{AtEach, source_of, target_of}
use Rattle.edge_changes.specs.EdgeOpening.{CanLink, OpensEnds, from_of, to_of}
use Rattle.change_parts.specs.Degrees.{HasDegree}
use Rattle.edge_changes.specs.declared.edge_end.EndDegree.{EndDegree}
use Rattle.edge_changes.specs.declared.edge_end.Ends.{Ends}
use Rattle.edge_changes.specs.declared.edge_end.Ends.TheVariants.{Loop, Two}
use Rattle.edge_changes.specs.declared.edge_end.Joint.{Joint}
use Rattle.change_parts.specs.Rooms.{HasRoom}
use Rattle.edge_changes.proofs.EdgeOpened.{graph_twice, keeps_graph, opened_both, opened_loop}
use Rattle.change_parts.proofs.Elements.{found_degree, found_used}
use Rattle.edge_changes.proofs.EndLaws.{at_source, at_target}

-- an end by its numbers
abbrev pub end_of : ℕ → ChainHead → ℕ → EdgeEnd
end_of node head degree = record { node = node; head = head; degree = degree }

-- the group of a head is one at most
one_group : (h : Head) → length (group_of_head h ++ []) ≤ 1
one_group h = by (nat_eq h.key.file format.groups_file)
  where
    by : (b : Bool) → length (cond b (h.key.id ∷ []) [] ++ []) ≤ 1
    by true = omega arith
    by false = omega arith

-- the same with its ends told apart
abbrev pub joint_of : Joint → Ends EndDegree → Joint
joint_of joint ends = record { label = joint.label; threshold = joint.threshold; ends = ends }

pub can_link : (s : State) (names : List (List ℕ)) (joint : Joint) (ends : Ends EndDegree) → joint.ends ≡ ends → CanLink s names joint
    → CanLink s names (joint_of joint ends)
can_link s names joint ends is can = record {
  limit = can.limit;
  store = can.store;
  named = can.named;
  degrees = subst (AtEach (HasEndDegree s.records))
      is can.degrees;
}

-- on which side of a node an edge is that leads to itself, or to another
pub loop_side : (n : ℕ) → sides.Loop ≡ side_at n n n
loop_side n = rw (eq_true n n refl) refl

pub out_side : (n m : ℕ) → n ≢ m → sides.Out ≡ side_at n n m
out_side n m differ = rw (eq_false n m differ, eq_true n n refl) refl

pub in_side : (n m : ℕ) → n ≢ m → sides.In ≡ side_at m n m
in_side n m differ = rw (eq_false n m differ) refl

module _ (s : State) (names : List (List ℕ)) (joint : Joint) (can : CanLink s names joint) where
  abbrev from : ℕ
  from = from_of joint

  abbrev to : ℕ
  to = to_of joint

  abbrev from_degree : ℕ
  from_degree = (source_of joint.ends).degree

  abbrev to_degree : ℕ
  to_degree = (target_of joint.ends).degree

  abbrev row : ℕ → RelRow
  row id = edge_row id joint.label from to

  leaves : HasDegree s.records from from_degree
  leaves = at_source (HasEndDegree s.records) joint.ends can.degrees

  enters : HasDegree s.records to to_degree
  enters = at_target (HasEndDegree s.records) joint.ends can.degrees

  pub source_can : (side : Side) → side ≡ side_at from from to → (id : ℕ) → CanOpen s from from_degree joint.threshold joint.label side (row id) []
  source_can side is id = record {
    limit = can.limit;
    keeps = can.store.store;
    used = found_used s names from from_degree can.store leaves;
    counted = sym (found_degree s names from from_degree can.store leaves);
    named = can.named;
    at = record { end = inl refl; typed = refl; aside = is };
  }

  pub source_room : HasRoom s format.relationships_file 1 → HasGroupRoom s []
  source_room room = omega (arith, room)

  leaves_is : degree s.records from ≡ from_degree
  leaves_is = sym (found_degree s names from from_degree can.store leaves)

  enters_is : degree s.records to ≡ to_degree
  enters_is = sym (found_degree s names to to_degree can.store enters)

  -- the source's head is open
  module _ (t : State) (head : ChainHead) (first : (id : ℕ) → OpensChain s t (head_of head) from (row id) []) where
    -- a loop has no other
    pub loop_opened : to ≡ from → OpensEnds s t names joint.label (Loop (end_of from head from_degree))
    loop_opened loop = record {
      keeps = keeps_graph s t from (first 0).regroups;
      can = opened_loop s t names joint.label (end_of from head from_degree) can.store.names leaves_is
          (subst (λ n. (id : ℕ) → OpensChain s t (head_of head) from (edge_row id joint.label from n) []) loop first);
    }

    module _ (differ : from ≢ to) where
      -- which groups may be empty now
      abbrev pub made : List ℕ
      made = group_of_head (head_of head) ++ []

      high_same : (meta_of t format.names_file) ≡ (meta_of s format.names_file)
      high_same = (first 0).regroups.metas format.names_file (λ e. omega arith)

      pub target_can : (side : Side) → side ≡ side_at to from to → (id : ℕ) → CanOpen t to to_degree joint.threshold joint.label side (row id) made
      target_can side is id = record {
        limit = can.limit ∙ sym (ap (λ (h : Shape). h.threshold) (first 0).regroups.shape);
        keeps = (first 0).keeps;
        used = λ free. found_used s names to to_degree can.store enters (sym ((first 0).regroups.kinds to (λ e. differ (sym e))) ∙ free);
        counted = (first 0).regroups.degrees to ∙ enters_is;
        named = subst (λ (m : Meta). joint.label < m.high) (sym high_same) can.named;
        at = record { end = inr refl; typed = refl; aside = is };
      }

      pub target_room : HasRoom s format.relationships_file 1 → HasGroupRoom t made
      target_room room =
          let live = ap (λ (m : Meta). m.live) ((first 0).regroups.metas format.relationships_file (λ e. omega arith)) in
          let limit = ap (λ (h : Shape). h.limit) (first 0).regroups.shape in
          let one = one_group (head_of head) in
          omega (arith, room)

      pub both_opened : (u : State) (other : ChainHead) → ((id : ℕ) → OpensChain t u (head_of other) to (row id) made)
          → OpensEnds s u names joint.label (Two (end_of from head from_degree) (end_of to other to_degree))
      both_opened u other second = record {
        keeps = graph_twice s t u (keeps_graph s t from (first 0).regroups) (keeps_graph t u to (second 0).regroups);
        can = opened_both s names joint.label (end_of from head from_degree) (end_of to other to_degree) can.store.names leaves_is enters_is t u differ first
            second;
      }
