-- The ends where a new edge is to stand, whose heads are found or made.
use Rattle.std.specs.Prelude.{◌≡◌, ℕ, ◌+◌, ◌<◌, ◌≤◌, length}
use Rattle.std.specs.Prelude.{List, [], ◌∷◌, ◌++◌}
use Rattle.rec_bytes.specs.declared.key.Key.{Key}
use Rattle.rec_bytes.specs.Format as format
use Rattle.rec_bytes.specs.Space.{State, WritesOnly}
use Rattle.store_rules.specs.Views.{high, key_in}
use Rattle.store_rules.specs.Writes.{AreOwn, meta_keys}
use Rattle.chain_edit.specs.Heads.{head_of}
use Rattle.group_store.specs.Leaving.{KeepsOrLeads}
use Rattle.group_store.specs.Opening.{moved_writes}
use Rattle.edge_changes.specs.EdgeAdding.{HasEndDegree, IsNodeEnd}
use Rattle.edge_changes.specs.EdgeEnds.{AreApart, AtEach, source_of, target_of}
use Rattle.edge_changes.specs.EdgeJoining.{CanJoin}
use Rattle.edge_changes.specs.EdgePlacing.{KeepsGraph}
use Rattle.change_parts.specs.Store.{IsMidway}
use Rattle.edge_changes.specs.declared.edge_end.EdgeEnd.{EdgeEnd}
use Rattle.edge_changes.specs.declared.edge_end.EndDegree.{EndDegree}
use Rattle.edge_changes.specs.declared.edge_end.Ends.{Ends}
use Rattle.edge_changes.specs.declared.edge_end.Ends.TheVariants.{Loop, Two}
use Rattle.edge_changes.specs.declared.edge_end.Joint.{Joint}

-- the nodes that a new relationship leaves and enters
abbrev pub from_of : Joint → ℕ
from_of joint = (source_of joint.ends).node

abbrev pub to_of : Joint → ℕ
to_of joint = (target_of joint.ends).node

-- Its ends are nodes that there can be, two are at two nodes, and a sparse node has few
-- relationships.
pub record IsJoint (joint : Joint) : Type 0 where
  pub nodes : AtEach IsNodeEnd joint.ends
  pub apart : AreApart (λ (end : EndDegree). end.node) joint.ends
  pub few : joint.threshold ≤ 200

-- The store has the type, the nodes with these degrees, and this threshold.
pub record CanLink (s : State) (names : List (List ℕ)) (joint : Joint) : Type 0 where
  pub limit : joint.threshold ≡ s.shape.threshold
  pub store : IsMidway s names
  pub named : joint.label < high s.records format.names_file
  pub degrees : AtEach (HasEndDegree s.records) joint.ends

-- The graph stays, and a relationship of the type can join the chains of the ends.
pub record OpensEnds (s t : State) (names : List (List ℕ)) (label : ℕ) (ends : Ends EdgeEnd)
    : Type 0 where
  pub keeps : KeepsGraph s t
  pub can : CanJoin t names label ends

-- The record of the end's head is as it was, or its chain begins at a relationship that was given
-- out, or is empty.
abbrev pub KeepsHead : State → State → EdgeEnd → Type 0
KeepsHead s t end = KeepsOrLeads s.records t.records (head_of end.head)

-- how many records of the ends that become dense are written besides the nodes' own
abbrev pub ends_moved : ℕ → Ends EndDegree → ℕ
ends_moved threshold (Loop end) = moved_writes threshold end.degree
ends_moved threshold (Two source target) =
    moved_writes threshold source.degree + moved_writes threshold target.degree

-- the records of an end's node and of its head
abbrev pub opened_keys : EdgeEnd → List Key
opened_keys end = key_in format.nodes_file end.node ∷ end.head.key ∷ []

-- Those of the ends, and at most so many others became written, meta records aside.
pub record WritesEndsOpened (old new : State) (ends : Ends EdgeEnd) (count : ℕ) : Type 0 where
  pub keys : List Key
  pub few : length keys ≤ count
  pub own : AreOwn keys
  pub only : WritesOnly old new (opened_keys (source_of ends) ++ opened_keys (target_of ends)
      ++ keys ++ meta_keys)
