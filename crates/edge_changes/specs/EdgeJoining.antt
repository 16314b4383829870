-- A new relationship that joins the chains of its ends.
use Rattle.std.specs.Prelude.{◌≡◌, ◌≢◌, ◌⊎◌, ℕ, ◌+◌, ◌<◌, min, List, [], ◌∷◌, ◌++◌}
use Rattle.rec_bytes.specs.declared.damage.Damage.{Damage}
use Rattle.rec_bytes.specs.declared.key.Key.{Key}
use Rattle.rec_bytes.specs.Format as format
use Rattle.rec_bytes.specs.Space.{State, WritesOnly, after_put}
use Rattle.store_rules.specs.Chains.{In}
use Rattle.store_rules.specs.Ends.{IsEndHead, group_of_head}
use Rattle.store_rules.specs.Graph.{names_of}
use Rattle.store_rules.specs.Rules.{KeepsRules, first_of}
use Rattle.store_rules.specs.Views as views
use Rattle.store_rules.specs.Views.{degree, key_in, kind_at}
use Rattle.store_rules.specs.Writes.{meta_keys}
use Rattle.id_freelist.specs.FreeLists.{IsFreeList}
use Rattle.id_freelist.specs.Taking.{HasTaken}
use Rattle.rel_store.specs.declared.rel_row.RelRow.{RelRow}
use Rattle.rel_store.specs.Loading.{mark_damage, rel_mark, rel_room}
use Rattle.rel_store.specs.RelRecord.{rel_key, rel_record}
use Rattle.chain_edit.specs.Heads.{head_of}
use Rattle.chain_edit.specs.Links.{IsRightLink}
use Rattle.group_store.specs.Leaving.{IsLowLink}
use Rattle.group_store.specs.Opening.{IsCountedHead}
use Rattle.change_parts.specs.Damage.{IfBlames, IsAsFound}
use Rattle.change_parts.specs.declared.change_fault.ChangeFault.{ChangeFault}
use Rattle.edge_changes.specs.EdgeEnds.{AtEach, AtSome, joined, source_of, target_of}
use Rattle.edge_changes.specs.declared.edge_end.EdgeEnd.{EdgeEnd}
use Rattle.edge_changes.specs.declared.edge_end.Ends.{Ends}
use Rattle.edge_changes.specs.declared.edge_end.Ends.TheVariants.{Loop, Two}

-- ---- its record

-- a relationship without neighbours and without properties
abbrev pub new_row : ℕ → ℕ → ℕ → ℕ → RelRow
new_row id label from to = record {
  id = id;
  label = label;
  from = from;
  to = to;
  source_previous = format.nil;
  source_next = format.nil;
  target_previous = format.nil;
  target_next = format.nil;
  property = format.nil;
}

-- An identifier was taken, and then the relationship's record was written.
pub record HasPlaced (s t : State) (label from to id : ℕ) : Type 0 where
  pub took : State
  pub taken : (free : List ℕ) → IsFreeList s.records format.relationships_file free
      → HasTaken s.records took.records format.relationships_file id free
  pub small : id < s.shape.limit
  pub shape : took.shape ≡ s.shape
  pub saved : t ≡ after_put took (rel_key id) (rel_record (new_row id label from to))

-- ---- its chains

-- the same relationship, as the rules see it
abbrev pub edge_row : ℕ → ℕ → ℕ → ℕ → views.RelRow
edge_row id label from to =
    record { id = id; label = label; from = from; to = to; property = format.nil }

-- one relationship more, as a record can say it
abbrev pub one_more : ℕ → ℕ
one_more degree = min (degree + 1) 4294967295

-- The relationship would stand at the end's head. The node has so many relationships, and if it is
-- sparse, there may be one more.
pub record MayStandAt (s : State) (end : EdgeEnd) (row : views.RelRow) : Type 0 where
  pub head : IsEndHead s.records (head_of end.head) end.node row
  pub degree : degree s.records end.node ≡ end.degree
  pub few : kind_at s.records format.nodes_file end.node ≡ format.sparse
      → end.degree < s.shape.threshold
  pub counted : IsCountedHead s.records (head_of end.head)

-- The store keeps the rules, but that the groups of the heads may be empty, and a relationship of
-- the type, whatever its identifier, would stand at the head of each end.
pub record CanJoin (s : State) (names : List (List ℕ)) (label : ℕ) (ends : Ends EdgeEnd)
    : Type 0 where
  pub empty : List ℕ
  pub keeps : KeepsRules s.records s.shape s.shape.threshold empty
  pub into : (g : ℕ) → In g empty → In g (group_of_head (head_of (source_of ends).head))
      ⊎ In g (group_of_head (head_of (target_of ends).head))
  pub named : names ≡ names_of s.records
  pub stands : (id : ℕ) → AtEach (λ (end : EdgeEnd). MayStandAt s end
      (edge_row id label (source_of ends).node (target_of ends).node)) ends

-- after a relationship was put at the front of an end's chain, and the node's degree was written
abbrev pub end_joined : State → EdgeEnd → ℕ → State
end_joined s end rel = joined s (head_of end.head) end.node rel (one_more end.degree)

-- so at each end, one after the other
abbrev pub ends_joined : State → Ends EdgeEnd → ℕ → State
ends_joined s (Loop end) rel = end_joined s end rel
ends_joined s (Two source target) rel = end_joined (end_joined s source rel) target rel

-- the first relationship of an end's chain is one that there can be
abbrev pub IsRightFirst : State → EdgeEnd → Type 0
IsRightFirst s end = IsRightLink s (first_of s.records (head_of end.head))

-- so it is at each end when the relationship is put there
abbrev pub AreRightFirsts : State → Ends EdgeEnd → ℕ → Type 0
AreRightFirsts s (Loop end) rel = IsRightFirst s end
AreRightFirsts s (Two source target) rel =
    IsRightFirst s source × IsRightFirst (end_joined s source rel) target

-- ---- which record is blamed

-- the meta record of the relationships counts more than there is room for
abbrev pub IsHighMark : State → Damage → Type 0
IsHighMark s damage = (damage ≡ mark_damage) × (rel_room s < rel_mark s)

-- The record has the head of the end, whose first link leads nowhere.
pub record IsLostEnd (s : State) (damage : Damage) (end : EdgeEnd) : Type 0 where
  pub key : key_in damage.file damage.id ≡ end.head.key
  pub lost : ¬ IsLowLink s.records (first_of s.records (head_of end.head))

-- so it is at one of the ends
abbrev pub IsOfLost : State → Ends EdgeEnd → Damage → Type 0
IsOfLost s ends damage = AtSome (IsLostEnd s damage) ends

-- no record but relationships, the one of the end's head and its node is other
abbrev pub KeepsBesideEnd : State → State → EdgeEnd → Type 0
KeepsBesideEnd s t end = (key : Key) → key.file ≢ format.relationships_file
    → key ≢ end.head.key → key ≢ key_in format.nodes_file end.node → t.records key ≡ s.records key

-- a record that is blamed is that meta record, or such a record that is as it was found
abbrev pub IsJoinDamage : State → State → Ends EdgeEnd → Damage → Type 0
IsJoinDamage s t ends damage = IsHighMark s damage
    ⊎ (IsOfLost s ends damage × IsAsFound s t damage)

abbrev pub BlamesJoined : State → State → Ends EdgeEnd → ChangeFault → Type 0
BlamesJoined s t ends fault = IfBlames (IsJoinDamage s t ends) fault

-- so at one end
abbrev pub BlamesEndJoined : State → State → EdgeEnd → ChangeFault → Type 0
BlamesEndJoined s t end fault = BlamesJoined s t (Loop end) fault

-- ---- what becomes written

-- at an end: the record of the relationship that was first, the head's and the node's
abbrev pub joined_keys : ℕ → EdgeEnd → List Key
joined_keys first end =
    rel_key first ∷ end.head.key ∷ key_in format.nodes_file end.node ∷ []

-- The relationship's record and those at its ends are all that became written, meta records aside.
pub record WritesJoined (old new : State) (id : ℕ) (ends : Ends EdgeEnd) : Type 0 where
  pub first_source : ℕ
  pub first_target : ℕ
  pub only : WritesOnly old new (rel_key id ∷ joined_keys first_source (source_of ends)
      ++ joined_keys first_target (target_of ends) ++ meta_keys)
