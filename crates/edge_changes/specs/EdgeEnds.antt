-- The ends of a relationship, and what a change of it at them leaves.
use Rattle.std.specs.Prelude.{◌≡◌, ◌≢◌, ℕ, ◌-◌, true, List, [], ◌∷◌, ◌++◌, ◌⊎◌}
use Rattle.rec_bytes.specs.declared.key.Key.{Key}
use Rattle.rec_bytes.specs.Format as format
use Rattle.rec_bytes.specs.Key.{IsKey}
use Rattle.rec_bytes.specs.RecordFiles.{is_meta_file}
use Rattle.rec_bytes.specs.Space.{State, after_set}
use Rattle.rel_store.specs.RelRecord.{rel_key}
use Rattle.store_rules.specs.Breaking.{IsHeadOf}
use Rattle.store_rules.specs.Ends.{group_of_head}
use Rattle.store_rules.specs.Rules.{Head}
use Rattle.store_rules.specs.Views.{Records, key_in}
use Rattle.chain_edit.specs.Chains.{next_of, prev_of}
use Rattle.chain_edit.specs.Heads.{IsHead, head_of}
use Rattle.chain_edit.specs.Links.{IsRightLink}
use Rattle.chain_edit.specs.Pushing.{pushed}
use Rattle.chain_edit.specs.Unlinking.{CanUnlink, unlinked}
use Rattle.group_store.specs.Counting.{one_less, one_more, tallied}
use Rattle.edge_changes.specs.declared.edge_end.EdgeEnd.{EdgeEnd}
use Rattle.edge_changes.specs.declared.edge_end.Ends.{Ends}
use Rattle.edge_changes.specs.declared.edge_end.Ends.TheVariants.{Loop, Two}

-- the end that the relationship leaves
abbrev pub source_of : {T : Type 0} → Ends T → T
source_of (Loop end) = end
source_of (Two source target) = source

-- and the one that it enters
abbrev pub target_of : {T : Type 0} → Ends T → T
target_of (Loop end) = end
target_of (Two source target) = target

-- so it is at each end
abbrev pub AtEach : {T : Type 0} → (T → Type 0) → Ends T → Type 0
AtEach at (Loop end) = at end
AtEach at (Two source target) = at source × at target

-- so it is at one of them
abbrev pub AtSome : {T : Type 0} → (T → Type 0) → Ends T → Type 0
AtSome at (Loop end) = at end
AtSome at (Two source target) = at source ⊎ at target

-- the node of an end has its head
abbrev pub HasHead : Records → EdgeEnd → Type 0
HasHead records end = IsHeadOf records (head_of end.head) end.node

-- two ends are at two nodes
abbrev pub AreApart : {T : Type 0} → (T → ℕ) → Ends T → Type 0
AreApart node_of (Loop end) = Unit {0}
AreApart node_of (Two source target) = node_of source ≢ node_of target

-- a node and a head that a store can have, in a file with a meta record
pub record IsEdgeEnd (end : EdgeEnd) : Type 0 where
  pub node : IsKey (key_in format.nodes_file end.node)
  pub head : IsHead (head_of end.head)
  pub own : is_meta_file end.head.key.file ≡ true

-- Each end is one, and two are at two nodes.
pub record AreEdgeEnds (ends : Ends EdgeEnd) : Type 0 where
  pub each : AtEach IsEdgeEnd ends
  pub apart : AreApart (λ (end : EdgeEnd). end.node) ends

-- after a relationship was put at the front of a node's chain and counted there, and the node got
-- this degree
unfoldable pub joined : State → Head → ℕ → ℕ → ℕ → State
joined s head node rel degree =
    after_set (tallied one_more (pushed s head node rel) head) (key_in format.nodes_file node) 4
    format.node_degree degree

-- after it was taken out of the chain, and the node got this degree
unfoldable pub parted : State → Head → ℕ → ℕ → ℕ → State
parted s head node rel degree =
    after_set (tallied one_less (unlinked s head node rel) head) (key_in format.nodes_file node) 4
    format.node_degree degree

-- so at an end, whose node has one relationship less
abbrev pub end_parted : State → EdgeEnd → ℕ → State
end_parted s end rel = parted s (head_of end.head) end.node rel (end.degree - 1)

-- and at each, one after the other
abbrev pub ends_parted : State → Ends EdgeEnd → ℕ → State
ends_parted s (Loop end) rel = end_parted s end rel
ends_parted s (Two source target) rel = end_parted (end_parted s source rel) target rel

-- the groups that the heads of the ends are in
abbrev pub end_groups : Ends EdgeEnd → List ℕ
end_groups (Loop end) = group_of_head (head_of end.head) ++ []
end_groups (Two source target) =
    group_of_head (head_of source.head) ++ (group_of_head (head_of target.head) ++ [])

-- The relationship is in the end's chain, and its neighbours there are relationships that there can
-- be.
abbrev pub HasRightLinks : State → EdgeEnd → ℕ → Type 0
HasRightLinks s end rel = IsRightLink s (prev_of s.records end.node rel)
    × IsRightLink s (next_of s.records end.node rel)
    × (xs : List ℕ) × CanUnlink s.records (head_of end.head) end.node rel xs

-- so it is at each end when the relationship is taken out there
abbrev pub HaveRightLinks : State → Ends EdgeEnd → ℕ → Type 0
HaveRightLinks s (Loop end) rel = HasRightLinks s end rel
HaveRightLinks s (Two source target) rel =
    HasRightLinks s source rel × HasRightLinks (end_parted s source rel) target rel

-- the records that a change at an end is made in: two neighbours, the head's and the node's
abbrev pub end_keys : ℕ → ℕ → EdgeEnd → List Key
end_keys before after end =
    rel_key before ∷ rel_key after ∷ end.head.key ∷ key_in format.nodes_file end.node ∷ []
