-- The ends of a relationship, which are one or two.
use Rattle.std.proofs.Common.{ℕ, subst}
use Rattle.edge_changes.specs.EdgeAdding.{LeadFrom}
use Rattle.edge_changes.specs.EdgeEnds.{AtEach, source_of, target_of}
use Rattle.edge_changes.specs.declared.edge_end.EndDegree.{EndDegree}
use Rattle.edge_changes.specs.declared.edge_end.Ends.{Ends}
use Rattle.edge_changes.specs.declared.edge_end.Ends.TheVariants.{Loop, Two}

-- what is so at each end is so at the source, and at the target
pub at_source : {T : Type 0} (at : T → Type 0) (ends : Ends T) → AtEach at ends → at (source_of ends)
at_source at (Loop end) is = is
at_source at (Two source target) is = is.0

pub at_target : {T : Type 0} (at : T → Type 0) (ends : Ends T) → AtEach at ends → at (target_of ends)
at_target at (Loop end) is = is
at_target at (Two source target) is = is.1

-- and what follows from it is so at each
pub at_more : {T : Type 0} (at more : T → Type 0) (ends : Ends T) → ((end : T) → at end → more end) → AtEach at ends → AtEach more ends
at_more at more (Loop end) follows is = follows end is
at_more at more (Two source target) follows is = (follows source is.0, follows target is.1)

-- what is so of the nodes of an edge's ends
pub at_nodes : (at : ℕ → ℕ → Type 0) (ends : Ends EndDegree) (from to : ℕ) → LeadFrom ends from to → at (source_of ends).node (target_of ends).node → at from to
at_nodes at ends from to lead is = subst (λ n. at n to) lead.leaves (subst (λ n. at (source_of ends).node n) lead.enters is)
