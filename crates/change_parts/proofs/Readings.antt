-- A space that was only read: what it stands for, and what a change of it is.
use Rattle.std.specs.Bool.{OnTrue}
use Rattle.std.proofs.Common.{◌≡◌, ℕ, Bool, true, false, List, sym, subst}
use Rattle.plain_graph.specs.Graph.{has_element, Graph}
use Rattle.plain_graph.specs.Refusals.{Reason}
use Rattle.plain_graph.specs.Reply.{Reply}
use Rattle.plain_graph.specs.declared.command.Command.{Command}
use Rattle.plain_graph.specs.declared.command.Target.{Target}
use Rattle.rec_bytes.specs.Space.{SameButReads, State}
use Rattle.change_parts.specs.Change.{IsRefusedBy, MakesChange, IsRefusal}
use Rattle.change_parts.specs.ChangeFault.{LeavesSpace, is_element_file, of_fault}
use Rattle.change_parts.specs.Store.{IsMidway}
use Rattle.change_parts.specs.declared.change_fault.ChangeFault.{ChangeFault}
use Rattle.change_parts.specs.declared.change_fault.ChangeFault.TheVariants.{NoNode, NoEdge, HasRelationships, IndexThere, TooManyIndexes, IndexTooLarge, Full}
use Rattle.change_parts.specs.declared.change_fault.ChangeFault.TheVariants.{NamesFull, PropsFull, Memory, Disk, Damaged}
use Rattle.change_parts.proofs.Elements.{same_both}
use Rattle.std.specs.Prelude.{Err}
use Rattle.rec_bytes.specs.Fault.{NotDamaged}
use Rattle.rec_bytes.specs.declared.fault.Fault.{Fault}
use Rattle.rec_bytes.specs.declared.fault.Fault.TheVariants as prop
use Rattle.store_rules.specs.Graph.{graph_in}

-- it is the same store
pub store_read : (s m : State) (names : List (List ℕ)) → SameButReads s m → IsMidway s names → IsMidway m names
store_read s m names same store = subst (λ z. IsMidway z names) (sym same) (record { store = store.store; names = store.names })

-- a change of it is one of the space before
pub made_read : (s m u : State) (names : List (List ℕ)) (command : Command) (reply : Reply) (weight : ℕ) → SameButReads s m
    → MakesChange command reply weight m u names → MakesChange command reply weight s u names
made_read s m u names command reply weight same h =
    let k = subst (λ z. MakesChange command reply weight z u names) same h in
    record { store = k.store; changes = k.changes; weighs = k.weighs; free = k.free }

-- an element that is there is still there
pub there_read : (s m : State) (target : Target) → SameButReads s m → has_element (graph_in s) target ≡ true → has_element (graph_in m) target ≡ true
there_read s m target same there = subst (λ z. has_element (graph_in z) target ≡ true) (sym same) there

-- what refuses a change of it refuses one of the space before
pub refused_read : (s m : State) (reasons : List Reason) (command : Command) (fault : ChangeFault) → SameButReads s m
    → IsRefusedBy reasons m.shape.limit (graph_in m) command fault → IsRefusedBy reasons s.shape.limit (graph_in s) command fault
refused_read s m reasons command fault same h = subst (λ z. IsRefusedBy reasons z.shape.limit (graph_in z) command fault) same h

-- a space that a fault leaves is left by it if it was read before
pub leaves_read : (s m t : State) → SameButReads s m → (fault : ChangeFault) → LeavesSpace m t fault → LeavesSpace s t fault
leaves_read s m t same (NoNode id) h = same_both s m t same h
leaves_read s m t same (NoEdge id) h = same_both s m t same h
leaves_read s m t same (HasRelationships id degree) h = same_both s m t same h
leaves_read s m t same IndexThere h = same_both s m t same h
leaves_read s m t same TooManyIndexes h = same_both s m t same h
leaves_read s m t same (IndexTooLarge count) h = tt
leaves_read s m t same (Full file live) h = by (is_element_file file) h
  where
    by : (b : Bool) → OnTrue b (SameButReads m t) → OnTrue b (SameButReads s t)
    by true k = same_both s m t same k
    by false k = tt
leaves_read s m t same (NamesFull count) h = tt
leaves_read s m t same (PropsFull count) h = tt
leaves_read s m t same Memory h = tt
leaves_read s m t same Disk h = tt
leaves_read s m t same (Damaged damage) h = tt

pub prop_refused : (limit : ℕ) (graph : Graph) (command : Command) (fault : Fault) → NotDamaged {T = ℕ} (Err fault)
    → IsRefusal limit graph command (of_fault fault)
prop_refused limit graph command prop.Memory h = tt
prop_refused limit graph command prop.Disk h = tt
prop_refused limit graph command (prop.Damaged damage) h = absurd h
