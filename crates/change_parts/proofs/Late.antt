-- Exits by faults that may come late: they leave any space, and are no answers.
use Rattle.std.specs.Prelude.{Result, Ok, Err, IsErr, IsErrAnd}
use Rattle.std.proofs.Common.{ℕ, List, sym, subst, ⊎_elim, refl}
use Rattle.plain_graph.specs.declared.pairs.Pair.{Pair}
use Rattle.rec_bytes.specs.Space.{State}
use Rattle.name_store.specs.declared.intern_fault.InternFault.{InternFault}
use Rattle.name_store.specs.declared.intern_fault.InternFault.TheVariants as intern
use Rattle.change_parts.specs.Assigning.{IsAssignFault, IsReserveFault}
use Rattle.change_parts.specs.ChangeFault.{MayComeLate, of_intern}
use Rattle.change_parts.specs.declared.change_fault.ChangeFault.{ChangeFault}
use Rattle.change_parts.specs.declared.change_fault.ChangeFault.TheVariants.{NoNode, NoEdge, HasRelationships, IndexThere, TooManyIndexes, IndexTooLarge, Full}
use Rattle.change_parts.specs.declared.change_fault.ChangeFault.TheVariants.{NamesFull, PropsFull, Memory, Disk, Damaged}

pub is_err : {T E : Type 0} (r : Result T E) (Q : E → Type 0) → IsErrAnd r Q → IsErr r
is_err (Ok x) Q is = absurd is
is_err (Err e) Q is = refl

pub intern_late : (fault : InternFault) → MayComeLate (of_intern fault)
intern_late (intern.NamesFull count) = tt
intern_late intern.Memory = tt
intern_late intern.Disk = tt

pub assign_late : (names : List (List ℕ)) (pairs : List Pair) (fault : ChangeFault) → IsAssignFault names pairs fault → MayComeLate fault
assign_late names pairs (NoNode id) why = absurd why
assign_late names pairs (NoEdge id) why = absurd why
assign_late names pairs (HasRelationships id degree) why = absurd why
assign_late names pairs IndexThere why = absurd why
assign_late names pairs TooManyIndexes why = absurd why
assign_late names pairs (IndexTooLarge count) why = absurd why
assign_late names pairs (Full file live) why = absurd why
assign_late names pairs (NamesFull count) why = tt
assign_late names pairs (PropsFull count) why = tt
assign_late names pairs Memory why = tt
assign_late names pairs Disk why = tt
assign_late names pairs (Damaged damage) why = absurd why

pub reserve_late : (s : State) (count blocks : ℕ) (fault : ChangeFault) → IsReserveFault s count blocks fault → MayComeLate fault
reserve_late s count blocks fault = ⊎_elim (λ lacks. subst MayComeLate (sym lacks.is) refl) (λ k. subst MayComeLate (sym k.1.is) refl)
