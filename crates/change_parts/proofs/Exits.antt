-- An exit that hands a fault on, and what a fault leaves.
use Rattle.std.specs.Bool.{OnTrue}
use Rattle.std.specs.Prelude.{Result, Ok, Err, IfErr, IsErrAnd, OnOk}
use Rattle.std.proofs.Common.{◌≡◌, ◌<◌, ℕ, Bool, true, false, sym, ap, ◌∙◌, subst, ⊎_elim}
use Rattle.std.proofs.lemmas.Result.{err_from_is_err_and}
use Rattle.rec_bytes.specs.Format.{properties_file, strings_file}
use Rattle.rec_bytes.specs.Space.{SameButReads, State}
use Rattle.change_parts.specs.declared.change_fault.ChangeFault.{ChangeFault}
use Rattle.change_parts.specs.declared.change_fault.ChangeFault.TheVariants.{NoNode, NoEdge, HasRelationships, IndexThere}
use Rattle.change_parts.specs.declared.change_fault.ChangeFault.TheVariants.{TooManyIndexes, IndexTooLarge, Full}
use Rattle.change_parts.specs.declared.change_fault.ChangeFault.TheVariants.{NamesFull, PropsFull, Memory, Disk, Damaged}
use Rattle.rec_bytes.specs.declared.space.SpaceFault.{SpaceFault}
use Rattle.rec_bytes.specs.declared.space.SpaceFault.TheVariants as spaces
use Rattle.prop_store.specs.SetFault.{IsSetCause}
use Rattle.prop_store.specs.declared.set_fault.SetFault.{SetFault}
use Rattle.prop_store.specs.declared.set_fault.SetFault.TheVariants as sets
use Rattle.rec_bytes.specs.Fault.{NotDamaged}
use Rattle.rec_bytes.specs.declared.fault.Fault.{Fault}
use Rattle.rec_bytes.specs.declared.fault.Fault.TheVariants as faults
use Rattle.rec_bytes.specs.declared.row_fault.RowFault.{RowFault}
use Rattle.rec_bytes.specs.declared.row_fault.RowFault.TheVariants as rows
use Rattle.change_parts.specs.ChangeFault.{IsFailure, IsOutside, LeavesSpace, MayComeLate, is_element_file, of_fault, of_row, of_set, of_space}

-- what holds of a fault holds of the result that hands it on
pub fault_exit : {T F : Type 0} (of : F → ChangeFault) (P : ChangeFault → Type 0) (fault : F) (out : Result T ChangeFault) → IsErrAnd out (λ y. y ≡ of fault)
    → P (of fault) → IfErr out P
fault_exit of P fault out gives h = let p = err_from_is_err_and out gives in subst (λ o. IfErr o P) (sym p.1) (subst P (sym p.2) h)

-- what holds of a success, for what follows from it
pub on_ok : {T : Type 0} (r : Result T ChangeFault) (P Q : Type 0) → (P → Q) → OnOk r P → OnOk r Q
on_ok (Ok x) P Q then h = then h
on_ok (Err e) P Q then h = h

-- the result is the fault that is handed on
abbrev the_err : {T : Type 0} → ChangeFault → Result T ChangeFault
the_err fault = Err fault

pub exit_is : {T : Type 0} (fault : ChangeFault) (out : Result T ChangeFault) → IsErrAnd out (λ y. y ≡ fault) → out ≡ Err fault
exit_is fault out gives = let p = err_from_is_err_and out gives in p.1 ∙ ap the_err p.2

-- a space that was only read is left by any fault
pub read_leaves : (s t : State) → SameButReads s t → (fault : ChangeFault) → LeavesSpace s t fault
read_leaves s t same (NoNode id) = same
read_leaves s t same (NoEdge id) = same
read_leaves s t same (HasRelationships id degree) = same
read_leaves s t same IndexThere = same
read_leaves s t same TooManyIndexes = same
read_leaves s t same (IndexTooLarge count) = tt
read_leaves s t same (Full file live) = by (is_element_file file)
  where
    by : (b : Bool) → OnTrue b (SameButReads s t)
    by true = same
    by false = tt
read_leaves s t same (NamesFull count) = tt
read_leaves s t same (PropsFull count) = tt
read_leaves s t same Memory = tt
read_leaves s t same Disk = tt
read_leaves s t same (Damaged damage) = tt

-- so is any space by one that may come late
pub late_leaves : (s t : State) (fault : ChangeFault) → MayComeLate fault → LeavesSpace s t fault
late_leaves s t (NoNode id) late = absurd late
late_leaves s t (NoEdge id) late = absurd late
late_leaves s t (HasRelationships id degree) late = absurd late
late_leaves s t IndexThere late = absurd late
late_leaves s t TooManyIndexes late = absurd late
late_leaves s t (IndexTooLarge count) late = tt
late_leaves s t (Full file live) late = subst (λ b. OnTrue b (SameButReads s t)) (sym late) tt
late_leaves s t (NamesFull count) late = tt
late_leaves s t (PropsFull count) late = tt
late_leaves s t Memory late = tt
late_leaves s t Disk late = tt
late_leaves s t (Damaged damage) late = tt

-- a failure may come late
pub failure_late : (fault : ChangeFault) → IsFailure fault → MayComeLate fault
failure_late (NoNode id) fails = absurd fails
failure_late (NoEdge id) fails = absurd fails
failure_late (HasRelationships id degree) fails = absurd fails
failure_late IndexThere fails = absurd fails
failure_late TooManyIndexes fails = absurd fails
failure_late (IndexTooLarge count) fails = absurd fails
failure_late (Full file live) fails = absurd fails
failure_late (NamesFull count) fails = absurd fails
failure_late (PropsFull count) fails = absurd fails
failure_late Memory fails = tt
failure_late Disk fails = tt
failure_late (Damaged damage) fails = tt

-- ---- faults of the crates below that are no answers

pub fault_outside : (T : Type 0) (fault : Fault) → NotDamaged {T = T} (Err fault) → IsOutside (of_fault fault)
fault_outside T faults.Memory right = tt
fault_outside T faults.Disk right = tt
fault_outside T (faults.Damaged damage) right = absurd right

pub space_outside : (fault : SpaceFault) → IsOutside (of_space fault)
space_outside spaces.Memory = tt
space_outside spaces.Disk = tt

-- ---- faults of the crates below that are failures
pub space_fails : (fault : SpaceFault) → IsFailure (of_space fault)
space_fails spaces.Memory = tt
space_fails spaces.Disk = tt

pub row_fails : (fault : RowFault) → IsFailure (of_row fault)
row_fails rows.Disk = tt
row_fails (rows.Damaged damage) = tt

pub fault_fails : (fault : Fault) → IsFailure (of_fault fault)
fault_fails faults.Memory = tt
fault_fails faults.Disk = tt
fault_fails (faults.Damaged damage) = tt

-- ---- and that may come late

pub set_late : (crowded new : Type 0) (blocks : ℕ) (t : State) (fault : SetFault) → IsSetCause crowded new blocks t fault → MayComeLate (of_set fault)
set_late crowded new blocks t (sets.PropsFull count) why = tt
set_late crowded new blocks t (sets.Full file live) why = ⊎_elim (λ (k : (file ≡ properties_file) × new). ap is_element_file k.0)
    (λ (k : (file ≡ strings_file) × (0 < blocks)). ap is_element_file k.0) why.1
set_late crowded new blocks t sets.Memory why = tt
set_late crowded new blocks t sets.Disk why = tt
set_late crowded new blocks t (sets.Damaged damage) why = tt
