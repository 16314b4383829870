-- What refusals count.
use Rattle.std.proofs.Common.{◌≡◌, ℕ, List, sym, ap, ◌∙◌, subst, ⊎_elim}
use Rattle.rec_bytes.specs.declared.meta.Meta.{Meta}
use Rattle.rec_bytes.specs.Format as format
use Rattle.rec_bytes.specs.Space.{SameButReads, State, meta_of}
use Rattle.name_store.specs.Interning.{IsFullFault}
use Rattle.name_store.specs.declared.intern_fault.InternFault.{InternFault}
use Rattle.name_store.specs.declared.intern_fault.InternFault.TheVariants as intern
use Rattle.change_parts.specs.declared.change_fault.ChangeFault.{ChangeFault}
use Rattle.change_parts.specs.declared.change_fault.ChangeFault.TheVariants.{NoNode, NoEdge, HasRelationships, IndexThere, TooManyIndexes, IndexTooLarge, Full}
use Rattle.change_parts.specs.declared.change_fault.ChangeFault.TheVariants.{NamesFull, PropsFull, Memory, Disk, Damaged}
use Rattle.change_parts.specs.Assigning.{IsAssignCount, IsReserveFault}
use Rattle.change_parts.specs.Change.{IsCounted, IsSetCount}
use Rattle.change_parts.specs.ChangeFault.{IsOutside, of_intern, of_set}
use Rattle.prop_store.specs.SetFault.{IsSetCause}
use Rattle.prop_store.specs.declared.set_fault.SetFault.{SetFault}
use Rattle.prop_store.specs.declared.set_fault.SetFault.TheVariants as sets
use Rattle.rec_bytes.specs.declared.shape.Shape.{Shape}
use Rattle.change_parts.specs.Degrees.{HasDegree}
use Rattle.change_parts.specs.Owners.{IsAbsent, MayMiss}
use Rattle.change_parts.specs.Rooms.{HasRoom, KeepsElementMetas, LacksRoom}
use Rattle.plain_graph.specs.declared.command.Target.{Target}

-- ---- names and keys that are too many
pub count_full : (names : List (List ℕ)) (text : List ℕ) (fault : InternFault) → IsFullFault names text fault → IsAssignCount (of_intern fault)
count_full names text (intern.NamesFull count) why = why.is ∙ why.all
count_full names text intern.Memory why = tt
count_full names text intern.Disk why = tt

pub assign_counted : (s : State) (fault : ChangeFault) → IsAssignCount fault → IsCounted s fault
assign_counted s (NoNode id) why = tt
assign_counted s (NoEdge id) why = tt
assign_counted s (HasRelationships id degree) why = absurd why
assign_counted s IndexThere why = absurd why
assign_counted s TooManyIndexes why = absurd why
assign_counted s (IndexTooLarge count) why = absurd why
assign_counted s (Full file live) why = absurd why
assign_counted s (NamesFull count) why = why
assign_counted s (PropsFull count) why = why
assign_counted s Memory why = tt
assign_counted s Disk why = tt
assign_counted s (Damaged damage) why = tt

-- ---- a file without room
pub room_counted : (s t : State) (file needed : ℕ) → meta_of t file ≡ meta_of s file → (fault : ChangeFault) → LacksRoom t file needed fault → IsCounted s fault
room_counted s t file needed same fault why = subst (IsCounted s) (sym why.is) (ap (λ (m : Meta). m.live) same)

pub reserve_counted : (s t : State) (count blocks : ℕ) → KeepsElementMetas s t → (fault : ChangeFault) → IsReserveFault t count blocks fault → IsCounted s fault
reserve_counted s t count blocks metas fault why = ⊎_elim
    (λ (k : LacksRoom t format.properties_file count fault). room_counted s t format.properties_file count metas.properties fault k)
    (λ (k : HasRoom t format.properties_file count × LacksRoom t format.strings_file blocks fault). room_counted s t format.strings_file blocks metas.blocks
    fault k.1) why

-- ---- no count at all
pub outside_counted : (s : State) (fault : ChangeFault) → IsOutside fault → IsCounted s fault
outside_counted s (NoNode id) why = tt
outside_counted s (NoEdge id) why = tt
outside_counted s (HasRelationships id degree) why = absurd why
outside_counted s IndexThere why = absurd why
outside_counted s TooManyIndexes why = absurd why
outside_counted s (IndexTooLarge count) why = absurd why
outside_counted s (Full file live) why = absurd why
outside_counted s (NamesFull count) why = absurd why
outside_counted s (PropsFull count) why = absurd why
outside_counted s Memory why = tt
outside_counted s Disk why = tt
outside_counted s (Damaged damage) why = tt

pub absent_counted : (s : State) (target : Target) (fault : ChangeFault) → IsAbsent s target fault → IsCounted s fault
absent_counted s target (NoNode id) why = tt
absent_counted s target (NoEdge id) why = tt
absent_counted s target (HasRelationships id degree) why = absurd why
absent_counted s target IndexThere why = absurd why
absent_counted s target TooManyIndexes why = absurd why
absent_counted s target (IndexTooLarge count) why = absurd why
absent_counted s target (Full file live) why = absurd why
absent_counted s target (NamesFull count) why = absurd why
absent_counted s target (PropsFull count) why = absurd why
absent_counted s target Memory why = tt
absent_counted s target Disk why = tt
absent_counted s target (Damaged damage) why = tt

-- ---- after reads
pub counted_read : (s t : State) → SameButReads s t → (fault : ChangeFault) → IsCounted t fault → IsCounted s fault
counted_read s t same (NoNode id) why = tt
counted_read s t same (NoEdge id) why = tt
counted_read s t same (HasRelationships id degree) why = subst (λ (z : State). HasDegree z.records id degree) same why
counted_read s t same IndexThere why = why
counted_read s t same TooManyIndexes why = why
counted_read s t same (IndexTooLarge count) why = why
counted_read s t same (Full file live) why = subst (λ (z : State). live ≡ (meta_of z file).live) same why
counted_read s t same (NamesFull count) why = why
counted_read s t same (PropsFull count) why = why
counted_read s t same Memory why = tt
counted_read s t same Disk why = tt
counted_read s t same (Damaged damage) why = tt

-- ---- a value
pub set_exact : (crowded new : Type 0) (blocks : ℕ) (t : State) (fault : SetFault) → IsSetCause crowded new blocks t fault → IsSetCount t.shape (of_set fault)
set_exact crowded new blocks t (sets.PropsFull count) why = why.0
set_exact crowded new blocks t (sets.Full file live) why = why.0.1
set_exact crowded new blocks t sets.Memory why = tt
set_exact crowded new blocks t sets.Disk why = tt
set_exact crowded new blocks t (sets.Damaged damage) why = tt

pub named_exact : (shape : Shape) (fault : ChangeFault) → IsAssignCount fault → IsSetCount shape fault
named_exact shape (NoNode id) why = tt
named_exact shape (NoEdge id) why = tt
named_exact shape (HasRelationships id degree) why = why
named_exact shape IndexThere why = why
named_exact shape TooManyIndexes why = why
named_exact shape (IndexTooLarge count) why = why
named_exact shape (Full file live) why = absurd why
named_exact shape (NamesFull count) why = why
named_exact shape (PropsFull count) why = why
named_exact shape Memory why = tt
named_exact shape Disk why = tt
named_exact shape (Damaged damage) why = tt

pub element_exact : (shape : Shape) (fault : ChangeFault) → MayMiss fault → IsSetCount shape fault
element_exact shape (NoNode id) why = tt
element_exact shape (NoEdge id) why = tt
element_exact shape (HasRelationships id degree) why = why
element_exact shape IndexThere why = why
element_exact shape TooManyIndexes why = why
element_exact shape (IndexTooLarge count) why = why
element_exact shape (Full file live) why = absurd why
element_exact shape (NamesFull count) why = absurd why
element_exact shape (PropsFull count) why = absurd why
element_exact shape Memory why = tt
element_exact shape Disk why = tt
element_exact shape (Damaged damage) why = tt
