-- Faults of the crates below as refusals of a change.
use Rattle.std.specs.Prelude.{◌≡◌, ℕ, nat_eq, Bool, false, ◌||◌, Result}
use Rattle.std.specs.Bool.{OnTrue}
use Rattle.rec_bytes.specs.Format as format
use Rattle.rec_bytes.specs.declared.space.SpaceFault.{SpaceFault}
use Rattle.rec_bytes.specs.declared.space.SpaceFault.TheVariants as space
use Rattle.rec_bytes.specs.declared.row_fault.RowFault.{RowFault}
use Rattle.rec_bytes.specs.declared.row_fault.RowFault.TheVariants as row
use Rattle.rec_bytes.specs.declared.fault.Fault.{Fault}
use Rattle.rec_bytes.specs.declared.fault.Fault.TheVariants as faults
use Rattle.rec_bytes.specs.Cause.{HasDiskCause}
use Rattle.rec_bytes.specs.Space.{State, SameButReads}
use Rattle.id_freelist.specs.declared.take_fault.TakeFault.{TakeFault}
use Rattle.id_freelist.specs.declared.take_fault.TakeFault.TheVariants as take
use Rattle.group_store.specs.declared.open_fault.OpenFault.{OpenFault}
use Rattle.group_store.specs.declared.open_fault.OpenFault.TheVariants as opens
use Rattle.name_store.specs.declared.intern_fault.InternFault.{InternFault}
use Rattle.name_store.specs.declared.intern_fault.InternFault.TheVariants as intern
use Rattle.prop_index.specs.declared.make_fault.MakeFault.{MakeFault}
use Rattle.prop_index.specs.declared.make_fault.MakeFault.TheVariants as makes
use Rattle.prop_store.specs.declared.set_fault.SetFault.{SetFault}
use Rattle.prop_store.specs.declared.set_fault.SetFault.TheVariants as set
use Rattle.change_parts.specs.declared.change_fault.ChangeFault.{ChangeFault}
use Rattle.change_parts.specs.declared.change_fault.ChangeFault.TheVariants.{NoNode, NoEdge}
use Rattle.change_parts.specs.declared.change_fault.ChangeFault.TheVariants.{HasRelationships, Full}
use Rattle.change_parts.specs.declared.change_fault.ChangeFault.TheVariants.{IndexThere}
use Rattle.change_parts.specs.declared.change_fault.ChangeFault.TheVariants.{TooManyIndexes}
use Rattle.change_parts.specs.declared.change_fault.ChangeFault.TheVariants.{IndexTooLarge}
use Rattle.change_parts.specs.declared.change_fault.ChangeFault.TheVariants.{NamesFull, PropsFull}
use Rattle.change_parts.specs.declared.change_fault.ChangeFault.TheVariants.{Memory, Disk, Damaged}

abbrev pub of_space : SpaceFault → ChangeFault
of_space space.Memory = Memory
of_space space.Disk = Disk

abbrev pub of_take : TakeFault → ChangeFault
of_take (take.Full file live) = Full file live
of_take take.Memory = Memory
of_take take.Disk = Disk
of_take (take.Damaged damage) = Damaged damage

abbrev pub of_intern : InternFault → ChangeFault
of_intern (intern.NamesFull count) = NamesFull count
of_intern intern.Memory = Memory
of_intern intern.Disk = Disk

abbrev pub of_row : RowFault → ChangeFault
of_row row.Disk = Disk
of_row (row.Damaged damage) = Damaged damage

abbrev pub of_fault : Fault → ChangeFault
of_fault faults.Memory = Memory
of_fault faults.Disk = Disk
of_fault (faults.Damaged damage) = Damaged damage

abbrev pub of_open : OpenFault → ChangeFault
of_open (opens.Full live) = Full format.groups_file live
of_open opens.Memory = Memory
of_open opens.Disk = Disk
of_open (opens.Damaged damage) = Damaged damage

abbrev pub of_set : SetFault → ChangeFault
of_set (set.PropsFull count) = PropsFull count
of_set (set.Full file live) = Full file live
of_set set.Memory = Memory
of_set set.Disk = Disk
of_set (set.Damaged damage) = Damaged damage

abbrev pub of_make : MakeFault → ChangeFault
of_make makes.There = IndexThere
of_make makes.Many = TooManyIndexes
of_make (makes.TooLarge count) = IndexTooLarge count
of_make (makes.Full live) = Full format.index_file live
of_make makes.Memory = Memory
of_make makes.Disk = Disk
of_make (makes.Damaged damage) = Damaged damage

-- a failure of the machine, and no answer about the graph
abbrev pub IsOutside : ChangeFault → Type 0
IsOutside (NoNode id) = ⊥
IsOutside (NoEdge id) = ⊥
IsOutside (HasRelationships id degree) = ⊥
IsOutside IndexThere = ⊥
IsOutside TooManyIndexes = ⊥
IsOutside (IndexTooLarge count) = ⊥
IsOutside (Full file live) = ⊥
IsOutside (NamesFull count) = ⊥
IsOutside (PropsFull count) = ⊥
IsOutside Memory = Unit {0}
IsOutside Disk = Unit {0}
IsOutside (Damaged damage) = ⊥

-- a failure of the machine or a damaged record, and no other answer about the graph
abbrev pub IsFailure : ChangeFault → Type 0
IsFailure (NoNode id) = ⊥
IsFailure (NoEdge id) = ⊥
IsFailure (HasRelationships id degree) = ⊥
IsFailure IndexThere = ⊥
IsFailure TooManyIndexes = ⊥
IsFailure (IndexTooLarge count) = ⊥
IsFailure (Full file live) = ⊥
IsFailure (NamesFull count) = ⊥
IsFailure (PropsFull count) = ⊥
IsFailure Memory = Unit {0}
IsFailure Disk = Unit {0}
IsFailure (Damaged damage) = Unit {0}

-- files of nodes and of edges
abbrev pub is_element_file : ℕ → Bool
is_element_file file = nat_eq file format.nodes_file || nat_eq file format.relationships_file

-- It may come after a write: it is no answer about a node, an edge or their room.
abbrev pub MayComeLate : ChangeFault → Type 0
MayComeLate (NoNode id) = ⊥
MayComeLate (NoEdge id) = ⊥
MayComeLate (HasRelationships id degree) = ⊥
MayComeLate IndexThere = ⊥
MayComeLate TooManyIndexes = ⊥
MayComeLate (IndexTooLarge count) = Unit {0}
MayComeLate (Full file live) = is_element_file file ≡ false
MayComeLate (NamesFull count) = Unit {0}
MayComeLate (PropsFull count) = Unit {0}
MayComeLate Memory = Unit {0}
MayComeLate Disk = Unit {0}
MayComeLate (Damaged damage) = Unit {0}

-- A refusal for a node, an edge or their room comes before the first write. Another one may come
-- after some, and the caller drops the draft.
abbrev pub LeavesSpace : State → State → ChangeFault → Type 0
LeavesSpace old new (NoNode id) = SameButReads old new
LeavesSpace old new (NoEdge id) = SameButReads old new
LeavesSpace old new (HasRelationships id degree) = SameButReads old new
LeavesSpace old new IndexThere = SameButReads old new
LeavesSpace old new TooManyIndexes = SameButReads old new
LeavesSpace old new (IndexTooLarge count) = Unit {0}
LeavesSpace old new (Full file live) = OnTrue (is_element_file file) (SameButReads old new)
LeavesSpace old new (NamesFull count) = Unit {0}
LeavesSpace old new (PropsFull count) = Unit {0}
LeavesSpace old new Memory = Unit {0}
LeavesSpace old new Disk = Unit {0}
LeavesSpace old new (Damaged damage) = Unit {0}

-- the disk is blamed only where it failed
abbrev pub HasChangeCause : {T : Type 0} → ℕ → ℕ → Result T ChangeFault → Type 0
HasChangeCause before now result = HasDiskCause Disk before now result
