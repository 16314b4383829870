-- What is so where a fault of a change blames a record.
use Rattle.id_freelist.specs.declared.take_fault.TakeFault.{TakeFault}
use Rattle.id_freelist.specs.declared.take_fault.TakeFault.TheVariants as takes

-- this is so where a record is blamed
abbrev pub IfTakeBlames : Type 0 → TakeFault → Type 0
IfTakeBlames P (takes.Full file live) = Unit {0}
IfTakeBlames P takes.Memory = Unit {0}
IfTakeBlames P takes.Disk = Unit {0}
IfTakeBlames P (takes.Damaged damage) = P
