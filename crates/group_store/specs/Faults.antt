-- A call that takes no memory.
use Rattle.std.specs.Prelude.{Result, Ok, Err}
use Rattle.rec_bytes.specs.declared.fault.Fault.{Fault}
use Rattle.rec_bytes.specs.declared.fault.Fault.TheVariants.{Memory, Disk, Damaged}

-- no want of memory is told
abbrev pub TakesNoMemory : {T : Type 0} → Result T Fault → Type 0
TakesNoMemory (Ok value) = Unit {0}
TakesNoMemory (Err Memory) = ⊥
TakesNoMemory (Err Disk) = Unit {0}
TakesNoMemory (Err (Damaged damage)) = Unit {0}
