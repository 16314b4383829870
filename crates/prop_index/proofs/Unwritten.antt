-- What is so where a record is blamed, at each exit.
use Rattle.std.proofs.Common.{◌≡◌, Result, Ok, Err, sym, subst}
use Rattle.std.specs.Prelude.{IfErr}
use Rattle.rec_bytes.specs.Fault.{OnDamage}
use Rattle.rec_bytes.specs.declared.fault.Fault.{Fault}
use Rattle.rec_bytes.specs.declared.fault.Fault.TheVariants.{Memory, Disk, Damaged}
use Rattle.rec_bytes.specs.declared.space.SpaceFault.{SpaceFault}
use Rattle.rec_bytes.specs.declared.space.SpaceFault.TheVariants as spaces
use Rattle.id_freelist.specs.TakeFault.{of_space}
use Rattle.id_freelist.specs.declared.take_fault.TakeFault.{TakeFault}
use Rattle.id_freelist.specs.declared.take_fault.TakeFault.TheVariants as takes
use Rattle.prop_index.specs.Unwritten.{IfTakeBlames}
use Rattle.prop_index.specs.Entering.{of_read}

-- it is so whatever the fault is
pub on_damage : {T : Type 0} (r : Result T Fault) (P : Type 0) → P → OnDamage r P
on_damage (Ok x) P p = tt
on_damage (Err Memory) P p = tt
on_damage (Err Disk) P p = tt
on_damage (Err (Damaged damage)) P p = p

-- what follows from it
pub damage_then : {T : Type 0} (r : Result T Fault) (P Q : Type 0) → (P → Q) → OnDamage r P → OnDamage r Q
damage_then (Ok x) P Q f p = tt
damage_then (Err Memory) P Q f p = tt
damage_then (Err Disk) P Q f p = tt
damage_then (Err (Damaged damage)) P Q f p = f p

pub on_blame : {T : Type 0} (r : Result T TakeFault) (P : Type 0) → P → IfErr r (IfTakeBlames P)
on_blame (Ok x) P p = tt
on_blame (Err (takes.Full file live)) P p = tt
on_blame (Err takes.Memory) P p = tt
on_blame (Err takes.Disk) P p = tt
on_blame (Err (takes.Damaged damage)) P p = p

pub blame_then : {T : Type 0} (r : Result T TakeFault) (P Q : Type 0) → (P → Q) → IfErr r (IfTakeBlames P) → IfErr r (IfTakeBlames Q)
blame_then (Ok x) P Q f p = tt
blame_then (Err (takes.Full file live)) P Q f p = tt
blame_then (Err takes.Memory) P Q f p = tt
blame_then (Err takes.Disk) P Q f p = tt
blame_then (Err (takes.Damaged damage)) P Q f p = f p

-- a failure of the space blames none
pub space_blames : (P : Type 0) (fault : SpaceFault) → IfTakeBlames P (of_space fault)
space_blames P spaces.Memory = tt
space_blames P spaces.Disk = tt

-- nor does more than a read come before a fault that is handed on as one of a change
pub read_unwritten : (handed : TakeFault) (fault : Fault) (P : Type 0) → handed ≡ of_read fault → P → IfTakeBlames P handed
read_unwritten handed Memory P is p = subst (IfTakeBlames P) (sym is) tt
read_unwritten handed Disk P is p = subst (IfTakeBlames P) (sym is) tt
read_unwritten handed (Damaged damage) P is p = subst (IfTakeBlames P) (sym is) p
