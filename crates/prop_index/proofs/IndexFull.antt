-- The file of the index is full only where a take says so.
use Rattle.std.specs.Prelude.{Result, Ok, Err, IfErr}
use Rattle.std.proofs.Common.{ℕ, subst, sym}
use Rattle.rec_bytes.specs.declared.fault.Fault.{Fault}
use Rattle.rec_bytes.specs.declared.fault.Fault.TheVariants as faults
use Rattle.rec_bytes.specs.Format as format
use Rattle.rec_bytes.specs.Space.{SameButReads, State}
use Rattle.rec_bytes.specs.Fault as reads
use Rattle.id_freelist.specs.TakeFault as writes
use Rattle.id_freelist.specs.Taking.{IsTakeFault}
use Rattle.id_freelist.specs.declared.take_fault.TakeFault.{TakeFault}
use Rattle.id_freelist.specs.declared.take_fault.TakeFault.TheVariants as takes
use Rattle.prop_index.specs.Entering.{IsIndexFull, IsNotFull, of_read}

-- a refused take
pub take-full : (s : State) (f : TakeFault) → IsTakeFault s format.index_file f → IsIndexFull s f
take-full s (takes.Full file live) is = is
take-full s takes.Memory is = tt
take-full s takes.Disk is = tt
take-full s (takes.Damaged damage) is = tt

-- a read says nothing of it
pub read-full : (s : State) (f : Fault) → IsIndexFull s (of_read f)
read-full s faults.Memory = tt
read-full s faults.Disk = tt
read-full s (faults.Damaged damage) = tt

pub read-unfull : (f : Fault) → IsNotFull (of_read f)
read-unfull faults.Memory = tt
read-unfull faults.Disk = tt
read-unfull (faults.Damaged damage) = tt

-- reads before a change
same-full : (s : State) (reads : ℕ) (f : TakeFault) → IsIndexFull (record s { reads = reads }) f → IsIndexFull s f
same-full s reads (takes.Full file live) is = is
same-full s reads takes.Memory is = tt
same-full s reads takes.Disk is = tt
same-full s reads (takes.Damaged damage) is = tt

pub full-reread : {T : Type 0} (s z : State) (r : Result T TakeFault) → SameButReads s z → IfErr r (IsIndexFull z) → IfErr r (IsIndexFull s)
full-reread s z (Ok x) same is = tt
full-reread s z (Err f) same is = same-full s z.reads f (subst (λ (y : State). IsIndexFull y f) same is)

-- reads after it
pub full-after : (s z : State) (f : TakeFault) → SameButReads s z → IsIndexFull s f → IsIndexFull z f
full-after s z f same is = subst (λ (y : State). IsIndexFull y f) (sym same) (by f is)
  where
    by : (f : TakeFault) → IsIndexFull s f → IsIndexFull (record s { reads = z.reads }) f
    by (takes.Full file live) is = is
    by takes.Memory is = tt
    by takes.Disk is = tt
    by (takes.Damaged damage) is = tt

-- a fault that blames no record stays one
pub read-sound : (f : Fault) → reads.NotDamaged {T = ℕ} (Err f) → writes.NotDamaged {T = ℕ} (Err (of_read f))
read-sound faults.Memory is = tt
read-sound faults.Disk is = tt
read-sound (faults.Damaged damage) is = is
