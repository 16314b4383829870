-- A record that is called damaged where an edge is deleted breaks the rule.
use Rattle.std.proofs.Common.{ℕ, sym, subst, inl}
use Rattle.rec_bytes.specs.declared.fault.Fault.{Fault}
use Rattle.rec_bytes.specs.declared.fault.Fault.TheVariants as faults
use Rattle.rec_bytes.specs.Space.{SameButReads, State}
use Rattle.store_rules.specs.Breaking.{Breaks}
use Rattle.std.specs.Prelude.{IfSome}
use Rattle.rec_bytes.specs.Fault.{damage_of}
use Rattle.chain_edit.specs.Breaks.{IsBreakFault}
use Rattle.chain_edit.specs.Walking.{ReadsAtMost}
use Rattle.group_store.proofs.ChainHeads.{only_read}
use Rattle.change_parts.specs.ChangeFault.{of_fault}
use Rattle.change_parts.specs.Damage.{BlamesBroken}

-- a call that writes nothing where it tells a record
pub break_left : (s t : State) (fault : Fault) → IsBreakFault s fault → IfSome (damage_of fault) (λ _. SameButReads s t) → BlamesBroken t (of_fault fault)
break_left s t faults.Memory told same = tt
break_left s t faults.Disk told same = tt
break_left s t (faults.Damaged damage) told same = inl (subst (λ (z : State). Breaks z.records z.shape damage) (sym same) told)

-- one that reads some records there
pub few_read : (s t : State) (n : ℕ) (fault : Fault) → IfSome (damage_of fault) (λ _. ReadsAtMost n s t) → IfSome (damage_of fault) (λ _. SameButReads s t)
few_read s t n faults.Memory reads = tt
few_read s t n faults.Disk reads = tt
few_read s t n (faults.Damaged damage) reads = only_read s t n reads
