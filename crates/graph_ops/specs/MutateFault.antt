-- Why a list of changes is not made.
use Rattle.std.specs.Prelude.{ℕ, List, Result}
use Rattle.plain_graph.specs.Graph.{Graph}
use Rattle.plain_graph.specs.declared.command.Command.{Command}
use Rattle.rec_bytes.specs.Cause.{HasDiskCause}
use Rattle.change_parts.specs.Damage.{IfBlames}
use Rattle.change_parts.specs.declared.change_fault.ChangeFault.{ChangeFault}
use Rattle.change_parts.specs.declared.change_fault.ChangeFault.TheVariants.{Disk}
use Rattle.graph_ops.specs.Mutating.{IsListRefusal}
use Rattle.graph_ops.specs.declared.mutate_fault.MutateFault.{MutateFault}
use Rattle.graph_ops.specs.declared.mutate_fault.MutateFault.TheVariants.{Damaged, Refused}

-- what is so of a change that is refused
abbrev pub IfRefused : (ChangeFault → Type 0) → MutateFault → Type 0
IfRefused told (Refused fault) = told fault
IfRefused told Damaged = Unit {0}

-- no record is blamed
abbrev pub BlamesNone : ChangeFault → Type 0
BlamesNone fault = IfBlames (λ damage. ⊥) fault

-- The first change of the list that is refused is refused so, and no record is damaged.
abbrev pub IsMutateRefusal : ℕ → Graph → List Command → MutateFault → Type 0
IsMutateRefusal limit graph commands (Refused fault) = IsListRefusal limit graph commands fault
IsMutateRefusal limit graph commands Damaged = ⊥

-- the disk is blamed only where it failed
abbrev pub HasMutateCause : {T : Type 0} → ℕ → ℕ → Result T MutateFault → Type 0
HasMutateCause before now result = HasDiskCause (Refused Disk) before now result
