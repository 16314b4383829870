-- How the program ends where its store is not opened.
use Rattle.std.specs.Prelude.{◌≡◌, ◌⊎◌, ℕ, List, [], codes}
use Rattle.disk_model.specs.declared.disk.Disk.{Ghosts}
use Rattle.stream_io.specs.Streams.{TakesFront}
use Rattle.plain_graph.specs.Reply.{DamagedRecord, DiskFailed, NoMemory, configuration_text}
use Rattle.plain_graph.specs.Reply.{fault_line, text_line}
use Rattle.rec_bytes.specs.declared.key.Key.{Key}
use Rattle.rec_bytes.specs.declared.record.Rec.{Rec}
use Rattle.rec_bytes.specs.declared.shape.Shape.{Shape}
use Rattle.record_file.specs.Redone.{Redoes}
use Rattle.txn_core.specs.Config.{Suits}
use Rattle.txn_core.specs.Opening.{HoldsStore, StaysAsItWas}
use Rattle.txn_core.specs.declared.config.Config.{Config}
use Rattle.txn_core.specs.declared.open_fault.OpenFault.{OpenFault}
use Rattle.txn_core.specs.declared.open_fault.OpenFault.TheVariants as faults
use Rattle.graph_console.specs.declared.exit.Exit.{Exit}
use Rattle.graph_console.specs.declared.exit.Exit.TheVariants as exits

-- the exit of each reason
abbrev pub exit_of : OpenFault → Exit
exit_of faults.Memory = exits.NoMemory
exit_of faults.Disk = exits.DiskFault
exit_of faults.NotAStore = exits.BadFiles
exit_of (faults.Damaged damage) = exits.BadFiles
exit_of (faults.ConfigDiffers stored asked) = exits.ConfigDiffers stored asked

-- the exit of a store of another shape than the one that is asked for
abbrev pub IsOfOtherShape : Exit → Type 0
IsOfOtherShape exit =
    (stored : Shape) × (asked : Config) × (exit ≡ exits.ConfigDiffers stored asked)

-- one of these exits
abbrev pub IsUnopenedExit : Exit → Type 0
IsUnopenedExit exit =
    (exit ≡ exits.NoMemory) ⊎ (exit ≡ exits.BadFiles) ⊎ IsOfOtherShape exit
    ⊎ (exit ≡ exits.DiskFault)

-- The disk reads as a store of the one shape, and the other is what the options ask for, which that
-- doesn't suit. The store keeps its records, of the version that it had.
pub record HasOtherShape {D : Type 0} (g : Ghosts D) (config : Config) (old new : D)
    (stored : Shape) (asked : Config) : Type 0 where
  pub store : HoldsStore (g.reads old) stored
  pub asked_is : asked ≡ config
  pub unsuited : ¬ Suits config stored
  pub kept : (space : Key → Rec) → Redoes (g.reads old) space → StaysAsItWas g old new space

-- the one line that is written
abbrev pub line_of : OpenFault → List ℕ
line_of faults.Memory = fault_line NoMemory
line_of faults.Disk = fault_line DiskFailed
line_of faults.NotAStore = text_line (codes "not a store")
line_of (faults.Damaged damage) = fault_line (DamagedRecord damage.file damage.id)
line_of (faults.ConfigDiffers stored asked) =
    text_line (configuration_text stored.threshold stored.limit)

-- The program ended with the exit and the line of a reason that has P.
abbrev pub EndsUnopened : (OpenFault → Type 0) → Exit → List ℕ → Type 0
EndsUnopened P exit written =
    (why : OpenFault) × P why × (exit_of why ≡ exit) × (written ≡ line_of why)

-- The sink failed in the line of such a reason, and took a prefix of it.
abbrev pub FailsUnopened : (OpenFault → Type 0) → List ℕ → Type 0
FailsUnopened P written = (why : OpenFault) × P why × TakesFront [] written (line_of why)
