-- What opening a session comes to.
use Rattle.std.specs.Prelude.{◌≡◌, ◌⊎◌, ◌≤◌, Bool, None}
use Rattle.fault_count.specs.Cause.{Rose}
use Rattle.disk_model.specs.Contents.{Files}
use Rattle.disk_model.specs.Spans.{AtEachMoment, OnlyReads}
use Rattle.disk_model.specs.declared.disk.Disk.{Ghosts}
use Rattle.plain_graph.specs.Graph.{Graph, empty_graph}
use Rattle.rec_bytes.specs.declared.damage.Damage.{Damage}
use Rattle.rec_bytes.specs.declared.fault.Fault.{Fault}
use Rattle.rec_bytes.specs.declared.fault.Fault.TheVariants.{Memory, Disk, Damaged}
use Rattle.rec_bytes.specs.declared.key.Key.{Key}
use Rattle.rec_bytes.specs.declared.record.Rec.{Rec}
use Rattle.rec_bytes.specs.declared.shape.Shape.{Shape}
use Rattle.record_file.specs.Records.{IsUnmade}
use Rattle.record_file.specs.Redone.{Redoes}
use Rattle.recovery.specs.Finding.{IsCareful, IsRecoverable}
use Rattle.stored_graph.specs.Stands.{IsMade, Stands}
use Rattle.txn_core.specs.Config.{Suits, shape_of}
use Rattle.txn_core.specs.declared.config.Config.{Config}
use Rattle.txn_core.specs.declared.open_fault.OpenFault.{OpenFault}
use Rattle.txn_core.specs.declared.open_fault.OpenFault.TheVariants as faults
use Rattle.txn_core.specs.Opening.{HoldsStore, IsAskedOther, IsClean, IsOldOrRaised, IsRefusal}
use Rattle.txn_core.specs.Opening.{OnlyDiffers, RefusesOpening, StaysAsItWas}
use Rattle.name_store.specs.Loading.{IsNameDamage}
use Rattle.graph_session.specs.Console.{HasNoDraft, IsAt, SessionView, TellsAll}
use Rattle.graph_session.specs.Known.{as_known}
use Rattle.graph_session.specs.State.{Live, State}

-- The state that a session over this content begins with: with the empty graph and the shape that
-- is asked for where no store was made, else with the store's graph, whose shape suits.
abbrev pub Starts : Files → Config → State → Type 0
Starts content config state =
    (IsUnmade content × (state.shape ≡ shape_of config) × (state.committed ≡ empty_graph))
    ⊎ (IsMade content state.shape state.committed × Suits config state.shape)

-- A session over this disk begins live, with no open transaction and a shape that suits. Where what
-- the disk reads stands for a graph, the state has it, and the content stands for no other.
pub record StartsAs {D : Type 0} (g : Ghosts D) (disk : D) (config : Config) (state : State)
    : Type 0 where
  pub live : state.standing ≡ Live
  pub closed : state.open_one ≡ None
  pub suits : Suits config state.shape
  pub starts : g.tells_reads → Starts (g.reads disk) config state
  pub same : g.tells_reads → (shape : Shape) (graph : Graph) → Stands (g.reads disk) shape graph
      → state.committed ≡ graph

-- A crash leaves a content from before; or where no store was made, one that stands for the empty
-- graph; or where one was made, one that redoes to its records, as they were or as they are in the
-- newest version.
abbrev pub LeavesOldOrSame : Files → (Files → Type 0) → Config → Files → Type 0
LeavesOldOrSame content images config left =
    images left
    ⊎ ((IsUnmade content × Stands left (shape_of config) empty_graph)
    ⊎ ((¬ IsUnmade content) × (shape : Shape) × (store : HoldsStore content shape)
    × IsOldOrRaised shape store.space left))

-- what the disk reads stands for a graph, under some shape
pub record StandsForOne {D : Type 0} (g : Ghosts D) (disk : D) : Type 0 where
  pub shape : Shape
  pub graph : Graph
  pub stands : Stands (g.reads disk) shape graph

-- at each moment of the opening of a store, or of a disk where none was made
abbrev pub LeavesByOpening : {D : Type 0} → Ghosts D → Config → D → D → Type 0
LeavesByOpening g config old new =
    TellsAll g → IsRecoverable (g.reads old)
    → AtEachMoment g old new (LeavesOldOrSame (g.reads old) (g.may_leave old) config)

-- A session was opened. Where what the disk reads stands for a graph, or isn't known, it is at a
-- state that it begins with. A clean store was only read.
pub record Opens {D : Type 0} (g : Ghosts D) (config : Config) (old : D) (new : SessionView D)
    : Type 0 where
  pub begins : (known : Bool)
      → ((as_known known g).tells_reads → StandsForOne (as_known known g) old)
      → (state : State) × StartsAs (as_known known g) old config state
      × IsAt (as_known known g) new state
  pub recoverable : g.tells_reads → IsRecoverable (g.reads old)
  pub no_draft : HasNoDraft new
  pub crash : LeavesByOpening g config old new.disk
  pub clean : g.tells_reads → IsClean (g.reads old) → OnlyReads g old new.disk
  pub later : g.faults old ≤ g.faults new.disk

-- Why what the disk reads is not served: the store's log, its own record or its meta records, or
-- its names.
abbrev pub RefusesContent : Files → Config → OpenFault → Type 0
RefusesContent content config why =
    RefusesOpening content config why
    ⊎ ((damage : Damage) × (why ≡ faults.Damaged damage) × (space : Key → Rec)
    × Redoes content space × IsNameDamage space damage)

-- What is left of files that are refused for what they hold: the disk was only read; or, where a
-- store was found whose names are damaged, its records are those that they were, as they were or as
-- they are in the newest version, in what is read and in what a crash leaves that it didn't leave
-- before.
abbrev pub LeavesRefused : {D : Type 0} → Ghosts D → D → D → Type 0
LeavesRefused g old new =
    OnlyReads g old new
    ⊎ ((shape : Shape) × (store : HoldsStore (g.reads old) shape)
    × IsOldOrRaised shape store.space (g.reads new)
    × (g.tells_images → AtEachMoment g old new (λ left.
    g.may_leave old left ⊎ IsOldOrRaised shape store.space left)))

-- No session was opened, for a reason that holds of what the disk reads. Files that are no store,
-- or a broken one, are left as they were, whatever the reason is, and a clean store is only read.
-- Where another shape is asked for, a store isn't brought to the newest version.
pub record IsUnopened {D : Type 0} (g : Ghosts D) (config : Config) (old new : D) (why : OpenFault)
    : Type 0 where
  pub refused : g.tells_reads → RefusesContent (g.reads old) config why
  pub sound : g.tells_reads → (shape : Shape) (graph : Graph) → Stands (g.reads old) shape graph
      → OnlyDiffers shape config why
  pub crash : LeavesByOpening g config old new
  pub careful : IsCareful g old new
  pub untouched : g.tells_reads → IsRefusal why → LeavesRefused g old new
  pub differs : g.tells_reads → (space : Key → Rec) → Redoes (g.reads old) space
      → IsAskedOther why → StaysAsItWas g old new space
  pub clean : g.tells_reads → IsClean (g.reads old) → OnlyReads g old new
  pub later : g.faults old ≤ g.faults new
  pub cause : why ≡ faults.Disk → Rose (g.faults old) (g.faults new)

-- why a store is not served whose names are not loaded
abbrev pub unloaded : Fault → OpenFault
unloaded Memory = faults.Memory
unloaded Disk = faults.Disk
unloaded (Damaged damage) = faults.Damaged damage
