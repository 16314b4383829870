-- The step of the console: from a state, a line may get this reply and lead to that state.
use Rattle.std.specs.Prelude.{◌≡◌, ◌≢◌, ◌⊎◌, ℕ, ◌+◌, Bool, true, false, Option, Some, None, List}
use Rattle.std.specs.Prelude.{[], ◌∷◌, ◌++◌}
use Rattle.stream_io.specs.Lines.{InputLine}
use Rattle.plain_graph.specs.Changes.{start_weight}
use Rattle.plain_graph.specs.Graph.{Graph}
use Rattle.plain_graph.specs.Kinds.{Blanks, Bound, Change, Ending, Kind, Question, Sight, Upkeep}
use Rattle.plain_graph.specs.LineChanges.{LineChanges, LineWeighs}
use Rattle.plain_graph.specs.Lines.{Reading, Shows, kind_of}
use Rattle.plain_graph.specs.Reply.{DamagedRecord, DiskFailed, Done, EdgeMade, Fault, Faulted}
use Rattle.plain_graph.specs.Reply.{NoMemory, NodeMade, PastCount, Refused, Reply, Silent, Told}
use Rattle.plain_graph.specs.declared.command.Command.{Command}
use Rattle.plain_graph.specs.declared.command.Command.TheVariants as commands
use Rattle.graph_session.specs.Refusals.{IsAccepted, IsReached, IsRefused}
use Rattle.graph_session.specs.State.{Admits, Failed, IsSilent, Live, NeverLacksMemory, SpellsLine}
use Rattle.graph_session.specs.State.{State, Transaction, admitted, seen}

-- the state with another open transaction, or with none
abbrev pub opening : State → Option Transaction → State
opening state transaction = record state { open_one = transaction }

-- the state in which the disk has failed the console and holds one of these graphs; no transaction
-- is open
abbrev pub failing : State → List Graph → State
failing state graphs = record state { open_one = None; standing = Failed graphs }

-- A change on the open transaction's graph, whose weight it adds; or where none is open, on the
-- committed graph.
abbrev pub MakesChange : State → Command → Reply → State → Type 0
MakesChange old command reply new =
    ((transaction : Transaction) × (old.open_one ≡ Some transaction) × (graph : Graph)
    × (weight : ℕ) × LineChanges old.shape.limit transaction.graph command reply graph
    × LineWeighs old.shape.limit old.shape.threshold transaction.graph command weight
    × (new ≡ opening old (Some (record { graph = graph; weight = transaction.weight + weight }))))
    ⊎ ((old.open_one ≡ None) × (graph : Graph)
    × LineChanges old.shape.limit old.committed command reply graph
    × (new ≡ record old { committed = graph }))

-- the transaction begins or ends, with this reply
abbrev pub MovesBound : State → Command → Reply → State → Type 0
MovesBound old commands.Begin reply new =
    (reply ≡ Done)
    × (new ≡ opening old (Some (record { graph = old.committed; weight = start_weight })))
MovesBound old commands.Commit reply new =
    (reply ≡ Done) × (transaction : Transaction) × (old.open_one ≡ Some transaction)
    × (new ≡ record old { committed = transaction.graph; open_one = None })
MovesBound old commands.Rollback reply new = (reply ≡ Done) × (new ≡ opening old None)
MovesBound old _ reply new = ⊥

-- the store is brought into its files, or found again, with this reply
abbrev pub DoesUpkeep : State → Command → Reply → State → Type 0
DoesUpkeep old commands.Checkpoint reply new = (reply ≡ Done) × (new ≡ old)
DoesUpkeep old commands.Reopen reply new =
    (reply ≡ Done) × (graph : Graph) × Admits old graph
    × (new ≡ record old { committed = graph; standing = Live })
DoesUpkeep old _ reply new = ⊥

-- The reply tells a reading of the graph that the line sees, in which no count passes.
abbrev pub TellsReading : State → Command → Reply → State → Type 0
TellsReading old command reply new =
    (reading : Reading) × Shows (seen old) command reading × (reading.is_past ≡ false)
    × (reply ≡ Told reading.lines reading.last) × (new ≡ old)

-- A command of this kind is carried out, with this reply.
abbrev pub CarriesKind : Kind → State → Command → Reply → State → Type 0
CarriesKind Blanks old command reply new = ⊥
CarriesKind Ending old command reply new = ⊥
CarriesKind Bound old command reply new = MovesBound old command reply new
CarriesKind Upkeep old command reply new = DoesUpkeep old command reply new
CarriesKind Sight old command reply new = ⊥
CarriesKind Change old command reply new = MakesChange old command reply new
CarriesKind Question old command reply new = TellsReading old command reply new

-- The command is carried out, with this reply.
abbrev pub CarriesOut : State → Command → Reply → State → Type 0
CarriesOut old command reply new = CarriesKind (kind_of command) old command reply new

-- these lines are the first of those
abbrev pub AreFirst : List (List ℕ) → List (List ℕ) → Type 0
AreFirst lines all = (more : List (List ℕ)) × (lines ++ more ≡ all)

-- The lines shown are none, or the first of a reading of the graph that the command asks for.
abbrev pub ShowsSome : Graph → Command → List (List ℕ) → Type 0
ShowsSome graph command lines =
    (lines ≡ [])
    ⊎ ((reading : Reading) × Shows graph command reading × AreFirst lines reading.lines)

-- The lines shown are the first of a reading in which a count passes.
abbrev pub ShowsPast : Graph → Command → List (List ℕ) → Type 0
ShowsPast graph command lines =
    (reading : Reading) × Shows graph command reading × (reading.is_past ≡ true)
    × AreFirst lines reading.lines

-- A change outside a transaction leaves the graph open: the one before, or the one after it where
-- no condition refuses the line. Inside a transaction it leaves all as it was.
abbrev pub LeavesChange : State → InputLine → Command → State → Type 0
LeavesChange old line command new =
    ((transaction : Transaction) × (old.open_one ≡ Some transaction) × (new ≡ old))
    ⊎ ((old.open_one ≡ None) × ((new ≡ failing old (old.committed ∷ []))
    ⊎ (IsAccepted old line × (reply : Reply) × (graph : Graph)
    × LineChanges old.shape.limit old.committed command reply graph
    × (new ≡ failing old (old.committed ∷ graph ∷ [])))))

-- A commit leaves open whether the transaction's graph is committed; where an old record that a
-- snapshot needs could not be read, it is not. Nothing else of a transaction calls the disk.
abbrev pub LeavesBound : State → Command → State → Type 0
LeavesBound old commands.Commit new =
    (transaction : Transaction) × (old.open_one ≡ Some transaction)
    × ((new ≡ failing old (old.committed ∷ []))
    ⊎ (new ≡ failing old (old.committed ∷ transaction.graph ∷ [])))
LeavesBound old _ new = ⊥

-- a checkpoint leaves the committed graph, and `reopen` what there was
abbrev pub LeavesStore : State → Command → State → Type 0
LeavesStore old commands.Checkpoint new = new ≡ failing old (old.committed ∷ [])
LeavesStore old commands.Reopen new = new ≡ failing old (admitted old)
LeavesStore old _ new = ⊥

-- what a command of this kind leaves
abbrev pub LeavesKind : Kind → State → InputLine → Command → State → Type 0
LeavesKind Blanks old line command new = ⊥
LeavesKind Ending old line command new = ⊥
LeavesKind Bound old line command new = LeavesBound old command new
LeavesKind Upkeep old line command new = LeavesStore old command new
LeavesKind Sight old line command new = ⊥
LeavesKind Change old line command new = LeavesChange old line command new
LeavesKind Question old line command new = new ≡ old

-- What the disk leaves where it failed in the line.
abbrev pub LeavesOpen : State → InputLine → Command → State → Type 0
LeavesOpen old line command new = LeavesKind (kind_of command) old line command new

-- A count that passes is told where it does. Want of memory is free for each line that may lack it,
-- and changes nothing. The disk is blamed only where it failed. A record of a store that stands for
-- a graph is never damaged.
abbrev pub Stops : State → InputLine → Bool → List (List ℕ) → Fault → State → Type 0
Stops old line disk_failed lines PastCount new =
    IsReached old line × (command : Command) × SpellsLine line command
    × ShowsPast (seen old) command lines × (new ≡ old)
Stops old line disk_failed lines NoMemory new =
    (¬ NeverLacksMemory line) × (new ≡ old)
    × ((lines ≡ [])
    ⊎ ((command : Command) × SpellsLine line command × IsReached old line
    × ShowsSome (seen old) command lines))
Stops old line disk_failed lines DiskFailed new =
    (disk_failed ≡ true) × IsReached old line × (command : Command) × SpellsLine line command
    × ShowsSome (seen old) command lines × LeavesOpen old line command new
Stops old line disk_failed lines (DamagedRecord file id) new = ⊥

-- a line, whether the disk failed in it, and the reply
pub record Exchange : Type 0 where
  pub line : InputLine
  pub disk_failed : Bool
  pub reply : Reply

-- the line spells a command that is carried out, with this reply
abbrev pub IsDone : State → Exchange → State → Type 0
IsDone old x new =
    IsAccepted old x.line × (command : Command) × SpellsLine x.line command
    × CarriesOut old command x.reply new

-- The step, reply by reply. A refusal is the first of the reasons that hold.
abbrev pub ConsoleStep : State → Exchange → State → Type 0
ConsoleStep old x new = elim x.reply [
  | Silent ↦ IsSilent x.line × (new ≡ old)
  | Done ↦ IsDone old x new
  | NodeMade id ↦ IsDone old x new
  | EdgeMade id ↦ IsDone old x new
  | Told lines last ↦ IsDone old x new
  | Faulted lines fault ↦ Stops old x.line x.disk_failed lines fault new
  | Refused why ↦ IsRefused old x.line why × (new ≡ old)
]

-- one where the reply says that the disk failed
abbrev pub told_in : Fault → ℕ
told_in PastCount = 0
told_in NoMemory = 0
told_in DiskFailed = 1
told_in (DamagedRecord file id) = 0

abbrev pub told_fault : Reply → ℕ
told_fault (Faulted lines fault) = told_in fault
told_fault _ = 0

-- Where the disk tells what it reads, the exchange is a step of the console. In any case the reply
-- blames the disk only where it failed in the line.
pub record TakesStep (tells : Type 0) (old : State) (x : Exchange) (new : State) : Type 0 where
  pub step : tells → ConsoleStep old x new
  pub blames : told_fault x.reply ≢ 0 → x.disk_failed ≡ true
