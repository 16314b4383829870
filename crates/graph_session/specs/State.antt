-- What the console knows between two lines, and lines as it sees them.
use Rattle.std.specs.Prelude.{◌≡◌, ◌⊎◌, ℕ, Option, Some, None, List, [], ◌∷◌, Contains}
use Rattle.stream_io.specs.Lines.{InputLine, Whole, Long}
use Rattle.plain_graph.specs.Graph.{Graph}
use Rattle.plain_graph.specs.Kinds.{Change, Kind, Question, Sight}
use Rattle.plain_graph.specs.Lines.{kind_of}
use Rattle.plain_graph.specs.Reply.{prefix_text}
use Rattle.plain_graph.specs.declared.command.Command.{Command}
use Rattle.plain_graph.specs.declared.command.Command.TheVariants as commands
use Rattle.gremlin_parse.specs.Lines.{Spells}
use Rattle.gremlin_parse.specs.Tags.{session_named, session_of}
use Rattle.rec_bytes.specs.declared.shape.Shape.{Shape}
use Rattle.graph_session.specs.declared.health.Health.{Health}
use Rattle.graph_session.specs.declared.health.Health.TheVariants as healths

-- The disk has not failed the console, or it has, and holds one of these graphs.
pub data Standing : Type 0 where
  Live : Standing
  Failed : (graphs : List Graph) → Standing

-- an open transaction: the graph that its lines see, and what its changes weigh
pub record Transaction : Type 0 where
  pub graph : Graph
  pub weight : ℕ

-- the shape of the store, the committed graph, the open transaction, and how the console stands
-- with the disk
pub record State : Type 0 where
  pub shape : Shape
  pub committed : Graph
  pub open_one : Option Transaction
  pub standing : Standing

-- the health of a console that stands so
abbrev pub health_of : Standing → Health
health_of Live = healths.Live
health_of (Failed graphs) = healths.Failed

-- the health of a console at this state
abbrev pub health_at : State → Health
health_at state = health_of state.standing

-- the graph that a line sees: that of the open transaction, where there is one
abbrev pub seen_by : Graph → Option Transaction → Graph
seen_by committed None = committed
seen_by committed (Some transaction) = transaction.graph

abbrev pub seen : State → Graph
seen state = seen_by state.committed state.open_one

-- the graphs that the disk of a console that stands so may hold
abbrev pub graphs_from : Graph → Standing → List Graph
graphs_from committed Live = committed ∷ []
graphs_from committed (Failed graphs) = graphs

abbrev pub admitted : State → List Graph
admitted state = graphs_from state.committed state.standing

-- the disk may hold this graph: the committed one, or where it has failed one of those that it left
-- open
abbrev pub Admits : State → Graph → Type 0
Admits state stored = Contains (admitted state) stored

abbrev pub IsFailed : Standing → Type 0
IsFailed Live = ⊥
IsFailed (Failed graphs) = Unit {0}

abbrev pub IsOpen : State → Type 0
IsOpen state = (transaction : Transaction) × (state.open_one ≡ Some transaction)

abbrev pub SpellsLine : InputLine → Command → Type 0
SpellsLine (Whole bytes) command = Spells bytes command
SpellsLine Long command = ⊥

-- the session of a line: the one that it names, or the first one
abbrev pub session_in : InputLine → ℕ
session_in (Whole bytes) = session_of bytes
session_in Long = 0

-- what each line of its reply begins with
abbrev pub prefix_in : InputLine → List ℕ
prefix_in (Whole bytes) = prefix_text (session_named bytes)
prefix_in Long = []

abbrev pub IsQuit : InputLine → Type 0
IsQuit line = SpellsLine line commands.Quit

-- a line that gets no reply: a line of blanks, or quit
abbrev pub IsSilent : InputLine → Type 0
IsSilent line = SpellsLine line commands.Blank ⊎ IsQuit line

-- lines of this kind never lack memory
abbrev pub AreSpared : Kind → Type 0
AreSpared Change = ⊥
AreSpared Question = ⊥
AreSpared Sight = ⊥
AreSpared _ = Unit {0}

-- a command that never lacks memory: one that neither changes the graph nor reads it nor takes a
-- snapshot of it, and of the others `stats` and `release`
abbrev pub IsSpared : Command → Type 0
IsSpared command =
    AreSpared (kind_of command) ⊎ (command ≡ commands.Stats) ⊎ (command ≡ commands.Release)

-- a line that never lacks memory: it is too long, or spells such a command
abbrev pub NeverLacksMemory : InputLine → Type 0
NeverLacksMemory line =
    (line ≡ Long) ⊎ ((command : Command) × SpellsLine line command × IsSpared command)
