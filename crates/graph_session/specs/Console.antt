-- What a session holds, and which state it is at over its disk.
use Rattle.std.specs.Prelude.{◌≡◌, ℕ, ◌≤◌, IsTrue, Bool, false, is_some, Some, List, [], ◌++◌}
use Rattle.disk_model.specs.declared.disk.Disk.{Ghosts}
use Rattle.rec_bytes.specs.Pairs.{Pairs}
use Rattle.rec_bytes.specs.declared.key.Key.{Key}
use Rattle.rec_bytes.specs.declared.record.Rec.{Rec}
use Rattle.rec_bytes.specs.declared.shape.Shape.{Shape}
use Rattle.plain_graph.specs.Graph.{Graph}
use Rattle.store_rules.specs.Graph.{graph_of}
use Rattle.store_rules.specs.Indexes.{IsIndexed}
use Rattle.graph_session.specs.Stands.{AreAdmitted, HoldsAdmitted}
use Rattle.graph_session.specs.State.{Admits, IsFailed, Live, State, Transaction, health_at, seen}
use Rattle.graph_session.specs.declared.health.Health.{Health}

-- What a console has in memory, and the records beneath it: those of the last commit, those that
-- the open transaction has with its own, which are those that it has written, and the draft of a
-- change over them.
pub record ConsoleView : Type 0 where
  pub shape : Shape
  pub health : Health
  pub is_live : Bool
  pub is_open : Bool
  pub weight : ℕ
  pub names : List (List ℕ)
  pub committed : Key → Rec
  pub working : Key → Rec
  pub written : Pairs
  pub draft : Pairs

-- a console, and the disk that it works on
pub record SessionView (D : Type 0) : Type 0 where
  pub console : ConsoleView
  pub disk : D

-- no change is drafted: so it is between two lines
abbrev pub HasNoDraft : {D : Type 0} → SessionView D → Type 0
HasNoDraft session = session.console.draft ≡ []

-- the disk tells what it reads and which images it may leave
abbrev pub TellsAll : {D : Type 0} → Ghosts D → Type 0
TellsAll g = g.tells_reads × g.tells_images

-- the names begin with these
abbrev pub BeginWith : List (List ℕ) → List (List ℕ) → Type 0
BeginWith names first = (more : List (List ℕ)) × (names ≡ first ++ more)

-- The records of a live console are those of stores that keep all rules, whose graphs are the
-- committed one and the one that a line sees. The names in memory are those of the latter: the
-- committed ones, and those that the open transaction brought.
pub record HoldsGraphs (console : ConsoleView) (state : State) : Type 0 where
  pub live : IsTrue console.is_live
  pub committed : IsIndexed console.committed state.shape
  pub committed_graph : graph_of console.committed ≡ state.committed
  pub working : IsIndexed console.working state.shape
  pub working_graph : graph_of console.working ≡ seen state
  pub names : console.names ≡ (seen state).names
  pub brought : BeginWith console.names state.committed.names

-- The session is at the state. What the disk holds is said where the disk tells it. The names in
-- memory begin with those of each graph that the disk of a failed console may hold.
pub record IsAt {D : Type 0} (g : Ghosts D) (session : SessionView D) (state : State) : Type 0 where
  pub shape : state.shape ≡ session.console.shape
  pub health : session.console.health ≡ health_at state
  pub opened : is_some state.open_one ≡ session.console.is_open
  pub weight : (transaction : Transaction) → state.open_one ≡ Some transaction
      → session.console.weight ≡ transaction.weight
  pub no_draft : session.console.draft ≡ []
  pub closed : IsFailed state.standing → is_some state.open_one ≡ false
  pub holds : g.tells_reads → state.standing ≡ Live → HoldsGraphs session.console state
  pub known : g.tells_reads → IsFailed state.standing → (graph : Graph) → Admits state graph
      → BeginWith session.console.names graph.names
  pub reads : g.tells_reads → HoldsAdmitted state (g.reads session.disk)
  pub images : TellsAll g → AreAdmitted state (g.may_leave session.disk)

-- The disk's count of faults doesn't fall.
pub record Onward {D : Type 0} (g : Ghosts D) (old new : SessionView D) : Type 0 where
  pub disk_later : g.faults old.disk ≤ g.faults new.disk
