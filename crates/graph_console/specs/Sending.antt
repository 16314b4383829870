-- What a run of lines sends to followers: a shipment for each transaction that it acknowledges.
use Rattle.std.specs.Prelude.{◌≡◌, ◌⊎◌, ◌≤◌, ◌<◌, ◌^◌, ◌+◌, ℕ, true, None, List, [], ◌∷◌, ◌++◌}
use Rattle.std.specs.Prelude.{length}
use Rattle.disk_model.specs.declared.disk.Disk.{Ghosts}
use Rattle.stream_io.specs.Lines.{InputLine}
use Rattle.plain_graph.specs.Graph.{empty_graph}
use Rattle.plain_graph.specs.Reply.{Reply}
use Rattle.plain_graph.specs.declared.command.Command.TheVariants as commands
use Rattle.rec_bytes.specs.Pairs.{Pairs}
use Rattle.rec_bytes.specs.Shape.{is_allowed}
use Rattle.rec_bytes.specs.declared.shape.Shape.{Shape}
use Rattle.record_file.specs.Redone.{Redoes}
use Rattle.snap_store.specs.Snaps.{no_snapshots}
use Rattle.txn_core.specs.Opening as store
use Rattle.txn_core.specs.declared.config.Config.{Config}
use Rattle.follower.specs.Sent.{IsSent, sent_graph}
use Rattle.follower.specs.Shipment.{most_shipped}
use Rattle.follower.specs.Shipping.{shipment_bytes}
use Rattle.follower.specs.Taken.{sender_records}
use Rattle.graph_session.specs.Opening.{Opens}
use Rattle.graph_session.specs.ReaderAnswers.{MayStepAs}
use Rattle.graph_session.specs.SharedAnswer.{SettlesLine}
use Rattle.graph_session.specs.SharedConsole.{IsSharedAt}
use Rattle.graph_session.specs.SnapshotEffects.{Confirms, SharedView}
use Rattle.graph_session.specs.Snapshots.{SharedState}
use Rattle.graph_session.specs.State.{Live, SpellsLine, session_in}
use Rattle.graph_session.specs.Tapping.{Acknowledges, Taps}

-- What the opening of a session says: no session has a snapshot, and what is committed is the store
-- that the disk has, or a new one.
pub record OpensSession {D : Type 0} (g : Ghosts D) (config : Config) (old : D)
    (new : SharedView D) : Type 0 where
  pub opens : Opens g config old new.session
  pub none : new.held ≡ no_snapshots
  pub stored : g.tells_reads
      → Redoes (g.reads new.session.disk) new.session.console.committed
  pub records : g.tells_reads → store.Opens (g.reads old) config new.session.console.shape
      new.session.console.committed

-- the state of all sessions over a new store: no one has written or reads
abbrev pub new_state : Shape → SharedState
new_state shape = record {
  writer = record { shape = shape; committed = empty_graph; open_one = None; standing = Live };
  readers = record { open_ones = []; ended = [] };
}

-- The console is at the state, and has sent these, one shipment for each transaction. While it is
-- live, what it has committed are the sender's records after all of them, and the state's committed
-- graph is theirs.
pub record HasSent {D : Type 0} (g : Ghosts D) (shape : Shape) (sent : List (List ℕ))
    (view : SharedView D) (state : SharedState) : Type 0 where
  pub is_at : IsSharedAt g view state
  pub shape_is : state.writer.shape ≡ shape
  pub allowed : is_allowed shape ≡ true
  pub well : IsSent shape sent
  pub committed : state.writer.standing ≡ Live
      → view.session.console.committed ≡ sender_records shape sent (length sent)
  pub graph : state.writer.standing ≡ Live
      → state.writer.committed ≡ sent_graph shape sent (length sent)

-- The line was answered so by `step_tapped`, with this set after it.
pub record Steps {D : Type 0} (g : Ghosts D) (line : InputLine) (old : SharedView D)
    (before : SharedState) (reply : Reply) (new : SharedView D) (tap : Pairs) : Type 0 where
  pub settles : SettlesLine g line old new before reply
  pub may : MayStepAs g (session_in line) line old reply new
  pub taps : Taps g line old.session reply new.session tap

-- The shipments after the line: where it is acknowledged one more, with the next number, of at most
-- 2,047 records; else the same. A `reopen` finds what was committed by the last acknowledged
-- transaction.
abbrev pub Sends : {D : Type 0} → InputLine → SharedView D → Reply → SharedView D → Pairs
    → Shape → List (List ℕ) → List (List ℕ) → Type 0
Sends line old reply new tap shape sent later =
    (Acknowledges old.session.console.is_open line reply × (length tap ≤ most_shipped)
    × (length sent + 1 < 2 ^ 64)
    × (later ≡ sent ++ shipment_bytes (length sent + 1) tap ∷ []))
    ⊎ ((¬ Acknowledges old.session.console.is_open line reply) × (later ≡ sent)
    × (SpellsLine line commands.Reopen → Confirms reply
    → new.session.console.committed ≡ sender_records shape sent (length sent)))

-- a line of a run, its reply, the set after it, and the session and its state then
pub record TappedLine (D : Type 0) : Type 0 where
  pub line : InputLine
  pub reply : Reply
  pub tap : Pairs
  pub view : SharedView D
  pub state : SharedState

-- the session and its state as a run begins or ends, and what was sent until then
pub record Sender (D : Type 0) : Type 0 where
  pub view : SharedView D
  pub state : SharedState
  pub sent : List (List ℕ)

-- these lines are answered, one after the other, and lead from the one to the other
abbrev pub Ships : {D : Type 0} → Ghosts D → Shape → Sender D → List (TappedLine D) → Sender D
    → Type 0
Ships g shape first [] last = last ≡ first
Ships g shape first (x ∷ later) last =
    (steps : Steps g x.line first.view first.state x.reply x.view x.tap)
    × (x.state ≡ steps.settles.shared.after) × (sent : List (List ℕ))
    × Sends x.line first.view x.reply x.view x.tap shape first.sent sent
    × Ships g shape (record { view = x.view; state = x.state; sent = sent }) later last

-- At the end it has sent what it had sent before, and more. The graphs after what was sent before
-- are the same.
pub record HasSentMore {D : Type 0} (g : Ghosts D) (shape : Shape) (first last : Sender D)
    : Type 0 where
  pub now : HasSent g shape last.sent last.view last.state
  pub more : List (List ℕ)
  pub sent_is : last.sent ≡ first.sent ++ more
  pub graphs : (j : ℕ) → j ≤ length first.sent
      → sent_graph shape last.sent j ≡ sent_graph shape first.sent j
