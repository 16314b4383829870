-- What a command of the session that writes leaves of the old records that are kept, over any disk.
use Rattle.std.specs.Prelude.{◌≡◌, ◌⊎◌, ◌+◌, ◌≤◌, ◌↔◌, ℕ, true, false, List, [], ◌++◌, length}
use Rattle.std.specs.Prelude.{is_some}
use Rattle.disk_model.specs.Spans.{OnlyReads}
use Rattle.disk_model.specs.declared.disk.Disk.{Ghosts}
use Rattle.plain_graph.specs.Changes.{most_weight, start_weight}
use Rattle.plain_graph.specs.Kinds.{Bound, Change, Kind}
use Rattle.plain_graph.specs.LineChanges.{LineWeighs}
use Rattle.plain_graph.specs.Lines.{kind_of}
use Rattle.plain_graph.specs.Reply.{DiskFailed, Done, EdgeMade, Faulted, NodeMade, Reply, Told}
use Rattle.plain_graph.specs.declared.command.Command.{Command}
use Rattle.plain_graph.specs.declared.command.Command.TheVariants as commands
use Rattle.rec_bytes.specs.Pairs.{IsOrdered, Pairs, find_pair}
use Rattle.rec_bytes.specs.Space.{IsAmong, laid_over}
use Rattle.rec_bytes.specs.declared.key.Key.{Key}
use Rattle.rec_bytes.specs.declared.record.Rec.{Rec}
use Rattle.store_rules.specs.Graph.{graph_of, names_of}
use Rattle.store_rules.specs.Indexes.{IsIndexed}
use Rattle.store_rules.specs.Writes.{meta_keys}
use Rattle.snap_store.specs.Keeping.{EndsFor, KeepsHeld}
use Rattle.snap_store.specs.Snaps.{Snapshots}
use Rattle.txn_core.specs.Changed.{AreChanged}
use Rattle.txn_core.specs.Sights.{KeepsSights}
use Rattle.graph_session.specs.Console.{ConsoleView, HasNoDraft, SessionView}

-- a session, and what it keeps of old records for snapshots
pub record SharedView (D : Type 0) : Type 0 where
  pub session : SessionView D
  pub held : Snapshots

-- The written records are those of the files' meta records, and at most so many more that with a
-- transaction's first weight they are the weight.
pub record AreWeighed (written : Pairs) (weight : ℕ) : Type 0 where
  pub rising : IsOrdered written
  pub keys : List Key
  pub few : length keys + start_weight ≤ weight
  pub each : (key : Key) → is_some (find_pair written key) ≡ true → IsAmong key (keys ++ meta_keys)

-- an open transaction has written no more records than it weighs
abbrev pub IsWeighed : ConsoleView → Type 0
IsWeighed console = console.is_open ≡ true → AreWeighed console.written console.weight

-- The two differ just at the keys of these records.
abbrev pub DifferJustAt : (Key → Rec) → (Key → Rec) → Pairs → Type 0
DifferJustAt old new written =
    (key : Key) → (is_some (find_pair written key) ≡ true) ↔ (¬ (new key ≡ old key))

-- A change by itself has written these records: beside the meta records at most so many as it
-- weighs, which with a transaction's first weight is no more than one may. Where the store has a
-- graph, that is what the line weighs. Each of them differs from what was committed.
pub record WritesAlone {D : Type 0} (g : Ghosts D) (command : Command) (old : SessionView D)
    (written : Pairs) : Type 0 where
  pub more : ℕ
  pub weighed : AreWeighed written (start_weight + more)
  pub light : start_weight + more ≤ most_weight
  pub weighs : g.tells_reads → IsIndexed old.console.committed old.console.shape
      → old.console.names ≡ names_of old.console.committed
      → LineWeighs old.console.shape.limit old.console.shape.threshold
      (graph_of old.console.committed) command more
  pub changed : g.tells_reads → AreChanged old.console.committed written

-- the reply says that the line was carried out
abbrev pub Confirms : Reply → Type 0
Confirms Done = Unit {0}
Confirms (NodeMade id) = Unit {0}
Confirms (EdgeMade id) = Unit {0}
Confirms (Told lines last) = Unit {0}
Confirms _ = ⊥

module _ {D : Type 0} (g : Ghosts D) (old : SharedView D) (reply : Reply) (new : SharedView D) where
  -- A transaction that has written these records was ended, or left open by the disk. Each snapshot
  -- that is still open sees what it saw. Just so many have ended that there is room for the old
  -- records that were kept, and the sums of weights bound these.
  pub record KeepsFor (written : Pairs) : Type 0 where
    pub ends : Confirms reply ⊎ (reply ≡ Faulted [] DiskFailed)
    pub sights : KeepsSights g old.session.console.committed new.session.disk old.held new.held
    pub ended : EndsFor written old.held new.held
    pub held : (weight : ℕ) → length written ≤ weight → KeepsHeld weight old.held new.held

  -- `commit` ends the open transaction; where none is open nothing is kept.
  abbrev pub KeepsCommit : Type 0
  KeepsCommit =
      ((new.held ≡ old.held) × (old.session.console.is_open ≡ false))
      ⊎ ((old.session.console.is_open ≡ true) × KeepsFor old.session.console.written)

  -- The records are what a change by itself has written: where it is made they are what was
  -- committed with it, and no other record differs from what it was.
  abbrev pub IsCommittedBy : Pairs → Type 0
  IsCommittedBy written =
      g.tells_reads → Confirms reply
      → (new.session.console.committed ≡ laid_over old.session.console.committed written)
      × DifferJustAt old.session.console.committed new.session.console.committed written

  -- A change outside a transaction is one by itself. One that is not made, or in a transaction,
  -- keeps nothing.
  abbrev pub KeepsChange : Command → Type 0
  KeepsChange command =
      ((new.held ≡ old.held)
      × ((old.session.console.is_open ≡ true)
      ⊎ ((¬ Confirms reply) × OnlyReads g old.session.disk new.session.disk)))
      ⊎ ((old.session.console.is_open ≡ false) × (written : Pairs)
      × WritesAlone g command old.session written × IsCommittedBy written × KeepsFor written)

  abbrev pub KeepsBound : Command → Type 0
  KeepsBound commands.Commit = KeepsCommit
  KeepsBound _ = new.held ≡ old.held

  abbrev pub KeepsKind : Kind → Command → Type 0
  KeepsKind Bound command = KeepsBound command
  KeepsKind Change command = KeepsChange command
  KeepsKind _ command = new.held ≡ old.held

-- What a command leaves of the old records, and of the bound on those that a transaction writes.
pub record KeepsOlds {D : Type 0} (g : Ghosts D) (command : Command) (old : SharedView D)
    (reply : Reply) (new : SharedView D) : Type 0 where
  pub held : KeepsKind g old reply new (kind_of command) command
  pub weighed :
      HasNoDraft old.session → IsWeighed old.session.console → IsWeighed new.session.console
