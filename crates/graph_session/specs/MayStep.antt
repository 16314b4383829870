-- What a line may do over any disk, whatever is in it: by its command and the reply, what becomes
-- of the session, of its records and of the disk.
use Rattle.std.specs.Prelude.{◌≡◌, ◌≢◌, ◌⊎◌, ◌≤◌, ℕ, true, false, Option, None, Some, List, []}
use Rattle.fault_count.specs.Cause.{Rose}
use Rattle.disk_model.specs.Contents.{Files}
use Rattle.disk_model.specs.declared.disk.Disk.{Ghosts}
use Rattle.stream_io.specs.Lines.{InputLine, Whole, Long}
use Rattle.plain_graph.specs.Changes.{most_weight}
use Rattle.plain_graph.specs.Graph.{Graph, Index}
use Rattle.plain_graph.specs.Kinds.{Blanks, Bound, Change, Ending, Kind, Question, Sight, Upkeep}
use Rattle.plain_graph.specs.Lines.{Asked, AtEdge, IsFormed, Nowhere, Reading, asked_of, index_of}
use Rattle.plain_graph.specs.Lines.{kind_of}
use Rattle.plain_graph.specs.LineChanges.{line_reasons, mutated_reply}
use Rattle.plain_graph.specs.Refusals.{FirstReason}
use Rattle.plain_graph.specs.Reply.{DamagedRecord, DiskFailed, Done, EdgeMade, Fault, Faulted}
use Rattle.plain_graph.specs.Reply.{NoMemory, NodeMade, PastCount, Refused, Reply, Silent, Told}
use Rattle.plain_graph.specs.declared.command.Command.{Command}
use Rattle.plain_graph.specs.declared.command.Command.TheVariants as commands
use Rattle.plain_graph.specs.declared.item.Item.{Item}
use Rattle.plain_graph.specs.declared.refusal.Refusal.{Refusal}
use Rattle.plain_graph.specs.declared.refusal.Refusal.TheVariants as refusals
use Rattle.rec_bytes.specs.declared.damage.Damage.{Damage}
use Rattle.rec_bytes.specs.declared.key.Key.{Key}
use Rattle.rec_bytes.specs.declared.record.Rec.{Rec}
use Rattle.record_file.specs.Redone.{Redoes}
use Rattle.name_store.specs.Again.{IsFirstOther}
use Rattle.txn_core.specs.Again.{RefusesAgain}
use Rattle.txn_core.specs.declared.again_fault.AgainFault.TheVariants as again_faults
use Rattle.gremlin_parse.specs.Lines.{IsLeftmostFault}
use Rattle.gremlin_parse.specs.declared.line_fault.LineFault.{LineFault}
use Rattle.graph_session.specs.ChangeDamage.{IsSeenDamage}
use Rattle.graph_session.specs.ChangeLeft.{LeavesRecords}
use Rattle.graph_session.specs.Console.{ConsoleView, SessionView}
use Rattle.graph_session.specs.Effects.{Begins, Commits, CommitsAlone, CommitsFrom, Drops}
use Rattle.graph_session.specs.Effects.{FailsDrafted, FailsRead, IsAloneInDoubt, IsBrought}
use Rattle.graph_session.specs.Effects.{IsFound, IsLeftOpen, IsLost, IsStopped, Keeps}
use Rattle.graph_session.specs.Effects.{LeavesCommitted, LeavesEither, LeavesSame, Stays}
use Rattle.graph_session.specs.Exchange.{AreFirst, told_fault}
use Rattle.graph_session.specs.Refusals.{refusal_of}
use Rattle.graph_session.specs.State.{IsSilent, IsSpared, NeverLacksMemory, SpellsLine}
use Rattle.graph_session.specs.Verdicts.{seen_records}
use Rattle.graph_session.specs.declared.health.Health.TheVariants as healths

-- a console that the disk has failed serves `reopen` alone
abbrev pub IsServed : ConsoleView → Command → Type 0
IsServed console command = (console.health ≡ healths.Live) ⊎ (command ≡ commands.Reopen)

-- the reply of a change that is made: only a new node and a new edge have an identifier, and only a
-- mutating query has results
abbrev pub TellsMade : Command → Reply → Type 0
TellsMade (commands.Node label pairs) reply = (id : ℕ) × (reply ≡ NodeMade id)
TellsMade (commands.Edge from label to pairs) reply = (id : ℕ) × (reply ≡ EdgeMade id)
TellsMade (commands.Set target key value) reply = reply ≡ Done
TellsMade (commands.Unset target key) reply = reply ≡ Done
TellsMade (commands.Delete target) reply = reply ≡ Done
TellsMade (commands.Index label key) reply = reply ≡ Done
TellsMade (commands.Mutate reading mutation) reply =
    (results : List Item) × (reply ≡ mutated_reply results)
TellsMade _ reply = ⊥

-- What `reopen` finds damaged: the log, the store's own record or a meta record, as recovery
-- refuses it; or of the records that it finds, the first name that isn't the one in memory.
abbrev pub IsFoundDamaged : Files → ConsoleView → Damage → Type 0
IsFoundDamaged content console damage =
    RefusesAgain content console.shape (again_faults.Damaged damage)
    ⊎ ((space : Key → Rec) × Redoes content space × IsFirstOther space console.names damage)

-- A count passes only in such an answer. What `check` finds damaged it tells in its verdict.
abbrev pub MayStop : Command → Reading → Fault → Type 0
MayStop command reading PastCount = reading.is_past ≡ true
MayStop command reading NoMemory = Unit {0}
MayStop command reading DiskFailed = Unit {0}
MayStop command reading (DamagedRecord file id) = command ≢ commands.Check

-- some graph refuses the command
abbrev pub IsRefusable : Command → Type 0
IsRefusable command =
    (limit : ℕ) × (graph : Graph) × (why : Refusal)
    × FirstReason line_reasons limit graph command why

-- An element that is asked of is said to be missing.
abbrev pub TellsMissing : Asked → Refusal → Type 0
TellsMissing Nowhere why = ⊥
TellsMissing (AtEdge id) why = why ≡ refusals.NoEdge id
TellsMissing asked why = (id : ℕ) × (why ≡ refusals.NoNode id)

-- An index that is asked of is said to be missing.
abbrev pub TellsUnindexed : Option Index → Refusal → Type 0
TellsUnindexed None why = ⊥
TellsUnindexed (Some index) why = why ≡ refusals.NoIndex

-- What a line that reads may be refused for: an element that it asks of is missing, or the index.
abbrev pub LacksAsked : Command → Refusal → Type 0
LacksAsked command why =
    TellsMissing (asked_of command) why ⊎ TellsUnindexed (index_of command) why

-- The reply to a line that reads: an answer of its form, or the first lines of one and a fault, or
-- that what it asks of is missing. What never lacks memory has no fault.
abbrev pub MayTell : Command → Reply → Type 0
MayTell command (Told lines last) =
    (reading : Reading) × IsFormed command reading × (lines ≡ reading.lines)
    × (last ≡ reading.last)
MayTell command (Faulted lines fault) =
    (¬ IsSpared command) × (reading : Reading) × IsFormed command reading
    × MayStop command reading fault × AreFirst lines reading.lines
MayTell command (Refused why) =
    IsRefusable command × LacksAsked command why
MayTell command _ = ⊥

-- the line is too long, or has this fault of the grammar
abbrev pub IsUnread : InputLine → Refusal → Type 0
IsUnread line why =
    ((line ≡ Long) × (why ≡ refusals.LongLine))
    ⊎ ((bytes : List ℕ) × (line ≡ Whole bytes) × (fault : LineFault)
    × IsLeftmostFault bytes fault × (refusal_of fault ≡ Some why))

-- The line is answered before its command is looked at: it is too long or has a fault, or lacks
-- memory and is none that never does, or the disk has failed the session.
abbrev pub IsTurnedAway : InputLine → ConsoleView → Reply → Type 0
IsTurnedAway line console reply =
    ((why : Refusal) × (reply ≡ Refused why) × IsUnread line why)
    ⊎ ((reply ≡ Faulted [] NoMemory) × ¬ NeverLacksMemory line)
    ⊎ ((reply ≡ Refused refusals.Failed) × (console.health ≡ healths.Failed)
    × (¬ IsSilent line) × ¬ SpellsLine line commands.Reopen)

module _ {D : Type 0} (g : Ghosts D) (old new : SessionView D) where
  -- A change is made: in the open transaction, which weighs at most 2,048 then, or by itself.
  abbrev pub HasChanged : Type 0
  HasChanged =
      ((old.console.is_open ≡ true) × (weight : ℕ) × Keeps g old new weight
      × (new.console.weight ≤ most_weight))
      ⊎ ((old.console.is_open ≡ false) × (now : Key → Rec) × CommitsFrom g old new now
      × CommitsAlone g old new now)

  -- The disk failed in a change. An open transaction stays as it was. A change by itself is not
  -- made, where the disk was only read; or it is left open whether it is.
  abbrev pub HasFailedChange : Type 0
  HasFailedChange =
      ((old.console.is_open ≡ true) × Stays g old new)
      ⊎ ((old.console.is_open ≡ false)
      × (FailsRead g old new ⊎ FailsDrafted g old new
      ⊎ ((now : Key → Rec) × CommitsFrom g old new now × IsAloneInDoubt g old new now)))

module _ {D : Type 0} (g : Ghosts D) (old : SessionView D) (reply : Reply) (new : SessionView D)
  where
    -- the reply says that the disk failed, and the disk counted a fault
    abbrev pub TellsDiskFault : Type 0
    TellsDiskFault = (reply ≡ Faulted [] DiskFailed) × Rose (g.faults old.disk) (g.faults new.disk)

    -- The reply says that a record is damaged, and has no results. Where the disk tells its reads,
    -- the record breaks a rule in what the line sees. Or all rules hold there, and it is that of
    -- the first name that isn't the one in memory, or the names' meta record.
    abbrev pub TellsDamage : Command → Type 0
    TellsDamage command =
        (damage : Damage) × (reply ≡ Faulted [] (DamagedRecord damage.file damage.id))
        × (g.tells_reads → IsSeenDamage command old.console damage)

    -- A change that is answered as made is made. One that is not, and is not stopped by the disk,
    -- leaves all as it was.
    abbrev pub MayChange : Command → Type 0
    MayChange command =
        (TellsMade command reply × HasChanged g old new
        × (g.tells_reads
        → LeavesRecords command reply (seen_records old.console)
        (seen_records new.console) new.console.names))
        ⊎ (((why : Refusal) × (reply ≡ Refused why)) × Stays g old new)
        ⊎ ((reply ≡ Faulted [] NoMemory) × Stays g old new)
        ⊎ (TellsDamage command × Stays g old new)
        ⊎ (TellsDiskFault × HasFailedChange g old new)

    abbrev pub MayBegin : Type 0
    MayBegin =
        ((reply ≡ Refused refusals.TransactionOpen) × (old.console.is_open ≡ true) × (new ≡ old))
        ⊎ ((reply ≡ Done) × (old.console.is_open ≡ false) × Begins g old new)

    -- A transaction that has written nothing is committed without a call of the disk. Where the
    -- disk failed and was only read, what was committed is so alone; else it is left open.
    abbrev pub MayCommit : Type 0
    MayCommit =
        ((reply ≡ Refused refusals.NoTransaction) × (old.console.is_open ≡ false) × (new ≡ old))
        ⊎ ((old.console.is_open ≡ true) × LeavesEither g old new.disk
        × (old.console.written ≡ [] → (reply ≡ Done) × (new.disk ≡ old.disk))
        × (((reply ≡ Done) × Commits g old new)
        ⊎ (TellsDiskFault × (FailsRead g old new ⊎ IsLeftOpen g old new))))

    abbrev pub MayRollback : Type 0
    MayRollback =
        ((reply ≡ Refused refusals.NoTransaction) × (old.console.is_open ≡ false) × (new ≡ old))
        ⊎ ((reply ≡ Done) × (old.console.is_open ≡ true) × Drops g old new)

    abbrev pub MayCheckpoint : Type 0
    MayCheckpoint =
        ((reply ≡ Refused refusals.TransactionOpen) × (old.console.is_open ≡ true) × (new ≡ old))
        ⊎ ((old.console.is_open ≡ false) × LeavesCommitted g old new.disk
        × (((reply ≡ Done) × IsBrought g old new) ⊎ (TellsDiskFault × IsStopped g old new)))

    -- Where the store is not found again, or its names are not, the session is failed.
    abbrev pub MayReopen : Type 0
    MayReopen =
        ((reply ≡ Refused refusals.TransactionOpen) × (old.console.is_open ≡ true) × (new ≡ old))
        ⊎ ((old.console.is_open ≡ false) × LeavesSame g old.disk new.disk
        × (((reply ≡ Done) × IsFound g old new) ⊎ (TellsDiskFault × IsLost g old new)
        ⊎ ((damage : Damage) × (reply ≡ Faulted [] (DamagedRecord damage.file damage.id))
        × IsLost g old new
        × (g.tells_reads → IsFoundDamaged (g.reads old.disk) old.console damage))))

    -- The disk is only read, and blamed only where it failed. What never lacks memory doesn't call
    -- it.
    abbrev pub MayRead : Command → Type 0
    MayRead command =
        MayTell command reply
        × (told_fault reply ≢ 0 → Rose (g.faults old.disk) (g.faults new.disk))
        × Stays g old new × (IsSpared command → new ≡ old)

    -- what begins or ends a transaction
    abbrev pub MayBound : Command → Type 0
    MayBound commands.Begin = MayBegin
    MayBound commands.Commit = MayCommit
    MayBound commands.Rollback = MayRollback
    MayBound _ = ⊥

    -- what is done to the store
    abbrev pub MayKeep : Command → Type 0
    MayKeep commands.Checkpoint = MayCheckpoint
    MayKeep commands.Reopen = MayReopen
    MayKeep _ = ⊥

    -- a command of this kind
    abbrev pub MayAnswerKind : Kind → Command → Type 0
    MayAnswerKind Blanks command = ⊥
    MayAnswerKind Ending command = ⊥
    MayAnswerKind Bound command = MayBound command
    MayAnswerKind Upkeep command = MayKeep command
    MayAnswerKind Sight command = ⊥
    MayAnswerKind Change command = MayChange command
    MayAnswerKind Question command = MayRead command

module _ {D : Type 0} (g : Ghosts D) where
  -- What a command that is served may be answered with, and what it then leaves.
  abbrev pub MayAnswer : Command → SessionView D → Reply → SessionView D → Type 0
  MayAnswer command old reply new = MayAnswerKind g old reply new (kind_of command) command

  -- A line of blanks and `quit` get no reply, and a line that is turned away changes nothing. Any
  -- other spells a command that is served.
  abbrev pub MayStep : InputLine → SessionView D → Reply → SessionView D → Type 0
  MayStep line old reply new =
      (IsSilent line × (reply ≡ Silent) × (new ≡ old))
      ⊎ (IsTurnedAway line old.console reply × (new ≡ old))
      ⊎ ((command : Command) × SpellsLine line command × IsServed old.console command
      × MayAnswer command old reply new)
