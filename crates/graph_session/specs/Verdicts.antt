-- What the reply to a line that reads says of the records that it sees, whatever they are.
use Rattle.std.specs.Prelude.{◌≡◌, ◌⊎◌, ℕ, zero, suc, true, List, []}
use Rattle.disk_model.specs.declared.disk.Disk.{Ghosts}
use Rattle.stream_io.specs.Lines.{InputLine}
use Rattle.plain_graph.specs.Lines.{IsQuestion, broken_text, sound_text}
use Rattle.plain_graph.specs.Reply.{DamagedRecord, DiskFailed, Fault, Faulted, NoMemory, PastCount}
use Rattle.plain_graph.specs.Reply.{Reply, Told}
use Rattle.plain_graph.specs.declared.command.Command.{Command}
use Rattle.plain_graph.specs.declared.command.Command.TheVariants as commands
use Rattle.rec_bytes.specs.Space.{laid_over}
use Rattle.rec_bytes.specs.declared.damage.Damage.{Damage}
use Rattle.rec_bytes.specs.declared.shape.Shape.{Shape}
use Rattle.snap_store.specs.Layers.{is_open, sees}
use Rattle.store_check.specs.Verdicts.{IsLeastBroken}
use Rattle.store_rules.specs.Breaking.{BreaksAny, damage}
use Rattle.store_rules.specs.Indexes.{IsIndexed}
use Rattle.store_rules.specs.Views.{Records}
use Rattle.graph_session.specs.Console.{ConsoleView}
use Rattle.graph_session.specs.SnapshotEffects.{SharedView}
use Rattle.graph_session.specs.State.{SpellsLine, session_in}
use Rattle.graph_session.specs.declared.health.Health.TheVariants as healths

-- a fault with which no verdict is found: want of memory, or the disk's
abbrev pub LeavesUnjudged : Fault → Type 0
LeavesUnjudged PastCount = ⊥
LeavesUnjudged NoMemory = Unit {0}
LeavesUnjudged DiskFailed = Unit {0}
LeavesUnjudged (DamagedRecord file id) = ⊥

-- `sound` only where the records keep all rules; `broken` with the least rule that is broken and a
-- record that breaks it
abbrev pub IsVerdict : Records → Shape → List ℕ → Type 0
IsVerdict records shape text =
    ((text ≡ sound_text) × IsIndexed records shape)
    ⊎ ((damage : Damage) × (text ≡ broken_text damage.file damage.id damage.rule)
    × IsLeastBroken records shape 1 damage)

-- the reply is a verdict, or says why there is none
abbrev pub TellsVerdict : Records → Shape → Reply → Type 0
TellsVerdict records shape (Told lines last) = (lines ≡ []) × IsVerdict records shape last
TellsVerdict records shape (Faulted lines fault) = (lines ≡ []) × LeavesUnjudged fault
TellsVerdict records shape _ = ⊥

-- A record that the reply calls damaged breaks a rule.
abbrev pub TellsBroken : Records → Shape → Reply → Type 0
TellsBroken records shape (Faulted lines (DamagedRecord file id)) =
    (rule : ℕ) × BreaksAny records shape (damage file id rule)
TellsBroken records shape _ = Unit {0}

-- What the reply to a question says of these records, whatever they are: `check` tells a verdict on
-- them, and a record that is called damaged breaks a rule.
pub record Judges (records : Records) (shape : Shape) (command : Command) (reply : Reply) : Type 0
  where
    pub verdict : command ≡ commands.Check → TellsVerdict records shape reply
    pub blames : TellsBroken records shape reply

-- the records that a line of the session that writes sees
abbrev pub seen_records : ConsoleView → Records
seen_records console = laid_over console.working console.draft

-- The records that a line of the session of this number sees: a reader sees what its snapshot
-- shows.
abbrev pub SeesRecords : {D : Type 0} → SharedView D → ℕ → Records → Type 0
SeesRecords view zero records = records ≡ seen_records view.session.console
SeesRecords view (suc reader) records =
    (is_open (suc reader) view.held.open_ones ≡ true)
    × (records ≡ sees view.held.open_ones (suc reader) view.session.console.committed)

-- What the reply to a question of a live session says of the records that its line sees, where the
-- disk tells its reads.
abbrev pub JudgesLine : {D : Type 0} → Ghosts D → InputLine → SharedView D → Reply → Type 0
JudgesLine g line old reply =
    g.tells_reads → old.session.console.health ≡ healths.Live
    → (command : Command) → SpellsLine line command → IsQuestion command
    → (records : Records) → SeesRecords old (session_in line) records
    → Judges records old.session.console.shape command reply
