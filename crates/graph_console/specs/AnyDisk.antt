-- What a run of the program does over any disk, whatever is in it: each line does what the contract
-- of the session says, and no record is lost but by a line that acknowledges a transaction or says
-- that the disk failed.
use Rattle.std.specs.Prelude.{◌≡◌, ◌≢◌, ◌⊎◌, ◌≤◌, List, true}
use Rattle.fault_count.specs.Cause.{Rose}
use Rattle.disk_model.specs.Spans.{AtEachMoment}
use Rattle.disk_model.specs.declared.disk.Disk.{Ghosts}
use Rattle.rec_bytes.specs.declared.key.Key.{Key}
use Rattle.rec_bytes.specs.declared.record.Rec.{Rec}
use Rattle.rec_bytes.specs.declared.shape.Shape.{Shape}
use Rattle.record_file.specs.Redone.{Redoes}
use Rattle.txn_core.specs.Opening.{HoldsStore, IsOldOrRaised, StaysAsItWas}
use Rattle.console_words.specs.declared.run_options.RunOptions.{RunOptions}
use Rattle.graph_session.specs.Console.{Onward}
use Rattle.graph_session.specs.Exchange.{Exchange, told_fault}
use Rattle.graph_session.specs.Opening.{IsUnopened}
use Rattle.graph_session.specs.ReaderAnswers.{MayStepAs}
use Rattle.graph_session.specs.SnapshotEffects.{SharedView}
use Rattle.graph_session.specs.State.{session_in}
use Rattle.graph_session.specs.Tapping.{Acknowledges}
use Rattle.graph_session.specs.Verdicts.{JudgesLine}
use Rattle.graph_console.specs.Program.{Terms, config_for}
use Rattle.graph_console.specs.Run.{Course, RunBy, RunComesBy}
use Rattle.graph_console.specs.Sending.{OpensSession}

-- A line of a session over any disk. What the reply to a question says of the records that the line
-- sees is true of them. The reply blames the disk only where it failed in the line, and then it
-- counted a fault.
pub record StepsOver {D : Type 0} (disk : Ghosts D) (old : SharedView D) (x : Exchange)
    (new : SharedView D) : Type 0 where
  pub may : MayStepAs disk (session_in x.line) x.line old x.reply new
  pub judges : JudgesLine disk x.line old x.reply
  pub counted :
      x.disk_failed ≡ true → Rose (disk.faults old.session.disk) (disk.faults new.session.disk)
  pub blames : told_fault x.reply ≢ 0 → x.disk_failed ≡ true
  pub onward : Onward disk old.session new.session

-- It acknowledges no transaction, and doesn't say that the disk failed.
pub record StepsQuietly {D : Type 0} (disk : Ghosts D) (old : SharedView D) (x : Exchange)
    (new : SharedView D) : Type 0 where
  pub step : StepsOver disk old x new
  pub unacknowledged : ¬ Acknowledges old.session.console.is_open x.line x.reply
  pub untold : told_fault x.reply ≡ 0

-- the course of a run of what the sessions have
abbrev pub over_disk : {D : Type 0} → Ghosts D → Course (SharedView D)
over_disk disk = record {
  step = StepsOver disk;
  health = λ view. view.session.console.health;
}

-- What holds of a run from one state of the disk to a later one, whatever is in it. The run ends
-- over the disk as it is left. If after a view of the run no line acknowledges a transaction and
-- none says that the disk failed, the records that were read there stay as they were. If that is so
-- of all lines, a store that was there has its records, as they were or as they are in the newest
-- version, in what is read and in what a crash leaves that it didn't leave before.
pub record EndsOver {D : Type 0} (disk : Ghosts D) (old new : D) (first : SharedView D)
    (run : List Exchange) (last : SharedView D) : Type 0 where
  pub left : last.session.disk ≡ new
  pub kept : disk.tells_reads → (view : SharedView D)
      → (by : RunComesBy (StepsOver disk) first run last view)
      → RunBy (StepsQuietly disk) view by.later last → (space : Key → Rec)
      → Redoes (disk.reads view.session.disk) space
      → StaysAsItWas disk view.session.disk new space
  pub lossless : disk.tells_reads → (shape : Shape) → (store : HoldsStore (disk.reads old) shape)
      → RunBy (StepsQuietly disk) first run last
      → IsOldOrRaised shape store.space (disk.reads new)
      × (disk.tells_images → AtEachMoment disk old new (λ content.
      disk.may_leave old content ⊎ IsOldOrRaised shape store.space content))

-- the terms of a run over any disk from this view, in a store that is open
abbrev pub terms_on : {D : Type 0} (disk : Ghosts D) → SharedView D → D → Terms (over_disk disk)
terms_on disk first new = record {
  starts = λ view. view ≡ first;
  ends = λ first run last. last.session.disk ≡ new;
  unopened = λ why. ⊥;
}

-- the terms of a run over any disk, for these options
abbrev pub terms_over : {D : Type 0} (disk : Ghosts D) → RunOptions → D → D
    → Terms (over_disk disk)
terms_over disk options old new = record {
  starts = OpensSession disk (config_for options) old;
  ends = EndsOver disk old new;
  unopened = IsUnopened disk (config_for options) old new;
}
