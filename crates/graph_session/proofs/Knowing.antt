-- What is said of a disk that tells its reads is said of it where that is known.
use Rattle.std.proofs.Common.{⊎_elim, Bool, true, false, ℕ, inl, inr}
use Rattle.disk_model.specs.Contents.{Files}
use Rattle.disk_model.specs.Spans.{OnlyReads}
use Rattle.disk_model.specs.declared.disk.Disk.{Ghosts}
use Rattle.rec_bytes.specs.declared.key.Key.{Key}
use Rattle.rec_bytes.specs.declared.record.Rec.{Rec}
use Rattle.recovery.specs.Finding.{IsCareful}
use Rattle.txn_core.specs.Kept.{IsOnDisk}
use Rattle.txn_core.specs.Opening.{StaysAsItWas}
use Rattle.graph_session.specs.Console.{SessionView, TellsAll}
use Rattle.graph_session.specs.Effects.{IsStored, Begins, Commits, CommitsAlone, CommitsFrom, Drops, FailsDrafted}
use Rattle.graph_session.specs.Effects.{FailsRead, IsAloneInDoubt, IsBrought, IsFound, IsLeftOpen, IsLost, IsStopped}
use Rattle.graph_session.specs.Effects.{Keeps, KeepsBeneath, Stays}
use Rattle.graph_session.specs.Known.{TellsIf, as_known}
use Rattle.graph_session.specs.Opening.{IsUnopened, LeavesByOpening, LeavesRefused}
use Rattle.txn_core.specs.declared.config.Config.{Config}
use Rattle.txn_core.specs.declared.open_fault.OpenFault.{OpenFault}

told_by : (known : Bool) (tells : Type 0) → TellsIf known tells → tells
told_by true tells told = told
told_by false tells told = absurd told

-- what is known to be told is told
pub told_of : (known : Bool) {D : Type 0} (g : Ghosts D) → (as_known known g).tells_reads → g.tells_reads
told_of known g told = told_by known g.tells_reads told

pub told_all : (known : Bool) {D : Type 0} (g : Ghosts D) → TellsAll (as_known known g) → TellsAll g
told_all known g told = (told_by known g.tells_reads told.0, told.1)

pub leaves-known : (known : Bool) {D : Type 0} (g : Ghosts D) (config : Config) (old new : D) → LeavesByOpening g config old new
    → LeavesByOpening (as_known known g) config old new
leaves-known known g config old new x told recoverable = x (told_all known g told) recoverable

module _ (known : Bool) {D : Type 0} {g : Ghosts D} where
  pub reads-known : {old new : D} → OnlyReads g old new → OnlyReads (as_known known g) old new
  reads-known x = record { keeps = x.keeps; crash = x.crash; time = x.time }

  pub stored-known : {disk : D} {holds : Files → Type 0} → IsStored g disk holds → IsStored (as_known known g) disk holds
  stored-known x = record { read = λ t. x.read (told_of known g t); images = λ t. x.images (told_all known g t) }

  pub on_disk-known : {disk : D} {holds : Files → Type 0} → IsOnDisk g disk holds → IsOnDisk (as_known known g) disk holds
  on_disk-known x = record { read = λ t. x.read (told_of known g t); images = λ t. x.images (told_of known g t) }

  pub beneath-known : {old new : SessionView D} → KeepsBeneath g old new → KeepsBeneath (as_known known g) old new
  beneath-known x = record {
    shape = x.shape;
    is_live = x.is_live;
    committed = λ t. x.committed (told_of known g t);
    no_draft = x.no_draft;
    disk = reads-known
        x.disk;
  }

  pub stays-known : {old new : SessionView D} → Stays g old new → Stays (as_known known g) old new
  stays-known x = record {
    beneath = beneath-known x.beneath;
    health = x.health;
    is_open = x.is_open;
    weight = x.weight;
    names = x.names;
    written = x.written;
    working = λ t. x.working (told_of known g t);
  }

  pub begins-known : {old new : SessionView D} → Begins g old new → Begins (as_known known g) old new
  begins-known x = record {
    beneath = beneath-known x.beneath;
    same_disk = x.same_disk;
    health = x.health;
    is_open = x.is_open;
    weight = x.weight;
    names =
        x.names;
    written = x.written;
    working = λ t. x.working (told_of known g t);
  }

  pub drops-known : {old new : SessionView D} → Drops g old new → Drops (as_known known g) old new
  drops-known x = record {
    beneath = beneath-known x.beneath;
    same_disk = x.same_disk;
    health = x.health;
    is_open = x.is_open;
    names = x.names;
    working = λ t.
        x.working (told_of known g t);
  }

  pub commits-known : {old new : SessionView D} → Commits g old new → Commits (as_known known g) old new
  commits-known x = record {
    ends = x.ends;
    health = x.health;
    live = x.live;
    names = x.names;
    committed = λ t. x.committed (told_of known g t);
    working = λ t.
        x.working (told_of known g t);
    stored = stored-known x.stored;
  }

  pub left_open-known : {old new : SessionView D} → IsLeftOpen g old new → IsLeftOpen (as_known known g) old new
  left_open-known x = record { ends = x.ends; health = x.health; failed = x.failed; names = x.names; stored = stored-known x.stored }

  pub brought-known : {old new : SessionView D} → IsBrought g old new → IsBrought (as_known known g) old new
  brought-known x = record {
    ends = x.ends;
    health = x.health;
    live = x.live;
    names = x.names;
    committed = λ t. x.committed (told_of known g t);
    working = λ t.
        x.working (told_of known g t);
    stored = stored-known x.stored;
  }

  pub stopped-known : {old new : SessionView D} → IsStopped g old new → IsStopped (as_known known g) old new
  stopped-known x = record { ends = x.ends; health = x.health; names = x.names; stored = stored-known x.stored }

  pub found-known : {old new : SessionView D} → IsFound g old new → IsFound (as_known known g) old new
  found-known x = record {
    clean = λ t. λ closed. reads-known (x.clean (told_of known g t) closed);
    ends = x.ends;
    health = x.health;
    live = x.live;
    names =
        λ t. x.names (told_of known g t);
    committed = λ t. x.committed (told_of known g t);
    working = λ t. x.working (told_of known g t);
    read = λ t. x.read
        (told_of known g t);
    images = λ t. x.images (told_all known g t);
  }

  pub lost-known : {old new : SessionView D} → IsLost g old new → IsLost (as_known known g) old new
  lost-known x = record {
    clean = λ t. λ closed. reads-known (x.clean (told_of known g t) closed);
    ends = x.ends;
    health = x.health;
    names = x.names;
    read =
        λ t. x.read (told_of known g t);
  }

  pub keeps-known : {old new : SessionView D} {weight : ℕ} → Keeps g old new weight → Keeps (as_known known g) old new weight
  keeps-known x = record { beneath = beneath-known x.beneath; health = x.health; is_open = x.is_open; weighs = x.weighs; brought = x.brought }

  pub commits_alone-known : {old new : SessionView D} {now : Key → Rec} → CommitsAlone g old new now → CommitsAlone (as_known known g) old new now
  commits_alone-known x = record {
    ends = x.ends;
    health = x.health;
    live = x.live;
    committed = λ t. x.committed (told_of known g t);
    working = λ t. x.working
        (told_of known g t);
    stored = stored-known x.stored;
  }

  pub alone_in_doubt-known : {old new : SessionView D} {now : Key → Rec} → IsAloneInDoubt g old new now → IsAloneInDoubt (as_known known g) old new now
  alone_in_doubt-known x = record { ends = x.ends; health = x.health; failed = x.failed; brought = x.brought; stored = stored-known x.stored }

  pub from-known : {old new : SessionView D} {now : Key → Rec} → CommitsFrom g old new now → CommitsFrom (as_known known g) old new now
  from-known x = record { mid = x.mid; reads = reads-known x.reads; crash = λ t. x.crash (told_all known g t) }

  pub fails_read-known : {old new : SessionView D} → FailsRead g old new → FailsRead (as_known known g) old new
  fails_read-known x = record { ends = x.ends; health = x.health; live = x.live; names = x.names; disk = reads-known x.disk }

  pub fails_drafted-known : {old new : SessionView D} → FailsDrafted g old new → FailsDrafted (as_known known g) old new
  fails_drafted-known x = record { ends = x.ends; health = x.health; live = x.live; brought = x.brought; disk = reads-known x.disk }

  pub careful-known : {old new : D} → IsCareful g old new → IsCareful (as_known known g) old new
  careful-known {old = old} {new = new} x told = ⊎_elim (λ (reads : OnlyReads g old new). inl (reads-known reads)) (λ store. inr store)
      (x (told_of known g told))

  pub refused-known : (old new : D) → LeavesRefused g old new → LeavesRefused (as_known known g) old new
  refused-known old new (inl reads) = inl (reads-known reads)
  refused-known old new (inr same) = inr same

  stays_as-known : {old new : D} {space : Key → Rec} → StaysAsItWas g old new space → StaysAsItWas (as_known known g) old new space
  stays_as-known x = record { read = x.read; crash = x.crash }

  pub unopened-known : {config : Config} {old new : D} {why : OpenFault} → IsUnopened g config old new why → IsUnopened (as_known known g) config old new why
  unopened-known {config = config} {old = old} {new = new} x = record {
    refused = λ t. x.refused (told_of known g t);
    sound = λ t. x.sound (told_of known g t);
    crash = leaves-known known g config old new x.crash;
    careful = careful-known x.careful;
    untouched = λ t is. refused-known old new (x.untouched (told_of known g t) is);
    differs = λ t space redoes other. stays_as-known (x.differs (told_of known g t) space redoes other);
    clean = λ t clean. reads-known (x.clean (told_of known g t) clean);
    later = x.later;
    cause = x.cause;
  }
