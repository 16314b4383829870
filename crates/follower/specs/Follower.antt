-- What the calls of a follower answer, and what they leave.
use Rattle.std.specs.Prelude.{◌≡◌, ◌≢◌, ◌⊎◌, ℕ, ◌+◌, ◌≤◌, ◌<◌, Bool, true, false, List, [], Result}
use Rattle.std.specs.Prelude.{Ok, Err}
use Rattle.fault_count.specs.Cause.{Rose}
use Rattle.disk_model.specs.Spans.{AtEachMoment, IsAllSettled, OnlyReads}
use Rattle.disk_model.specs.declared.disk.Disk.{Ghosts}
use Rattle.rec_bytes.specs.Format.{log_file}
use Rattle.rec_bytes.specs.declared.key.Key.{Key}
use Rattle.rec_bytes.specs.declared.record.Rec.{Rec}
use Rattle.rec_bytes.specs.declared.shape.Shape.{Shape}
use Rattle.redo_log.specs.Entries.{HasEntries, open_byte}
use Rattle.record_file.specs.Records.{IsUnmade}
use Rattle.record_file.specs.Redone.{Redoes}
use Rattle.recovery.specs.Finding.{IsCareful, IsMade}
use Rattle.txn_core.specs.Again.{IsOld, RefusesAgain}
use Rattle.txn_core.specs.Config.{Suits, shape_of}
use Rattle.txn_core.specs.Kept.{IsOnDisk}
use Rattle.txn_core.specs.Opening.{
  HasOpeningEntry,
  IsAskedOther,
  IsClean,
  HoldsStore,
  IsOldOrNew,
  IsOldOrRaised,
  IsRefusal,
  IsWant,
  OnlyDiffers,
  Opens,
  RefusesOpening,
  StaysAsItWas,
}
use Rattle.txn_core.specs.declared.again_fault.AgainFault.{AgainFault}
use Rattle.txn_core.specs.declared.again_fault.AgainFault.TheVariants as again
use Rattle.txn_core.specs.declared.config.Config.{Config}
use Rattle.txn_core.specs.declared.open_fault.OpenFault.{OpenFault}
use Rattle.txn_core.specs.declared.open_fault.OpenFault.TheVariants as opening
use Rattle.follower.specs.Shipment.{IsNoShipment, IsShipment, number_of}
use Rattle.follower.specs.Taken.{number_in, taken}
use Rattle.follower.specs.declared.accept.Accept.{Accept}
use Rattle.follower.specs.declared.accept.Accept.TheVariants.{
  Applied,
  Bad,
  Disk,
  Gap,
  Memory,
  Old,
}

-- A follower as its callers see it: its disk, the shape and the committed records of its store, the
-- number that it has, and whether it takes shipments.
pub record View (D : Type 0) : Type 0 where
  pub disk : D
  pub shape : Shape
  pub records : Key → Rec
  pub have : ℕ
  pub live : Bool

-- the bytes are the next shipment
pub record IsNextFor {D : Type 0} (follower : View D) (bytes : List ℕ) : Type 0 where
  pub shipment : IsShipment follower.shape bytes
  pub number : number_of bytes ≡ follower.have + 1

module _ {D : Type 0} (g : Ghosts D) where
  -- Nothing changed, and the disk was at most read.
  pub record IsUnchanged (old new : View D) : Type 0 where
    pub disk : OnlyReads g old.disk new.disk
    pub records : g.tells_reads → new.records ≡ old.records
    pub have : new.have ≡ old.have
    pub live : new.live ≡ old.live

  -- The shipment is committed, with its number.
  pub record HasApplied (bytes : List ℕ) (old new : View D) : Type 0 where
    pub records : g.tells_reads → new.records ≡ taken old.records bytes
    pub stored : IsOnDisk g new.disk (λ left. Redoes left new.records)
    pub have : new.have ≡ number_of bytes
    pub live : new.live ≡ true

  -- The disk failed, and has the shipment or not.
  pub record IsInDoubt (bytes : List ℕ) (old new : View D) : Type 0 where
    pub stored : IsOnDisk g new.disk
        (λ left. Redoes left old.records ⊎ Redoes left (taken old.records bytes))
    pub live : new.live ≡ false
    pub rose : Rose (g.faults old.disk) (g.faults new.disk)

  -- Each answer, and what it says.
  abbrev pub Answers : List ℕ → View D → View D → Accept → Type 0
  Answers bytes old new (Bad at) = IsNoShipment old.shape bytes at × IsUnchanged old new
  Answers bytes old new (Old have) =
      IsShipment old.shape bytes × (number_of bytes ≤ old.have) × (have ≡ old.have)
      × IsUnchanged old new
  Answers bytes old new (Gap have) =
      IsShipment old.shape bytes × (old.have + 1 < number_of bytes) × (have ≡ old.have)
      × IsUnchanged old new
  Answers bytes old new (Applied number) =
      IsNextFor old bytes × (number ≡ number_of bytes) × HasApplied bytes old new
  Answers bytes old new Memory = IsNextFor old bytes × IsUnchanged old new
  Answers bytes old new Disk = IsNextFor old bytes × IsInDoubt bytes old new

  -- A shipment came. A stop at any moment leaves what was committed before, or where the bytes are
  -- the next shipment that too.
  pub record Accepts (bytes : List ℕ) (old new : View D) (answer : Accept) : Type 0 where
    pub answers : Answers bytes old new answer
    pub crash : g.tells_reads → g.tells_images → AtEachMoment g old.disk new.disk
        (λ left. Redoes left old.records
        ⊎ (IsNextFor old bytes × Redoes left (taken old.records bytes)))
    pub shape : new.shape ≡ old.shape
    pub later : g.faults old.disk ≤ g.faults new.disk

  -- A stop at any moment of an opening leaves what was there, or brought into order and to the
  -- newest version, or the new store. A clean store is only read.
  pub record LeavesByOpening (config : Config) (old new : D) : Type 0 where
    pub made : g.tells_reads → g.tells_images → (space : Key → Rec) (shape : Shape)
        → Redoes (g.reads old) space → IsMade space shape
        → AtEachMoment g old new (λ left. g.may_leave old left ⊎ IsOldOrRaised shape space left)
    pub unmade : g.tells_reads → g.tells_images → IsUnmade (g.reads old) → AtEachMoment g old new
        (λ left. g.may_leave old left ⊎ IsOldOrNew (g.reads old) (shape_of config) left)
    pub clean : g.tells_reads → IsClean (g.reads old) → OnlyReads g old new
    pub later : g.faults old ≤ g.faults new

  -- What is read is what the follower has committed, and its number is the one in it. Nothing is
  -- pending, and the log has no entry but a new store's or the one that brings an older store to
  -- this version.
  pub record IsOpened (config : Config) (old : D) (new : View D) : Type 0 where
    pub leaves : LeavesByOpening config old new.disk
    pub opens : g.tells_reads → Opens (g.reads old) config new.shape new.records
    pub suits : Suits config new.shape
    pub have : g.tells_reads → new.have ≡ number_in new.records
    pub stored : IsOnDisk g new.disk (λ left. Redoes left new.records)
    pub settled : g.tells_reads → g.tells_images → IsAllSettled g new.disk
    pub log : g.tells_reads → HasOpeningEntry (g.reads old) new.shape (g.reads new.disk)
    pub live : new.live ≡ true

  -- Why no follower is opened, and the disk then. Where another shape is asked for, the store isn't
  -- brought to the newest version.
  pub record IsUnopened (config : Config) (old new : D) (why : OpenFault) : Type 0 where
    pub leaves : LeavesByOpening config old new
    pub refused : g.tells_reads → RefusesOpening (g.reads old) config why
    pub sound : g.tells_reads → (space : Key → Rec) (shape : Shape) → Redoes (g.reads old) space
        → IsMade space shape → OnlyDiffers shape config why
    pub unmade : g.tells_reads → IsUnmade (g.reads old) → IsWant why
    pub no_memory : why ≡ opening.Memory → new ≡ old
    pub untouched : g.tells_reads → IsRefusal why → OnlyReads g old new
    pub differs : g.tells_reads → (space : Key → Rec) → Redoes (g.reads old) space
        → IsAskedOther why → StaysAsItWas g old new space
    pub careful : IsCareful g old new
    pub cause : why ≡ opening.Disk → Rose (g.faults old) (g.faults new)

  -- What was read is served again, all of it in the files, with no entry in the log and no byte
  -- pending.
  pub record IsAgain (old new : View D) : Type 0 where
    pub records : g.tells_reads → (space : Key → Rec) → Redoes (g.reads old.disk) space
        → new.records ≡ space
    pub store : g.tells_reads → HoldsStore (g.reads old.disk) old.shape
    pub newest : g.tells_reads → ¬ IsOld new.records
    pub have : g.tells_reads → new.have ≡ number_in new.records
    pub stored : IsOnDisk g new.disk (λ left. Redoes left new.records)
    pub no_entry : g.tells_reads → HasEntries (g.reads new.disk) [] 0
    pub settled : g.tells_reads → g.tells_images → IsAllSettled g new.disk
    pub live : new.live ≡ true

  -- Why it isn't.
  pub record IsNotAgain (old new : View D) (why : AgainFault) : Type 0 where
    pub refused : g.tells_reads → RefusesAgain (g.reads old.disk) old.shape why
    pub sound : g.tells_reads → (space : Key → Rec) → Redoes (g.reads old.disk) space
        → IsMade space old.shape → ¬ IsOld space → why ≡ again.Disk
    pub cause : why ≡ again.Disk → Rose (g.faults old.disk) (g.faults new.disk)
    pub live : new.live ≡ false

  abbrev pub AnswersAgain : View D → View D → Result (Unit {0}) AgainFault → Type 0
  AnswersAgain old new (Ok done) = IsAgain old new
  AnswersAgain old new (Err why) = IsNotAgain old new why

  -- A stop at any moment leaves what was there, or brought into order, and what is read redoes to
  -- the same. Files that are no store, or a broken one, are left as they were, and where the log
  -- has no entry the disk is only read.
  pub record Reopens (old new : View D) (result : Result (Unit {0}) AgainFault) : Type 0 where
    pub answers : AnswersAgain old new result
    pub crash : g.tells_reads → g.tells_images → (space : Key → Rec)
        → Redoes (g.reads old.disk) space → AtEachMoment g old.disk new.disk
        (λ left. g.may_leave old.disk left ⊎ Redoes left space)
    pub read : g.tells_reads → (space : Key → Rec) → Redoes (g.reads old.disk) space
        → Redoes (g.reads new.disk) space
    pub careful : IsCareful g old.disk new.disk
    pub clean : g.tells_reads → g.reads old.disk log_file 0 ≢ open_byte
        → OnlyReads g old.disk new.disk
    pub shape : new.shape ≡ old.shape
    pub later : g.faults old.disk ≤ g.faults new.disk
