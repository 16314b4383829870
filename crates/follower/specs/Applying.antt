-- What comes of a shipment that is applied to a store.
use Rattle.std.specs.Prelude.{◌≡◌, ◌⊎◌, ◌≤◌, IsTrue, List, ℕ, Result, Ok, Err}
use Rattle.fault_count.specs.Cause.{Rose}
use Rattle.disk_model.specs.Contents.{Files}
use Rattle.disk_model.specs.Spans.{AtEachMoment, OnlyReads}
use Rattle.disk_model.specs.declared.disk.Disk.{Ghosts}
use Rattle.rec_bytes.specs.declared.space.SpaceFault.{SpaceFault}
use Rattle.rec_bytes.specs.declared.space.SpaceFault.TheVariants as faults
use Rattle.record_file.specs.Redone.{Redoes}
use Rattle.txn_core.specs.Kept.{IsOnDisk}
use Rattle.txn_core.specs.Store.{committed}
use Rattle.txn_core.specs.declared.base.Base.{Base}
use Rattle.txn_core.specs.declared.store.Store.{Store}
use Rattle.follower.specs.Taken.{taken}

module _ {D : Type 0} (g : Ghosts D) where
  -- the disk was only read, and all but the transaction is as before
  pub record OnlyReadsBeneath (old new : Base D g) : Type 0 where
    pub same_disk : new.disk.ghost_name ≡ old.disk.ghost_name
    pub disk : OnlyReads g old.disk.now new.disk.now
    pub shape : new.shape ≡ old.shape
    pub metas : new.metas ≡ old.metas
    pub changed : new.changed ≡ old.changed
    pub tail : new.tail ≡ old.tail
    pub live : new.live ≡ old.live
    pub later : g.faults old.disk.now ≤ g.faults new.disk.now

  -- The shipment is committed.
  pub record IsCommitted (bytes : List ℕ) (old new : Store D g) : Type 0 where
    pub records : g.tells_reads → committed new ≡ taken (committed old) bytes
    pub stored : IsOnDisk g new.base.disk.now (λ left. Redoes left (committed new))
    pub live : IsTrue new.base.live

  -- what the disk of a store has, or the same with the shipment
  abbrev pub HasEither : List ℕ → Store D g → Files → Type 0
  HasEither bytes old left =
      Redoes left (committed old) ⊎ Redoes left (taken (committed old) bytes)

  -- The disk failed, and has the shipment or not.
  pub record IsDoubted (bytes : List ℕ) (old new : Store D g) : Type 0 where
    pub stored : IsOnDisk g new.base.disk.now (HasEither bytes old)
    pub rose : Rose (g.faults old.base.disk.now) (g.faults new.base.disk.now)

  abbrev pub ComesTo : List ℕ → Store D g → Store D g → Result (Unit {0}) SpaceFault → Type 0
  ComesTo bytes old new (Ok done) = IsCommitted bytes old new
  ComesTo bytes old new (Err faults.Memory) = OnlyReadsBeneath old.base new.base
  ComesTo bytes old new (Err faults.Disk) = IsDoubted bytes old new

  -- A stop at any moment leaves what was committed before, or with the shipment.
  pub record Applies (bytes : List ℕ) (old new : Store D g) (result : Result (Unit {0}) SpaceFault)
      : Type 0 where
    pub comes_to : ComesTo bytes old new result
    pub crash : g.tells_reads → g.tells_images
        → AtEachMoment g old.base.disk.now new.base.disk.now (HasEither bytes old)
    pub later : g.faults old.base.disk.now ≤ g.faults new.base.disk.now
