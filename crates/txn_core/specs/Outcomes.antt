-- What the calls that write the disk leave of a store.
use Rattle.std.specs.Prelude.{◌≡◌, ◌⊎◌, [], IsTrue, false}
use Rattle.disk_model.specs.Spans.{IsAllSettled, OnlyReads}
use Rattle.disk_model.specs.declared.disk.Disk.{Ghosts}
use Rattle.redo_log.specs.Entries.{HasEntries}
use Rattle.record_file.specs.Redone.{Redoes}
use Rattle.txn_core.specs.declared.base.Base.{Base}
use Rattle.txn_core.specs.Kept.{IsOnDisk}
use Rattle.txn_core.specs.Base.{committed, content, working}

module _ {D : Type 0} {g : Ghosts D} where
  -- after a checkpoint: the same is committed, the files have all of it, the log has no entry, and
  -- no byte is pending
  pub record IsCheckpointed (old new : Base D g) : Type 0 where
    pub space : g.tells_reads → committed new ≡ committed old
    pub changed : new.changed.pairs ≡ []
    pub tail : new.tail ≡ 0
    pub no_entry : g.tells_reads → HasEntries (content new) [] 0
    pub settled : g.tells_reads → g.tells_images → IsAllSettled g new.disk.now
    pub stored : IsOnDisk g new.disk.now (λ left. Redoes left (committed old))
    pub live : IsTrue new.live

  -- the disk failed, and has what was committed still
  pub record HasFailed (old new : Base D g) : Type 0 where
    pub failed : new.live ≡ false
    pub stored : IsOnDisk g new.disk.now (λ left. Redoes left (committed old))

  -- what the transaction has written is committed
  pub record IsWritten (old new : Base D g) : Type 0 where
    pub space : g.tells_reads → committed new ≡ working old
    pub stored : IsOnDisk g new.disk.now (λ left. Redoes left (working old))
    pub live : IsTrue new.live

  -- the disk failed, and has what was committed, or what the transaction has written too
  pub record IsInDoubt (old new : Base D g) : Type 0 where
    pub failed : new.live ≡ false
    pub stored : IsOnDisk g new.disk.now
        (λ left. Redoes left (committed old) ⊎ Redoes left (working old))

  -- An old record could not be read, and the transaction was dropped: the disk was only read, and
  -- has what was committed, alone. The store still serves commits.
  pub record IsDropped (old new : Base D g) : Type 0 where
    pub reads : OnlyReads g old.disk.now new.disk.now
    pub space : committed new ≡ committed old
    pub stored : IsOnDisk g new.disk.now (λ left. Redoes left (committed old))
    pub live : IsTrue new.live

  -- A commit that keeps old records failed, before anything of it was written or as it was. The
  -- health of the store tells which.
  abbrev pub HasFailedCommit : Base D g → Base D g → Type 0
  HasFailedCommit old new = IsDropped old new ⊎ IsInDoubt old new
