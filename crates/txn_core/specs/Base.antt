-- What a store stands for, beneath its draft.
use Rattle.std.specs.Prelude.{◌≡◌}
use Rattle.disk_model.specs.Contents.{Files}
use Rattle.disk_model.specs.Spans.{OnlyReads}
use Rattle.disk_model.specs.declared.disk.Disk.{Ghosts}
use Rattle.rec_bytes.specs.declared.key.Key.{Key}
use Rattle.rec_bytes.specs.declared.record.Rec.{Rec}
use Rattle.rec_bytes.specs.Space.{laid_over}
use Rattle.record_file.specs.Records.{record_at}
use Rattle.txn_core.specs.declared.base.Base.{Base}
use Rattle.record_file.specs.MetaFile.{with_metas}

module _ {D : Type 0} {g : Ghosts D} where
  -- what is read of the disk
  abbrev pub content : Base D g → Files
  content b = g.reads b.disk.now

  -- the records of the files, those of the meta file from memory
  abbrev pub filed : Base D g → Key → Rec
  filed b = with_metas b.metas.records (record_at (content b))

  -- the records of the last commit
  abbrev pub committed : Base D g → Key → Rec
  committed b = laid_over (filed b) b.changed.pairs

  -- the records as the open transaction has them
  abbrev pub working : Base D g → Key → Rec
  working b = laid_over (committed b) b.own.pairs

  -- nothing but the disk's own state changed, by calls that only read
  pub record OnlyReadsBase (old new : Base D g) : Type 0 where
    pub same_disk : new.disk.ghost_name ≡ old.disk.ghost_name
    pub disk : OnlyReads g old.disk.now new.disk.now
    pub shape : new.shape ≡ old.shape
    pub metas : new.metas ≡ old.metas
    pub changed : new.changed ≡ old.changed
    pub own : new.own ≡ old.own
    pub tail : new.tail ≡ old.tail
    pub live : new.live ≡ old.live
    pub in_transaction : new.in_transaction ≡ old.in_transaction

  -- the disk wasn't called, and all but the transaction is as before
  pub record SameBeneath (old new : Base D g) : Type 0 where
    pub same_disk : new.disk.ghost_name ≡ old.disk.ghost_name
    pub disk : new.disk.now ≡ old.disk.now
    pub shape : new.shape ≡ old.shape
    pub metas : new.metas ≡ old.metas
    pub changed : new.changed ≡ old.changed
    pub tail : new.tail ≡ old.tail
    pub live : new.live ≡ old.live

  -- it is the same store over the same disk
  pub record SameStore (old new : Base D g) : Type 0 where
    pub same_disk : new.disk.ghost_name ≡ old.disk.ghost_name
    pub shape : new.shape ≡ old.shape
