-- What is on a disk, and what a store has committed, where the disk was only read.
use Rattle.std.proofs.Common.{◌≡◌, sym, subst}
use Rattle.disk_model.specs.Contents.{Files}
use Rattle.disk_model.specs.Spans.{OnlyReads}
use Rattle.disk_model.specs.declared.disk.Disk.{Ghosts}
use Rattle.rec_bytes.specs.Space.{laid_over}
use Rattle.record_file.specs.MetaFile.{with_metas}
use Rattle.record_file.specs.Records.{record_at}
use Rattle.txn_core.specs.Base.{committed}
use Rattle.txn_core.specs.Kept.{IsOnDisk}
use Rattle.txn_core.specs.declared.base.Base.{Base}
use Rattle.txn_core.proofs.StoreRecords.{content-read}
use Rattle.follower.specs.Applying.{OnlyReadsBeneath}

module _ {D : Type 0} (g : Ghosts D) where
  -- what is on the disk stays where it is only read
  pub stored-read : (old new : D) (P : Files → Type 0) → OnlyReads g old new → IsOnDisk g old P → IsOnDisk g new P
  stored-read old new P reads stored = record {
    read = λ told. subst P (λ i file place. sym (reads.keeps file place) i) (stored.read told);
    images = λ told images image left. stored.images told images image (reads.crash images image left);
  }

module _ {D : Type 0} {g : Ghosts D} where
  -- and so does what is committed, whatever the transaction has written
  pub committed-only : (old new : Base D g) → OnlyReadsBeneath g old new → committed new ≡ committed old
  committed-only old new reads = λ i. laid_over (with_metas (reads.metas i).records (record_at (content-read old new reads.disk i))) (reads.changed i).pairs
