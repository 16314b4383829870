-- The records of a store whose disk was not called, or only read.
use Rattle.std.proofs.Common.{◌≡◌, ◌∙◌, [], ap}
use Rattle.disk_model.specs.Spans.{OnlyReads}
use Rattle.disk_model.specs.declared.disk.Disk.{Ghosts}
use Rattle.rec_bytes.specs.Space.{laid_over}
use Rattle.record_file.specs.MetaFile.{with_metas}
use Rattle.record_file.specs.Records.{record_at}
use Rattle.txn_core.specs.Base.{OnlyReadsBase, SameBeneath, committed, content, working}
use Rattle.txn_core.specs.Store as store
use Rattle.txn_core.specs.declared.base.Base.{Base}
use Rattle.txn_core.specs.declared.store.Store.{Store}

module _ {D : Type 0} {g : Ghosts D} where
  -- the disk wasn't called, so the same is committed
  pub committed-beneath : (old new : Base D g) → SameBeneath old new → committed new ≡ committed old
  committed-beneath old new same = λ i. laid_over (with_metas (same.metas i).records (record_at (g.reads (same.disk i)))) (same.changed i).pairs

  -- and the transaction has written the same
  pub working-beneath : (old new : Base D g) → SameBeneath old new → new.own.pairs ≡ old.own.pairs → working new ≡ working old
  working-beneath old new same own = λ i. laid_over (committed-beneath old new same i) (own i)

  -- the disk was only read
  pub content-read : (old new : Base D g) → OnlyReads g old.disk.now new.disk.now → content new ≡ content old
  content-read old new reads = λ i file place. reads.keeps file place i

  pub committed-read : (old new : Base D g) → OnlyReadsBase old new → committed new ≡ committed old
  committed-read old new reads = λ i. laid_over (with_metas (reads.metas i).records (record_at (content-read old new reads.disk i))) (reads.changed i).pairs

  pub working-read : (old new : Base D g) → OnlyReadsBase old new → working new ≡ working old
  working-read old new reads = λ i. laid_over (committed-read old new reads i) (reads.own i).pairs

  -- a transaction that has written nothing
  pub working-none : (b : Base D g) → b.own.pairs ≡ [] → working b ≡ committed b
  working-none b none = ap (laid_over (committed b)) none

  -- an empty draft
  pub drafted-none : (s : Store D g) → s.draft.pairs ≡ [] → store.drafted s ≡ store.working s
  drafted-none s none = ap (laid_over (store.working s)) none

  -- so it reads what it has committed
  pub drafted-committed : (s : Store D g) → s.base.own.pairs ≡ [] → s.draft.pairs ≡ [] → store.drafted s ≡ store.committed s
  drafted-committed s own draft = drafted-none s draft ∙ working-none s.base own
