use Rattle.std.proofs.Common.{◌≡◌, ◌∙◌, ap}
use Rattle.disk_model.specs.declared.disk.Disk.{Ghosts}
use Rattle.rec_bytes.specs.declared.key.Key.{Key}
use Rattle.rec_bytes.specs.declared.record.Rec.{Rec}
use Rattle.rec_bytes.specs.Pairs.{Pairs}
use Rattle.rec_bytes.specs.Space.{laid_over}
use Rattle.rec_bytes.proofs.Spaces.{laid_over-merged}
use Rattle.record_file.specs.Records.{record_at}
use Rattle.record_file.specs.MetaFile.{with_metas}
use Rattle.txn_core.specs.Base.{SameBeneath, committed, working}
use Rattle.txn_core.specs.declared.base.Base.{Base}
use Rattle.rec_bytes.proofs.Causes.{never_ok}
use Rattle.txn_core.proofs.store.Store.keep.Goals as goal

-- the disk wasn't called, so the same is committed
committed-beneath : {D : Type 0} {g : Ghosts D} (old new : Base D g) → SameBeneath old new → committed new ≡ committed old
committed-beneath {g = g} old new same = λ i. laid_over (with_metas (same.metas i).records (record_at (g.reads (same.disk i)))) (same.changed i).pairs

pub returns-clause-working : goal.returns-clause-working
returns-clause-working g c =
    let old = c.args.self.now in
    let new = c.keep.new.self in
    ap (λ (b : Base g.row.D.Denot g.D.Disk). working b) c.discard.ensures.base
    ∙ ap (λ (pairs : Pairs). laid_over (committed new) pairs) c.in_ok-keep.ensures.own
    ∙ laid_over-merged (committed new) old.base.own.pairs old.draft.pairs c.in_ok-keep.ensures.rising
    ∙ ap (λ (records : Key → Rec). laid_over (laid_over records old.base.own.pairs) old.draft.pairs) (committed-beneath old.base new c.in_ok-keep.ensures.same)

-- the draft has nothing any more
pub returns-clause-read : goal.returns-clause-read
returns-clause-read g c = ap (λ (pairs : Pairs). laid_over (working c.discard.new.self.base) pairs) c.discard.ensures.draft ∙ returns-clause-working g c

pub returns-in_err-keep-clause-own : goal.returns-in_err-keep-clause-own
returns-in_err-keep-clause-own g c = never_ok c.from_residual.result _ _ c.from_residual.ensures.1

pub returns-in_err-keep-clause-working : goal.returns-in_err-keep-clause-working
returns-in_err-keep-clause-working g c = never_ok c.from_residual.result _ _ c.from_residual.ensures.1

pub returns-in_err-keep-clause-draft : goal.returns-in_err-keep-clause-draft
returns-in_err-keep-clause-draft g c = never_ok c.from_residual.result _ _ c.from_residual.ensures.1

pub returns-in_err-keep-clause-fits : goal.returns-in_err-keep-clause-fits
returns-in_err-keep-clause-fits g c = never_ok c.from_residual.result _ _ c.from_residual.ensures.1
