use Rattle.std.proofs.Common.{◌∙◌, ap}
use Rattle.std.proofs.lemmas.Result.{on_ok_weaker}
use Rattle.rec_bytes.specs.Space.{laid_over}
use Rattle.txn_core.specs.Base.{committed, working}
use Rattle.txn_core.specs.Outcomes.{IsWritten}
use Rattle.txn_core.specs.declared.base.Base.{Base}
use Rattle.txn_core.proofs.store.Store.commit.Goals as goal

pub returns-clause-read : goal.returns-clause-read
returns-clause-read g c reads =
    let disk = g.D.Disk in
    let mid = c.discard.new.self in
    let new = c.commit.new.self in
    on_ok_weaker {P = IsWritten {D = g.row.D.Denot} {g = disk} mid.base new} c.commit.result
    (λ written.
    (λ i. laid_over (laid_over (committed new) (c.commit.ensures.own i)) (c.discard.ensures.draft i)) ∙ written.space reads
    ∙ ap (λ (b : Base g.row.D.Denot disk). working b) c.discard.ensures.base) c.commit.ensures.done
