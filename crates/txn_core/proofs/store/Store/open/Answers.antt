use Rattle.std.proofs.Common.{refl}
use Rattle.txn_core.proofs.Kept.{on_disk}
use Rattle.txn_core.proofs.store.Store.open.Goals as goal

pub returns-in-Ok-clause-stored : goal.returns-in-Ok-clause-stored
returns-in-Ok-clause-stored g c =
    let b = c.in-Ok.base in
    on_disk g.D.Disk b.disk.now b.metas.records b.changed.pairs b.tail _ (b.kept c.in-Ok.ensures.live) (λ reads. refl)

pub returns-in-Ok-clause-crash : goal.returns-in-Ok-clause-crash
returns-in-Ok-clause-crash g c reads images space shape redoes is = c.in-Ok.ensures.crash reads images space shape redoes is

pub returns-in-Err-clause-sound : goal.returns-in-Err-clause-sound
returns-in-Err-clause-sound g c reads space shape redoes is = c.in-Err.ensures.sound reads space shape redoes is

pub returns-in-Err-clause-left : goal.returns-in-Err-clause-left
returns-in-Err-clause-left g c reads images space shape redoes is = c.in-Err.ensures.left reads images space shape redoes is
