use Rattle.std.proofs.Common.{refl}
use Rattle.txn_core.proofs.Kept.{on_disk}
use Rattle.txn_core.proofs.store.Store.health.Goals as goal

pub returns-then-self-clause-stored : goal.returns-then-self-clause-stored
returns-then-self-clause-stored g c live =
    let b = c.args.self.now.base in
    on_disk g.D.Disk b.disk.now b.metas.records b.changed.pairs b.tail _ (b.kept live) (λ reads. refl)

pub returns-else-self-clause-stored : goal.returns-else-self-clause-stored
returns-else-self-clause-stored g c live =
    let b = c.args.self.now.base in
    on_disk g.D.Disk b.disk.now b.metas.records b.changed.pairs b.tail _ (b.kept live) (λ reads. refl)
