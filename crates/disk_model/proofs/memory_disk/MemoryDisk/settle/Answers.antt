use Rattle.std.proofs.Common.{subst, sym}
use Rattle.disk_model.specs.MemoryDisk.{IsRead}
use Rattle.disk_model.specs.CallLog.{CallLogState}
use Rattle.disk_model.proofs.ReadFiles.{IsRead-synced}
use Rattle.disk_model.proofs.memory_disk.MemoryDisk.settle.Goals as goal

pub invariant_of-self-2 : goal.invariant_of-self-2
invariant_of-self-2 c =
    let disk = c.self.inside in
    subst (λ (log : CallLogState). IsRead disk.base.items disk.pokes.items disk.files.items log.calls) (sym c.synced.ensures)
    (IsRead-synced disk.base.items disk.pokes.items disk.files.items disk.log.calls c.args.file c.self.invariant)
