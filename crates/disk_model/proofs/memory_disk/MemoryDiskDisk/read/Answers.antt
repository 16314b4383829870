use Rattle.disk_model.specs.PlainDisk.{contents}
use Rattle.disk_model.proofs.Moments.{Elapses-same}
use Rattle.disk_model.proofs.memory_disk.MemoryDiskDisk.read.Goals as goal

pub returns-clause-time : goal.returns-clause-time
returns-clause-time c = rw (← c.self.view_is) (Elapses-same (contents c.self.inside.base.items) (contents c.self.inside.pokes.items) c.self.inside.log.calls)
