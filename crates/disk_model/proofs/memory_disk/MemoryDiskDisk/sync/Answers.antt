use Rattle.disk_model.proofs.Moments.{keeps-sync, crash-sync, settled-sync, time-sync}
use Rattle.disk_model.proofs.memory_disk.MemoryDiskDisk.sync.Goals as goal

pub returns-clause-keeps : goal.returns-clause-keeps
returns-clause-keeps c = keeps-sync c.settle.result c.args.self.now c.settle.new.self c.args.file c.settle.ensures.ok c.settle.ensures.err

pub returns-clause-crash : goal.returns-clause-crash
returns-clause-crash c = crash-sync c.settle.result c.args.self.now c.settle.new.self c.args.file c.settle.ensures.ok c.settle.ensures.err

pub returns-clause-settled : goal.returns-clause-settled
returns-clause-settled c = settled-sync c.settle.result c.args.self.now c.settle.new.self c.args.file c.settle.ensures.ok

pub returns-clause-time : goal.returns-clause-time
returns-clause-time c = time-sync c.settle.result c.args.self.now c.settle.new.self c.args.file c.settle.ensures.ok c.settle.ensures.err
