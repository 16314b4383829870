use Rattle.disk_model.proofs.Moments.{elsewhere-write, crash-write, time-write}
use Rattle.disk_model.proofs.memory_disk.MemoryDiskDisk.write.Goals as goal

pub returns-clause-elsewhere : goal.returns-clause-elsewhere
returns-clause-elsewhere c = elsewhere-write c.put.result c.args.self.now c.put.new.self c.args.file c.args.at c.args.bytes.now c.put.ensures.ok
    c.put.ensures.err

pub returns-clause-crash : goal.returns-clause-crash
returns-clause-crash c = crash-write c.put.result c.args.self.now c.put.new.self c.args.file c.args.at c.args.bytes.now c.put.ensures.ok c.put.ensures.err

pub returns-clause-time : goal.returns-clause-time
returns-clause-time c = time-write c.put.result c.args.self.now c.put.new.self c.args.file c.args.at c.args.bytes.now c.put.ensures.ok c.put.ensures.err
