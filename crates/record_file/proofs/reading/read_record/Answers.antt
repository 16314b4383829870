use Rattle.std.proofs.Common.{rules}
use Rattle.record_file.proofs.Records.{record_at-read}
use Rattle.record_file.proofs.reading.read_record.Goals as goal

pub returns-clause-record : goal.returns-clause-record
returns-clause-record g c reads =
    record_at-read c.args.key c.read.new.out (g.D.Disk.reads c.args.disk.now) c.requires.file (search rules)
    (rw c.place_of.ensures at c.in_ok-read.ensures.bytes reads)
