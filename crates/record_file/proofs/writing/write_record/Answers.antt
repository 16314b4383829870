use Rattle.std.proofs.Common.{rules}
use Rattle.std.proofs.lemmas.Result.{on_ok_weaker}
use Rattle.disk_model.specs.Contents.{Holds}
use Rattle.record_file.proofs.Records.{record_at-holds}
use Rattle.record_file.proofs.writing.write_record.Goals as goal

pub returns-clause-record : goal.returns-clause-record
returns-clause-record g c reads =
    on_ok_weaker {P = Holds c.args.key.file c.place_of.result c.args.rec.bytes (g.D.Disk.reads c.write.new.self)} c.write.result
    (λ holds. record_at-holds c.args.key c.args.rec (g.D.Disk.reads c.write.new.self) c.requires.file (search rules) (rw c.place_of.ensures at holds))
    (c.write.ensures.written reads)
