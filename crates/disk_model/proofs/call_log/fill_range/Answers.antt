use Rattle.std.proofs.Common.{length}
use Rattle.std.proofs.Math.Seq.{map-set_same}
use Rattle.disk_model.proofs.call_log.fill_range.Goals as goal

pub returns-clause-rooms : goal.returns-clause-rooms
returns-clause-rooms c = map-set_same length c.args.files.now c.args.range.file c.fill.new.self c.index-files-file.result c.fill.ensures.room
