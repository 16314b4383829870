use Rattle.std.proofs.Common.{leb, ltb, get_or, arith, length}
use Rattle.std.proofs.lemmas.Bool.{lt-ltb}
use Rattle.std.proofs.lemmas.Grind.{common_steps}
use Rattle.std.proofs.Math.Seq.{map-set_same}
use Rattle.disk_model.specs.PlainDisk.{contents}
use Rattle.disk_model.proofs.Lays.{lay-one}
use Rattle.disk_model.proofs.call_log.lay_write.Goals as goal

pub returns-then-counts-file-gt0-clause-rooms : goal.returns-then-counts-file-gt0-clause-rooms
returns-then-counts-file-gt0-clause-rooms c = map-set_same length c.args.files.now c.args.write.file c.lay.new.self c.index-files-file.result c.lay.ensures.room

pub returns-then-counts-file-gt0-clause-bytes : goal.returns-then-counts-file-gt0-clause-bytes
returns-then-counts-file-gt0-clause-bytes c other place =
    let write = c.args.write in
    lay-one (λ f. ltb 0 (get_or c.args.counts.now f 0)) (λ f p. leb (contents c.args.pokes.now f p) c.args.number) c.args.files.now write.file write.at
    write.bytes.now c.lay.new.self other place (lt-ltb 0 _ (omega arith)) (omega arith)
    (λ i. grind (arith, common_steps, c.lay.ensures.bytes i))
