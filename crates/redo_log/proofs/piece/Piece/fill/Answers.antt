use Rattle.std.proofs.Common.{arith}
use Rattle.redo_log.proofs.Bytes.{AreWholeFrom-more, filled-more}
use Rattle.redo_log.proofs.piece.Piece.fill.Goals as goal

pub loop-i-preserved : goal.loop-i-preserved
loop-i-preserved c = record {
  added = filled-more c.args.self.now c.loop-i.self c.push_write.new.self c.args.writes.now.pairs c.args.from c.loop-i.i c.at-write.result (omega arith)
      c.at-write.ensures.value c.loop-i.invariant.added c.push_write.ensures.bytes;
  length_is = omega (arith, c.push_write.ensures.length, c.loop-i.invariant.length_is);
  whole = AreWholeFrom-more c.args.writes.now.pairs c.args.from c.loop-i.i c.at-write.result c.loop-i.invariant.whole c.at-write.ensures.value
      c.at-write.ensures.whole;
}
