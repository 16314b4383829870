use Rattle.std.proofs.Common.{arith}
use Rattle.rec_bytes.proofs.PairLaws.{growth_by_le}
use Rattle.snap_store.proofs.ShapeLaws.{ordered_merged}
use Rattle.std.proofs.Common.{subst, sym}
use Rattle.rec_bytes.specs.Pairs.{IsOrdered}
use Rattle.snap_store.proofs.releasing.join.Goals as goal

pub merge-requires : goal.merge-requires
merge-requires c = omega (arith, growth_by_le c.args.gone.set.pairs c.args.older.now.set.pairs, c.requires.gone.room, c.requires.few)

pub returns-clause-right : goal.returns-clause-right
returns-clause-right c = record {
  reader = c.requires.older.reader;
  rising = subst IsOrdered (sym c.merge.ensures.pairs) (ordered_merged c.args.gone.set.pairs c.args.older.now.set.pairs c.requires.gone.rising);
  room = omega (arith, c.merge.ensures.room, c.requires.gone.room);
}
