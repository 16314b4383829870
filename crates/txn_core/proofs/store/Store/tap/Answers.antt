use Rattle.std.proofs.Common.{arith, ap, length}
use Rattle.rec_bytes.specs.Pairs.{Pairs}
use Rattle.txn_core.proofs.store.Store.tap.Goals as goal

pub copy_into-requires-clause-room : goal.copy_into-requires-clause-room
copy_into-requires-clause-room g c = omega (arith, c.args.self.now.base.bounded.few, c.requires.room)

pub returns-clause-few : goal.returns-clause-few
returns-clause-few g c = omega (arith, ap (λ (ps : Pairs). length ps) c.copy_into.ensures.pairs, c.args.self.now.base.bounded.few)
