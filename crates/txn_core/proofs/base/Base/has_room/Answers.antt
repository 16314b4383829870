use Rattle.std.proofs.Common.{◌-◌, arith}
use Rattle.std.proofs.lemmas.Bool.{leb-true}
use Rattle.txn_core.proofs.Sets.{length-merged}
use Rattle.txn_core.proofs.base.Base.has_room.Goals as goal

pub returns-then-fits-clause-few : goal.returns-then-fits-clause-few
returns-then-fits-clause-few g c few =
    let b = c.args.self.now in
    let free = leb-true c.growth_by.result (8192 - c.len-free.result) few in
    omega (arith, free, c.growth_by.ensures, c.len-free.ensures.value, length-merged b.changed.pairs b.own.pairs c.len-free.ensures.rising, b.bounded.most)
