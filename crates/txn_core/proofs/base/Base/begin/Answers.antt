use Rattle.txn_core.proofs.Sets.{empty_pairs}
use Rattle.txn_core.proofs.base.Base.begin.Goals as goal

pub returns-clause-own : goal.returns-clause-own
returns-clause-own g c = let b = c.args.self.now in empty_pairs b.own.pairs (b.bounded.closed c.requires)
