use Rattle.txn_core.proofs.space.StoreReads.get_into.Goals as goal

pub returns-in-Ok-clause-onward : goal.returns-in-Ok-clause-onward
returns-in-Ok-clause-onward g c = c.read_into.ensures.onward.base

pub returns-in-Err-clause-onward : goal.returns-in-Err-clause-onward
returns-in-Err-clause-onward g c = c.read_into.ensures.onward.base
