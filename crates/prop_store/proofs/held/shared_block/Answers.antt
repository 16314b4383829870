use Rattle.std.proofs.Common.{inr, arith}
use Rattle.prop_store.proofs.ListLaws.{in_at}
use Rattle.prop_store.proofs.held.shared_block.Goals as goal

pub returns-then-has_id : goal.returns-then-has_id
returns-then-has_id c = inr (c.has_id.ensures c.if-has_id.true, in_at c.args.more.now c.loop-id.id-index (omega arith))
