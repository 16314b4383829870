use Rattle.std.proofs.Common.{subst, get_or, arith}
use Rattle.store_rules.specs.Chains.{In}
use Rattle.prop_store.proofs.ListLaws.{in_at}
use Rattle.prop_store.proofs.held.has_id.Goals as goal

pub returns-then-other-id : goal.returns-then-other-id
returns-then-other-id c _ = subst (λ x. In x c.args.ids.now) c.if-other-id.true (in_at c.args.ids.now c.loop-other.other-index (omega arith))
