use Rattle.std.proofs.Common.{subst, sym}
use Rattle.prop_store.specs.BlockList.{AreSmall}
use Rattle.prop_store.proofs.block_list.BlockList.as_slice.Goals as goal

pub returns-clause-small : goal.returns-clause-small
returns-clause-small c = subst AreSmall (sym c.as_slice.ensures.value) c.self.invariant
