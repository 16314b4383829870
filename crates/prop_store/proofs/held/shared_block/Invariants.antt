use Rattle.prop_store.proofs.held.shared_block.Given as goal

abbrev pub invariant-loop-id : goal.invariant-loop-id
invariant-loop-id l = Unit {0}
