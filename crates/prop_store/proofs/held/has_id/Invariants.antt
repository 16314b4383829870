use Rattle.prop_store.proofs.held.has_id.Given as goal

abbrev pub invariant-loop-other : goal.invariant-loop-other
invariant-loop-other l = Unit {0}
