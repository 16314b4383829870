use Rattle.traversal_run.proofs.AllItems.{IsTaking}
use Rattle.traversal_run.proofs.items.take_all.Given as goal

abbrev pub invariant-loop : goal.invariant-loop
invariant-loop g l = IsTaking g.R.Reads l.names.names l.initial.run l.initial.space l.space l.items.items l.run
