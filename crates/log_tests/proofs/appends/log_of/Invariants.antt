use Rattle.std.proofs.Common.{◌≤◌}
use Rattle.log_tests.proofs.appends.log_of.Given as goal

abbrev pub invariant-loop-id : goal.invariant-loop-id
invariant-loop-id l = l.place ≤ 1048575
