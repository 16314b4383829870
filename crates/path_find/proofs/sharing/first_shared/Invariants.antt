use Rattle.path_find.specs.Meeting.{AreApartFrom}
use Rattle.path_find.proofs.sharing.first_shared.Given as goal

abbrev pub invariant-loop-row : goal.invariant-loop-row
invariant-loop-row l = AreApartFrom l.tree l.from l.row l.other
