use Rattle.stored_graph.proofs.Stands.{Stands-only, newest-stands}
use Rattle.stored_graph.proofs.Zeros.{zeros-stand}
use Rattle.stored_graph.proofs.laws.stands_for_one_graph.Goals as goal

pub returns-clause-one : goal.returns-clause-one
returns-clause-one c = Stands-only

pub returns-clause-newest : goal.returns-clause-newest
returns-clause-newest c = newest-stands

pub returns-clause-zeros : goal.returns-clause-zeros
returns-clause-zeros c = zeros-stand
