use Rattle.store_rules.proofs.Breaches.{none_at_all, none_broken}
use Rattle.store_rules.proofs.laws.blames_nobody.Goals as goal

pub returns-clause-seven : goal.returns-clause-seven
returns-clause-seven c = λ records shape store d. none_broken records shape store d

pub returns-clause-eight : goal.returns-clause-eight
returns-clause-eight c = λ records shape store d. none_at_all records shape store d
