use Rattle.graph_session.proofs.type_numbers.number_in.Goals as goal

pub returns-in-Some-clause-stands : goal.returns-in-Some-clause-stands
returns-in-Some-clause-stands c = λ records shape store. rw c.in-Some.is (c.number_of.ensures records shape store)
