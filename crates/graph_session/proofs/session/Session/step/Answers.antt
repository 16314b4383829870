use Rattle.graph_session.proofs.session.Session.step.Goals as goal

pub returns-clause-answers : goal.returns-clause-answers
returns-clause-answers g c = c.answer_line.ensures.answers.0
