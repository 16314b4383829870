use Rattle.graph_session.proofs.Viewing.{gives-unviewed, gives-viewed}
use Rattle.graph_session.proofs.questions.views.give_view.Goals as goal

pub returns-in-Ok-clause-gives : goal.returns-in-Ok-clause-gives
returns-in-Ok-clause-gives g c = gives-viewed c.args.target.now c.in-Ok.ensures.read c.in-Ok.line.items c.in-Ok.ensures.makes
    (rw c.deref.ensures.value at c.give_line.ensures.gives)

pub returns-in-Err-clause-gives : goal.returns-in-Err-clause-gives
returns-in-Err-clause-gives g c = gives-unviewed c.args.target.now c.in-Err.ensures.read c.in-Err.answer c.in-Err.ensures.answer
    (λ told store. c.in-Err.ensures.refused told store) c.give_answer.ensures.gives
