use Rattle.std.proofs.Common.{Err, ap}
use Rattle.graph_session.proofs.IndexQuestions.{gives-found, gives-unfound}
use Rattle.graph_session.proofs.questions.index_results.give_found.Goals as goal

pub returns-in-Ok-clause-gives : goal.returns-in-Ok-clause-gives
returns-in-Ok-clause-gives g c =
    let a = c.args in
    let met = c.in-Ok.ensures in
    gives-found a.label.now a.key.now a.value.now met.read c.in-Ok.nodes.items (λ told store. met.there told store) (λ told store. met.found told store)
    (rw c.deref.ensures.value at c.give_vertices.ensures.gives)

pub returns-in-Err-clause-gives : goal.returns-in-Err-clause-gives
returns-in-Err-clause-gives g c =
    let a = c.args in
    let met = c.in-Err.ensures in
    gives-unfound a.label.now a.key.now a.value.now met.read c.in-Err.fault (λ disk. met.cause.disk (ap Err disk)) (λ told store. met.refused told store)
    (λ told. met.damaged told) (rw c.from.ensures at c.give_answer.ensures.gives)
