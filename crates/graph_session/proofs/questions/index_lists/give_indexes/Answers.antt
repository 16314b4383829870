use Rattle.std.proofs.Common.{◌∙◌, Err, ap, refl, sym}
use Rattle.plain_graph.specs.Lines.{listed}
use Rattle.graph_session.specs.IndexLists.{index_lines}
use Rattle.graph_session.proofs.Expansion.{is_read-gets}
use Rattle.graph_session.proofs.GraphIndexes.{graph-lines}
use Rattle.graph_session.proofs.IndexesTold.{asks-indexes, lines-formed}
use Rattle.graph_session.proofs.Questioned.{asks-told, asks-unread}
use Rattle.graph_session.proofs.questions.index_lists.give_indexes.Goals as goal

pub returns-in-Ok-clause-gives : goal.returns-in-Ok-clause-gives
returns-in-Ok-clause-gives g c =
    let s = g.R.Reads.state c.args.space.now in
    let names = c.args.context.names.now.names in
    let count = c.name_count-count.result in
    let met = c.in-Ok.ensures in
    let pairs = c.in-Ok.pairs.items in
    asks-told asks-indexes (is_read-gets g.R.Reads met.at_most.count met.at_most.is met.onward met.cause.later) (listed (index_lines names count pairs))
    (lines-formed names count pairs) refl (λ told store. tt) (λ told store. tt)
    (λ told store.
    ap listed
    ((λ i. index_lines names (c.name_count-count.ensures.is store i) (met.listed told _ store.indexes i)) ∙ sym (graph-lines s.records s.shape names store)))
    (rw c.deref.ensures.value at c.give_pairs.ensures.gives)

pub returns-in-Err-clause-gives : goal.returns-in-Err-clause-gives
returns-in-Err-clause-gives g c =
    let met = c.in-Err.ensures in
    asks-unread asks-indexes (is_read-gets g.R.Reads met.at_most.count met.at_most.is met.onward met.cause.later) c.in-Err.fault
    (λ disk. met.cause.disk (ap Err disk))
    (λ told. met.damaged told) (rw c.from.ensures at c.give_answer.ensures.gives)
