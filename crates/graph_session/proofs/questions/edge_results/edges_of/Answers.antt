use Rattle.std.proofs.Common.{[], ◌∷◌, Vec}
use Rattle.std.specs.declared.alloc.Global.{Global}
use Rattle.rel_store.specs.declared.edge_row.EdgeRow.{EdgeRow}
use Rattle.expand.proofs.UnknownTypes.{unknown_numbers}
use Rattle.graph_session.specs.EdgeResults.ReadsForEdges.{ByNumbers}
use Rattle.graph_session.proofs.Expansion.{is_read-gets, items-expansion, ok-then}
use Rattle.graph_session.proofs.questions.edge_results.edges_of.Goals as goal

pub returns-clause-found : goal.returns-clause-found
returns-clause-found g c = λ tells store.
    let s = g.R.Reads.state c.args.space.now in
    ok-then c.expand.result
    (λ (rows : Vec EdgeRow Global) found.
    items-expansion s.records s.shape c.args.context.names.now.names store c.number_of-number.result c.args.label.now
    (c.number_of-number.ensures s.records s.shape store)
    c.args.direction c.args.id rows.items (found store.store))
    (c.expand.ensures.rows tells)

pub returns-clause-read : goal.returns-clause-read
returns-clause-read g c = is_read-gets g.R.Reads c.expand.ensures.at_most.count c.expand.ensures.at_most.is c.expand.ensures.onward c.expand.ensures.cause.later

pub returns-clause-cost : goal.returns-clause-cost
returns-clause-cost g c =
    λ tells store.
    let s = g.R.Reads.state c.args.space.now in
    let met = c.expand.ensures.reads tells store.store in
    let stand = c.number_of-number.ensures s.records s.shape store in
    ByNumbers (c.number_of-number.result ∷ []) stand (record { count = met.count; within = met.within; is = met.is })
    (λ unknown.
    let one = c.expand.ensures.unknown (unknown_numbers s.records c.number_of-number.result [] (c.args.label.now ∷ []) stand unknown) in
    record { count = one.count; within = one.within; is = one.is })
