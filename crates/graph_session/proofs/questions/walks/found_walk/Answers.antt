use Rattle.std.proofs.Common.{[], ◌∷◌, ap, refl}
use Rattle.plain_graph.specs.Lines.{types_of}
use Rattle.graph_session.proofs.Expansion.{ok-then}
use Rattle.graph_session.proofs.WalkReads.{walk-reads}
use Rattle.graph_session.proofs.questions.walks.found_walk.Goals as goal

pub returns-in-Some-clause-found : goal.returns-in-Some-clause-found
returns-in-Some-clause-found g c = λ tells store.
    let s = g.R.Reads.state c.args.space.now in
    rw c.in-Some.is (c.find_walk.ensures.found tells store.store (c.in-Some.label ∷ []) (c.number_of-number.ensures s.records s.shape store))

pub returns-in-None-clause-found : goal.returns-in-None-clause-found
returns-in-None-clause-found g c = λ tells store. rw c.in-None.is (c.find_walk-in-None.ensures.found tells store.store [] (λ x lt. refl))

pub returns-in-Some-clause-cost : goal.returns-in-Some-clause-cost
returns-in-Some-clause-cost g c = λ tells store.
    let s = g.R.Reads.state c.args.space.now in
    let stand = c.number_of-number.ensures s.records s.shape store in
    ok-then c.find_walk.result
    (λ walk met. walk-reads c.args.route (c.in-Some.label ∷ []) (ap types_of c.in-Some.is) walk (c.number_of-number.result ∷ []) s _ stand met.0
    (record { count = met.1.count; within = met.1.within; is = met.1.is }))
    (c.find_walk.ensures.cost tells store.store (c.in-Some.label ∷ []) stand)

pub returns-in-None-clause-cost : goal.returns-in-None-clause-cost
returns-in-None-clause-cost g c = λ tells store.
    let s = g.R.Reads.state c.args.space.now in
    ok-then c.find_walk-in-None.result
    (λ walk met. walk-reads c.args.route [] (ap types_of c.in-None.is) walk [] s _ (λ x lt. refl) met.0
    (record { count = met.1.count; within = met.1.within; is = met.1.is }))
    (c.find_walk-in-None.ensures.cost tells store.store [] (λ x lt. refl))

pub returns-in-Some-clause-missing_cost : goal.returns-in-Some-clause-missing_cost
returns-in-Some-clause-missing_cost g c = c.find_walk.ensures.missing_cost

pub returns-in-None-clause-missing_cost : goal.returns-in-None-clause-missing_cost
returns-in-None-clause-missing_cost g c = c.find_walk-in-None.ensures.missing_cost
