use Rattle.std.proofs.Common.{[], ◌∷◌, refl}
use Rattle.graph_session.proofs.Expansion.{ok-then}
use Rattle.graph_session.proofs.questions.walks.found_levels.Goals as goal

pub returns-in-Some-clause-found : goal.returns-in-Some-clause-found
returns-in-Some-clause-found g c = λ tells store.
    let s = g.R.Reads.state c.args.space.now in
    rw c.in-Some.is (c.find_path.ensures.found tells store.store (c.in-Some.label ∷ []) (c.number_of-number.ensures s.records s.shape store))

pub returns-in-None-clause-found : goal.returns-in-None-clause-found
returns-in-None-clause-found g c = λ tells store. rw c.in-None.is (c.find_path-in-None.ensures.found tells store.store [] (λ x lt. refl))

pub returns-in-Some-clause-cost : goal.returns-in-Some-clause-cost
returns-in-Some-clause-cost g c = λ tells store.
    let s = g.R.Reads.state c.args.space.now in
    ok-then c.find_path.result
    (λ answer met. record {
      numbers = c.number_of-number.result ∷ [];
      stand = rw c.in-Some.is (c.number_of-number.ensures s.records s.shape store);
      within = record { count = met.count; within = met.within; is = met.is };
    })
    (c.find_path.ensures.cost tells store.store)

pub returns-in-None-clause-cost : goal.returns-in-None-clause-cost
returns-in-None-clause-cost g c = λ tells store.
    ok-then c.find_path-in-None.result
    (λ answer met. record {
      numbers = [];
      stand = rw c.in-None.is (λ x lt. refl);
      within = record { count = met.count; within = met.within; is = met.is };
    })
    (c.find_path-in-None.ensures.cost tells store.store)

pub returns-in-Some-clause-missing_cost : goal.returns-in-Some-clause-missing_cost
returns-in-Some-clause-missing_cost g c = c.find_path.ensures.missing_cost

pub returns-in-None-clause-missing_cost : goal.returns-in-None-clause-missing_cost
returns-in-None-clause-missing_cost g c = c.find_path-in-None.ensures.missing_cost
