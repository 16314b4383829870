use Rattle.std.proofs.Common.{◌+◌, length, sym, subst, arith}
use Rattle.rec_bytes.specs.Space.{State}
use Rattle.store_rules.specs.Properties.{AreProperties, property_records}
use Rattle.prop_store.specs.Owner.{first_of}
use Rattle.prop_store.proofs.Causes.{cause_after, space_cause_passed}
use Rattle.prop_store.proofs.ReadCounts.{costs_after, reads_after, reads_one}
use Rattle.prop_store.specs.Fault.{BlamesBroken}
use Rattle.prop_store.proofs.Exits.{space_exit, space_has}
use Rattle.prop_store.proofs.finding.find.Goals as goal

pub returns-in_err-first-clause-at_most : goal.returns-in_err-first-clause-at_most
returns-in_err-first-clause-at_most g c = reads_one 33 _ _ (omega arith) c.in_err-first.ensures.state

pub returns-in_err-first-clause-cause : goal.returns-in_err-first-clause-cause
returns-in_err-first-clause-cause g c =
    space_cause_passed _ _ _ c.from_residual.result c.in_err-first.field-0.0 (omega arith) c.in_err-first.ensures.cause c.from_residual.ensures.1

pub find_from-requires-clause-first : goal.find_from-requires-clause-first
find_from-requires-clause-first g c = λ tells. rw c.in_ok-first.ensures.state (c.in_ok-first.ensures.got tells)

pub returns-clause-found : goal.returns-clause-found
returns-clause-found g c = rw c.in_ok-first.ensures.state at c.find_from.ensures.found

pub returns-clause-met : goal.returns-clause-met
returns-clause-met g c = rw c.in_ok-first.ensures.state at c.find_from.ensures.met

pub returns-clause-not_damaged : goal.returns-clause-not_damaged
returns-clause-not_damaged g c = rw c.in_ok-first.ensures.state at c.find_from.ensures.not_damaged

pub returns-clause-read : goal.returns-clause-read
returns-clause-read g c = rw c.in_ok-first.ensures.state at c.find_from.ensures.read

pub returns-clause-damaged : goal.returns-clause-damaged
returns-clause-damaged g c = rw c.in_ok-first.ensures.state at c.find_from.ensures.damaged

pub returns-clause-cost : goal.returns-clause-cost
returns-clause-cost g c = λ tells es are.
    costs_after (λ search. length es) (λ search. 1 + length es) _ _ _ c.find_from.result (λ search. omega arith) c.in_ok-first.ensures.state
    (c.find_from.ensures.cost tells es (subst (λ (s : State). AreProperties (property_records s.records) (first_of s.records c.args.owner) es)
    (sym c.in_ok-first.ensures.state) are))

pub returns-clause-at_most : goal.returns-clause-at_most
returns-clause-at_most g c = reads_after 32 33 _ _ _ (omega arith) c.in_ok-first.ensures.state c.find_from.ensures.at_most

pub returns-clause-onward : goal.returns-clause-onward
returns-clause-onward g c = g.met.R.Reads.further_onward _ _ _ c.in_ok-first.ensures.onward c.find_from.ensures.onward

pub returns-clause-cause : goal.returns-clause-cause
returns-clause-cause g c = cause_after _ _ _ c.find_from.result c.in_ok-first.ensures.cause.later c.find_from.ensures.cause

pub returns-in_err-first-clause-damaged : goal.returns-in_err-first-clause-damaged
returns-in_err-first-clause-damaged g c tells used =
    let s = g.R.Reads.state c.args.space.now in
    space_has (BlamesBroken s.records s.shape) tt tt c.from_residual.result c.in_err-first.field-0.0 c.from_residual.ensures.1

pub returns-in_err-first-clause-not_damaged : goal.returns-in_err-first-clause-not_damaged
returns-in_err-first-clause-not_damaged g c tells es has = space_exit c.from_residual.result c.in_err-first.field-0.0 c.from_residual.ensures.1

pub returns-in_err-first-clause-onward : goal.returns-in_err-first-clause-onward
returns-in_err-first-clause-onward g c = c.in_err-first.ensures.onward

pub returns-clause-placed : goal.returns-clause-placed
returns-clause-placed g c = c.find_from.ensures.placed

pub find_from-requires-clause-owner : goal.find_from-requires-clause-owner
find_from-requires-clause-owner g c = c.requires
