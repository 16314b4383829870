use Rattle.std.proofs.Common.{◌+◌, length, sym, subst, arith}
use Rattle.plain_graph.specs.Properties.{blocks_if}
use Rattle.rec_bytes.specs.Space.{State}
use Rattle.store_rules.specs.Properties.{AreProperties, property_records}
use Rattle.prop_store.specs.Owner.{first_of}
use Rattle.prop_store.proofs.Causes.{cause_after, space_cause_passed}
use Rattle.prop_store.proofs.ReadCounts.{costs_after, reads_after, reads_one}
use Rattle.prop_store.proofs.reading.read_key.Goals as goal

pub returns-in_err-first-clause-at_most : goal.returns-in_err-first-clause-at_most
returns-in_err-first-clause-at_most g c = reads_one 55 _ _ (omega arith) c.in_err-first.ensures.state

pub returns-in_err-first-clause-cause : goal.returns-in_err-first-clause-cause
returns-in_err-first-clause-cause g c =
    space_cause_passed _ _ _ c.from_residual.result c.in_err-first.field-0.0 (omega arith) c.in_err-first.ensures.cause c.from_residual.ensures.1

pub read_key_from-requires-clause-first : goal.read_key_from-requires-clause-first
read_key_from-requires-clause-first g c = λ tells. rw c.in_ok-first.ensures.state (c.in_ok-first.ensures.got tells)

pub returns-clause-read : goal.returns-clause-read
returns-clause-read g c = rw c.in_ok-first.ensures.state at c.read_key_from.ensures.read

pub returns-clause-met : goal.returns-clause-met
returns-clause-met g c = rw c.in_ok-first.ensures.state at c.read_key_from.ensures.met

pub returns-clause-not_damaged : goal.returns-clause-not_damaged
returns-clause-not_damaged g c = rw c.in_ok-first.ensures.state at c.read_key_from.ensures.not_damaged

pub returns-clause-damaged : goal.returns-clause-damaged
returns-clause-damaged g c = rw c.in_ok-first.ensures.state at c.read_key_from.ensures.damaged

pub returns-clause-cost : goal.returns-clause-cost
returns-clause-cost g c = λ tells es are.
    costs_after (λ value. length es + blocks_if value) (λ value. 1 + length es + blocks_if value) _ _ _ c.read_key_from.result (λ value. omega arith)
    c.in_ok-first.ensures.state
    (c.read_key_from.ensures.cost tells es (subst (λ (s : State). AreProperties (property_records s.records) (first_of s.records c.args.owner) es)
    (sym c.in_ok-first.ensures.state) are))

pub returns-clause-reads : goal.returns-clause-reads
returns-clause-reads g c =
    costs_after (λ value. 32 + blocks_if value) (λ value. 33 + blocks_if value) _ _ _ c.read_key_from.result (λ value. omega arith) c.in_ok-first.ensures.state
    c.read_key_from.ensures.reads

pub returns-clause-at_most : goal.returns-clause-at_most
returns-clause-at_most g c = reads_after 54 55 _ _ _ (omega arith) c.in_ok-first.ensures.state c.read_key_from.ensures.at_most

pub returns-clause-onward : goal.returns-clause-onward
returns-clause-onward g c = g.met.R.Reads.further_onward _ _ _ c.in_ok-first.ensures.onward c.read_key_from.ensures.onward

pub returns-clause-cause : goal.returns-clause-cause
returns-clause-cause g c = cause_after _ _ _ c.read_key_from.result c.in_ok-first.ensures.cause.later c.read_key_from.ensures.cause
