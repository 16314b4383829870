use Rattle.std.specs.Prelude.{Vec}
use Rattle.std.specs.declared.alloc.Global.{Global}
use Rattle.std.proofs.Common.{◌+◌, length, arith}
use Rattle.prop_store.specs.Reading.{block_total}
use Rattle.prop_store.specs.declared.prop.Prop.{Prop}
use Rattle.prop_store.proofs.Causes.{cause_after, space_cause_passed}
use Rattle.prop_store.proofs.ReadCounts.{costs_after, reads_after, reads_one}
use Rattle.prop_store.proofs.reading.read_all.Goals as goal

pub returns-in_err-first-clause-at_most : goal.returns-in_err-first-clause-at_most
returns-in_err-first-clause-at_most g c = reads_one 737 _ _ (omega arith) c.in_err-first.ensures.state

pub returns-in_err-first-clause-cause : goal.returns-in_err-first-clause-cause
returns-in_err-first-clause-cause g c =
    space_cause_passed _ _ _ c.from_residual.result c.in_err-first.field-0.0 (omega arith) c.in_err-first.ensures.cause c.from_residual.ensures.1

pub read_all_from-requires-clause-first : goal.read_all_from-requires-clause-first
read_all_from-requires-clause-first g c = λ tells. rw c.in_ok-first.ensures.state (c.in_ok-first.ensures.got tells)

pub returns-clause-read : goal.returns-clause-read
returns-clause-read g c = rw c.in_ok-first.ensures.state at c.read_all_from.ensures.read

pub returns-clause-met : goal.returns-clause-met
returns-clause-met g c = rw c.in_ok-first.ensures.state at c.read_all_from.ensures.met

pub returns-clause-not_damaged : goal.returns-clause-not_damaged
returns-clause-not_damaged g c = rw c.in_ok-first.ensures.state at c.read_all_from.ensures.not_damaged

pub returns-clause-damaged : goal.returns-clause-damaged
returns-clause-damaged g c = rw c.in_ok-first.ensures.state at c.read_all_from.ensures.damaged

pub returns-clause-reads : goal.returns-clause-reads
returns-clause-reads g c =
    costs_after (λ (props : Vec Prop Global). length props.items + block_total props.items)
    (λ (props : Vec Prop Global). 1 + length props.items + block_total props.items) _ _ _ c.read_all_from.result
    (λ (props : Vec Prop Global). omega arith) c.in_ok-first.ensures.state c.read_all_from.ensures.reads

pub returns-clause-at_most : goal.returns-clause-at_most
returns-clause-at_most g c = reads_after 736 737 _ _ _ (omega arith) c.in_ok-first.ensures.state c.read_all_from.ensures.at_most

pub returns-clause-onward : goal.returns-clause-onward
returns-clause-onward g c = g.met.R.Reads.further_onward _ _ _ c.in_ok-first.ensures.onward c.read_all_from.ensures.onward

pub returns-clause-cause : goal.returns-clause-cause
returns-clause-cause g c = cause_after _ _ _ c.read_all_from.result c.in_ok-first.ensures.cause.later c.read_all_from.ensures.cause
