use Rattle.std.proofs.Common.{arith, subst, rules}
use Rattle.group_store.specs.FirstGroup.{IsFirst}
use Rattle.group_store.proofs.FirstGroups.{all_reads_then, fault_then, found_then, none_then, reached_then, reads_then, walkable_then}
use Rattle.group_store.proofs.Causes.{cause_passed}
use Rattle.rec_bytes.proofs.Causes.{never_ok}
use Rattle.group_store.proofs.finding.find_group.Goals as goal

pub returns-in-Some-clause-none : goal.returns-in-Some-clause-none
returns-in-Some-clause-none g c = λ tells dense xs chain.
    let s = g.R.Reads.state c.args.space.now in
    let first = subst (IsFirst s.records c.args.node) c.in-Some.is (c.in_ok-first.ensures.first tells) in
    none_then s.records c.args.node c.args.label xs c.seek.result dense chain
    (found_then s (g.R.Reads.state c.first_group.new.space) c.args.node c.in-Some.first c.args.label c.seek.result c.in_ok-first.ensures.at_most dense first.1
    (c.seek.ensures.found tells))

pub returns-in-Some-clause-reads : goal.returns-in-Some-clause-reads
returns-in-Some-clause-reads g c = λ tells xs can.
    let s = g.R.Reads.state c.args.space.now in
    let now = g.R.Reads.state c.first_group.new.space in
    let first = subst (IsFirst s.records c.args.node) c.in-Some.is (c.in_ok-first.ensures.first tells) in
    reads_then s now (g.R.Reads.state c.seek.new.space) c.args.label xs c.in_ok-first.ensures.at_most
    (c.seek.ensures.reads tells xs (walkable_then s now c.args.node c.in-Some.first xs c.in_ok-first.ensures.at_most first.1 can))

pub returns-in-Some-clause-at_most : goal.returns-in-Some-clause-at_most
returns-in-Some-clause-at_most g c =
    all_reads_then (g.R.Reads.state c.args.space.now) (g.R.Reads.state c.first_group.new.space) (g.R.Reads.state c.seek.new.space) c.in_ok-first.ensures.at_most
    c.seek.ensures.at_most

pub returns-in-Some-clause-damaged : goal.returns-in-Some-clause-damaged
returns-in-Some-clause-damaged g c = λ tells.
    let s = g.R.Reads.state c.args.space.now in
    let first = subst (IsFirst s.records c.args.node) c.in-Some.is (c.in_ok-first.ensures.first tells) in
    fault_then s (g.R.Reads.state c.first_group.new.space) c.args.node c.in-Some.first c.seek.result c.in_ok-first.ensures.at_most first.1
    (c.seek.ensures.damaged tells)

pub returns-in_err-first-clause-cause : goal.returns-in_err-first-clause-cause
returns-in_err-first-clause-cause g c =
    cause_passed _ _ _ c.from_residual.result c.in_err-first.field-0.0 (omega arith) c.in_err-first.ensures.cause c.from_residual.ensures.1

pub returns-in-Some-clause-reached : goal.returns-in-Some-clause-reached
returns-in-Some-clause-reached g c = λ tells.
    let s = g.R.Reads.state c.args.space.now in
    let first = subst (IsFirst s.records c.args.node) c.in-Some.is (c.in_ok-first.ensures.first tells) in
    reached_then s (g.R.Reads.state c.first_group.new.space) c.args.node c.in-Some.first c.seek.result c.in_ok-first.ensures.at_most first.1
    (c.seek.ensures.reached tells)

pub returns-in_err-first-clause-found : goal.returns-in_err-first-clause-found
returns-in_err-first-clause-found g c _ = never_ok c.from_residual.result _ _ c.from_residual.ensures.1

pub returns-in_err-first-clause-none : goal.returns-in_err-first-clause-none
returns-in_err-first-clause-none g c _ _ _ _ = never_ok c.from_residual.result _ _ c.from_residual.ensures.1

pub returns-in_err-first-clause-reached : goal.returns-in_err-first-clause-reached
returns-in_err-first-clause-reached g c _ = never_ok c.from_residual.result _ _ c.from_residual.ensures.1

pub returns-in_err-first-clause-key : goal.returns-in_err-first-clause-key
returns-in_err-first-clause-key g c = never_ok c.from_residual.result _ _ c.from_residual.ensures.1

pub returns-in_err-first-clause-onward : goal.returns-in_err-first-clause-onward
returns-in_err-first-clause-onward g c = search rules
