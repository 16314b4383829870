use Rattle.std.proofs.Common.{◌≡◌, ◌+◌, arith, sym, ap, ◌∙◌, subst, rules}
use Rattle.std.proofs.lemmas.Result.{err_from_is_err_and}
use Rattle.rec_bytes.specs.declared.record.Rec.{Rec}
use Rattle.rec_bytes.specs.Format as format
use Rattle.rec_bytes.specs.Record.{field}
use Rattle.store_rules.specs.Views.{Records, first_link}
use Rattle.group_store.specs.FirstGroup.{IsFirst}
use Rattle.group_store.specs.GroupChain.{IsDense, type_of}
use Rattle.group_store.specs.Loading.{group_mark}
use Rattle.group_store.proofs.ChainHeads.{only_read, same_records}
use Rattle.group_store.proofs.FirstGroups.{reads_fewer}
use Rattle.group_store.proofs.GroupWalks.{reads_one}
use Rattle.group_store.proofs.TwinLaws.{met_then, node_then, none_lone, reads_more_groups, reads_then, walk_then}
use Rattle.rec_bytes.proofs.Causes.{never_ok}
use Rattle.group_store.proofs.twins.has_twin.Goals as goal

-- ---- reads

pub returns-in_err-rec-clause-at_most : goal.returns-in_err-rec-clause-at_most
returns-in_err-rec-clause-at_most g c =
    let s = g.R.Reads.state c.args.space.now in
    let u = g.R.Reads.state c.get.new.self in
    reads_fewer s u 1 (2 + group_mark s) (omega arith) (reads_one s u c.get.ensures.state)

pub returns-in_err-first-clause-at_most : goal.returns-in_err-first-clause-at_most
returns-in_err-first-clause-at_most g c =
    let s = g.R.Reads.state c.args.space.now in
    let u = g.R.Reads.state c.get.new.self in
    reads_then s u (g.R.Reads.state c.first_group.new.space) 1 1 (2 + group_mark s) (omega arith) (reads_one s u c.get.ensures.state)
    c.in_err-first.ensures.at_most

pub returns-in-None-clause-at_most : goal.returns-in-None-clause-at_most
returns-in-None-clause-at_most g c =
    let s = g.R.Reads.state c.args.space.now in
    let u = g.R.Reads.state c.get.new.self in
    reads_then s u (g.R.Reads.state c.first_group.new.space) 1 1 (2 + group_mark s) (omega arith) (reads_one s u c.get.ensures.state)
    c.in_ok-first.ensures.at_most

pub returns-in-Some-clause-at_most : goal.returns-in-Some-clause-at_most
returns-in-Some-clause-at_most g c =
    let s = g.R.Reads.state c.args.space.now in
    let u = g.R.Reads.state c.get.new.self in
    let v = g.R.Reads.state c.first_group.new.space in
    let w = g.R.Reads.state c.seek_twin.new.space in
    reads_more_groups s v w 2 0 (2 + group_mark s) (reads_then s u v 1 1 2 (omega arith) (reads_one s u c.get.ensures.state) c.in_ok-first.ensures.at_most)
    (omega arith)
    (reads_fewer v w (group_mark v) (0 + group_mark v) (omega arith) c.seek_twin.ensures.at_most)

-- ---- what is found

pub returns-in-Some-clause-found : goal.returns-in-Some-clause-found
returns-in-Some-clause-found g c = λ tells.
    let s = g.R.Reads.state c.args.space.now in
    let u = g.R.Reads.state c.get.new.self in
    let v = g.R.Reads.state c.first_group.new.space in
    let one = reads_one s u c.get.ensures.state in
    let same = same_records s u (only_read s u 1 one) in
    let first : IsDense s.records c.args.node × (c.in-Some.first ≡ first_link s.records c.args.node)
    = subst (λ (r : Records). IsDense r c.args.node × (c.in-Some.first ≡ first_link r c.args.node)) same
    (subst (IsFirst u.records c.args.node) c.in-Some.is (c.in_ok-first.ensures.first tells)) in
    let typed : type_of s.records c.args.group ≡ c.number-label.result =
    sym (c.number-label.ensures ∙ ap (λ (r : Rec). field 4 r format.group_type) (c.in_ok-rec.ensures.got tells)) in
    met_then s v c.args.node c.in-Some.first c.args.group c.number-label.result c.seek_twin.result
    (only_read s v 2 (reads_then s u v 1 1 2 (omega arith) one c.in_ok-first.ensures.at_most))
    first.0 first.1 typed (c.seek_twin.ensures.met tells)

pub returns-in-None-clause-found : goal.returns-in-None-clause-found
returns-in-None-clause-found g c = λ tells.
    let s = g.R.Reads.state c.args.space.now in
    let u = g.R.Reads.state c.get.new.self in
    let same = same_records s u (only_read s u 1 (reads_one s u c.get.ensures.state)) in
    none_lone s.records c.args.node c.args.group (subst (λ (r : Records). ¬ IsDense r c.args.node) same (subst (IsFirst u.records c.args.node) c.in-None.is
    (c.in_ok-first.ensures.first tells)))

-- ---- damage

pub returns-in_err-first-clause-damaged : goal.returns-in_err-first-clause-damaged
returns-in_err-first-clause-damaged g c = λ tells.
    let s = g.R.Reads.state c.args.space.now in
    let u = g.R.Reads.state c.get.new.self in
    let p = err_from_is_err_and c.from_residual-in_err-first.result c.from_residual-in_err-first.ensures.1 in
    rw (p.1, p.2) (node_then s u c.args.node c.in_err-first.field-0.0 (only_read s u 1 (reads_one s u c.get.ensures.state))
    (c.in_err-first.ensures.damaged tells))

pub returns-in-Some-clause-damaged : goal.returns-in-Some-clause-damaged
returns-in-Some-clause-damaged g c = λ tells.
    let s = g.R.Reads.state c.args.space.now in
    let u = g.R.Reads.state c.get.new.self in
    let v = g.R.Reads.state c.first_group.new.space in
    let one = reads_one s u c.get.ensures.state in
    let same = same_records s u (only_read s u 1 one) in
    let first : IsDense s.records c.args.node × (c.in-Some.first ≡ first_link s.records c.args.node)
    = subst (λ (r : Records). IsDense r c.args.node × (c.in-Some.first ≡ first_link r c.args.node)) same
    (subst (IsFirst u.records c.args.node) c.in-Some.is (c.in_ok-first.ensures.first tells)) in
    walk_then s v c.args.node c.in-Some.first c.seek_twin.result (only_read s v 2 (reads_then s u v 1 1 2 (omega arith) one c.in_ok-first.ensures.at_most))
    first.0 first.1 (c.seek_twin.ensures.damaged tells)

pub returns-in_err-rec-clause-found : goal.returns-in_err-rec-clause-found
returns-in_err-rec-clause-found g c _ = never_ok c.from_residual.result _ _ c.from_residual.ensures.1

pub returns-in_err-rec-clause-onward : goal.returns-in_err-rec-clause-onward
returns-in_err-rec-clause-onward g c = search rules

pub returns-in_err-first-clause-found : goal.returns-in_err-first-clause-found
returns-in_err-first-clause-found g c _ = never_ok c.from_residual-in_err-first.result _ _ c.from_residual-in_err-first.ensures.1
