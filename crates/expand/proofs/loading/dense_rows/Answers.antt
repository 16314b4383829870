use Rattle.std.proofs.Common.{length, ap, ◌∙◌, arith, rules}
use Rattle.std.proofs.lemmas.Result.{err_from_is_err_and}
use Rattle.group_store.specs.Loading.{group_mark}
use Rattle.expand.specs.FirstLinks.{first_links}
use Rattle.expand.proofs.DenseWalks.{blamed_then, can_walk, group_fault, has_dense_rows, of_groups}
use Rattle.expand.proofs.ReadCounts.{reads_both, reads_marks, reads_wider}
use Rattle.rec_bytes.proofs.Causes.{never_ok, ok_cause}
use Rattle.chain_edit.proofs.Causes.{same_has}
use Rattle.expand.proofs.Causes.{expand_cause_passed, expand_memory_cause, same_cause_passed}
use Rattle.expand.proofs.loading.dense_rows.Goals as goal

pub returns-in_err-groups-clause-damaged : goal.returns-in_err-groups-clause-damaged
returns-in_err-groups-clause-damaged g c = λ tells is.
    let p = err_from_is_err_and c.from_residual.result c.from_residual.ensures.1 in
    rw (p.1, p.2) (group_fault (g.R.Reads.state c.args.space.now) c.args.row.now is c.in_err-groups.field-0.0 (c.in_err-groups.ensures.damaged tells))

pub returns-in_err-groups-clause-few_reads : goal.returns-in_err-groups-clause-few_reads
returns-in_err-groups-clause-few_reads g c = λ tells members xs can. reads_wider (length xs) (c.in_err-groups.ensures.few_reads tells members can.walkable)

pub returns-in_err-links-clause-few_reads : goal.returns-in_err-links-clause-few_reads
returns-in_err-links-clause-few_reads g c = λ tells members xs can. reads_wider (length xs) (c.in_ok-groups.ensures.few_reads tells members can.walkable)

pub returns-in_err-rows-clause-at_most : goal.returns-in_err-rows-clause-at_most
returns-in_err-rows-clause-at_most g c =
    let s = g.R.Reads.state c.args.space.now in
    reads_marks s (g.R.Reads.state c.groups.new.space) (g.R.Reads.state c.walk_all.new.space) (group_mark s) c.in_ok-groups.ensures.at_most
    c.in_err-rows.ensures.at_most

pub returns-in_err-rows-clause-damaged : goal.returns-in_err-rows-clause-damaged
returns-in_err-rows-clause-damaged g c = λ tells is.
    let rows = c.in_ok-groups.groups.items in
    let are = c.deref-2.ensures.value ∙ c.in_ok-links.ensures ∙ ap (first_links c.args.direction c.args.labels.now) c.deref.ensures.value in
    let of = of_groups (g.R.Reads.state c.args.space.now) (g.R.Reads.state c.groups.new.space) (length rows) c.in_ok-groups.ensures.reads c.args.row.now
    c.args.direction c.args.labels.now
    c.deref-2.result.now rows (c.in_ok-groups.ensures.rows tells) are is in
    let p = err_from_is_err_and c.from_residual-in_err-rows.result c.from_residual-in_err-rows.ensures.1 in
    rw (p.1, p.2) (blamed_then (g.R.Reads.state c.args.space.now) (g.R.Reads.state c.groups.new.space) (length rows) c.in_ok-groups.ensures.reads
    c.in_err-rows.field-0.0 (c.in_err-rows.ensures.damaged tells of))

pub returns-clause-few_reads : goal.returns-clause-few_reads
returns-clause-few_reads g c = λ tells members xs can.
    let rows = c.in_ok-groups.groups.items in
    let are = c.deref-2.ensures.value ∙ c.in_ok-links.ensures ∙ ap (first_links c.args.direction c.args.labels.now) c.deref.ensures.value in
    let sound = can_walk (g.R.Reads.state c.args.space.now) (g.R.Reads.state c.groups.new.space) (length rows) c.in_ok-groups.ensures.reads c.args.row.now
    c.args.direction c.args.labels.now
    c.deref-2.result.now rows (c.in_ok-groups.ensures.rows tells) are members xs can in
    reads_both (g.R.Reads.state c.args.space.now) (g.R.Reads.state c.groups.new.space) (g.R.Reads.state c.walk_all.new.space) (length members) (length xs)
    (c.in_ok-groups.ensures.few_reads tells members can.walkable) (c.in_ok-rows.ensures.few_reads tells xs sound)

pub returns-in_err-rows-clause-few_reads : goal.returns-in_err-rows-clause-few_reads
returns-in_err-rows-clause-few_reads g c = λ tells members xs can.
    let rows = c.in_ok-groups.groups.items in
    let are = c.deref-2.ensures.value ∙ c.in_ok-links.ensures ∙ ap (first_links c.args.direction c.args.labels.now) c.deref.ensures.value in
    let sound = can_walk (g.R.Reads.state c.args.space.now) (g.R.Reads.state c.groups.new.space) (length rows) c.in_ok-groups.ensures.reads c.args.row.now
    c.args.direction c.args.labels.now
    c.deref-2.result.now rows (c.in_ok-groups.ensures.rows tells) are members xs can in
    reads_both (g.R.Reads.state c.args.space.now) (g.R.Reads.state c.groups.new.space) (g.R.Reads.state c.walk_all.new.space) (length members) (length xs)
    (c.in_ok-groups.ensures.few_reads tells members can.walkable) (c.in_err-rows.ensures.few_reads tells xs sound)

pub returns-clause-rows : goal.returns-clause-rows
returns-clause-rows g c = λ tells.
    let rows = c.in_ok-groups.groups.items in
    let are = c.deref-2.ensures.value ∙ c.in_ok-links.ensures ∙ ap (first_links c.args.direction c.args.labels.now) c.deref.ensures.value in
    has_dense_rows (g.R.Reads.state c.args.space.now) (g.R.Reads.state c.groups.new.space) (length rows) c.in_ok-groups.ensures.reads c.args.row.now
    c.args.direction c.args.labels.now
    c.deref-2.result.now rows (c.in_ok-groups.ensures.rows tells) are (g.R.Reads.state c.walk_all.new.space) c.in_ok-rows.rows.items (λ i. length rows)
    (c.in_ok-rows.ensures.rows tells) c.in_ok-rows.ensures.reads

pub returns-clause-at_most : goal.returns-clause-at_most
returns-clause-at_most g c =
    let s = g.R.Reads.state c.args.space.now in
    reads_marks s (g.R.Reads.state c.groups.new.space) (g.R.Reads.state c.walk_all.new.space) (group_mark s) c.in_ok-groups.ensures.at_most
    c.in_ok-rows.ensures.at_most

pub returns-in_err-groups-clause-rows : goal.returns-in_err-groups-clause-rows
returns-in_err-groups-clause-rows g c _ = never_ok c.from_residual.result _ _ c.from_residual.ensures.1

pub returns-in_err-groups-clause-onward : goal.returns-in_err-groups-clause-onward
returns-in_err-groups-clause-onward g c = search rules

pub returns-in_err-links-clause-rows : goal.returns-in_err-links-clause-rows
returns-in_err-links-clause-rows g c _ = never_ok c.from_residual-in_err-links.result _ _ c.from_residual-in_err-links.ensures.1

pub returns-in_err-rows-clause-rows : goal.returns-in_err-rows-clause-rows
returns-in_err-rows-clause-rows g c _ = never_ok c.from_residual-in_err-rows.result _ _ c.from_residual-in_err-rows.ensures.1

pub returns-clause-cause : goal.returns-clause-cause
returns-clause-cause g c = ok_cause _ _ _ _ (omega arith)

pub returns-in_err-groups-clause-cause : goal.returns-in_err-groups-clause-cause
returns-in_err-groups-clause-cause g c =
    expand_cause_passed _ _ _ c.from_residual.result c.in_err-groups.field-0.0 (omega arith) c.in_err-groups.ensures.cause c.from_residual.ensures.1

pub returns-in_err-links-clause-damaged : goal.returns-in_err-links-clause-damaged
returns-in_err-links-clause-damaged g c _ _ = same_has _ c.from_residual-in_err-links.result _ c.from_residual-in_err-links.ensures.1 tt

pub returns-in_err-links-clause-onward : goal.returns-in_err-links-clause-onward
returns-in_err-links-clause-onward g c = c.in_ok-groups.ensures.onward

pub returns-in_err-links-clause-cause : goal.returns-in_err-links-clause-cause
returns-in_err-links-clause-cause g c =
    expand_memory_cause _ _ c.from_residual-in_err-links.result c.in_ok-groups.ensures.cause.later c.from_residual-in_err-links.ensures.1

pub returns-in_err-rows-clause-onward : goal.returns-in_err-rows-clause-onward
returns-in_err-rows-clause-onward g c =
    g.met.R.Reads.further_onward _ _ _ c.in_ok-groups.ensures.onward c.in_err-rows.ensures.onward

pub returns-in_err-rows-clause-cause : goal.returns-in_err-rows-clause-cause
returns-in_err-rows-clause-cause g c =
    same_cause_passed _ _ _ c.from_residual-in_err-rows.result c.in_err-rows.field-0.0 c.in_ok-groups.ensures.cause.later c.in_err-rows.ensures.cause
    c.from_residual-in_err-rows.ensures.1
