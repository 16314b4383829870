use Rattle.std.proofs.Common.{sym, subst, ◌∙◌, arith}
use Rattle.std.proofs.lemmas.Result.{err_from_is_err_and}
use Rattle.prop_store.specs.Fault.{BlamesBroken}
use Rattle.traversal_run.proofs.Broken.{node_blamed, node_unnamed}
use Rattle.traversal_run.proofs.Loaded.{no_node_label, node_label-is}
use Rattle.traversal_run.proofs.Causes.{row_cause_passed}
use Rattle.rec_bytes.proofs.Causes.{never_ok, ok_cause}
use Rattle.prop_store.proofs.ReadCounts.{reads_more}
use Rattle.traversal_run.specs.Elements.{owner_reads}
use Rattle.traversal_run.proofs.NodeReads.{owner_few}
use Rattle.traversal_run.proofs.elements.label_number.Goals as goal

pub returns-in_err-row-clause-damaged : goal.returns-in_err-row-clause-damaged
returns-in_err-row-clause-damaged g c = λ tells.
    let s = g.R.Reads.state c.args.space.now in
    let p = err_from_is_err_and c.from_residual.result c.from_residual.ensures.1 in
    rw (p.1, p.2) (node_blamed s c.args.id c.in_err-row.field-0.0 (c.in_err-row.ensures.damaged tells))

pub returns-in_default-clause-found : goal.returns-in_default-clause-found
returns-in_default-clause-found g c = λ tells.
    let s = g.R.Reads.state c.args.space.now in
    sym (no_node_label s.records c.args.id (sym c.in_default.is ∙ c.in_ok-row.ensures.found tells))

pub returns-then-row-mark-clause-damaged : goal.returns-then-row-mark-clause-damaged
returns-then-row-mark-clause-damaged g c = λ tells.
    let s = g.R.Reads.state c.args.space.now in
    let mark = c.name_mark-mark.ensures in
    subst (BlamesBroken s.records s.shape) (sym c.unnamed.ensures) (node_unnamed s c.args.id c.in-Some.row (sym c.in-Some.is ∙ c.in_ok-row.ensures.found tells)
    (omega (arith, c.if-row-mark.true)))

pub returns-clause-found : goal.returns-clause-found
returns-clause-found g c = λ tells.
    let s = g.R.Reads.state c.args.space.now in
    sym (node_label-is s.records c.args.id c.in-Some.row (sym c.in-Some.is ∙ c.in_ok-row.ensures.found tells))

pub returns-in_err-row-clause-cause : goal.returns-in_err-row-clause-cause
returns-in_err-row-clause-cause g c =
    row_cause_passed _ _ _ c.from_residual.result c.in_err-row.field-0.0 (omega arith) c.in_err-row.ensures.cause c.from_residual.ensures.1

pub returns-in_err-row-clause-found : goal.returns-in_err-row-clause-found
returns-in_err-row-clause-found g c _ = never_ok c.from_residual.result _ _ c.from_residual.ensures.1

pub returns-in_err-row-clause-below : goal.returns-in_err-row-clause-below
returns-in_err-row-clause-below g c = never_ok c.from_residual.result _ _ c.from_residual.ensures.1

pub returns-in_default-clause-cause : goal.returns-in_default-clause-cause
returns-in_default-clause-cause g c = ok_cause _ _ _ _ c.in_ok-row.ensures.cause.later

pub returns-clause-cause : goal.returns-clause-cause
returns-clause-cause g c = ok_cause _ _ _ _ c.in_ok-row.ensures.cause.later

pub returns-in_err-row-clause-at_most : goal.returns-in_err-row-clause-at_most
returns-in_err-row-clause-at_most g c = reads_more (owner_reads c.args.row.now) 1 (g.R.Reads.state c.args.space.now) (g.R.Reads.state c.row_of.new.space)
    (owner_few c.args.row.now) c.in_err-row.ensures.reads

pub returns-in_default-clause-at_most : goal.returns-in_default-clause-at_most
returns-in_default-clause-at_most g c = reads_more (owner_reads c.args.row.now) 1 (g.R.Reads.state c.args.space.now) (g.R.Reads.state c.row_of.new.space)
    (owner_few c.args.row.now) c.in_ok-row.ensures.reads

pub returns-then-row-mark-clause-at_most : goal.returns-then-row-mark-clause-at_most
returns-then-row-mark-clause-at_most g c = reads_more (owner_reads c.args.row.now) 1 (g.R.Reads.state c.args.space.now) (g.R.Reads.state c.row_of.new.space)
    (owner_few c.args.row.now) c.in_ok-row.ensures.reads

pub returns-clause-at_most : goal.returns-clause-at_most
returns-clause-at_most g c = reads_more (owner_reads c.args.row.now) 1 (g.R.Reads.state c.args.space.now) (g.R.Reads.state c.row_of.new.space)
    (owner_few c.args.row.now) c.in_ok-row.ensures.reads
