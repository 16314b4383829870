use Rattle.std.proofs.Common.{sym, ◌∙◌, subst, arith}
use Rattle.std.proofs.lemmas.Result.{err_from_is_err_and}
use Rattle.prop_store.specs.Fault.{BlamesBroken}
use Rattle.rec_bytes.specs.Format.{relationships_file}
use Rattle.traversal_run.proofs.Broken.{rel_blamed, rel_unnamed}
use Rattle.traversal_run.proofs.Causes.{row_cause_passed}
use Rattle.traversal_run.proofs.NodeReads.{load_reads}
use Rattle.rec_bytes.proofs.Causes.{never_ok, ok_cause}
use Rattle.traversal_run.proofs.finding.edge_row.Goals as goal

pub returns-in_err-row-clause-damaged : goal.returns-in_err-row-clause-damaged
returns-in_err-row-clause-damaged g c = λ tells.
    let s = g.R.Reads.state c.args.space.now in
    let p = err_from_is_err_and c.from_residual.result c.from_residual.ensures.1 in
    rw (p.1, p.2) (rel_blamed s c.args.id c.in_err-row.field-0.0 (c.in_err-row.ensures.damaged tells))

pub returns-then-row-mark-clause-damaged : goal.returns-then-row-mark-clause-damaged
returns-then-row-mark-clause-damaged g c = λ tells.
    let s = g.R.Reads.state c.args.space.now in
    let found = sym (c.in_ok-row.ensures.found tells) ∙ c.in-Some.is in
    let mark = c.name_mark-mark.ensures in
    subst (BlamesBroken s.records s.shape) (sym c.unnamed.ensures) (rel_unnamed s c.args.id c.in-Some.row (sym found) (omega (arith, c.if-row-mark.true)))

pub returns-in_err-row-clause-cause : goal.returns-in_err-row-clause-cause
returns-in_err-row-clause-cause g c =
    row_cause_passed _ _ _ c.from_residual.result c.in_err-row.field-0.0 (omega arith) c.in_err-row.ensures.cause c.from_residual.ensures.1

pub returns-clause-gets : goal.returns-clause-gets
returns-clause-gets g c = load_reads relationships_file (g.R.Reads.state c.args.space.now) (g.R.Reads.state c.load.new.space) c.args.id c.load.ensures.state

pub returns-in_err-row-clause-gets : goal.returns-in_err-row-clause-gets
returns-in_err-row-clause-gets g c = load_reads relationships_file (g.R.Reads.state c.args.space.now) (g.R.Reads.state c.load.new.space) c.args.id
    c.load.ensures.state

pub returns-in_default-clause-gets : goal.returns-in_default-clause-gets
returns-in_default-clause-gets g c = load_reads relationships_file (g.R.Reads.state c.args.space.now) (g.R.Reads.state c.load.new.space) c.args.id
    c.load.ensures.state

pub returns-then-row-mark-clause-gets : goal.returns-then-row-mark-clause-gets
returns-then-row-mark-clause-gets g c = load_reads relationships_file (g.R.Reads.state c.args.space.now) (g.R.Reads.state c.load.new.space) c.args.id
    c.load.ensures.state

pub returns-in_err-row-clause-found : goal.returns-in_err-row-clause-found
returns-in_err-row-clause-found g c _ = never_ok c.from_residual.result _ _ c.from_residual.ensures.1

pub returns-in_err-row-clause-typed : goal.returns-in_err-row-clause-typed
returns-in_err-row-clause-typed g c = never_ok c.from_residual.result _ _ c.from_residual.ensures.1

pub returns-in_err-row-clause-key : goal.returns-in_err-row-clause-key
returns-in_err-row-clause-key g c = never_ok c.from_residual.result _ _ c.from_residual.ensures.1

pub returns-in_default-clause-cause : goal.returns-in_default-clause-cause
returns-in_default-clause-cause g c = ok_cause _ _ _ _ c.in_ok-row.ensures.cause.later

pub returns-clause-cause : goal.returns-clause-cause
returns-clause-cause g c = ok_cause _ _ _ _ c.in_ok-row.ensures.cause.later
