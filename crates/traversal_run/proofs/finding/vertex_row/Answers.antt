use Rattle.std.proofs.lemmas.Result.{err_from_is_err_and}
use Rattle.traversal_run.proofs.Broken.{node_blamed}
use Rattle.rec_bytes.specs.Format.{nodes_file}
use Rattle.traversal_run.proofs.NodeReads.{load_reads}
use Rattle.rec_bytes.proofs.Causes.{never_ok, ok_cause}
use Rattle.traversal_run.proofs.finding.vertex_row.Goals as goal

pub returns-in_err-row-clause-damaged : goal.returns-in_err-row-clause-damaged
returns-in_err-row-clause-damaged g c = λ tells.
    let s = g.R.Reads.state c.args.space.now in
    let p = err_from_is_err_and c.from_residual.result c.from_residual.ensures.1 in
    rw (p.1, p.2) (node_blamed s c.args.id c.in_err-row.field-0.0 (c.in_err-row.ensures.damaged tells))

pub returns-in_err-row-clause-gets : goal.returns-in_err-row-clause-gets
returns-in_err-row-clause-gets g c = load_reads nodes_file (g.R.Reads.state c.args.space.now) (g.R.Reads.state c.load.new.space) c.args.id c.load.ensures.state

pub returns-clause-gets : goal.returns-clause-gets
returns-clause-gets g c = load_reads nodes_file (g.R.Reads.state c.args.space.now) (g.R.Reads.state c.load.new.space) c.args.id c.load.ensures.state

pub returns-in_err-row-clause-is : goal.returns-in_err-row-clause-is
returns-in_err-row-clause-is g c _ = never_ok c.from_residual.result _ _ c.from_residual.ensures.1

pub returns-in_err-row-clause-row : goal.returns-in_err-row-clause-row
returns-in_err-row-clause-row g c = never_ok c.from_residual.result _ _ c.from_residual.ensures.1

pub returns-clause-cause : goal.returns-clause-cause
returns-clause-cause g c = ok_cause _ _ _ _ c.in_ok-row.ensures.cause.later
