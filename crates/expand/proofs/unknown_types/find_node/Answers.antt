use Rattle.std.proofs.Common.{◌∙◌, sym, arith}
use Rattle.std.proofs.lemmas.Result.{err_from_is_err_and}
use Rattle.expand.proofs.Causes.{row_cause_passed}
use Rattle.expand.proofs.LoadedRows.{none_there, one_there, row_fault}
use Rattle.expand.proofs.ReadCounts.{load_reads}
use Rattle.expand.proofs.unknown_types.find_node.Goals as goal

pub returns-in_err-load-clause-damaged : goal.returns-in_err-load-clause-damaged
returns-in_err-load-clause-damaged g c = λ tells.
    let p = err_from_is_err_and c.from_residual.result c.from_residual.ensures.1 in
    rw (p.1, p.2) (row_fault (g.R.Reads.state c.args.space.now) c.args.node c.in_err-load.field-0.0 (c.in_err-load.ensures.damaged tells))

pub returns-in_err-load-clause-reads : goal.returns-in_err-load-clause-reads
returns-in_err-load-clause-reads g c = load_reads _ _ c.args.node 0 c.in_err-load.ensures.state

pub returns-in_err-load-clause-cause : goal.returns-in_err-load-clause-cause
returns-in_err-load-clause-cause g c =
    row_cause_passed _ _ _ c.from_residual.result c.in_err-load.field-0.0 (omega arith) c.in_err-load.ensures.cause c.from_residual.ensures.1

pub returns-in-Some-clause-missing : goal.returns-in-Some-clause-missing
returns-in-Some-clause-missing g c = λ tells.
    one_there (g.R.Reads.state c.args.space.now) c.args.node c.in-Some.field-0 (sym c.in-Some.is ∙ c.in_ok-load.ensures.found tells)

pub returns-in-Some-clause-reads : goal.returns-in-Some-clause-reads
returns-in-Some-clause-reads g c = load_reads _ _ c.args.node 0 c.in_ok-load.ensures.state

pub returns-in-None-clause-missing : goal.returns-in-None-clause-missing
returns-in-None-clause-missing g c = λ tells. (
  λ i. c.args.node,
  none_there (g.R.Reads.state c.args.space.now) c.args.node (sym c.in-None.is ∙ c.in_ok-load.ensures.found tells),
)

pub returns-in-None-clause-damaged : goal.returns-in-None-clause-damaged
returns-in-None-clause-damaged g c = λ tells. (λ i. c.args.node, sym (sym c.in-None.is ∙ c.in_ok-load.ensures.found tells))

pub returns-in-None-clause-reads : goal.returns-in-None-clause-reads
returns-in-None-clause-reads g c = load_reads _ _ c.args.node 0 c.in_ok-load.ensures.state
