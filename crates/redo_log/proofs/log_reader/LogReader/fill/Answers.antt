use Rattle.rec_bytes.proofs.Causes.{never_ok}
use Rattle.redo_log.proofs.log_reader.LogReader.fill.Goals as goal

pub returns-in_err-read-clause-covers : goal.returns-in_err-read-clause-covers
returns-in_err-read-clause-covers g c = never_ok c.from_residual.result _ _ c.from_residual.ensures.1
