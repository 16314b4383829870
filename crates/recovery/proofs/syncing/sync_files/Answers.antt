use Rattle.rec_bytes.proofs.Causes.{never_ok}
use Rattle.recovery.proofs.syncing.sync_files.Goals as goal

pub returns-in_err-sync_record_files-clause-settled : goal.returns-in_err-sync_record_files-clause-settled
returns-in_err-sync_record_files-clause-settled g c _ _ = never_ok c.from_residual.result _ _ c.from_residual.ensures.1
