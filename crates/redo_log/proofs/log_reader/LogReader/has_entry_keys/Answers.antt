use Rattle.rec_bytes.proofs.Causes.{never_ok}
use Rattle.redo_log.proofs.log_reader.LogReader.has_entry_keys.Goals as goal

pub returns-clause-keys : goal.returns-clause-keys
returns-clause-keys g c = λ told content has. c.has_rising_keys.ensures.keys told content (c.cover.ensures.keeps told content has)

pub returns-clause-keeps : goal.returns-clause-keeps
returns-clause-keeps g c = λ told content has. c.has_rising_keys.ensures.keeps told content (c.cover.ensures.keeps told content has)

pub returns-in_err-cover-clause-keys : goal.returns-in_err-cover-clause-keys
returns-in_err-cover-clause-keys g c _ _ _ = never_ok c.from_residual.result _ _ c.from_residual.ensures.1
