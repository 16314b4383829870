use Rattle.redo_log.proofs.EntryForms.{has_itself, still_kept}
use Rattle.redo_log.proofs.log_reader.LogReader.entry_at.Goals as goal

pub returns-in-Ok-clause-tells : goal.returns-in-Ok-clause-tells
returns-in-Ok-clause-tells g c = λ told kept. c.in-Ok.ensures.tells told _ (has_itself _ _ kept)

pub returns-in-Ok-clause-keeps : goal.returns-in-Ok-clause-keeps
returns-in-Ok-clause-keeps g c = λ told kept. still_kept _ _ _ (c.answer_at.ensures.keeps told _ (has_itself _ _ kept))

pub returns-in-Err-clause-keeps : goal.returns-in-Err-clause-keeps
returns-in-Err-clause-keeps g c = λ told kept. still_kept _ _ _ (c.answer_at.ensures.keeps told _ (has_itself _ _ kept))
