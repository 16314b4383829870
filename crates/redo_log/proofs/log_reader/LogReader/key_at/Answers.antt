use Rattle.redo_log.proofs.log_reader.LogReader.key_at.Goals as goal

pub returns-clause-key : goal.returns-clause-key
returns-clause-key g c = λ told content has. c.key_of.ensures content c.args.at
    (c.bytes_at.ensures.bytes content (c.in_ok-cover.ensures.keeps told content has).kept)
