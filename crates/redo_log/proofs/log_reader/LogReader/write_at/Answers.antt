use Rattle.std.proofs.Common.{ap, ◌∙◌}
use Rattle.redo_log.specs.Entries.{write_at}
use Rattle.redo_log.proofs.EntryForms.{entry_get, has_itself, still_kept}
use Rattle.redo_log.proofs.log_reader.LogReader.write_at.Goals as goal

pub returns-in_err-cover-clause-keeps : goal.returns-in_err-cover-clause-keeps
returns-in_err-cover-clause-keeps g c = λ told kept. still_kept _ _ _ (c.cover.ensures.keeps told _ (has_itself _ _ kept))

pub returns-clause-bytes : goal.returns-clause-bytes
returns-clause-bytes g c = λ told kept.
    let content = g.D.Disk.reads c.args.disk.now in
    let bytes = c.bytes_at.ensures.bytes content (c.cover.ensures.keeps told content (has_itself _ _ kept)).kept in
    c.write_of.ensures content c.place_of_write-at.result bytes ∙ ap (write_at content) c.place_of_write-at.ensures

pub returns-clause-of_entry : goal.returns-clause-of_entry
returns-clause-of_entry g c = λ told kept below.
    let content = g.D.Disk.reads c.args.disk.now in
    let bytes = c.bytes_at.ensures.bytes content (c.cover.ensures.keeps told content (has_itself _ _ kept)).kept in
    entry_get content c.args.place c.args.index c.write_of.result below
    (c.write_of.ensures content c.place_of_write-at.result bytes ∙ ap (write_at content) c.place_of_write-at.ensures)

pub returns-clause-keeps : goal.returns-clause-keeps
returns-clause-keeps g c = λ told kept. still_kept _ _ _ (c.cover.ensures.keeps told _ (has_itself _ _ kept))
