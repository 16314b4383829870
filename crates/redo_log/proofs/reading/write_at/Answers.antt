use Rattle.std.proofs.Common.{◌≡◌, length, ap, ◌∙◌, rules}
use Rattle.redo_log.specs.Entries.{write_at}
use Rattle.redo_log.proofs.EntryForms.{entry_get}
use Rattle.redo_log.proofs.LogBytes.{log_bytes-held}
use Rattle.rec_bytes.proofs.Causes.{never_ok}
use Rattle.redo_log.proofs.reading.write_at.Goals as goal

pub returns-clause-bytes : goal.returns-clause-bytes
returns-clause-bytes g c = λ told.
    let content = g.D.Disk.reads c.args.disk.now in
    let long : length c.read.new.out ≡ 69 = search rules in
    let bytes = log_bytes-held content c.place_of_write.result 69 c.read.new.out long (c.in_ok-read.ensures.bytes told) in
    c.write_of.ensures content c.place_of_write.result bytes ∙ ap (write_at content) c.place_of_write.ensures

pub returns-clause-of_entry : goal.returns-clause-of_entry
returns-clause-of_entry g c = λ told below.
    let content = g.D.Disk.reads c.args.disk.now in
    let long : length c.read.new.out ≡ 69 = search rules in
    let bytes = log_bytes-held content c.place_of_write.result 69 c.read.new.out long (c.in_ok-read.ensures.bytes told) in
    entry_get content c.args.place c.args.index c.write_of.result below
    (c.write_of.ensures content c.place_of_write.result bytes ∙ ap (write_at content) c.place_of_write.ensures)

pub returns-in_err-read-clause-bytes : goal.returns-in_err-read-clause-bytes
returns-in_err-read-clause-bytes g c _ = never_ok c.from_residual.result _ _ c.from_residual.ensures.1

pub returns-in_err-read-clause-of_entry : goal.returns-in_err-read-clause-of_entry
returns-in_err-read-clause-of_entry g c _ _ = never_ok c.from_residual.result _ _ c.from_residual.ensures.1
