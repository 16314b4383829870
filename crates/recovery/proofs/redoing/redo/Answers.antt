use Rattle.std.proofs.Common.{◌≡◌, ◌≢◌, ◌∙◌, refl, sym, ℕ, [], List}
use Rattle.std.proofs.lemmas.Result.{err_from_is_err_and}
use Rattle.disk_model.specs.Contents.{Files, Same}
use Rattle.disk_model.specs.Spans.{AtEachMoment, IsAllSettled, OnlyReads}
use Rattle.disk_model.proofs.Spans.{at_each_moment_now, at_each_moment_on, at_each_moment_read, at_each_moment_weaker, only_reads_on}
use Rattle.rec_bytes.specs.declared.key.Key.{Key}
use Rattle.rec_bytes.specs.declared.record.Rec.{Rec}
use Rattle.rec_bytes.specs.Format.{log_file}
use Rattle.rec_bytes.specs.Pairs.{Pairs}
use Rattle.redo_log.specs.Entries.{AllHaveEntries, open_byte}
use Rattle.redo_log.specs.Redo.{redone}
use Rattle.redo_log.specs.Resetting.{IsReset}
use Rattle.record_file.specs.Records.{record_at}
use Rattle.record_file.specs.Redone.{Redoes}
use Rattle.record_file.proofs.Records.{record_at-kept, record_at-log}
use Rattle.record_file.proofs.Redone.{AllHaveEntries-redo, AllRedoBy, Redoes-by, Redoes-gate, Redoes-reset, RedoesBy}
use Rattle.record_file.proofs.Redone.{RedoesBy-kept, RedoesBy-of, records-settled}
use Rattle.recovery.specs.Redoing.{IsTornInLogged, SameButLogged}
use Rattle.recovery.specs.Syncing.{AreRecordsSettled}
use Rattle.recovery.proofs.LogSteps.{AllRedoBy-settled, RedoesBy-torn_logged}
use Rattle.recovery.proofs.Unmade.{unmade_gate, unmade_torn}
use Rattle.recovery.proofs.redoing.redo.Given.{Over}
use Rattle.rec_bytes.proofs.Causes.{never_ok}
use Rattle.recovery.proofs.redoing.redo.Goals as goal

-- the contents that redo to the space
abbrev Stays : (Key → Rec) → Files → Type 0
Stays space content = Redoes content space

weaker : (g : Over) (first now : g.row.D.Denot) (entries : List Pairs) (tail : ℕ) (space : Key → Rec)
    → AtEachMoment g.D.Disk first now (RedoesBy entries tail space) → AtEachMoment g.D.Disk first now (Stays space)
weaker g first now entries tail space leaves = at_each_moment_weaker g.D.Disk first now (RedoesBy entries tail space) (Stays space) leaves
    (Redoes-by entries tail space)

-- while the records of the entries are written
while_written : (g : Over) (first now : g.row.D.Denot) (space : Key → Rec) (redoes : Redoes (g.D.Disk.reads first) space) → IsAllSettled g.D.Disk first
    → AtEachMoment g.D.Disk first now (IsTornInLogged (g.D.Disk.may_leave first) redoes.entries)
    → AtEachMoment g.D.Disk first now (RedoesBy redoes.entries redoes.tail space)
while_written g first now space redoes settled leaves =
    let disk = g.D.Disk in
    let all = AllRedoBy-settled disk first redoes.entries redoes.tail space settled (RedoesBy-of (disk.reads first) space redoes) in
    at_each_moment_weaker disk first now (IsTornInLogged (disk.may_leave first) redoes.entries) (RedoesBy redoes.entries redoes.tail space) leaves
    (λ image torn. RedoesBy-torn_logged redoes.entries redoes.tail space torn.0 image (all torn.0 torn.1) torn.2)

-- while the files are synced
while_synced : (g : Over) (first written now : g.row.D.Denot) (space : Key → Rec) (redoes : Redoes (g.D.Disk.reads first) space) → g.D.Disk.tells_images
    → IsAllSettled g.D.Disk first
    → AtEachMoment g.D.Disk first written (IsTornInLogged (g.D.Disk.may_leave first) redoes.entries) → OnlyReads g.D.Disk written now
    → AtEachMoment g.D.Disk first now (RedoesBy redoes.entries redoes.tail space)
while_synced g first written now space redoes images settled leaves reads =
    at_each_moment_read g.D.Disk first written now (RedoesBy redoes.entries redoes.tail space) g.met.D.Disk.counts_now images
    (while_written g first written space redoes settled leaves) reads

-- while the log is reset
while_reset : (g : Over) (first synced now : g.row.D.Denot) (space : Key → Rec) (redoes : Redoes (g.D.Disk.reads first) space) → g.D.Disk.tells_images
    → AtEachMoment g.D.Disk first synced (RedoesBy redoes.entries redoes.tail space)
    → AreRecordsSettled g.D.Disk synced → record_at (g.D.Disk.reads synced) ≡ space
    → (AllHaveEntries (g.D.Disk.may_leave synced) redoes.entries redoes.tail → AtEachMoment g.D.Disk synced now (IsReset (g.D.Disk.may_leave synced)
    redoes.entries redoes.tail)) → AtEachMoment g.D.Disk first now (Stays space)
while_reset g first synced now space redoes images before records are reset =
    let disk = g.D.Disk in
    let entries = redoes.entries in
    let tail = redoes.tail in
    let all : AllRedoBy (disk.may_leave synced) entries tail space = at_each_moment_now disk first synced (RedoesBy entries tail space) g.met.D.Disk.counts_now
    images before in
    at_each_moment_on disk first synced now (Stays space) (IsReset (disk.may_leave synced) entries tail) (weaker g first synced entries tail space before)
    (reset (AllHaveEntries-redo (disk.may_leave synced) entries tail space all))
    (Redoes-reset entries tail space (disk.may_leave synced) all (λ image left. records-settled (disk.reads synced) (disk.may_leave synced) records image left
    ∙ are))

-- what is read once the records are written
read_by : (g : Over) (first written now : g.row.D.Denot) (space : Key → Rec) (redoes : Redoes (g.D.Disk.reads first) space)
    → SameButLogged redoes.entries (g.D.Disk.reads first) (g.D.Disk.reads written)
    → Same (g.D.Disk.reads written) (g.D.Disk.reads now) → RedoesBy redoes.entries redoes.tail space (g.D.Disk.reads now)
read_by g first written now space redoes same kept =
    let disk = g.D.Disk in
    RedoesBy-kept redoes.entries redoes.tail space (disk.reads written) (disk.reads now)
    (RedoesBy-torn_logged redoes.entries redoes.tail space (disk.reads first) (disk.reads written) (RedoesBy-of (disk.reads first) space redoes) same) kept

-- the records that are read before the reset are those of the space
space_read : (g : Over) (first written now : g.row.D.Denot) (space : Key → Rec) (redoes : Redoes (g.D.Disk.reads first) space)
    → record_at (g.D.Disk.reads written) ≡ redone (record_at (g.D.Disk.reads first)) redoes.entries
    → Same (g.D.Disk.reads written) (g.D.Disk.reads now) → record_at (g.D.Disk.reads now) ≡ space
space_read g first written now space redoes made kept =
    let same : record_at (g.D.Disk.reads now) ≡ record_at (g.D.Disk.reads written) = λ i key.
    record_at-kept key (g.D.Disk.reads written) (g.D.Disk.reads now) kept i in
    same ∙ made ∙ redoes.makes

pub returns-in_err-redo_entries-clause-crash : goal.returns-in_err-redo_entries-clause-crash
returns-in_err-redo_entries-clause-crash g c reads images settled space redoes =
    weaker g c.args.disk.now c.redo_entries.new.disk redoes.entries redoes.tail space
    (while_written g c.args.disk.now c.redo_entries.new.disk space redoes settled (c.redo_entries.ensures.crash reads images redoes.entries redoes.tail
    redoes.log))

pub returns-in_err-redo_entries-clause-read : goal.returns-in_err-redo_entries-clause-read
returns-in_err-redo_entries-clause-read g c reads space redoes =
    Redoes-by redoes.entries redoes.tail space (g.D.Disk.reads c.redo_entries.new.disk)
    (read_by g c.args.disk.now c.redo_entries.new.disk c.redo_entries.new.disk space redoes (c.redo_entries.ensures.elsewhere reads redoes.entries redoes.tail
    redoes.log) (λ file place. refl))

pub returns-in_err-redo_entries-clause-sound : goal.returns-in_err-redo_entries-clause-sound
returns-in_err-redo_entries-clause-sound g c reads space redoes =
    let p = err_from_is_err_and c.from_residual.result c.from_residual.ensures.1 in
    rw (p.1, p.2) (c.in_err-redo_entries.ensures.sound reads redoes.entries redoes.tail redoes.log)

pub returns-in_err-sync_record_files-clause-crash : goal.returns-in_err-sync_record_files-clause-crash
returns-in_err-sync_record_files-clause-crash g c reads images settled space redoes =
    weaker g c.args.disk.now c.sync_record_files.new.disk redoes.entries redoes.tail space
    (while_synced g c.args.disk.now c.redo_entries.new.disk c.sync_record_files.new.disk space redoes images settled (c.redo_entries.ensures.crash reads images
    redoes.entries redoes.tail redoes.log) c.sync_record_files.ensures.only_reads)

pub returns-in_err-sync_record_files-clause-read : goal.returns-in_err-sync_record_files-clause-read
returns-in_err-sync_record_files-clause-read g c reads space redoes =
    Redoes-by redoes.entries redoes.tail space (g.D.Disk.reads c.sync_record_files.new.disk)
    (read_by g c.args.disk.now c.redo_entries.new.disk c.sync_record_files.new.disk space redoes (c.redo_entries.ensures.elsewhere reads redoes.entries
    redoes.tail redoes.log) c.sync_record_files.ensures.only_reads.keeps)

pub returns-in_err-reset-clause-crash : goal.returns-in_err-reset-clause-crash
returns-in_err-reset-clause-crash g c reads images settled space redoes =
    while_reset g c.args.disk.now c.sync_record_files.new.disk c.reset.new.disk space redoes images
    (while_synced g c.args.disk.now c.redo_entries.new.disk c.sync_record_files.new.disk space redoes images settled (c.redo_entries.ensures.crash reads images
    redoes.entries redoes.tail redoes.log) c.sync_record_files.ensures.only_reads)
    (c.in_ok-sync_record_files.ensures.settled reads images)
    (space_read g c.args.disk.now c.redo_entries.new.disk c.sync_record_files.new.disk space redoes (c.in_ok-redo_entries.ensures.redone reads redoes.entries
    redoes.tail redoes.log) c.sync_record_files.ensures.only_reads.keeps)
    (c.reset.ensures.crash reads images redoes.entries redoes.tail)

pub returns-in_err-reset-clause-read : goal.returns-in_err-reset-clause-read
returns-in_err-reset-clause-read g c reads space redoes =
    let disk = g.D.Disk in
    let by = read_by g c.args.disk.now c.redo_entries.new.disk c.sync_record_files.new.disk space redoes
    (c.redo_entries.ensures.elsewhere reads redoes.entries redoes.tail redoes.log) c.sync_record_files.ensures.only_reads.keeps in
    Redoes-gate redoes.entries redoes.tail space (disk.reads c.sync_record_files.new.disk) (disk.reads c.reset.new.disk) by
    (space_read g c.args.disk.now c.redo_entries.new.disk c.sync_record_files.new.disk space redoes (c.in_ok-redo_entries.ensures.redone reads redoes.entries
    redoes.tail redoes.log) c.sync_record_files.ensures.only_reads.keeps)
    c.reset.ensures.elsewhere (c.reset.ensures.read reads redoes.entries redoes.tail by.log)

-- where the log has no entry
pub returns-then-not-branch-clause-crash : goal.returns-then-not-branch-clause-crash
returns-then-not-branch-clause-crash g c reads images settled space redoes =
    weaker g c.args.disk.now c.redo_entries.new.disk redoes.entries redoes.tail space
    (while_written g c.args.disk.now c.redo_entries.new.disk space redoes settled (c.redo_entries.ensures.crash reads images redoes.entries redoes.tail
    redoes.log))

pub returns-then-not-branch-clause-unmade : goal.returns-then-not-branch-clause-unmade
returns-then-not-branch-clause-unmade g c reads images settled unmade =
    unmade_torn g.D.Disk c.args.disk.now c.redo_entries.new.disk unmade settled (c.redo_entries.ensures.crash reads images [] 0 unmade.log)

pub returns-clause-crash : goal.returns-clause-crash
returns-clause-crash g c reads images settled space redoes =
    while_reset g c.args.disk.now c.sync_record_files.new.disk c.reset.new.disk space redoes images
    (while_synced g c.args.disk.now c.redo_entries.new.disk c.sync_record_files.new.disk space redoes images settled (c.redo_entries.ensures.crash reads images
    redoes.entries redoes.tail redoes.log) c.sync_record_files.ensures.only_reads)
    (c.in_ok-sync_record_files.ensures.settled reads images)
    (space_read g c.args.disk.now c.redo_entries.new.disk c.sync_record_files.new.disk space redoes (c.in_ok-redo_entries.ensures.redone reads redoes.entries
    redoes.tail redoes.log) c.sync_record_files.ensures.only_reads.keeps)
    (c.reset.ensures.crash reads images redoes.entries redoes.tail)

pub returns-clause-read : goal.returns-clause-read
returns-clause-read g c reads space redoes =
    let disk = g.D.Disk in
    let by = read_by g c.args.disk.now c.redo_entries.new.disk c.sync_record_files.new.disk space redoes
    (c.redo_entries.ensures.elsewhere reads redoes.entries redoes.tail redoes.log) c.sync_record_files.ensures.only_reads.keeps in
    Redoes-gate redoes.entries redoes.tail space (disk.reads c.sync_record_files.new.disk) (disk.reads c.reset.new.disk) by
    (space_read g c.args.disk.now c.redo_entries.new.disk c.sync_record_files.new.disk space redoes (c.in_ok-redo_entries.ensures.redone reads redoes.entries
    redoes.tail redoes.log) c.sync_record_files.ensures.only_reads.keeps)
    c.reset.ensures.elsewhere (c.reset.ensures.read reads redoes.entries redoes.tail by.log)

pub returns-clause-space : goal.returns-clause-space
returns-clause-space g c reads space redoes =
    let gate : record_at (g.D.Disk.reads c.reset.new.disk) ≡ record_at (g.D.Disk.reads c.sync_record_files.new.disk) = λ i key.
    record_at-log key 0 1 (g.D.Disk.reads c.sync_record_files.new.disk) (g.D.Disk.reads c.reset.new.disk) c.reset.ensures.elsewhere i in
    gate ∙ space_read g c.args.disk.now c.redo_entries.new.disk c.sync_record_files.new.disk space redoes
    (c.in_ok-redo_entries.ensures.redone reads redoes.entries redoes.tail redoes.log) c.sync_record_files.ensures.only_reads.keeps

-- where no store was made
pub returns-in_err-redo_entries-clause-unmade : goal.returns-in_err-redo_entries-clause-unmade
returns-in_err-redo_entries-clause-unmade g c reads images settled unmade =
    unmade_torn g.D.Disk c.args.disk.now c.redo_entries.new.disk unmade settled (c.redo_entries.ensures.crash reads images [] 0 unmade.log)

pub returns-in_err-sync_record_files-clause-unmade : goal.returns-in_err-sync_record_files-clause-unmade
returns-in_err-sync_record_files-clause-unmade g c reads images settled unmade =
    at_each_moment_read g.D.Disk c.args.disk.now c.redo_entries.new.disk c.sync_record_files.new.disk _ g.met.D.Disk.counts_now images
    (unmade_torn g.D.Disk c.args.disk.now c.redo_entries.new.disk unmade settled (c.redo_entries.ensures.crash reads images [] 0 unmade.log))
    c.sync_record_files.ensures.only_reads

pub returns-in_err-reset-clause-unmade : goal.returns-in_err-reset-clause-unmade
returns-in_err-reset-clause-unmade g c reads images settled unmade =
    let disk = g.D.Disk in
    let first = c.args.disk.now in
    at_each_moment_read disk first c.sync_record_files.new.disk c.reset.new.disk _ g.met.D.Disk.counts_now images
    (at_each_moment_read disk first c.redo_entries.new.disk c.sync_record_files.new.disk _ g.met.D.Disk.counts_now images
    (unmade_torn disk first c.redo_entries.new.disk unmade settled (c.redo_entries.ensures.crash reads images [] 0 unmade.log))
    c.sync_record_files.ensures.only_reads)
    (c.reset.ensures.closed reads (unmade_gate (disk.reads first) (disk.reads c.redo_entries.new.disk) (disk.reads c.sync_record_files.new.disk) unmade
    (c.redo_entries.ensures.elsewhere reads [] 0 unmade.log) c.sync_record_files.ensures.only_reads.keeps))

pub returns-clause-unmade : goal.returns-clause-unmade
returns-clause-unmade g c reads images settled unmade =
    let disk = g.D.Disk in
    let first = c.args.disk.now in
    at_each_moment_read disk first c.sync_record_files.new.disk c.reset.new.disk _ g.met.D.Disk.counts_now images
    (at_each_moment_read disk first c.redo_entries.new.disk c.sync_record_files.new.disk _ g.met.D.Disk.counts_now images
    (unmade_torn disk first c.redo_entries.new.disk unmade settled (c.redo_entries.ensures.crash reads images [] 0 unmade.log))
    c.sync_record_files.ensures.only_reads)
    (c.reset.ensures.closed reads (unmade_gate (disk.reads first) (disk.reads c.redo_entries.new.disk) (disk.reads c.sync_record_files.new.disk) unmade
    (c.redo_entries.ensures.elsewhere reads [] 0 unmade.log) c.sync_record_files.ensures.only_reads.keeps))

-- where the first gate is closed
pub returns-in_err-sync_record_files-clause-closed : goal.returns-in_err-sync_record_files-clause-closed
returns-in_err-sync_record_files-clause-closed g c reads closed =
    only_reads_on g.D.Disk c.args.disk.now c.redo_entries.new.disk c.sync_record_files.new.disk (c.redo_entries.ensures.closed reads closed)
    c.sync_record_files.ensures.only_reads

-- up to the end of a reset
reset_closed : (g : Over) (first written synced now : g.row.D.Denot) → g.D.Disk.reads first log_file 0 ≢ open_byte → OnlyReads g.D.Disk first written
    → OnlyReads g.D.Disk written synced
    → (g.D.Disk.reads synced log_file 0 ≢ open_byte → OnlyReads g.D.Disk synced now) → OnlyReads g.D.Disk first now
reset_closed g first written synced now closed before syncs reset =
    let only = only_reads_on g.D.Disk first written synced before syncs in
    only_reads_on g.D.Disk first synced now only (reset (λ is_open. closed (sym (only.keeps log_file 0) ∙ is_open)))

pub returns-in_err-reset-clause-closed : goal.returns-in_err-reset-clause-closed
returns-in_err-reset-clause-closed g c reads closed =
    reset_closed g c.args.disk.now c.redo_entries.new.disk c.sync_record_files.new.disk c.reset.new.disk closed (c.redo_entries.ensures.closed reads closed)
    c.sync_record_files.ensures.only_reads (c.reset.ensures.closed reads)

pub returns-clause-closed : goal.returns-clause-closed
returns-clause-closed g c reads closed =
    reset_closed g c.args.disk.now c.redo_entries.new.disk c.sync_record_files.new.disk c.reset.new.disk closed (c.redo_entries.ensures.closed reads closed)
    c.sync_record_files.ensures.only_reads (c.reset.ensures.closed reads)

pub returns-in_err-redo_entries-clause-space : goal.returns-in_err-redo_entries-clause-space
returns-in_err-redo_entries-clause-space g c _ _ _ = never_ok c.from_residual.result _ _ c.from_residual.ensures.1

pub returns-in_err-redo_entries-clause-emptied : goal.returns-in_err-redo_entries-clause-emptied
returns-in_err-redo_entries-clause-emptied g c _ = never_ok c.from_residual.result _ _ c.from_residual.ensures.1

pub returns-in_err-redo_entries-clause-settled : goal.returns-in_err-redo_entries-clause-settled
returns-in_err-redo_entries-clause-settled g c _ _ _ = never_ok c.from_residual.result _ _ c.from_residual.ensures.1

pub returns-in_err-sync_record_files-clause-space : goal.returns-in_err-sync_record_files-clause-space
returns-in_err-sync_record_files-clause-space g c _ _ _ =
    never_ok c.from_residual-in_err-sync_record_files.result _ _ c.from_residual-in_err-sync_record_files.ensures.1

pub returns-in_err-sync_record_files-clause-emptied : goal.returns-in_err-sync_record_files-clause-emptied
returns-in_err-sync_record_files-clause-emptied g c _ =
    never_ok c.from_residual-in_err-sync_record_files.result _ _ c.from_residual-in_err-sync_record_files.ensures.1

pub returns-in_err-sync_record_files-clause-settled : goal.returns-in_err-sync_record_files-clause-settled
returns-in_err-sync_record_files-clause-settled g c _ _ _ =
    never_ok c.from_residual-in_err-sync_record_files.result _ _ c.from_residual-in_err-sync_record_files.ensures.1

pub returns-in_err-reset-clause-space : goal.returns-in_err-reset-clause-space
returns-in_err-reset-clause-space g c _ _ _ = never_ok c.from_residual-in_err-reset.result _ _ c.from_residual-in_err-reset.ensures.1

pub returns-in_err-reset-clause-emptied : goal.returns-in_err-reset-clause-emptied
returns-in_err-reset-clause-emptied g c _ = never_ok c.from_residual-in_err-reset.result _ _ c.from_residual-in_err-reset.ensures.1

pub returns-in_err-reset-clause-settled : goal.returns-in_err-reset-clause-settled
returns-in_err-reset-clause-settled g c _ _ _ = never_ok c.from_residual-in_err-reset.result _ _ c.from_residual-in_err-reset.ensures.1
