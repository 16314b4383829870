use Rattle.std.proofs.Common.{◌≡◌, ◌∙◌, ℕ, List, [], refl}
use Rattle.std.proofs.lemmas.Result.{on_ok_weaker}
use Rattle.disk_model.specs.Contents.{Same}
use Rattle.disk_model.specs.Spans.{AtEachMoment}
use Rattle.disk_model.proofs.Spans.{at_each_moment_now, at_each_moment_on, at_each_moment_read, at_each_moment_weaker}
use Rattle.rec_bytes.specs.declared.key.Key.{Key}
use Rattle.rec_bytes.specs.declared.record.Rec.{Rec}
use Rattle.rec_bytes.specs.Pairs.{Pairs}
use Rattle.rec_bytes.specs.Space.{laid_over}
use Rattle.redo_log.specs.Entries.{HasEntries}
use Rattle.redo_log.specs.Resetting.{IsReset}
use Rattle.record_file.specs.Records.{IsTornInRecords, SameButRecords, record_at}
use Rattle.record_file.specs.Redone.{AreAlike, IsLogged, Redoes}
use Rattle.record_file.proofs.Records.{record_at-kept, record_at-log}
use Rattle.record_file.proofs.Redone.{AllHaveEntries-redo, AllRedoBy, AllRedoBy-alike, AreLogged-changed, Redoes-by}
use Rattle.record_file.proofs.Redone.{Redoes-gate, Redoes-reset, RedoesBy, RedoesBy-kept, RedoesBy-logged}
use Rattle.record_file.proofs.Redone.{RedoesBy-torn, RedoesBy-torn_in, records-settled}
use Rattle.recovery.proofs.checkpointing.checkpoint.Given.{Over}
use Rattle.rec_bytes.proofs.Causes.{never_ok}
use Rattle.recovery.proofs.checkpointing.checkpoint.Goals as goal

-- while the records are written
written : (g : Over) (first now : g.row.D.Denot) (changed : Pairs) (tail : ℕ) (is : IsLogged (g.D.Disk.reads first) changed tail)
    → AreAlike (g.D.Disk.reads first) changed (g.D.Disk.may_leave first)
    → AtEachMoment g.D.Disk first now (IsTornInRecords (g.D.Disk.may_leave first) changed)
    → AtEachMoment g.D.Disk first now (RedoesBy is.entries tail (laid_over (record_at (g.D.Disk.reads first)) changed))
written g first now changed tail is alike leaves =
    let disk = g.D.Disk in
    let space = laid_over (record_at (disk.reads first)) changed in
    at_each_moment_weaker disk first now (IsTornInRecords (disk.may_leave first) changed) (RedoesBy is.entries tail space) leaves
    (RedoesBy-torn_in is.entries tail space changed (disk.may_leave first) (AllRedoBy-alike (disk.reads first) changed tail (disk.may_leave first) is alike)
    (AreLogged-changed (disk.reads first) changed tail is))

weaker : (g : Over) (first now : g.row.D.Denot) (entries : List Pairs) (tail : ℕ) (space : Key → Rec)
    → AtEachMoment g.D.Disk first now (RedoesBy entries tail space) → AtEachMoment g.D.Disk first now (λ content. Redoes content space)
weaker g first now entries tail space leaves = at_each_moment_weaker g.D.Disk first now (RedoesBy entries tail space) (λ content. Redoes content space) leaves
    (Redoes-by entries tail space)

-- what is read once the records are written
read_by : (g : Over) (first written now : g.row.D.Denot) (changed : Pairs) (tail : ℕ) (is : IsLogged (g.D.Disk.reads first) changed tail)
    → SameButRecords changed (g.D.Disk.reads first) (g.D.Disk.reads written) → Same (g.D.Disk.reads written) (g.D.Disk.reads now)
    → RedoesBy is.entries tail (laid_over (record_at (g.D.Disk.reads first)) changed) (g.D.Disk.reads now)
read_by g first written now changed tail is same kept =
    let disk = g.D.Disk in
    let space = laid_over (record_at (disk.reads first)) changed in
    RedoesBy-kept is.entries tail space (disk.reads written) (disk.reads now)
    (RedoesBy-torn is.entries tail space changed (disk.reads first) (disk.reads written) (RedoesBy-logged (disk.reads first) changed tail is) same
    (AreLogged-changed (disk.reads first) changed tail is)) kept

pub returns-in_err-write_records-clause-crash : goal.returns-in_err-write_records-clause-crash
returns-in_err-write_records-clause-crash g c reads images tail is alike =
    weaker g c.args.disk.now c.write_records.new.disk is.entries tail _
    (written g c.args.disk.now c.write_records.new.disk c.args.changed.now.pairs tail is alike (c.write_records.ensures.crash images))

pub returns-in_err-write_records-clause-read : goal.returns-in_err-write_records-clause-read
returns-in_err-write_records-clause-read g c reads tail is =
    Redoes-by is.entries tail _ _ (read_by g c.args.disk.now c.write_records.new.disk c.write_records.new.disk c.args.changed.now.pairs tail is
    c.write_records.ensures.elsewhere (λ file place. refl))

pub returns-in_err-sync_record_files-clause-crash : goal.returns-in_err-sync_record_files-clause-crash
returns-in_err-sync_record_files-clause-crash g c reads images tail is alike =
    let first = c.args.disk.now in
    let space = laid_over (record_at (g.D.Disk.reads first)) c.args.changed.now.pairs in
    weaker g first c.sync_record_files.new.disk is.entries tail space
    (at_each_moment_read g.D.Disk first c.write_records.new.disk c.sync_record_files.new.disk (RedoesBy is.entries tail space) g.met.D.Disk.counts_now images
    (written g first c.write_records.new.disk c.args.changed.now.pairs tail is alike (c.write_records.ensures.crash images))
    c.sync_record_files.ensures.only_reads)

pub returns-in_err-sync_record_files-clause-read : goal.returns-in_err-sync_record_files-clause-read
returns-in_err-sync_record_files-clause-read g c reads tail is =
    Redoes-by is.entries tail _ _
    (read_by g c.args.disk.now c.write_records.new.disk c.sync_record_files.new.disk c.args.changed.now.pairs tail is c.write_records.ensures.elsewhere
    c.sync_record_files.ensures.only_reads.keeps)

-- the records that are read before the reset are those of the space
space_read : (g : Over) (c : goal.After-reset g) → g.D.Disk.tells_reads
    → record_at (g.D.Disk.reads c.sync_record_files.new.disk) ≡ laid_over (record_at (g.D.Disk.reads c.args.disk.now)) c.args.changed.now.pairs
space_read g c reads =
    let kept : record_at (g.D.Disk.reads c.sync_record_files.new.disk) ≡ record_at (g.D.Disk.reads c.write_records.new.disk) = λ i key.
    record_at-kept key _ _ c.sync_record_files.ensures.only_reads.keeps i in
    kept ∙ c.in_ok-write_records.ensures.written reads

pub returns-clause-crash : goal.returns-clause-crash
returns-clause-crash g c reads images tail is alike =
    let disk = g.D.Disk in
    let first = c.args.disk.now in
    let now = c.sync_record_files.new.disk in
    let space = laid_over (record_at (disk.reads first)) c.args.changed.now.pairs in
    let by = RedoesBy is.entries tail space in
    let before = at_each_moment_read disk first c.write_records.new.disk now by g.met.D.Disk.counts_now images
    (written g first c.write_records.new.disk c.args.changed.now.pairs tail is alike (c.write_records.ensures.crash images))
    c.sync_record_files.ensures.only_reads in
    let all : AllRedoBy (disk.may_leave now) is.entries tail space = at_each_moment_now disk first now by g.met.D.Disk.counts_now images before in
    at_each_moment_on disk first now c.reset.new.disk (λ content. Redoes content space) (IsReset (disk.may_leave now) is.entries tail)
    (weaker g first now is.entries tail space before)
    (c.reset.ensures.crash reads images is.entries tail (AllHaveEntries-redo (disk.may_leave now) is.entries tail space all))
    (Redoes-reset is.entries tail space (disk.may_leave now) all
    (λ image left. records-settled (disk.reads now) (disk.may_leave now) (c.in_ok-sync_record_files.ensures.settled reads images) image left ∙ space_read g c
    reads))

pub returns-clause-read : goal.returns-clause-read
returns-clause-read g c reads tail is =
    let disk = g.D.Disk in
    let now = c.sync_record_files.new.disk in
    let by = read_by g c.args.disk.now c.write_records.new.disk now c.args.changed.now.pairs tail is c.write_records.ensures.elsewhere
    c.sync_record_files.ensures.only_reads.keeps in
    Redoes-gate is.entries tail (laid_over (record_at (disk.reads c.args.disk.now)) c.args.changed.now.pairs) (disk.reads now) (disk.reads c.reset.new.disk) by
    (space_read g c reads) c.reset.ensures.elsewhere
    (c.reset.ensures.read reads is.entries tail by.log)

pub returns-clause-space : goal.returns-clause-space
returns-clause-space g c reads =
    let gate : record_at (g.D.Disk.reads c.reset.new.disk) ≡ record_at (g.D.Disk.reads c.sync_record_files.new.disk) = λ i key.
    record_at-log key 0 1 _ _ c.reset.ensures.elsewhere i in
    on_ok_weaker {P = HasEntries (g.D.Disk.reads c.reset.new.disk) [] 0} c.reset.result (λ _. gate ∙ space_read g c reads) (c.reset.ensures.emptied reads)

pub returns-clause-elsewhere : goal.returns-clause-elsewhere
returns-clause-elsewhere g c key none =
    let disk = g.D.Disk in
    record_at-log key 0 1 (disk.reads c.sync_record_files.new.disk) (disk.reads c.reset.new.disk) c.reset.ensures.elsewhere
    ∙ record_at-kept key (disk.reads c.write_records.new.disk) (disk.reads c.sync_record_files.new.disk) c.sync_record_files.ensures.only_reads.keeps
    ∙ c.write_records.ensures.elsewhere.others key none

pub returns-in_err-write_records-clause-space : goal.returns-in_err-write_records-clause-space
returns-in_err-write_records-clause-space g c _ = never_ok c.from_residual.result _ _ c.from_residual.ensures.1

pub returns-in_err-write_records-clause-emptied : goal.returns-in_err-write_records-clause-emptied
returns-in_err-write_records-clause-emptied g c _ = never_ok c.from_residual.result _ _ c.from_residual.ensures.1

pub returns-in_err-write_records-clause-settled : goal.returns-in_err-write_records-clause-settled
returns-in_err-write_records-clause-settled g c _ _ = never_ok c.from_residual.result _ _ c.from_residual.ensures.1

pub returns-in_err-sync_record_files-clause-space : goal.returns-in_err-sync_record_files-clause-space
returns-in_err-sync_record_files-clause-space g c _ =
    never_ok c.from_residual-in_err-sync_record_files.result _ _ c.from_residual-in_err-sync_record_files.ensures.1

pub returns-in_err-sync_record_files-clause-emptied : goal.returns-in_err-sync_record_files-clause-emptied
returns-in_err-sync_record_files-clause-emptied g c _ =
    never_ok c.from_residual-in_err-sync_record_files.result _ _ c.from_residual-in_err-sync_record_files.ensures.1

pub returns-in_err-sync_record_files-clause-settled : goal.returns-in_err-sync_record_files-clause-settled
returns-in_err-sync_record_files-clause-settled g c _ _ =
    never_ok c.from_residual-in_err-sync_record_files.result _ _ c.from_residual-in_err-sync_record_files.ensures.1
