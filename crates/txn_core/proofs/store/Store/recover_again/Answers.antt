use Rattle.std.proofs.Common.{subst, ◌⊎◌, ◌≢◌}
use Rattle.disk_model.specs.Spans.{AtEachMoment, OnlyReads}
use Rattle.rec_bytes.specs.Format.{log_file}
use Rattle.redo_log.specs.Entries.{open_byte}
use Rattle.rec_bytes.specs.declared.key.Key.{Key}
use Rattle.rec_bytes.specs.declared.record.Rec.{Rec}
use Rattle.record_file.specs.Redone.{Redoes}
use Rattle.recovery.specs.Finding.{IsCareful}
use Rattle.txn_core.specs.Base.{content}
use Rattle.txn_core.specs.declared.base.Base.{Base}
use Rattle.txn_core.proofs.store.Store.recover_again.Goals as goal

pub returns-clause-crash : goal.returns-clause-crash
returns-clause-crash g c reads images =
    let disk = g.D.Disk in
    let now = c.recover_again.new.self.disk.now in
    subst
    (λ (b : Base g.row.D.Denot disk). (space : Key → Rec) → Redoes (content b) space → AtEachMoment disk b.disk.now now (λ left. disk.may_leave b.disk.now left
    ⊎ Redoes left space))
    c.discard.ensures.base (c.recover_again.ensures.crash reads images)

pub returns-clause-careful : goal.returns-clause-careful
returns-clause-careful g c =
    let disk = g.D.Disk in
    let now = c.recover_again.new.self.disk.now in
    subst (λ (b : Base g.row.D.Denot disk). IsCareful disk b.disk.now now) c.discard.ensures.base c.recover_again.ensures.careful

pub returns-clause-clean : goal.returns-clause-clean
returns-clause-clean g c reads =
    let disk = g.D.Disk in
    let now = c.recover_again.new.self.disk.now in
    subst (λ (b : Base g.row.D.Denot disk). content b log_file 0 ≢ open_byte → OnlyReads disk b.disk.now now) c.discard.ensures.base
    (c.recover_again.ensures.clean reads)
