use Rattle.std.proofs.Common.{inl, inr}
use Rattle.std.proofs.lemmas.Result.{on_err_weaker, on_ok_weaker}
use Rattle.txn_core.specs.Store.{committed}
use Rattle.txn_core.proofs.KeptCommits.{alone_on, alone_read, cause_on, crash_on, crash_read, doubt_on, dropped_on}
use Rattle.txn_core.proofs.KeptCommits.{held_by, on_disk, sights_before, sights_commit, written_on}
use Rattle.txn_core.proofs.store.Store.commit_kept.Goals as goal

pub returns-in-Ok-clause-sights : goal.returns-in-Ok-clause-sights
returns-in-Ok-clause-sights g c =
    let kept = c.keep_old.ensures in
    sights_commit c.args.self.now c.keep_old.new.space c.commit.new.self kept.space.onward kept.space.committed c.args.snaps.now c.keep_old.new.snaps
    kept.before c.in-Ok.ensures.after c.commit.result c.commit.ensures.done c.commit.ensures.failed

pub returns-in-Ok-clause-held : goal.returns-in-Ok-clause-held
returns-in-Ok-clause-held g c = λ weight le.
    let kept = c.keep_old.ensures in
    held_by weight c.args.snaps.now c.keep_old.new.snaps (λ sums covered. kept.overfull sums weight le covered)
    (λ sums covered. kept.covered sums weight le covered)

pub returns-in-Err-clause-held : goal.returns-in-Err-clause-held
returns-in-Err-clause-held g c = λ weight le.
    let kept = c.keep_old.ensures in
    held_by weight c.args.snaps.now c.keep_old.new.snaps (λ sums covered. kept.overfull sums weight le covered)
    (λ sums covered. kept.covered sums weight le covered)

pub returns-in-Ok-clause-crash : goal.returns-in-Ok-clause-crash
returns-in-Ok-clause-crash g c =
    let kept = c.keep_old.ensures in
    crash_on c.args.self.now c.keep_old.new.space c.commit.new.self kept.space.onward kept.space.committed (c.health-stored.ensures.stored c.requires.live)
    c.commit.ensures.crash

pub returns-in-Ok-clause-done : goal.returns-in-Ok-clause-done
returns-in-Ok-clause-done g c =
    let kept = c.keep_old.ensures in
    on_ok_weaker c.commit.result (written_on c.args.self.now c.keep_old.new.space c.commit.new.self kept.space.onward kept.space.committed)
    c.commit.ensures.done

pub returns-in-Ok-clause-failed : goal.returns-in-Ok-clause-failed
returns-in-Ok-clause-failed g c =
    let kept = c.keep_old.ensures in
    on_err_weaker c.commit.result (λ doubt. inr (doubt_on c.args.self.now c.keep_old.new.space c.commit.new.self kept.space.onward kept.space.committed doubt))
    c.commit.ensures.failed

pub returns-in-Ok-clause-cause : goal.returns-in-Ok-clause-cause
returns-in-Ok-clause-cause g c = cause_on _ _ _ c.commit.result c.keep_old.ensures.cause.later c.commit.ensures.cause

pub returns-in-Err-clause-sights : goal.returns-in-Err-clause-sights
returns-in-Err-clause-sights g c =
    let kept = c.keep_old.ensures in
    let dropped = c.drop_transaction.ensures in
    sights_before c.args.self.now c.keep_old.new.space c.drop_transaction.new.self kept.space.onward kept.space.committed c.args.snaps.now c.keep_old.new.snaps
    kept.before c.drop_transaction.new.self.base.disk.now
    (on_disk c.drop_transaction.new.self.base.disk.now (committed c.keep_old.new.space) (committed c.args.self.now) kept.space.committed dropped.stored)

pub returns-in-Err-clause-crash : goal.returns-in-Err-clause-crash
returns-in-Err-clause-crash g c =
    let kept = c.keep_old.ensures in
    crash_read c.args.self.now c.keep_old.new.space c.drop_transaction.new.self kept.space.onward kept.space.committed c.drop_transaction.new.self.base.disk.now
    c.drop_transaction.ensures.same_disk (c.health-stored.ensures.stored c.requires.live)

pub returns-in-Err-clause-failed : goal.returns-in-Err-clause-failed
returns-in-Err-clause-failed g c =
    let kept = c.keep_old.ensures in
    inl (dropped_on c.args.self.now c.keep_old.new.space c.drop_transaction.new.self kept.space.onward kept.space.committed c.drop_transaction.ensures.same_disk
    c.drop_transaction.ensures.stored c.drop_transaction.ensures.live c.drop_transaction.ensures.committed)

pub returns-in-Ok-clause-checkpoints : goal.returns-in-Ok-clause-checkpoints
returns-in-Ok-clause-checkpoints g c =
    let kept = c.keep_old.ensures in
    alone_on c.args.self.now c.keep_old.new.space c.commit.new.self kept.space.onward kept.space.committed c.commit.ensures.checkpoints

pub returns-in-Err-clause-checkpoints : goal.returns-in-Err-clause-checkpoints
returns-in-Err-clause-checkpoints g c reads fits =
    let kept = c.keep_old.ensures in
    alone_read c.args.self.now c.keep_old.new.space c.drop_transaction.new.self kept.space.onward kept.space.committed c.drop_transaction.ensures.same_disk
