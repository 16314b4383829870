use Rattle.std.proofs.Common.{rules, ◌≡◌, ◌∙◌, sym, inl}
use Rattle.disk_model.proofs.Contents.{SameOutside-then, SameOutside-same}
use Rattle.disk_model.proofs.Spans.{at_each_moment_call, at_each_moment_then}
use Rattle.rec_bytes.specs.Format.{log_file}
use Rattle.redo_log.specs.Resetting.{IsReset}
use Rattle.redo_log.proofs.Appends.{HasEntries-read}
use Rattle.redo_log.proofs.Resets.{HasEntries-gate, IsReset-none, IsReset-torn}
use Rattle.rec_bytes.proofs.Causes.{never_ok}
use Rattle.redo_log.proofs.resetting.close_first_gate.Goals as goal

pub returns-in_err-read-clause-read : goal.returns-in_err-read-clause-read
returns-in_err-read-clause-read g c reads entries tail has = inl (HasEntries-read entries tail (g.D.Disk.reads c.args.disk.now) (g.D.Disk.reads c.read.new.self)
    has (c.read.ensures.keeps log_file))

pub returns-clause-crash : goal.returns-clause-crash
returns-clause-crash g c reads images entries tail all =
    let disk = g.D.Disk in
    let old = c.args.disk.now in
    let seen = c.read.new.self in
    let leaves = IsReset (disk.may_leave old) entries tail in
    let first = at_each_moment_call disk old seen leaves g.met.D.Disk.only_now images
    (IsReset-none (disk.may_leave old) entries tail all)
    (c.read.ensures.time images)
    (λ image left. IsReset-none (disk.may_leave old) entries tail all image (c.read.ensures.crash images image left)) in
    let is_open : disk.reads old log_file 0 ≡ 1 = sym (c.in_ok-read.ensures.bytes reads 0 (search rules)) ∙ c.if-gate-ne-OPEN.false in
    at_each_moment_then disk old seen c.write.new.self leaves first (c.write.ensures.time images)
    (λ image left.
    let torn = c.write.ensures.crash images image left in
    IsReset-torn (disk.may_leave old) entries tail (disk.reads old) torn.0 image all (all (disk.reads old) (g.met.D.Disk.read_is_image old reads images))
    is_open (c.read.ensures.crash images torn.0 torn.1) torn.2)

pub returns-clause-read : goal.returns-clause-read
returns-clause-read g c reads entries tail has =
    let disk = g.D.Disk in
    let old = disk.reads c.args.disk.now in
    let is_open : old log_file 0 ≡ 1 = sym (c.in_ok-read.ensures.bytes reads 0 (search rules)) ∙ c.if-gate-ne-OPEN.false in
    HasEntries-gate entries tail old (disk.reads c.write.new.self) has is_open
    (SameOutside-then log_file 0 1 old (disk.reads c.read.new.self) (disk.reads c.write.new.self) (SameOutside-same log_file 0 1 old
    (disk.reads c.read.new.self) c.read.ensures.keeps) c.write.ensures.elsewhere)

pub returns-in_err-read-clause-emptied : goal.returns-in_err-read-clause-emptied
returns-in_err-read-clause-emptied g c _ = never_ok c.from_residual.result _ _ c.from_residual.ensures.1
