use Rattle.std.proofs.Common.{◌∙◌, ap, Err}
use Rattle.follower.proofs.Opening.{number-read}
use Rattle.follower.proofs.Reopening.{own-again, reopens_is, reopens_not}
use Rattle.follower.proofs.follower.Follower.reopen.Goals as goal

pub invariant_of-self-in-Ok : goal.invariant_of-self-in-Ok
invariant_of-self-in-Ok g c =
    let old = c.args.self.now.store in
    let mid = c.recover_again.new.self in
    let now = c.get.new.self in
    let reads = c.get.ensures.onward in
    record {
      idle = reads.in_transaction ∙ c.recover_again.ensures.closed;
      standing = λ live. reads.live ∙ c.in_ok-recover_again.ensures.done.live;
      numbered = λ told live. number-read mid now c.in-Ok.rec c.wide-self.result reads
          (own-again old mid c.recover_again.ensures.own (old.base.bounded.closed c.args.self.now.idle)) c.recover_again.ensures.draft
          (c.in-Ok.ensures.got told) c.wide-self.ensures;
    }

pub returns-in-Ok-clause-reopens : goal.returns-in-Ok-clause-reopens
returns-in-Ok-clause-reopens g c =
    let old = c.args.self.now.store in
    let mid = c.recover_again.new.self in
    let now = c.get.new.self in
    let reads = c.get.ensures.onward in
    reopens_is g.D.Disk g.met.D.Disk.counts_now old mid now c.args.self.now.have c.args.self.now.live c.recover_again.ensures.same reads
    c.recover_again.ensures.crash c.recover_again.ensures.read c.recover_again.ensures.clean c.recover_again.ensures.careful c.recover_again.ensures.later
    c.get.ensures.cause.later
    c.wide-self.result c.in_ok-recover_again.ensures.done
    (λ told. number-read mid now c.in-Ok.rec c.wide-self.result reads (own-again old mid c.recover_again.ensures.own
    (old.base.bounded.closed c.args.self.now.idle)) c.recover_again.ensures.draft (c.in-Ok.ensures.got told) c.wide-self.ensures)

pub returns-in-Err-clause-reopens : goal.returns-in-Err-clause-reopens
returns-in-Err-clause-reopens g c =
    let old = c.args.self.now.store in
    let mid = c.recover_again.new.self in
    let now = c.get.new.self in
    reopens_not g.D.Disk g.met.D.Disk.counts_now old mid now c.args.self.now.have c.args.self.now.live c.recover_again.ensures.same c.get.ensures.onward
    c.recover_again.ensures.crash c.recover_again.ensures.read c.recover_again.ensures.clean c.recover_again.ensures.careful c.recover_again.ensures.later
    c.get.ensures.cause.later
    c.args.self.now.have (c.in-Err.ensures.cause.disk (ap (λ fault. Err fault) c.in-Err.ensures.refused))
