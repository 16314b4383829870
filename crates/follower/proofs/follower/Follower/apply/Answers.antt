use Rattle.std.proofs.Common.{◌∙◌, ◌<◌, ◌^◌, ap, sym, arith}
use Rattle.txn_core.specs.Store.{committed}
use Rattle.follower.specs.Shipment.{number_of}
use Rattle.follower.specs.Taken.{number_in}
use Rattle.follower.proofs.Accepts.{accepts_applied, accepts_disk, accepts_memory}
use Rattle.follower.proofs.Taking.{number_in-taken}
use Rattle.follower.proofs.follower.Follower.apply.Goals as goal

pub invariant_of-self : goal.invariant_of-self
invariant_of-self g c =
    let old = c.args.self.now.store in
    let number = c.number_of-self.ensures in
    let small : number_of c.args.bytes.now < 2 ^ 64 = omega arith in
    record {
      idle = c.apply_shipment.ensures.closed;
      standing = λ live. c.in-Ok.ensures.applies.comes_to.live;
      numbered = λ told live. number ∙ sym (ap number_in (c.in-Ok.ensures.applies.comes_to.records told) ∙ number_in-taken (committed old) c.args.bytes.now
          small);
    }

pub returns-in-Ok-clause-accepts : goal.returns-in-Ok-clause-accepts
returns-in-Ok-clause-accepts g c =
    let old = c.args.self.now in
    accepts_applied g.D.Disk c.args.bytes.now old.store c.apply_shipment.new.store old.have old.live c.requires.live c.apply_shipment.ensures.same
    c.requires.next c.number_of-self.result c.number_of-self.ensures c.in-Ok.ensures.applies

pub returns-in-Err-Memory-clause-accepts : goal.returns-in-Err-Memory-clause-accepts
returns-in-Err-Memory-clause-accepts g c =
    let old = c.args.self.now in
    accepts_memory g.D.Disk c.args.bytes.now old.store c.apply_shipment.new.store old.have old.live c.requires.live c.apply_shipment.ensures.same
    c.requires.next (rw c.in-Err-Memory.field-0-is at c.in-Err-Memory.ensures.applies)

pub returns-in-Err-Disk-clause-accepts : goal.returns-in-Err-Disk-clause-accepts
returns-in-Err-Disk-clause-accepts g c =
    let old = c.args.self.now in
    accepts_disk g.D.Disk c.args.bytes.now old.store c.apply_shipment.new.store old.have old.live c.requires.live c.apply_shipment.ensures.same c.requires.next
    (rw c.in-Err-Disk.field-0-is at c.in-Err-Disk.ensures.applies)
