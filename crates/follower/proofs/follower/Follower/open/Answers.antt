use Rattle.std.proofs.Common.{ap, sym, subst, Err}
use Rattle.follower.proofs.Opening.{number-read, opened_is, unopened_is}
use Rattle.follower.specs.Follower.{IsUnopened, LeavesByOpening}
use Rattle.txn_core.specs.Store.{committed}
use Rattle.txn_core.specs.declared.open_fault.OpenFault.TheVariants as opening
use Rattle.follower.proofs.follower.Follower.open.Goals as goal

pub returns-in-Ok-get-clause-opened : goal.returns-in-Ok-get-clause-opened
returns-in-Ok-get-clause-opened g c =
    let store = c.in-Ok.store in
    let now = c.get.new.self in
    let leaves : LeavesByOpening g.D.Disk c.args.config c.args.disk.now c.in-Ok.store.base.disk.now = record {
      made = λ reads images space shape redoes is. c.in-Ok.ensures.crash reads images space shape redoes is;
      unmade = λ reads images unmade. c.in-Ok.ensures.crash_new reads images unmade;
      clean = λ reads clean. c.in-Ok.ensures.clean reads clean;
      later = c.in-Ok.ensures.later;
    } in
    opened_is g.D.Disk c.args.config c.args.disk.now store now c.wide.result g.met.D.Disk.counts_now leaves c.in-Ok.ensures.opened c.in-Ok.ensures.suits
    c.in-Ok.ensures.stored c.in-Ok.ensures.settled c.in-Ok.ensures.log c.get.ensures.onward c.get.ensures.cause.later
    (λ reads. number-read store now c.in-Ok-get.rec c.wide.result c.get.ensures.onward c.in-Ok.ensures.own c.in-Ok.ensures.draft (c.in-Ok-get.ensures.got reads)
    c.wide.ensures)

pub returns-in-Err-get-clause-unopened : goal.returns-in-Err-get-clause-unopened
returns-in-Err-get-clause-unopened g c =
    let disk = g.D.Disk in
    let get = c.in-Err-get.ensures in
    let leaves : LeavesByOpening g.D.Disk c.args.config c.args.disk.now c.in-Ok.store.base.disk.now = record {
      made = λ reads images space shape redoes is. c.in-Ok.ensures.crash reads images space shape redoes is;
      unmade = λ reads images unmade. c.in-Ok.ensures.crash_new reads images unmade;
      clean = λ reads clean. c.in-Ok.ensures.clean reads clean;
      later = c.in-Ok.ensures.later;
    } in
    subst (λ (d : _). IsUnopened disk c.args.config c.args.disk.now d opening.Disk) (sym c.close.ensures.disk)
    (unopened_is disk c.args.config c.args.disk.now c.in-Ok.store.base.disk.now c.get.new.self.base.disk.now g.met.D.Disk.counts_now leaves get.onward.disk
    get.cause.later (get.cause.disk (ap (λ fault. Err fault) get.refused))
    c.in-Ok.store.base.shape (committed c.in-Ok.store) c.in-Ok.ensures.opened)
