use Rattle.graph_session.proofs.StoreRecords.{draft-read}
use Rattle.graph_session.proofs.session.Session.name_again.Goals as goal

pub returns-in-Ok-clause-draft : goal.returns-in-Ok-clause-draft
returns-in-Ok-clause-draft g c =
    let at_most = c.in-Ok.ensures.at_most in
    draft-read {g = g.D.Disk} c.args.self.now.store c.again.new.space at_most.count at_most.is c.requires.draft

pub returns-in-Err-Disk-clause-draft : goal.returns-in-Err-Disk-clause-draft
returns-in-Err-Disk-clause-draft g c =
    let at_most = c.in-Err-Disk.ensures.at_most in
    draft-read {g = g.D.Disk} c.args.self.now.store c.again.new.space at_most.count at_most.is c.requires.draft

pub returns-in-Err-Damaged-clause-draft : goal.returns-in-Err-Damaged-clause-draft
returns-in-Err-Damaged-clause-draft g c =
    let at_most = c.in-Err-Damaged.ensures.at_most in
    draft-read {g = g.D.Disk} c.args.self.now.store c.again.new.space at_most.count at_most.is c.requires.draft
