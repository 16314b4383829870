use Rattle.follower.specs.Viewing.{view}
use Rattle.graph_console.proofs.Deliveries.{takes_gap, takes_next, takes_old}
use Rattle.graph_console.proofs.follow.delivering.deliver.Goals as goal

pub returns-in-Applied-clause-delivers : goal.returns-in-Applied-clause-delivers
returns-in-Applied-clause-delivers g c = λ reads shape sent place is got has.
    let accepts = c.in-Applied.ensures.accepts in
    takes_next g.D.Disk shape sent is place c.args.bytes.now got c.args.so_far (view c.args.follower.now) (view c.accept.new.self) reads has accepts.shape
    accepts.answers.0 accepts.answers.2

pub returns-in-Old-clause-delivers : goal.returns-in-Old-clause-delivers
returns-in-Old-clause-delivers g c = λ reads shape sent place is got has.
    let accepts = c.in-Old.ensures.accepts in
    takes_old g.D.Disk shape sent is place c.args.bytes.now got c.args.so_far (view c.args.follower.now) (view c.accept.new.self) reads has accepts.shape
    accepts.answers.1 accepts.answers.3

pub returns-in-Gap-clause-delivers : goal.returns-in-Gap-clause-delivers
returns-in-Gap-clause-delivers g c = λ reads shape sent place is got has.
    let accepts = c.in-Gap.ensures.accepts in
    takes_gap g.D.Disk shape sent is place c.args.bytes.now got c.args.so_far (view c.args.follower.now) (view c.accept.new.self) reads has accepts.shape
    accepts.answers.1 accepts.answers.3
