use Rattle.std.proofs.Common.{ap, arith}
use Rattle.graph_session.specs.Jobs.{snapshot_command}
use Rattle.snap_store.specs.Snaps.{IsReader, state_of}
use Rattle.graph_session.specs.Answering.{reply_of}
use Rattle.graph_session.specs.Session.{shared_view}
use Rattle.graph_session.proofs.Dispatch.{answers-writer}
use Rattle.graph_session.proofs.Jobs.{snapshot-about, snapshot-loud}
use Rattle.graph_session.proofs.ReaderAnswers.{answers-refuses, answers-release, answers-snapshot}
use Rattle.graph_session.proofs.ReaderRefusals.{suits-snapshot}
use Rattle.graph_session.proofs.session.Session.serve_snapshot.Goals as goal

pub take_snapshot-answer-requires-clause-closed : goal.take_snapshot-answer-requires-clause-closed
take_snapshot-answer-requires-clause-closed g c =
    suits-snapshot (state_of c.args.self.now.snaps c.args.session) (snapshot_command c.args.act) c.in_default.ensures.served.1
    (ap snapshot_command c.in-Take.is)

pub returns-then-session-eq-WRITER-clause-answers :
    goal.returns-then-session-eq-WRITER-clause-answers
returns-then-session-eq-WRITER-clause-answers g c = λ line parsed.
    answers-writer g.D.Disk g.met.D.Disk.only_now g.K.Sink parsed c.if-session-eq-WRITER.true (snapshot-loud c.args.act) (snapshot-about c.args.act)
    c.give_reply.ensures

pub returns-in-Some-clause-answers : goal.returns-in-Some-clause-answers
returns-in-Some-clause-answers g c = λ line parsed.
    let seven : IsReader c.args.session = record { first = omega arith; last = c.requires.session } in
    answers-refuses g.D.Disk g.met.D.Disk.only_now g.K.Sink seven parsed (snapshot-loud c.args.act) (shared_view c.args.self.now) c.in-Some.why
    c.in-Some.ensures.refused c.give_reply-in-Some.ensures

pub returns-in-Take-clause-answers : goal.returns-in-Take-clause-answers
returns-in-Take-clause-answers g c = λ line parsed.
    let seven : IsReader c.args.session = record { first = omega arith; last = c.requires.session } in
    answers-snapshot g.D.Disk g.met.D.Disk.only_now g.K.Sink seven parsed (snapshot-loud c.args.act) (shared_view c.args.self.now)
    (shared_view c.take_snapshot-answer.new.self) c.in_default.ensures.served
    (reply_of c.take_snapshot-answer.result) c.give_reply-in-Take.ensures (ap snapshot_command c.in-Take.is) c.take_snapshot-answer.ensures.may

pub returns-in-Release-clause-answers : goal.returns-in-Release-clause-answers
returns-in-Release-clause-answers g c = λ line parsed.
    let seven : IsReader c.args.session = record { first = omega arith; last = c.requires.session } in
    answers-release g.D.Disk g.met.D.Disk.only_now g.K.Sink seven parsed (snapshot-loud c.args.act) (shared_view c.args.self.now)
    (shared_view c.release_snapshot-answer.new.self) c.in_default.ensures.served
    (reply_of c.release_snapshot-answer.result) c.give_reply-in-Release.ensures (ap snapshot_command c.in-Release.is)
    c.release_snapshot-answer.ensures.may c.release_snapshot-answer.ensures.sights
