use Rattle.std.proofs.Common.{◌∙◌, arith, inl, refl, sym}
use Rattle.plain_graph.specs.declared.refusal.Refusal.TheVariants as refusals
use Rattle.graph_session.proofs.Jobs.{act-apart, act-loud, act-reopens, act-served, act-unasked, act-unread}
use Rattle.snap_store.specs.Snaps.{IsReader}
use Rattle.graph_session.specs.Answering.{reply_of}
use Rattle.graph_session.specs.Session.{shared_view, view}
use Rattle.graph_session.proofs.Dispatch.{failed-with, settled-with}
use Rattle.graph_session.proofs.ReaderAnswers.{answers-refuses}
use Rattle.graph_session.proofs.Taps.{takes-nothing, taps-nothing, taps-refused, taps-settled}
use Rattle.graph_session.proofs.session.Session.serve_act.Goals as goal

pub returns-then-session-ne-WRITER-clause-answers :
    goal.returns-then-session-ne-WRITER-clause-answers
returns-then-session-ne-WRITER-clause-answers g c = λ line parsed.
    let was = c.args.tap.now in
    let seven : IsReader c.args.session = record { first = omega arith; last = c.requires.session } in
    taps-nothing was was (takes-nothing was c.requires.room) (λ reply ends. c.if-session-ne-WRITER.true (sym parsed.session_is ∙ ends.0))
    (answers-refuses g.D.Disk g.met.D.Disk.only_now g.K.Sink seven parsed (act-loud c.args.act) (shared_view c.args.self.now) refusals.ReadOnly
    (inl (act-unread c.args.act, refl)) c.give_reply.ensures)

pub returns-then-refuses-clause-answers : goal.returns-then-refuses-clause-answers
returns-then-refuses-clause-answers g c = λ line parsed.
    let was = c.args.tap.now in
    let refused = c.refuses.ensures.yes c.if-refuses.true in
    taps-refused was was (takes-nothing was c.requires.room) (λ confirms. confirms)
    (failed-with g.D.Disk g.met.D.Disk.only_now g.K.Sink parsed c.if-session-ne-WRITER.false (act-loud c.args.act) refused.0 (act-apart c.args.act)
    (λ again. refused.1 (act-reopens c.args.act again)) c.give_reply-then-refuses.ensures)

pub returns-clause-answers : goal.returns-clause-answers
returns-clause-answers g c = λ line parsed.
    let done = c.settle-answer.ensures in
    taps-settled parsed.only (parsed.session_is ∙ c.if-session-ne-WRITER.false) c.args.tap.now c.settle-answer.new.tap done.taps
    (settled-with parsed (reply_of c.settle-answer.result) c.if-session-ne-WRITER.false (act-loud c.args.act) (act-apart c.args.act)
    (act-served (view c.args.self.now).console c.args.act (c.refuses.ensures.no c.if-refuses.false)) done.settles done.keeps
    (λ told live asks. absurd (act-unasked c.args.act asks)) c.give_reply-2.ensures)
