use Rattle.std.proofs.Common.{◌∙◌, ap, inr, refl}
use Rattle.graph_session.specs.Jobs.{question_command}
use Rattle.graph_session.proofs.Jobs.{is_question, question-loud}
use Rattle.rec_bytes.specs.Pairs.{Held}
use Rattle.txn_core.specs.declared.store.Store.{Store}
use Rattle.graph_session.specs.Session.{shared_view}
use Rattle.graph_session.specs.SnapshotEffects.{SharedView}
use Rattle.graph_session.proofs.Asking.{stays-over}
use Rattle.graph_session.proofs.Moves.{seen_as}
use Rattle.graph_session.proofs.ReaderAnswers.{answers-refuses, answers-sight}
use Rattle.graph_session.proofs.ReaderRefusals.{opened-in}
use Rattle.graph_session.proofs.session.Session.read_snapshot.Goals as goal

pub read_store-requires-clause-open : goal.read_store-requires-clause-open
read_store-requires-clause-open g c = opened-in c.args.self.now.snaps c.args.reader c.in_default.ensures.open

pub returns-in-Some-clause-answers : goal.returns-in-Some-clause-answers
returns-in-Some-clause-answers g c = λ line parsed.
    let question = c.args.question in
    answers-refuses g.D.Disk g.met.D.Disk.only_now g.K.Sink c.requires.reader parsed (question-loud question) (shared_view c.args.self.now)
    c.in-Some.why (c.in-Some.ensures.refused (question_command question) (is_question question)) c.give_reply.ensures

pub returns-clause-answers : goal.returns-clause-answers
returns-clause-answers g c = λ line parsed.
    let s = c.args.self.now in
    let question = c.args.question in
    let asks = is_question question in
    let opened = c.in_default.ensures.open in
    let read = c.read_store.ensures.onward in
    answers-sight g.D.Disk g.met.D.Disk.only_now g.K.Sink c.requires.reader parsed (question-loud question) (shared_view s)
    (record { session = seen_as c.read_store.new.store s.health s.weight s.names.names; held = s.snaps })
    (c.in_default.ensures.live, inr (inr (asks, opened))) asks
    (opened-in s.snaps c.args.reader opened) refl read.base.disk
    (λ none. stays-over s.store c.read_store.new.store read.base (ap (λ (held : Held). held.pairs) read.draft ∙ none) s.health s.weight s.names.names)
    (λ spared. ap (λ (store : Store _ _). let view : SharedView _ = record { session = seen_as store s.health s.weight s.names.names; held = s.snaps } in view)
    (c.read_store.ensures.idle spared))
    c.read_store.ensures.gives
