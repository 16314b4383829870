use Rattle.std.proofs.Common.{◌≡◌, ℕ, ap, inl, refl, sym, subst}
use Rattle.graph_session.specs.Jobs.{question_command}
use Rattle.graph_session.proofs.Jobs.{is_question, question-apart, question-loud, question-reopens}
use Rattle.rec_bytes.specs.Pairs.{Held}
use Rattle.store_rules.specs.Views.{Records}
use Rattle.txn_core.specs.declared.store.Store.{Store}
use Rattle.txn_core.proofs.StoreRecords.{drafted-none}
use Rattle.graph_session.specs.Session.{shared_view, view}
use Rattle.graph_session.specs.Verdicts.{Judges, SeesRecords, seen_records}
use Rattle.graph_session.proofs.Anyhow.{may-read}
use Rattle.graph_session.proofs.Asking.{stays-read}
use Rattle.graph_session.proofs.Dispatch.{failed-with, settled-with}
use Rattle.graph_session.proofs.KeptChanges.{keeps-read}
use Rattle.graph_session.proofs.Knowing.{stays-known, told_of}
use Rattle.graph_session.proofs.Lifting.{settles-asked}
use Rattle.graph_session.proofs.Moves.{seen_as}
use Rattle.graph_session.proofs.session.Session.serve_question.Goals as goal

pub returns-in-Failed-clause-answers : goal.returns-in-Failed-clause-answers
returns-in-Failed-clause-answers g c = λ line parsed.
    let question = c.args.question in
    (failed-with g.D.Disk g.met.D.Disk.only_now g.K.Sink parsed c.if-session-ne-WRITER.false (question-loud question) c.in-Failed.is (question-apart question)
    (question-reopens question) c.give_reply.ensures).0

pub returns-in-Live-clause-answers : goal.returns-in-Live-clause-answers
returns-in-Live-clause-answers g c = λ line parsed.
    let question = c.args.question in
    let command = question_command question in
    let asks = is_question question in
    let given = c.reply_question.ensures in
    let s = c.args.self.now in
    let live = c.in-Live.is in
    (settled-with parsed given.reply c.if-session-ne-WRITER.false (question-loud question) (question-apart question) (inl live)
    (record {
      settles = λ known of state alone served at.
          settles-asked at live alone asks
          (stays-known known (stays-read s.store c.reply_question.new.space given.read.onward given.read.same at.no_draft s.health s.weight s.names.names))
          given (λ told. told_of known g.D.Disk told)
          (drafted-none s.store at.no_draft) refl (λ rose. rose) (λ same. ap (λ (store : Store _ _). seen_as store s.health s.weight s.names.names) same);
      may = λ none.
          may-read g.D.Disk (view s) given.reply (seen_as c.reply_question.new.space s.health s.weight s.names.names) command asks (
            given.form,
            given.told,
            stays-read s.store c.reply_question.new.space given.read.onward given.read.same none s.health s.weight s.names.names,
            λ spared. ap (λ (store : Store _ _). seen_as store s.health s.weight s.names.names) (given.idle spared),
          );
      onward = record { disk_later = given.read.later };
    })
    (keeps-read (shared_view s) (record { session = seen_as c.reply_question.new.space s.health s.weight s.names.names; held = s.snaps })
    asks refl given.read.onward.in_transaction (ap (λ (held : Held). held.pairs) given.read.onward.own) refl)
    (λ told _ _ records seen.
    let is : records ≡ seen_records (view s).console = subst (λ (session : ℕ). SeesRecords (shared_view s) session records) c.if-session-ne-WRITER.false seen in
    subst (λ (found : Records). Judges found (view s).console.shape command given.reply) (sym is) (given.judges told))
    given.gives).0
