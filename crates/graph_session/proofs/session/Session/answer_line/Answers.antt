use Rattle.std.proofs.Common.{◌≡◌, ◌≤◌, ◌∙◌, ℕ, Err, IfOk, List, Option, ap, subst, sym, unwrap_or}
use Rattle.plain_graph.specs.Reply.{prefix_text, prefixed_text}
use Rattle.plain_graph.specs.declared.command.Command.{Command}
use Rattle.plain_graph.specs.declared.command.Command.TheVariants as commands
use Rattle.stream_io.specs.Lines.{Whole}
use Rattle.gremlin_parse.specs.Lines.{Spells}
use Rattle.gremlin_parse.specs.Tags.{session_named, session_of}
use Rattle.graph_session.specs.Answer.{Gives}
use Rattle.graph_session.specs.Answering.{reply_of}
use Rattle.graph_session.specs.Session.{shared_view}
use Rattle.graph_session.specs.Settling.{told_of}
use Rattle.graph_session.proofs.Anyhow.{as-no_draft}
use Rattle.graph_session.proofs.Dispatch.{fault-with, spells-none}
use Rattle.graph_session.proofs.SessionNumbers.{session-low}
use Rattle.graph_session.proofs.Taps.{fault-unconfirmed, takes-nothing, taps-refused}
use Rattle.graph_session.proofs.session.Session.answer_line.Goals as goal

-- the prefix is that of the session that the line names
prefixed : (line : List ℕ) {bytes prefix : List ℕ} {named : Option ℕ} → named ≡ session_named line → prefix ≡ prefix_text named → bytes ≡ prefix
    → bytes ≡ prefix_text (session_named line)
prefixed line by_name text same = same ∙ text ∙ ap prefix_text by_name

-- the session is the one that the line names, or the one that writes
numbered : (line : List ℕ) {session : ℕ} {named : Option ℕ} → named ≡ session_named line → session ≡ unwrap_or named 0 → session ≡ session_of line
numbered line by_name same = same ∙ ap (λ (s : Option ℕ). unwrap_or s 0) by_name

pub answer-requires-clause-form : goal.answer-requires-clause-form
answer-requires-clause-form g c = rw c.in-Ok.is at c.parse_line-session.ensures.form

pub answer-requires-clause-session : goal.answer-requires-clause-session
answer-requires-clause-session g c = subst (λ (n : ℕ). n ≤ 7) (sym (numbered c.args.line.now c.parse_line-session.ensures.session c.unwrap_or.ensures))
    (session-low c.args.line.now)

pub returns-in-Ok-clause-answers : goal.returns-in-Ok-clause-answers
returns-in-Ok-clause-answers g c = c.answer.ensures.answers c.args.line.now (record {
  only = record {
    spelled = rw c.in-Ok.is at c.parse_line-session.ensures.spelled;
    only = rw c.in-Ok.is at c.parse_line-session.ensures.only;
    no_fault = rw c.in-Ok.is at c.parse_line-session.ensures.no_fault;
  };
  session_is = sym (numbered c.args.line.now c.parse_line-session.ensures.session c.unwrap_or.ensures);
  prefix_is = sym (prefixed c.args.line.now c.parse_line-session.ensures.session c.prefix_of-prefix.ensures c.as_bytes.ensures);
})

pub returns-in-Ok-clause-no_draft : goal.returns-in-Ok-clause-no_draft
returns-in-Ok-clause-no_draft g c = λ none.
    let answers = (returns-in-Ok-clause-answers g c).0 in
    as-no_draft g.D.Disk (shared_view c.args.self.now) answers.reply (shared_view c.answer.new.self) none (session_of c.args.line.now) (Whole c.args.line.now)
    (answers.may none)

pub returns-in-Ok-clause-careful : goal.returns-in-Ok-clause-careful
returns-in-Ok-clause-careful g c = λ spells.
    let only : IfOk c.parse_line-session.result.command (λ command. (other : Command) → Spells c.args.line.now other
    → other ≡ command) = c.parse_line-session.ensures.only in
    c.answer.ensures.careful (sym ((rw c.in-Ok.is at only) commands.Reopen spells))

pub returns-in-Err-clause-answers : goal.returns-in-Err-clause-answers
returns-in-Err-clause-answers g c =
    taps-refused c.args.tap.now c.args.tap.now (takes-nothing c.args.tap.now c.requires.room) (fault-unconfirmed c.in-Err.fault)
    (fault-with g.D.Disk g.met.D.Disk.only_now g.K.Sink c.args.line.now c.in-Err.fault (rw c.in-Err.is at c.parse_line-session.ensures.none)
    (λ e. c.parse_line-session.ensures.memory (c.in-Err.is ∙ ap Err e)) (rw c.in-Err.is at c.parse_line-session.ensures.fault)
    (subst (λ (prefix : List ℕ). Gives g.K.Sink (prefixed_text prefix (reply_of (told_of c.in-Err.fault))) c.args.output.now c.give_reply.new.output
    c.give_reply.result)
    (prefixed c.args.line.now c.parse_line-session.ensures.session c.prefix_of-prefix.ensures c.as_bytes-in-Err.ensures)
    (rw c.from.ensures at c.give_reply.ensures)))

pub returns-in-Err-clause-careful : goal.returns-in-Err-clause-careful
returns-in-Err-clause-careful g c = λ spells. absurd (spells-none c.args.line.now c.in-Err.fault (rw c.in-Err.is at c.parse_line-session.ensures.none)
    (λ e. c.parse_line-session.ensures.memory (c.in-Err.is ∙ ap Err e)) commands.Reopen tt spells)
