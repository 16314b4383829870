use Rattle.std.proofs.Common.{◌≡◌, ◌∙◌, subst, sym}
use Rattle.graph_session.specs.Jobs.{question_command, snapshot_command}
use Rattle.plain_graph.specs.declared.command.Command.{Command}
use Rattle.plain_graph.specs.declared.command.Command.TheVariants as commands
use Rattle.graph_session.proofs.Jobs.{is_question, question-reopens, snapshot-about, snapshot-reopens}
use Rattle.graph_session.specs.Refusals.{SpellsOnly}
use Rattle.graph_session.specs.Settling.{IsParsed}
use Rattle.graph_session.proofs.Dispatch.{answers-blank, answers-quit}
use Rattle.graph_session.proofs.Taps.{blank-ends, question-ends, quit-ends, sight-ends, takes-nothing, taps-nothing, unended}
use Rattle.graph_session.proofs.session.Session.answer.Goals as goal

pub returns-in-Blank-clause-answers : goal.returns-in-Blank-clause-answers
returns-in-Blank-clause-answers g c = λ line parsed.
    let only = subst (λ (command : Command). SpellsOnly line command) (sym c.in-Blank.ensures) parsed.only in
    taps-nothing c.args.tap.now c.args.tap.now (takes-nothing c.args.tap.now c.requires.room)
    (unended only c.args.self.now.store.base.in_transaction (blank-ends c.args.self.now.store.base.in_transaction))
    (answers-blank g.D.Disk g.met.D.Disk.only_now g.K.Sink only)

pub returns-in-Quit-clause-answers : goal.returns-in-Quit-clause-answers
returns-in-Quit-clause-answers g c = λ line parsed.
    let only = subst (λ (command : Command). SpellsOnly line command) (sym c.in-Quit.ensures) parsed.only in
    taps-nothing c.args.tap.now c.args.tap.now (takes-nothing c.args.tap.now c.requires.room)
    (unended only c.args.self.now.store.base.in_transaction (quit-ends c.args.self.now.store.base.in_transaction))
    (answers-quit g.D.Disk g.met.D.Disk.only_now g.K.Sink only)

pub returns-in-Snapshot-clause-answers : goal.returns-in-Snapshot-clause-answers
returns-in-Snapshot-clause-answers g c = λ line parsed.
    let mine = subst (λ (command : Command). IsParsed line c.args.session command c.args.prefix.now) (sym c.in-Snapshot.ensures) parsed in
    let is_open = c.args.self.now.store.base.in_transaction in
    taps-nothing c.args.tap.now c.args.tap.now (takes-nothing c.args.tap.now c.requires.room)
    (unended mine.only is_open (sight-ends (snapshot_command c.in-Snapshot.act) (snapshot-about c.in-Snapshot.act) is_open))
    (c.serve_snapshot.ensures.answers line mine)

pub returns-in-Act-clause-answers : goal.returns-in-Act-clause-answers
returns-in-Act-clause-answers g c = λ line parsed.
    c.serve_act.ensures.answers line (subst (λ (command : Command). IsParsed line c.args.session command c.args.prefix.now) (sym c.in-Act.ensures) parsed)

pub returns-in-Question-clause-answers : goal.returns-in-Question-clause-answers
returns-in-Question-clause-answers g c = λ line parsed.
    let mine = subst (λ (command : Command). IsParsed line c.args.session command c.args.prefix.now) (sym c.in-Question.ensures) parsed in
    let is_open = c.args.self.now.store.base.in_transaction in
    taps-nothing c.args.tap.now c.args.tap.now (takes-nothing c.args.tap.now c.requires.room)
    (unended mine.only is_open (question-ends (question_command c.in-Question.question) (is_question c.in-Question.question) is_open))
    (c.serve_question.ensures.answers line mine)

pub returns-in-Blank-clause-careful : goal.returns-in-Blank-clause-careful
returns-in-Blank-clause-careful g c = λ again. let clash : commands.Blank ≡ commands.Reopen = c.in-Blank.ensures ∙ again in cc

pub returns-in-Quit-clause-careful : goal.returns-in-Quit-clause-careful
returns-in-Quit-clause-careful g c = λ again. let clash : commands.Quit ≡ commands.Reopen = c.in-Quit.ensures ∙ again in cc

pub returns-in-Snapshot-clause-careful : goal.returns-in-Snapshot-clause-careful
returns-in-Snapshot-clause-careful g c = λ again. absurd (snapshot-reopens c.in-Snapshot.act (c.in-Snapshot.ensures ∙ again))

pub returns-in-Act-clause-careful : goal.returns-in-Act-clause-careful
returns-in-Act-clause-careful g c = λ again. c.serve_act.ensures.careful (c.in-Act.ensures ∙ again)

pub returns-in-Question-clause-careful : goal.returns-in-Question-clause-careful
returns-in-Question-clause-careful g c = λ again. absurd (question-reopens c.in-Question.question (c.in-Question.ensures ∙ again))
