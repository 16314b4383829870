-- What is known of a command by its job.
use Rattle.std.proofs.Common.{◌≡◌, ◌≢◌, ap, inl, inr, refl, subst, sym}
use Rattle.plain_graph.specs.Changes.{IsChange}
use Rattle.plain_graph.specs.Kinds.{AreOfReaders, AreQuestions, AreSilent, Blanks, Ending, Kind, Question}
use Rattle.plain_graph.specs.Lines.{IsQuestion, kind_of}
use Rattle.plain_graph.specs.declared.command.Command.{Command}
use Rattle.plain_graph.specs.declared.command.Command.TheVariants as commands
use Rattle.graph_session.specs.Console.{ConsoleView}
use Rattle.graph_session.specs.Jobs.{act_command, change_command, question_command, snapshot_command}
use Rattle.graph_session.specs.MayStep.{IsServed}
use Rattle.graph_session.specs.Settling.{IsLoud, ServesAct}
use Rattle.graph_session.specs.SharedExchange.{IsOfSnapshots}
use Rattle.graph_session.specs.declared.change.Change.{Change}
use Rattle.graph_session.specs.declared.change.Change.TheVariants as changes
use Rattle.graph_session.specs.declared.job.Act.{Act}
use Rattle.graph_session.specs.declared.job.Act.TheVariants as acts
use Rattle.graph_session.specs.declared.job.SnapshotAct.{SnapshotAct}
use Rattle.graph_session.specs.declared.job.SnapshotAct.TheVariants as snapshots
use Rattle.graph_session.specs.declared.question.Question.{Question as AQuestion}
use Rattle.graph_session.specs.declared.question.Question.TheVariants as questions

-- ---- of which kind it is

pub is_change : (change : Change) → IsChange (change_command change)
is_change (changes.Node label pairs) = tt
is_change (changes.Edge from label to pairs) = tt
is_change (changes.Set target key value) = tt
is_change (changes.Unset target key) = tt
is_change (changes.Delete target) = tt
is_change (changes.Index label key) = tt
is_change (changes.Mutate reading mutation) = tt

pub is_question : (question : AQuestion) → IsQuestion (question_command question)
is_question questions.Check = tt
is_question questions.Stats = tt
is_question (questions.Find label key value) = tt
is_question (questions.Expand id direction label) = tt
is_question (questions.Degree id direction label) = tt
is_question (questions.Path route) = tt
is_question (questions.Levels route) = tt
is_question (questions.View target) = tt
is_question questions.ViewNames = tt
is_question questions.ViewIndexes = tt
is_question (questions.Query query) = tt

-- ---- about a snapshot

pub snapshot-about : (act : SnapshotAct) → IsOfSnapshots (snapshot_command act)
snapshot-about snapshots.Take = inl refl
snapshot-about snapshots.Release = inr refl

pub snapshot-loud : (act : SnapshotAct) → IsLoud (snapshot_command act)
snapshot-loud snapshots.Take silent = silent
snapshot-loud snapshots.Release silent = silent

about-read : (command : Command) → IsOfSnapshots command → AreOfReaders (kind_of command)
about-read command (inl is) = subst (λ (c : Command). AreOfReaders (kind_of c)) (sym is) tt
about-read command (inr is) = subst (λ (c : Command). AreOfReaders (kind_of c)) (sym is) tt

pub snapshot-read : (act : SnapshotAct) → AreOfReaders (kind_of (snapshot_command act))
snapshot-read act = about-read (snapshot_command act) (snapshot-about act)

pub snapshot-reopens : (act : SnapshotAct) → snapshot_command act ≢ commands.Reopen
snapshot-reopens act again = about-read commands.Reopen (subst IsOfSnapshots again (snapshot-about act))

-- ---- of the session that writes

change-unread : (change : Change) → ¬ AreOfReaders (kind_of (change_command change))
change-unread (changes.Node label pairs) reads = reads
change-unread (changes.Edge from label to pairs) reads = reads
change-unread (changes.Set target key value) reads = reads
change-unread (changes.Unset target key) reads = reads
change-unread (changes.Delete target) reads = reads
change-unread (changes.Index label key) reads = reads
change-unread (changes.Mutate reading mutation) reads = reads

-- an act is none of a session that reads
pub act-unread : (act : Act) → ¬ AreOfReaders (kind_of (act_command act))
act-unread acts.Begin reads = reads
act-unread acts.Commit reads = reads
act-unread acts.Rollback reads = reads
act-unread acts.Checkpoint reads = reads
act-unread acts.Reopen reads = reads
act-unread (acts.Change change) reads = change-unread change reads

silent-read : (kind : Kind) → AreSilent kind → AreOfReaders kind
silent-read Blanks silent = tt
silent-read Ending silent = tt
silent-read _ silent = absurd silent

-- it gets a reply
pub act-loud : (act : Act) → ¬ AreSilent (kind_of (act_command act))
act-loud act silent = act-unread act (silent-read (kind_of (act_command act)) silent)

pub act-apart : (act : Act) → ¬ IsOfSnapshots (act_command act)
act-apart act about = act-unread act (about-read (act_command act) about)

-- sessions that read may ask too
pub asks-read : (kind : Kind) → AreQuestions kind → AreOfReaders kind
asks-read Question asks = tt
asks-read _ asks = absurd asks

-- of the commands of acts that of `reopen` is only that of this one
pub act-reopens : (act : Act) → act_command act ≡ commands.Reopen → act ≡ acts.Reopen
act-reopens acts.Begin again = cc
act-reopens acts.Commit again = cc
act-reopens acts.Rollback again = cc
act-reopens acts.Checkpoint again = cc
act-reopens acts.Reopen again = refl
act-reopens (acts.Change change) again = absurd (subst IsChange again (is_change change))

-- so a session that does an act serves its command
pub act-served : (console : ConsoleView) (act : Act) → ServesAct console act → IsServed console (act_command act)
act-served console act (inl live) = inl live
act-served console act (inr is) = inr (ap act_command is)

pub act-unasked : (act : Act) → ¬ IsQuestion (act_command act)
act-unasked act asks = act-unread act (asks-read (kind_of (act_command act)) asks)

-- ---- of whichever session

pub asks-loud : (kind : Kind) → AreQuestions kind → ¬ AreSilent kind
asks-loud Question asks silent = silent
asks-loud _ asks silent = absurd asks

pub question-loud : (question : AQuestion) → IsLoud (question_command question)
question-loud question = asks-loud (kind_of (question_command question)) (is_question question)

pub question-apart : (question : AQuestion) → ¬ IsOfSnapshots (question_command question)
question-apart question (inl is) = subst IsQuestion is (is_question question)
question-apart question (inr is) = subst IsQuestion is (is_question question)

pub question-reopens : (question : AQuestion) → question_command question ≢ commands.Reopen
question-reopens question again = subst IsQuestion again (is_question question)
