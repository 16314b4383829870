-- Which command asks for a job.
use Rattle.plain_graph.specs.declared.command.Command.{Command}
use Rattle.plain_graph.specs.declared.command.Command.TheVariants as commands
use Rattle.graph_session.specs.declared.change.Change.{Change}
use Rattle.graph_session.specs.declared.change.Change.TheVariants as changes
use Rattle.graph_session.specs.declared.job.Act.{Act}
use Rattle.graph_session.specs.declared.job.Act.TheVariants as acts
use Rattle.graph_session.specs.declared.job.Job.{Job}
use Rattle.graph_session.specs.declared.job.Job.TheVariants as jobs
use Rattle.graph_session.specs.declared.job.SnapshotAct.{SnapshotAct}
use Rattle.graph_session.specs.declared.job.SnapshotAct.TheVariants as snapshots
use Rattle.graph_session.specs.declared.question.Question.{Question}
use Rattle.graph_session.specs.declared.question.Question.TheVariants as questions

-- the command that asks for the change
abbrev pub change_command : Change → Command
change_command (changes.Node label pairs) = commands.Node label.now pairs.now
change_command (changes.Edge from label to pairs) = commands.Edge from label.now to pairs.now
change_command (changes.Set target key value) = commands.Set target key.now value.now
change_command (changes.Unset target key) = commands.Unset target key.now
change_command (changes.Delete target) = commands.Delete target
change_command (changes.Index label key) = commands.Index label.now key.now
change_command (changes.Mutate reading mutation) = commands.Mutate reading.now mutation.now

-- for what is read
abbrev pub question_command : Question → Command
question_command questions.Check = commands.Check
question_command questions.Stats = commands.Stats
question_command (questions.Find label key value) = commands.Find label.now key.now value.now
question_command (questions.Expand id direction label) = commands.Expand id direction label.now
question_command (questions.Degree id direction label) = commands.Degree id direction label.now
question_command (questions.Path route) =
    commands.Path route.from route.to route.direction route.label.now
question_command (questions.Levels route) =
    commands.Levels route.from route.to route.direction route.label.now
question_command (questions.View target) = commands.View target
question_command questions.ViewNames = commands.ViewNames
question_command questions.ViewIndexes = commands.ViewIndexes
question_command (questions.Query query) = commands.Query query.now

-- for what a session that reads does with its snapshot
abbrev pub snapshot_command : SnapshotAct → Command
snapshot_command snapshots.Take = commands.Snapshot
snapshot_command snapshots.Release = commands.Release

-- for what the session that writes does
abbrev pub act_command : Act → Command
act_command acts.Begin = commands.Begin
act_command acts.Commit = commands.Commit
act_command acts.Rollback = commands.Rollback
act_command acts.Checkpoint = commands.Checkpoint
act_command acts.Reopen = commands.Reopen
act_command (acts.Change change) = change_command change

-- the command that asks for the job
abbrev pub command_of : Job → Command
command_of jobs.Blank = commands.Blank
command_of jobs.Quit = commands.Quit
command_of (jobs.Snapshot act) = snapshot_command act
command_of (jobs.Act act) = act_command act
command_of (jobs.Question question) = question_command question
