use Rattle.std.proofs.Common.{◌∙◌, []}
use Rattle.plain_graph.specs.Levels.{level_of}
use Rattle.plain_graph.specs.Lines.{level_text}
use Rattle.plain_graph.specs.Reply.{end_text}
use Rattle.graph_session.proofs.ListedLines.{lines-none}
use Rattle.graph_session.proofs.WalkReplies.{listing-end, listing-more, listing-stop}
use Rattle.graph_session.proofs.questions.walks.give_node_levels.Goals as goal

pub loop-level-init : goal.loop-level-init
loop-level-init g c = lines-none c.begin.ensures

pub loop-level-preserved : goal.loop-level-preserved
loop-level-preserved g c =
    listing-more level_text [] c.args.levels.now c.loop-level.invariant (level_of 0 0) c.loop-level-test.true c.add.new.self
    (rw (c.in-Go.is, c.as_bytes.ensures, c.level_line.ensures) at c.add.ensures)

pub returns-in_default-clause-gives : goal.returns-in_default-clause-gives
returns-in_default-clause-gives g c =
    listing-stop level_text [] c.args.levels.now c.loop-level.invariant (level_of 0 0) c.loop-level-test.true c.add.new.self end_text
    c.add.result (rw (c.as_bytes.ensures, c.level_line.ensures) at c.add.ensures) c.in_default.not-Go

pub returns-clause-gives : goal.returns-clause-gives
returns-clause-gives g c =
    listing-end level_text [] c.args.levels.now c.loop-level.invariant c.loop-level.auto.level-index-end c.loop-level-test.false end_text
    c.finish.new.self.output.now c.finish.result (rw c.end_of_results.ensures at c.finish.ensures.gives)

pub returns-in_default-clause-same_sink : goal.returns-in_default-clause-same_sink
returns-in_default-clause-same_sink g c = c.add.ensures.same_sink ∙ c.loop-level.invariant.same_sink

pub returns-clause-same_sink : goal.returns-clause-same_sink
returns-clause-same_sink g c = c.finish.ensures.same_sink ∙ c.loop-level.invariant.same_sink
