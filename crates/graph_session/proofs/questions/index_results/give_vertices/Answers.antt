use Rattle.std.proofs.Common.{◌∙◌, []}
use Rattle.plain_graph.specs.Reply.{end_text}
use Rattle.graph_session.specs.IndexResults.{vertex_line}
use Rattle.graph_session.proofs.ListedLines.{lines-none}
use Rattle.graph_session.proofs.WalkReplies.{listing-end, listing-more, listing-stop}
use Rattle.graph_session.proofs.questions.index_results.give_vertices.Goals as goal

pub loop-id-init : goal.loop-id-init
loop-id-init g c = lines-none c.begin.ensures

pub loop-id-preserved : goal.loop-id-preserved
loop-id-preserved g c =
    listing-more vertex_line [] c.args.nodes.now c.loop-id.invariant 0 c.loop-id-test.true c.add_result.new.self
    (rw c.in-Go.is at c.add_result.ensures)

pub returns-in_default-clause-gives : goal.returns-in_default-clause-gives
returns-in_default-clause-gives g c =
    listing-stop vertex_line [] c.args.nodes.now c.loop-id.invariant 0 c.loop-id-test.true c.add_result.new.self end_text
    c.add_result.result c.add_result.ensures c.in_default.not-Go

pub returns-clause-gives : goal.returns-clause-gives
returns-clause-gives g c =
    listing-end vertex_line [] c.args.nodes.now c.loop-id.invariant c.loop-id.auto.id-index-end c.loop-id-test.false end_text c.finish.new.self.output.now
    c.finish.result (rw c.end_of_results.ensures at c.finish.ensures.gives)

pub returns-in_default-clause-same_sink : goal.returns-in_default-clause-same_sink
returns-in_default-clause-same_sink g c = c.add_result.ensures.same_sink ∙ c.loop-id.invariant.same_sink

pub returns-clause-same_sink : goal.returns-clause-same_sink
returns-clause-same_sink g c = c.finish.ensures.same_sink ∙ c.loop-id.invariant.same_sink
