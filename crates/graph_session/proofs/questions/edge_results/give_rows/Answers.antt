use Rattle.std.proofs.Common.{◌∙◌, subst, sym}
use Rattle.plain_graph.specs.Forms.{IsShown}
use Rattle.graph_session.proofs.EdgeLines.{giving-end, giving-more, giving-none, giving-stop}
use Rattle.graph_session.proofs.questions.edge_results.give_rows.Goals as goal

pub loop-row-init : goal.loop-row-init
loop-row-init g c = giving-none c.begin.ensures c.args.label c.args.rows.now 0 0 0 0

pub returns-clause-gives : goal.returns-clause-gives
returns-clause-gives g c =
    giving-end c.loop-row.invariant c.loop-row.auto.row-index-end c.loop-row-test.false c.finish.new.self.output.now c.finish.result
    (rw c.end_of_results.ensures at c.finish.ensures.gives)

pub loop-row-preserved : goal.loop-row-preserved
loop-row-preserved g c =
    giving-more c.loop-row.invariant c.loop-row-test.true c.set_row.new.edge (c.set_row.ensures c.args.label c.loop-row.invariant.named) c.add_result.new.self
    (rw c.in-Go.is at c.add_result.ensures)

pub returns-in_default-clause-gives : goal.returns-in_default-clause-gives
returns-in_default-clause-gives g c =
    giving-stop c.loop-row.invariant c.loop-row-test.true c.set_row.new.edge (c.set_row.ensures c.args.label c.loop-row.invariant.named) c.add_result.new.self
    c.add_result.result c.add_result.ensures c.in_default.not-Go

pub add_result-requires : goal.add_result-requires
add_result-requires g c = subst IsShown (sym (c.set_row.ensures c.args.label c.loop-row.invariant.named)) c.requires

pub returns-in_default-clause-same_sink : goal.returns-in_default-clause-same_sink
returns-in_default-clause-same_sink g c = c.add_result.ensures.same_sink ∙ c.loop-row.invariant.has.same_sink

pub returns-clause-same_sink : goal.returns-clause-same_sink
returns-clause-same_sink g c = c.finish.ensures.same_sink ∙ c.loop-row.invariant.has.same_sink
