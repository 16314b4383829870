use Rattle.std.proofs.Common.{◌∙◌, ◌++◌, ◌-◌, length, map, refl, arith}
use Rattle.plain_graph.specs.Lines.{path_text}
use Rattle.plain_graph.specs.Reply.{end_text}
use Rattle.graph_session.proofs.ListedLines.{lines-add, lines-none, lines-stop_in}
use Rattle.graph_session.proofs.WalkReplies.{edge_count_lines, gives-no_walk, gives-walk, listing-end, listing-more, listing-stop, node_line}
use Rattle.graph_session.proofs.questions.walks.give_nodes.Goals as goal

pub returns-then-count-eq0-clause-gives : goal.returns-then-count-eq0-clause-gives
returns-then-count-eq0-clause-gives g c =
    gives-no_walk c.args.lines.now.prefix.now c.args.walk.now (omega arith) (rw c.no_path.ensures at c.give_line.ensures.gives)

pub loop-id-init : goal.loop-id-init
loop-id-init g c =
    lines-add (lines-none c.begin.ensures) (path_text (length c.args.walk.now - 1)) c.add.new.self
    (rw (c.in-Go.is, c.as_bytes.ensures, c.path.ensures) at c.add.ensures)

pub returns-in_default-clause-gives : goal.returns-in_default-clause-gives
returns-in_default-clause-gives g c =
    let walk = c.args.walk.now in
    gives-walk c.args.lines.now.prefix.now walk (omega arith)
    (lines-stop_in (lines-none c.begin.ensures) (edge_count_lines walk ++ map node_line walk) end_text (path_text (length walk - 1))
    (map node_line walk, refl) c.add.new.self c.add.result
    (rw (c.as_bytes.ensures, c.path.ensures) at c.add.ensures) c.in_default.not-Go)

pub loop-id-preserved : goal.loop-id-preserved
loop-id-preserved g c =
    let walk = c.args.walk.now in
    listing-more node_line (edge_count_lines walk) walk c.loop-id.invariant 0 c.loop-id-test.true c.add_result.new.self
    (rw c.in-Go-add_result.is at c.add_result.ensures)

pub returns-in_default-add_result-clause-gives : goal.returns-in_default-add_result-clause-gives
returns-in_default-add_result-clause-gives g c =
    let walk = c.args.walk.now in
    gives-walk c.args.lines.now.prefix.now walk (omega arith)
    (listing-stop node_line (edge_count_lines walk) walk c.loop-id.invariant 0 c.loop-id-test.true c.add_result.new.self end_text
    c.add_result.result c.add_result.ensures c.in_default-add_result.not-Go)

pub returns-clause-gives : goal.returns-clause-gives
returns-clause-gives g c =
    let walk = c.args.walk.now in
    gives-walk c.args.lines.now.prefix.now walk (omega arith)
    (listing-end node_line (edge_count_lines walk) walk c.loop-id.invariant c.loop-id.auto.id-index-end c.loop-id-test.false end_text
    c.finish.new.self.output.now c.finish.result (rw c.end_of_results.ensures at c.finish.ensures.gives))

pub returns-in_default-add_result-clause-same_sink : goal.returns-in_default-add_result-clause-same_sink
returns-in_default-add_result-clause-same_sink g c = c.add_result.ensures.same_sink ∙ c.loop-id.invariant.same_sink

pub returns-clause-same_sink : goal.returns-clause-same_sink
returns-clause-same_sink g c = c.finish.ensures.same_sink ∙ c.loop-id.invariant.same_sink

pub returns-in_default-clause-same_sink : goal.returns-in_default-clause-same_sink
returns-in_default-clause-same_sink g c = c.add.ensures.same_sink ∙ c.begin.ensures.same_sink
