use Rattle.graph_session.proofs.ListedLines.{HasLines}
use Rattle.graph_session.proofs.WalkReplies.{edge_count_lines, lines_to, node_line}
use Rattle.graph_session.proofs.questions.walks.give_nodes.Given as goal

abbrev pub invariant-loop-id : goal.invariant-loop-id
invariant-loop-id g l = HasLines g.K.Sink l.fn.lines l.lines (lines_to node_line (edge_count_lines l.walk) l.walk l.id-index)
