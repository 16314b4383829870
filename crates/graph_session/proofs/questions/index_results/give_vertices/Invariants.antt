use Rattle.std.proofs.Common.{[]}
use Rattle.graph_session.specs.IndexResults.{vertex_line}
use Rattle.graph_session.proofs.ListedLines.{HasLines}
use Rattle.graph_session.proofs.WalkReplies.{lines_to}
use Rattle.graph_session.proofs.questions.index_results.give_vertices.Given as goal

abbrev pub invariant-loop-id : goal.invariant-loop-id
invariant-loop-id g l = HasLines g.K.Sink l.fn.lines l.lines (lines_to vertex_line [] l.nodes l.id-index)
