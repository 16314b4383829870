use Rattle.std.proofs.Common.{[]}
use Rattle.plain_graph.specs.Lines.{level_text}
use Rattle.graph_session.proofs.ListedLines.{HasLines}
use Rattle.graph_session.proofs.WalkReplies.{lines_to}
use Rattle.graph_session.proofs.questions.walks.give_node_levels.Given as goal

abbrev pub invariant-loop-level : goal.invariant-loop-level
invariant-loop-level g l = HasLines g.K.Sink l.fn.lines l.lines (lines_to level_text [] l.levels l.level-index)
