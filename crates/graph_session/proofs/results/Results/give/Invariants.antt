use Rattle.std.proofs.Common.{[]}
use Rattle.plain_graph.specs.Reply.{item_line}
use Rattle.graph_session.proofs.ListedLines.{HasLines}
use Rattle.graph_session.proofs.WalkReplies.{lines_to}
use Rattle.graph_session.proofs.results.Results.give.Given as goal

abbrev pub invariant-loop-item : goal.invariant-loop-item
invariant-loop-item g l = HasLines g.K.Sink l.fn.lines l.lines (lines_to item_line [] l.self.items.items l.item-index)
