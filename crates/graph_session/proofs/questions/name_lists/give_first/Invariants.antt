use Rattle.std.proofs.Common.{[], take}
use Rattle.graph_session.specs.NameLists.{name_text}
use Rattle.graph_session.proofs.ListedLines.{HasLines}
use Rattle.graph_session.proofs.WalkReplies.{lines_to}
use Rattle.graph_session.proofs.questions.name_lists.give_first.Given as goal

abbrev pub invariant-loop-id : goal.invariant-loop-id
invariant-loop-id g l = HasLines g.K.Sink l.fn.lines l.lines (lines_to name_text [] (take l.count l.names.names) l.id)
