use Rattle.graph_session.proofs.EdgeLines.{IsGiving}
use Rattle.graph_session.proofs.questions.edge_results.give_rows.Given as goal

abbrev pub invariant-loop-row : goal.invariant-loop-row
invariant-loop-row g l = IsGiving g.K.Sink l.fn.lines l.lines l.fn.label l.edge l.row-index l.rows
