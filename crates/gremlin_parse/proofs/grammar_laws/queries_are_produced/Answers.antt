use Rattle.gremlin_parse.proofs.ProducedLines.{change_line, line_spelled, no_fault, query_line}
use Rattle.gremlin_parse.proofs.grammar_laws.queries_are_produced.Goals as goal

pub returns-clause-queries : goal.returns-clause-queries
returns-clause-queries c = query_line

pub returns-clause-changes : goal.returns-clause-changes
returns-clause-changes c = change_line

pub returns-clause-spelled : goal.returns-clause-spelled
returns-clause-spelled c = line_spelled

pub returns-clause-no_fault : goal.returns-clause-no_fault
returns-clause-no_fault c = no_fault
