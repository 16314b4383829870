use Rattle.std.proofs.Common.{◌∙◌}
use Rattle.gremlin_parse.proofs.Runs.{is_nothing}
use Rattle.graph_session.proofs.ListedLines.{lines-last, lines-none}
use Rattle.graph_session.proofs.giving.give_line.Goals as goal

pub returns-then-is_empty-clause-gives : goal.returns-then-is_empty-clause-gives
returns-then-is_empty-clause-gives g c =
    rw (is_nothing c.args.lines.now.prefix.now c.is_empty.result c.is_empty.ensures c.if-is_empty.true) c.give.ensures

pub returns-clause-gives : goal.returns-clause-gives
returns-clause-gives g c =
    lines-last (lines-none c.begin.ensures) c.args.line.now c.finish.new.self.output.now c.finish.result c.finish.ensures.gives

pub returns-clause-same_sink : goal.returns-clause-same_sink
returns-clause-same_sink g c = c.finish.ensures.same_sink ∙ c.begin.ensures.same_sink
