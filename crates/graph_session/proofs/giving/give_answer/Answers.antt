use Rattle.std.proofs.Common.{◌∙◌}
use Rattle.plain_graph.specs.Reply.{fault_line}
use Rattle.graph_session.specs.Answering.{stop_of}
use Rattle.graph_session.proofs.ListedLines.{lines-last, lines-none}
use Rattle.graph_session.proofs.giving.give_answer.Goals as goal

pub returns-in-Fault-clause-gives : goal.returns-in-Fault-clause-gives
returns-in-Fault-clause-gives g c = rw c.in-Fault.is
    (lines-last (lines-none c.begin.ensures) (fault_line (stop_of c.in-Fault.fault)) c.stop.new.self.output.now c.stop.result c.stop.ensures.gives)

pub returns-in-Fault-clause-same_sink : goal.returns-in-Fault-clause-same_sink
returns-in-Fault-clause-same_sink g c = c.stop.ensures.same_sink ∙ c.begin.ensures.same_sink
