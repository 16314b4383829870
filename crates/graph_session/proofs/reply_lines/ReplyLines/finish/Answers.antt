use Rattle.std.proofs.Common.{◌∙◌}
use Rattle.graph_session.proofs.Streams.{adds-gives, adds-unended}
use Rattle.graph_session.proofs.reply_lines.ReplyLines.finish.Goals as goal

pub returns-in-Go-clause-gives : goal.returns-in-Go-clause-gives
returns-in-Go-clause-gives g c = adds-gives (rw c.in-Go.is at c.add.ensures.adds) c.flush.result c.flush.ensures.gives

pub returns-in-Go-clause-same_sink : goal.returns-in-Go-clause-same_sink
returns-in-Go-clause-same_sink g c = c.flush.ensures.same_sink ∙ c.add.ensures.same_sink

pub returns-in_default-clause-gives : goal.returns-in_default-clause-gives
returns-in_default-clause-gives g c = adds-unended c.add.result c.add.ensures.adds c.in_default.not-Go
