use Rattle.graph_session.proofs.Streams.{adds-cut, adds-more}
use Rattle.graph_session.proofs.line_buffer.gather_prefixed.Goals as goal

pub returns-in-Go : goal.returns-in-Go
returns-in-Go g c = adds-more (rw c.in-Go.is at c.gather.ensures) c.gather-in-Go.result c.gather-in-Go.ensures

pub returns-in_default : goal.returns-in_default
returns-in_default g c = adds-cut c.args.line.now c.gather.result c.gather.ensures c.in_default.not-Go
