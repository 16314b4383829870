use Rattle.graph_session.proofs.Streams.{adds-alone, adds-stop}
use Rattle.graph_session.proofs.line_buffer.gather.Goals as goal

pub returns-in_default : goal.returns-in_default
returns-in_default g c = adds-stop c.give_all.result c.give_all.ensures.gives c.in_default.not-Go

pub returns-then-text-gt-BUFFER_BYTES : goal.returns-then-text-gt-BUFFER_BYTES
returns-then-text-gt-BUFFER_BYTES g c = rw c.give_all.ensures.empty (adds-alone (rw c.in-Go.is at c.give_all.ensures.gives) c.give.result c.give.ensures)
