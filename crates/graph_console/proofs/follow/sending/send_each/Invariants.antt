use Rattle.std.proofs.Common.{[]}
use Rattle.txn_core.specs.Config.{shape_of}
use Rattle.graph_session.specs.Session.{shared_view}
use Rattle.graph_console.specs.Sending.{HasSent}
use Rattle.graph_console.specs.Following.{HasSentTurns}
use Rattle.graph_console.specs.Sample.{sample_config, sample_store}
use Rattle.graph_console.proofs.follow.sending.send_each.Given as goal

abbrev pub invariant-lines : goal.invariant-lines
invariant-lines g l =
    g.D.Disk.tells_reads → HasSent g.D.Disk (shape_of (sample_config l.fn.options)) [] (shared_view l.fn.session) (sample_store l.fn.options)
    → HasSentTurns g.D.Disk l.fn.options l._line l.sampler l.shipments (shared_view l.session)
