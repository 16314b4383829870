use Rattle.std.proofs.Common.{rules, IfOk}
use Rattle.txn_core.specs.Config.{shape_of}
use Rattle.follower.specs.Viewing.{view}
use Rattle.graph_console.specs.Following.{TakesAll}
use Rattle.graph_console.proofs.Deliveries.{takes_all}
use Rattle.graph_console.proofs.Opened.{at_equal}
use Rattle.graph_console.proofs.follow.delivering.deliver_all.Goals as goal

pub returns-in-Ok : goal.returns-in-Ok
returns-in-Ok g c =
    at_equal
    (λ (disk : g.row.D.Denot). IfOk c.deliver_each-delivered.result (TakesAll g.D.Disk (shape_of c.args.config) c.args.shipments.now c.args.generator.now
    c.args.disk.now disk))
    (view c.deliver_each-delivered.new.follower).disk _
    (takes_all g.D.Disk c.args.config c.args.shipments.now c.args.generator.now c.args.disk.now (view c.in-Ok.follower)
    (view c.deliver_each-delivered.new.follower) c.deliver_each-delivered.result
    c.in-Ok.ensures.opened c.deliver_each-delivered.ensures.delivers)
    (search rules)
