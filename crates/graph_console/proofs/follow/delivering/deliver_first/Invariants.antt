use Rattle.std.proofs.Common.{◌+◌}
use Rattle.follower.specs.Viewing.{HaveSameDisk, view}
use Rattle.graph_console.specs.Follow.{deliver_first}
use Rattle.graph_console.specs.Following.{count_delivered}
use Rattle.graph_console.proofs.Deliveries.{HasDelivered}
use Rattle.graph_console.proofs.follow.delivering.deliver_first.Given as goal

abbrev pub invariant-shipments : goal.invariant-shipments
invariant-shipments g l =
    HasDelivered g.D.Disk l.fn.shipments l.fn.drawn (view l.fn.follower) (count_delivered l.fn.drawn + l.index) (deliver_first l.index l.fn.drawn) l.delivered
    (view l.follower)
    × HaveSameDisk l.fn.follower l.follower
