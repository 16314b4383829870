use Rattle.std.proofs.Common.{◌≡◌, length}
use Rattle.disk_model.specs.Generator.{state_after}
use Rattle.follower.specs.Viewing.{HaveSameDisk, view}
use Rattle.graph_console.specs.Follow.{deliver_drawn, none_delivered}
use Rattle.graph_console.proofs.Deliveries.{HasDelivered}
use Rattle.graph_console.proofs.follow.delivering.deliver_drawn.Given as goal

abbrev pub invariant-draws : goal.invariant-draws
invariant-draws g l =
    HasDelivered g.D.Disk l.fn.shipments none_delivered (view l.fn.follower) l._draw (deliver_drawn (length l.fn.shipments) l.fn.generator l._draw) l.delivered
    (view l.follower)
    × HaveSameDisk l.fn.follower l.follower
    × (l.generator ≡ state_after l.fn.generator l._draw)
