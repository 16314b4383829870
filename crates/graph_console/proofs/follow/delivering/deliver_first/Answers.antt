use Rattle.std.proofs.Common.{◌≡◌, ◌∙◌, ◌+◌, ap, arith, length, refl, sym}
use Rattle.follower.specs.Viewing.{view}
use Rattle.graph_console.specs.Follow.{deliver_first}
use Rattle.graph_console.specs.Following.{count_delivered}
use Rattle.graph_console.proofs.Deliveries.{delivered_more, first_more, no_first}
use Rattle.graph_console.proofs.follow.delivering.deliver_first.Goals as goal

pub shipments-init : goal.shipments-init
shipments-init g c = (
  record {
    live = c.requires.live;
    count = omega arith;
    delivers = λ reads shape is has. (sym (no_first c.args.drawn), has);
  },
  refl,
)

pub shipments-preserved : goal.shipments-preserved
shipments-preserved g c = (
  delivered_more g.D.Disk c.args.shipments.now c.args.drawn (view c.args.follower.now) (count_delivered c.args.drawn + c.shipments.index)
      (count_delivered c.args.drawn + (c.shipments.index + 1)) (deliver_first c.shipments.index c.args.drawn)
      (deliver_first (c.shipments.index + 1) c.args.drawn)
      c.shipments.delivered c.in_ok-delivered.delivered (view c.shipments.follower) (view c.deliver.new.follower) c.shipments.index c.at.result.now
      c.shipments.invariant.0 c.at.ensures (omega arith) (first_more c.shipments.index c.args.drawn)
      c.in_ok-delivered.ensures.live c.in_ok-delivered.ensures.count c.in_ok-delivered.ensures.delivers,
  c.deliver.ensures.same_disk ∙ c.shipments.invariant.1,
)

pub returns-clause-delivers : goal.returns-clause-delivers
returns-clause-delivers g c = λ reads shape is has.
    let all : c.shipments.index ≡ length c.args.shipments.now = let len = c.len-index-end.ensures in omega arith in
    let ends = c.shipments.invariant.0.delivers reads shape is has in
    (ends.0 ∙ ap (λ n. deliver_first n c.args.drawn) all, ends.1)
