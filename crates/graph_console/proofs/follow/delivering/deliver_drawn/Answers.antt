use Rattle.std.proofs.Common.{◌≡◌, ◌∙◌, ◌+◌, ◌*◌, ◌%◌, ℕ, ap, arith, length, refl, sym}
use Rattle.disk_model.specs.Generator.{drawn, next_state, number_of, state_after}
use Rattle.follower.specs.Viewing.{view}
use Rattle.graph_console.specs.Follow.{deliver, deliver_drawn, none_delivered}
use Rattle.graph_console.proofs.Deliveries.{delivered_more, drawn_more, none_drawn, one_more}
use Rattle.graph_console.proofs.follow.delivering.deliver_drawn.Goals as goal

pub draws-init : goal.draws-init
draws-init g c = (
  record {
    live = c.requires.live;
    count = refl;
    delivers = λ reads shape is has. (sym (none_drawn (length c.args.shipments.now) c.args.generator.now), has);
  },
  refl,
  refl,
)

pub draws-preserved : goal.draws-preserved
draws-preserved g c =
    let count = length c.args.shipments.now in
    let x = c.args.generator.now in
    let number : c.draw.result ≡ drawn x c.draws._draw = c.draw.ensures.number ∙ ap (λ (s : ℕ). number_of (next_state s)) c.draws.invariant.2 in
    let place : c.draw.result % c.len-count.result ≡ drawn x c.draws._draw % count = ap (λ (n : ℕ). n % c.len-count.result) number
    ∙ ap (λ (n : ℕ). drawn x c.draws._draw % n) c.len-count.ensures in (
      delivered_more g.D.Disk c.args.shipments.now none_delivered (view c.args.follower.now) c.draws._draw (c.draws._draw + 1)
          (deliver_drawn count x c.draws._draw) (deliver_drawn count x (c.draws._draw + 1)) c.draws.delivered c.in_ok-delivered.delivered
          (view c.draws.follower) (view c.deliver.new.follower) (c.draw.result % c.len-count.result) c.at.result.now c.draws.invariant.0 c.at.ensures refl
          (drawn_more count x c.draws._draw ∙ ap (λ (n : ℕ). deliver (n + 1) (deliver_drawn count x c.draws._draw)) (sym place))
          c.in_ok-delivered.ensures.live c.in_ok-delivered.ensures.count c.in_ok-delivered.ensures.delivers,
      c.deliver.ensures.same_disk ∙ c.draws.invariant.1,
      c.draw.ensures.state ∙ ap next_state c.draws.invariant.2 ∙ sym (ap (state_after x) (one_more c.draws._draw)),
    )

pub returns-clause-delivers : goal.returns-clause-delivers
returns-clause-delivers g c = λ reads shape is has.
    let count = length c.args.shipments.now in
    let all : c.draws._draw ≡ 4 * count = let len = c.len-count.ensures in omega arith in
    let ends = c.draws.invariant.0.delivers reads shape is has in
    (ends.0 ∙ ap (deliver_drawn count c.args.generator.now) all, ends.1)
