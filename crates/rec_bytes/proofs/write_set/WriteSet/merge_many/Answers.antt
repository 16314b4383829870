use Rattle.std.proofs.Common.{◌≡◌, ◌-◌, min, ap, sym, ◌∙◌, arith, length, vec_capacity}
use Rattle.rec_bytes.specs.Pairs.{Held, most_pairs}
use Rattle.rec_bytes.proofs.OrderLaws.{length-in_order}
use Rattle.rec_bytes.proofs.write_set.WriteSet.merge_many.Goals as goal

pub returns-clause-room : goal.returns-clause-room
returns-clause-room c =
    let ps = c.self.inside.pairs.items in
    let order = c.self.inside.order.items in
    let room : c.args.self.now.room ≡ min (min (vec_capacity c.self.inside.pairs) (vec_capacity c.self.inside.order)) most_pairs - length ps
    = ap (λ (v : Held). v.room) (sym c.self.view_is) in
    let old : length c.args.self.now.pairs ≡ length order = ap (λ (v : Held). length v.pairs) (sym c.self.view_is) ∙ length-in_order ps order in
    let new = length-in_order c.merge_pass.new.pairs.items c.merge_pass.new.order.items in
    omega (
      arith,
      room,
      old,
      new,
      c.self.invariant.ordered.count,
      c.merge_pass.ensures.hinted.ordered.count,
      c.merge_pass.ensures.pairs_capacity,
      c.merge_pass.ensures.order_capacity,
      c.requires.some,
      c.requires.room,
    )
