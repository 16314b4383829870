use Rattle.std.proofs.Common.{◌≡◌, ◌-◌, min, ap, sym, ◌∙◌, arith, length, vec_capacity}
use Rattle.rec_bytes.specs.Pairs.{most_pairs, Held}
use Rattle.rec_bytes.proofs.OrderLaws.{length-in_order}
use Rattle.rec_bytes.proofs.write_set.WriteSet.clear.Goals as goal

pub returns-clause-room : goal.returns-clause-room
returns-clause-room c =
    let items = c.self.inside.pairs.items in
    let room : c.args.self.now.room ≡ min (min (vec_capacity c.self.inside.pairs) (vec_capacity c.self.inside.order)) most_pairs - length items
    = ap (λ (v : Held). v.room) (sym c.self.view_is) in
    let long : length c.args.self.now.pairs ≡ length items
    = ap (λ (v : Held). length v.pairs) (sym c.self.view_is) ∙ length-in_order items c.self.inside.order.items ∙ c.self.invariant.ordered.count in
    let none : length c.clear.new.self.items ≡ 0 = ap length c.clear.ensures.items in
    omega (arith, room, long, none, c.self.invariant.ordered.count, c.self.invariant.ordered.most, c.clear.ensures.capacity, c.clear-2.ensures.capacity)
