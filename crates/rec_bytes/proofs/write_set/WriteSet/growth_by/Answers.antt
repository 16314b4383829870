use Rattle.std.proofs.Common.{◌≡◌, ◌<◌, ap, ◌∙◌, arith, cond, length}
use Rattle.rec_bytes.specs.Pairs.{growth}
use Rattle.rec_bytes.proofs.PairLaws.{growth_by-next}
use Rattle.rec_bytes.proofs.HintLaws.{growth_some}
use Rattle.rec_bytes.proofs.write_set.WriteSet.growth_by.Goals as goal
use Rattle.rec_bytes.proofs.write_set.WriteSet.growth_by.Goals.{then-not-has, else-not-has}

pub loop-i-preserved : goal.loop-i-preserved
loop-i-preserved c =
    let within : c.loop-i.i < length c.args.other.now.pairs = omega (arith, c.len-i-end.ensures.value) in
    let next = growth_by-next c.args.self.now.pairs c.args.other.now.pairs c.loop-i.i c.at.result c.len-i-end.ensures.rising c.at.ensures.value within in
    let grown = growth_some c.args.self.now.pairs c.at.result.0 c.has.result c.has.ensures in
    elim c.if-not-has.branch [
      | then-not-has w ↦
          let one : growth c.args.self.now.pairs c.at.result.0 ≡ 1 = grown ∙ ap (λ b. cond b 0 1) w.if-not-has.true in
          record { count = omega (arith, next, one, w.count-is, c.loop-i.invariant.count); most = omega (arith, w.count-is, c.loop-i.invariant.most) }
      | else-not-has w ↦
          let none : growth c.args.self.now.pairs c.at.result.0 ≡ 0 = grown ∙ ap (λ b. cond b 0 1) w.if-not-has.false in
          record { count = omega (arith, next, none, w.count-is, c.loop-i.invariant.count); most = omega (arith, w.count-is, c.loop-i.invariant.most) }
    ]
