use Rattle.std.proofs.Common.{◌<◌, ◌+◌, ◌-◌, ◌*◌, get_or, subst, arith, length}
use Rattle.gremlin_parse.proofs.Decimals.{above_at}
use Rattle.gremlin_parse.proofs.number.value_of.Goals as goal

pub returns-then-value-most-clause-none : goal.returns-then-value-most-clause-none
returns-then-value-most-clause-none c =
    let within : c.loop-byte.byte-index < length c.args.digits.now = omega arith in
    let above : c.args.most < c.loop-byte.value * 10 + (get_or c.args.digits.now c.loop-byte.byte-index 0 - 48) = omega arith in
    subst (λ v. c.args.most < v) c.loop-byte.invariant.same (above_at c.args.most c.loop-byte.value c.loop-byte.byte-index c.args.digits.now within above)

pub returns-then-value-most-2-clause-none : goal.returns-then-value-most-2-clause-none
returns-then-value-most-2-clause-none c =
    let within : c.loop-byte.byte-index < length c.args.digits.now = omega arith in
    let above : c.args.most < c.loop-byte.value * 10 + (get_or c.args.digits.now c.loop-byte.byte-index 0 - 48) = omega arith in
    subst (λ v. c.args.most < v) c.loop-byte.invariant.same (above_at c.args.most c.loop-byte.value c.loop-byte.byte-index c.args.digits.now within above)
