use Rattle.std.proofs.Common.{◌≡◌, ◌≤◌, ◌+◌, ℕ, drop, ap, arith}
use Rattle.std.proofs.lemmas.List.{drop_all}
use Rattle.expand.specs.Degrees.{as_number, counted_sum}
use Rattle.expand.proofs.degrees.counted_sum.Goals as goal

done : (sum rest all : ℕ) → sum ≤ 18446744073709551615 → rest ≡ 0 → as_number (sum + rest) ≡ as_number all → sum ≡ as_number all
done sum rest all fits none same = omega (arith, fits, none, same)

pub returns : goal.returns
returns c =
    let left = c.loop-group.invariant.left in
    done c.loop-group.sum (counted_sum c.args.direction c.args.labels.now (drop c.loop-group.group-index c.args.groups.now))
    (counted_sum c.args.direction c.args.labels.now c.args.groups.now) c.loop-group.invariant.fits
    (ap (counted_sum c.args.direction c.args.labels.now) (drop_all c.loop-group.group-index c.args.groups.now (omega arith))) left
