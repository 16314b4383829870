use Rattle.std.proofs.Common.{arith, ap, sym, ◌∙◌, ◌≡◌, subst, suc, ◌&&◌, ◌+◌, ◌*◌, true}
use Rattle.store_rules.specs.Ranges.{all_point, pointers_from, points}
use Rattle.store_rules.specs.Views.{high}
use Rattle.store_check.specs.Layouts.{pointer_like}
use Rattle.store_check.proofs.LayoutLaws.{from_more, from_wrong}
use Rattle.store_check.proofs.layout.all_from.Goals as goal

pub returns-then-not-is_right : goal.returns-then-not-is_right
returns-then-not-is_right g c =
    sym (from_wrong (high (g.R.Reads.state c.args.space.now).records) c.args.rec.now (pointer_like c.args.first) c.args.count c.loop-number.number
    c.args.first.place c.loop-number-test.true (sym c.is_right.ensures ∙ c.if-not-is_right.true))

pub loop-number-preserved : goal.loop-number-preserved
loop-number-preserved g c =
    let seen = high (g.R.Reads.state c.args.space.now).records in
    let like = pointer_like c.args.first in
    let more : suc c.loop-number.number ≡ c.loop-number.number + 1 = omega arith in
    subst (λ n. all_point seen c.args.rec.now (pointers_from n like c.args.first.place) ≡ true) more
    (from_more seen c.args.rec.now like c.loop-number.number c.args.first.place
    ∙ ap (λ b. b && points seen c.args.rec.now (like (c.args.first.place + 4 * c.loop-number.number))) c.loop-number.invariant
    ∙ sym c.is_right.ensures ∙ c.if-not-is_right.false)
