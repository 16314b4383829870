use Rattle.std.proofs.Common.{◌≡◌, ◌+◌, ◌-◌, ◌++◌, ℕ, List, Bool, false, not, cond, length, take, replicate, ap, ◌∙◌, arith, refl}
use Rattle.std.specs.Result.{is_ok}
use Rattle.std.proofs.lemmas.List.{take_all}
use Rattle.rec_bytes.proofs.HoleLaws.{around_opened}
use Rattle.rec_bytes.proofs.order_hole.open_hole.Goals as goal

-- a vector that was made longer, where that is not refused
longer : (old new : List ℕ) (n len size : ℕ) (failed done : Bool) → done ≡ not failed → failed ≡ false → len ≡ length old → n ≡ length old + size
    → new ≡ cond done (take n old ++ replicate (n - len) 0) old → new ≡ old ++ replicate size 0
longer old new n len size failed done negation fine count most is =
    let more : n - len ≡ size = omega arith in
    is ∙ ap (λ b. cond b (take n old ++ replicate (n - len) 0) old) (negation ∙ ap not fine)
    ∙ ap (λ z. z ++ replicate (n - len) 0) (take_all n old (omega arith)) ∙ ap (λ k. old ++ replicate k 0) more

pub returns-clause-places : goal.returns-clause-places
returns-clause-places c =
    let old = c.args.order.now.items in
    let long : c.len-count.result + c.args.size ≡ length old + c.args.size = omega (arith, c.len-count.ensures, c.args.order.now.ok.0) in
    let made : c.len-count.result - 0 ≡ length old = omega (arith, c.len-count.ensures, c.args.order.now.ok.0) in
    around_opened old c.resize.new.self.items c.copy_within.new.self.items _ c.args.size (c.len-count.result - 0) refl refl
    (longer old c.resize.new.self.items (c.len-count.result + c.args.size) _ c.args.size c.is_err.result (is_ok c.resize.result) c.is_err.ensures.negation
    c.if-is_err.false c.args.order.now.ok.0 long c.resize.ensures.items)
    made c.copy_within.ensures.items
