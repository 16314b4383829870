use Rattle.std.proofs.Common.{◌≡◌, ◌<◌, ◌+◌, ◌-◌, min, ◌++◌, ◌∷◌, [], cond, not, Bool, false, sym, ap, ◌∙◌, subst, arith, length, vec_capacity, List, ℕ}
use Rattle.std.specs.List.{insert}
use Rattle.std.specs.Result.{is_ok}
use Rattle.rec_bytes.specs.Pairs.{most_pairs, Held, Pairs, IsGapFor, with_pair}
use Rattle.rec_bytes.specs.PairOrder.{in_order}
use Rattle.rec_bytes.specs.PlaceHints.{IsHinted}
use Rattle.rec_bytes.proofs.PairLaws.{length-with_gap}
use Rattle.rec_bytes.proofs.OrderLaws.{gap_within, added}
use Rattle.rec_bytes.proofs.HintLaws.{hinted_added}
use Rattle.rec_bytes.proofs.write_set.WriteSet.add.Goals as goal

-- an insert that is not refused
inserted : (old new : List ℕ) (i place n : ℕ) (failed done : Bool) → done ≡ not failed → failed ≡ false → new ≡ cond done (insert old i place) old → place ≡ n
    → new ≡ insert old i n
inserted old new i place n failed done negation fine is same =
    is ∙ ap (λ b. cond b (insert old i place) old) (negation ∙ ap not fine) ∙ ap (insert old i) same

pub insert-requires : goal.insert-requires
insert-requires c =
    rw (c.self.inside.order.ok.0) (gap_within c.self.inside.pairs.items c.self.inside.order.items c.args.key c.gap_of-i.result c.gap_of-i.ensures)

pub invariant_of-self : goal.invariant_of-self
invariant_of-self c =
    let ps = c.self.inside.pairs.items in
    let room : c.args.self.now.room ≡ min (min (vec_capacity c.self.inside.pairs) (vec_capacity c.self.inside.order)) most_pairs - length ps
    = ap (λ (v : Held). v.room) (sym c.self.view_is) in
    let few : length ps < most_pairs = omega (arith, room, c.requires.room) in
    let positive : 0 < c.len-place.result + 1 = omega arith in
    let order : c.insert.new.self.items ≡ insert c.self.inside.order.items c.gap_of-i.result (length ps) =
    inserted _ _ _ _ _ c.is_err.result (is_ok c.insert.result) c.is_err.ensures.negation c.if-is_err.false c.insert.ensures.items
    (c.len-place.ensures ∙ c.self.inside.pairs.ok.0) in
    subst (λ (p : Pairs). IsHinted p c.insert.new.self.items c.write_hint.new.hints.items) (sym c.push_reserved.ensures.items)
    (subst (λ o. IsHinted (ps ++ (c.args.key, c.args.rec) ∷ []) o c.write_hint.new.hints.items) (sym order)
    (hinted_added ps c.self.inside.order.items c.self.inside.hints.items c.write_hint.new.hints.items c.args.key c.args.rec c.gap_of-i.result
    (c.len-place.result + 1)
    c.self.invariant c.gap_of-i.ensures c.requires.key few positive c.write_hint.ensures))

pub returns-clause-pairs : goal.returns-clause-pairs
returns-clause-pairs c =
    let ps = c.self.inside.pairs.items in
    let order : c.insert.new.self.items ≡ insert c.self.inside.order.items c.gap_of-i.result (length ps) =
    inserted _ _ _ _ _ c.is_err.result (is_ok c.insert.result) c.is_err.ensures.negation c.if-is_err.false c.insert.ensures.items
    (c.len-place.ensures ∙ c.self.inside.pairs.ok.0) in
    ap (λ (p : Pairs). in_order p c.insert.new.self.items) c.push_reserved.ensures.items
    ∙ ap (in_order (ps ++ (c.args.key, c.args.rec) ∷ [])) order
    ∙ added ps c.self.inside.order.items c.args.key c.args.rec c.gap_of-i.result c.self.invariant.ordered c.gap_of-i.ensures
    ∙ ap (λ (v : Held). with_pair v.pairs c.args.key c.args.rec) c.self.view_is

pub returns-clause-count : goal.returns-clause-count
returns-clause-count c =
    let gap = subst (λ (v : Held). IsGapFor v.pairs c.args.key c.gap_of-i.result) c.self.view_is c.gap_of-i.ensures in
    ap (λ (p : Pairs). length p) (returns-clause-pairs c) ∙ length-with_gap c.args.self.now.pairs c.args.key c.args.rec c.gap_of-i.result gap
