use mathlib.Core.Bool.{false≢true}
use Rattle.std.proofs.Common.{◌≡◌, sym, ap, ◌∙◌, subst, refl, set, Some, is_some, unwrap_or}
use Rattle.rec_bytes.specs.declared.record.Rec.{Rec}
use Rattle.rec_bytes.specs.declared.key.Key.{Key}
use Rattle.rec_bytes.specs.Pairs.{Held, with_pair, find_pair, held_at}
use Rattle.rec_bytes.specs.PairOrder.{in_order}
use Rattle.rec_bytes.specs.PlaceHints.{IsHinted}
use Rattle.rec_bytes.proofs.HintLaws.{pair_within, pair_key, pair_found, pair_read, hinted_set, hinted_replaced}
use Rattle.rec_bytes.proofs.write_set.WriteSet.edit.Goals as goal

pub unreachable-requires : goal.unreachable-requires
unreachable-requires c =
    absurd (false≢true (sym (ap is_some c.in_default.ensures.absent)
    ∙ ap (λ (v : Held). is_some (find_pair v.pairs c.args.key)) c.self.view_is ∙ ap is_some c.in_ok-provide.ensures.found))

pub index_mut-pair-requires : goal.index_mut-pair-requires
index_mut-pair-requires c =
    rw (c.self.inside.pairs.ok.0) (pair_within c.self.inside.pairs.items c.self.inside.order.items c.args.key c.in-Some.place c.self.invariant.ordered
    c.in-Some.ensures.found)

pub invariant_of-self-lent : goal.invariant_of-self-lent
invariant_of-self-lent c w =
    let ps = c.self.inside.pairs.items in
    let order = c.self.inside.order.items in
    let pair = pair_read ps order c.args.key c.in-Some.place c.index_mut-pair.result.now c.self.invariant.ordered c.in-Some.ensures.found
    c.index_mut-pair.ensures.value in
    let key : c.index_mut-pair.result.now.0 ≡ c.args.key = ap (λ (p : Key × Rec). p.0) (sym pair)
    ∙ pair_key ps order c.args.key c.in-Some.place c.in-Some.ensures.found in
    subst (λ k. IsHinted (set ps c.in-Some.place (k, w)) order c.self.inside.hints.items) (sym key)
    (hinted_set ps order c.self.inside.hints.items c.args.key w c.in-Some.place c.self.invariant c.in-Some.ensures.found)

pub returns : goal.returns
returns c =
    let ps = c.self.inside.pairs.items in
    let order = c.self.inside.order.items in
    let place = c.in-Some.place in
    let found = c.in-Some.ensures.found in
    let pair = pair_read ps order c.args.key place c.index_mut-pair.result.now c.self.invariant.ordered found c.index_mut-pair.ensures.value in
    let key : c.index_mut-pair.result.now.0 ≡ c.args.key = ap (λ (p : Key × Rec). p.0) (sym pair) ∙ pair_key ps order c.args.key place found in
    let read : Some c.index_mut-pair.result.now.1 ≡ Some (held_at c.args.self.now.pairs c.args.key c.args.absent)
    = ap (λ (p : Key × Rec). Some p.1) (sym pair) ∙ sym (pair_found ps order c.args.key place found)
    ∙ ap (λ (v : Held). find_pair v.pairs c.args.key) c.self.view_is ∙ c.in_ok-provide.ensures.found in (
      (
        refl,
        (λ w _. ap (λ k. in_order (set ps place (k, w)) order) key
            ∙ hinted_replaced ps order c.self.inside.hints.items c.args.key w place c.self.invariant found
            ∙ ap (λ (v : Held). with_pair v.pairs c.args.key w) c.self.view_is ∙ c.in_ok-provide.ensures.sets w),
        tt,
      ),
      record { lends = tt; got = ap (λ o. unwrap_or o c.args.absent) read; succeeds = λ _. refl; in_place = λ _. refl },
    )
