use Rattle.std.proofs.Common.{◌<◌, sym, ap, ◌∙◌, subst, length, Some}
use Rattle.std.specs.List.{slice_get}
use Rattle.std.proofs.lemmas.Option.{slice_get-get_or, get_or_from_slice_get}
use Rattle.rec_bytes.specs.declared.record.Rec.{Rec}
use Rattle.rec_bytes.specs.declared.key.Key.{Key}
use Rattle.rec_bytes.specs.Key.{IsKey}
use Rattle.rec_bytes.specs.Pairs.{Pairs, Held}
use Rattle.rec_bytes.specs.PairOrder.{no_pair, in_order}
use Rattle.rec_bytes.proofs.OrderLaws.{all_at, read_at, place_within}
use Rattle.rec_bytes.proofs.write_set.WriteSet.at.Goals as goal

pub index-requires : goal.index-requires
index-requires c =
    subst (λ n. c.args.i < n) (sym c.self.inside.order.ok.0) (place_within c.self.inside.pairs.items c.self.inside.order.items c.args.i
    (subst (λ (v : Held). c.args.i < length v.pairs) (sym c.self.view_is) c.requires))

pub pair_at-requires : goal.pair_at-requires
pair_at-requires c =
    let ps = c.self.inside.pairs.items in
    let order = c.self.inside.order.items in
    let within = place_within ps order c.args.i (subst (λ (v : Held). c.args.i < length v.pairs) (sym c.self.view_is) c.requires) in
    let fits = subst (λ place. place < length ps) (sym c.index.ensures)
    (all_at (λ place. place < length ps) order c.args.i c.index.result.now c.self.invariant.ordered.places within) in
    subst (λ (p : Pairs). c.index.result.now < length p) (sym c.deref.ensures.value) fits

pub returns-clause-value : goal.returns-clause-value
returns-clause-value c =
    let ps = c.self.inside.pairs.items in
    let order = c.self.inside.order.items in
    let within = subst (λ (v : Held). c.args.i < length v.pairs) (sym c.self.view_is) c.requires in
    let got = ap (λ (p : Pairs). slice_get p c.index.result.now) (sym c.deref.ensures.value) ∙ c.pair_at.ensures in
    let read = sym (get_or_from_slice_get ps c.index.result.now c.pair_at.result c.pair_at.result got) in
    ap (λ (v : Held). slice_get v.pairs c.args.i) (sym c.self.view_is)
    ∙ slice_get-get_or (in_order ps order) c.args.i no_pair within
    ∙ ap (λ (p : Key × Rec). Some p) (read_at ps order c.args.i c.index.result.now c.pair_at.result c.self.invariant.ordered within c.index.ensures read)

pub returns-clause-key : goal.returns-clause-key
returns-clause-key c =
    let ps = c.self.inside.pairs.items in
    let order = c.self.inside.order.items in
    let within = subst (λ (v : Held). c.args.i < length v.pairs) (sym c.self.view_is) c.requires in
    let got = ap (λ (p : Pairs). slice_get p c.index.result.now) (sym c.deref.ensures.value) ∙ c.pair_at.ensures in
    let read = sym (get_or_from_slice_get ps c.index.result.now c.pair_at.result c.pair_at.result got) in
    subst (λ (p : Key × Rec). IsKey p.0) (read_at ps order c.args.i c.index.result.now c.pair_at.result c.self.invariant.ordered within c.index.ensures read)
    (all_at (λ (p : Key × Rec). IsKey p.0) (in_order ps order) c.args.i no_pair c.self.invariant.ordered.keys within)
