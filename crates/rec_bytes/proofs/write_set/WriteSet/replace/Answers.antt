use Rattle.std.proofs.Common.{sym, ap, ◌∙◌, is_some, length, set}
use Rattle.rec_bytes.specs.Pairs.{Held, find_pair, with_pair}
use Rattle.rec_bytes.proofs.OrderLaws.{length-in_order}
use Rattle.rec_bytes.proofs.HintLaws.{hinted_set, hinted_replaced, pair_found}
use Rattle.rec_bytes.proofs.write_set.WriteSet.replace.Goals as goal

pub invariant_of-self : goal.invariant_of-self
invariant_of-self c =
    hinted_set c.self.inside.pairs.items c.self.inside.order.items c.self.inside.hints.items c.args.key c.args.rec c.in-Some.place c.self.invariant
    c.in-Some.ensures.found

pub returns-clause-found : goal.returns-clause-found
returns-clause-found c =
    sym (ap is_some (sym (ap (λ (v : Held). find_pair v.pairs c.args.key) c.self.view_is)
    ∙ pair_found c.self.inside.pairs.items c.self.inside.order.items c.args.key c.in-Some.place c.in-Some.ensures.found))

pub returns-clause-pairs : goal.returns-clause-pairs
returns-clause-pairs c =
    hinted_replaced c.self.inside.pairs.items c.self.inside.order.items c.self.inside.hints.items c.args.key c.args.rec c.in-Some.place c.self.invariant
    c.in-Some.ensures.found
    ∙ ap (λ (v : Held). with_pair v.pairs c.args.key c.args.rec) c.self.view_is

pub returns-clause-count : goal.returns-clause-count
returns-clause-count c =
    let items = c.self.inside.pairs.items in
    length-in_order (set items c.in-Some.place (c.args.key, c.args.rec)) c.self.inside.order.items
    ∙ sym (length-in_order items c.self.inside.order.items)
    ∙ ap (λ (v : Held). length v.pairs) c.self.view_is
