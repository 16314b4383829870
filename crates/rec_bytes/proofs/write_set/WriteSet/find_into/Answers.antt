use Rattle.std.proofs.Common.{◌<◌, sym, ap, ◌∙◌, subst, length, get_or, is_some, unwrap_or}
use Rattle.rec_bytes.specs.Pairs.{Held, Pairs, find_pair}
use Rattle.rec_bytes.specs.PairOrder.{no_pair}
use Rattle.rec_bytes.proofs.HintLaws.{pair_within, pair_found}
use Rattle.rec_bytes.proofs.write_set.WriteSet.find_into.Goals as goal

pub copy_record-requires : goal.copy_record-requires
copy_record-requires c =
    let fits = pair_within c.self.inside.pairs.items c.self.inside.order.items c.args.key c.in-Some.place c.self.invariant.ordered c.in-Some.ensures.found in
    subst (λ (p : Pairs). c.in-Some.place < length p) (sym c.deref.ensures.value) fits

pub returns-in-Some-clause-found : goal.returns-in-Some-clause-found
returns-in-Some-clause-found c =
    sym (ap is_some (sym (ap (λ (v : Held). find_pair v.pairs c.args.key) c.self.view_is)
    ∙ pair_found c.self.inside.pairs.items c.self.inside.order.items c.args.key c.in-Some.place c.in-Some.ensures.found))

pub returns-in-Some-clause-rec : goal.returns-in-Some-clause-rec
returns-in-Some-clause-rec c =
    c.copy_record.ensures
    ∙ ap (λ (p : Pairs). (get_or p c.in-Some.place no_pair).1) c.deref.ensures.value
    ∙ ap (λ o. unwrap_or o c.args.rec.now) (sym (pair_found c.self.inside.pairs.items c.self.inside.order.items c.args.key c.in-Some.place
    c.in-Some.ensures.found)
    ∙ ap (λ (v : Held). find_pair v.pairs c.args.key) c.self.view_is)

pub returns-in-None-clause-found : goal.returns-in-None-clause-found
returns-in-None-clause-found c = sym (ap is_some (sym (ap (λ (v : Held). find_pair v.pairs c.args.key) c.self.view_is) ∙ c.in-None.ensures.absent))

pub returns-in-None-clause-rec : goal.returns-in-None-clause-rec
returns-in-None-clause-rec c = sym (ap (λ o. unwrap_or o c.args.rec.now) (sym (ap (λ (v : Held). find_pair v.pairs c.args.key) c.self.view_is)
    ∙ c.in-None.ensures.absent))
