use Rattle.std.proofs.Common.{ap, sym, ◌∙◌}
use Rattle.rec_bytes.specs.Pairs.{Pairs, find_pair, with_pair}
use Rattle.rec_bytes.proofs.PairLaws.{with_twice}
use Rattle.rec_bytes.proofs.HintLaws.{held_put, none_found}
use Rattle.rec_bytes.proofs.write_set.WriteSet.provide.Goals as goal

pub returns-clause-sets : goal.returns-clause-sets
returns-clause-sets c rec =
    ap (λ (p : Pairs). with_pair p c.args.key rec)
    (c.add.ensures.pairs ∙ ap (λ (p : Pairs). with_pair p c.args.key c.args.absent) c.in_ok-reserve.ensures.pairs)
    ∙ with_twice c.args.self.now.pairs c.args.key c.args.absent rec

pub returns-clause-found : goal.returns-clause-found
returns-clause-found c =
    ap (λ (p : Pairs). find_pair p c.args.key)
    (c.add.ensures.pairs ∙ ap (λ (p : Pairs). with_pair p c.args.key c.args.absent) c.in_ok-reserve.ensures.pairs)
    ∙ held_put c.args.self.now.pairs c.args.key c.args.absent (none_found c.args.self.now.pairs c.args.key (sym c.has.ensures ∙ c.if-has.false))
