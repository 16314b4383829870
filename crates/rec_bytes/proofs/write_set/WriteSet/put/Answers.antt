use Rattle.std.proofs.Common.{◌∙◌, ap}
use Rattle.rec_bytes.specs.Pairs.{Pairs, find_pair, with_pair}
use Rattle.rec_bytes.proofs.PairLaws.{find_with}
use Rattle.rec_bytes.proofs.write_set.WriteSet.put.Goals as goal

pub returns-then-replace-clause-finds : goal.returns-then-replace-clause-finds
returns-then-replace-clause-finds c q =
    ap (λ (p : Pairs). find_pair p q) c.if-replace.ensures.pairs ∙ find_with c.args.self.now.pairs c.args.key c.args.rec q

pub returns-clause-finds : goal.returns-clause-finds
returns-clause-finds c q =
    ap (λ (p : Pairs). find_pair p q)
    (c.add.ensures.pairs ∙ ap (λ (p : Pairs). with_pair p c.args.key c.args.rec) (c.in_ok-reserve.ensures.pairs ∙ c.if-replace.ensures.pairs))
    ∙ find_with c.args.self.now.pairs c.args.key c.args.rec q
