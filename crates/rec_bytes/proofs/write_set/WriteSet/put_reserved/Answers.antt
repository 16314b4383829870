use Rattle.std.proofs.Common.{◌∙◌, ap}
use Rattle.rec_bytes.specs.Pairs.{Pairs, find_pair}
use Rattle.rec_bytes.proofs.PairLaws.{find_with}
use Rattle.rec_bytes.proofs.write_set.WriteSet.put_reserved.Goals as goal

pub returns-clause-finds : goal.returns-clause-finds
returns-clause-finds c q =
    ap (λ (p : Pairs). find_pair p q) c.put_in_room.ensures.pairs ∙ find_with c.args.self.now.pairs c.args.key c.args.rec q
