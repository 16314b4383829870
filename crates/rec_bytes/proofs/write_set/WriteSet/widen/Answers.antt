use Rattle.rec_bytes.proofs.HintLaws.{hinted_anew}
use Rattle.rec_bytes.proofs.write_set.WriteSet.widen.Goals as goal

pub invariant_of-self : goal.invariant_of-self
invariant_of-self c =
    hinted_anew c.self.inside.pairs.items c.self.inside.order.items c.self.inside.hints.items c.renew.new.hints.items c.self.invariant c.renew.ensures
