use Rattle.std.proofs.Common.{ap, ◌∙◌, is_some}
use Rattle.rec_bytes.specs.Pairs.{Held, find_pair}
use Rattle.rec_bytes.proofs.HintLaws.{some_found}
use Rattle.rec_bytes.proofs.write_set.WriteSet.has.Goals as goal

pub returns : goal.returns
returns c =
    c.is_some.ensures
    ∙ some_found c.self.inside.pairs.items c.self.inside.order.items c.args.key c.place_of.result c.place_of.ensures.found c.place_of.ensures.absent
    ∙ ap (λ (v : Held). is_some (find_pair v.pairs c.args.key)) c.self.view_is
