use Rattle.std.proofs.Common.{sym, ap, ◌∙◌, length}
use Rattle.rec_bytes.specs.Pairs.{Held}
use Rattle.rec_bytes.proofs.OrderLaws.{length-in_order}
use Rattle.rec_bytes.proofs.write_set.WriteSet.len.Goals as goal

pub returns-clause-value : goal.returns-clause-value
returns-clause-value c =
    c.len.ensures ∙ c.self.inside.order.ok.0 ∙ sym (length-in_order c.self.inside.pairs.items c.self.inside.order.items)
    ∙ ap (λ (v : Held). length v.pairs) c.self.view_is
