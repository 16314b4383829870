use Rattle.std.proofs.Common.{◌∙◌, ap, length}
use Rattle.std.proofs.lemmas.Result.{IfOk-weaker}
use Rattle.graph_console.specs.Follow.{deliver_first}
use Rattle.graph_console.specs.declared.follow.delivered.Delivered.{Delivered}
use Rattle.graph_console.proofs.follow.delivering.deliver_each.Goals as goal

pub returns-clause-delivers : goal.returns-clause-delivers
returns-clause-delivers g c = λ reads shape is has.
    let until = c.in_ok-drawn.ensures.delivers reads shape is has in
    IfOk-weaker c.deliver_first.result _ _
    (λ (d : Delivered) ends. (ends.0 ∙ ap (deliver_first (length c.args.shipments.now)) until.0, ends.1))
    (c.deliver_first.ensures.delivers reads shape is until.1)
