use Rattle.std.proofs.lemmas.Result.{IfOk-weaker}
use Rattle.disk_model.specs.PlainDisk.{contents}
use Rattle.graph_console.specs.Following.{SendsSample}
use Rattle.graph_console.proofs.Follows.{follow_text}
use Rattle.graph_console.proofs.follow.text_of.Goals as goal

pub returns : goal.returns
returns c =
    let sends : SendsSample (Unit {0}) c.args.options c.in_ok-generator.generator c.in_ok-generator.shipments =
    c.in_ok-generator.ensures tt c.in_ok-sender.ensures.zeros in
    let takes = rw c.config_of-config.ensures at c.in_ok-delivered.ensures in
    IfOk-weaker c.tell.result _ _
    (λ page h. follow_text (Unit {0}) c.args.options c.in_ok-generator.generator c.in_ok-generator.shipments c.in_ok-delivered.delivered
    (contents c.deliver_all.new.disk.files) page.taken sends
    (takes tt sends.well c.in_ok-disk.ensures.zeros) (h tt))
    c.tell.ensures
