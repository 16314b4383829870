use Rattle.std.proofs.Common.{◌≡◌, true, subst, sym, arith}
use Rattle.std.proofs.lemmas.Result.{IfOk-weaker}
use Rattle.rec_bytes.specs.Shape.{is_allowed}
use Rattle.txn_core.specs.Config.{shape_of}
use Rattle.txn_core.specs.declared.config.Config.{Config}
use Rattle.graph_session.specs.Session.{shared_view}
use Rattle.graph_console.specs.Sending.{OpensSession}
use Rattle.graph_console.specs.Sample.{sample_config}
use Rattle.graph_console.proofs.AskedFor.{sample_allowed}
use Rattle.graph_console.proofs.follow.sending.send_lines.Goals as goal

pub open-requires : goal.open-requires
open-requires g c = subst (λ (config : Config). is_allowed (shape_of config) ≡ true) (sym c.config_of.ensures)
    (sample_allowed c.args.options (let few = c.requires in omega arith))

pub returns-in-Ok : goal.returns-in-Ok
returns-in-Ok g c =
    let options = c.args.options in
    let now = shared_view c.in-Ok.session in
    let opens : OpensSession g.D.Disk c.config_of.result c.args.disk.now now = record {
      opens = c.in-Ok.ensures.opened;
      none = c.in-Ok.ensures.no_snapshots;
      stored = c.in-Ok.ensures.stored;
      records = c.in-Ok.ensures.records;
    } in
    let asked = subst (λ (config : Config). OpensSession g.D.Disk config c.args.disk.now now) c.config_of.ensures opens in
    IfOk-weaker c.send_each-sent.result _ _
    (λ sent h reads zeros. h reads
    (c.sends_what_it_commits.ensures.begins reads (sample_config options) c.args.disk.now now (sample_allowed options (let few = c.requires in omega arith))
    zeros asked))
    c.send_each-sent.ensures
