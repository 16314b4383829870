use Rattle.std.proofs.Common.{◌≡◌, ap, arith}
use Rattle.rec_bytes.specs.declared.meta.Meta.{Meta}
use Rattle.traversal_run.specs.Naming.{name_count}
use Rattle.traversal_run.proofs.NamesKnown.{names_enough}
use Rattle.graph_session.proofs.type_numbers.name_count.Goals as goal

pub returns-clause-is : goal.returns-clause-is
returns-clause-is g c = λ store.
    let s = g.R.Reads.state c.args.space.now in
    let mark : c.meta.result.high ≡ name_count s.records = ap (λ (m : Meta). m.high) c.meta.ensures in
    let enough = names_enough s.records s.shape c.args.names.now.names store in
    let least = c.min.ensures in
    let count = c.count.ensures.value in
    omega (arith, mark, enough, least, count)
