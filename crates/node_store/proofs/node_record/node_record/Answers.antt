use Rattle.std.proofs.Common.{◌≡◌, ap, ◌∙◌, rules, arith}
use Rattle.rec_bytes.specs.Tables.{with_fields}
use Rattle.rec_bytes.proofs.Numbers.{field-lt}
use Rattle.node_store.specs.NodeRecord.{node_record, row_of}
use Rattle.node_store.proofs.NodeRecords.{HasNumbers, row_of-node_record}
use Rattle.node_store.proofs.node_record.node_record.Goals as goal

pub returns-clause-got : goal.returns-clause-got
unfolding with_fields
returns-clause-got c =
    let row = c.args.row.now in
    let small : HasNumbers row = record {
      label = omega (arith, field-lt 4 c.set_number.new.self 4, c.set_number.ensures.got);
      first = omega (arith, field-lt 4 c.set_number-2.new.self 8, c.set_number-2.ensures.got);
      props = omega (arith, field-lt 4 c.set_number-3.new.self 12, c.set_number-3.ensures.got);
      degree = omega (arith, field-lt 4 c.set_number-4.new.self 16, c.set_number-4.ensures.got);
    } in
    let is : c.set_number-4.new.self ≡ node_record row = search rules in
    ap (λ rec. row_of rec row.id) is ∙ row_of-node_record row small
