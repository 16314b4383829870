use Rattle.std.proofs.Common.{◌≡◌, ap, ◌∙◌, subst, sym, rules, arith}
use Rattle.rec_bytes.specs.Tables.{with_fields}
use Rattle.rec_bytes.proofs.Numbers.{field-lt}
use Rattle.store_rules.specs.Ranges.{IsBlankOutside}
use Rattle.rel_store.specs.RelRecord.{rel_record, rel_used, row_of}
use Rattle.rel_store.proofs.RelRecords.{HasNumbers, blank-rel_record, row_of-rel_record}
use Rattle.rel_store.proofs.rel_record.rel_record.Goals as goal

pub returns-clause-got : goal.returns-clause-got
unfolding with_fields
returns-clause-got c =
    let row = c.args.row.now in
    let small : HasNumbers row = record {
      label = omega (arith, field-lt 4 c.set_number.new.self 4, c.set_number.ensures.got);
      from = omega (arith, field-lt 4 c.set_number-2.new.self 8, c.set_number-2.ensures.got);
      to = omega (arith, field-lt 4 c.set_number-3.new.self 12, c.set_number-3.ensures.got);
      source_previous = omega (arith, field-lt 4 c.set_number-4.new.self 16, c.set_number-4.ensures.got);
      source_next = omega (arith, field-lt 4 c.set_number-5.new.self 20, c.set_number-5.ensures.got);
      target_previous = omega (arith, field-lt 4 c.set_number-6.new.self 24, c.set_number-6.ensures.got);
      target_next = omega (arith, field-lt 4 c.set_number-7.new.self 28, c.set_number-7.ensures.got);
      property = omega (arith, field-lt 4 c.set_number-8.new.self 32, c.set_number-8.ensures.got);
    } in
    let is : c.set_number-8.new.self ≡ rel_record row = search rules in
    ap (λ rec. row_of rec row.id) is ∙ row_of-rel_record row small

pub returns-clause-blank : goal.returns-clause-blank
unfolding with_fields
returns-clause-blank c =
    let row = c.args.row.now in
    let is : c.set_number-8.new.self ≡ rel_record row = search rules in
    subst (IsBlankOutside rel_used) (sym is) (blank-rel_record row)
