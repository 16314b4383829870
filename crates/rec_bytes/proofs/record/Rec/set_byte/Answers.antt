use Rattle.std.proofs.Common.{rules, arith, ap, ◌∙◌}
use Rattle.rec_bytes.specs.Record.{field}
use Rattle.rec_bytes.proofs.Numbers.{set-byte_is, field-with_field_same}
use Rattle.rec_bytes.proofs.record.Rec.set_byte.Goals as goal

pub returns-clause-set : goal.returns-clause-set
returns-clause-set c = set-byte_is c.args.self.now c.args.at c.args.value (search rules) (search rules)

pub returns-clause-got : goal.returns-clause-got
returns-clause-got c =
    ap (λ q. field 1 q c.args.at) (set-byte_is c.args.self.now c.args.at c.args.value (search rules) (search rules))
    ∙ field-with_field_same 1 c.args.self.now c.args.at c.args.value (omega arith) (search rules)
