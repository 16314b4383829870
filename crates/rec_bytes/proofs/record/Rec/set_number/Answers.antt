use Rattle.std.proofs.Common.{◌≡◌, length, rules, arith, ap, ◌∙◌}
use Rattle.rec_bytes.specs.Record.{field}
use Rattle.rec_bytes.proofs.Numbers.{put_mid-field, field-with_field_same}
use Rattle.rec_bytes.proofs.record.Rec.set_number.Goals as goal

pub returns : goal.returns
returns c =
    let r = c.args.self.now in
    let long : length r.bytes ≡ 64 = search rules in
    let set = put_mid-field 4 r c.args.at c.args.value c.write_u32.new.buf (omega arith) long c.write_u32.ensures in
    record { set = set; got = ap (λ q. field 4 q c.args.at) set ∙ field-with_field_same 4 r c.args.at c.args.value (omega arith) (search rules) }
