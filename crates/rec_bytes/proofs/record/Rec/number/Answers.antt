use Rattle.std.proofs.Common.{◌≡◌, rules, length}
use Rattle.rec_bytes.proofs.Numbers.{field-read}
use Rattle.rec_bytes.proofs.record.Rec.number.Goals as goal

pub returns : goal.returns
returns c =
    let r = c.args.self.now in
    let long : length r.bytes ≡ 64 = search rules in
    field-read 4 r c.args.at c.read_u32.result long c.read_u32.ensures (search rules)
