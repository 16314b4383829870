use Rattle.std.proofs.Common.{◌≡◌, length, rules}
use Rattle.rec_bytes.proofs.Texts.{mid-text_in}
use Rattle.rec_bytes.proofs.record.Rec.text.Goals as goal

pub returns : goal.returns
returns c =
    let r = c.args.self.now in
    let long : length r.bytes ≡ 64 = search rules in
    mid-text_in r c.args.at c.args.len long
