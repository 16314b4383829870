use Rattle.std.proofs.Common.{◌≡◌, ◌+◌, ◌-◌, length, ap, ◌∙◌, rules, arith}
use borrow.Rule.Slice.PartMut.{put_mid}
use Rattle.rec_bytes.proofs.Texts.{put_mid-with_text}
use Rattle.rec_bytes.proofs.record.Rec.set_text.Goals as goal

pub returns : goal.returns
returns c =
    let r = c.args.self.now in
    let text = c.args.text.now in
    let long : length r.bytes ≡ 64 = search rules in
    ap (λ b. record { bytes = put_mid c.args.at (c.args.at + length text - c.args.at) r.bytes b }) c.copy_from_slice.ensures.after
    ∙ put_mid-with_text r c.args.at text (omega arith) long
