use Rattle.std.proofs.Common.{◌≡◌, ◌++◌, length, drop, rules, ap, ◌∙◌, arith}
use Rattle.rec_bytes.specs.declared.fields.TheConstants.{MARK}
use Rattle.rec_bytes.proofs.Numbers.{front-with_bytes}
use Rattle.rec_bytes.proofs.shape.write_mark.Goals as goal

pub returns : goal.returns
returns c =
    let bytes = c.args.rec.now.bytes in
    let long : length bytes ≡ 64 = search rules in
    ap (λ b. record { bytes = b }) (ap (λ front. front ++ drop 4 bytes) c.copy_from_slice.ensures.after ∙ front-with_bytes bytes MARK long (omega arith))
