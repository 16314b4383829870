use Rattle.std.proofs.Common.{◌-◌, ◌*◌, length, drop, sym, ◌∙◌, arith, length-drop}
use Rattle.std.proofs.lemmas.List.{take_all}
use Rattle.prop_store.proofs.block_writing.piece_at.Goals as goal

pub returns-then-rest-lt-BLOCK_TEXT_BYTES : goal.returns-then-rest-lt-BLOCK_TEXT_BYTES
returns-then-rest-lt-BLOCK_TEXT_BYTES c =
    let text = c.args.text.now in
    let from = 48 * c.args.number in
    let short = c.if-rest-lt-BLOCK_TEXT_BYTES.true in
    let long = length-drop from text in
    take_all (length text - from) (drop from text) (omega arith) ∙ sym (take_all 48 (drop from text) (omega arith))
