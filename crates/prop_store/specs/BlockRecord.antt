-- The record of a block of a text.
use Rattle.std.specs.Prelude.{ℕ, List, length}
use Rattle.rec_bytes.specs.declared.record.Rec.{Rec}
use Rattle.rec_bytes.specs.Format as format
use Rattle.rec_bytes.specs.Record.{with_field, with_text, zeros}

-- the record of a block with these bytes, and the block after it
abbrev pub block_record : List ℕ → ℕ → Rec
block_record text next =
    with_field 4
    (with_text
    (with_field 1 (with_field 1 zeros format.kind format.block) format.block_length
    (length text))
    format.block_text text) format.block_next next
