-- What is written in the record of a block is what is read of it.
use Rattle.std.proofs.Common.{ap, ◌≢◌, ◌≡◌, ◌<◌, ◌≤◌, ◌^◌, ◌∙◌, ℕ, List, length, inl, inr, arith}
use Rattle.rec_bytes.specs.declared.record.Rec.{Rec}
use Rattle.rec_bytes.specs.Format as format
use Rattle.rec_bytes.specs.Record.{field, text_in, with_field, with_text, zeros}
use Rattle.rec_bytes.proofs.Numbers.{field-with_field_same, field-with_field_other}
use Rattle.rec_bytes.proofs.Texts.{field-with_text_other, text_in-with_field_other, text_in-with_text_same}
use Rattle.prop_store.specs.BlockRecord.{block_record}

module _ (text : List ℕ) (next : ℕ) (fits : length text ≤ 48) where
  pub kind-block_record : field 1 (block_record text next) format.kind ≡ format.block
  kind-block_record =
      let one = with_field 1 zeros format.kind format.block in
      let two = with_field 1 one format.block_length (length text) in
      field-with_field_other 4 (with_text two format.block_text text) format.block_next next 1 format.kind (omega arith) (inr (omega arith))
      ∙ field-with_text_other two format.block_text text 1 format.kind (omega arith) (inl (omega arith))
      ∙ field-with_field_other 1 one format.block_length (length text) 1 format.kind (omega arith) (inr (omega arith))
      ∙ field-with_field_same 1 zeros format.kind format.block (omega arith) (omega arith)

  pub size-block_record : field 1 (block_record text next) format.block_length ≡ length text
  size-block_record =
      let one = with_field 1 zeros format.kind format.block in
      let two = with_field 1 one format.block_length (length text) in
      field-with_field_other 4 (with_text two format.block_text text) format.block_next next 1 format.block_length (omega arith) (inr (omega arith))
      ∙ field-with_text_other two format.block_text text 1 format.block_length (omega arith) (inl (omega arith))
      ∙ field-with_field_same 1 one format.block_length (length text) (omega arith) (omega arith)

  pub text-block_record : text_in (block_record text next) format.block_text (length text) ≡ text
  text-block_record =
      let two = with_field 1 (with_field 1 zeros format.kind format.block) format.block_length (length text) in
      text_in-with_field_other 4 (with_text two format.block_text text) format.block_next next format.block_text (length text) (omega arith) (inl (omega arith))
      ∙ text_in-with_text_same two format.block_text text (omega arith)

  pub next-block_record : next < 2 ^ 32 → field 4 (block_record text next) format.block_next ≡ next
  next-block_record small = field-with_field_same 4 (with_text (with_field 1 (with_field 1 zeros format.kind format.block) format.block_length (length text))
      format.block_text text) format.block_next next (omega arith) (omega arith)

-- it is one in use
pub used_block : (text : List ℕ) (next : ℕ) (rec : Rec) → length text ≤ 48 → rec ≡ block_record text next → field 1 rec format.kind ≢ format.free_kind
used_block text next rec fits is e = let kind = kind-block_record text next fits in let same = ap (λ (r : Rec). field 1 r format.kind) is in omega arith
