-- What stands in the record of a shape after it was written.
use Rattle.std.proofs.Common.{◌≡◌, ◌<◌, ◌^◌, true, Some, None, cond, ◌&&◌, ap, ◌∙◌, inr, arith, refl}
use Rattle.rec_bytes.specs.declared.record.Rec.{Rec}
use Rattle.rec_bytes.specs.declared.record.TheConstants.Rec.{ZEROS}
use Rattle.rec_bytes.specs.declared.shape.Shape.{Shape}
use Rattle.rec_bytes.specs.Record.{as_64, field, with_bytes, with_field, zeros_from}
use Rattle.rec_bytes.specs.Shape.{is_allowed, is_store_record, numbers_of_shape, shape_of_record, version_of, with_mark, with_shape}
use Rattle.rec_bytes.specs.Format.{newest_version}
use Rattle.rec_bytes.proofs.Numbers.{field-with_field_same, field-with_field_other}

-- both numbers are read back
numbers_read_back : (r : Rec) (s : Shape) → s.threshold < 2 ^ 16 → s.limit < 2 ^ 32 → numbers_of_shape (with_shape r s) ≡ s
numbers_read_back r s threshold limit =
    let one = with_field 2 (with_mark r) 4 3 in
    let two = with_field 2 one 6 s.threshold in
    let a = field-with_field_other 4 two 8 s.limit 2 6 (omega arith) (inr (omega arith))
    ∙ field-with_field_same 2 one 6 s.threshold (omega arith) (omega arith) in
    let b = field-with_field_same 4 two 8 s.limit (omega arith) (omega arith) in
    ap (λ x. record { threshold = x; limit = field 4 (with_shape r s) 8 }) a ∙ ap (λ x. record { threshold = s.threshold; limit = x }) b

-- into a record of zeros, the rest is as it has to be
zeros_are_store : (s : Shape) → is_store_record (with_shape ZEROS s) ≡ true
unfolding field with_field with_bytes as_64 zeros_from
zeros_are_store s = refl

-- an allowed shape that was written into a record of zeros is read back
pub shape_reads_back : (s : Shape) → s.threshold < 2 ^ 16 → s.limit < 2 ^ 32 → is_allowed s ≡ true → shape_of_record (with_shape ZEROS s) ≡ Some s
shape_reads_back s threshold limit allowed =
    let same = numbers_read_back ZEROS s threshold limit in
    ap (λ b. cond (b && is_allowed (numbers_of_shape (with_shape ZEROS s))) (Some (numbers_of_shape (with_shape ZEROS s))) None) (zeros_are_store s)
    ∙ ap (λ t. cond (is_allowed t) (Some t) None) same ∙ ap (λ b. cond b (Some s) None) allowed

-- and the version that was written is the newest
pub version_reads_back : (r : Rec) (s : Shape) → version_of (with_shape r s) ≡ newest_version
version_reads_back r s =
    let one = with_field 2 (with_mark r) 4 3 in
    let two = with_field 2 one 6 s.threshold in
    field-with_field_other 4 two 8 s.limit 2 4 (omega arith) (inr (omega arith))
    ∙ field-with_field_other 2 one 6 s.threshold 2 4 (omega arith) (inr (omega arith))
    ∙ field-with_field_same 2 (with_mark r) 4 3 (omega arith) (omega arith)
