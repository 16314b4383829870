-- The record of a relationship is read back, and it fits.
use Rattle.std.proofs.Common.{◌≡◌, ◌⊎◌, ⊎_elim, ℕ, ◌+◌, ◌%◌, ◌^◌, ◌<◌, ◌≤◌, true, false, Some, get_or, drop, refl, ap, ◌∙◌, arith}
use Rattle.std.specs.List.{list_any}
use Rattle.std.specs.Prelude.{replicate}
use Rattle.std.proofs.lemmas.Bool.{cases_lt}
use Rattle.std.proofs.lemmas.List.{get_or-drop, get_or-replicate}
use Rattle.std.proofs.lemmas.Bool.Decides.{nat_tests}
use Rattle.rec_bytes.specs.Format as format
use Rattle.rec_bytes.specs.Record.{field, zeros}
use Rattle.rec_bytes.specs.Tables.{AllFit, field_at, is_clear}
use Rattle.rec_bytes.proofs.Tables.{field-with_fields, field-with_fields_other}
use Rattle.store_rules.specs.Ranges.{IsBlankOutside, is_in}
use Rattle.rel_store.specs.declared.rel_row.RelRow.{RelRow}
use Rattle.rel_store.specs.RelRecord.{rel_fields, rel_record, rel_used, row_of}

-- a record can hold the numbers of the row
pub record HasNumbers (row : RelRow) : Type 0 where
  pub label : row.label < 2 ^ 32
  pub from : row.from < 2 ^ 32
  pub to : row.to < 2 ^ 32
  pub source_previous : row.source_previous < 2 ^ 32
  pub source_next : row.source_next < 2 ^ 32
  pub target_previous : row.target_previous < 2 ^ 32
  pub target_next : row.target_next < 2 ^ 32
  pub property : row.property < 2 ^ 32

all_fit : (row : RelRow) → HasNumbers row → AllFit (rel_fields row)
all_fit row small = (
  omega arith,
  (small.label, (small.from, (small.to, (small.source_previous, (small.source_next, (small.target_previous, (small.target_next, (small.property, tt)))))))),
)

-- each number is read back
pub kind-rel_record : (row : RelRow) → HasNumbers row → field 1 (rel_record row) format.kind ≡ format.related
kind-rel_record row small = field-with_fields 1 zeros (rel_fields row) format.kind format.related refl (all_fit row small) refl

pub number-rel_record : (row : RelRow) (at value : ℕ) → HasNumbers row → field_at (rel_fields row) 4 at ≡ Some value → field 4 (rel_record row) at ≡ value
number-rel_record row at value small is = field-with_fields 4 zeros (rel_fields row) at value refl (all_fit row small) is

-- the row of the record is the row
pub row_of-rel_record : (row : RelRow) → HasNumbers row → row_of (rel_record row) row.id ≡ row
row_of-rel_record row small = λ i. record {
  id = row.id;
  label = number-rel_record row format.relationship_type row.label small refl i;
  from = number-rel_record row format.relationship_source row.from small refl i;
  to = number-rel_record row format.relationship_target row.to small refl i;
  source_previous = number-rel_record row format.relationship_source_previous row.source_previous small refl i;
  source_next = number-rel_record row format.relationship_source_next row.source_next small refl i;
  target_previous = number-rel_record row format.relationship_target_previous row.target_previous small refl i;
  target_next = number-rel_record row format.relationship_target_next row.target_next small refl i;
  property = number-rel_record row format.relationship_first_property row.property small refl i;
}

-- a byte that no number has
outside : (row : RelRow) (i : ℕ) → list_any (is_in i) rel_used ≡ false → is_clear i 1 (rel_fields row) ≡ true
outside row i out = ⊎_elim (λ (low : i < 4). grind (arith, nat_tests)) (λ (high : 4 ≤ i). grind (arith, nat_tests)) (cases_lt i 4)

pub byte-zeros : (i : ℕ) → i < 64 → field 1 zeros i ≡ 0
unfolding field
byte-zeros i lt =
    let byte : get_or (drop i zeros.bytes) 0 0 ≡ 0 = get_or-drop i (replicate 64 0) 0 0 ∙ get_or-replicate 64 (i + 0) 0 0 (omega arith) in
    ap (λ b. (b + 0) % 256) byte

-- each byte that no number has is zero
pub blank-rel_record : (row : RelRow) → IsBlankOutside rel_used (rel_record row)
blank-rel_record row = λ i lt out. field-with_fields_other 1 zeros (rel_fields row) i (omega arith) (outside row i out) ∙ byte-zeros i lt
