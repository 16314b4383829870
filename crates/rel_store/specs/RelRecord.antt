-- The record of a relationship, and the row that it is.
use Rattle.std.specs.Prelude.{ℕ, Bool, nat_eq, List, [], ◌∷◌}
use Rattle.rec_bytes.specs.declared.damage.Damage.{Damage}
use Rattle.rec_bytes.specs.declared.key.Key.{Key}
use Rattle.rec_bytes.specs.declared.record.Rec.{Rec}
use Rattle.rec_bytes.specs.Format as format
use Rattle.rec_bytes.specs.Record.{field, zeros}
use Rattle.rec_bytes.specs.Tables.{Fields, with_fields}
use Rattle.store_rules.specs.Ranges.{Range, bytes_of}
use Rattle.row_store.specs.Loading as rows
use Rattle.rel_store.specs.declared.edge_row.EdgeRow.{EdgeRow}
use Rattle.rel_store.specs.declared.rel_row.RelRow.{RelRow}

abbrev pub rel_key : ℕ → Key
rel_key id = record { file = format.relationships_file; id = id }

-- the relationship's record breaks the first rule
abbrev pub range_damage : ℕ → Damage
range_damage id = rows.range_damage format.relationships_file id

-- the numbers of the record, each with its place and its width
abbrev pub rel_fields : RelRow → Fields
rel_fields row =
    (format.kind, 1, format.related) ∷ (format.relationship_type, 4, row.label)
    ∷ (format.relationship_source, 4, row.from) ∷ (format.relationship_target, 4, row.to)
    ∷ (format.relationship_source_previous, 4, row.source_previous)
    ∷ (format.relationship_source_next, 4, row.source_next)
    ∷ (format.relationship_target_previous, 4, row.target_previous)
    ∷ (format.relationship_target_next, 4, row.target_next)
    ∷ (format.relationship_first_property, 4, row.property) ∷ []

abbrev pub rel_record : RelRow → Rec
rel_record row = with_fields zeros (rel_fields row)

-- the bytes of the numbers
abbrev pub rel_used : List Range
rel_used = bytes_of format.kind 1 ∷ bytes_of format.relationship_type 32 ∷ []

-- the fields of the record of a relationship in use
abbrev pub row_of : Rec → ℕ → RelRow
row_of rec id = record {
  id = id;
  label = field 4 rec format.relationship_type;
  from = field 4 rec format.relationship_source;
  to = field 4 rec format.relationship_target;
  source_previous = field 4 rec format.relationship_source_previous;
  source_next = field 4 rec format.relationship_source_next;
  target_previous = field 4 rec format.relationship_target_previous;
  target_next = field 4 rec format.relationship_target_next;
  property = field 4 rec format.relationship_first_property;
}

-- those of them that are no link and no property
abbrev pub edge_of : Rec → ℕ → EdgeRow
edge_of rec id = record {
  id = id;
  label = field 4 rec format.relationship_type;
  from = field 4 rec format.relationship_source;
  to = field 4 rec format.relationship_target;
}

-- the kind of a relationship
abbrev pub is_rel_kind : ℕ → Bool
is_rel_kind kind = nat_eq kind format.related
