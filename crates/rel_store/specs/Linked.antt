-- The four links of a relationship.
use Rattle.std.specs.Prelude.{ℕ, Bool, nat_eq, if◌then◌else◌, [], ◌∷◌}
use Rattle.std.specs.List.{list_any}
use Rattle.rec_bytes.specs.declared.record.Rec.{Rec}
use Rattle.rec_bytes.specs.Format as format
use Rattle.rec_bytes.specs.Record.{field, with_field}
use Rattle.rel_store.specs.declared.rel_row.RelRow.{RelRow}

-- the place is a link's
abbrev pub is_link : ℕ → Bool
is_link at = list_any (nat_eq at)
    (format.relationship_source_previous ∷ format.relationship_source_next
    ∷ format.relationship_target_previous ∷ format.relationship_target_next ∷ [])

-- the link at a place of the record
abbrev pub link_in : Rec → ℕ → ℕ
link_in rec at = field 4 rec at

abbrev pub with_link_in : Rec → ℕ → ℕ → Rec
with_link_in rec at to = with_field 4 rec at to

-- the link of the row that stands at a place of its record
abbrev pub link_in_row : RelRow → ℕ → ℕ
link_in_row row at =
    if nat_eq at format.relationship_source_previous then row.source_previous
    else (if nat_eq at format.relationship_source_next then row.source_next
    else (if nat_eq at format.relationship_target_previous then row.target_previous
    else row.target_next))

abbrev pub with_link_in_row : RelRow → ℕ → ℕ → RelRow
with_link_in_row row at to =
    if nat_eq at format.relationship_source_previous then record row { source_previous = to }
    else (if nat_eq at format.relationship_source_next then record row { source_next = to }
    else (if nat_eq at format.relationship_target_previous then record row { target_previous = to }
    else record row { target_next = to }))

-- the previous and the next link that a chain of the node uses
abbrev pub end_links : RelRow → ℕ → ℕ × ℕ
end_links row node =
    if nat_eq row.from node then (row.source_previous, row.source_next)
    else (row.target_previous, row.target_next)
