-- What a row that is found, or isn't, says of the records.
use Rattle.std.proofs.Common.{◌≡◌, ◌≢◌, ℕ, nat_eq, Bool, true, false, cond, None, Some, refl, ap, ◌∙◌}
use Rattle.rec_bytes.specs.Format as format
use Rattle.rec_bytes.specs.Space.{State}
use Rattle.store_rules.specs.Ranges.{AreInRange}
use Rattle.store_rules.specs.Views as views
use Rattle.store_rules.specs.Views.{Records, kind_at, rec_at, rel_at, rel_in, row_if}
use Rattle.store_rules.proofs.ViewLaws.{row_some, some_row}
use Rattle.rel_store.specs.declared.rel_row.RelRow.{RelRow}
use Rattle.rel_store.specs.Loading.{IsReadable, row_at}
use Rattle.rel_store.specs.RelRecord.{row_of}

-- a row: the identifier is live, and the row is its record's
pub kind-row_at-Some : (records : Records) (id : ℕ) (row : RelRow) → row_at records id ≡ Some row
    → (kind_at records format.relationships_file id ≢ 0) × (row_of (rec_at records format.relationships_file id) id ≡ row)
kind-row_at-Some records id row e = some_row (kind_at records format.relationships_file id) (row_of (rec_at records format.relationships_file id) id) row e

-- where all records are in range, a load says of none that it is damaged
pub IsReadable-AreInRange : (s : State) (id : ℕ) → AreInRange s.records s.shape → IsReadable s id
IsReadable-AreInRange s id ranges = record {
  mark = (ranges.metas format.relationships_file refl).high;
  kind = λ lt none. let fits = ranges.fit format.relationships_file id refl lt in absurd cc;
}

-- the same relationship as the rules know it
abbrev pub rule_row : RelRow → views.RelRow
rule_row row = record { id = row.id; label = row.label; from = row.from; to = row.to; property = row.property }

pub rel_at-Some : (records : Records) (id : ℕ) (row : RelRow) → row_at records id ≡ Some row → rel_at records id ≡ Some (rule_row row)
rel_at-Some records id row e =
    let found = kind-row_at-Some records id row e in
    row_some (kind_at records format.relationships_file id) (rel_in (rec_at records format.relationships_file id) id) found.0
    ∙ ap (λ (r : RelRow). Some (rule_row r)) found.1

pub rel_at-None : (records : Records) (id : ℕ) → row_at records id ≡ None → rel_at records id ≡ None
rel_at-None records id e = none_if (kind_at records format.relationships_file id) (row_of (rec_at records format.relationships_file id) id)
    (rel_in (rec_at records format.relationships_file id) id) e
  where
    none_if : (kind : ℕ) (row : RelRow) (other : views.RelRow) → row_if kind row ≡ None → row_if kind other ≡ None
    none_if kind row other h = by (nat_eq kind 0) h
      where
        by : (free : Bool) → cond free None (Some row) ≡ None → cond free None (Some other) ≡ None
        by true h = refl
        by false h = absurd cc
