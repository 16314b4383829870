-- The free list of a file, and a count of what is in use.
use Rattle.std.specs.Prelude.{◌≡◌, ℕ, ◌<◌, true, false, Bool, List, length, nat_eq}
use Rattle.rec_bytes.specs.Format as format
use Rattle.rec_bytes.specs.Record.{field}
use Rattle.store_rules.specs.Rows.{ids}
use Rattle.store_rules.specs.Views.{Records, high, is_live}
use Rattle.store_check.specs.declared.free.Counted.{Counted}
use Rattle.store_check.specs.declared.free.Counted.TheVariants.{Live, OffList}
use Rattle.record_lists.specs.Lines.{LineKind}
use Rattle.record_lists.specs.Seen.{is_seen}

-- the free list of a file as a line
abbrev pub free_line : ℕ → LineKind
free_line file = record {
  file = file;
  next = λ r. field 4 r format.free_next;
  fits = λ before x r. nat_eq (field 1 r format.kind) format.free_kind;
}

-- what a count of the records in use has found: how many, or one that isn't in use and was not seen
abbrev pub IsCounted : Records → ℕ → List Bool → Counted → Type 0
IsCounted records file seen (Live n) =
    (n ≡ length (ids (is_live records file) (high records file)))
    × ((x : ℕ) → x < high records file → is_live records file x ≡ false → is_seen seen x ≡ true)
IsCounted records file seen (OffList x) =
    (x < high records file) × (is_live records file x ≡ false) × (is_seen seen x ≡ false)
