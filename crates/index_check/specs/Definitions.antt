-- The definitions of a space, as a check reads them.
use Rattle.std.specs.Prelude.{◌≡◌, ℕ, ◌/◌, ◌<◌, ◌≤◌, Bool, not, ◌&&◌, nat_eq, cond, Option}
use Rattle.std.specs.Prelude.{None, Some, List, [], ◌∷◌}
use Rattle.std.specs.List.{All, list_any}
use Rattle.std.proofs.Common.{get_or}
use Rattle.rec_bytes.specs.Format as format
use Rattle.rec_bytes.specs.Record.{field}
use Rattle.record_lists.specs.Lines.{LineKind}
use Rattle.store_rules.specs.Indexes.{indexed_key, indexed_label}
use Rattle.store_rules.specs.Views.{Records, high}
use Rattle.index_check.specs.declared.definitions.Definition.{Definition}

-- the definitions from one on
abbrev pub definition_line : LineKind
definition_line = record {
  file = format.index_file;
  next = λ r. field 4 r format.definition_next;
  fits = λ before x r. nat_eq (field 1 r format.kind) format.definition;
}

-- the definition that a number belongs to, of so many numbers for each of these
abbrev pub definition_of : ℕ → List ℕ → ℕ → ℕ
definition_of count ids k = get_or ids (k / count) 0

-- a definition as its record has it
abbrev pub definition_at : Records → ℕ → Definition
definition_at records d =
    record { id = d; label = indexed_label records d; key = indexed_key records d }

-- two definitions are of one label and key
abbrev pub are_twins : Definition → Definition → Bool
are_twins one other =
    not (nat_eq one.id other.id) && (nat_eq one.label other.label && nat_eq one.key other.key)

-- the first of these that is a twin of one of all
unfoldable pub twin_in : List Definition → List Definition → Option ℕ
twin_in all [] = None
twin_in all (d ∷ later) = cond (list_any (are_twins d) all) (Some d.id) (twin_in all later)

-- the mark is that of the records of the index, and low, and so are the definitions
pub record AreIdsLow (ids : List ℕ) (mark : ℕ) (records : Records) : Type 0 where
  pub records_are : mark ≡ high records format.index_file
  pub few : high records format.index_file ≤ format.most_ids
  pub low : All (λ x. x < format.most_ids) ids
