-- Lists of records that follow links, as a walk with a test of each record finds them.
use Rattle.std.specs.Prelude.{◌≡◌, ℕ, ◌<◌, Bool, true, not, nat_eq, List, [], ◌∷◌}
use Rattle.rec_bytes.specs.declared.record.Rec.{Rec}
use Rattle.rec_bytes.specs.Format as format
use Rattle.rec_bytes.specs.Record.{field}
use Rattle.store_rules.specs.Views.{Records, rec_at}

-- The links lead from one identifier through just these, and end. Each is below the mark, and may
-- stand after the one before it.
abbrev pub IsLine : (ℕ → ℕ) → (ℕ → ℕ → Bool) → ℕ → ℕ → ℕ → List ℕ → Type 0
IsLine next fits high before from [] = from ≡ format.nil
IsLine next fits high before from (x ∷ xs) =
    (from ≡ x) × (x < high) × (fits before x ≡ true) × IsLine next fits high x (next x) xs

-- What a kind of line reads of its records.
pub record LineKind : Type 0 where
  pub file : ℕ
  pub next : Rec → ℕ
  pub fits : ℕ → ℕ → Rec → Bool

-- the records of a kind of line make this list
abbrev pub IsLineIn : LineKind → Records → ℕ → ℕ → List ℕ → Type 0
IsLineIn kind records high first xs =
    IsLine (λ x. kind.next (rec_at records kind.file x))
    (λ before x. kind.fits before x (rec_at records kind.file x)) high format.nil first xs

-- the records in use of a file, by the link at a place
abbrev pub live_line : ℕ → ℕ → LineKind
live_line file place = record {
  file = file;
  next = λ r. field 4 r place;
  fits = λ before x r. not (nat_eq (field 1 r format.kind) format.free_kind);
}
