-- Several numbers of a record at once.
use Rattle.std.specs.Prelude.{
  ℕ,
  ◌+◌,
  ◌<◌,
  ◌^◌,
  Bool,
  true,
  ◌&&◌,
  ◌||◌,
  nat_eq,
  nat_le,
  List,
  [],
  ◌∷◌,
  Option,
  None,
  Some,
  if◌then◌else◌,
}
use Rattle.rec_bytes.specs.declared.record.Rec.{Rec}
use Rattle.rec_bytes.specs.Format.{record_bytes}
use Rattle.rec_bytes.specs.Record.{with_field}

-- places, how many bytes stand there, and the number that they are
abbrev pub Fields : Type 0
Fields = List (ℕ × ℕ × ℕ)

-- the record with each number written at its place
unfoldable pub with_fields : Rec → Fields → Rec
with_fields r [] = r
with_fields r (f ∷ fs) = with_fields (with_field f.1 r f.0 f.2) fs

-- the n bytes from a place stand apart from the m bytes from another
abbrev pub are_apart : ℕ → ℕ → ℕ → ℕ → Bool
are_apart at n other m = nat_le (at + n) other || nat_le (other + m) at

-- they stand apart from all of the table
abbrev pub is_clear : ℕ → ℕ → Fields → Bool
is_clear at n [] = true
is_clear at n (f ∷ fs) = are_apart at n f.0 f.1 && is_clear at n fs

-- the places are in the record, and stand apart
abbrev pub is_table : Fields → Bool
is_table [] = true
is_table (f ∷ fs) = nat_le (f.0 + f.1) record_bytes && is_clear f.0 f.1 fs && is_table fs

-- the numbers fit their places
abbrev pub AllFit : Fields → Type 0
AllFit [] = Unit {0}
AllFit (f ∷ fs) = (f.2 < 256 ^ f.1) × AllFit fs

-- the number of the n bytes at a place
abbrev pub field_at : Fields → ℕ → ℕ → Option ℕ
field_at [] n at = None
field_at (f ∷ fs) n at = if nat_eq at f.0 && nat_eq n f.1 then Some f.2 else field_at fs n at
