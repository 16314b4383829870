-- The layouts of the code, as those of the first rule.
use Rattle.std.specs.Prelude.{◌≡◌, ℕ, ◌+◌, Bool, true, ◌&&◌, nat_le, Option, None, Some}
use Rattle.std.specs.Prelude.{◌<◌, false, List}
use Rattle.std.specs.List.{list_any}
use Rattle.rec_bytes.specs.declared.record.Rec.{Rec}
use Rattle.rec_bytes.specs.Record.{field}
use Rattle.rec_bytes.specs.RecordFiles.{is_meta_file}
use Rattle.store_rules.specs.Ranges as ranges
use Rattle.store_check.specs.declared.layout.Pointer.{Pointer}
use Rattle.store_check.specs.declared.layout.Range.{Range}

abbrev pub pointer_of : Pointer → ranges.Pointer
pointer_of p = record { place = p.place; into = p.into; optional = p.optional }

-- the same number at another place
abbrev pub pointer_like : Pointer → ℕ → ranges.Pointer
pointer_like p place = record { place = place; into = p.into; optional = p.optional }

abbrev pub range_of : Range → ranges.Range
range_of r = record { at = r.at; size = r.size }

-- the number stands in the record, and names a record of a file that has a meta record
abbrev pub is_placed : Pointer → Bool
is_placed p = nat_le (p.place + 4) 64 && is_meta_file p.into

-- the place is among these bytes
abbrev pub has_place : ℕ → Range → Bool
has_place place r = ranges.is_in place (range_of r)

-- each byte of the record that is not among these is zero
abbrev pub IsBlankBut : List Range → Rec → Type 0
IsBlankBut used r = (i : ℕ) → i < 64 → list_any (has_place i) used ≡ false → field 1 r i ≡ 0

-- the number is right in the record
abbrev pub is_right_in : (ℕ → ℕ) → Rec → Pointer → Bool
is_right_in seen r p = ranges.points seen r (pointer_of p)

-- there is a layout, and the record has it
pub record HasLayout (seen : ℕ → ℕ) (r : Rec) (layout : ranges.Layout) : Type 0 where
  pub point : ranges.all_point seen r layout.pointers ≡ true
  pub blank : ranges.IsBlankOutside layout.used r

abbrev pub HasLayoutOf : (ℕ → ℕ) → Rec → Option ranges.Layout → Type 0
HasLayoutOf seen r None = ⊥
HasLayoutOf seen r (Some layout) = HasLayout seen r layout
