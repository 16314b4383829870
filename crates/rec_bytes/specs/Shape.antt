-- The record of a store's shape, which is record 0 of the meta file.
use Rattle.std.specs.Prelude.{ℕ, Bool, ◌&&◌, nat_eq, nat_le, Option, Some, None, if◌then◌else◌}
use Rattle.std.specs.List.{starts_with}
use Rattle.rec_bytes.specs.declared.record.Rec.{Rec}
use Rattle.rec_bytes.specs.declared.shape.Shape.{Shape}
use Rattle.rec_bytes.specs.Format.{
  least_threshold,
  greatest_threshold,
  least_limit,
  greatest_limit,
  mark,
  first_version,
  newest_version,
  store_mark,
  store_version,
  store_threshold,
  store_limit,
  store_rest,
}
use Rattle.rec_bytes.specs.Record.{as_64, field, with_bytes, with_field, zeros, zeros_from}

-- both numbers are within what a store may have
abbrev pub is_allowed : Shape → Bool
is_allowed shape =
    nat_le least_threshold shape.threshold && nat_le shape.threshold greatest_threshold
    && nat_le least_limit shape.limit && nat_le shape.limit greatest_limit

-- the version of the format that a store's own record says
abbrev pub version_of : Rec → ℕ
version_of r = field 2 r store_version

-- the versions from the first to the newest
abbrev pub is_version : ℕ → Bool
is_version version = nat_le first_version version && nat_le version newest_version

-- the mark stands in front, the version is known, and nothing stands behind
abbrev pub is_store_record : Rec → Bool
is_store_record r =
    starts_with nat_eq r.bytes mark && is_version (version_of r) && zeros_from store_rest r

-- two numbers, one behind the other
abbrev pub numbers_of_shape : Rec → Shape
numbers_of_shape r = record { threshold = field 2 r store_threshold; limit = field 4 r store_limit }

-- the shape that the record says, where it is of this format and the shape is allowed
abbrev pub shape_of_record : Rec → Option Shape
shape_of_record r =
    if is_store_record r && is_allowed (numbers_of_shape r) then Some (numbers_of_shape r) else None

-- the record with the mark in front
abbrev pub with_mark : Rec → Rec
with_mark r = record { bytes = with_bytes (as_64 r.bytes) store_mark mark }

-- the record with the mark, the newest version and this shape
abbrev pub with_shape : Rec → Shape → Rec
with_shape r shape =
    with_field 4
    (with_field 2 (with_field 2 (with_mark r) store_version newest_version)
    store_threshold shape.threshold)
    store_limit shape.limit

-- a store's own record
abbrev pub shape_record : Shape → Rec
shape_record shape = with_shape zeros shape
