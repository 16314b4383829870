-- What a meta record says of its file.
use Rattle.std.specs.Prelude.{◌≡◌, ◌⊎◌, ℕ, ◌<◌, ◌≤◌, Bool, true, nat_eq, if◌then◌else◌}
use Rattle.rec_bytes.specs.declared.record.Rec.{Rec}
use Rattle.rec_bytes.specs.declared.meta.Meta.{Meta}
use Rattle.rec_bytes.specs.declared.shape.Shape.{Shape}
use Rattle.rec_bytes.specs.Format.{
  index_file,
  meta_definition,
  meta_free,
  meta_high,
  meta_index_rest,
  meta_live,
  meta_rest,
  nil,
}
use Rattle.rec_bytes.specs.Record.{field, with_field, zeros, zeros_from}
use Rattle.rec_bytes.specs.RecordFiles.{room_of}

-- three numbers, one behind the other
abbrev pub meta_of : Rec → Meta
meta_of r =
    record { high = field 4 r meta_high; free = field 4 r meta_free; live = field 4 r meta_live }

-- the record with these three numbers
abbrev pub with_meta : Rec → Meta → Rec
with_meta r m =
    with_field 4 (with_field 4 (with_field 4 r meta_high m.high) meta_free m.free) meta_live m.live

-- the meta record of these numbers
abbrev pub meta_record : Meta → Rec
meta_record m = with_meta zeros m

-- of a file in which nothing was given out
abbrev pub empty_meta : Meta
empty_meta = record { high = 0; free = nil; live = 0 }

-- that of the index names the first definition behind the three numbers
abbrev pub has_definition : ℕ → Bool
has_definition file = nat_eq file index_file

-- the meta record of a file in which nothing was given out
abbrev pub first_meta : ℕ → Rec
first_meta file =
    if has_definition file then with_field 4 (meta_record empty_meta) meta_definition nil
    else meta_record empty_meta

-- from this place on a file's meta record has zeros
abbrev pub rest_of : ℕ → ℕ
rest_of file = if has_definition file then meta_index_rest else meta_rest

-- a link to a record below the mark, or to none
abbrev pub IsLinkBelow : ℕ → ℕ → Type 0
IsLinkBelow link high = (link ≡ nil) ⊎ (link < high)

-- rule 1 for the meta record of a file in a store of this shape: what was given out stays within
-- the file's room, the links below that, and nothing stands behind
pub record IsMetaInRange (shape : Shape) (file : ℕ) (rec : Rec) : Type 0 where
  pub high : (meta_of rec).high ≤ room_of shape file
  pub free : IsLinkBelow (meta_of rec).free (meta_of rec).high
  pub first :
      has_definition file ≡ true → IsLinkBelow (field 4 rec meta_definition) (meta_of rec).high
  pub rest : zeros_from (rest_of file) rec ≡ true
