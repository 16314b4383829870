-- The first records of a store.
use Rattle.std.specs.Prelude.{[], ◌∷◌, map, nat_lt, if◌then◌else◌}
use Rattle.rec_bytes.specs.declared.key.Key.{Key}
use Rattle.rec_bytes.specs.declared.record.Rec.{Rec}
use Rattle.rec_bytes.specs.declared.shape.Shape.{Shape}
use Rattle.rec_bytes.specs.Format.{index_file, meta_file, newest_version, own_id}
use Rattle.rec_bytes.specs.Meta.{first_meta}
use Rattle.rec_bytes.specs.Pairs.{Pairs}
use Rattle.rec_bytes.specs.RecordFiles.{meta_files, meta_key_of}
use Rattle.rec_bytes.specs.Shape.{shape_record, version_of}
use Rattle.rec_bytes.specs.Space.{blank_records, laid_over}

-- the key of the store's own record
abbrev pub own_key : Key
own_key = record { file = meta_file; id = own_id }

-- the store's own record, and then for each other file of records that nothing was given out
abbrev pub creation_pairs : Shape → Pairs
creation_pairs shape =
    (own_key, shape_record shape) ∷ map (λ file. (meta_key_of file, first_meta file)) meta_files

-- what opening puts into a store of an older version: the own record of the newest one, and that no
-- index was made
abbrev pub raising_pairs : Shape → Pairs
raising_pairs shape =
    (own_key, shape_record shape) ∷ (meta_key_of index_file, first_meta index_file) ∷ []

-- the records of a store of this shape, of whatever version, as they are in the newest one
abbrev pub raised : Shape → (Key → Rec) → Key → Rec
raised shape records =
    if nat_lt (version_of (records own_key)) newest_version
    then laid_over records (raising_pairs shape) else records

-- the records of a store with no other record
abbrev pub new_records : Shape → Key → Rec
new_records shape = laid_over blank_records (creation_pairs shape)
