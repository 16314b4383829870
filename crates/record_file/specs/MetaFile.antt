-- The records of the meta file in memory.
use Rattle.std.specs.Prelude.{
  ◌≡◌,
  ℕ,
  ◌*◌,
  ◌<◌,
  nat_eq,
  nat_lt,
  ◌&&◌,
  if◌then◌else◌,
  List,
  Option,
  None,
  Some,
  replicate,
  unwrap_or,
}
use Rattle.std.specs.List.{slice_get}
use Rattle.rec_bytes.specs.declared.key.Key.{Key}
use Rattle.rec_bytes.specs.declared.record.Rec.{Rec}
use Rattle.rec_bytes.specs.Format.{meta_file, meta_records, record_bytes}
use Rattle.rec_bytes.specs.Record.{zeros}
use Rattle.rec_bytes.specs.RecordFiles.{meta_key_of}

-- how many bytes they take
abbrev pub meta_bytes : ℕ
meta_bytes = meta_records * record_bytes

-- records of zeros
abbrev pub blank_metas : List Rec
blank_metas = replicate meta_records zeros

-- the one at a key, where it is a meta record's
abbrev pub find_meta : List Rec → Key → Option Rec
find_meta metas key =
    if nat_eq key.file meta_file && nat_lt key.id meta_records then slice_get metas key.id else None

-- records with those of the meta file from memory
abbrev pub with_metas : List Rec → (Key → Rec) → Key → Rec
with_metas metas records key = unwrap_or (find_meta metas key) (records key)

-- each is the one of these records
abbrev pub AreMetasOf : (Key → Rec) → List Rec → Type 0
AreMetasOf records metas =
    (id : ℕ) → id < meta_records → slice_get metas id ≡ Some (records (meta_key_of id))
