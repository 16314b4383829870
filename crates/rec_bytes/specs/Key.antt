-- Keys, by file and then by number.
use Rattle.std.specs.Prelude.{◌≡◌, Bool, true, ◌&&◌, ◌<◌, nat_eq}
use Rattle.std.specs.declared.cmp.Ordering.{Ordering}
use Rattle.std.specs.Ordering.{ordering_then, nat_cmp}
use Rattle.rec_bytes.specs.declared.key.Key.{Key}
use Rattle.rec_bytes.specs.Format.{most_ids}
use Rattle.rec_bytes.specs.RecordFiles.{is_record_file}

-- the keys are the same
abbrev pub key_eq : Key → Key → Bool
key_eq a b = nat_eq a.file b.file && nat_eq a.id b.id

-- by file, and then by number
abbrev pub key_cmp : Key → Key → Ordering
key_cmp a b = ordering_then (nat_cmp a.file b.file) (nat_cmp a.id b.id)

-- a store can have a record of this key
pub record IsKey (key : Key) : Type 0 where
  pub file : is_record_file key.file ≡ true
  pub id : key.id < most_ids
