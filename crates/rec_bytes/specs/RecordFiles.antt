-- The files of records, by one list, and their meta records.
use Rattle.std.specs.Prelude.{ℕ, ◌*◌, Bool, not, nat_eq, List, [], ◌∷◌, map, filter, if◌then◌else◌}
use Rattle.std.specs.List.{list_any}
use Rattle.rec_bytes.specs.declared.key.Key.{Key}
use Rattle.rec_bytes.specs.declared.shape.Shape.{Shape}
use Rattle.rec_bytes.specs.declared.record_files.RecordFile.{RecordFile}
use Rattle.rec_bytes.specs.declared.record_files.RecordRoom.{RecordRoom}
use Rattle.rec_bytes.specs.declared.record_files.RecordRoom.TheVariants.{Fixed, Limit, TwiceLimit}
use Rattle.rec_bytes.specs.Format.{
  meta_file,
  nodes_file,
  relationships_file,
  groups_file,
  properties_file,
  strings_file,
  names_file,
  index_file,
  meta_records,
  most_names,
}

-- how many records a file of this room has in a store of this shape
abbrev pub records_of : RecordRoom → Shape → ℕ
records_of (Fixed n) shape = n
records_of Limit shape = shape.limit
records_of TwiceLimit shape = 2 * shape.limit

abbrev pub Rooms : Type 0
Rooms = List (ℕ × RecordRoom)

-- each file of records by ascending number, with its room
abbrev pub record_rooms : Rooms
record_rooms =
    (meta_file, Fixed meta_records) ∷ (nodes_file, Limit) ∷ (relationships_file, Limit)
    ∷ (groups_file, TwiceLimit)
    ∷ (properties_file, Limit) ∷ (strings_file, Limit) ∷ (names_file, Fixed most_names)
    ∷ (index_file, TwiceLimit) ∷ []

-- those that have a meta record: all but the meta file
abbrev pub meta_rooms : Rooms
meta_rooms = filter (λ room. not (nat_eq room.0 meta_file)) record_rooms

abbrev pub record_files : List ℕ
record_files = map (λ room. room.0) record_rooms

abbrev pub meta_files : List ℕ
meta_files = map (λ room. room.0) meta_rooms

abbrev pub is_record_file : ℕ → Bool
is_record_file file = list_any (nat_eq file) record_files

abbrev pub is_meta_file : ℕ → Bool
is_meta_file file = list_any (nat_eq file) meta_files

-- how many records a file of the list has, and none if it isn't there
abbrev pub room_in : Rooms → Shape → ℕ → ℕ
room_in [] shape file = 0
room_in (room ∷ rest) shape file =
    if nat_eq file room.0 then records_of room.1 shape else room_in rest shape file

abbrev pub room_of : Shape → ℕ → ℕ
room_of shape file = room_in record_rooms shape file

-- the files of the code, as the lists above have them
abbrev pub rooms_of : List RecordFile → Rooms
rooms_of files = map (λ entry. (entry.file, entry.room)) files

-- the record of the meta file with the file's number
abbrev pub meta_key_of : ℕ → Key
meta_key_of file = record { file = meta_file; id = file }
