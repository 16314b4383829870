-- The files of records: facts of each of them, and the code's list read as the format's.
use Rattle.std.proofs.Common.{◌≡◌, ◌≢◌, ℕ, ◌<◌, ◌≤◌, Bool, true, false, cond, ◌||◌, ◌&&◌, nat_eq, nat_lt, List, [], ◌∷◌, refl, ap, arith}
use Rattle.std.specs.Prelude.{map, nat_le, not}
use Rattle.std.specs.List.{list_any, list_all}
use Rattle.std.proofs.lemmas.Bool.Decides.{nat_tests}
use Rattle.rec_bytes.specs.declared.key.Key.{Key}
use Rattle.rec_bytes.specs.declared.shape.Shape.{Shape}
use Rattle.rec_bytes.specs.declared.record_files.RecordFile.{RecordFile}
use Rattle.rec_bytes.specs.declared.record_files.TheConstants.{RECORD_FILES}
use Rattle.rec_bytes.specs.Format.{log_file, meta_file, meta_records, most_ids, taken_id}
use Rattle.rec_bytes.specs.Key.{IsKey}
use Rattle.rec_bytes.specs.RecordFiles.{Rooms, is_meta_file, is_record_file, meta_files, record_files, record_rooms, room_in, room_of, records_of, rooms_of}
use Rattle.rec_bytes.specs.Shape.{is_allowed}

-- the code's list
pub record_files_are : rooms_of RECORD_FILES ≡ record_rooms
record_files_are = refl

-- what is true of each number of a list is true of one that is among them
pub passes : (test : ℕ → Bool) (files : List ℕ) (file : ℕ) → list_all test files ≡ true → list_any (nat_eq file) files ≡ true → test file ≡ true
passes test [] file all any = absurd cc
passes test (one ∷ rest) file all any = pick (nat_eq file one) (test one) (λ e. let same : file ≡ one = grind (arith, nat_tests) in ap test same)
    (passes test rest file) all any
  where
    pick : (here ok : Bool) → (here ≡ true → test file ≡ ok) → (list_all test rest ≡ true → list_any (nat_eq file) rest ≡ true → test file ≡ true)
        → (ok && list_all test rest) ≡ true → (here || list_any (nat_eq file) rest) ≡ true → test file ≡ true
    pick true true h later all any = h refl
    pick false true h later all any = later all any
    pick here false h later all any = absurd cc

-- each file of records has a record of its number in the meta file
pub is_record_file-low : (file : ℕ) → is_record_file file ≡ true → file < meta_records
is_record_file-low file h = let low = passes (λ f. nat_lt f meta_records) record_files file refl h in grind (arith, nat_tests)

pub is_record_file-not_log : (file : ℕ) → is_record_file file ≡ true → file ≢ log_file
is_record_file-not_log file h = let other = passes (λ f. not (nat_eq f log_file)) record_files file refl h in grind (arith, nat_tests)

pub is_meta_file-record : (file : ℕ) → is_meta_file file ≡ true → is_record_file file ≡ true
is_meta_file-record file h = passes is_record_file meta_files file refl h

pub is_meta_file-not_meta : (file : ℕ) → is_meta_file file ≡ true → file ≢ meta_file
is_meta_file-not_meta file h = let other = passes (λ f. not (nat_eq f meta_file)) meta_files file refl h in grind (arith, nat_tests)

-- the record of the last transaction that was taken over is no file's
pub is_meta_file-not_taken : (file : ℕ) → is_meta_file file ≡ true → file ≢ taken_id
is_meta_file-not_taken file h = let other = passes (λ f. not (nat_eq f taken_id)) meta_files file refl h in grind (arith, nat_tests)

-- no file has room for more records than there are numbers
pub room_of-most : (shape : Shape) (file : ℕ) → is_allowed shape ≡ true → room_of shape file ≤ most_ids
room_of-most shape file allowed = each record_rooms (grind (arith, nat_tests))
  where
    each : (rooms : Rooms) → list_all (λ room. nat_le (records_of room.1 shape) most_ids) rooms ≡ true → room_in rooms shape file ≤ most_ids
    each [] all = omega arith
    each (room ∷ rest) all = pick (nat_eq file room.0) (records_of room.1 shape) (each rest) all
      where
        pick : (here : Bool) (n : ℕ) → (list_all (λ r. nat_le (records_of r.1 shape) most_ids) rest ≡ true → room_in rest shape file ≤ most_ids)
            → (nat_le n most_ids && list_all (λ r. nat_le (records_of r.1 shape) most_ids) rest) ≡ true → cond here n (room_in rest shape file) ≤ most_ids
        pick true n later all = grind (arith, nat_tests)
        pick false n later all = later (grind (arith, nat_tests))

-- a number that the file has room for makes a key
pub IsKey-room_of : (shape : Shape) (key : Key) → is_allowed shape ≡ true → key.id < room_of shape key.file → IsKey key
IsKey-room_of shape key allowed h = record {
  file = among record_rooms h;
  id = let most = room_of-most shape key.file allowed in omega arith;
}
  where
    among : (rooms : Rooms) → key.id < room_in rooms shape key.file → list_any (nat_eq key.file) (map (λ room. room.0) rooms) ≡ true
    among [] h = absurd (omega arith)
    among (room ∷ rest) h = pick (nat_eq key.file room.0) (records_of room.1 shape) h (among rest)
      where
        pick : (here : Bool) (n : ℕ) → key.id < cond here n (room_in rest shape key.file)
            → (key.id < room_in rest shape key.file → list_any (nat_eq key.file) (map (λ r. r.0) rest) ≡ true)
            → (here || list_any (nat_eq key.file) (map (λ r. r.0) rest)) ≡ true
        pick true n h later = refl
        pick false n h later = later h

-- the tests of the code
pub is_among-files : (files : List RecordFile) (file : ℕ) → list_any (λ (entry : RecordFile). nat_eq file entry.file) files ≡ list_any (nat_eq file)
    (map (λ room. room.0) (rooms_of files))
is_among-files [] file = refl
is_among-files (entry ∷ rest) file = ap (λ b. nat_eq file entry.file || b) (is_among-files rest file)
