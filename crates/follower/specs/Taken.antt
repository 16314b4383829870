-- What a follower makes of a shipment: the records of its store with those of the shipment, and
-- with its number.
use Rattle.std.specs.Prelude.{ℕ, List, [], ◌∷◌, take}
use Rattle.rec_bytes.specs.declared.key.Key.{Key}
use Rattle.rec_bytes.specs.declared.record.Rec.{Rec}
use Rattle.rec_bytes.specs.declared.shape.Shape.{Shape}
use Rattle.rec_bytes.specs.Creation.{new_records}
use Rattle.rec_bytes.specs.Format.{taken_number}
use Rattle.rec_bytes.specs.Record.{field, with_field, zeros}
use Rattle.rec_bytes.specs.Space.{laid_over, put}
use Rattle.txn_core.specs.Shipped.{taken_key}
use Rattle.follower.specs.Shipment.{number_of, writes_of}

-- the record with a follower's number, and zeros behind it
abbrev pub number_record : ℕ → Rec
number_record number = with_field 8 zeros taken_number number

-- the number that the records say
abbrev pub number_in : (Key → Rec) → ℕ
number_in records = field 8 (records taken_key) taken_number

-- the records with those of a shipment over them, and its number
abbrev pub taken : (Key → Rec) → List ℕ → Key → Rec
taken records bytes =
    put (laid_over records (writes_of bytes)) taken_key (number_record (number_of bytes))

-- the records with those of each shipment over them, one after the other
abbrev pub laid_all : (Key → Rec) → List (List ℕ) → Key → Rec
laid_all records [] = records
laid_all records (bytes ∷ later) = laid_all (laid_over records (writes_of bytes)) later

-- the sender's records after its first transactions, so many of them
abbrev pub sender_records : Shape → List (List ℕ) → ℕ → Key → Rec
sender_records shape sent j = laid_all (new_records shape) (take j sent)

-- those of a follower that has taken so many of them: the sender's, with the number
abbrev pub follower_records : Shape → List (List ℕ) → ℕ → Key → Rec
follower_records shape sent j = put (sender_records shape sent j) taken_key (number_record j)
