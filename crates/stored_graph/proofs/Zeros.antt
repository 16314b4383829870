-- A disk of zeros has no store, and blank records.
use Rattle.std.proofs.Common.{◌≡◌, ◌∙◌, ap, sym, inl, ℕ, zero, suc, ◌+◌, ◌*◌, Bool, true, false, cond, List, ◌∷◌, replicate, refl, arith}
use Rattle.disk_model.specs.Contents.{Files, bytes_from}
use Rattle.plain_graph.specs.Graph.{empty_graph}
use Rattle.rec_bytes.specs.declared.key.Key.{Key}
use Rattle.rec_bytes.specs.declared.shape.Shape.{Shape}
use Rattle.rec_bytes.specs.Record.{zeros}
use Rattle.rec_bytes.specs.RecordFiles.{is_record_file, meta_key_of}
use Rattle.rec_bytes.specs.Space.{blank_records}
use Rattle.record_file.specs.Records.{IsUnmade, record_at}
use Rattle.stored_graph.specs.Stands.{IsZeros, StandsFor}

bytes_of_zeros : (file : ℕ → ℕ) (place n : ℕ) → ((place : ℕ) → file place ≡ 0) → bytes_from file place n ≡ replicate n 0
bytes_of_zeros file place zero all = refl
bytes_of_zeros file place (suc n) all = ap (λ (b : ℕ). b ∷ bytes_from file (place + 1) n) (all place)
    ∙ ap (λ (bs : List ℕ). 0 ∷ bs) (bytes_of_zeros file (place + 1) n all)

zero_record : (content : Files) (key : Key) → IsZeros content → record_at content key ≡ zeros
unfolding record_at
zero_record content key all = by (is_record_file key.file)
  where
    by : (is : Bool) → cond is (record { bytes = bytes_from (content key.file) (64 * key.id) 64 }) zeros ≡ zeros
    by true = ap (λ (bs : List ℕ). record { bytes = bs }) (bytes_of_zeros (content key.file) (64 * key.id) 64 (all key.file))
    by false = refl

pub zeros-records : (content : Files) → IsZeros content → record_at content ≡ blank_records
zeros-records content all = λ i key. zero_record content key all i

pub zeros-unmade : (content : Files) → IsZeros content → IsUnmade content
zeros-unmade content all = record {
  log = (refl, λ open_gate. let e : 0 ≡ 1 = sym (all 7 0) ∙ open_gate in omega (arith, e));
  blank = λ id low. zero_record content (meta_key_of id) all;
}

pub zeros-stand : (content : Files) (shape : Shape) → IsZeros content → StandsFor content shape empty_graph
zeros-stand content shape all = inl (zeros-unmade content all, refl)
