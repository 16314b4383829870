-- The bytes of an entry read back as the entry.
use Rattle.std.proofs.Common.{◌≡◌, ◌≢◌, ◌∙◌, ap, sym, subst, ℕ, ◌+◌, ◌*◌, List, [], ◌∷◌, ◌++◌, length, refl, arith, length-append}
use Rattle.std.specs.List.{AllByRecursion, flat_map}
use Rattle.byteorder.specs.Endian.{little_bytes, little_number}
use Rattle.byteorder.specs.Numbers.{little_number-reads_back}
use Rattle.disk_model.specs.Contents.{Files, Holds}
use Rattle.rec_bytes.specs.Format.{log_file}
use Rattle.rec_bytes.specs.declared.key.Key.{Key}
use Rattle.rec_bytes.specs.declared.record.Rec.{Rec}
use Rattle.rec_bytes.specs.Key.{IsKey}
use Rattle.rec_bytes.specs.Pairs.{Pairs}
use Rattle.redo_log.specs.Appending.{AreWhole, payload_bytes, write_bytes}
use Rattle.redo_log.specs.Entries.{Fits, IsEntry, IsEntryOf, count_at, entry_at, entry_bytes, log_bytes, write_at, writes_from}
use Rattle.disk_model.proofs.Contents.{Holds-front, Holds-back, bytes_from-holds}
use Rattle.redo_log.proofs.Entries.{made_of-same}

-- the bytes that stand in the log from a place on
log_bytes-holds : (bytes : List ℕ) (place : ℕ) (content : Files) → Holds log_file place bytes content → log_bytes content place (length bytes) ≡ bytes
log_bytes-holds bytes place content holds = bytes_from-holds bytes log_file place content holds

-- a record's bytes read back as the record
write_at-holds : (write : Key × Rec) (place : ℕ) (content : Files) → Holds log_file place (write_bytes write) content → length write.1.bytes ≡ 64
    → IsKey write.0 → write_at content place ≡ write
write_at-holds write place content holds whole key =
    let head = write.0.file ∷ little_bytes 4 write.0.id in
    let bytes = write.1.bytes in
    let first : Holds log_file place head content = Holds-front log_file place head bytes content holds in
    let number : log_bytes content (place + 1) 4 ≡ little_bytes 4 write.0.id =
    log_bytes-holds (little_bytes 4 write.0.id) (place + 1) content (Holds-back log_file place (write.0.file ∷ []) (little_bytes 4 write.0.id) content first) in
    let file : content log_file place ≡ write.0.file = ap (content log_file) (omega arith) ∙ sym (first 0 (omega arith)) in
    let rest : log_bytes content (place + 5) 64 ≡ bytes =
    ap (log_bytes content (place + 5)) (sym whole) ∙ log_bytes-holds bytes (place + 5) content (Holds-back log_file place head bytes content holds) in
    let id : little_number 4 (little_bytes 4 write.0.id) ≡ write.0.id = little_number-reads_back 4 write.0.id [] (omega (arith, key.id)) in
    made_of-same (content log_file place) write.0.file (log_bytes content (place + 1) 4) (little_bytes 4 write.0.id) (log_bytes content (place + 5) 64) bytes
    file number rest
    ∙ ap (λ n. let pair : Key × Rec = (record { file = write.0.file; id = n }, record { bytes = bytes }) in pair) id

-- a written record takes 69 bytes
length-write_bytes : (write : Key × Rec) → length write.1.bytes ≡ 64 → length (write_bytes write) ≡ 69
length-write_bytes write whole = omega (arith, length-append (write.0.file ∷ little_bytes 4 write.0.id) write.1.bytes, whole)

-- and so does each of several
length-writes : (writes : Pairs) → AreWhole writes → length (flat_map write_bytes writes) ≡ 69 * length writes
length-writes [] whole = refl
length-writes (write ∷ writes) whole =
    omega (arith, length-append (write_bytes write) (flat_map write_bytes writes), length-write_bytes write whole.0, length-writes writes whole.1)

-- the bytes of several records read back as the records
writes_from-holds : (writes : Pairs) (place : ℕ) (content : Files) → Holds log_file place (flat_map write_bytes writes) content → AreWhole writes
    → AllByRecursion (λ write. IsKey write.0) writes
    → writes_from content place (length writes) ≡ writes
writes_from-holds [] place content holds whole keys = refl
writes_from-holds (write ∷ writes) place content holds whole keys =
    let here = write_bytes write in
    let behind = flat_map write_bytes writes in
    let first : write_at content place ≡ write = write_at-holds write place content (Holds-front log_file place here behind content holds) whole.0 keys.0 in
    let later : writes_from content (place + 69) (length writes) ≡ writes =
    writes_from-holds writes (place + 69) content (subst (λ n. Holds log_file (place + n) behind content) (length-write_bytes write whole.0)
    (Holds-back log_file place here behind content holds)) whole.1 keys.1 in
    ap (λ (w : Key × Rec). w ∷ writes_from content (place + 69) (length writes)) first ∙ ap (λ (ws : Pairs). write ∷ ws) later

-- How many records the entry has, what they are, and the closed gate behind them.
pub record IsLaid (content : Files) (tail : ℕ) (writes : Pairs) : Type 0 where
  pub count : count_at content tail ≡ length writes
  pub records : entry_at content tail ≡ writes
  pub closed : content log_file (tail + entry_bytes (length writes)) ≢ 1

-- the payload and a closed gate behind it lay out the entry
pub IsLaid-payload : (content : Files) (tail : ℕ) (writes : Pairs) → IsEntryOf writes → AreWhole writes
    → Holds log_file (tail + 1) (payload_bytes writes ++ 0 ∷ []) content → IsLaid content tail writes
IsLaid-payload content tail writes form whole holds =
    let number = little_bytes 2 (length writes) in
    let behind = flat_map write_bytes writes in
    let payload : Holds log_file (tail + 1) (payload_bytes writes) content = Holds-front log_file (tail + 1) (payload_bytes writes) (0 ∷ []) content holds in
    let last : 0 ≡ content log_file (tail + 1 + length (payload_bytes writes) + 0) =
    Holds-back log_file (tail + 1) (payload_bytes writes) (0 ∷ []) content holds 0 (omega arith) in
    let size : length (payload_bytes writes) ≡ 2 + 69 * length writes = omega (arith, length-append number behind, length-writes writes whole) in
    let counted : count_at content tail ≡ length writes =
    ap (little_number 2) (log_bytes-holds number (tail + 1) content (Holds-front log_file (tail + 1) number behind content payload))
    ∙ little_number-reads_back 2 (length writes) [] (omega (arith, form.few)) in
    let start : tail + 1 + 2 ≡ tail + 3 = omega arith in
    let laid : writes_from content (tail + 3) (length writes) ≡ writes =
    writes_from-holds writes (tail + 3) content (subst (λ p. Holds log_file p behind content) start (Holds-back log_file (tail + 1) number behind content
    payload)) whole form.keys in
    let gate : 0 ≡ content log_file (tail + entry_bytes (length writes)) = last ∙ ap (content log_file) (omega (arith, size)) in
    record {
      count = counted;
      records = ap (writes_from content (tail + 3)) counted ∙ laid;
      closed = λ is_open. omega (arith, gate, is_open);
    }

-- with its gate open it is an entry
pub IsEntry-laid : (content : Files) (tail : ℕ) (writes : Pairs) → IsEntryOf writes → Fits tail (length writes) → IsLaid content tail writes
    → content log_file tail ≡ 1 → IsEntry content tail
IsEntry-laid content tail writes form fits laid is_open = record {
  open_gate = is_open;
  form = subst IsEntryOf (sym laid.records) form;
  fits = subst (Fits tail) (sym laid.count) fits;
}
