-- The bytes of the log that a reader keeps, and the records that stand in them.
use Rattle.std.proofs.Common.{◌≡◌, ℕ, zero, suc, ◌+◌, ◌-◌, ◌<◌, ◌≤◌, List, length, get_or, take, drop, sym, ap, ◌∙◌, arith}
use Rattle.std.proofs.lemmas.List.{ext_get_or, get_or-take, get_or-drop, length-take-le, length-drop}
use Rattle.disk_model.specs.Contents.{Files, Holds}
use Rattle.disk_model.proofs.Contents.{length-bytes_from}
use Rattle.rec_bytes.specs.Format.{log_file}
use Rattle.redo_log.specs.Entries.{log_bytes}

pub get_or-log_bytes : (content : Files) (place n i : ℕ) → i < n → get_or (log_bytes content place n) i 0 ≡ content log_file (place + i)
get_or-log_bytes content place zero i lt = absurd (omega arith)
get_or-log_bytes content place (suc n) zero lt = let here : place ≡ place + 0 = omega arith in ap (content log_file) here
get_or-log_bytes content place (suc n) (suc i) lt = let there : place + 1 + i ≡ place + suc i = omega arith in
    get_or-log_bytes content (place + 1) n i (omega arith) ∙ ap (content log_file) there

-- bytes are those of the log where each is
pub log_bytes-by_index : (content : Files) (place n : ℕ) (bytes : List ℕ) → length bytes ≡ n
    → ((i : ℕ) → i < n → get_or bytes i 0 ≡ content log_file (place + i)) → bytes ≡ log_bytes content place n
log_bytes-by_index content place n bytes long same = ext_get_or 0 bytes (log_bytes content place n) (long ∙ sym (length-bytes_from (content log_file) place n))
    (λ i lt. same i (omega arith) ∙ sym (get_or-log_bytes content place n i (omega arith)))

-- a part of the first `len` kept bytes
pub kept_part : (content : Files) (start len : ℕ) (bytes : List ℕ) (at n : ℕ) → Holds log_file start (take len bytes) content → start ≤ at
    → at + n ≤ start + length (take len bytes) → len ≤ length bytes
    → take n (drop (at - start) bytes) ≡ log_bytes content at n
kept_part content start len bytes at n held begins ends room =
    let from = at - start in
    let kept : length (take len bytes) ≡ len = length-take-le len bytes room in
    log_bytes-by_index content at n (take n (drop from bytes)) (length-take-le n (drop from bytes) (simp length-drop (omega arith))) (λ i lt.
    let there : start + (from + i) ≡ at + i = omega arith in
    get_or-take n (drop from bytes) i 0 lt ∙ get_or-drop from bytes i 0 ∙ sym (get_or-take len bytes (from + i) 0 (omega arith)) ∙ held (from + i) (omega arith)
    ∙ ap (content log_file) there)

-- what a read gave
pub log_bytes-held : (content : Files) (place n : ℕ) (bytes : List ℕ) → length bytes ≡ n → Holds log_file place bytes content
    → bytes ≡ log_bytes content place n
log_bytes-held content place n bytes long held = log_bytes-by_index content place n bytes long (λ i lt. held i (omega arith))
