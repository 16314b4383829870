-- Records stay where their bytes stay.
use Rattle.std.proofs.Common.{◌≡◌, ◌∙◌, ap, sym, subst, ◌⊎◌, inl, inr, ℕ, ◌+◌, ◌*◌, ◌≤◌, ◌<◌, Bool, true, false, cond}
use Rattle.std.proofs.Common.{List, length, take, drop, length-take, refl, arith}
use mathlib.Core.Bool.{false≢true}
use Rattle.std.proofs.lemmas.List.{get_or-drop, get_or-take}
use Rattle.disk_model.specs.Contents.{Files, Holds, Same, SameOutside, bytes_from}
use Rattle.disk_model.specs.Disk.{Settled}
use Rattle.disk_model.proofs.Contents.{bytes_from-same, bytes_from-holds}
use Rattle.rec_bytes.specs.declared.key.Key.{Key}
use Rattle.rec_bytes.specs.declared.record.Rec.{Rec}
use Rattle.rec_bytes.specs.Format.{log_file}
use Rattle.rec_bytes.specs.Key.{key_eq}
use Rattle.rec_bytes.specs.Record.{zeros}
use Rattle.rec_bytes.specs.RecordFiles.{is_record_file}
use Rattle.rec_bytes.proofs.KeyLaws.{key_eq-same, key_eq_true}
use Rattle.rec_bytes.proofs.RecordFiles.{is_record_file-not_log}
use Rattle.record_file.specs.Records.{SameButRecord, record_at}

-- records of the same bytes are the same
Rec-of : (a b : List ℕ) → a ≡ b → let r : Rec = record { bytes = a } in let s : Rec = record { bytes = b } in r ≡ s
Rec-of a b e = ap (λ (bytes : List ℕ). let r : Rec = record { bytes = bytes } in r) e

-- the record of a key of a file of records is its bytes
record_at-is : (key : Key) (content : Files) → is_record_file key.file ≡ true
    → record_at content key ≡ record { bytes = bytes_from (content key.file) (64 * key.id) 64 }
unfolding record_at
record_at-is key content file = ap (λ b. cond b (let r : Rec = record { bytes = bytes_from (content key.file) (64 * key.id) 64 } in r) zeros) file

-- a key of any other file has zeros
pub record_at-none : (key : Key) (content : Files) → is_record_file key.file ≡ false → record_at content key ≡ zeros
unfolding record_at
record_at-none key content file = ap (λ b. cond b (let r : Rec = record { bytes = bytes_from (content key.file) (64 * key.id) 64 } in r) zeros) file

-- the same bytes of a record, where it has any
pub record_at-same : (key : Key) (old new : Files) → (is_record_file key.file ≡ true → (p : ℕ) → 64 * key.id ≤ p → p < 64 * key.id + 64 → new key.file p ≡ old
    key.file p) → record_at new key ≡ record_at old key
record_at-same key old new same =
    (elim (is_record_file key.file) as (λ (b : Bool). is_record_file key.file ≡ b → record_at new key ≡ record_at old key) [
      | true ↦ λ file. record_at-is key new file
          ∙ Rec-of (bytes_from (new key.file) (64 * key.id) 64) (bytes_from (old key.file) (64 * key.id) 64)
          (bytes_from-same 64 (64 * key.id) (old key.file) (new key.file) (same file))
          ∙ sym (record_at-is key old file)
      | false ↦ λ file. record_at-none key new file ∙ sym (record_at-none key old file)
    ]) refl

-- a written record is read back
pub record_at-holds : (key : Key) (rec : Rec) (content : Files) → is_record_file key.file ≡ true → length rec.bytes ≡ 64
    → Holds key.file (64 * key.id) rec.bytes content → record_at content key ≡ rec
record_at-holds key rec content file whole holds =
    record_at-is key content file
    ∙ Rec-of (bytes_from (content key.file) (64 * key.id) 64) rec.bytes
    (ap (bytes_from (content key.file) (64 * key.id)) (sym whole) ∙ bytes_from-holds rec.bytes key.file (64 * key.id) content holds)

-- where a read gives its bytes
pub record_at-read : (key : Key) (bytes : List ℕ) (content : Files) → is_record_file key.file ≡ true → length bytes ≡ 64
    → Holds key.file (64 * key.id) bytes content
    → let r : Rec = record { bytes = bytes } in r ≡ record_at content key
record_at-read key bytes content file whole holds = sym (record_at-holds key (record { bytes = bytes }) content file whole holds)

-- n bytes of those that stand in a file
pub Holds-part : (file at start n : ℕ) (bytes : List ℕ) (content : Files) → start + n ≤ length bytes → Holds file at bytes content
    → Holds file (at + start) (take n (drop start bytes)) content
Holds-part file at start n bytes content within holds i below =
    let short : i < n = omega (arith, length-take {A = ℕ}, below) in
    get_or-take n (drop start bytes) i 0 short ∙ get_or-drop start bytes i 0 ∙ holds (start + i) (omega (arith, within)) ∙ ap (content file) (omega arith)

-- keys of the same parts are the same
pub key-parts : (a b : Key) → a.file ≡ b.file → a.id ≡ b.id → a ≡ b
key-parts a b file id =
    let first : a ≡ record { file = b.file; id = a.id } = ap (λ f. let k : Key = record { file = f; id = a.id } in k) file in
    let second : record { file = b.file; id = a.id } ≡ b = ap (λ i. let k : Key = record { file = b.file; id = i } in k) id in
    first ∙ second

-- two keys are the same or told apart
pub cases_key : (a b : Key) → (a ≡ b) ⊎ (key_eq a b ≡ false)
cases_key a b = (elim (key_eq a b) as (λ (o : Bool). key_eq a b ≡ o → (a ≡ b) ⊎ (key_eq a b ≡ false)) [
  | true ↦ λ e. inl (key_eq_true a b e)
  | false ↦ λ e.
      inr e
]) refl

-- a write of another record leaves this one
pub record_at-other : (q key : Key) (old new : Files) → key_eq q key ≡ false → SameButRecord key old new → record_at new q ≡ record_at old q
record_at-other q key old new differ same =
    record_at-same q old new (λ _ p first end. same q.file p (λ within.
    let id : q.id ≡ key.id = omega (arith, first, end, within.at_or_behind, within.before_end) in
    false≢true (sym differ ∙ subst (λ k. key_eq q k ≡ true) (key-parts q key within.in_file id) (key_eq-same q))))

-- a settled disk has the records that are read
pub record_at-settled : (key : Key) (read : Files) (images : Files → Type 0) (image : Files)
    → ((file : ℕ) → is_record_file file ≡ true → Settled file read images) → images image → record_at image key ≡ record_at read key
record_at-settled key read images image settled left = record_at-same key read image (λ file p first end. settled key.file file image left p)

-- bytes of the log leave the records
pub record_at-log : (key : Key) (at n : ℕ) (old new : Files) → SameOutside log_file at n old new → record_at new key ≡ record_at old key
record_at-log key at n old new same = record_at-same key old new (λ file p first end. same key.file p (λ within. is_record_file-not_log key.file file
    within.in_file))

-- the same bytes have the same records
pub record_at-kept : (key : Key) (old new : Files) → Same old new → record_at new key ≡ record_at old key
record_at-kept key old new same = record_at-same key old new (λ _ p first end. same key.file p)
