-- Entries stay where the bytes of the log stay, and one more may follow them.
use Rattle.std.proofs.Common.{◌≡◌, ◌≢◌, ◌∙◌, ap, sym, subst, ℕ, zero, suc, ◌+◌, ◌*◌, ◌≤◌, ◌<◌, List, [], ◌∷◌, ◌++◌, length, refl, arith, append-nil}
use Rattle.byteorder.specs.Endian.{little_number}
use Rattle.disk_model.specs.Contents.{Files}
use Rattle.disk_model.proofs.Contents.{bytes_from-same}
use Rattle.rec_bytes.specs.Format.{log_file}
use Rattle.rec_bytes.specs.declared.key.Key.{Key}
use Rattle.rec_bytes.specs.declared.record.Rec.{Rec}
use Rattle.rec_bytes.specs.Pairs.{Pairs}
use Rattle.redo_log.specs.Entries.{Fits, HasEntries, HasEntriesFrom, IsEntry, IsEntryOf, count_at, entry_at, entry_bytes, log_bytes, write_at, writes_from}

-- the log has the same bytes from a place on, up to another
abbrev pub SameLog : ℕ → ℕ → Files → Files → Type 0
SameLog first end old new = (place : ℕ) → first ≤ place → place < end → new log_file place ≡ old log_file place

-- what a written record is made of: its file, the bytes of its number, and its bytes
abbrev pub made_of : ℕ → List ℕ → List ℕ → Key × Rec
made_of file number bytes = (record { file = file; id = little_number 4 number }, record { bytes = bytes })

-- of the same parts the same record is made
pub made_of-same : (file file2 : ℕ) (number number2 bytes bytes2 : List ℕ) → file ≡ file2 → number ≡ number2 → bytes ≡ bytes2
    → made_of file number bytes ≡ made_of file2 number2 bytes2
made_of-same file file2 number number2 bytes bytes2 same_file same_number same_bytes =
    ap (λ f. made_of f number bytes) same_file ∙ ap (λ n. made_of file2 n bytes) same_number ∙ ap (λ b. made_of file2 number2 b) same_bytes

-- the bytes from a place on
log_bytes-same : (n place : ℕ) (old new : Files) → SameLog place (place + n) old new → log_bytes new place n ≡ log_bytes old place n
log_bytes-same n place old new same = bytes_from-same n place (old log_file) (new log_file) same

-- the written records from a place on
writes_from-same : (n place : ℕ) (old new : Files) → SameLog place (place + 69 * n) old new → writes_from new place n ≡ writes_from old place n
writes_from-same zero place old new same = refl
writes_from-same (suc n) place old new same =
    ap (λ (write : Key × Rec). write ∷ writes_from new (place + 69) n)
    (made_of-same (new log_file place) (old log_file place) (log_bytes new (place + 1) 4) (log_bytes old (place + 1) 4) (log_bytes new (place + 5) 64)
    (log_bytes old (place + 5) 64)
    (same place (omega arith) (omega arith))
    (log_bytes-same 4 (place + 1) old new (λ p first end. same p (omega arith) (omega arith)))
    (log_bytes-same 64 (place + 5) old new (λ p first end. same p (omega arith) (omega arith))))
    ∙ ap (λ (writes : Pairs). write_at old place ∷ writes) (writes_from-same n (place + 69) old new (λ p first end. same p (omega arith) (omega arith)))

-- how many records an entry has
pub count_at-same : (place : ℕ) (old new : Files) → SameLog place (place + 3) old new → count_at new place ≡ count_at old place
count_at-same place old new same =
    ap (little_number 2) (log_bytes-same 2 (place + 1) old new (λ p first end. same p (omega arith) (omega arith)))

-- the records of an entry
pub entry_at-same : (place : ℕ) (old new : Files) → SameLog place (place + entry_bytes (count_at old place)) old new → entry_at new place ≡ entry_at old place
entry_at-same place old new same =
    let count = count_at old place in
    ap (writes_from new (place + 3)) (count_at-same place old new (λ p first end. same p first (omega arith)))
    ∙ writes_from-same count (place + 3) old new (λ p first end. same p (omega arith) (omega arith))

-- an entry stays one
pub IsEntry-same : (place : ℕ) (old new : Files) → SameLog place (place + entry_bytes (count_at old place)) old new → IsEntry old place → IsEntry new place
IsEntry-same place old new same entry = record {
  open_gate = same place (omega arith) (omega arith) ∙ entry.open_gate;
  form = subst IsEntryOf (sym (entry_at-same place old new same)) entry.form;
  fits = subst (Fits place) (sym (count_at-same place old new (λ p first end. same p first (omega arith)))) entry.fits;
}

-- there are as many as were asked for
pub length-writes_from : (n place : ℕ) (content : Files) → length (writes_from content place n) ≡ n
length-writes_from zero place content = refl
length-writes_from (suc n) place content = omega (arith, length-writes_from n (place + 69) content)

-- the tail is not before the first entry
pub HasEntriesFrom-tail : (entries : List Pairs) (place tail : ℕ) (content : Files) → HasEntriesFrom place content entries tail → place ≤ tail
HasEntriesFrom-tail [] place tail content has = omega (arith, has.0)
HasEntriesFrom-tail (entry ∷ later) place tail content has =
    omega (arith, HasEntriesFrom-tail later (place + entry_bytes (length entry)) tail content has.2)

-- where the bytes before the tail stay, the entries stay, with those that follow there
HasEntriesFrom-then : (entries more : List Pairs) (place tail end : ℕ) (old new : Files) → HasEntriesFrom place old entries tail → SameLog place tail old new
    → HasEntriesFrom tail new more end
    → HasEntriesFrom place new (entries ++ more) end
HasEntriesFrom-then [] more place tail end old new has same rest = subst (λ p. HasEntriesFrom p new more end) (sym has.0) rest
HasEntriesFrom-then (entry ∷ later) more place tail end old new has same rest =
    let count : length entry ≡ count_at old place = ap length (sym has.1) ∙ length-writes_from (count_at old place) (place + 3) old in
    let behind : place + entry_bytes (length entry) ≤ tail = HasEntriesFrom-tail later (place + entry_bytes (length entry)) tail old has.2 in
    let here : SameLog place (place + entry_bytes (count_at old place)) old new = λ p first end. same p first (omega (arith, end, behind, count)) in (
      IsEntry-same place old new here has.0,
      entry_at-same place old new here ∙ has.1,
      HasEntriesFrom-then later more (place + entry_bytes (length entry)) tail end old new has.2 (λ p first end. same p (omega arith) end) rest,
    )

-- over a closed gate the entries stay
pub HasEntries-same : (entries : List Pairs) (tail : ℕ) (old new : Files) → HasEntries old entries tail → SameLog 0 tail old new → new log_file tail ≢ 1
    → HasEntries new entries tail
HasEntries-same entries tail old new has same closed =
    subst (λ (all : List Pairs). HasEntries new all tail) (append-nil entries) (HasEntriesFrom-then entries [] 0 tail tail old new has same (refl, closed))

-- the gate at the tail is closed
pub HasEntriesFrom-closed : (entries : List Pairs) (place tail : ℕ) (content : Files) → HasEntriesFrom place content entries tail → content log_file tail ≢ 1
HasEntriesFrom-closed [] place tail content has = subst (λ p. content log_file p ≢ 1) has.0 has.1
HasEntriesFrom-closed (entry ∷ later) place tail content has = HasEntriesFrom-closed later (place + entry_bytes (length entry)) tail content has.2

-- with one more at the tail
pub HasOneMore-same : (entries : List Pairs) (writes : Pairs) (tail : ℕ) (old new : Files) → HasEntries old entries tail → SameLog 0 tail old new
    → IsEntry new tail → entry_at new tail ≡ writes → new log_file (tail + entry_bytes (length writes)) ≢ 1
    → HasEntries new (entries ++ writes ∷ []) (tail + entry_bytes (length writes))
HasOneMore-same entries writes tail old new has same entry is closed =
    HasEntriesFrom-then entries (writes ∷ []) 0 tail (tail + entry_bytes (length writes)) old new has same (entry, is, (refl, closed))
