-- What the calls of an append do to the entries: of a content that is read, and of the images that a crash may leave.
use Rattle.std.proofs.Common.{◌≡◌, ◌∙◌, ap, sym, inl, inr, ⊎_elim, ℕ, ◌+◌, ◌*◌, ◌≤◌, List, [], ◌∷◌, ◌++◌, length, arith}
use Rattle.std.proofs.lemmas.Bool.{cases_eq}
use Rattle.disk_model.specs.Contents.{Files, Holds, Same, SameOutside}
use Rattle.disk_model.specs.Disk.{Elapses, LeavesOnly, NoMore, Settled, TornIn}
use Rattle.disk_model.proofs.Times.{leaves_then, leaves_weaker}
use Rattle.rec_bytes.specs.Format.{log_file}
use Rattle.rec_bytes.specs.Pairs.{Pairs}
use Rattle.redo_log.specs.Appending.{AreWhole, HasAtMostOneMore, HasOneMore, IsAppended, IsTornFrom, SameButEntry, payload_bytes}
use Rattle.redo_log.specs.Entries.{AllHaveEntries, Fits, HasEntries, IsEntryOf, entry_bytes}
use Rattle.disk_model.proofs.Contents.{SameOutside-within, SameOutside-then, SameOutside-same}
use Rattle.redo_log.proofs.Entries.{SameLog, HasEntries-same, HasEntriesFrom-closed, HasOneMore-same}
use Rattle.redo_log.proofs.Laid.{IsLaid, IsLaid-payload, IsEntry-laid}

-- the bytes before the range stay
SameLog-outside : (at n end : ℕ) (old new : Files) → SameOutside log_file at n old new → end ≤ at → SameLog 0 end old new
SameLog-outside at n end old new same before place first below = same log_file place (λ within. omega (arith, within.at_or_behind, before, below))

-- writes behind the gate at the tail leave the entries
pub HasEntries-behind : (entries : List Pairs) (tail n : ℕ) (old new : Files) → HasEntries old entries tail → SameOutside log_file (tail + 1) n old new
    → HasEntries new entries tail
HasEntries-behind entries tail n old new has same =
    let before : SameLog 0 (tail + 1) old new = SameLog-outside (tail + 1) n (tail + 1) old new same (omega arith) in
    HasEntries-same entries tail old new has (λ place first below. before place first (omega arith))
    (λ is_open. HasEntriesFrom-closed entries 0 tail old has (sym (before tail (omega arith) (omega arith)) ∙ is_open))

-- the payload and the closed gate behind it stand in each content that has those bytes of the log
IsLaid-same : (tail : ℕ) (writes : Pairs) (read content : Files) → IsEntryOf writes → AreWhole writes
    → Holds log_file (tail + 1) (payload_bytes writes ++ 0 ∷ []) read
    → ((place : ℕ) → tail + 1 ≤ place → content log_file place ≡ read log_file place) → IsLaid content tail writes
IsLaid-same tail writes read content form whole holds same =
    IsLaid-payload content tail writes form whole (λ i below. holds i below ∙ sym (same (tail + 1 + i) (omega arith)))

-- over the laid entry an open gate makes it one of the log
HasOneMore-laid : (entries : List Pairs) (writes : Pairs) (tail : ℕ) (old new : Files) → HasEntries old entries tail → SameLog 0 tail old new → IsEntryOf writes
    → Fits tail (length writes)
    → IsLaid new tail writes → new log_file tail ≡ 1 → HasOneMore new entries writes tail
HasOneMore-laid entries writes tail old new has same form fits laid is_open =
    HasOneMore-same entries writes tail old new has same (IsEntry-laid new tail writes form fits laid is_open) laid.records laid.closed

-- and any gate makes the old entries or one more
HasAtMostOneMore-laid : (entries : List Pairs) (writes : Pairs) (tail : ℕ) (old new : Files) → HasEntries old entries tail → SameLog 0 tail old new
    → IsEntryOf writes → Fits tail (length writes)
    → IsLaid new tail writes → HasAtMostOneMore new entries writes tail
HasAtMostOneMore-laid entries writes tail old new has same form fits laid =
    ⊎_elim
    (λ is_open. inr (HasOneMore-laid entries writes tail old new has same form fits laid is_open))
    (λ closed. inl (HasEntries-same entries tail old new has same closed))
    (cases_eq (new log_file tail) 1)

-- a content that is torn behind the gate has the old entries
pub IsAppended-torn : (images : Files → Type 0) (entries : List Pairs) (writes : Pairs) (tail : ℕ) → AllHaveEntries images entries tail
    → (content : Files) → IsTornFrom images (tail + 1) (3 + 69 * length writes) content → IsAppended images entries writes tail content
IsAppended-torn images entries writes tail all content torn = record {
  old = torn.0;
  was_left = torn.1;
  elsewhere = SameOutside-within log_file (tail + 1) (3 + 69 * length writes) tail (entry_bytes (length writes) + 1) torn.0 content (omega arith) (omega arith)
      torn.2;
  entries_are = inl (HasEntries-behind entries tail (3 + 69 * length writes) torn.0 content (all torn.0 torn.1) torn.2);
}

-- a content whose gate is torn over the laid entry has the old entries or one more
IsAppended-gated : (images : Files → Type 0) (entries : List Pairs) (writes : Pairs) (tail : ℕ) (read before content : Files)
    → AllHaveEntries images entries tail → IsEntryOf writes → AreWhole writes → Fits tail (length writes)
    → IsTornFrom images (tail + 1) (3 + 69 * length writes) before → ((place : ℕ) → before log_file place ≡ read log_file place)
    → Holds log_file (tail + 1) (payload_bytes writes ++ 0 ∷ []) read → SameOutside log_file tail 1 before content
    → IsAppended images entries writes tail content
IsAppended-gated images entries writes tail read before content all form whole fits torn settled holds gate =
    let old = torn.0 in
    let wide = entry_bytes (length writes) + 1 in
    let elsewhere : SameButEntry tail writes old content =
    SameOutside-then log_file tail wide old before content
    (SameOutside-within log_file (tail + 1) (3 + 69 * length writes) tail wide old before (omega arith) (omega arith) torn.2)
    (SameOutside-within log_file tail 1 tail wide before content (omega arith) (omega arith) gate) in
    let laid : IsLaid content tail writes =
    IsLaid-same tail writes read content form whole holds (λ place behind. gate log_file place (λ within. omega (arith, within.before_end, behind))
    ∙ settled place) in
    record {
      old = old;
      was_left = torn.1;
      elsewhere = elsewhere;
      entries_are = HasAtMostOneMore-laid entries writes tail old content (all old torn.1) (SameLog-outside tail wide tail old content elsewhere (omega arith))
          form fits laid;
    }

-- the images of a moment are among those since an earlier one
abbrev pub Counts : ℕ → ℕ → (ℕ → Files → Type 0) → (Files → Type 0) → Type 0
Counts first now past images = (image : Files) → first ≤ now → images image → past first image

-- a call that adds no image
pub leaves_no_more : (first before now : ℕ) (at_first past since : ℕ → Files → Type 0) (old new P : Files → Type 0)
    → LeavesOnly first before at_first past P → Counts first before past old → Elapses before now past since new → NoMore old new
    → LeavesOnly first now at_first since P
leaves_no_more first before now at_first past since old new P leaves counts elapses fewer =
    leaves_then first before now at_first past since new P leaves elapses (λ image left. leaves.each image (counts image leaves.later (fewer image left)))

-- the write of the gate, after a sync, behind which the payload is read
pub leaves_gated : (first before now : ℕ) (at_first past since : ℕ → Files → Type 0) (images old new : Files → Type 0) (entries : List Pairs) (writes : Pairs)
    (tail : ℕ) (read : Files)
    → AllHaveEntries images entries tail → IsEntryOf writes → AreWhole writes → Fits tail (length writes)
    → LeavesOnly first before at_first past (IsTornFrom images (tail + 1) (3 + 69 * length writes)) → Counts first before past old
    → Elapses before now past since new → TornIn log_file tail 1 old new
    → Settled log_file read old → Holds log_file (tail + 1) (payload_bytes writes ++ 0 ∷ []) read
    → LeavesOnly first now at_first since (IsAppended images entries writes tail)
leaves_gated first before now at_first past since images old new entries writes tail read all form whole fits leaves counts elapses torn settled holds =
    leaves_then first before now at_first past since new (IsAppended images entries writes tail)
    (leaves_weaker first before at_first past (IsTornFrom images (tail + 1) (3 + 69 * length writes)) (IsAppended images entries writes tail) leaves
    (IsAppended-torn images entries writes tail all))
    elapses
    (λ image left.
    let was = torn image left in
    IsAppended-gated images entries writes tail read was.0 image all form whole fits (leaves.each was.0 (counts was.0 leaves.later was.1)) (settled was.0 was.1)
    holds was.2)

-- where the bytes of the log stay, the entries stay
pub HasEntries-read : (entries : List Pairs) (tail : ℕ) (old new : Files) → HasEntries old entries tail
    → ((place : ℕ) → new log_file place ≡ old log_file place) → HasEntries new entries tail
HasEntries-read entries tail old new has same =
    HasEntries-same entries tail old new has (λ place first below. same place)
    (λ is_open. HasEntriesFrom-closed entries 0 tail old has (sym (same tail) ∙ is_open))

-- once the file is settled, each image has the entries that are read
pub AllHaveEntries-settled : (images : Files → Type 0) (read : Files) (entries : List Pairs) (tail : ℕ) → Settled log_file read images
    → HasEntries read entries tail → AllHaveEntries images entries tail
AllHaveEntries-settled images read entries tail settled has image left = HasEntries-read entries tail read image has (settled image left)

-- What is read once the gate was written over the laid entry: the bytes before it stay, and the entry stands there.
record IsGated (old new : Files) (tail : ℕ) (writes : Pairs) : Type 0 where
  before : SameLog 0 tail old new
  laid : IsLaid new tail writes

-- after the payload, a sync and the gate
IsGated-read : (tail : ℕ) (writes : Pairs) (old laid synced new : Files) → IsEntryOf writes → AreWhole writes
    → SameOutside log_file (tail + 1) (3 + 69 * length writes) old laid
    → Holds log_file (tail + 1) (payload_bytes writes ++ 0 ∷ []) laid → Same laid synced → SameOutside log_file tail 1 synced new → IsGated old new tail writes
IsGated-read tail writes old laid synced new form whole payload holds stays gate =
    let n = 3 + 69 * length writes in
    let wide = SameOutside-then log_file tail (1 + n) old synced new
    (SameOutside-then log_file tail (1 + n) old laid synced (SameOutside-within log_file (tail + 1) n tail (1 + n) old laid (omega arith) (omega arith) payload)
    (SameOutside-same log_file tail (1 + n) laid synced stays))
    (SameOutside-within log_file tail 1 tail (1 + n) synced new (omega arith) (omega arith) gate) in
    record {
      before = SameLog-outside tail (1 + n) tail old new wide (omega arith);
      laid = IsLaid-same tail writes laid new form whole holds (λ place behind. gate log_file place (λ within. omega (arith, within.before_end, behind))
          ∙ stays log_file place);
    }

-- whatever the gate is, a read has the old entries or one more
pub HasAtMostOneMore-read : (entries : List Pairs) (writes : Pairs) (tail : ℕ) (old laid synced new : Files) → IsEntryOf writes → AreWhole writes
    → Fits tail (length writes) → HasEntries old entries tail
    → SameOutside log_file (tail + 1) (3 + 69 * length writes) old laid → Holds log_file (tail + 1) (payload_bytes writes ++ 0 ∷ []) laid → Same laid synced
    → SameOutside log_file tail 1 synced new
    → HasAtMostOneMore new entries writes tail
HasAtMostOneMore-read entries writes tail old laid synced new form whole fits has payload holds stays gate =
    let gated = IsGated-read tail writes old laid synced new form whole payload holds stays gate in
    HasAtMostOneMore-laid entries writes tail old new has gated.before form fits gated.laid

-- where the gate was written a read has one more
pub HasOneMore-read : (entries : List Pairs) (writes : Pairs) (tail : ℕ) (old laid synced new : Files) → IsEntryOf writes → AreWhole writes
    → Fits tail (length writes) → HasEntries old entries tail
    → SameOutside log_file (tail + 1) (3 + 69 * length writes) old laid → Holds log_file (tail + 1) (payload_bytes writes ++ 0 ∷ []) laid → Same laid synced
    → SameOutside log_file tail 1 synced new → Holds log_file tail (1 ∷ []) new
    → HasOneMore new entries writes tail
HasOneMore-read entries writes tail old laid synced new form whole fits has payload holds stays gate open_gate =
    let gated = IsGated-read tail writes old laid synced new form whole payload holds stays gate in
    let is_open : new log_file tail ≡ 1 = ap (new log_file) (omega arith) ∙ sym (open_gate 0 (omega arith)) in
    HasOneMore-laid entries writes tail old new has gated.before form fits gated.laid is_open
