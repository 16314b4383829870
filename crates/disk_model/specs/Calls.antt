-- The calls that a disk in memory keeps, and the contents that they leave. A place of a file is
-- pending where some call wrote to it, or failed to, and no later call synced the file.
use Rattle.std.specs.Prelude.{
  ◌≡◌,
  ℕ,
  ◌+◌,
  ◌-◌,
  Bool,
  false,
  not,
  ◌&&◌,
  ◌||◌,
  if◌then◌else◌,
  nat_le,
  nat_lt,
  ◌==◌,
  List,
  [],
  ◌∷◌,
  ◌≤◌,
  ⊤,
  length,
  slice_index,
  drop,
}
use Rattle.disk_model.specs.Contents.{Files}
use Rattle.disk_model.specs.PlainDisk.{file_of}

-- a write that succeeded, a write that failed by the plan of faults, and a sync that succeeded
pub data Call : Type 0 where
  Wrote : (file at : ℕ) (bytes : List ℕ) → Call
  Tore : (file at len : ℕ) → Call
  Synced : (file : ℕ) → Call

-- whether a place is in the range of n bytes of the file
abbrev pub in_range : ℕ → ℕ → ℕ → ℕ → ℕ → Bool
in_range file at n other place = (file == other) && (nat_le at place && nat_lt place (at + n))

-- whether the call wrote to the place, or failed to
abbrev pub covers : Call → ℕ → ℕ → Bool
covers (Wrote file at bytes) other place = in_range file at (length bytes) other place
covers (Tore file at len) other place = in_range file at len other place
covers (Synced file) other place = false

-- whether the call synced the file
abbrev pub syncs : Call → ℕ → Bool
syncs (Wrote file at bytes) other = false
syncs (Tore file at len) other = false
syncs (Synced file) other = file == other

-- whether one of the calls synced the file
abbrev pub is_synced : List Call → ℕ → Bool
is_synced [] file = false
is_synced (call ∷ calls) file = syncs call file || is_synced calls file

-- whether one of the calls, which are oldest first, covers the place and no later one synced the
-- file
abbrev pub is_pending : List Call → ℕ → ℕ → Bool
is_pending [] file place = false
is_pending (call ∷ calls) file place =
    is_pending calls file place || (covers call file place && not (is_synced calls file))

-- a content with the bytes of a write that succeeded laid over it
abbrev pub laid : Call → Files → Files
laid (Wrote file at bytes) content other place =
    if in_range file at (length bytes) other place then slice_index bytes (place - at)
    else content other place
laid (Tore file at len) content other place = content other place
laid (Synced file) content other place = content other place

-- a content with the bytes of each write laid over it, the oldest first
abbrev pub content_after : Files → List Call → Files
content_after base [] = base
content_after base (call ∷ calls) = content_after (laid call base) calls

-- the calls that count at a place: those that were kept since it was poked, where that is told by
-- how many had been kept then
abbrev pub calls_at : Files → List Call → ℕ → ℕ → List Call
calls_at pokes calls file place = drop (pokes file place) calls

-- whether a place is pending by the calls that count there
abbrev pub pending_since : Files → List Call → ℕ → ℕ → Bool
pending_since pokes calls file place = is_pending (calls_at pokes calls file place) file place

-- a content with the bytes of each write laid over it where the write counts
abbrev pub content_since : Files → Files → List Call → Files
content_since base pokes calls file place =
    content_after base (calls_at pokes calls file place) file place

-- an image has, at each place that is not pending, the byte that a read gives
abbrev pub Allows : Files → Files → List Call → Files → Type 0
Allows base pokes calls image =
    (file place : ℕ) → pending_since pokes calls file place ≡ false
    → image file place ≡ content_since base pokes calls file place

-- how many bytes the writes that succeeded had
abbrev pub bytes_kept : List Call → ℕ
bytes_kept [] = 0
bytes_kept (Wrote file at bytes ∷ calls) = length bytes + bytes_kept calls
bytes_kept (Tore file at len ∷ calls) = bytes_kept calls
bytes_kept (Synced file ∷ calls) = bytes_kept calls

-- a content with the bytes of each write laid over it that a later call synced
abbrev pub synced_content : Files → List Call → Files
synced_content base [] = base
synced_content base (call ∷ calls) =
    synced_content (λ file place. if is_synced calls file then laid call base file place
    else base file place) calls

-- a content with the bytes of each write laid over it where the write counts and a later call
-- synced it
abbrev pub synced_since : Files → Files → List Call → Files
synced_since base pokes calls file place =
    synced_content base (calls_at pokes calls file place) file place

-- a call's range lies within its file
abbrev pub FitsFile : List (List ℕ) → Call → Type 0
FitsFile files (Wrote file at bytes) = at + length bytes ≤ length (file_of files file)
FitsFile files (Tore file at len) = at + len ≤ length (file_of files file)
FitsFile files (Synced file) = ⊤
