-- The kept calls as they lie in memory: each write names its range of one vector of bytes.
use Rattle.std.specs.Prelude.{
  ◌≡◌,
  ℕ,
  ◌+◌,
  ◌≤◌,
  List,
  length,
  map,
  take,
  drop,
  Bool,
  if◌then◌else◌,
  false,
  not,
  ◌&&◌,
  ◌||◌,
  ◌==◌,
  [],
  ◌∷◌,
}
use Rattle.disk_model.specs.declared.call_log.KeptCall.{KeptCall}
use Rattle.disk_model.specs.declared.call_log.KeptCall.TheVariants as kept
use Rattle.std.specs.List.{AllByRecursion}
use Rattle.disk_model.specs.Contents.{IsFile}
use Rattle.disk_model.specs.Calls.{Call, Wrote, Tore, Synced, bytes_kept, in_range}

-- the kept calls, the oldest first, how many there may be, and how many bytes their writes may have
pub record CallLogState : Type 0 where
  pub calls : List Call
  pub most_calls : ℕ
  pub most_bytes : ℕ

-- the call that is kept so over these bytes
abbrev pub call_of : List ℕ → KeptCall → Call
call_of bytes (kept.Wrote file at start len) = Wrote file at (take len (drop start bytes))
call_of bytes (kept.Tore file at len) = Tore file at len
call_of bytes (kept.Synced file) = Synced file

-- the file is one of the disk's, and a write's range lies within so many bytes
abbrev pub IsKeptWithin : ℕ → KeptCall → Type 0
IsKeptWithin n (kept.Wrote file at start len) = IsFile file × (start + len ≤ n)
IsKeptWithin n (kept.Tore file at len) = IsFile file
IsKeptWithin n (kept.Synced file) = IsFile file

-- the file of a kept call
abbrev pub kept_file : KeptCall → ℕ
kept_file (kept.Wrote file at start len) = file
kept_file (kept.Tore file at len) = file
kept_file (kept.Synced file) = file

-- whether a kept call wrote to the place, or failed to
abbrev pub kept_covers : KeptCall → ℕ → ℕ → Bool
kept_covers (kept.Wrote file at start len) other place = in_range file at len other place
kept_covers (kept.Tore file at len) other place = in_range file at len other place
kept_covers (kept.Synced file) other place = false

-- whether a kept call synced the file
abbrev pub kept_syncs : KeptCall → ℕ → Bool
kept_syncs (kept.Wrote file at start len) other = false
kept_syncs (kept.Tore file at len) other = false
kept_syncs (kept.Synced file) other = file == other

-- whether one of the kept calls synced the file
abbrev pub kept_synced : List KeptCall → ℕ → Bool
kept_synced [] file = false
kept_synced (call ∷ calls) file = kept_syncs call file || kept_synced calls file

-- whether one of the kept calls covers the place and no later one synced the file
abbrev pub kept_pending : List KeptCall → ℕ → ℕ → Bool
kept_pending [] file place = false
kept_pending (call ∷ calls) file place =
    kept_pending calls file place || (kept_covers call file place && not (kept_synced calls file))

-- how many of the kept calls synced the file
abbrev pub sync_count : List KeptCall → ℕ → ℕ
sync_count [] file = 0
sync_count (call ∷ calls) file = (if kept_syncs call file then 1 else 0) + sync_count calls file

-- the calls that are kept so over these bytes
abbrev pub calls_of : List KeptCall → List ℕ → List Call
calls_of kept bytes = map (call_of bytes) kept

-- each write lies within the bytes, and the writes have as many as there are
pub record IsLog (kept : List KeptCall) (bytes : List ℕ) : Type 0 where
  pub within : AllByRecursion (IsKeptWithin (length bytes)) kept
  pub count : bytes_kept (calls_of kept bytes) ≡ length bytes
