-- Which records a change writes, and how many.
use Rattle.std.specs.Prelude.{◌≡◌, ◌⊎◌, ℕ, ◌≤◌, true, List, [], ◌∷◌, ◌++◌, length, map}
use Rattle.rec_bytes.specs.declared.key.Key.{Key}
use Rattle.rec_bytes.specs.RecordFiles.{is_meta_file, meta_files, meta_key_of}
use Rattle.rec_bytes.specs.Space.{IsAmong, State, WritesOnly}

-- the keys of the files' meta records
abbrev pub meta_keys : List Key
meta_keys = map meta_key_of meta_files

-- these are keys of records that aren't meta records
abbrev pub AreOwn : List Key → Type 0
AreOwn [] = Unit {0}
AreOwn (key ∷ keys) = (is_meta_file key.file ≡ true) × AreOwn keys

-- At most so many records became written, meta records aside.
pub record WritesAtMost (count : ℕ) (old new : State) : Type 0 where
  pub keys : List Key
  pub few : length keys ≤ count
  pub own : AreOwn keys
  pub only : WritesOnly old new (keys ++ meta_keys)

-- At most so many did besides this one.
pub record WritesBeside (key : Key) (count : ℕ) (old new : State) : Type 0 where
  pub keys : List Key
  pub few : length keys ≤ count
  pub own : AreOwn keys
  pub only : WritesOnly old new (key ∷ keys ++ meta_keys)

-- what is other now than it was is among these keys
pub record ChangesOnly (old new : State) (keys : List Key) : Type 0 where
  pub each : (q : Key) → (new.records q ≡ old.records q) ⊎ IsAmong q keys
