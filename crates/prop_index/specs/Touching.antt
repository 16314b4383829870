-- Which records a change of an index touches.
use Rattle.std.specs.Prelude.{ℕ, ◌≤◌, nat_eq, if◌then◌else◌, List, [], ◌∷◌, ◌++◌, length, map}
use Rattle.rec_bytes.specs.declared.key.Key.{Key}
use Rattle.rec_bytes.specs.Format as format
use Rattle.rec_bytes.specs.RecordFiles.{meta_key_of}
use Rattle.rec_bytes.specs.Space.{State}
use Rattle.store_rules.specs.Views.{key_in}
use Rattle.prop_store.specs.Touching.{TouchesOnly}

-- these records of the index, and its meta record
abbrev pub index_keys : List ℕ → List Key
index_keys ids = map (key_in format.index_file) ids ++ meta_key_of format.index_file ∷ []

-- the identifier, unless it is none
abbrev pub some_id : ℕ → List ℕ
some_id id = if nat_eq id format.nil then [] else id ∷ []

-- The records of an entry in front of a bucket: its own, that of the head, and that of the entry
-- that stood first.
abbrev pub front_ids : ℕ → ℕ → ℕ → List ℕ
front_ids id head first = id ∷ head ∷ some_id first

-- These are touched of the index, whatever the identifier of the entry is, and its meta record.
pub record TouchesFront (tells : Type 0) (head first : ℕ) (old new : State) : Type 0 where
  pub id : ℕ
  pub only : TouchesOnly tells old new (index_keys (front_ids id head first))

-- At most so many records of the index are touched, and its meta record. What became written is
-- among these, and so is what changed, where the space tells.
pub record TouchesIndex (tells : Type 0) (most : ℕ) (old new : State) : Type 0 where
  pub ids : List ℕ
  pub few : length ids ≤ most
  pub only : TouchesOnly tells old new (index_keys ids)
