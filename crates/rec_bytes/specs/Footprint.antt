-- What a call writes: records that are fixed, and so many more of some files.
use Rattle.std.specs.Prelude.{◌≡◌, ◌⊎◌, ℕ, ◌≤◌, true, nat_eq, List, [], ◌∷◌, ◌++◌, length}
use Rattle.std.specs.List.{list_any}
use Rattle.rec_bytes.specs.declared.key.Key.{Key}
use Rattle.rec_bytes.specs.Space.{IsAmong, State}

-- The record is what it was, and it is written where it was.
pub record IsSame (old new : State) (q : Key) : Type 0 where
  pub written : new.written q ≡ old.written q
  pub held : new.records q ≡ old.records q

-- these are records of these files
abbrev pub AreOf : List ℕ → List Key → Type 0
AreOf files [] = Unit {0}
AreOf files (key ∷ keys) = (list_any (nat_eq key.file) files ≡ true) × AreOf files keys

-- No record was touched but the fixed ones, and so many more of these files.
pub record Wrote (old new : State) (fixed : List Key) (files : List ℕ) (more : ℕ) : Type 0 where
  pub others : List Key
  pub few : length others ≤ more
  pub own : AreOf files others
  pub each : (q : Key) → IsSame old new q ⊎ IsAmong q (others ++ fixed)

-- these keys are among those
abbrev pub AreAmong : List Key → List Key → Type 0
AreAmong [] ys = Unit {0}
AreAmong (x ∷ xs) ys = IsAmong x ys × AreAmong xs ys
