-- What a reader of lines has read, as contracts see it.
use Rattle.std.specs.Prelude.{◌≡◌, ℕ, ◌-◌, Bool, true, false, List, [], ◌++◌, length, if◌then◌else◌}

-- The bytes that were taken from the source and not answered with yet, the line of the last answer,
-- how many bytes were taken in all, and whether the source answered its end.
pub record Reading : Type 0 where
  pub held : List ℕ
  pub line : List ℕ
  pub taken : ℕ
  pub ended : Bool

-- a reader that has read nothing
pub record IsFresh (r : Reading) : Type 0 where
  pub held : r.held ≡ []
  pub taken : r.taken ≡ 0
  pub ended : r.ended ≡ false

-- what is still to be read: the bytes held, and those that the source has left unless it answered
-- its end
abbrev pub ahead : Reading → List ℕ → List ℕ
ahead r left = if r.ended then r.held else r.held ++ left

-- how many bytes were answered with or dropped
abbrev pub used : Reading → ℕ
used r = r.taken - length r.held

-- if the source has answered its end, it has nothing left
abbrev pub HasNoneLeft : Reading → List ℕ → Type 0
HasNoneLeft r left = r.ended ≡ true → left ≡ []
