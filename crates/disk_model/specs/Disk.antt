-- What the calls of a disk do to what is read, and to the images that a loss of power may leave.
use Rattle.std.specs.Prelude.{◌≡◌, ◌⊎◌, ℕ, ◌≤◌}
use Rattle.disk_model.specs.Contents.{Files, SameOutside}

-- each image after is an image before, but for the range of n bytes of the file
abbrev pub TornIn : ℕ → ℕ → ℕ → (Files → Type 0) → (Files → Type 0) → Type 0
TornIn file at n old new =
    (image : Files) → new image → (before : Files) × old before × SameOutside file at n before image

-- each image after was one before
abbrev pub NoMore : (Files → Type 0) → (Files → Type 0) → Type 0
NoMore old new = (image : Files) → new image → old image

-- each image has this file as it is read
abbrev pub Settled : ℕ → Files → (Files → Type 0) → Type 0
Settled file read images =
    (image : Files) → images image → (place : ℕ) → image file place ≡ read file place

-- Time goes on: what a crash might have left since an earlier moment is what it might have left
-- before, or what it may leave now, and nothing is forgotten.
pub record Elapses (before now : ℕ) (past since : ℕ → Files → Type 0)
    (images : Files → Type 0) : Type 0 where
  pub later : before ≤ now
  pub nothing_else : (t : ℕ) (image : Files) → t ≤ before → since t image
      → past t image ⊎ images image
  pub keeps : (t : ℕ) (image : Files) → t ≤ before → past t image → since t image

-- A crash at any moment since that one leaves a content that has P, whatever calls were made; of a
-- run that began earlier it leaves what it might have left before, or such a content, and nothing
-- is forgotten.
pub record LeavesOnly (before now : ℕ) (past since : ℕ → Files → Type 0)
    (P : Files → Type 0) : Type 0 where
  pub later : before ≤ now
  pub each : (image : Files) → since before image → P image
  pub nothing_else : (t : ℕ) (image : Files) → t ≤ before → since t image → past t image ⊎ P image
  pub keeps : (t : ℕ) (image : Files) → t ≤ before → past t image → since t image
