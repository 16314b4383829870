-- Which pages stay where records are read.
use Rattle.std.specs.Prelude.{◌≡◌, ◌⊎◌, ◌≤◌, IsSome, length}
use Rattle.rec_bytes.specs.declared.key.Key.{Key}
use Rattle.page_cache.specs.Pages.{Pages, kept_page}

-- there are as many pages as there may be
abbrev pub IsFull : Pages → Type 0
IsFull pages = pages.cap ≤ length pages.entries

-- What reads leave of the pages: there may be as many as before, and none that was kept has gone,
-- unless there are as many as there may be.
pub record StayKept (old new : Pages) : Type 0 where
  pub room : new.cap ≡ old.cap
  pub full : IsFull old → IsFull new
  pub stay : (key : Key) → IsSome (kept_page key old)
      → IsSome (kept_page key new) ⊎ IsFull new
