-- Records that differ from those that they replace.
use Rattle.std.specs.Prelude.{◌≡◌, ◌⊎◌, Some, is_some, true}
use Rattle.rec_bytes.specs.declared.key.Key.{Key}
use Rattle.rec_bytes.specs.declared.record.Rec.{Rec}
use Rattle.rec_bytes.specs.Pairs.{Pairs, find_pair, with_pair}
use Rattle.rec_bytes.specs.Space.{laid_over}

-- each of these records differs from the one that stands under its key
abbrev pub AreChanged : (Key → Rec) → Pairs → Type 0
AreChanged records pairs =
    (key : Key) (rec : Rec) → find_pair pairs key ≡ Some rec → ¬ (rec ≡ records key)

-- The record was put where it differs from the one that stands under its key, and else left out.
abbrev pub PutsChanged : Type 0 → (Key → Rec) → Key → Rec → Pairs → Pairs → Type 0
PutsChanged tells records key rec old new =
    ((new ≡ with_pair old key rec) × (tells → ¬ (rec ≡ records key)))
    ⊎ ((new ≡ old) × (tells → rec ≡ records key))

-- These are the changed ones of all: they have no other keys, and laid over what was there they
-- give the same.
pub record HasChanged (tells : Type 0) (records : Key → Rec) (all ones : Pairs) : Type 0 where
  pub fewer : (key : Key) → is_some (find_pair ones key) ≡ true
      → is_some (find_pair all key) ≡ true
  pub read : tells → laid_over records ones ≡ laid_over records all
  pub changed : tells → AreChanged records ones
