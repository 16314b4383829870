-- What a pass over the elements of a file finds.
use Rattle.std.specs.Prelude.{◌≡◌, ◌⊎◌, ℕ, ◌<◌, Bool, true, false, List}
use Rattle.std.specs.Bool.{Decides}
use Rattle.rec_bytes.specs.declared.damage.Damage.{Damage}
use Rattle.rec_bytes.specs.Format as format
use Rattle.store_rules.specs.Views.{Records, high}
use Rattle.store_rules.specs.Breaking.{ElementKeeps, HasProperty, damage}
use Rattle.record_lists.specs.Seen.{is_seen}

-- a property of an element of the file
pub record IsOfFile (records : Records) (file p : ℕ) : Type 0 where
  pub element : ℕ
  pub has : HasProperty records file element p

-- Each element of the file keeps the rule, their properties are seen, and none was before or is
-- had by two.
pub record AreListed (records : Records) (file : ℕ) (old new : List Bool) : Type 0 where
  pub keeps : (x : ℕ) → x < high records file → ElementKeeps records file x
  pub seen : (p : ℕ) → Decides (is_seen new p) ((is_seen old p ≡ true) ⊎ IsOfFile records file p)
  pub fresh : (x p : ℕ) → HasProperty records file x p → is_seen old p ≡ false
  pub once : (x y p : ℕ) → HasProperty records file x p → HasProperty records file y p → x ≡ y

-- a property that two elements of the file have, or one that was seen before
pub record IsHadTwice (records : Records) (file : ℕ) (old : List Bool) (p : ℕ) : Type 0 where
  pub element : ℕ
  pub has : HasProperty records file element p
  pub before : (is_seen old p ≡ true)
      ⊎ ((other : ℕ) × (other < element) × HasProperty records file other p)

-- an element that doesn't keep the rule, or a property that is had twice
abbrev pub IsUnlisted : Records → ℕ → List Bool → Damage → Type 0
IsUnlisted records file old d =
    ((x : ℕ) × (d ≡ damage file x 5) × (x < high records file) × (¬ ElementKeeps records file x))
    ⊎ ((p : ℕ) × (d ≡ damage format.properties_file p 5) × IsHadTwice records file old p)
