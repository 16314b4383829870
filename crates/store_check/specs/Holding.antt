-- What passes over all elements, all texts and all definitions find.
use Rattle.std.specs.Prelude.{◌≡◌, ℕ, ◌<◌, Bool, true, List}
use Rattle.std.specs.Bool.{Decides}
use Rattle.rec_bytes.specs.Format as format
use Rattle.store_rules.specs.Views.{Records, high}
use Rattle.store_rules.specs.Breaking.{DefinitionKeeps, ElementKeeps, HasBlock, HasProperty}
use Rattle.store_rules.specs.Breaking.{IsBlockHeldOnce, IsHeldOnce, TextKeeps, is_element_file}
use Rattle.record_lists.specs.Seen.{is_seen}

-- an element has the property
pub record IsHeld (records : Records) (p : ℕ) : Type 0 where
  pub file : ℕ
  pub element : ℕ
  pub has : HasProperty records file element p

-- Each element keeps the rule, just their properties are seen, and none is had by two.
pub record AllListed (records : Records) (seen : List Bool) : Type 0 where
  pub keeps : (file x : ℕ) → is_element_file file ≡ true → x < high records file
      → ElementKeeps records file x
  pub told : (p : ℕ) → Decides (is_seen seen p) (IsHeld records p)
  pub once : (file x other y p : ℕ) → HasProperty records file x p → HasProperty records other y p
      → (file ≡ other) × (x ≡ y)

-- a property has the block
pub record IsBlockHeld (records : Records) (b : ℕ) : Type 0 where
  pub property : ℕ
  pub has : HasBlock records property b

-- Each text keeps the rule, just their blocks are seen, and none is had by two.
pub record AllTexts (records : Records) (seen : List Bool) : Type 0 where
  pub keeps : (p : ℕ) → p < high records format.properties_file → TextKeeps records p
  pub told : (b : ℕ) → Decides (is_seen seen b) (IsBlockHeld records b)
  pub once : (p q b : ℕ) → HasBlock records p b → HasBlock records q b → p ≡ q

-- elements keep the rule, and each property is held once
pub record AreElementsRight (records : Records) : Type 0 where
  pub keeps : (file x : ℕ) → is_element_file file ≡ true → x < high records file
      → ElementKeeps records file x
  pub held : (p : ℕ) → IsHeldOnce records p

-- texts keep the rule, and each block is held once
pub record AreTextsRight (records : Records) : Type 0 where
  pub keeps : (p : ℕ) → p < high records format.properties_file → TextKeeps records p
  pub held : (b : ℕ) → IsBlockHeldOnce records b

-- definitions keep the rule
pub record AreDefinitionsRight (records : Records) : Type 0 where
  pub keeps : (d : ℕ) → d < high records format.index_file → DefinitionKeeps records d
