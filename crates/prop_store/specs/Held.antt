-- The records that an element's properties and the blocks of their values take.
use Rattle.std.specs.Prelude.{◌≡◌, ◌≤◌, List, length}
use Rattle.store_rules.specs.Properties.{Property, blocks_of, ids_of}
use Rattle.prop_store.specs.BlockList.{AreSmall}
use Rattle.prop_store.specs.declared.held.HeldIds.{HeldIds}

-- They are those of these properties.
pub record AreHeldBy (es : List Property) (held : HeldIds) : Type 0 where
  pub ids : held.ids.items ≡ ids_of es
  pub blocks : held.blocks.items ≡ blocks_of es

-- A store can have records of them, and an element may have so many.
pub record FitsIds (held : HeldIds) : Type 0 where
  pub small : AreSmall held.ids.items
  pub small_blocks : AreSmall held.blocks.items
  pub few : length held.ids.items ≤ 32
  pub few_blocks : length held.blocks.items ≤ 704
