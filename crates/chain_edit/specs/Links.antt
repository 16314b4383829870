-- Links of relationships that are tested and set.
use Rattle.std.specs.Prelude.{◌≡◌, ◌≢◌, ◌⊎◌, ℕ, ◌<◌, ◌≤◌, nat_eq, if◌then◌else◌}
use Rattle.rec_bytes.specs.declared.damage.Damage.{Damage}
use Rattle.rec_bytes.specs.Format.{nil}
use Rattle.rec_bytes.specs.Space.{State, after_set}
use Rattle.store_rules.specs.Rules.{Head}
use Rattle.rel_store.specs.Loading.{mark_damage, rel_mark, rel_room}
use Rattle.chain_edit.specs.Chains.{next_place, prev_place}

-- the link is none, or it leads to a relationship that was given out, and there is room for as many
pub record IsRightLink (s : State) (link : ℕ) : Type 0 where
  pub low : (link ≡ nil) ⊎ (link < rel_mark s)
  pub mark : rel_mark s ≤ rel_room s

-- a link that leads to a relationship leads to one that was given out and has room
pub record IsKnownLink (s : State) (link : ℕ) : Type 0 where
  pub low : link ≢ nil → link < rel_mark s
  pub room : link ≢ nil → link < rel_room s

-- The record that is said to be damaged breaks the first rule: the one that is named has the link,
-- and it leads nowhere, or the meta record counts more relationships than there is room for.
pub data IsLinkDamage (s : State) (link : ℕ) (named : Damage) : Damage → Type 0 where
  LeadsNowhere : link ≢ nil → rel_mark s ≤ link → IsLinkDamage s link named named
  HighMark : rel_room s < rel_mark s → IsLinkDamage s link named mark_damage

-- after a number was read and written again
abbrev pub number_set : State → Head → ℕ → State
number_set s place to = after_set s place.key 4 place.field to

-- after the link to the next relationship was set, and that to the one before
abbrev pub next_set : State → ℕ → ℕ → ℕ → State
next_set s node x to = number_set s (next_place s.records node x) to

abbrev pub prev_set : State → ℕ → ℕ → ℕ → State
prev_set s node x to = number_set s (prev_place s.records node x) to

-- after a relationship got one before it, unless it is none
unfoldable pub backed : State → ℕ → ℕ → ℕ → State
backed s node x to = if nat_eq x nil then s else prev_set s node x to
