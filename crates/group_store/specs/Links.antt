-- Links of groups that are tested and set.
use Rattle.std.specs.Prelude.{◌≡◌, ◌≢◌, ◌⊎◌, ℕ, ◌<◌, ◌≤◌, nat_eq, if◌then◌else◌}
use Rattle.rec_bytes.specs.declared.damage.Damage.{Damage}
use Rattle.rec_bytes.specs.Format as format
use Rattle.rec_bytes.specs.Space.{State, after_set}
use Rattle.group_store.specs.GroupRecord.{group_key}
use Rattle.group_store.specs.Loading.{group_mark, group_room, mark_damage}

-- the link is none, or it leads to a group that was given out, and there is room for as many
pub record IsRightLink (s : State) (link : ℕ) : Type 0 where
  pub low : (link ≡ format.nil) ⊎ (link < group_mark s)
  pub mark : group_mark s ≤ group_room s

-- The record that is said to be damaged breaks the first rule: the one that is named has the link,
-- and it leads nowhere, or the meta record counts more groups than there is room for.
pub data IsLinkDamage (s : State) (link : ℕ) (named : Damage) : Damage → Type 0 where
  LeadsNowhere : link ≢ format.nil → group_mark s ≤ link → IsLinkDamage s link named named
  HighLink : group_room s < group_mark s → IsLinkDamage s link named mark_damage

-- after a link of a group was set
abbrev pub link_set : State → ℕ → ℕ → ℕ → State
link_set s g place to = after_set s (group_key g) 4 place to

-- after a group got one before it, unless it is none
unfoldable pub backed : State → ℕ → ℕ → State
backed s g to = if nat_eq g format.nil then s else link_set s g format.group_previous to
