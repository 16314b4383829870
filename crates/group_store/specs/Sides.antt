-- The chains of a group, by the direction of their relationships at the group's owner.
use Rattle.std.specs.Prelude.{ℕ, nat_eq, if◌then◌else◌}
use Rattle.rec_bytes.specs.Format as format
use Rattle.store_rules.specs.Rules as rules
use Rattle.group_store.specs.GroupRecord.{group_key}
use Rattle.group_store.specs.declared.side.Side.{Side}
use Rattle.group_store.specs.declared.side.Side.TheVariants.{Out, In, Loop}

-- on which side of a node a relationship is that goes from one node to another
abbrev pub side_at : ℕ → ℕ → ℕ → Side
side_at node from to = if nat_eq from to then Loop else (if nat_eq from node then Out else In)

-- the place of the first link of a side's chain
abbrev pub place_of : Side → ℕ
place_of Out = format.group_first_out
place_of In = format.group_first_in
place_of Loop = format.group_first_loop

-- the head of a group's chain
abbrev pub group_head : ℕ → Side → rules.Head
group_head group side = record { key = group_key group; field = place_of side }
