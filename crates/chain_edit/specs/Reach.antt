-- How far links of relationships may lead.
use Rattle.std.specs.Prelude.{◌≡◌}
use Rattle.rec_bytes.specs.Space.{State}
use Rattle.rel_store.specs.Loading.{rel_mark, rel_room}
use Rattle.chain_edit.specs.declared.links.Reach.{Reach}

-- it is that of the space: its mark, and its room
pub record IsReach (s : State) (reach : Reach) : Type 0 where
  pub mark : reach.mark ≡ rel_mark s
  pub room : reach.room ≡ rel_room s
