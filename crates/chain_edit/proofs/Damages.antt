-- Links that lead nowhere, told by the space as it was.
use Rattle.std.proofs.Common.{◌≡◌, ℕ, subst}
use Rattle.rec_bytes.specs.declared.damage.Damage.{Damage}
use Rattle.rec_bytes.specs.Space.{State, after_get}
use Rattle.chain_edit.specs.Links.{IsLinkDamage}
use Rattle.chain_edit.specs.Links.IsLinkDamage.{LeadsNowhere, HighMark}

read_damage : (s : State) (link : ℕ) (named damage : Damage) → IsLinkDamage (after_get s) link named damage → IsLinkDamage s link named damage
read_damage s link named damage (LeadsNowhere some high) = LeadsNowhere some high
read_damage s link named damage (HighMark above) = HighMark above

-- what is told after a read of a link that was read
pub damage_read : (s now : State) (link was : ℕ) (named damage : Damage) → now ≡ after_get s → link ≡ was → IsLinkDamage now link named damage → IsLinkDamage s
    was named damage
damage_read s now link was named damage read is told =
    read_damage s was named damage (subst (λ l. IsLinkDamage (after_get s) l named damage) is (subst (λ t. IsLinkDamage t link named damage) read told))
