use Rattle.std.proofs.Common.{refl}
use Rattle.follower.proofs.Slots.{is_least_from}
use Rattle.follower.proofs.slot.least_from.Goals as goal

pub returns : goal.returns
returns c = is_least_from c.args.first c.args.low c.args.power c.saturating_sub-gap.result _ c.requires.is_power c.requires.below c.saturating_sub-gap.ensures
    refl
