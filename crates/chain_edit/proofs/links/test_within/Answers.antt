use Rattle.std.proofs.Common.{arith}
use Rattle.chain_edit.specs.Links.IsLinkDamage.{LeadsNowhere, HighMark}
use Rattle.chain_edit.proofs.links.test_within.Goals as goal

pub returns-then-link-reach-clause-damaged : goal.returns-then-link-reach-clause-damaged
returns-then-link-reach-clause-damaged g c =
    let reach = c.requires in
    LeadsNowhere c.if-link-eq-NIL.false (omega (arith, reach.mark))

pub returns-then-link-reach-2-clause-damaged : goal.returns-then-link-reach-2-clause-damaged
returns-then-link-reach-2-clause-damaged g c =
    let reach = c.requires in
    HighMark (omega (arith, reach.mark, reach.room))
