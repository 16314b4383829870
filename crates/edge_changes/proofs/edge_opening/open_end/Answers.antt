use Rattle.std.proofs.Common.{◌+◌, arith, rules}
use Rattle.change_parts.specs.ChangeFault.{IsOutside, of_open}
use Rattle.change_parts.specs.Damage.{BlamesBroken}
use Rattle.change_parts.proofs.DiskCauses.{open_cause_passed}
use Rattle.change_parts.proofs.Exits.{fault_exit}
use Rattle.edge_changes.proofs.JoinBlames.{end_blamed}
use Rattle.rec_bytes.proofs.Causes.{never_ok, ok_cause}
use Rattle.edge_changes.specs.EdgeAdding.{BlamesEnd}
use Rattle.edge_changes.specs.EdgePlacing.{HadFewGroups, IsPutFault}
use Rattle.edge_changes.proofs.FullGroups.{open_few, open_outside, open_put}
use Rattle.edge_changes.proofs.EdgeFound.{found_beside, open_blames}
use Rattle.edge_changes.proofs.edge_opening.open_end.Goals as goal

pub returns-in_err-head-clause-damaged : goal.returns-in_err-head-clause-damaged
returns-in_err-head-clause-damaged g c tells used le =
    let t = g.S.Reads.state c.open_chain.new.space in
    fault_exit of_open (BlamesBroken t) c.in_err-head.field-0.0 c.from_residual.result c.from_residual.ensures.1
    (end_blamed t c.in_err-head.field-0.0 (c.in_err-head.ensures.blames tells used le))

pub returns-clause-has : goal.returns-clause-has
returns-clause-has g c tells used = c.in_ok-head.ensures.owns tells used

pub returns-clause-heads : goal.returns-clause-heads
returns-clause-heads g c tells = c.in_ok-head.ensures.heads tells

pub returns-clause-leaves_others : goal.returns-clause-leaves_others
returns-clause-leaves_others g c tells = c.in_ok-head.ensures.leaves_others tells

pub returns-in_err-head-clause-opened : goal.returns-in_err-head-clause-opened
returns-in_err-head-clause-opened g c _ = never_ok c.from_residual.result _ _ c.from_residual.ensures.1

pub returns-in_err-head-clause-leaves_others : goal.returns-in_err-head-clause-leaves_others
returns-in_err-head-clause-leaves_others g c _ = never_ok c.from_residual.result _ _ c.from_residual.ensures.1

pub returns-in_err-head-clause-has : goal.returns-in_err-head-clause-has
returns-in_err-head-clause-has g c _ _ = never_ok c.from_residual.result _ _ c.from_residual.ensures.1

pub returns-in_err-head-clause-heads : goal.returns-in_err-head-clause-heads
returns-in_err-head-clause-heads g c _ = never_ok c.from_residual.result _ _ c.from_residual.ensures.1

pub returns-in_err-head-clause-is : goal.returns-in_err-head-clause-is
returns-in_err-head-clause-is g c = never_ok c.from_residual.result _ _ c.from_residual.ensures.1

pub returns-in_err-head-clause-end : goal.returns-in_err-head-clause-end
returns-in_err-head-clause-end g c = never_ok c.from_residual.result _ _ c.from_residual.ensures.1

pub returns-in_err-head-clause-wrote : goal.returns-in_err-head-clause-wrote
returns-in_err-head-clause-wrote g c = never_ok c.from_residual.result _ _ c.from_residual.ensures.1

pub returns-in_err-head-clause-onward : goal.returns-in_err-head-clause-onward
returns-in_err-head-clause-onward g c = search rules

pub returns-clause-cause : goal.returns-clause-cause
returns-clause-cause g c = ok_cause _ _ _ _ c.in_ok-head.ensures.cause.later

-- ---- which records are other

pub returns-clause-leaves : goal.returns-clause-leaves
returns-clause-leaves g c tells =
    found_beside (g.S.Reads.state c.args.space.now) (g.S.Reads.state c.open_chain.new.space) c.args.end.node (c.in_ok-head.ensures.leaves_others tells)

pub returns-in_err-head-clause-leaves : goal.returns-in_err-head-clause-leaves
returns-in_err-head-clause-leaves g c _ = never_ok c.from_residual.result _ _ c.from_residual.ensures.1

pub returns-in_err-head-clause-found : goal.returns-in_err-head-clause-found
returns-in_err-head-clause-found g c tells =
    let s = g.S.Reads.state c.args.space.now in
    let t = g.S.Reads.state c.open_chain.new.space in
    let node = c.args.end.node in
    fault_exit of_open (BlamesEnd s t node) c.in_err-head.field-0.0 c.from_residual.result c.from_residual.ensures.1
    (open_blames (c.args.joint.threshold + 1) s t node c.in_err-head.field-0.0 (c.in_err-head.ensures.names tells) (c.in_err-head.ensures.named tells)
    (c.in_err-head.ensures.metas tells) (c.in_err-head.ensures.stays tells))

-- where the chain of the head begins
pub returns-clause-reaches : goal.returns-clause-reaches
returns-clause-reaches g c tells = c.in_ok-head.ensures.reaches tells

pub returns-in_err-head-clause-reaches : goal.returns-in_err-head-clause-reaches
returns-in_err-head-clause-reaches g c _ = never_ok c.from_residual.result _ _ c.from_residual.ensures.1

-- the free list of the groups
pub returns-clause-lists : goal.returns-clause-lists
returns-clause-lists g c tells = c.in_ok-head.ensures.lists tells

pub returns-in_err-head-clause-lists : goal.returns-in_err-head-clause-lists
returns-in_err-head-clause-lists g c _ = never_ok c.from_residual.result _ _ c.from_residual.ensures.1

-- how many groups are counted
pub returns-clause-room : goal.returns-clause-room
returns-clause-room g c tells = c.in_ok-head.ensures.room tells

pub returns-in_err-head-clause-room : goal.returns-in_err-head-clause-room
returns-in_err-head-clause-room g c _ = never_ok c.from_residual.result _ _ c.from_residual.ensures.1

-- ---- why none is opened

pub returns-in_err-head-clause-not_damaged : goal.returns-in_err-head-clause-not_damaged
returns-in_err-head-clause-not_damaged g c tells row empty can room =
    fault_exit of_open IsOutside c.in_err-head.field-0.0 c.from_residual.result c.from_residual.ensures.1
    (open_outside c.in_err-head.field-0.0 (c.in_err-head.ensures.not_damaged tells row empty can room))

pub returns-in_err-head-clause-failure : goal.returns-in_err-head-clause-failure
returns-in_err-head-clause-failure g c tells =
    let s = g.S.Reads.state c.args.space.now in
    let t = g.S.Reads.state c.open_chain.new.space in
    fault_exit of_open (IsPutFault t) c.in_err-head.field-0.0 c.from_residual.result c.from_residual.ensures.1
    (open_put (c.args.joint.threshold + 1) s t c.in_err-head.field-0.0 (c.in_err-head.ensures.metas tells))

pub returns-in_err-head-clause-short : goal.returns-in_err-head-clause-short
returns-in_err-head-clause-short g c tells =
    let s = g.S.Reads.state c.args.space.now in
    let t = g.S.Reads.state c.open_chain.new.space in
    fault_exit of_open (HadFewGroups s (c.args.joint.threshold + 1)) c.in_err-head.field-0.0 c.from_residual.result c.from_residual.ensures.1
    (open_few (c.args.joint.threshold + 1) s t c.in_err-head.field-0.0 (c.in_err-head.ensures.metas tells))

pub returns-in_err-head-clause-cause : goal.returns-in_err-head-clause-cause
returns-in_err-head-clause-cause g c =
    open_cause_passed _ _ _ c.from_residual.result c.in_err-head.field-0.0 (omega arith) c.in_err-head.ensures.cause c.from_residual.ensures.1
