use Rattle.std.proofs.Common.{rules}
use Rattle.change_parts.specs.ChangeFault.{IsFailure, of_fault, of_space}
use Rattle.change_parts.proofs.Exits.{fault_fails, fault_exit, space_fails}
use Rattle.edge_changes.proofs.JoinWrites.{end_written, head_written}
use Rattle.change_parts.proofs.DiskCauses.{space_cause_passed, later_on}
use Rattle.chain_edit.specs.Heads.{head_of}
use Rattle.change_parts.specs.Damage.{BlamesBroken}
use Rattle.edge_changes.proofs.EdgeBlames.{heads_joined_by, mark_joined_by}
use Rattle.change_parts.proofs.Adding.{space_blamed}
use Rattle.edge_changes.proofs.JoinBlames.{push_blamed}
use Rattle.rec_bytes.proofs.Causes.{never_ok, ok_cause}
use Rattle.edge_changes.specs.EdgeJoining.{BlamesEndJoined}
use Rattle.edge_changes.proofs.EdgeFound.{found_joined_by, others_joined_by, push_blames}
use Rattle.edge_changes.proofs.edge_joining.join_end.Goals as goal

pub returns-clause-writes : goal.returns-clause-writes
returns-clause-writes g c = end_written _ _ _ c.args.rel c.args.end c.push_counted.ensures.writes c.set_number.ensures.writes

pub returns-in_err-set_number-clause-writes : goal.returns-in_err-set_number-clause-writes
returns-in_err-set_number-clause-writes g c = end_written _ _ _ c.args.rel c.args.end c.push_counted.ensures.writes c.set_number.ensures.writes

pub returns-in_err-push_counted-clause-writes : goal.returns-in_err-push_counted-clause-writes
returns-in_err-push_counted-clause-writes g c = head_written _ _ c.args.rel c.args.end c.push_counted.ensures.writes

pub returns-in_err-push_counted-clause-failure : goal.returns-in_err-push_counted-clause-failure
returns-in_err-push_counted-clause-failure g c = fault_exit of_fault IsFailure c.in_err-push_counted.field-0.0 c.from_residual.result c.from_residual.ensures.1
    (fault_fails c.in_err-push_counted.field-0.0)

pub returns-in_err-set_number-clause-failure : goal.returns-in_err-set_number-clause-failure
returns-in_err-set_number-clause-failure g c = fault_exit of_space IsFailure c.in_err-set_number.field-0.0 c.from_residual-in_err-set_number.result
    c.from_residual-in_err-set_number.ensures.1 (space_fails c.in_err-set_number.field-0.0)

pub returns-in_err-set_number-clause-cause : goal.returns-in_err-set_number-clause-cause
returns-in_err-set_number-clause-cause g c =
    space_cause_passed _ _ _ c.from_residual-in_err-set_number.result c.in_err-set_number.field-0.0 c.in_ok-push_counted.ensures.cause.later
    c.in_err-set_number.ensures.cause c.from_residual-in_err-set_number.ensures.1

-- ---- which record is blamed, and heads that stay
pub returns-in_err-push_counted-clause-damaged : goal.returns-in_err-push_counted-clause-damaged
returns-in_err-push_counted-clause-damaged g c tells owns =
    let s = g.S.Reads.state c.args.space.now in
    let t = g.S.Reads.state c.push_counted.new.space in
    fault_exit of_fault (BlamesBroken t) c.in_err-push_counted.field-0.0 c.from_residual.result c.from_residual.ensures.1
    (push_blamed s t c.in_err-push_counted.field-0.0 (c.in_err-push_counted.ensures.breaks tells c.args.end.node owns) c.in_err-push_counted.ensures.unwritten)

pub returns-in_err-set_number-clause-damaged : goal.returns-in_err-set_number-clause-damaged
returns-in_err-set_number-clause-damaged g c tells owns =
    fault_exit of_space (BlamesBroken (g.S.Reads.state c.set_number.new.space)) c.in_err-set_number.field-0.0 c.from_residual-in_err-set_number.result
    c.from_residual-in_err-set_number.ensures.1 (space_blamed _ c.in_err-set_number.field-0.0)

pub returns-clause-heads : goal.returns-clause-heads
returns-clause-heads g c tells owns =
    heads_joined_by (g.S.Reads.state c.args.space.now) (head_of c.args.end.head) c.args.end.node owns c.args.rel _
    (g.S.Reads.state c.push_counted.new.space) (g.S.Reads.state c.set_number.new.space) (c.in_ok-push_counted.ensures.ok tells)
    (c.in_ok-set_number.ensures.ok tells)

pub returns-in_err-push_counted-clause-ok : goal.returns-in_err-push_counted-clause-ok
returns-in_err-push_counted-clause-ok g c _ = never_ok c.from_residual.result _ _ c.from_residual.ensures.1

pub returns-in_err-push_counted-clause-heads : goal.returns-in_err-push_counted-clause-heads
returns-in_err-push_counted-clause-heads g c _ _ = never_ok c.from_residual.result _ _ c.from_residual.ensures.1

pub returns-in_err-push_counted-clause-onward : goal.returns-in_err-push_counted-clause-onward
returns-in_err-push_counted-clause-onward g c = search rules

pub returns-in_err-set_number-clause-ok : goal.returns-in_err-set_number-clause-ok
returns-in_err-set_number-clause-ok g c _ = never_ok c.from_residual-in_err-set_number.result _ _ c.from_residual-in_err-set_number.ensures.1

pub returns-in_err-set_number-clause-heads : goal.returns-in_err-set_number-clause-heads
returns-in_err-set_number-clause-heads g c _ _ = never_ok c.from_residual-in_err-set_number.result _ _ c.from_residual-in_err-set_number.ensures.1

pub returns-clause-cause : goal.returns-clause-cause
returns-clause-cause g c = ok_cause _ _ _ _ (later_on c.in_ok-push_counted.ensures.cause.later c.in_ok-set_number.ensures.cause.later)

-- ---- which records are other

pub returns-clause-leaves : goal.returns-clause-leaves
returns-clause-leaves g c tells owns =
    found_joined_by (g.S.Reads.state c.args.space.now) (head_of c.args.end.head) c.args.end.node owns c.args.rel _
    (g.S.Reads.state c.push_counted.new.space) (g.S.Reads.state c.set_number.new.space) (c.in_ok-push_counted.ensures.ok tells)
    (c.in_ok-set_number.ensures.ok tells)

pub returns-in_err-push_counted-clause-leaves : goal.returns-in_err-push_counted-clause-leaves
returns-in_err-push_counted-clause-leaves g c _ _ = never_ok c.from_residual.result _ _ c.from_residual.ensures.1

pub returns-in_err-set_number-clause-leaves : goal.returns-in_err-set_number-clause-leaves
returns-in_err-set_number-clause-leaves g c _ _ = never_ok c.from_residual-in_err-set_number.result _ _ c.from_residual-in_err-set_number.ensures.1

pub returns-in_err-push_counted-clause-found : goal.returns-in_err-push_counted-clause-found
returns-in_err-push_counted-clause-found g c tells owns =
    let s = g.S.Reads.state c.args.space.now in
    let t = g.S.Reads.state c.push_counted.new.space in
    let fault = c.in_err-push_counted.field-0.0 in
    fault_exit of_fault (BlamesEndJoined s t c.args.end) fault c.from_residual.result c.from_residual.ensures.1
    (push_blames s t c.args.end fault (c.in_err-push_counted.ensures.damaged tells) c.in_err-push_counted.ensures.unwritten)

pub returns-in_err-set_number-clause-found : goal.returns-in_err-set_number-clause-found
returns-in_err-set_number-clause-found g c tells owns =
    let s = g.S.Reads.state c.args.space.now in
    let t = g.S.Reads.state c.set_number.new.space in
    fault_exit of_space (BlamesEndJoined s t c.args.end) c.in_err-set_number.field-0.0 c.from_residual-in_err-set_number.result
    c.from_residual-in_err-set_number.ensures.1 (space_blamed _ c.in_err-set_number.field-0.0)

-- ---- no record of another file but that of the head and the node's is other
pub returns-clause-others : goal.returns-clause-others
returns-clause-others g c tells =
    others_joined_by (g.S.Reads.state c.args.space.now) (head_of c.args.end.head) c.args.end.node c.args.rel _
    (g.S.Reads.state c.push_counted.new.space) (g.S.Reads.state c.set_number.new.space) (c.in_ok-push_counted.ensures.ok tells)
    (c.in_ok-set_number.ensures.ok tells)

pub returns-in_err-push_counted-clause-others : goal.returns-in_err-push_counted-clause-others
returns-in_err-push_counted-clause-others g c _ = never_ok c.from_residual.result _ _ c.from_residual.ensures.1

pub returns-in_err-set_number-clause-others : goal.returns-in_err-set_number-clause-others
returns-in_err-set_number-clause-others g c _ = never_ok c.from_residual-in_err-set_number.result _ _ c.from_residual-in_err-set_number.ensures.1

-- ---- how many relationships were given out
pub returns-clause-mark : goal.returns-clause-mark
returns-clause-mark g c tells owns =
    mark_joined_by (g.S.Reads.state c.args.space.now) (head_of c.args.end.head) c.args.end.node owns c.args.rel _
    (g.S.Reads.state c.push_counted.new.space) (g.S.Reads.state c.set_number.new.space) (c.in_ok-push_counted.ensures.ok tells)
    (c.in_ok-set_number.ensures.ok tells)

pub returns-in_err-push_counted-clause-mark : goal.returns-in_err-push_counted-clause-mark
returns-in_err-push_counted-clause-mark g c _ _ = never_ok c.from_residual.result _ _ c.from_residual.ensures.1

pub returns-in_err-set_number-clause-mark : goal.returns-in_err-set_number-clause-mark
returns-in_err-set_number-clause-mark g c _ _ = never_ok c.from_residual-in_err-set_number.result _ _ c.from_residual-in_err-set_number.ensures.1
