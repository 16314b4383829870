use Rattle.std.proofs.Common.{ℕ, ◌∙◌, subst, rules}
use Rattle.change_parts.specs.ChangeFault.{IsOutside}
use Rattle.edge_changes.specs.EdgeEnds.{HasHead}
use Rattle.edge_changes.specs.EdgeJoining.{HasPlaced, IsJoinDamage, IsOfLost, WritesJoined}
use Rattle.edge_changes.specs.EdgePlacing.{IsEdgeBetween}
use Rattle.edge_changes.proofs.EdgeStands.{ends_stand}
use Rattle.edge_changes.proofs.EdgePut.{firsts_right, puts_edge}
use Rattle.change_parts.proofs.Exits.{fault_exit}
use Rattle.edge_changes.proofs.JoinWrites.{placed_joined, placed_written}
use Rattle.change_parts.proofs.Writes.{on_any_err}
use Rattle.change_parts.proofs.DiskCauses.{change_cause_passed, later_on}
use Rattle.chain_edit.specs.Heads.{head_of}
use Rattle.change_parts.specs.Damage.{BlamesBroken, IfBlames}
use Rattle.edge_changes.proofs.EndLaws.{at_more}
use Rattle.rec_bytes.proofs.Causes.{never_ok, ok_cause}
use Rattle.change_parts.proofs.Broken.{blames_more}
use Rattle.edge_changes.specs.EdgeAdding.{IsChainDamage, KeepsButChains}
use Rattle.edge_changes.specs.EdgeEnds.{source_of, target_of}
use Rattle.edge_changes.proofs.EdgeFound.{chain_more, found_then, placed_then}
use Rattle.edge_changes.proofs.FreeEdges.{ends_free, placed_takes, taken_before}
use Rattle.edge_changes.proofs.edge_joining.join_edge.Goals as goal

pub returns-in_err-id-clause-not_damaged : goal.returns-in_err-id-clause-not_damaged
returns-in_err-id-clause-not_damaged g c tells names text can at room =
    fault_exit (λ f. f) IsOutside c.in_err-id.field-0.0 c.from_residual.result c.from_residual.ensures.1
    (c.in_err-id.ensures.not_damaged tells _ can.empty can.keeps room)

pub returns-in_err-join_ends-clause-not_damaged : goal.returns-in_err-join_ends-clause-not_damaged
returns-in_err-join_ends-clause-not_damaged g c tells names text can at room =
    let s = g.S.Reads.state c.args.space.now in
    let t = g.S.Reads.state c.place.new.space in
    let placed = subst (λ (p : ℕ × ℕ). HasPlaced s t c.args.label p.0 p.1 c.in_ok-id.id) c.nodes-from.ensures (c.in_ok-id.ensures.placed tells) in
    fault_exit (λ f. f) IsOutside c.in_err-join_ends.field-0.0 c.from_residual-in_err-join_ends.result c.from_residual-in_err-join_ends.ensures.1
    (c.in_err-join_ends.ensures.not_damaged tells (firsts_right s t names c.args.label text c.args.ends c.in_ok-id.id can at placed))

pub returns-clause-joined : goal.returns-clause-joined
returns-clause-joined g c tells names text can at =
    let s = g.S.Reads.state c.args.space.now in
    let t = g.S.Reads.state c.place.new.space in
    let placed = subst (λ (p : ℕ × ℕ). HasPlaced s t c.args.label p.0 p.1 c.in_ok-id.id) c.nodes-from.ensures (c.in_ok-id.ensures.placed tells) in
    puts_edge s t names c.args.label text c.args.ends c.in_ok-id.id can at placed
    (g.S.Reads.state c.join_ends.new.space) c.requires.apart (c.in_ok-join_ends.ensures.ok tells)
    ((g.met.S.Reads.onward_shape _ _ c.join_ends.ensures.onward) ∙ (g.met.S.Reads.onward_shape _ _ c.in_ok-id.ensures.onward))

pub returns-clause-writes : goal.returns-clause-writes
returns-clause-writes g c = placed_joined c.in_ok-id.id c.args.ends _ _ _ c.in_ok-id.ensures.writes c.join_ends.ensures.writes

pub returns-in_err-id-clause-err_writes : goal.returns-in_err-id-clause-err_writes
returns-in_err-id-clause-err_writes g c =
    let placed = c.in_err-id.ensures.err_writes in
    let w : (id : ℕ) × WritesJoined (g.S.Reads.state c.args.space.now) (g.S.Reads.state c.place.new.space) id c.args.ends =
    (placed.0, placed_written placed.0 c.args.ends _ _ placed.1) in
    on_any_err _ _ w

pub returns-in_err-join_ends-clause-err_writes : goal.returns-in_err-join_ends-clause-err_writes
returns-in_err-join_ends-clause-err_writes g c =
    let w : (id : ℕ) × WritesJoined (g.S.Reads.state c.args.space.now) (g.S.Reads.state c.join_ends.new.space) id c.args.ends
    = (c.in_ok-id.id, placed_joined c.in_ok-id.id c.args.ends _ _ _ c.in_ok-id.ensures.writes c.join_ends.ensures.writes) in
    on_any_err _ _ w

pub returns-in_err-join_ends-clause-cause : goal.returns-in_err-join_ends-clause-cause
returns-in_err-join_ends-clause-cause g c =
    change_cause_passed _ _ _ c.from_residual-in_err-join_ends.result c.in_err-join_ends.field-0.0 c.in_ok-id.ensures.cause.later
    c.in_err-join_ends.ensures.cause c.from_residual-in_err-join_ends.ensures.1

-- ---- which record is blamed
pub returns-in_err-join_ends-clause-damaged : goal.returns-in_err-join_ends-clause-damaged
returns-in_err-join_ends-clause-damaged g c tells heads has =
    let s = g.S.Reads.state c.args.space.now in
    let t = g.S.Reads.state c.place.new.space in
    fault_exit (λ f. f) (BlamesBroken (g.S.Reads.state c.join_ends.new.space)) c.in_err-join_ends.field-0.0 c.from_residual-in_err-join_ends.result
    c.from_residual-in_err-join_ends.ensures.1
    (c.in_err-join_ends.ensures.damaged tells (at_more (HasHead s.records) (HasHead t.records) c.args.ends (λ end. c.in_ok-id.ensures.heads tells
    (head_of end.head) end.node) heads))

pub returns-in_err-id-clause-joined : goal.returns-in_err-id-clause-joined
returns-in_err-id-clause-joined g c _ = never_ok c.from_residual.result _ _ c.from_residual.ensures.1

pub returns-in_err-id-clause-is : goal.returns-in_err-id-clause-is
returns-in_err-id-clause-is g c = never_ok c.from_residual.result _ _ c.from_residual.ensures.1

pub returns-in_err-id-clause-key : goal.returns-in_err-id-clause-key
returns-in_err-id-clause-key g c = never_ok c.from_residual.result _ _ c.from_residual.ensures.1

pub returns-in_err-id-clause-writes : goal.returns-in_err-id-clause-writes
returns-in_err-id-clause-writes g c = never_ok c.from_residual.result _ _ c.from_residual.ensures.1

pub returns-in_err-id-clause-onward : goal.returns-in_err-id-clause-onward
returns-in_err-id-clause-onward g c = search rules

pub returns-in_err-join_ends-clause-joined : goal.returns-in_err-join_ends-clause-joined
returns-in_err-join_ends-clause-joined g c _ = never_ok c.from_residual-in_err-join_ends.result _ _ c.from_residual-in_err-join_ends.ensures.1

pub returns-in_err-join_ends-clause-is : goal.returns-in_err-join_ends-clause-is
returns-in_err-join_ends-clause-is g c = never_ok c.from_residual-in_err-join_ends.result _ _ c.from_residual-in_err-join_ends.ensures.1

pub returns-in_err-join_ends-clause-key : goal.returns-in_err-join_ends-clause-key
returns-in_err-join_ends-clause-key g c = never_ok c.from_residual-in_err-join_ends.result _ _ c.from_residual-in_err-join_ends.ensures.1

pub returns-in_err-join_ends-clause-writes : goal.returns-in_err-join_ends-clause-writes
returns-in_err-join_ends-clause-writes g c = never_ok c.from_residual-in_err-join_ends.result _ _ c.from_residual-in_err-join_ends.ensures.1

pub returns-clause-cause : goal.returns-clause-cause
returns-clause-cause g c = ok_cause _ _ _ _ (later_on c.in_ok-id.ensures.cause.later c.in_ok-join_ends.ensures.cause.later)

-- ---- which records are other

pub returns-clause-leaves : goal.returns-clause-leaves
returns-clause-leaves g c tells heads =
    let s = g.S.Reads.state c.args.space.now in
    let t = g.S.Reads.state c.place.new.space in
    let u = g.S.Reads.state c.join_ends.new.space in
    let from = (source_of c.args.ends).node in
    let to = (target_of c.args.ends).node in
    let has = at_more (HasHead s.records) (HasHead t.records) c.args.ends (λ end. c.in_ok-id.ensures.heads tells (head_of end.head) end.node) heads in
    let one = subst (λ (p : ℕ × ℕ). KeepsButChains s t p.0 p.1) c.nodes-from.ensures (c.in_ok-id.ensures.leaves tells) in
    found_then s t u from to one (c.in_ok-join_ends.ensures.leaves tells has)

pub returns-in_err-id-clause-leaves : goal.returns-in_err-id-clause-leaves
returns-in_err-id-clause-leaves g c _ _ = never_ok c.from_residual.result _ _ c.from_residual.ensures.1

pub returns-in_err-join_ends-clause-leaves : goal.returns-in_err-join_ends-clause-leaves
returns-in_err-join_ends-clause-leaves g c _ _ = never_ok c.from_residual-in_err-join_ends.result _ _ c.from_residual-in_err-join_ends.ensures.1

pub returns-in_err-id-clause-found : goal.returns-in_err-id-clause-found
returns-in_err-id-clause-found g c tells heads =
    let s = g.S.Reads.state c.args.space.now in
    let t = g.S.Reads.state c.place.new.space in
    let fault = c.in_err-id.field-0.0 in
    fault_exit (λ f. f) (IfBlames (IsChainDamage s t (IsOfLost s c.args.ends))) fault c.from_residual.result c.from_residual.ensures.1
    (blames_more (IsChainDamage s t (λ _. ⊥)) (IsChainDamage s t (IsOfLost s c.args.ends))
    (chain_more s t (λ _. ⊥) (IsOfLost s c.args.ends) (λ damage none. absurd none)) fault (c.in_err-id.ensures.found tells))

pub returns-in_err-join_ends-clause-found : goal.returns-in_err-join_ends-clause-found
returns-in_err-join_ends-clause-found g c tells heads =
    let s = g.S.Reads.state c.args.space.now in
    let t = g.S.Reads.state c.place.new.space in
    let u = g.S.Reads.state c.join_ends.new.space in
    let ends = c.args.ends in
    let has = at_more (HasHead s.records) (HasHead t.records) ends (λ end. c.in_ok-id.ensures.heads tells (head_of end.head) end.node) heads in
    let fault = c.in_err-join_ends.field-0.0 in
    fault_exit (λ f. f) (IfBlames (IsChainDamage s u (IsOfLost s ends))) fault c.from_residual-in_err-join_ends.result
    c.from_residual-in_err-join_ends.ensures.1
    (blames_more (IsJoinDamage t u ends) (IsChainDamage s u (IsOfLost s ends))
    (placed_then s t u ends (c.in_ok-id.ensures.lists tells) (c.in_ok-id.ensures.others tells) (c.in_ok-id.ensures.grown tells) heads) fault
    (c.in_err-join_ends.ensures.found tells has c.requires.apart))

-- ---- it is in use, leads from one node to the other, and has its type
pub returns-clause-stands : goal.returns-clause-stands
returns-clause-stands g c tells =
    let t = g.S.Reads.state c.place.new.space in
    let id = c.in_ok-id.id in
    ends_stand t (g.S.Reads.state c.join_ends.new.space) c.args.ends id c.requires.each (c.in_ok-join_ends.ensures.ok tells) id
    (source_of c.args.ends).node c.args.label (target_of c.args.ends).node
    (subst (λ (p : ℕ × ℕ). IsEdgeBetween t.records id p.0 c.args.label p.1) c.nodes-from.ensures (c.in_ok-id.ensures.stands tells))

pub returns-in_err-id-clause-stands : goal.returns-in_err-id-clause-stands
returns-in_err-id-clause-stands g c _ = never_ok c.from_residual.result _ _ c.from_residual.ensures.1

pub returns-in_err-join_ends-clause-stands : goal.returns-in_err-join_ends-clause-stands
returns-in_err-join_ends-clause-stands g c _ = never_ok c.from_residual-in_err-join_ends.result _ _ c.from_residual-in_err-join_ends.ensures.1

-- ---- which relationships are free
pub returns-clause-free : goal.returns-clause-free
returns-clause-free g c tells =
    let s = g.S.Reads.state c.args.space.now in
    let t = g.S.Reads.state c.place.new.space in
    let u = g.S.Reads.state c.join_ends.new.space in
    let id = c.in_ok-id.id in
    taken_before s.records t.records u.records (placed_takes s t c.args.label _ _ id (c.in_ok-id.ensures.placed tells))
    (ends_free t u c.args.ends id c.requires.each (c.in_ok-join_ends.ensures.ok tells))

pub returns-in_err-id-clause-free : goal.returns-in_err-id-clause-free
returns-in_err-id-clause-free g c _ = never_ok c.from_residual.result _ _ c.from_residual.ensures.1

pub returns-in_err-join_ends-clause-free : goal.returns-in_err-join_ends-clause-free
returns-in_err-join_ends-clause-free g c _ = never_ok c.from_residual-in_err-join_ends.result _ _ c.from_residual-in_err-join_ends.ensures.1
