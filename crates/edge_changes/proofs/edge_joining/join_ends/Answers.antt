use Rattle.std.proofs.Common.{subst, sym, rules}
use Rattle.chain_edit.specs.Heads.{head_of}
use Rattle.change_parts.specs.Damage.{BlamesBroken}
use Rattle.edge_changes.specs.EdgeEnds.{AreApart, AtEach, HasHead}
use Rattle.edge_changes.specs.EdgeJoining.{BlamesJoined, IsJoinDamage, WritesJoined}
use Rattle.edge_changes.specs.declared.edge_end.Ends.TheVariants.{Loop, Two}
use Rattle.change_parts.proofs.Exits.{fault_exit}
use Rattle.edge_changes.proofs.JoinWrites.{both_written}
use Rattle.rec_bytes.proofs.Causes.{never_ok}
use Rattle.std.specs.Prelude.{IfErr}
use Rattle.std.proofs.Common.{◌≢◌, ap, inl, inr}
use Rattle.change_parts.proofs.Broken.{blames_more}
use Rattle.edge_changes.specs.EdgeAdding.{KeepsButChains}
use Rattle.edge_changes.specs.EdgeEnds.{source_of, target_of}
use Rattle.edge_changes.specs.declared.edge_end.EdgeEnd.{EdgeEnd}
use Rattle.edge_changes.specs.declared.edge_end.Ends.{Ends}
use Rattle.edge_changes.proofs.EdgeBlames.{if_blames}
use Rattle.edge_changes.proofs.EdgeFound.{ends_found, found_then, joined_then, on_ok, source_first}
use Rattle.edge_changes.proofs.edge_joining.join_ends.Goals as goal

pub returns-in_ok-join_end-in-Two-clause-writes : goal.returns-in_ok-join_end-in-Two-clause-writes
returns-in_ok-join_end-in-Two-clause-writes g c =
    let s = g.S.Reads.state c.args.space.now in
    let t = g.S.Reads.state c.join_end-in-Two.new.space in
    let u = g.S.Reads.state c.join_end-in-Two-2.new.space in
    subst (WritesJoined s u c.args.rel) (sym c.in-Two.is) (both_written c.args.rel (Two c.in-Two.source c.in-Two.target) s t u c.join_end-in-Two.ensures.writes
    c.join_end-in-Two-2.ensures.writes)

-- ---- which record is blamed
pub returns-in-Loop-clause-damaged : goal.returns-in-Loop-clause-damaged
returns-in-Loop-clause-damaged g c tells heads =
    c.join_end.ensures.damaged tells (subst (AtEach (HasHead (g.S.Reads.state c.args.space.now).records)) c.in-Loop.is heads)

pub returns-in_err-join_end-in-Two-clause-damaged : goal.returns-in_err-join_end-in-Two-clause-damaged
returns-in_err-join_end-in-Two-clause-damaged g c tells heads =
    let has = subst (AtEach (HasHead (g.S.Reads.state c.args.space.now).records)) c.in-Two.is heads in
    fault_exit (λ f. f) (BlamesBroken (g.S.Reads.state c.join_end-in-Two.new.space)) c.in_err-join_end-in-Two.field-0.0 c.from_residual.result
    c.from_residual.ensures.1
    (c.in_err-join_end-in-Two.ensures.damaged tells has.0)

pub returns-in_ok-join_end-in-Two-clause-damaged : goal.returns-in_ok-join_end-in-Two-clause-damaged
returns-in_ok-join_end-in-Two-clause-damaged g c tells heads =
    let has = subst (AtEach (HasHead (g.S.Reads.state c.args.space.now).records)) c.in-Two.is heads in
    c.join_end-in-Two-2.ensures.damaged tells (c.in_ok-join_end-in-Two.ensures.heads tells has.0 (head_of c.in-Two.target.head) c.in-Two.target.node has.1)

pub returns-in_err-join_end-in-Two-clause-ok : goal.returns-in_err-join_end-in-Two-clause-ok
returns-in_err-join_end-in-Two-clause-ok g c _ = never_ok c.from_residual.result _ _ c.from_residual.ensures.1

pub returns-in_err-join_end-in-Two-clause-onward : goal.returns-in_err-join_end-in-Two-clause-onward
returns-in_err-join_end-in-Two-clause-onward g c = search rules

-- ---- which records are other

pub returns-in-Loop-clause-leaves : goal.returns-in-Loop-clause-leaves
returns-in-Loop-clause-leaves g c tells heads =
    let s = g.S.Reads.state c.args.space.now in
    let t = g.S.Reads.state c.join_end.new.space in
    let from = (source_of c.args.ends).node in
    let to = (target_of c.args.ends).node in
    let own = sym (ap (λ (e : Ends EdgeEnd). (source_of e).node) c.in-Loop.is) in
    let node = c.in-Loop.end.node in
    on_ok c.join_end.result (KeepsButChains s t node node) (KeepsButChains s t from to) (ends_found s t from to node (inl own))
    (c.join_end.ensures.leaves tells (subst (AtEach (HasHead s.records)) c.in-Loop.is heads))

pub returns-in-Loop-clause-found : goal.returns-in-Loop-clause-found
returns-in-Loop-clause-found g c tells heads apart =
    let s = g.S.Reads.state c.args.space.now in
    let t = g.S.Reads.state c.join_end.new.space in
    subst (λ (e : Ends EdgeEnd). IfErr c.join_end.result (BlamesJoined s t e)) (sym c.in-Loop.is)
    (c.join_end.ensures.found tells (subst (AtEach (HasHead s.records)) c.in-Loop.is heads))

pub returns-in_err-join_end-in-Two-clause-leaves : goal.returns-in_err-join_end-in-Two-clause-leaves
returns-in_err-join_end-in-Two-clause-leaves g c _ _ = never_ok c.from_residual.result _ _ c.from_residual.ensures.1

pub returns-in_err-join_end-in-Two-clause-found : goal.returns-in_err-join_end-in-Two-clause-found
returns-in_err-join_end-in-Two-clause-found g c tells heads apart =
    let s = g.S.Reads.state c.args.space.now in
    let t = g.S.Reads.state c.join_end-in-Two.new.space in
    let has = subst (AtEach (HasHead s.records)) c.in-Two.is heads in
    let source = c.in-Two.source in
    let target = c.in-Two.target in
    let fault = c.in_err-join_end-in-Two.field-0.0 in
    subst (λ (e : Ends EdgeEnd). IfErr c.from_residual.result (BlamesJoined s t e)) (sym c.in-Two.is)
    (fault_exit (λ f. f) (BlamesJoined s t (Two source target)) fault c.from_residual.result c.from_residual.ensures.1
    (blames_more (IsJoinDamage s t (Loop source)) (IsJoinDamage s t (Two source target)) (source_first s t source target) fault
    (c.in_err-join_end-in-Two.ensures.found tells has.0)))

pub returns-in_ok-join_end-in-Two-clause-leaves : goal.returns-in_ok-join_end-in-Two-clause-leaves
returns-in_ok-join_end-in-Two-clause-leaves g c tells heads =
    let s = g.S.Reads.state c.args.space.now in
    let m = g.S.Reads.state c.join_end-in-Two.new.space in
    let t = g.S.Reads.state c.join_end-in-Two-2.new.space in
    let from = (source_of c.args.ends).node in
    let to = (target_of c.args.ends).node in
    let leaves = sym (ap (λ (e : Ends EdgeEnd). (source_of e).node) c.in-Two.is) in
    let enters = sym (ap (λ (e : Ends EdgeEnd). (target_of e).node) c.in-Two.is) in
    let has = subst (AtEach (HasHead s.records)) c.in-Two.is heads in
    let node = c.in-Two.target.node in
    let one = ends_found s m from to c.in-Two.source.node (inl leaves) (c.in_ok-join_end-in-Two.ensures.leaves tells has.0) in
    on_ok c.join_end-in-Two-2.result (KeepsButChains m t node node) (KeepsButChains s t from to)
    (λ keeps. found_then s m t from to one (ends_found m t from to node (inr enters) keeps))
    (c.join_end-in-Two-2.ensures.leaves tells (c.in_ok-join_end-in-Two.ensures.heads tells has.0 (head_of c.in-Two.target.head) node has.1))

pub returns-in_ok-join_end-in-Two-clause-found : goal.returns-in_ok-join_end-in-Two-clause-found
returns-in_ok-join_end-in-Two-clause-found g c tells heads apart =
    let s = g.S.Reads.state c.args.space.now in
    let m = g.S.Reads.state c.join_end-in-Two.new.space in
    let t = g.S.Reads.state c.join_end-in-Two-2.new.space in
    let source = c.in-Two.source in
    let target = c.in-Two.target in
    let has = subst (AtEach (HasHead s.records)) c.in-Two.is heads in
    let differ : source.node ≢ target.node = subst (AreApart (λ (end : EdgeEnd). end.node)) c.in-Two.is apart in
    let owns = c.in_ok-join_end-in-Two.ensures.heads tells has.0 (head_of target.head) target.node has.1 in
    subst (λ (e : Ends EdgeEnd). IfErr c.join_end-in-Two-2.result (BlamesJoined s t e)) (sym c.in-Two.is)
    (if_blames c.join_end-in-Two-2.result (IsJoinDamage m t (Loop target)) (IsJoinDamage s t (Two source target))
    (joined_then s m t source target differ (g.met.S.Reads.onward_shape _ _ c.in_ok-join_end-in-Two.ensures.onward)
    (c.in_ok-join_end-in-Two.ensures.mark tells has.0) (c.in_ok-join_end-in-Two.ensures.others tells) has.0 has.1)
    (c.join_end-in-Two-2.ensures.found tells owns))
