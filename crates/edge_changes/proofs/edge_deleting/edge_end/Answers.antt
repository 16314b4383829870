use Rattle.std.proofs.Common.{◌⊎◌, [], ap, inl, inr, ⊎_elim, refl, subst, sym, rules}
use Rattle.rec_bytes.specs.Space.{State}
use Rattle.rec_bytes.proofs.Spaces.{writes_none}
use Rattle.chain_edit.specs.declared.head.Head.{Head}
use Rattle.change_parts.specs.ChangeFault.{IsOutside, IsFailure, of_fault}
use Rattle.edge_changes.proofs.EndsFound.{end_found, end_of, end_readable}
use Rattle.edge_changes.proofs.EndWrites.{read_then}
use Rattle.change_parts.proofs.Exits.{fault_exit, fault_fails, fault_outside}
use Rattle.change_parts.proofs.DiskCauses.{fault_cause_passed, later_on}
use Rattle.group_store.specs.Densing.{IsSparse}
use Rattle.group_store.specs.GroupChain.{IsDense}
use Rattle.group_store.proofs.KeptHeads.{heads_same, heads_then}
use Rattle.edge_changes.specs.EdgeDeleting.{BlamesEnd, with_property}
use Rattle.group_store.proofs.LeftBeside.{counted_read, counted_then}
use Rattle.edge_changes.proofs.EdgeBlames.{head_blamed}
use Rattle.change_parts.specs.Damage.{BlamesBroken}
use Rattle.edge_changes.proofs.EdgeSought.{end_still, head_still}
use Rattle.rec_bytes.proofs.Causes.{never_ok, ok_cause}
use Rattle.edge_changes.proofs.edge_deleting.edge_end.Goals as goal

-- ---- why it fails
pub returns-in_err-degree-clause-not_damaged : goal.returns-in_err-degree-clause-not_damaged
returns-in_err-degree-clause-not_damaged g c tells names store there which =
    let s = g.S.Reads.state c.args.space.now in
    let end = end_readable s names c.args.id c.args.rel store there c.args.node which in
    fault_exit (λ f. f) IsOutside c.in_err-degree.field-0.0 c.from_residual.result c.from_residual.ensures.1
    (c.in_err-degree.ensures.not_damaged tells end.0 end.1)

pub returns-in_err-head-clause-not_damaged : goal.returns-in_err-head-clause-not_damaged
returns-in_err-head-clause-not_damaged g c tells names store there which =
    let s = g.S.Reads.state c.args.space.now in
    let m = g.S.Reads.state c.end_degree.new.space in
    fault_exit of_fault IsOutside c.in_err-head.field-0.0 c.from_residual-in_err-head.result c.from_residual-in_err-head.ensures.1
    (fault_outside Head c.in_err-head.field-0.0 (c.in_err-head.ensures.not_damaged tells m.shape.threshold [] c.args.id _
    (end_of s names c.args.id c.args.rel store there c.args.node which m c.end_degree.ensures.state c.at-side.result c.at-side.ensures)))

pub returns-in_err-head-clause-failure : goal.returns-in_err-head-clause-failure
returns-in_err-head-clause-failure g c = fault_exit of_fault IsFailure c.in_err-head.field-0.0 c.from_residual-in_err-head.result
    c.from_residual-in_err-head.ensures.1 (fault_fails c.in_err-head.field-0.0)

-- ---- what it leaves
pub returns-clause-found : goal.returns-clause-found
returns-clause-found g c tells names store there which =
    let s = g.S.Reads.state c.args.space.now in
    let m = g.S.Reads.state c.end_degree.new.space in
    let t = g.S.Reads.state c.open_head.new.space in
    end_found s names c.args.id c.args.rel store there c.args.node which m t c.end_degree.ensures.state c.in_ok-head.head c.in_ok-degree.degree
    (c.in_ok-head.ensures.found tells m.shape.threshold [] c.args.id _ (end_of s names c.args.id c.args.rel store there c.args.node which m
    c.end_degree.ensures.state c.at-side.result c.at-side.ensures))
    (c.in_ok-degree.ensures.found tells)

-- ---- what it writes
pub returns-in_err-degree-clause-writes : goal.returns-in_err-degree-clause-writes
returns-in_err-degree-clause-writes g c = (0, writes_none _ _ _ (ap (λ (z : State). z.written) c.end_degree.ensures.state))

pub returns-in_err-head-clause-writes : goal.returns-in_err-head-clause-writes
returns-in_err-head-clause-writes g c = (c.open_head.ensures.writes.0, read_then _ _ _ _ c.end_degree.ensures.state c.open_head.ensures.writes.1)

pub returns-clause-writes : goal.returns-clause-writes
returns-clause-writes g c = (c.open_head.ensures.writes.0, read_then _ _ _ _ c.end_degree.ensures.state c.open_head.ensures.writes.1)

pub returns-clause-wrote : goal.returns-clause-wrote
returns-clause-wrote g c = read_then _ _ _ _ c.end_degree.ensures.state c.in_ok-head.ensures.wrote

pub returns-in_err-head-clause-cause : goal.returns-in_err-head-clause-cause
returns-in_err-head-clause-cause g c =
    fault_cause_passed _ _ _ c.from_residual-in_err-head.result c.in_err-head.field-0.0 c.in_ok-degree.ensures.cause.later c.in_err-head.ensures.cause
    c.from_residual-in_err-head.ensures.1

-- ---- which record is blamed, and whose the head is
pub returns-in_err-degree-clause-damaged : goal.returns-in_err-degree-clause-damaged
returns-in_err-degree-clause-damaged g c tells =
    fault_exit (λ f. f) (BlamesEnd (g.S.Reads.state c.args.space.now) c.args.id c.args.node c.args.rel.label) c.in_err-degree.field-0.0 c.from_residual.result
    c.from_residual.ensures.1 (c.in_err-degree.ensures.damaged tells c.args.rel.label)

pub returns-in_err-head-clause-damaged : goal.returns-in_err-head-clause-damaged
returns-in_err-head-clause-damaged g c tells =
    let s = g.S.Reads.state c.args.space.now in
    let m = g.S.Reads.state c.end_degree.new.space in
    fault_exit of_fault (BlamesEnd s c.args.id c.args.node c.args.rel.label) c.in_err-head.field-0.0 c.from_residual-in_err-head.result
    c.from_residual-in_err-head.ensures.1
    (head_blamed s m c.args.id c.args.node c.args.rel.label c.end_degree.ensures.state c.in_err-head.field-0.0 (c.in_err-head.ensures.damaged tells))

pub returns-clause-has : goal.returns-clause-has
returns-clause-has g c tells =
    c.in_ok-head.ensures.owns tells (subst (λ (z : State). IsDense z.records c.args.node ⊎ IsSparse z.records c.args.node) (sym c.end_degree.ensures.state)
    (c.in_ok-degree.ensures.kind tells))

pub returns-clause-placed : goal.returns-clause-placed
returns-clause-placed g c tells which property =
    c.in_ok-head.ensures.placed tells (subst (λ (z : State). IsDense z.records c.args.node ⊎ IsSparse z.records c.args.node) (sym c.end_degree.ensures.state)
    (c.in_ok-degree.ensures.kind tells))
    (with_property c.args.id c.args.rel property) (record { end = ⊎_elim (λ e. inl (sym e)) (λ e. inr (sym e)) which; typed = refl; aside = c.at-side.ensures })

pub returns-clause-heads : goal.returns-clause-heads
returns-clause-heads g c tells =
    let s = g.S.Reads.state c.args.space.now in
    let m = g.S.Reads.state c.end_degree.new.space in
    let t = g.S.Reads.state c.open_head.new.space in
    heads_then s m t (heads_same s m c.end_degree.ensures.state) (c.in_ok-head.ensures.heads tells)

pub returns-clause-counts : goal.returns-clause-counts
returns-clause-counts g c tells =
    let s = g.S.Reads.state c.args.space.now in
    let m = g.S.Reads.state c.end_degree.new.space in
    counted_then s.records m.records (g.S.Reads.state c.open_head.new.space).records (counted_read s m c.end_degree.ensures.state)
    (c.in_ok-head.ensures.counts tells)

-- ---- in the space as it is left
pub returns-in_err-degree-clause-damaged_after : goal.returns-in_err-degree-clause-damaged_after
returns-in_err-degree-clause-damaged_after g c tells has which =
    let s = g.S.Reads.state c.args.space.now in
    let m = g.S.Reads.state c.end_degree.new.space in
    fault_exit (λ f. f) (BlamesBroken m) c.in_err-degree.field-0.0 c.from_residual.result c.from_residual.ensures.1
    (end_still s m c.args.id c.args.node c.args.rel has which c.end_degree.ensures.state c.in_err-degree.field-0.0 (c.in_err-degree.ensures.damaged tells
    c.args.rel.label))

pub returns-in_err-head-clause-damaged_after : goal.returns-in_err-head-clause-damaged_after
returns-in_err-head-clause-damaged_after g c tells has which =
    let s = g.S.Reads.state c.args.space.now in
    let m = g.S.Reads.state c.end_degree.new.space in
    let t = g.S.Reads.state c.open_head.new.space in
    fault_exit of_fault (BlamesBroken t) c.in_err-head.field-0.0 c.from_residual-in_err-head.result c.from_residual-in_err-head.ensures.1
    (head_still s m t c.args.id c.args.node c.args.rel has which c.end_degree.ensures.state c.in_err-head.field-0.0 (c.in_err-head.ensures.damaged tells)
    c.in_err-head.ensures.unwritten)

pub returns-in_err-degree-clause-found : goal.returns-in_err-degree-clause-found
returns-in_err-degree-clause-found g c _ = never_ok c.from_residual.result _ _ c.from_residual.ensures.1

pub returns-in_err-degree-clause-counts : goal.returns-in_err-degree-clause-counts
returns-in_err-degree-clause-counts g c _ = never_ok c.from_residual.result _ _ c.from_residual.ensures.1

pub returns-in_err-degree-clause-has : goal.returns-in_err-degree-clause-has
returns-in_err-degree-clause-has g c _ = never_ok c.from_residual.result _ _ c.from_residual.ensures.1

pub returns-in_err-degree-clause-placed : goal.returns-in_err-degree-clause-placed
returns-in_err-degree-clause-placed g c _ _ _ = never_ok c.from_residual.result _ _ c.from_residual.ensures.1

pub returns-in_err-degree-clause-heads : goal.returns-in_err-degree-clause-heads
returns-in_err-degree-clause-heads g c _ = never_ok c.from_residual.result _ _ c.from_residual.ensures.1

pub returns-in_err-degree-clause-node : goal.returns-in_err-degree-clause-node
returns-in_err-degree-clause-node g c = never_ok c.from_residual.result _ _ c.from_residual.ensures.1

pub returns-in_err-degree-clause-end : goal.returns-in_err-degree-clause-end
returns-in_err-degree-clause-end g c = never_ok c.from_residual.result _ _ c.from_residual.ensures.1

pub returns-in_err-degree-clause-wrote : goal.returns-in_err-degree-clause-wrote
returns-in_err-degree-clause-wrote g c = never_ok c.from_residual.result _ _ c.from_residual.ensures.1

pub returns-in_err-degree-clause-onward : goal.returns-in_err-degree-clause-onward
returns-in_err-degree-clause-onward g c = search rules

pub returns-in_err-head-clause-found : goal.returns-in_err-head-clause-found
returns-in_err-head-clause-found g c _ = never_ok c.from_residual-in_err-head.result _ _ c.from_residual-in_err-head.ensures.1

pub returns-in_err-head-clause-counts : goal.returns-in_err-head-clause-counts
returns-in_err-head-clause-counts g c _ = never_ok c.from_residual-in_err-head.result _ _ c.from_residual-in_err-head.ensures.1

pub returns-in_err-head-clause-has : goal.returns-in_err-head-clause-has
returns-in_err-head-clause-has g c _ = never_ok c.from_residual-in_err-head.result _ _ c.from_residual-in_err-head.ensures.1

pub returns-in_err-head-clause-placed : goal.returns-in_err-head-clause-placed
returns-in_err-head-clause-placed g c _ _ _ = never_ok c.from_residual-in_err-head.result _ _ c.from_residual-in_err-head.ensures.1

pub returns-in_err-head-clause-heads : goal.returns-in_err-head-clause-heads
returns-in_err-head-clause-heads g c _ = never_ok c.from_residual-in_err-head.result _ _ c.from_residual-in_err-head.ensures.1

pub returns-in_err-head-clause-node : goal.returns-in_err-head-clause-node
returns-in_err-head-clause-node g c = never_ok c.from_residual-in_err-head.result _ _ c.from_residual-in_err-head.ensures.1

pub returns-in_err-head-clause-end : goal.returns-in_err-head-clause-end
returns-in_err-head-clause-end g c = never_ok c.from_residual-in_err-head.result _ _ c.from_residual-in_err-head.ensures.1

pub returns-in_err-head-clause-wrote : goal.returns-in_err-head-clause-wrote
returns-in_err-head-clause-wrote g c = never_ok c.from_residual-in_err-head.result _ _ c.from_residual-in_err-head.ensures.1

pub returns-clause-cause : goal.returns-clause-cause
returns-clause-cause g c = ok_cause _ _ _ _ (later_on c.in_ok-degree.ensures.cause.later c.in_ok-head.ensures.cause.later)
