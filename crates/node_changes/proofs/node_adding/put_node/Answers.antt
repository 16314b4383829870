use Rattle.std.proofs.Common.{◌≡◌, ◌∙◌, ap, subst, refl, inl, inr, ⊎_elim, [], ◌∷◌, rules}
use Rattle.rec_bytes.specs.Format as format
use Rattle.rec_bytes.specs.RecordFiles.{meta_key_of}
use Rattle.rec_bytes.specs.Space.{State, after_put}
use Rattle.store_rules.specs.Views.{key_in}
use Rattle.node_store.specs.declared.node_row.NodeRow.{NodeRow}
use Rattle.node_store.specs.NodeRecord.{node_key, node_record, row_of}
use Rattle.prop_store.proofs.BlockSteps.{beside_put}
use Rattle.change_parts.specs.ChangeFault.{IsOutside, IsFailure, of_space, of_take}
use Rattle.change_parts.proofs.Exits.{fault_exit, space_fails}
use Rattle.node_changes.proofs.NodePut.{puts_node}
use Rattle.node_changes.proofs.NodeStands.{put_stands}
use Rattle.change_parts.proofs.Takes.{store_can_take, take_fails, take_outside, taken-shape}
use Rattle.store_rules.proofs.WriteLaws.{among_metas, beside_then, then_written, this_written}
use Rattle.change_parts.proofs.Writes.{on_any_err, read_exit, record_written, taken_written}
use Rattle.change_parts.specs.Damage.{BlamesBroken, IfBlames}
use Rattle.change_parts.proofs.Causes.{take_blamed_still}
use Rattle.id_freelist.specs.Taking.{IsTakeDamage}
use Rattle.id_freelist.proofs.ListSteps.{put_is_used}
use Rattle.node_changes.specs.NodeAdding.{new_row}
use Rattle.change_parts.proofs.Adding.{space_blamed, take_blamed}
use Rattle.change_parts.proofs.DiskCauses.{space_cause_passed, later_on}
use Rattle.rec_bytes.proofs.Causes.{never_ok, ok_cause}
use Rattle.node_changes.proofs.node_adding.put_node.Goals as goal
use Rattle.node_changes.proofs.node_adding.put_node.Goals.{In_ok-id}
use Rattle.node_changes.proofs.node_adding.put_node.Given.{Over}

pub returns-in_err-id-clause-not_damaged : goal.returns-in_err-id-clause-not_damaged
returns-in_err-id-clause-not_damaged g c tells names store room =
    let s = g.S.Reads.state c.args.space.now in
    fault_exit of_take IsOutside c.in_err-id.field-0.0 c.from_residual.result c.from_residual.ensures.1
    (take_outside s format.nodes_file c.in_err-id.field-0.0 room (c.in_err-id.ensures.refused tells) (c.in_err-id.ensures.not_damaged tells _
    (store_can_take s names format.nodes_file refl refl store)))

-- the shape after the identifier was taken
took : (g : Over) (c : In_ok-id g) → g.S.Reads.tells → (g.S.Reads.state c.take.new.space).shape ≡ (g.S.Reads.state c.args.space.now).shape
took g c tells = ap (λ (s : State). s.shape) (c.in_ok-id.ensures.ok tells) ∙ taken-shape (g.S.Reads.state c.args.space.now) format.nodes_file

pub returns-clause-put : goal.returns-clause-put
returns-clause-put g c tells names text store at =
    puts_node (g.S.Reads.state c.args.space.now) (g.S.Reads.state c.take.new.space) (g.S.Reads.state c.save.new.space) names c.in_ok-id.id c.args.label text
    store at
    (c.in_ok-id.ensures.taken tells) c.in_ok-id.ensures.small (took g (goal.at.returns-clause-put g c).In_ok-id tells)
    (c.in_ok-save.ensures.ok ∙ ap (λ (r : NodeRow). after_put (g.S.Reads.state c.take.new.space) (node_key r.id) (node_record r)) c.new_row.ensures)

pub returns-clause-writes : goal.returns-clause-writes
returns-clause-writes g c =
    let key = key_in format.nodes_file c.in_ok-id.id in
    beside_then
    (this_written key (g.S.Reads.state c.args.space.now) (g.S.Reads.state c.take.new.space) (meta_key_of format.nodes_file ∷ [])
    (λ q i. ⊎_elim (λ e. inr (among_metas format.nodes_file q refl e)) (λ e. absurd e) i) c.take.ensures.writes)
    (this_written key (g.S.Reads.state c.take.new.space) (g.S.Reads.state c.save.new.space) (node_key c.new_row.result.id ∷ [])
    (λ q i. ⊎_elim (λ e. inl (e ∙ ap (λ (r : NodeRow). node_key r.id) c.new_row.ensures)) (λ e. absurd e) i) c.save.ensures.writes)

pub returns-in_err-id-clause-failure : goal.returns-in_err-id-clause-failure
returns-in_err-id-clause-failure g c tells room =
    fault_exit of_take IsFailure c.in_err-id.field-0.0 c.from_residual.result c.from_residual.ensures.1
    (take_fails (g.S.Reads.state c.args.space.now) format.nodes_file c.in_err-id.field-0.0 room (c.in_err-id.ensures.refused tells))

pub returns-in_err-save-clause-failure : goal.returns-in_err-save-clause-failure
returns-in_err-save-clause-failure g c tells room = fault_exit of_space IsFailure c.in_err-save.field-0.0 c.from_residual-in_err-save.result
    c.from_residual-in_err-save.ensures.1 (space_fails c.in_err-save.field-0.0)

pub returns-in_err-id-clause-err_writes : goal.returns-in_err-id-clause-err_writes
returns-in_err-id-clause-err_writes g c = read_exit _ 1 _ _ c.in_err-id.ensures.err

pub returns-in_err-save-clause-err_writes : goal.returns-in_err-save-clause-err_writes
returns-in_err-save-clause-err_writes g c =
    on_any_err _ _ (then_written (taken_written format.nodes_file _ _ refl c.take.ensures.writes) (record_written (node_key c.new_row.result.id)
    _ _ refl c.save.ensures.writes))

-- ---- which record is damaged, and which ones differ
pub returns-in_err-id-clause-damaged : goal.returns-in_err-id-clause-damaged
returns-in_err-id-clause-damaged g c tells =
    let s = g.S.Reads.state c.args.space.now in
    fault_exit of_take (IfBlames (IsTakeDamage s format.nodes_file)) c.in_err-id.field-0.0 c.from_residual.result c.from_residual.ensures.1
    (take_blamed s format.nodes_file c.in_err-id.field-0.0 (c.in_err-id.ensures.refused tells))

pub returns-in_err-save-clause-damaged : goal.returns-in_err-save-clause-damaged
returns-in_err-save-clause-damaged g c tells =
    let s = g.S.Reads.state c.args.space.now in
    fault_exit of_space (IfBlames (IsTakeDamage s format.nodes_file)) c.in_err-save.field-0.0 c.from_residual-in_err-save.result
    c.from_residual-in_err-save.ensures.1 (space_blamed _ c.in_err-save.field-0.0)

pub returns-clause-other_files : goal.returns-clause-other_files
returns-clause-other_files g c tells =
    let s = g.S.Reads.state c.args.space.now in
    let t = g.S.Reads.state c.take.new.space in
    beside_put s t (g.S.Reads.state c.save.new.space) format.nodes_file c.in_ok-id.id (node_record (new_row c.in_ok-id.id c.args.label))
    (c.in_ok-id.ensures.ok tells)
    (c.in_ok-save.ensures.ok ∙ ap (λ (r : NodeRow). after_put t (node_key r.id) (node_record r)) c.new_row.ensures)

pub returns-in_err-save-clause-cause : goal.returns-in_err-save-clause-cause
returns-in_err-save-clause-cause g c =
    space_cause_passed _ _ _ c.from_residual-in_err-save.result c.in_err-save.field-0.0 c.in_ok-id.ensures.cause.later c.in_err-save.ensures.cause
    c.from_residual-in_err-save.ensures.1

pub returns-in_err-id-clause-damaged_after : goal.returns-in_err-id-clause-damaged_after
returns-in_err-id-clause-damaged_after g c tells =
    let s = g.S.Reads.state c.args.space.now in
    let t = g.S.Reads.state c.take.new.space in
    fault_exit of_take (BlamesBroken t) c.in_err-id.field-0.0 c.from_residual.result c.from_residual.ensures.1
    (take_blamed_still s t c.in_err-id.field-0.0 (c.in_err-id.ensures.damaged tells) c.in_err-id.ensures.err)

pub returns-in_err-save-clause-damaged_after : goal.returns-in_err-save-clause-damaged_after
returns-in_err-save-clause-damaged_after g c tells =
    fault_exit of_space (BlamesBroken (g.S.Reads.state c.save.new.space)) c.in_err-save.field-0.0 c.from_residual-in_err-save.result
    c.from_residual-in_err-save.ensures.1 (space_blamed _ c.in_err-save.field-0.0)

pub returns-in_err-id-clause-put : goal.returns-in_err-id-clause-put
returns-in_err-id-clause-put g c _ = never_ok c.from_residual.result _ _ c.from_residual.ensures.1

pub returns-in_err-id-clause-is : goal.returns-in_err-id-clause-is
returns-in_err-id-clause-is g c = never_ok c.from_residual.result _ _ c.from_residual.ensures.1

pub returns-in_err-id-clause-other_files : goal.returns-in_err-id-clause-other_files
returns-in_err-id-clause-other_files g c _ = never_ok c.from_residual.result _ _ c.from_residual.ensures.1

pub returns-in_err-id-clause-key : goal.returns-in_err-id-clause-key
returns-in_err-id-clause-key g c = never_ok c.from_residual.result _ _ c.from_residual.ensures.1

pub returns-in_err-id-clause-writes : goal.returns-in_err-id-clause-writes
returns-in_err-id-clause-writes g c = never_ok c.from_residual.result _ _ c.from_residual.ensures.1

pub returns-in_err-id-clause-onward : goal.returns-in_err-id-clause-onward
returns-in_err-id-clause-onward g c = search rules

pub returns-in_err-save-clause-put : goal.returns-in_err-save-clause-put
returns-in_err-save-clause-put g c _ = never_ok c.from_residual-in_err-save.result _ _ c.from_residual-in_err-save.ensures.1

pub returns-in_err-save-clause-is : goal.returns-in_err-save-clause-is
returns-in_err-save-clause-is g c = never_ok c.from_residual-in_err-save.result _ _ c.from_residual-in_err-save.ensures.1

pub returns-in_err-save-clause-other_files : goal.returns-in_err-save-clause-other_files
returns-in_err-save-clause-other_files g c _ = never_ok c.from_residual-in_err-save.result _ _ c.from_residual-in_err-save.ensures.1

pub returns-in_err-save-clause-key : goal.returns-in_err-save-clause-key
returns-in_err-save-clause-key g c = never_ok c.from_residual-in_err-save.result _ _ c.from_residual-in_err-save.ensures.1

pub returns-in_err-save-clause-writes : goal.returns-in_err-save-clause-writes
returns-in_err-save-clause-writes g c = never_ok c.from_residual-in_err-save.result _ _ c.from_residual-in_err-save.ensures.1

pub returns-clause-cause : goal.returns-clause-cause
returns-clause-cause g c = ok_cause _ _ _ _ (later_on c.in_ok-id.ensures.cause.later c.in_ok-save.ensures.cause.later)

-- ---- it is in use, and has the label
pub returns-clause-stands : goal.returns-clause-stands
returns-clause-stands g c tells =
    let s = g.S.Reads.state c.args.space.now in
    let t = g.S.Reads.state c.take.new.space in
    let u = g.S.Reads.state c.save.new.space in
    let id = c.in_ok-id.id in
    let took = c.in_ok-id.ensures in
    let saved = c.in_ok-save.ensures.ok ∙ ap (λ (r : NodeRow). after_put t (node_key r.id) (node_record r)) c.new_row.ensures in
    let got = subst (λ (r : NodeRow). row_of (u.records (node_key r.id)) r.id ≡ r) c.new_row.ensures c.in_ok-save.ensures.got in
    put_stands t u id c.args.label saved got
    (put_is_used s t u format.nodes_file id (node_record (new_row id c.args.label)) refl (took.ok tells) took.is (took.undamaged tells) (took.fresh tells)
    took.key.id took.small saved)

pub returns-in_err-id-clause-stands : goal.returns-in_err-id-clause-stands
returns-in_err-id-clause-stands g c _ = never_ok c.from_residual.result _ _ c.from_residual.ensures.1

pub returns-in_err-save-clause-stands : goal.returns-in_err-save-clause-stands
returns-in_err-save-clause-stands g c _ = never_ok c.from_residual-in_err-save.result _ _ c.from_residual-in_err-save.ensures.1
