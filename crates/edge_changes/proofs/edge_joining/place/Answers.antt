use Rattle.std.proofs.Common.{◌≡◌, ◌⊎◌, ◌≤◌, ℕ, [], ◌∷◌, ◌∙◌, ap, inl, inr, ⊎_elim, arith, refl, subst, sym, rules}
use Rattle.rec_bytes.specs.Meta as metas
use Rattle.rec_bytes.specs.declared.key.Key.{Key}
use Rattle.rec_bytes.proofs.Spaces.{put_other}
use Rattle.rel_store.specs.Loading.{rel_mark}
use Rattle.rec_bytes.specs.Format as format
use Rattle.rec_bytes.specs.RecordFiles.{meta_key_of}
use Rattle.rec_bytes.specs.Space.{State, WritesOnly, after_put}
use Rattle.rec_bytes.proofs.Spaces.{writes_more, writes_then}
use Rattle.store_rules.specs.Writes.{meta_keys}
use Rattle.rel_store.specs.declared.rel_row.RelRow.{RelRow}
use Rattle.rel_store.specs.RelRecord.{rel_key, rel_record, row_of}
use Rattle.change_parts.specs.ChangeFault.{IsOutside, IsFailure, of_space}
use Rattle.change_parts.proofs.Exits.{fault_exit, space_fails}
use Rattle.change_parts.proofs.Takes.{taken-shape}
use Rattle.store_rules.proofs.WriteLaws.{among_metas}
use Rattle.change_parts.proofs.Writes.{on_any_err, only_read}
use Rattle.change_parts.proofs.DiskCauses.{space_cause_passed, later_on}
use Rattle.change_parts.specs.Damage.{BlamesBroken, IfBlames}
use Rattle.edge_changes.specs.EdgeJoining.{new_row}
use Rattle.edge_changes.proofs.EdgeBlames.{heads_given}
use Rattle.edge_changes.proofs.JoinBlames.{placed_only}
use Rattle.change_parts.proofs.Adding.{space_blamed}
use Rattle.rec_bytes.proofs.Causes.{never_ok, ok_cause}
use Rattle.id_freelist.specs.ListDamage.{IsListDamage}
use Rattle.group_store.specs.Naming.{IsOfMarks}
use Rattle.change_parts.proofs.Broken.{blames_more}
use Rattle.edge_changes.specs.EdgeAdding.{IsChainDamage}
use Rattle.edge_changes.proofs.EdgeFound.{found_placed, placed_others, placed_used, taken_found}
use Rattle.edge_changes.proofs.edge_joining.place.Goals as goal
use Rattle.edge_changes.proofs.edge_joining.place.Goals.{After-save, In_ok-id}
use Rattle.edge_changes.proofs.edge_joining.place.Given.{Over}

pub returns-in_err-id-clause-not_damaged : goal.returns-in_err-id-clause-not_damaged
returns-in_err-id-clause-not_damaged g c tells most empty keeps room =
    fault_exit (λ f. f) IsOutside c.in_err-id.field-0.0 c.from_residual.result c.from_residual.ensures.1
    (c.in_err-id.ensures.not_damaged tells most empty keeps room)

-- the shape after the identifier was taken
took : (g : Over) (c : In_ok-id g) → g.S.Reads.tells → (g.S.Reads.state c.take_id.new.space).shape ≡ (g.S.Reads.state c.args.space.now).shape
took g c tells = ap (λ (s : State). s.shape) (c.in_ok-id.ensures.ok tells) ∙ taken-shape (g.S.Reads.state c.args.space.now) format.relationships_file

pub returns-clause-placed : goal.returns-clause-placed
returns-clause-placed g c tells = record {
  took = g.S.Reads.state c.take_id.new.space;
  taken = c.in_ok-id.ensures.taken tells;
  small = c.in_ok-id.ensures.small;
  shape = took g (goal.at.returns-clause-placed g c).In_ok-id tells;
  saved = c.in_ok-save.ensures.ok ∙ ap (λ (r : RelRow). after_put (g.S.Reads.state c.take_id.new.space) (rel_key r.id) (rel_record r)) c.new_row.ensures;
}

-- the identifier's meta record, and the relationship's record
written : (g : Over) (c : After-save g) → WritesOnly (g.S.Reads.state c.args.space.now) (g.S.Reads.state c.save.new.space) (rel_key c.in_ok-id.id ∷ meta_keys)
written g c =
    let s = g.S.Reads.state c.args.space.now in
    let t = g.S.Reads.state c.take_id.new.space in
    let u = g.S.Reads.state c.save.new.space in
    let saved = subst (λ (r : RelRow). WritesOnly t u (rel_key r.id ∷ [])) c.new_row.ensures c.save.ensures.writes in
    writes_more s u (meta_key_of format.relationships_file ∷ rel_key c.in_ok-id.id ∷ []) (rel_key c.in_ok-id.id ∷ meta_keys)
    (λ q i. ⊎_elim (λ e. inr (among_metas format.relationships_file q refl e)) (λ j. ⊎_elim (λ e. inl e) (λ e. absurd e) j) i)
    (writes_then s t u (meta_key_of format.relationships_file ∷ []) (rel_key c.in_ok-id.id ∷ []) c.take_id.ensures.writes saved)

pub returns-clause-writes : goal.returns-clause-writes
returns-clause-writes g c = written g (goal.at.returns-clause-writes g c).After-save

pub returns-in_err-save-clause-err_writes : goal.returns-in_err-save-clause-err_writes
returns-in_err-save-clause-err_writes g c =
    let w : (id : ℕ) × WritesOnly (g.S.Reads.state c.args.space.now) (g.S.Reads.state c.save.new.space) (rel_key id ∷ meta_keys) =
    (c.in_ok-id.id, written g (goal.at.returns-in_err-save-clause-err_writes g c).After-save) in
    on_any_err _ _ w

pub returns-in_err-id-clause-err_writes : goal.returns-in_err-id-clause-err_writes
returns-in_err-id-clause-err_writes g c =
    let w : (id : ℕ) × WritesOnly (g.S.Reads.state c.args.space.now) (g.S.Reads.state c.take_id.new.space) (rel_key id ∷ meta_keys) =
    (0, only_read _ _ (rel_key 0 ∷ meta_keys) c.in_err-id.ensures.err) in
    on_any_err _ _ w

pub returns-in_err-save-clause-failure : goal.returns-in_err-save-clause-failure
returns-in_err-save-clause-failure g c = fault_exit of_space IsFailure c.in_err-save.field-0.0 c.from_residual-in_err-save.result
    c.from_residual-in_err-save.ensures.1 (space_fails c.in_err-save.field-0.0)

pub returns-in_err-save-clause-cause : goal.returns-in_err-save-clause-cause
returns-in_err-save-clause-cause g c =
    space_cause_passed _ _ _ c.from_residual-in_err-save.result c.in_err-save.field-0.0 c.in_ok-id.ensures.cause.later c.in_err-save.ensures.cause
    c.from_residual-in_err-save.ensures.1

-- ---- which record is blamed, and heads that stay
pub returns-in_err-save-clause-damaged : goal.returns-in_err-save-clause-damaged
returns-in_err-save-clause-damaged g c tells has =
    fault_exit of_space (BlamesBroken (g.S.Reads.state c.save.new.space)) c.in_err-save.field-0.0 c.from_residual-in_err-save.result
    c.from_residual-in_err-save.ensures.1 (space_blamed _ c.in_err-save.field-0.0)

pub returns-clause-heads : goal.returns-clause-heads
returns-clause-heads g c tells =
    let s = g.S.Reads.state c.args.space.now in
    let t = g.S.Reads.state c.take_id.new.space in
    let u = g.S.Reads.state c.save.new.space in
    let id = c.in_ok-id.id in
    heads_given s u id (placed_only s t u id (rel_record (new_row id c.args.label c.args.from c.args.to)) (c.take_id.ensures.stays tells)
    (c.in_ok-save.ensures.ok ∙ ap (λ (r : RelRow). after_put t (rel_key r.id) (rel_record r)) c.new_row.ensures))

pub returns-in_err-id-clause-placed : goal.returns-in_err-id-clause-placed
returns-in_err-id-clause-placed g c _ = never_ok c.from_residual.result _ _ c.from_residual.ensures.1

pub returns-in_err-id-clause-heads : goal.returns-in_err-id-clause-heads
returns-in_err-id-clause-heads g c _ = never_ok c.from_residual.result _ _ c.from_residual.ensures.1

pub returns-in_err-id-clause-is : goal.returns-in_err-id-clause-is
returns-in_err-id-clause-is g c = never_ok c.from_residual.result _ _ c.from_residual.ensures.1

pub returns-in_err-id-clause-key : goal.returns-in_err-id-clause-key
returns-in_err-id-clause-key g c = never_ok c.from_residual.result _ _ c.from_residual.ensures.1

pub returns-in_err-id-clause-writes : goal.returns-in_err-id-clause-writes
returns-in_err-id-clause-writes g c = never_ok c.from_residual.result _ _ c.from_residual.ensures.1

pub returns-in_err-id-clause-onward : goal.returns-in_err-id-clause-onward
returns-in_err-id-clause-onward g c = search rules

pub returns-in_err-save-clause-placed : goal.returns-in_err-save-clause-placed
returns-in_err-save-clause-placed g c _ = never_ok c.from_residual-in_err-save.result _ _ c.from_residual-in_err-save.ensures.1

pub returns-in_err-save-clause-heads : goal.returns-in_err-save-clause-heads
returns-in_err-save-clause-heads g c _ = never_ok c.from_residual-in_err-save.result _ _ c.from_residual-in_err-save.ensures.1

pub returns-in_err-save-clause-is : goal.returns-in_err-save-clause-is
returns-in_err-save-clause-is g c = never_ok c.from_residual-in_err-save.result _ _ c.from_residual-in_err-save.ensures.1

pub returns-in_err-save-clause-key : goal.returns-in_err-save-clause-key
returns-in_err-save-clause-key g c = never_ok c.from_residual-in_err-save.result _ _ c.from_residual-in_err-save.ensures.1

pub returns-in_err-save-clause-writes : goal.returns-in_err-save-clause-writes
returns-in_err-save-clause-writes g c = never_ok c.from_residual-in_err-save.result _ _ c.from_residual-in_err-save.ensures.1

pub returns-clause-cause : goal.returns-clause-cause
returns-clause-cause g c = ok_cause _ _ _ _ (later_on c.in_ok-id.ensures.cause.later c.in_ok-save.ensures.cause.later)

-- ---- which records are other

pub returns-clause-leaves : goal.returns-clause-leaves
returns-clause-leaves g c tells =
    let s = g.S.Reads.state c.args.space.now in
    let t = g.S.Reads.state c.take_id.new.space in
    let u = g.S.Reads.state c.save.new.space in
    let id = c.in_ok-id.id in
    found_placed s u id c.args.from c.args.to
    (placed_only s t u id (rel_record (new_row id c.args.label c.args.from c.args.to)) (c.take_id.ensures.stays tells)
    (c.in_ok-save.ensures.ok ∙ ap (λ (r : RelRow). after_put t (rel_key r.id) (rel_record r)) c.new_row.ensures))

pub returns-in_err-id-clause-leaves : goal.returns-in_err-id-clause-leaves
returns-in_err-id-clause-leaves g c _ = never_ok c.from_residual.result _ _ c.from_residual.ensures.1

pub returns-in_err-save-clause-leaves : goal.returns-in_err-save-clause-leaves
returns-in_err-save-clause-leaves g c _ = never_ok c.from_residual-in_err-save.result _ _ c.from_residual-in_err-save.ensures.1

pub returns-in_err-id-clause-found : goal.returns-in_err-id-clause-found
returns-in_err-id-clause-found g c tells =
    let s = g.S.Reads.state c.args.space.now in
    let t = g.S.Reads.state c.take_id.new.space in
    let fault = c.in_err-id.field-0.0 in
    fault_exit (λ f. f) (IfBlames (IsChainDamage s t (λ _. ⊥))) fault c.from_residual.result c.from_residual.ensures.1
    (blames_more (λ damage. IsOfMarks damage ⊎ IsListDamage s.records s.shape format.relationships_file damage) (IsChainDamage s t (λ _. ⊥))
    (taken_found s t c.in_err-id.ensures.err) fault (c.in_err-id.ensures.found tells))

pub returns-in_err-save-clause-found : goal.returns-in_err-save-clause-found
returns-in_err-save-clause-found g c tells =
    let s = g.S.Reads.state c.args.space.now in
    let t = g.S.Reads.state c.save.new.space in
    fault_exit of_space (IfBlames (IsChainDamage s t (λ _. ⊥))) c.in_err-save.field-0.0 c.from_residual-in_err-save.result
    c.from_residual-in_err-save.ensures.1 (space_blamed _ c.in_err-save.field-0.0)

-- ---- no record of another file is written

pub returns-clause-others : goal.returns-clause-others
returns-clause-others g c tells key no_rel no_meta =
    let s = g.S.Reads.state c.args.space.now in
    let t = g.S.Reads.state c.take_id.new.space in
    let u = g.S.Reads.state c.save.new.space in
    let id = c.in_ok-id.id in
    placed_others s u id
    (placed_only s t u id (rel_record (new_row id c.args.label c.args.from c.args.to)) (c.take_id.ensures.stays tells)
    (c.in_ok-save.ensures.ok ∙ ap (λ (r : RelRow). after_put t (rel_key r.id) (rel_record r)) c.new_row.ensures)) key no_rel no_meta

pub returns-in_err-id-clause-others : goal.returns-in_err-id-clause-others
returns-in_err-id-clause-others g c _ = never_ok c.from_residual.result _ _ c.from_residual.ensures.1

pub returns-in_err-save-clause-others : goal.returns-in_err-save-clause-others
returns-in_err-save-clause-others g c _ = never_ok c.from_residual-in_err-save.result _ _ c.from_residual-in_err-save.ensures.1

-- no fewer were given out
pub returns-clause-grown : goal.returns-clause-grown
returns-clause-grown g c tells =
    let s = g.S.Reads.state c.args.space.now in
    let t = g.S.Reads.state c.take_id.new.space in
    let u = g.S.Reads.state c.save.new.space in
    subst (λ (m : ℕ). rel_mark s ≤ m) (sym (ap (λ r. (metas.meta_of r).high) (ap (λ (z : State). z.records (meta_key_of format.relationships_file))
    c.in_ok-save.ensures.ok ∙ put_other t.records (rel_key c.new_row.result.id) (rel_record c.new_row.result) (meta_key_of format.relationships_file)
    (λ e. let f = ap (λ (k : Key). k.file) e in omega arith))))
    (c.in_ok-id.ensures.grown tells)

pub returns-in_err-id-clause-grown : goal.returns-in_err-id-clause-grown
returns-in_err-id-clause-grown g c _ = never_ok c.from_residual.result _ _ c.from_residual.ensures.1

pub returns-in_err-save-clause-grown : goal.returns-in_err-save-clause-grown
returns-in_err-save-clause-grown g c _ = never_ok c.from_residual-in_err-save.result _ _ c.from_residual-in_err-save.ensures.1

-- ---- the free list of the relationships
pub returns-clause-lists : goal.returns-clause-lists
returns-clause-lists g c tells =
    let t = g.S.Reads.state c.take_id.new.space in
    let row = new_row c.in_ok-id.id c.args.label c.args.from c.args.to in
    let got = subst (λ (r : RelRow). row_of ((g.S.Reads.state c.save.new.space).records (rel_key r.id)) r.id ≡ r) c.new_row.ensures c.in_ok-save.ensures.got in
    c.in_ok-id.ensures.lists tells (g.S.Reads.state c.save.new.space) (rel_record row)
    (c.in_ok-save.ensures.ok ∙ ap (λ (r : RelRow). after_put t (rel_key r.id) (rel_record r)) c.new_row.ensures)
    (placed_used _ row got)

pub returns-in_err-id-clause-lists : goal.returns-in_err-id-clause-lists
returns-in_err-id-clause-lists g c _ = never_ok c.from_residual.result _ _ c.from_residual.ensures.1

pub returns-in_err-save-clause-lists : goal.returns-in_err-save-clause-lists
returns-in_err-save-clause-lists g c _ = never_ok c.from_residual-in_err-save.result _ _ c.from_residual-in_err-save.ensures.1

-- ---- it is in use, leads from one node to the other, and has its type
pub returns-clause-stands : goal.returns-clause-stands
returns-clause-stands g c tells =
    let t = g.S.Reads.state c.take_id.new.space in
    let row = new_row c.in_ok-id.id c.args.label c.args.from c.args.to in
    let got = subst (λ (r : RelRow). row_of ((g.S.Reads.state c.save.new.space).records (rel_key r.id)) r.id ≡ r) c.new_row.ensures c.in_ok-save.ensures.got in
    record {
      used = c.in_ok-id.ensures.used tells (g.S.Reads.state c.save.new.space) (rel_record row)
          (c.in_ok-save.ensures.ok ∙ ap (λ (r : RelRow). after_put t (rel_key r.id) (rel_record r)) c.new_row.ensures)
          (placed_used _ row got);
      from_is = ap (λ (r : RelRow). r.from) got;
      type_is = ap (λ (r : RelRow). r.label) got;
      to_is = ap (λ (r : RelRow). r.to) got;
    }

pub returns-in_err-id-clause-stands : goal.returns-in_err-id-clause-stands
returns-in_err-id-clause-stands g c _ = never_ok c.from_residual.result _ _ c.from_residual.ensures.1

pub returns-in_err-save-clause-stands : goal.returns-in_err-save-clause-stands
returns-in_err-save-clause-stands g c _ = never_ok c.from_residual-in_err-save.result _ _ c.from_residual-in_err-save.ensures.1
