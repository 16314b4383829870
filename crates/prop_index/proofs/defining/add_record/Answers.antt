use Rattle.std.proofs.Common.{◌<◌, ap, ◌∙◌, sym, subst, arith, [], ◌∷◌, rules}
use Rattle.std.proofs.lemmas.Result.{err_from_is_err_and}
use Rattle.rec_bytes.specs.Format as format
use Rattle.rec_bytes.specs.Space.{State, meta_of}
use Rattle.rec_bytes.proofs.Spaces.{put_same}
use Rattle.store_rules.specs.Views.{key_in}
use Rattle.prop_index.proofs.IndexTouches.{index_one_taken, meta_only, meta_then, only_one}
use Rattle.id_freelist.specs.ListDamage.{BlamesList}
use Rattle.id_freelist.proofs.ListSteps.{blames_list, list_of_space}
use Rattle.prop_index.proofs.ListKept.{record_kept}
use Rattle.prop_index.specs.Blaming.{TakeBlamesBroken as BlamesBroken}
use Rattle.prop_index.specs.Entering.{IsNotFull}
use Rattle.prop_index.proofs.Counting.{put_live, space_roomy, take_roomy}
use Rattle.prop_index.proofs.IndexBlames.{any_take, space_take, take_has, take_reread}
use Rattle.prop_index.proofs.LiveCounts.{taken_live}
use Rattle.prop_index.proofs.LinkRules.{free_list, store_takes}
use Rattle.prop_index.proofs.RecordsAdded.{record_added, space_mishap, take_mishap}
use Rattle.prop_store.specs.Touching.{TouchesOnly}
use Rattle.prop_index.specs.Touching.{index_keys}
use Rattle.prop_store.proofs.Touches.{only_put}
use Rattle.rec_bytes.proofs.Causes.{never_ok}
use Rattle.prop_index.proofs.defining.add_record.Goals as goal

pub returns-clause-added : goal.returns-clause-added
returns-clause-added g c tells store used =
    let s = g.S.Reads.state c.args.space.now in
    let u = g.S.Reads.state c.take.new.space in
    let taken = c.in_ok-id.ensures.taken tells (free_list s store).0 (free_list s store).1.walk in
    record_added s u c.args.rec c.in_ok-id.id store taken c.in_ok-id.ensures.small used (g.met.S.Reads.onward_shape _ _ c.in_ok-id.ensures.onward)
    (g.S.Reads.state c.put.new.self) c.in_ok-put.ensures.ok

pub returns-in_err-id-clause-mishap : goal.returns-in_err-id-clause-mishap
returns-in_err-id-clause-mishap g c tells store left =
    let s = g.S.Reads.state c.args.space.now in
    let p = err_from_is_err_and c.from_residual.result c.from_residual.ensures.1 in
    rw (p.1, p.2) (take_mishap s c.in_err-id.field-0.0 (c.in_err-id.ensures.refused tells) (c.in_err-id.ensures.not_damaged tells (free_list s store).0
    (store_takes s store)) left)

pub returns-in_err-put-clause-mishap : goal.returns-in_err-put-clause-mishap
returns-in_err-put-clause-mishap g c tells store left =
    let p = err_from_is_err_and c.from_residual-in_err-put.result c.from_residual-in_err-put.ensures.1 in
    rw (p.1, p.2) (space_mishap c.in_err-put.field-0.0)

pub returns-clause-touched : goal.returns-clause-touched
returns-clause-touched g c = meta_then (c.in_ok-id.id ∷ []) _ _ _ (record { writes = c.in_ok-id.ensures.writes; stays = c.in_ok-id.ensures.stays })
    (only_one c.in_ok-id.id _ _ (only_put _ _ (key_in format.index_file c.in_ok-id.id) _ c.in_ok-put.ensures.ok))

pub returns-clause-touches : goal.returns-clause-touches
returns-clause-touches g c = index_one_taken c.in_ok-id.id _ _ (meta_then (c.in_ok-id.id ∷ []) _ _ _
    (record { writes = c.in_ok-id.ensures.writes; stays = c.in_ok-id.ensures.stays })
    (only_one c.in_ok-id.id _ _ (only_put _ _ (key_in format.index_file c.in_ok-id.id) _ c.in_ok-put.ensures.ok)))

pub returns-in_err-id-clause-touches : goal.returns-in_err-id-clause-touches
returns-in_err-id-clause-touches g c = record {
  ids = [];
  few = omega arith;
  only = meta_only [] _ _
      (record { writes = c.in_err-id.ensures.writes; stays = c.in_err-id.ensures.stays });
}

pub returns-in_err-put-clause-touches : goal.returns-in_err-put-clause-touches
returns-in_err-put-clause-touches g c =
    let s = g.S.Reads.state c.args.space.now in
    record {
      ids = [];
      few = omega arith;
      only = subst (λ (z : State). TouchesOnly g.S.Reads.tells s z (index_keys [])) (sym c.in_err-put.ensures.err)
          (meta_only [] _ _ (record { writes = c.in_ok-id.ensures.writes; stays = c.in_ok-id.ensures.stays }));
    }

pub returns-clause-counted : goal.returns-clause-counted
returns-clause-counted g c tells =
    let s = g.S.Reads.state c.args.space.now in
    let u = g.S.Reads.state c.take.new.space in
    record {
      live = ap (λ (z : State). (meta_of z format.index_file).live) c.in_ok-put.ensures.ok ∙ put_live u c.in_ok-id.id c.args.rec
          ∙ ap (λ (z : State). (meta_of z format.index_file).live) (c.in_ok-id.ensures.ok tells)
          ∙ taken_live s format.index_file (c.in_ok-id.ensures.undamaged tells)
          (subst (λ n. n < format.most_ids) c.in_ok-id.ensures.is c.in_ok-id.ensures.key.id);
      shape = g.met.S.Reads.onward_shape _ _ (g.met.S.Reads.further_onward _ _ _ c.in_ok-id.ensures.onward c.in_ok-put.ensures.onward);
    }

pub returns-in_err-id-clause-roomy : goal.returns-in_err-id-clause-roomy
returns-in_err-id-clause-roomy g c tells left =
    let s = g.S.Reads.state c.args.space.now in
    take_has IsNotFull c.from_residual.result c.in_err-id.field-0.0 c.from_residual.ensures.1
    (take_roomy s c.in_err-id.field-0.0 (c.in_err-id.ensures.refused tells) left)

pub returns-in_err-put-clause-roomy : goal.returns-in_err-put-clause-roomy
returns-in_err-put-clause-roomy g c tells left =
    let p = err_from_is_err_and c.from_residual-in_err-put.result c.from_residual-in_err-put.ensures.1 in
    rw (p.1, p.2) (space_roomy c.in_err-put.field-0.0)

pub returns-in_err-id-clause-damaged_after : goal.returns-in_err-id-clause-damaged_after
returns-in_err-id-clause-damaged_after g c tells =
    let s = g.S.Reads.state c.args.space.now in
    let now = g.S.Reads.state c.take.new.space in
    take_has (BlamesBroken now.records now.shape) c.from_residual.result c.in_err-id.field-0.0 c.from_residual.ensures.1
    (take_reread s now c.in_err-id.field-0.0 c.in_err-id.ensures.err (any_take s.records s.shape c.in_err-id.field-0.0 (c.in_err-id.ensures.damaged tells)))

pub returns-in_err-put-clause-damaged_after : goal.returns-in_err-put-clause-damaged_after
returns-in_err-put-clause-damaged_after g c tells =
    let t = g.S.Reads.state c.put.new.self in
    space_take t.records t.shape c.from_residual-in_err-put.result c.in_err-put.field-0.0 c.from_residual-in_err-put.ensures.1

pub returns-clause-kept : goal.returns-clause-kept
returns-clause-kept g c tells used =
    record_kept (g.S.Reads.state c.args.space.now) (g.S.Reads.state c.take.new.space) (g.S.Reads.state c.put.new.self) c.args.rec c.in_ok-id.id
    (c.in_ok-id.ensures.ok tells) c.in_ok-id.ensures.is (c.in_ok-id.ensures.undamaged tells) (c.in_ok-id.ensures.fresh tells) c.in_ok-id.ensures.key.id
    c.in_ok-id.ensures.small c.in_ok-put.ensures.ok used

pub returns-in_err-id-clause-damaged : goal.returns-in_err-id-clause-damaged
returns-in_err-id-clause-damaged g c tells =
    let s = g.S.Reads.state c.args.space.now in
    take_has (BlamesList s format.index_file) c.from_residual.result c.in_err-id.field-0.0 c.from_residual.ensures.1
    (blames_list s format.index_file c.in_err-id.field-0.0 (c.in_err-id.ensures.refused tells))

pub returns-in_err-put-clause-damaged : goal.returns-in_err-put-clause-damaged
returns-in_err-put-clause-damaged g c tells =
    let s = g.S.Reads.state c.args.space.now in
    take_has (BlamesList s format.index_file) c.from_residual-in_err-put.result _ c.from_residual-in_err-put.ensures.1
    (list_of_space s format.index_file c.in_err-put.field-0.0)

pub returns-in_err-id-clause-kept : goal.returns-in_err-id-clause-kept
returns-in_err-id-clause-kept g c _ _ = never_ok c.from_residual.result _ _ c.from_residual.ensures.1

pub returns-in_err-put-clause-kept : goal.returns-in_err-put-clause-kept
returns-in_err-put-clause-kept g c _ _ = never_ok c.from_residual-in_err-put.result _ _ c.from_residual-in_err-put.ensures.1

pub returns-in_err-id-clause-added : goal.returns-in_err-id-clause-added
returns-in_err-id-clause-added g c _ _ _ = never_ok c.from_residual.result _ _ c.from_residual.ensures.1

pub returns-in_err-id-clause-counted : goal.returns-in_err-id-clause-counted
returns-in_err-id-clause-counted g c _ = never_ok c.from_residual.result _ _ c.from_residual.ensures.1

pub returns-in_err-id-clause-key : goal.returns-in_err-id-clause-key
returns-in_err-id-clause-key g c = never_ok c.from_residual.result _ _ c.from_residual.ensures.1

pub returns-in_err-id-clause-touched : goal.returns-in_err-id-clause-touched
returns-in_err-id-clause-touched g c = never_ok c.from_residual.result _ _ c.from_residual.ensures.1

pub returns-in_err-id-clause-onward : goal.returns-in_err-id-clause-onward
returns-in_err-id-clause-onward g c = search rules

pub returns-in_err-put-clause-added : goal.returns-in_err-put-clause-added
returns-in_err-put-clause-added g c _ _ _ = never_ok c.from_residual-in_err-put.result _ _ c.from_residual-in_err-put.ensures.1

pub returns-in_err-put-clause-counted : goal.returns-in_err-put-clause-counted
returns-in_err-put-clause-counted g c _ = never_ok c.from_residual-in_err-put.result _ _ c.from_residual-in_err-put.ensures.1

pub returns-in_err-put-clause-key : goal.returns-in_err-put-clause-key
returns-in_err-put-clause-key g c = never_ok c.from_residual-in_err-put.result _ _ c.from_residual-in_err-put.ensures.1

pub returns-in_err-put-clause-touched : goal.returns-in_err-put-clause-touched
returns-in_err-put-clause-touched g c = never_ok c.from_residual-in_err-put.result _ _ c.from_residual-in_err-put.ensures.1

pub returns-clause-fresh : goal.returns-clause-fresh
returns-clause-fresh g c tells = c.in_ok-id.ensures.fresh tells

pub returns-in_err-id-clause-fresh : goal.returns-in_err-id-clause-fresh
returns-in_err-id-clause-fresh g c _ = never_ok c.from_residual.result _ _ c.from_residual.ensures.1

pub returns-in_err-put-clause-fresh : goal.returns-in_err-put-clause-fresh
returns-in_err-put-clause-fresh g c _ = never_ok c.from_residual-in_err-put.result _ _ c.from_residual-in_err-put.ensures.1

pub returns-clause-here : goal.returns-clause-here
returns-clause-here g c tells =
    let u = g.S.Reads.state c.take.new.space in
    let key = key_in format.index_file c.in_ok-id.id in
    ap (λ (z : State). z.records key) c.in_ok-put.ensures.ok ∙ put_same u.records key c.args.rec

pub returns-in_err-id-clause-here : goal.returns-in_err-id-clause-here
returns-in_err-id-clause-here g c _ = never_ok c.from_residual.result _ _ c.from_residual.ensures.1

pub returns-in_err-put-clause-here : goal.returns-in_err-put-clause-here
returns-in_err-put-clause-here g c _ = never_ok c.from_residual-in_err-put.result _ _ c.from_residual-in_err-put.ensures.1
