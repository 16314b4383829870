use Rattle.std.proofs.Common.{◌<◌, ◌^◌, ◌≡◌, ap, sym, ◌∙◌, subst, rules, arith}
use Rattle.rec_bytes.specs.declared.record.Rec.{Rec}
use Rattle.rec_bytes.specs.Format as format
use Rattle.rec_bytes.specs.Meta as metas
use Rattle.rec_bytes.specs.RecordFiles.{meta_key_of}
use Rattle.rec_bytes.specs.Space.{State}
use Rattle.store_rules.specs.IndexChange.{IsEntryMade}
use Rattle.prop_index.proofs.LinkRules.{free_list}
use Rattle.prop_index.proofs.MadeRules.{entry_made_kept}
use Rattle.id_freelist.specs.ListDamage.{BlamesList}
use Rattle.id_freelist.specs.TakeFault.{of_space}
use Rattle.id_freelist.proofs.ListSteps.{blames_list, list_of_space}
use Rattle.prop_index.proofs.EntrySpares.{entry_spares}
use Rattle.prop_index.proofs.ListKept.{entry_kept}
use Rattle.prop_index.specs.Blaming.{TakeBlamesBroken as BlamesBroken}
use Rattle.prop_index.proofs.IndexBlames.{any_take, space_names, space_take, take_has, take_names, take_reread}
use Rattle.prop_index.proofs.IndexFull.{full-after, take-full}
use Rattle.prop_index.proofs.IndexTouches.{meta_only, meta_then}
use Rattle.prop_index.proofs.LiveCounts.{taken_live}
use Rattle.prop_index.proofs.Made.{below_taken, made}
use Rattle.prop_index.proofs.Steps.{linked-meta}
use Rattle.std.proofs.lemmas.Result.{err_from_is_err_and}
use Rattle.prop_index.specs.Blaming.{TakeNamesIndexes}
use Rattle.prop_index.specs.Touching.{front_ids}
use Rattle.rec_bytes.proofs.Causes.{never_ok}
use Rattle.prop_index.proofs.Causes.{space_take_cause, take_cause_passed, take_ok_cause}
use Rattle.prop_store.proofs.Causes.{later_on}
use Rattle.prop_index.proofs.Unwritten.{on_blame, space_blames}
use Rattle.prop_index.proofs.linking.put_in_front.Goals as goal

pub returns-clause-made : goal.returns-clause-made
returns-clause-made g c tells free head right can =
    let s = (g.S.Reads.state c.args.space.now).records in
    let u = g.S.Reads.state c.take.new.space in
    let bucket = c.args.bucket in
    let content = c.args.content in
    let id = c.in_ok-id.id in
    let taken = c.in_ok-id.ensures.taken tells free can.list in
    let node_fits : content.node < 2 ^ 32 = search rules in
    let hash_fits : content.hash < 2 ^ 64 = search rules in
    subst (λ (z : State). IsEntryMade s z.records id bucket.slot.id bucket.slot.place content.node content.hash) (sym (c.in_ok-link.ensures.ok tells))
    (made s u bucket.slot bucket.first id content free taken (below_taken s u.records id free taken can.low) (c.in_ok-id.ensures.fresh tells)
    c.in_ok-id.ensures.key.id
    head.heads head.first_is right node_fits hash_fits)

pub returns-clause-keeps : goal.returns-clause-keeps
returns-clause-keeps g c tells store head right place known =
    let s = g.S.Reads.state c.args.space.now in
    let u = g.S.Reads.state c.take.new.space in
    let t = g.S.Reads.state c.link.new.space in
    let bucket = c.args.bucket in
    let content = c.args.content in
    let id = c.in_ok-id.id in
    let taken = c.in_ok-id.ensures.taken tells (free_list s store).0 (free_list s store).1.walk in
    let first_fits : bucket.first < 2 ^ 32 = search rules in
    let node_fits : content.node < 2 ^ 32 = search rules in
    let hash_fits : content.hash < 2 ^ 64 = search rules in
    let shape : t.shape ≡ s.shape = g.met.S.Reads.onward_shape _ _ (g.met.S.Reads.further_onward _ _ _ c.in_ok-id.ensures.onward c.in_ok-link.ensures.onward) in
    entry_made_kept s u bucket.slot bucket.first id content store taken (c.in_ok-id.ensures.fresh tells) c.in_ok-id.ensures.small head.heads place right
    first_fits node_fits hash_fits known
    t (c.in_ok-link.ensures.ok tells) shape

pub returns-clause-counted : goal.returns-clause-counted
returns-clause-counted g c tells =
    let s = g.S.Reads.state c.args.space.now in
    let u = g.S.Reads.state c.take.new.space in
    let bucket = c.args.bucket in
    ap (λ (z : State). (metas.meta_of (z.records (meta_key_of format.index_file))).live) (c.in_ok-link.ensures.ok tells)
    ∙ ap (λ (r : Rec). (metas.meta_of r).live) (linked-meta u bucket.slot bucket.first c.in_ok-id.id c.args.content)
    ∙ ap (λ (z : State). (metas.meta_of (z.records (meta_key_of format.index_file))).live) (c.in_ok-id.ensures.ok tells)
    ∙ taken_live s format.index_file (c.in_ok-id.ensures.undamaged tells) (subst (λ n. n < format.most_ids) c.in_ok-id.ensures.is c.in_ok-id.ensures.key.id)

pub returns-clause-touched : goal.returns-clause-touched
returns-clause-touched g c = meta_then (front_ids c.in_ok-id.id c.args.bucket.slot.id c.args.bucket.first) _ _ _
    (record { writes = c.in_ok-id.ensures.writes; stays = c.in_ok-id.ensures.stays }) c.in_ok-link.ensures.touches

pub returns-clause-touches : goal.returns-clause-touches
returns-clause-touches g c = record {
  id = c.in_ok-id.id;
  only = meta_then (front_ids c.in_ok-id.id c.args.bucket.slot.id c.args.bucket.first) _ _ _
      (record { writes = c.in_ok-id.ensures.writes; stays = c.in_ok-id.ensures.stays }) c.in_ok-link.ensures.touches;
}

pub returns-in_err-link-clause-touches : goal.returns-in_err-link-clause-touches
returns-in_err-link-clause-touches g c = record {
  id = c.in_ok-id.id;
  only = meta_then (front_ids c.in_ok-id.id c.args.bucket.slot.id c.args.bucket.first) _ _ _
      (record { writes = c.in_ok-id.ensures.writes; stays = c.in_ok-id.ensures.stays }) c.in_err-link.ensures.touches;
}

pub returns-in_err-id-clause-touches : goal.returns-in_err-id-clause-touches
returns-in_err-id-clause-touches g c = record {
  id = 0;
  only = meta_only (front_ids 0 c.args.bucket.slot.id c.args.bucket.first) _ _
      (record { writes = c.in_err-id.ensures.writes; stays = c.in_err-id.ensures.stays });
}

pub returns-in_err-id-clause-full : goal.returns-in_err-id-clause-full
returns-in_err-id-clause-full g c tells =
    let s = g.S.Reads.state c.args.space.now in
    let p = err_from_is_err_and c.from_residual.result c.from_residual.ensures.1 in
    rw (p.1, p.2) (take-full s c.in_err-id.field-0.0 (c.in_err-id.ensures.refused tells))

pub returns-in_err-id-clause-damaged : goal.returns-in_err-id-clause-damaged
returns-in_err-id-clause-damaged g c tells =
    let s = g.S.Reads.state c.args.space.now in
    take_has (BlamesList s format.index_file) c.from_residual.result c.in_err-id.field-0.0 c.from_residual.ensures.1
    (blames_list s format.index_file c.in_err-id.field-0.0 (c.in_err-id.ensures.refused tells))

pub returns-clause-kept : goal.returns-clause-kept
returns-clause-kept g c tells head begins place =
    let node_fits : c.args.content.node < 2 ^ 32 = search rules in
    let first_fits : c.args.bucket.first < 2 ^ 32 = search rules in
    let hash_fits : c.args.content.hash < 2 ^ 64 = search rules in
    entry_kept (g.S.Reads.state c.args.space.now) (g.S.Reads.state c.take.new.space) (g.S.Reads.state c.link.new.space) c.args.bucket.slot c.args.bucket.first
    c.in_ok-id.id c.args.content node_fits first_fits hash_fits (c.in_ok-id.ensures.ok tells) c.in_ok-id.ensures.is (c.in_ok-id.ensures.undamaged tells)
    (c.in_ok-id.ensures.fresh tells) c.in_ok-id.ensures.key.id c.in_ok-id.ensures.small (c.in_ok-link.ensures.ok tells) head begins place

pub returns-clause-spares : goal.returns-clause-spares
returns-clause-spares g c tells head begins place =
    let node_fits : c.args.content.node < 2 ^ 32 = search rules in
    let first_fits : c.args.bucket.first < 2 ^ 32 = search rules in
    let hash_fits : c.args.content.hash < 2 ^ 64 = search rules in
    entry_spares (g.S.Reads.state c.args.space.now) (g.S.Reads.state c.take.new.space) (g.S.Reads.state c.link.new.space) c.args.bucket.slot c.args.bucket.first
    c.in_ok-id.id c.args.content node_fits first_fits hash_fits (c.in_ok-id.ensures.ok tells) c.in_ok-id.ensures.is (c.in_ok-id.ensures.undamaged tells)
    (c.in_ok-id.ensures.fresh tells) c.in_ok-id.ensures.key.id c.in_ok-id.ensures.small (c.in_ok-link.ensures.ok tells) head begins place

pub returns-in_err-id-clause-spares : goal.returns-in_err-id-clause-spares
returns-in_err-id-clause-spares g c _ _ _ _ = never_ok c.from_residual.result _ _ c.from_residual.ensures.1

pub returns-in_err-link-clause-spares : goal.returns-in_err-link-clause-spares
returns-in_err-link-clause-spares g c _ _ _ _ = never_ok c.from_residual-in_err-link.result _ _ c.from_residual-in_err-link.ensures.1

pub returns-in_err-id-clause-kept : goal.returns-in_err-id-clause-kept
returns-in_err-id-clause-kept g c _ _ _ _ = never_ok c.from_residual.result _ _ c.from_residual.ensures.1

pub returns-in_err-link-clause-kept : goal.returns-in_err-link-clause-kept
returns-in_err-link-clause-kept g c _ _ _ _ = never_ok c.from_residual-in_err-link.result _ _ c.from_residual-in_err-link.ensures.1

pub returns-in_err-id-clause-damaged_after : goal.returns-in_err-id-clause-damaged_after
returns-in_err-id-clause-damaged_after g c tells =
    let s = g.S.Reads.state c.args.space.now in
    let now = g.S.Reads.state c.take.new.space in
    take_has (BlamesBroken now.records now.shape) c.from_residual.result c.in_err-id.field-0.0 c.from_residual.ensures.1
    (take_reread s now c.in_err-id.field-0.0 c.in_err-id.ensures.err (any_take s.records s.shape c.in_err-id.field-0.0 (c.in_err-id.ensures.damaged tells)))

pub returns-in_err-link-clause-damaged : goal.returns-in_err-link-clause-damaged
returns-in_err-link-clause-damaged g c tells =
    let s = g.S.Reads.state c.args.space.now in
    take_has (BlamesList s format.index_file) c.from_residual-in_err-link.result _ c.from_residual-in_err-link.ensures.1
    (list_of_space s format.index_file c.in_err-link.field-0.0)

pub returns-in_err-link-clause-damaged_after : goal.returns-in_err-link-clause-damaged_after
returns-in_err-link-clause-damaged_after g c tells =
    let t = g.S.Reads.state c.link.new.space in
    space_take t.records t.shape c.from_residual-in_err-link.result c.in_err-link.field-0.0 c.from_residual-in_err-link.ensures.1

pub returns-in_err-id-clause-names : goal.returns-in_err-id-clause-names
returns-in_err-id-clause-names g c tells =
    let s = g.S.Reads.state c.args.space.now in
    take_has TakeNamesIndexes c.from_residual.result c.in_err-id.field-0.0 c.from_residual.ensures.1
    (take_names s c.in_err-id.field-0.0 (c.in_err-id.ensures.refused tells))

pub returns-in_err-link-clause-names : goal.returns-in_err-link-clause-names
returns-in_err-link-clause-names g c tells =
    take_has TakeNamesIndexes c.from_residual-in_err-link.result (of_space c.in_err-link.field-0.0) c.from_residual-in_err-link.ensures.1
    (space_names c.in_err-link.field-0.0)

pub returns-in_err-id-clause-crowded : goal.returns-in_err-id-clause-crowded
returns-in_err-id-clause-crowded g c tells =
    let s = g.S.Reads.state c.args.space.now in
    let z = g.S.Reads.state c.take.new.space in
    let p = err_from_is_err_and c.from_residual.result c.from_residual.ensures.1 in
    rw (p.1, p.2) (full-after s z c.in_err-id.field-0.0 c.in_err-id.ensures.err (take-full s c.in_err-id.field-0.0 (c.in_err-id.ensures.refused tells)))

pub returns-in_err-id-clause-made : goal.returns-in_err-id-clause-made
returns-in_err-id-clause-made g c _ _ _ _ _ = never_ok c.from_residual.result _ _ c.from_residual.ensures.1

pub returns-in_err-id-clause-keeps : goal.returns-in_err-id-clause-keeps
returns-in_err-id-clause-keeps g c _ _ _ _ _ _ = never_ok c.from_residual.result _ _ c.from_residual.ensures.1

pub returns-in_err-id-clause-counted : goal.returns-in_err-id-clause-counted
returns-in_err-id-clause-counted g c _ = never_ok c.from_residual.result _ _ c.from_residual.ensures.1

pub returns-in_err-id-clause-key : goal.returns-in_err-id-clause-key
returns-in_err-id-clause-key g c = never_ok c.from_residual.result _ _ c.from_residual.ensures.1

pub returns-in_err-id-clause-touched : goal.returns-in_err-id-clause-touched
returns-in_err-id-clause-touched g c = never_ok c.from_residual.result _ _ c.from_residual.ensures.1

pub returns-in_err-id-clause-onward : goal.returns-in_err-id-clause-onward
returns-in_err-id-clause-onward g c = search rules

pub returns-in_err-link-clause-made : goal.returns-in_err-link-clause-made
returns-in_err-link-clause-made g c _ _ _ _ _ = never_ok c.from_residual-in_err-link.result _ _ c.from_residual-in_err-link.ensures.1

pub returns-in_err-link-clause-keeps : goal.returns-in_err-link-clause-keeps
returns-in_err-link-clause-keeps g c _ _ _ _ _ _ = never_ok c.from_residual-in_err-link.result _ _ c.from_residual-in_err-link.ensures.1

pub returns-in_err-link-clause-counted : goal.returns-in_err-link-clause-counted
returns-in_err-link-clause-counted g c _ = never_ok c.from_residual-in_err-link.result _ _ c.from_residual-in_err-link.ensures.1

pub returns-in_err-link-clause-key : goal.returns-in_err-link-clause-key
returns-in_err-link-clause-key g c = never_ok c.from_residual-in_err-link.result _ _ c.from_residual-in_err-link.ensures.1

pub returns-in_err-link-clause-touched : goal.returns-in_err-link-clause-touched
returns-in_err-link-clause-touched g c = never_ok c.from_residual-in_err-link.result _ _ c.from_residual-in_err-link.ensures.1

pub returns-in_err-id-clause-cause : goal.returns-in_err-id-clause-cause
returns-in_err-id-clause-cause g c =
    take_cause_passed _ _ _ c.from_residual.result c.in_err-id.field-0.0 (omega arith) c.in_err-id.ensures.cause c.from_residual.ensures.1

pub returns-in_err-link-clause-cause : goal.returns-in_err-link-clause-cause
returns-in_err-link-clause-cause g c =
    space_take_cause _ _ _ c.from_residual-in_err-link.result c.in_err-link.field-0.0 c.in_ok-id.ensures.cause.later c.in_err-link.ensures.cause
    c.from_residual-in_err-link.ensures.1

pub returns-in_err-link-clause-onward : goal.returns-in_err-link-clause-onward
returns-in_err-link-clause-onward g c = g.met.S.Reads.further_onward _ _ _ c.in_ok-id.ensures.onward c.in_err-link.ensures.onward

pub returns-clause-onward : goal.returns-clause-onward
returns-clause-onward g c = g.met.S.Reads.further_onward _ _ _ c.in_ok-id.ensures.onward c.in_ok-link.ensures.onward

pub returns-clause-key : goal.returns-clause-key
returns-clause-key g c = c.in_ok-id.ensures.key

pub returns-clause-cause : goal.returns-clause-cause
returns-clause-cause g c = take_ok_cause _ _ _ (later_on c.in_ok-id.ensures.cause.later c.in_ok-link.ensures.cause.later)

pub link-requires-clause-slot : goal.link-requires-clause-slot
link-requires-clause-slot g c = c.requires.key

pub link-requires-clause-place : goal.link-requires-clause-place
link-requires-clause-place g c = c.requires.place

pub link-requires-clause-first : goal.link-requires-clause-first
link-requires-clause-first g c = c.requires.first

pub link-requires-clause-id : goal.link-requires-clause-id
link-requires-clause-id g c = c.in_ok-id.ensures.key

pub returns-in_err-id-clause-unwritten : goal.returns-in_err-id-clause-unwritten
returns-in_err-id-clause-unwritten g c = on_blame c.from_residual.result _ c.in_err-id.ensures.err

pub returns-in_err-link-clause-unwritten : goal.returns-in_err-link-clause-unwritten
returns-in_err-link-clause-unwritten g c = take_has _ c.from_residual-in_err-link.result _ c.from_residual-in_err-link.ensures.1
    (space_blames _ c.in_err-link.field-0.0)

pub returns-clause-fresh : goal.returns-clause-fresh
returns-clause-fresh g c tells = c.in_ok-id.ensures.fresh tells

pub returns-in_err-id-clause-fresh : goal.returns-in_err-id-clause-fresh
returns-in_err-id-clause-fresh g c _ = never_ok c.from_residual.result _ _ c.from_residual.ensures.1

pub returns-in_err-link-clause-fresh : goal.returns-in_err-link-clause-fresh
returns-in_err-link-clause-fresh g c _ = never_ok c.from_residual-in_err-link.result _ _ c.from_residual-in_err-link.ensures.1
