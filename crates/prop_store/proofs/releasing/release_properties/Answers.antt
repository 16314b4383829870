use Rattle.std.proofs.Common.{◌<◌, ◌+◌, length, drop, get_or, inl, arith, refl}
use Rattle.rec_bytes.specs.Format.{properties_file}
use Rattle.prop_store.proofs.FileSteps.{beside_then}
use Rattle.prop_store.proofs.ListLaws.{drop_step, in_at}
use Rattle.prop_store.proofs.ReleaseSteps.{beside_given, one_given}
use Rattle.prop_store.proofs.Touches.{only_given}
use Rattle.rec_bytes.proofs.Causes.{never_ok, ok_cause, passed}
use Rattle.rec_bytes.specs.declared.space.SpaceFault.TheVariants as spaces
use Rattle.prop_store.proofs.releasing.release_properties.Goals as goal

pub give-requires-clause-key : goal.give-requires-clause-key
give-requires-clause-key g c = record {
  file = refl;
  id = c.requires (get_or c.args.ids.now c.loop-id.id-index 0) (in_at c.args.ids.now c.loop-id.id-index
      (omega arith));
}

pub returns-in_err-give-clause-touches : goal.returns-in_err-give-clause-touches
returns-in_err-give-clause-touches g c =
    only_given _ _ _ properties_file (get_or c.args.ids.now c.loop-id.id-index 0) c.args.ids.now (in_at c.args.ids.now c.loop-id.id-index (omega arith))
    c.loop-id.invariant.touches (record { writes = c.give.ensures.writes; stays = c.give.ensures.stays })

pub loop-id-preserved : goal.loop-id-preserved
loop-id-preserved g c =
    let old = g.S.Reads.state c.args.space.now in
    let now = g.S.Reads.state c.loop-id.space in
    let then = g.S.Reads.state c.give.new.space in
    let ids = c.args.ids.now in
    let i = c.loop-id.id-index in
    let id = get_or ids i 0 in
    let lt : i < length ids = omega arith in
    record {
      released = λ tells once h. one_given old.records now then old.shape properties_file ids (drop i ids) (drop (i + 1) ids) id i (i + 1) (inl refl)
          (drop_step ids i (i + 1) refl lt) refl
          (c.in_ok-give.ensures.given tells) (c.loop-id.invariant.released tells once h);
      beside = λ tells. beside_then properties_file old.records now.records then.records (c.loop-id.invariant.beside tells)
          (beside_given now then properties_file id (c.in_ok-give.ensures.ok tells));
      touches = only_given old now then properties_file id ids (in_at ids i lt) c.loop-id.invariant.touches
          (record { writes = c.give.ensures.writes; stays = c.give.ensures.stays });
      onward = g.met.S.Reads.further_onward _ _ _ c.loop-id.invariant.onward c.give.ensures.onward;
      later = omega (arith, c.loop-id.invariant.later, c.give.ensures.cause.later);
    }

pub returns-in_err-give-clause-released : goal.returns-in_err-give-clause-released
returns-in_err-give-clause-released g c _ = never_ok c.from_residual.result _ _ c.from_residual.ensures.1

pub returns-in_err-give-clause-other_files : goal.returns-in_err-give-clause-other_files
returns-in_err-give-clause-other_files g c _ = never_ok c.from_residual.result _ _ c.from_residual.ensures.1

pub returns-clause-cause : goal.returns-clause-cause
returns-clause-cause g c = ok_cause _ _ _ _ (omega arith)

pub returns-in_err-give-clause-cause : goal.returns-in_err-give-clause-cause
returns-in_err-give-clause-cause g c =
    passed (λ f. f) spaces.Disk spaces.Disk _ _ _ c.from_residual.result c.in_err-give.field-0.0 (λ e. e) c.loop-id.invariant.later
    c.in_err-give.ensures.cause c.from_residual.ensures.1

pub returns-in_err-give-clause-onward : goal.returns-in_err-give-clause-onward
returns-in_err-give-clause-onward g c = g.met.S.Reads.further_onward _ _ _ c.loop-id.invariant.onward c.in_err-give.ensures.onward

pub returns-clause-onward : goal.returns-clause-onward
returns-clause-onward g c = c.loop-id.invariant.onward

pub returns-clause-other_files : goal.returns-clause-other_files
returns-clause-other_files g c = c.loop-id.invariant.beside

pub returns-clause-touches : goal.returns-clause-touches
returns-clause-touches g c = c.loop-id.invariant.touches
