use Rattle.std.proofs.Common.{◌<◌, ◌+◌, length, drop, get_or, inr, arith, refl}
use Rattle.rec_bytes.specs.Format.{strings_file}
use Rattle.prop_store.proofs.FileSteps.{beside_then}
use Rattle.prop_store.proofs.ListLaws.{drop_step, in_at}
use Rattle.prop_store.proofs.ReleaseSteps.{beside_given, one_given, one_linked}
use Rattle.prop_store.proofs.Touches.{only_given}
use Rattle.rec_bytes.proofs.Causes.{never_ok, ok_cause, passed}
use Rattle.rec_bytes.specs.declared.space.SpaceFault.TheVariants as spaces
use Rattle.prop_store.proofs.releasing.release.Goals as goal

pub give-requires-clause-key : goal.give-requires-clause-key
give-requires-clause-key g c = record {
  file = refl;
  id = c.requires (get_or c.args.blocks.now c.loop-id.id-index 0) (in_at c.args.blocks.now c.loop-id.id-index
      (omega arith));
}

pub returns-in_err-give-clause-touches : goal.returns-in_err-give-clause-touches
returns-in_err-give-clause-touches g c = only_given _ _ _ strings_file (get_or c.args.blocks.now c.loop-id.id-index 0) c.args.blocks.now
    (in_at c.args.blocks.now c.loop-id.id-index (omega arith)) c.loop-id.invariant.touches
    (record { writes = c.give.ensures.writes; stays = c.give.ensures.stays })

pub loop-id-preserved : goal.loop-id-preserved
loop-id-preserved g c =
    let old = g.S.Reads.state c.args.space.now in
    let now = g.S.Reads.state c.loop-id.space in
    let then = g.S.Reads.state c.give.new.space in
    let blocks = c.args.blocks.now in
    let i = c.loop-id.id-index in
    let id = get_or blocks i 0 in
    let lt : i < length blocks = omega arith in
    record {
      released = λ tells once h. one_given old.records now then old.shape strings_file blocks (drop i blocks) (drop (i + 1) blocks) id i (i + 1) (inr refl)
          (drop_step blocks i (i + 1) refl lt) refl
          (c.in_ok-give.ensures.given tells) (c.loop-id.invariant.released tells once h);
      harmless = λ tells used link. one_linked old now then blocks (drop i blocks) (drop (i + 1) blocks) id (omega arith) (drop_step blocks i (i + 1) refl lt)
          (c.requires id (in_at blocks i lt)) (c.in_ok-give.ensures.ok tells) (c.loop-id.invariant.harmless tells used link);
      beside = λ tells. beside_then strings_file old.records now.records then.records (c.loop-id.invariant.beside tells)
          (beside_given now then strings_file id (c.in_ok-give.ensures.ok tells));
      touches = only_given old now then strings_file id blocks (in_at blocks i lt) c.loop-id.invariant.touches
          (record { writes = c.give.ensures.writes; stays = c.give.ensures.stays });
      onward = g.met.S.Reads.further_onward _ _ _ c.loop-id.invariant.onward c.give.ensures.onward;
      later = omega (arith, c.loop-id.invariant.later, c.give.ensures.cause.later);
    }

pub returns-in_err-give-clause-harmless : goal.returns-in_err-give-clause-harmless
returns-in_err-give-clause-harmless g c _ = never_ok c.from_residual.result _ _ c.from_residual.ensures.1

pub returns-clause-harmless : goal.returns-clause-harmless
returns-clause-harmless g c tells used link = (c.loop-id.invariant.harmless tells used link).harmless

pub returns-in_err-give-clause-released : goal.returns-in_err-give-clause-released
returns-in_err-give-clause-released g c _ = never_ok c.from_residual.result _ _ c.from_residual.ensures.1

pub returns-in_err-give-clause-other_files : goal.returns-in_err-give-clause-other_files
returns-in_err-give-clause-other_files g c _ = never_ok c.from_residual.result _ _ c.from_residual.ensures.1

pub returns-clause-cause : goal.returns-clause-cause
returns-clause-cause g c = ok_cause _ _ _ _ (omega arith)

pub returns-in_err-give-clause-cause : goal.returns-in_err-give-clause-cause
returns-in_err-give-clause-cause g c =
    passed (λ f. f) spaces.Disk spaces.Disk _ _ _ c.from_residual.result c.in_err-give.field-0.0 (λ e. e) c.loop-id.invariant.later
    c.in_err-give.ensures.cause c.from_residual.ensures.1

pub returns-in_err-give-clause-onward : goal.returns-in_err-give-clause-onward
returns-in_err-give-clause-onward g c = g.met.S.Reads.further_onward _ _ _ c.loop-id.invariant.onward c.in_err-give.ensures.onward

pub returns-clause-onward : goal.returns-clause-onward
returns-clause-onward g c = c.loop-id.invariant.onward

pub returns-clause-other_files : goal.returns-clause-other_files
returns-clause-other_files g c = c.loop-id.invariant.beside

pub returns-clause-touches : goal.returns-clause-touches
returns-clause-touches g c = c.loop-id.invariant.touches
