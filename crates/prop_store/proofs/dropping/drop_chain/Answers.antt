use Rattle.std.specs.Prelude.{IfSome}
use Rattle.std.proofs.Common.{[], List, ℕ, length, ap, arith, sym, subst, ◌∙◌}
use Rattle.std.proofs.lemmas.List.{length-map}
use Rattle.std.proofs.lemmas.Result.{err_from_is_err_and}
use Rattle.rec_bytes.specs.Fault.{damage_of}
use Rattle.rec_bytes.specs.Space.{SameButReads}
use Rattle.store_rules.specs.Properties.{Property}
use Rattle.prop_store.specs.BlockList.{AreSmall}
use Rattle.prop_store.specs.Fault.{BlamesBroken}
use Rattle.prop_store.proofs.Causes.{cause_passed, space_cause_passed}
use Rattle.prop_store.proofs.DropSteps.{all_dropped, held_given}
use Rattle.prop_store.proofs.Exits.{same_has, space_exit, space_has, when_damaged}
use Rattle.prop_store.proofs.ReadCounts.{reads_same}
use Rattle.prop_store.proofs.Touches.{touches_all, touches_freed, touches_more, touches_reads}
use Rattle.rec_bytes.proofs.Causes.{never_ok, ok_cause}
use Rattle.prop_store.proofs.dropping.drop_chain.Goals as goal

pub release-requires : goal.release-requires
release-requires g c = subst AreSmall (sym c.as_slice-blocks.ensures.value) c.in_ok-held.ensures.fits.small_blocks

pub release_properties-requires : goal.release_properties-requires
release_properties-requires g c = subst AreSmall (sym c.as_slice-ids.ensures.value) c.in_ok-held.ensures.fits.small

pub returns-in_err-held-clause-not_damaged : goal.returns-in_err-held-clause-not_damaged
returns-in_err-held-clause-not_damaged g c tells es held =
    let p = err_from_is_err_and c.from_residual.result c.from_residual.ensures.1 in
    let s = g.S.Reads.state c.args.space.now in
    rw (p.1, p.2) (c.in_err-held.ensures.not_damaged tells es (held_given s c.args.owner c.args.first es (c.requires.first tells) held))

pub returns-in_err-release-clause-not_damaged : goal.returns-in_err-release-clause-not_damaged
returns-in_err-release-clause-not_damaged g c tells es held = space_exit c.from_residual-in_err-release.result c.in_err-release.field-0.0
    c.from_residual-in_err-release.ensures.1

pub returns-in_err-release_properties-clause-not_damaged : goal.returns-in_err-release_properties-clause-not_damaged
returns-in_err-release_properties-clause-not_damaged g c tells es held = space_exit c.from_residual-in_err-release_properties.result
    c.in_err-release_properties.field-0.0 c.from_residual-in_err-release_properties.ensures.1

pub returns-clause-dropped : goal.returns-clause-dropped
returns-clause-dropped g c tells es held =
    let s = g.S.Reads.state c.args.space.now in
    let a = g.S.Reads.state c.find_held.new.space in
    let b = g.S.Reads.state c.release.new.space in
    let t = g.S.Reads.state c.release_properties.new.space in
    let found = c.in_ok-held.ensures.found tells es (held_given s c.args.owner c.args.first es (c.requires.first tells) held) in
    let ids_are = c.as_slice-ids.ensures.value ∙ found.ids in
    let blocks_are = c.as_slice-blocks.ensures.value ∙ found.blocks in
    record {
      properties = ap (λ (xs : List ℕ). length xs) ids_are ∙ length-map es (λ (e : Property). e.id);
      blocks = ap (λ (xs : List ℕ). length xs) blocks_are;
      changes = all_dropped s a b t es c.args.first c.as_slice-ids.result.now c.as_slice-blocks.result.now held (reads_same 736 s a c.find_held.ensures.at_most)
          ids_are blocks_are
          (g.met.S.Reads.onward_shape _ _ (g.met.S.Reads.further_onward _ _ _ c.find_held.ensures.onward c.release.ensures.onward))
          (c.in_ok-release.ensures.released tells) (c.in_ok-release.ensures.other_files tells) (c.in_ok-release_properties.ensures.released tells)
          (c.in_ok-release_properties.ensures.other_files tells);
    }

pub returns-in_err-held-clause-at_most : goal.returns-in_err-held-clause-at_most
returns-in_err-held-clause-at_most g c = touches_reads [] 32 704 _ _ (reads_same 736 _ _ c.find_held.ensures.at_most)

pub returns-in_err-release-clause-at_most : goal.returns-in_err-release-clause-at_most
returns-in_err-release-clause-at_most g c =
    let few = c.as_slice-blocks.ensures.fits in
    touches_more [] 0 (length c.as_slice-blocks.result.now) 32 704 _ _ (omega arith) (omega arith)
    (touches_freed _ _ _ c.as_slice-blocks.result.now (reads_same 736 _ _ c.find_held.ensures.at_most) c.release.ensures.touches)

pub returns-in_err-release_properties-clause-at_most : goal.returns-in_err-release_properties-clause-at_most
returns-in_err-release_properties-clause-at_most g c =
    let few = c.as_slice-ids.ensures.fits in
    let few_blocks = c.as_slice-blocks.ensures.fits in
    touches_more [] (length c.as_slice-ids.result.now) (length c.as_slice-blocks.result.now) 32 704 _ _ (omega arith) (omega arith)
    (touches_all _ _ _ _ c.as_slice-ids.result.now c.as_slice-blocks.result.now (reads_same 736 _ _ c.find_held.ensures.at_most) c.release.ensures.touches
    c.release_properties.ensures.touches)

pub returns-clause-touches : goal.returns-clause-touches
returns-clause-touches g c =
    touches_all _ _ _ _ c.as_slice-ids.result.now c.as_slice-blocks.result.now (reads_same 736 _ _ c.find_held.ensures.at_most) c.release.ensures.touches
    c.release_properties.ensures.touches

pub returns-clause-at_most : goal.returns-clause-at_most
returns-clause-at_most g c =
    let few = c.as_slice-ids.ensures.fits in
    let few_blocks = c.as_slice-blocks.ensures.fits in
    touches_more [] (length c.as_slice-ids.result.now) (length c.as_slice-blocks.result.now) 32 704 _ _ (omega arith) (omega arith) (returns-clause-touches g c)

-- ---- which record is blamed

pub returns-in_err-held-clause-damaged : goal.returns-in_err-held-clause-damaged
returns-in_err-held-clause-damaged g c tells used =
    let s = g.S.Reads.state c.args.space.now in
    same_has (BlamesBroken s.records s.shape) c.from_residual.result c.in_err-held.field-0.0 c.from_residual.ensures.1
    (c.in_err-held.ensures.damaged tells used)

pub returns-in_err-release-clause-damaged : goal.returns-in_err-release-clause-damaged
returns-in_err-release-clause-damaged g c tells used =
    let s = g.S.Reads.state c.args.space.now in
    space_has (BlamesBroken s.records s.shape) tt tt c.from_residual-in_err-release.result c.in_err-release.field-0.0 c.from_residual-in_err-release.ensures.1

pub returns-in_err-release_properties-clause-damaged : goal.returns-in_err-release_properties-clause-damaged
returns-in_err-release_properties-clause-damaged g c tells used =
    let s = g.S.Reads.state c.args.space.now in
    space_has (BlamesBroken s.records s.shape) tt tt c.from_residual-in_err-release_properties.result c.in_err-release_properties.field-0.0
    c.from_residual-in_err-release_properties.ensures.1

-- ---- where damage is told nothing is written

pub returns-in_err-held-clause-unwritten : goal.returns-in_err-held-clause-unwritten
returns-in_err-held-clause-unwritten g c =
    let s = g.S.Reads.state c.args.space.now in
    let a = g.S.Reads.state c.find_held.new.space in
    same_has (λ fault. IfSome (damage_of fault) (λ _. SameButReads s a)) c.from_residual.result c.in_err-held.field-0.0 c.from_residual.ensures.1
    (when_damaged c.in_err-held.field-0.0 (reads_same 736 s a c.find_held.ensures.at_most))

pub returns-in_err-release-clause-unwritten : goal.returns-in_err-release-clause-unwritten
returns-in_err-release-clause-unwritten g c =
    space_has (λ fault. IfSome (damage_of fault) (λ _. SameButReads (g.S.Reads.state c.args.space.now) (g.S.Reads.state c.release.new.space))) tt tt
    c.from_residual-in_err-release.result c.in_err-release.field-0.0 c.from_residual-in_err-release.ensures.1

pub returns-in_err-release_properties-clause-unwritten : goal.returns-in_err-release_properties-clause-unwritten
returns-in_err-release_properties-clause-unwritten g c =
    space_has (λ fault. IfSome (damage_of fault) (λ _. SameButReads (g.S.Reads.state c.args.space.now) (g.S.Reads.state c.release_properties.new.space))) tt tt
    c.from_residual-in_err-release_properties.result c.in_err-release_properties.field-0.0
    c.from_residual-in_err-release_properties.ensures.1

-- ---- exits with an error

pub returns-in_err-release-clause-cause : goal.returns-in_err-release-clause-cause
returns-in_err-release-clause-cause g c =
    space_cause_passed _ _ _ c.from_residual-in_err-release.result c.in_err-release.field-0.0 c.in_ok-held.ensures.cause.later c.in_err-release.ensures.cause
    c.from_residual-in_err-release.ensures.1

pub returns-in_err-release_properties-clause-cause : goal.returns-in_err-release_properties-clause-cause
returns-in_err-release_properties-clause-cause g c =
    let later0 = c.in_ok-held.ensures.cause.later in
    let later1 = c.in_ok-release.ensures.cause.later in
    space_cause_passed _ _ _ c.from_residual-in_err-release_properties.result c.in_err-release_properties.field-0.0 (omega (arith, later0, later1))
    c.in_err-release_properties.ensures.cause c.from_residual-in_err-release_properties.ensures.1

pub returns-clause-cause : goal.returns-clause-cause
returns-clause-cause g c = ok_cause _ _ _ _ (omega arith)

pub returns-in_err-release-clause-onward : goal.returns-in_err-release-clause-onward
returns-in_err-release-clause-onward g c = g.met.S.Reads.further_onward _ _ _ c.in_ok-held.ensures.onward c.in_err-release.ensures.onward

pub returns-in_err-release_properties-clause-onward : goal.returns-in_err-release_properties-clause-onward
returns-in_err-release_properties-clause-onward g c =
    g.met.S.Reads.further_onward _ _ _ (g.met.S.Reads.further_onward _ _ _ c.in_ok-held.ensures.onward c.in_ok-release.ensures.onward)
    c.in_err-release_properties.ensures.onward

pub returns-clause-onward : goal.returns-clause-onward
returns-clause-onward g c =
    g.met.S.Reads.further_onward _ _ _ (g.met.S.Reads.further_onward _ _ _ c.in_ok-held.ensures.onward c.in_ok-release.ensures.onward)
    c.in_ok-release_properties.ensures.onward

pub returns-in_err-held-clause-dropped : goal.returns-in_err-held-clause-dropped
returns-in_err-held-clause-dropped g c _ _ _ = never_ok c.from_residual.result _ _ c.from_residual.ensures.1

pub returns-in_err-held-clause-few_properties : goal.returns-in_err-held-clause-few_properties
returns-in_err-held-clause-few_properties g c = never_ok c.from_residual.result _ _ c.from_residual.ensures.1

pub returns-in_err-held-clause-few_blocks : goal.returns-in_err-held-clause-few_blocks
returns-in_err-held-clause-few_blocks g c = never_ok c.from_residual.result _ _ c.from_residual.ensures.1

pub returns-in_err-held-clause-touches : goal.returns-in_err-held-clause-touches
returns-in_err-held-clause-touches g c = never_ok c.from_residual.result _ _ c.from_residual.ensures.1

pub returns-in_err-release-clause-dropped : goal.returns-in_err-release-clause-dropped
returns-in_err-release-clause-dropped g c _ _ _ = never_ok c.from_residual-in_err-release.result _ _ c.from_residual-in_err-release.ensures.1

pub returns-in_err-release-clause-few_properties : goal.returns-in_err-release-clause-few_properties
returns-in_err-release-clause-few_properties g c = never_ok c.from_residual-in_err-release.result _ _ c.from_residual-in_err-release.ensures.1

pub returns-in_err-release-clause-few_blocks : goal.returns-in_err-release-clause-few_blocks
returns-in_err-release-clause-few_blocks g c = never_ok c.from_residual-in_err-release.result _ _ c.from_residual-in_err-release.ensures.1

pub returns-in_err-release-clause-touches : goal.returns-in_err-release-clause-touches
returns-in_err-release-clause-touches g c = never_ok c.from_residual-in_err-release.result _ _ c.from_residual-in_err-release.ensures.1

pub returns-in_err-release_properties-clause-dropped : goal.returns-in_err-release_properties-clause-dropped
returns-in_err-release_properties-clause-dropped g c _ _ _ = never_ok c.from_residual-in_err-release_properties.result _ _
    c.from_residual-in_err-release_properties.ensures.1

pub returns-in_err-release_properties-clause-few_properties : goal.returns-in_err-release_properties-clause-few_properties
returns-in_err-release_properties-clause-few_properties g c = never_ok c.from_residual-in_err-release_properties.result _ _
    c.from_residual-in_err-release_properties.ensures.1

pub returns-in_err-release_properties-clause-few_blocks : goal.returns-in_err-release_properties-clause-few_blocks
returns-in_err-release_properties-clause-few_blocks g c = never_ok c.from_residual-in_err-release_properties.result _ _
    c.from_residual-in_err-release_properties.ensures.1

pub returns-in_err-release_properties-clause-touches : goal.returns-in_err-release_properties-clause-touches
returns-in_err-release_properties-clause-touches g c = never_ok c.from_residual-in_err-release_properties.result _ _
    c.from_residual-in_err-release_properties.ensures.1

pub returns-in_err-held-clause-cause : goal.returns-in_err-held-clause-cause
returns-in_err-held-clause-cause g c =
    cause_passed _ _ _ c.from_residual.result c.in_err-held.field-0.0 (omega arith) c.in_err-held.ensures.cause c.from_residual.ensures.1

pub returns-in_err-held-clause-onward : goal.returns-in_err-held-clause-onward
returns-in_err-held-clause-onward g c = c.in_err-held.ensures.onward

pub find_held-requires-clause-owner : goal.find_held-requires-clause-owner
find_held-requires-clause-owner g c = c.requires.owner
