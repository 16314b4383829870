use Rattle.std.proofs.Common.{List, [], ℕ, length, ap, arith, ◌∙◌, rules}
use Rattle.std.proofs.lemmas.Result.{err_from_is_err_and}
use Rattle.prop_store.proofs.DropSteps.{blocks_given_out, property_dropped}
use Rattle.prop_store.specs.Blocks.{IsTextFault}
use Rattle.prop_store.proofs.Exits.{same_has, space_exit, space_has, when_damaged}
use Rattle.prop_store.proofs.ReadCounts.{reads_same}
use Rattle.prop_store.proofs.Touches.{touches_dropped, touches_freed, touches_more, touches_reads}
use Rattle.rec_bytes.proofs.Causes.{never_ok, ok_cause}
use Rattle.std.specs.Prelude.{IfSome}
use Rattle.rec_bytes.specs.Fault.{damage_of}
use Rattle.rec_bytes.specs.Space.{SameButReads}
use Rattle.prop_store.proofs.Causes.{cause_passed, later_on, space_cause_passed}
use Rattle.prop_store.proofs.Unused.{unused_given}
use Rattle.prop_store.proofs.dropping.drop_property.Goals as goal

pub returns-in_err-blocks-clause-not_damaged : goal.returns-in_err-blocks-clause-not_damaged
returns-in_err-blocks-clause-not_damaged g c tells e held =
    let p = err_from_is_err_and c.from_residual.result c.from_residual.ensures.1 in
    let s = g.S.Reads.state c.args.space.now in
    rw (p.1, p.2) (c.in_err-blocks.ensures.not_damaged tells e.value e.blocks held.value
    (blocks_given_out s.records s.shape _ e.blocks held.strings held.value.are))

pub returns-in_err-release-clause-not_damaged : goal.returns-in_err-release-clause-not_damaged
returns-in_err-release-clause-not_damaged g c tells e held = space_exit c.from_residual-in_err-release.result c.in_err-release.field-0.0
    c.from_residual-in_err-release.ensures.1

pub returns-in_err-give-clause-not_damaged : goal.returns-in_err-give-clause-not_damaged
returns-in_err-give-clause-not_damaged g c tells e held =
    space_exit c.from_residual-in_err-give.result c.in_err-give.field-0.0 c.from_residual-in_err-give.ensures.1

pub returns-clause-dropped : goal.returns-clause-dropped
returns-clause-dropped g c tells e held =
    let s = g.S.Reads.state c.args.space.now in
    let a = g.S.Reads.state c.value_blocks.new.space in
    let b = g.S.Reads.state c.release.new.space in
    let t = g.S.Reads.state c.give.new.space in
    let ids_are = c.as_slice-ids.ensures.is ∙ c.in_ok-blocks.ensures.followed tells e.value e.blocks held.value in
    record {
      released_is = ap (λ (xs : List ℕ). length xs) ids_are;
      changes = property_dropped s a b t c.args.row.now e c.as_slice-ids.result.now held (reads_same 22 s a c.value_blocks.ensures.at_most) ids_are
          (c.in_ok-release.ensures.released tells) (c.in_ok-release.ensures.other_files tells) (c.in_ok-give.ensures.given tells);
    }

pub returns-in_err-blocks-clause-at_most : goal.returns-in_err-blocks-clause-at_most
returns-in_err-blocks-clause-at_most g c = touches_reads [] 1 22 _ _ (reads_same 22 _ _ c.value_blocks.ensures.at_most)

pub returns-in_err-release-clause-at_most : goal.returns-in_err-release-clause-at_most
returns-in_err-release-clause-at_most g c =
    let few = c.as_slice-ids.ensures.few in
    touches_more [] 0 (length c.as_slice-ids.result.now) 1 22 _ _ (omega arith) (omega arith)
    (touches_freed _ _ _ c.as_slice-ids.result.now (reads_same 22 _ _ c.value_blocks.ensures.at_most) c.release.ensures.touches)

pub returns-in_err-give-clause-at_most : goal.returns-in_err-give-clause-at_most
returns-in_err-give-clause-at_most g c =
    let few = c.as_slice-ids.ensures.few in
    touches_more [] 1 (length c.as_slice-ids.result.now) 1 22 _ _ (omega arith) (omega arith)
    (touches_dropped _ _ _ _ c.args.row.now.id c.as_slice-ids.result.now (reads_same 22 _ _ c.value_blocks.ensures.at_most) c.release.ensures.touches
    (record { writes = c.give.ensures.writes; stays = c.give.ensures.stays }))

pub returns-clause-touches : goal.returns-clause-touches
returns-clause-touches g c =
    touches_dropped _ _ _ _ c.args.row.now.id c.as_slice-ids.result.now (reads_same 22 _ _ c.value_blocks.ensures.at_most) c.release.ensures.touches
    (record { writes = c.give.ensures.writes; stays = c.give.ensures.stays })

pub returns-clause-at_most : goal.returns-clause-at_most
returns-clause-at_most g c = let few = c.as_slice-ids.ensures.few in touches_more [] 1 (length c.as_slice-ids.result.now) 1 22 _ _ (omega arith) (omega arith)
    (returns-clause-touches g c)

-- ---- which record is blamed

pub returns-in_err-blocks-clause-damaged : goal.returns-in_err-blocks-clause-damaged
returns-in_err-blocks-clause-damaged g c tells read =
    same_has (IsTextFault (g.S.Reads.state c.args.space.now) c.args.row.now.id) c.from_residual.result c.in_err-blocks.field-0.0 c.from_residual.ensures.1
    (c.in_err-blocks.ensures.damaged tells read)

pub returns-in_err-release-clause-damaged : goal.returns-in_err-release-clause-damaged
returns-in_err-release-clause-damaged g c tells read =
    space_has (IsTextFault (g.S.Reads.state c.args.space.now) c.args.row.now.id) tt tt c.from_residual-in_err-release.result c.in_err-release.field-0.0
    c.from_residual-in_err-release.ensures.1

pub returns-in_err-give-clause-damaged : goal.returns-in_err-give-clause-damaged
returns-in_err-give-clause-damaged g c tells read =
    space_has (IsTextFault (g.S.Reads.state c.args.space.now) c.args.row.now.id) tt tt c.from_residual-in_err-give.result c.in_err-give.field-0.0
    c.from_residual-in_err-give.ensures.1

pub returns-in_err-blocks-clause-dropped : goal.returns-in_err-blocks-clause-dropped
returns-in_err-blocks-clause-dropped g c _ _ _ = never_ok c.from_residual.result _ _ c.from_residual.ensures.1

pub returns-in_err-blocks-clause-few : goal.returns-in_err-blocks-clause-few
returns-in_err-blocks-clause-few g c = never_ok c.from_residual.result _ _ c.from_residual.ensures.1

pub returns-in_err-blocks-clause-touches : goal.returns-in_err-blocks-clause-touches
returns-in_err-blocks-clause-touches g c = never_ok c.from_residual.result _ _ c.from_residual.ensures.1

pub returns-in_err-blocks-clause-onward : goal.returns-in_err-blocks-clause-onward
returns-in_err-blocks-clause-onward g c = search rules

pub returns-in_err-release-clause-dropped : goal.returns-in_err-release-clause-dropped
returns-in_err-release-clause-dropped g c _ _ _ = never_ok c.from_residual-in_err-release.result _ _ c.from_residual-in_err-release.ensures.1

pub returns-in_err-release-clause-few : goal.returns-in_err-release-clause-few
returns-in_err-release-clause-few g c = never_ok c.from_residual-in_err-release.result _ _ c.from_residual-in_err-release.ensures.1

pub returns-in_err-release-clause-touches : goal.returns-in_err-release-clause-touches
returns-in_err-release-clause-touches g c = never_ok c.from_residual-in_err-release.result _ _ c.from_residual-in_err-release.ensures.1

pub returns-in_err-give-clause-dropped : goal.returns-in_err-give-clause-dropped
returns-in_err-give-clause-dropped g c _ _ _ = never_ok c.from_residual-in_err-give.result _ _ c.from_residual-in_err-give.ensures.1

pub returns-in_err-give-clause-few : goal.returns-in_err-give-clause-few
returns-in_err-give-clause-few g c = never_ok c.from_residual-in_err-give.result _ _ c.from_residual-in_err-give.ensures.1

pub returns-in_err-give-clause-touches : goal.returns-in_err-give-clause-touches
returns-in_err-give-clause-touches g c = never_ok c.from_residual-in_err-give.result _ _ c.from_residual-in_err-give.ensures.1

pub returns-clause-cause : goal.returns-clause-cause
returns-clause-cause g c = ok_cause _ _ _ _ (omega arith)

-- ---- where damage is told nothing is written

pub returns-in_err-blocks-clause-unwritten : goal.returns-in_err-blocks-clause-unwritten
returns-in_err-blocks-clause-unwritten g c =
    let s = g.S.Reads.state c.args.space.now in
    let a = g.S.Reads.state c.value_blocks.new.space in
    same_has (λ fault. IfSome (damage_of fault) (λ _. SameButReads s a)) c.from_residual.result c.in_err-blocks.field-0.0 c.from_residual.ensures.1
    (when_damaged c.in_err-blocks.field-0.0 (reads_same 22 s a c.value_blocks.ensures.at_most))

pub returns-in_err-release-clause-unwritten : goal.returns-in_err-release-clause-unwritten
returns-in_err-release-clause-unwritten g c =
    space_has (λ fault. IfSome (damage_of fault) (λ _. SameButReads (g.S.Reads.state c.args.space.now) (g.S.Reads.state c.release.new.space))) tt tt
    c.from_residual-in_err-release.result c.in_err-release.field-0.0 c.from_residual-in_err-release.ensures.1

pub returns-in_err-give-clause-unwritten : goal.returns-in_err-give-clause-unwritten
returns-in_err-give-clause-unwritten g c =
    space_has (λ fault. IfSome (damage_of fault) (λ _. SameButReads (g.S.Reads.state c.args.space.now) (g.S.Reads.state c.give.new.space))) tt tt
    c.from_residual-in_err-give.result c.in_err-give.field-0.0 c.from_residual-in_err-give.ensures.1

pub returns-in_err-blocks-clause-cause : goal.returns-in_err-blocks-clause-cause
returns-in_err-blocks-clause-cause g c =
    cause_passed _ _ _ c.from_residual.result c.in_err-blocks.field-0.0 (omega arith) c.in_err-blocks.ensures.cause c.from_residual.ensures.1

pub returns-in_err-release-clause-cause : goal.returns-in_err-release-clause-cause
returns-in_err-release-clause-cause g c =
    space_cause_passed _ _ _ c.from_residual-in_err-release.result c.in_err-release.field-0.0 c.in_ok-blocks.ensures.cause.later
    c.in_err-release.ensures.cause c.from_residual-in_err-release.ensures.1

pub returns-in_err-give-clause-cause : goal.returns-in_err-give-clause-cause
returns-in_err-give-clause-cause g c =
    space_cause_passed _ _ _ c.from_residual-in_err-give.result c.in_err-give.field-0.0
    (later_on c.in_ok-blocks.ensures.cause.later c.in_ok-release.ensures.cause.later) c.in_err-give.ensures.cause c.from_residual-in_err-give.ensures.1

pub returns-in_err-release-clause-onward : goal.returns-in_err-release-clause-onward
returns-in_err-release-clause-onward g c = g.met.S.Reads.further_onward _ _ _ c.in_ok-blocks.ensures.onward c.in_err-release.ensures.onward

pub returns-in_err-give-clause-onward : goal.returns-in_err-give-clause-onward
returns-in_err-give-clause-onward g c =
    g.met.S.Reads.further_onward _ _ _ (g.met.S.Reads.further_onward _ _ _ c.in_ok-blocks.ensures.onward c.in_ok-release.ensures.onward)
    c.in_err-give.ensures.onward

pub returns-clause-onward : goal.returns-clause-onward
returns-clause-onward g c =
    g.met.S.Reads.further_onward _ _ _ (g.met.S.Reads.further_onward _ _ _ c.in_ok-blocks.ensures.onward c.in_ok-release.ensures.onward)
    c.in_ok-give.ensures.onward

pub returns-clause-few : goal.returns-clause-few
returns-clause-few g c = c.as_slice-ids.ensures.few

-- ---- it is in use no more

pub returns-clause-gone : goal.returns-clause-gone
returns-clause-gone g c tells =
    unused_given (g.S.Reads.state c.release.new.space) (g.S.Reads.state c.give.new.space) c.args.row.now.id (c.in_ok-give.ensures.ok tells)

pub returns-in_err-blocks-clause-gone : goal.returns-in_err-blocks-clause-gone
returns-in_err-blocks-clause-gone g c _ = never_ok c.from_residual.result _ _ c.from_residual.ensures.1

pub returns-in_err-release-clause-gone : goal.returns-in_err-release-clause-gone
returns-in_err-release-clause-gone g c _ = never_ok c.from_residual-in_err-release.result _ _ c.from_residual-in_err-release.ensures.1

pub returns-in_err-give-clause-gone : goal.returns-in_err-give-clause-gone
returns-in_err-give-clause-gone g c _ = never_ok c.from_residual-in_err-give.result _ _ c.from_residual-in_err-give.ensures.1
