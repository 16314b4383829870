use Rattle.std.proofs.Common.{◌≡◌, ◌<◌, ◌^◌, ◌∙◌, [], ap, arith, sym, subst, rules}
use Rattle.std.proofs.lemmas.Result.{err_from_is_err_and}
use Rattle.plain_graph.specs.Properties.{blocks_of}
use Rattle.rec_bytes.specs.Format.{properties_file}
use Rattle.rec_bytes.specs.RecordFiles.{room_of}
use Rattle.rec_bytes.specs.Space.{meta_of}
use Rattle.prop_store.specs.SetFault.{IsSetCause, IsTextCause}
use Rattle.prop_store.specs.Setting.{BlamesLists, SetBlamesBroken}
use Rattle.prop_store.proofs.Midway.{full_before, set_caused_space, set_caused_take, set_caused_text, set_has}
use Rattle.prop_store.proofs.Midway.{set_still_space, set_still_take, take_still, lists_of_space, lists_of_text}
use Rattle.prop_store.proofs.Midway.{property_take}
use Rattle.prop_store.proofs.PutSteps.{blocks_needed, property_put, take_put_fault}
use Rattle.prop_store.proofs.PutLists.{put_harms_no_lists}
use Rattle.prop_store.proofs.PutTouches.{touches_new, touches_text, touches_text_taken}
use Rattle.prop_store.proofs.Touches.{touches_more, touches_same}
use Rattle.prop_store.proofs.Causes.{later_on}
use Rattle.prop_store.proofs.SetCauses.{space_set_cause, take_set_cause}
use Rattle.rec_bytes.proofs.Causes.{never_ok, ok_cause}
use Rattle.rec_bytes.specs.declared.record.Rec.{Rec}
use Rattle.rec_bytes.specs.Space.{State}
use Rattle.rec_bytes.proofs.Spaces.{put_same}
use Rattle.store_rules.specs.Views.{key_in}
use Rattle.prop_store.specs.Finding.{IsRecordOf}
use Rattle.prop_store.proofs.PropertyRecords.{content_of-property_record, key-property_record}
use Rattle.prop_store.proofs.setting.put_new.Goals as goal

pub returns-in_err-id-clause-refused : goal.returns-in_err-id-clause-refused
returns-in_err-id-clause-refused g c tells strings properties room =
    let p = err_from_is_err_and c.from_residual-in_err-id.result c.from_residual-in_err-id.ensures.1 in
    let s = g.S.Reads.state c.args.space.now in
    let a = g.S.Reads.state c.write_text.new.space in
    rw (p.1, p.2) (take_put_fault s a c.long_bytes.result.now c.in_ok-first.first (blocks_of c.args.value.now) c.in_err-id.field-0.0
    (c.in_ok-first.ensures.written tells strings) (c.in_ok-first.ensures.other_files tells) (g.met.S.Reads.onward_shape _ _ c.in_ok-first.ensures.onward)
    (c.in_err-id.ensures.refused tells) (c.in_err-id.ensures.not_damaged tells) properties room)

pub returns-clause-put : goal.returns-clause-put
returns-clause-put g c tells strings properties may =
    property_put (g.S.Reads.state c.args.space.now) (g.S.Reads.state c.write_text.new.space) (g.S.Reads.state c.take.new.space) (g.S.Reads.state c.put.new.self)
    c.long_bytes.result.now c.in_ok-first.first c.in_ok-id.id c.args.key c.args.next c.args.value.now
    c.property_record.result c.requires c.ranges.key.fits c.ranges.next.fits c.long_bytes.ensures.is c.property_record.ensures
    (c.in_ok-first.ensures.written tells strings) (c.in_ok-first.ensures.other_files tells) (g.met.S.Reads.onward_shape _ _ c.in_ok-first.ensures.onward)
    (c.in_ok-id.ensures.taken tells) c.in_ok-id.ensures.small c.in_ok-id.ensures.key (c.in_ok-id.ensures.ok tells) c.in_ok-put.ensures.ok properties may

pub returns-in_err-first-clause-touches : goal.returns-in_err-first-clause-touches
returns-in_err-first-clause-touches g c =
    touches_more [] 0 (blocks_of c.args.value.now) 1 (blocks_of c.args.value.now) _ _ (omega arith) (omega arith)
    (touches_text _ _ c.args.value.now c.long_bytes.result.now c.long_bytes.ensures.is c.write_text.ensures.touches)

pub returns-in_err-id-clause-touches : goal.returns-in_err-id-clause-touches
returns-in_err-id-clause-touches g c =
    touches_more [] 0 (blocks_of c.args.value.now) 1 (blocks_of c.args.value.now) _ _ (omega arith) (omega arith)
    (touches_text_taken _ (g.S.Reads.state c.write_text.new.space) _ c.args.value.now c.long_bytes.result.now c.long_bytes.ensures.is
    c.write_text.ensures.touches (record { writes = c.take.ensures.writes; stays = c.take.ensures.stays }))

pub returns-in_err-put-clause-touches : goal.returns-in_err-put-clause-touches
returns-in_err-put-clause-touches g c =
    touches_same [] 0 (blocks_of c.args.value.now) 1 (blocks_of c.args.value.now) _ _ _ (omega arith) (omega arith) c.in_err-put.ensures.err
    (touches_text_taken _ (g.S.Reads.state c.write_text.new.space) _ c.args.value.now c.long_bytes.result.now c.long_bytes.ensures.is
    c.write_text.ensures.touches (record { writes = c.take.ensures.writes; stays = c.take.ensures.stays }))

pub returns-clause-touches : goal.returns-clause-touches
returns-clause-touches g c =
    touches_new 0 (blocks_of c.args.value.now) _ _ _ c.in_ok-id.id c.property_record.result
    (touches_text_taken _ (g.S.Reads.state c.write_text.new.space) _ c.args.value.now c.long_bytes.result.now c.long_bytes.ensures.is
    c.write_text.ensures.touches (record { writes = c.take.ensures.writes; stays = c.take.ensures.stays }))
    c.in_ok-put.ensures.ok

-- ---- which record is blamed

pub returns-in_err-first-clause-damaged : goal.returns-in_err-first-clause-damaged
returns-in_err-first-clause-damaged g c tells =
    let s = g.S.Reads.state c.args.space.now in
    set_has (BlamesLists s) c.from_residual.result _ c.from_residual.ensures.1 (lists_of_text s c.in_err-first.field-0.0 (c.in_err-first.ensures.damaged tells))

pub returns-in_err-id-clause-damaged : goal.returns-in_err-id-clause-damaged
returns-in_err-id-clause-damaged g c tells =
    let s = g.S.Reads.state c.args.space.now in
    let a = g.S.Reads.state c.write_text.new.space in
    set_has (BlamesLists s) c.from_residual-in_err-id.result _ c.from_residual-in_err-id.ensures.1
    (property_take s a (c.in_ok-first.ensures.other_files tells) (g.met.S.Reads.onward_shape _ _ c.in_ok-first.ensures.onward) c.in_err-id.field-0.0
    (c.in_err-id.ensures.refused tells))

pub returns-in_err-put-clause-damaged : goal.returns-in_err-put-clause-damaged
returns-in_err-put-clause-damaged g c tells =
    let s = g.S.Reads.state c.args.space.now in
    set_has (BlamesLists s) c.from_residual-in_err-put.result _ c.from_residual-in_err-put.ensures.1 (lists_of_space s c.in_err-put.field-0.0)

-- ---- what is left of the free lists

pub returns-clause-harmless : goal.returns-clause-harmless
returns-clause-harmless g c tells =
    let s = g.S.Reads.state c.args.space.now in
    let a = g.S.Reads.state c.write_text.new.space in
    put_harms_no_lists s a (g.S.Reads.state c.take.new.space) (g.S.Reads.state c.put.new.self) c.in_ok-id.id c.args.key c.in_ok-first.first c.args.next
    c.args.value.now c.property_record.result c.requires c.property_record.ensures
    (c.in_ok-first.ensures.harmless tells) (c.in_ok-first.ensures.other_files tells) (g.met.S.Reads.onward_shape _ _ c.in_ok-first.ensures.onward)
    (c.in_ok-id.ensures.ok tells) c.in_ok-id.ensures.is (c.in_ok-id.ensures.undamaged tells)
    (c.in_ok-id.ensures.fresh tells) c.in_ok-id.ensures.key.id c.in_ok-id.ensures.small c.in_ok-put.ensures.ok

pub returns-in_err-first-clause-harmless : goal.returns-in_err-first-clause-harmless
returns-in_err-first-clause-harmless g c _ = never_ok c.from_residual.result _ _ c.from_residual.ensures.1

pub returns-in_err-id-clause-harmless : goal.returns-in_err-id-clause-harmless
returns-in_err-id-clause-harmless g c _ = never_ok c.from_residual-in_err-id.result _ _ c.from_residual-in_err-id.ensures.1

pub returns-in_err-put-clause-harmless : goal.returns-in_err-put-clause-harmless
returns-in_err-put-clause-harmless g c _ = never_ok c.from_residual-in_err-put.result _ _ c.from_residual-in_err-put.ensures.1

-- ---- what a refusal carries

pub returns-in_err-first-clause-caused : goal.returns-in_err-first-clause-caused
returns-in_err-first-clause-caused g c tells =
    let s = g.S.Reads.state c.args.space.now in
    let t = g.S.Reads.state c.write_text.new.space in
    let n = blocks_of c.args.value.now in
    let fault = c.in_err-first.field-0.0 in
    let full = (meta_of s properties_file).live ≡ room_of s.shape properties_file in
    set_has (IsSetCause ⊥ full n t) c.from_residual.result _ c.from_residual.ensures.1
    (set_caused_text ⊥ full t n fault (subst (λ m. IsTextCause t m fault) (blocks_needed c.args.value.now c.long_bytes.result.now c.long_bytes.ensures.is)
    (c.in_err-first.ensures.caused tells)))

pub returns-in_err-id-clause-caused : goal.returns-in_err-id-clause-caused
returns-in_err-id-clause-caused g c tells =
    let s = g.S.Reads.state c.args.space.now in
    let a = g.S.Reads.state c.write_text.new.space in
    let t = g.S.Reads.state c.take.new.space in
    let n = blocks_of c.args.value.now in
    let full = (meta_of s properties_file).live ≡ room_of s.shape properties_file in
    set_has (IsSetCause ⊥ full n t) c.from_residual-in_err-id.result _ c.from_residual-in_err-id.ensures.1
    (set_caused_take ⊥ full a t n c.in_err-id.field-0.0 (full_before s a (c.in_ok-first.ensures.other_files tells)
    (g.met.S.Reads.onward_shape _ _ c.in_ok-first.ensures.onward)) (c.in_err-id.ensures.refused tells) c.in_err-id.ensures.err)

pub returns-in_err-put-clause-caused : goal.returns-in_err-put-clause-caused
returns-in_err-put-clause-caused g c tells =
    let s = g.S.Reads.state c.args.space.now in
    let t = g.S.Reads.state c.put.new.self in
    let n = blocks_of c.args.value.now in
    let full = (meta_of s properties_file).live ≡ room_of s.shape properties_file in
    set_has (IsSetCause ⊥ full n t) c.from_residual-in_err-put.result _ c.from_residual-in_err-put.ensures.1
    (set_caused_space ⊥ full t n c.in_err-put.field-0.0)

-- ---- what is blamed is broken still

pub returns-in_err-first-clause-damaged_after : goal.returns-in_err-first-clause-damaged_after
returns-in_err-first-clause-damaged_after g c tells =
    let t = g.S.Reads.state c.write_text.new.space in
    set_has (SetBlamesBroken t) c.from_residual.result _ c.from_residual.ensures.1
    (set_still_take t c.in_err-first.field-0.0 (c.in_err-first.ensures.damaged_after tells))

pub returns-in_err-id-clause-damaged_after : goal.returns-in_err-id-clause-damaged_after
returns-in_err-id-clause-damaged_after g c tells =
    let a = g.S.Reads.state c.write_text.new.space in
    let t = g.S.Reads.state c.take.new.space in
    let fault = c.in_err-id.field-0.0 in
    set_has (SetBlamesBroken t) c.from_residual-in_err-id.result _ c.from_residual-in_err-id.ensures.1
    (set_still_take t fault (take_still a t fault (c.in_err-id.ensures.damaged tells) c.in_err-id.ensures.err))

pub returns-in_err-put-clause-damaged_after : goal.returns-in_err-put-clause-damaged_after
returns-in_err-put-clause-damaged_after g c tells =
    let t = g.S.Reads.state c.put.new.self in
    set_has (SetBlamesBroken t) c.from_residual-in_err-put.result _ c.from_residual-in_err-put.ensures.1 (set_still_space t c.in_err-put.field-0.0)

pub returns-in_err-put-clause-cause : goal.returns-in_err-put-clause-cause
returns-in_err-put-clause-cause g c =
    space_set_cause _ _ _ c.from_residual-in_err-put.result c.in_err-put.field-0.0 (later_on c.in_ok-first.ensures.cause.later c.in_ok-id.ensures.cause.later)
    c.in_err-put.ensures.cause c.from_residual-in_err-put.ensures.1

pub returns-in_err-first-clause-put : goal.returns-in_err-first-clause-put
returns-in_err-first-clause-put g c _ = never_ok c.from_residual.result _ _ c.from_residual.ensures.1

pub returns-in_err-first-clause-onward : goal.returns-in_err-first-clause-onward
returns-in_err-first-clause-onward g c = search rules

pub returns-in_err-id-clause-put : goal.returns-in_err-id-clause-put
returns-in_err-id-clause-put g c _ = never_ok c.from_residual-in_err-id.result _ _ c.from_residual-in_err-id.ensures.1

pub returns-in_err-put-clause-put : goal.returns-in_err-put-clause-put
returns-in_err-put-clause-put g c _ = never_ok c.from_residual-in_err-put.result _ _ c.from_residual-in_err-put.ensures.1

pub returns-clause-cause : goal.returns-clause-cause
returns-clause-cause g c = ok_cause _ _ _ _ (omega arith)

pub returns-in_err-first-clause-cause : goal.returns-in_err-first-clause-cause
returns-in_err-first-clause-cause g c =
    take_set_cause _ _ _ c.from_residual.result c.in_err-first.field-0.0 (omega arith) c.in_err-first.ensures.cause c.from_residual.ensures.1

pub returns-in_err-id-clause-cause : goal.returns-in_err-id-clause-cause
returns-in_err-id-clause-cause g c =
    take_set_cause _ _ _ c.from_residual-in_err-id.result c.in_err-id.field-0.0 c.in_ok-first.ensures.cause.later c.in_err-id.ensures.cause
    c.from_residual-in_err-id.ensures.1

pub returns-in_err-id-clause-onward : goal.returns-in_err-id-clause-onward
returns-in_err-id-clause-onward g c = g.met.S.Reads.further_onward _ _ _ c.in_ok-first.ensures.onward c.in_err-id.ensures.onward

pub returns-in_err-put-clause-onward : goal.returns-in_err-put-clause-onward
returns-in_err-put-clause-onward g c =
    g.met.S.Reads.further_onward _ _ _ (g.met.S.Reads.further_onward _ _ _ c.in_ok-first.ensures.onward c.in_ok-id.ensures.onward) c.in_err-put.ensures.onward

pub returns-clause-onward : goal.returns-clause-onward
returns-clause-onward g c =
    g.met.S.Reads.further_onward _ _ _ (g.met.S.Reads.further_onward _ _ _ c.in_ok-first.ensures.onward c.in_ok-id.ensures.onward) c.in_ok-put.ensures.onward

-- ---- the record that is put

pub returns-clause-some : goal.returns-clause-some
returns-clause-some g c e = let k = c.in_ok-id.ensures.key.id in omega (arith, k, e)

pub returns-clause-here : goal.returns-clause-here
returns-clause-here g c tells =
    let u = g.S.Reads.state c.take.new.space in
    let key = key_in properties_file c.in_ok-id.id in
    let first = c.in_ok-first.first in
    let first_fits : first < 2 ^ 32 = search rules in
    let is = ap (λ (z : State). z.records key) c.in_ok-put.ensures.ok ∙ put_same u.records key c.property_record.result ∙ c.property_record.ensures in
    subst (λ (r : Rec). IsRecordOf r c.args.key c.args.value.now) (sym is) (record {
      key_is = key-property_record c.args.key first c.args.next c.args.value.now c.ranges.key.fits;
      first = first;
      content = content_of-property_record c.args.key first c.args.next c.args.value.now c.requires first_fits;
    })

pub returns-in_err-first-clause-some : goal.returns-in_err-first-clause-some
returns-in_err-first-clause-some g c = never_ok c.from_residual.result _ _ c.from_residual.ensures.1

pub returns-in_err-first-clause-here : goal.returns-in_err-first-clause-here
returns-in_err-first-clause-here g c _ = never_ok c.from_residual.result _ _ c.from_residual.ensures.1

pub returns-in_err-id-clause-some : goal.returns-in_err-id-clause-some
returns-in_err-id-clause-some g c = never_ok c.from_residual-in_err-id.result _ _ c.from_residual-in_err-id.ensures.1

pub returns-in_err-id-clause-here : goal.returns-in_err-id-clause-here
returns-in_err-id-clause-here g c _ = never_ok c.from_residual-in_err-id.result _ _ c.from_residual-in_err-id.ensures.1

pub returns-in_err-put-clause-some : goal.returns-in_err-put-clause-some
returns-in_err-put-clause-some g c = never_ok c.from_residual-in_err-put.result _ _ c.from_residual-in_err-put.ensures.1

pub returns-in_err-put-clause-here : goal.returns-in_err-put-clause-here
returns-in_err-put-clause-here g c _ = never_ok c.from_residual-in_err-put.result _ _ c.from_residual-in_err-put.ensures.1
