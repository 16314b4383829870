use Rattle.std.proofs.Common.{◌<◌, ◌≡◌, ◌^◌, ◌∙◌, ◌+◌, ℕ, List, [], length, ap, arith, refl, subst, sym, rules}
use Rattle.std.proofs.lemmas.Result.{err_from_is_err_and}
use Rattle.plain_graph.specs.Properties.{blocks_of}
use Rattle.rec_bytes.specs.Format.{property_key, property_next}
use Rattle.rec_bytes.specs.Record.{field}
use Rattle.prop_store.proofs.DropSteps.{blocks_given_out}
use Rattle.rec_bytes.specs.Format.{strings_file}
use Rattle.rec_bytes.specs.Meta.{IsLinkBelow}
use Rattle.rec_bytes.specs.Space.{meta_in}
use Rattle.store_rules.specs.Views.{Records}
use Rattle.id_freelist.proofs.ListSteps.{blames_before}
use Rattle.prop_store.specs.Blocks.{AreUsedOnce}
use Rattle.prop_store.specs.Fault.{BlamesBroken}
use Rattle.prop_store.specs.SetFault.{IsSetCause, IsTextCause, of_take}
use Rattle.prop_store.specs.Setting.{SetBlamesBroken}
use Rattle.prop_store.proofs.Breaches.{strings_free, text_blames}
use Rattle.prop_store.proofs.Midway.{lists_broken, lists_of_text, set_cause, set_caused_fault, set_caused_space}
use Rattle.prop_store.proofs.Midway.{set_caused_text, set_has, set_read, set_still_fault, set_still_space}
use Rattle.prop_store.proofs.Midway.{set_still_take}
use Rattle.prop_store.proofs.PutSteps.{blocks_needed, again_put, again_text_fault, read_put_fault, space_put_fault}
use Rattle.prop_store.proofs.PutTouches.{touches_new, touches_texts}
use Rattle.prop_store.proofs.ReadCounts.{reads_records, reads_same}
use Rattle.prop_store.proofs.Touches.{touches_freed, touches_more, touches_reads, touches_same}
use Rattle.prop_store.proofs.Causes.{later_on}
use Rattle.prop_store.proofs.SetCauses.{fault_set_cause, space_set_cause, take_set_cause}
use Rattle.rec_bytes.proofs.Causes.{never_ok, ok_cause}
use Rattle.rec_bytes.specs.declared.record.Rec.{Rec}
use Rattle.rec_bytes.specs.Format.{properties_file}
use Rattle.rec_bytes.specs.Space.{State}
use Rattle.rec_bytes.proofs.Spaces.{put_other, put_same}
use Rattle.store_rules.specs.Views.{key_in}
use Rattle.prop_store.specs.Finding.{IsRecordOf}
use Rattle.prop_store.proofs.PropertyRecords.{content_of-property_record, key-property_record, next-property_record}
use Rattle.prop_store.proofs.setting.put_again.Goals as goal

pub returns-in_err-blocks-clause-refused : goal.returns-in_err-blocks-clause-refused
returns-in_err-blocks-clause-refused g c tells e held =
    let p = err_from_is_err_and c.from_residual.result c.from_residual.ensures.1 in
    let s = g.S.Reads.state c.args.space.now in
    rw (p.1, p.2) (read_put_fault s (length e.blocks) (blocks_of c.args.value.now) c.in_err-blocks.field-0.0 (c.in_err-blocks.ensures.not_damaged tells e.value
    e.blocks held.value (blocks_given_out s.records s.shape _ e.blocks held.strings held.value.are)))

pub returns-in_err-release-clause-refused : goal.returns-in_err-release-clause-refused
returns-in_err-release-clause-refused g c tells e held =
    let p = err_from_is_err_and c.from_residual-in_err-release.result c.from_residual-in_err-release.ensures.1 in
    rw (p.1, p.2) (space_put_fault (g.S.Reads.state c.args.space.now) (length e.blocks) (blocks_of c.args.value.now) c.in_err-release.field-0.0)

pub returns-in_err-first-clause-refused : goal.returns-in_err-first-clause-refused
returns-in_err-first-clause-refused g c tells e held =
    let p = err_from_is_err_and c.from_residual-in_err-first.result c.from_residual-in_err-first.ensures.1 in
    let s = g.S.Reads.state c.args.space.now in
    let a = g.S.Reads.state c.value_blocks.new.space in
    let b = g.S.Reads.state c.release.new.space in
    rw (p.1, p.2) (again_text_fault s a b c.args.row.now e c.as_slice-ids.result.now held (reads_same 22 s a c.value_blocks.ensures.at_most)
    (c.as_slice-ids.ensures.is ∙ c.in_ok-blocks.ensures.followed tells e.value e.blocks held.value)
    (c.in_ok-release.ensures.released tells) (c.in_ok-release.ensures.other_files tells)
    (g.met.S.Reads.onward_shape _ _ c.release.ensures.onward) c.args.value.now
    c.long_bytes.result.now c.long_bytes.ensures.is c.in_err-first.field-0.0 (c.in_err-first.ensures.refused tells))

pub returns-clause-put : goal.returns-clause-put
returns-clause-put g c tells e held may =
    let s = g.S.Reads.state c.args.space.now in
    let a = g.S.Reads.state c.value_blocks.new.space in
    let b = g.S.Reads.state c.release.new.space in
    let d = g.S.Reads.state c.write_text.new.space in
    let t = g.S.Reads.state c.put.new.self in
    let ids_are = c.as_slice-ids.ensures.is ∙ c.in_ok-blocks.ensures.followed tells e.value e.blocks held.value in (
      ap (λ (xs : List ℕ). length xs) ids_are,
      again_put s a b c.args.row.now e c.as_slice-ids.result.now held (reads_same 22 s a c.value_blocks.ensures.at_most) ids_are
          (c.in_ok-release.ensures.released tells) (c.in_ok-release.ensures.other_files tells) (g.met.S.Reads.onward_shape _ _ c.release.ensures.onward)
          d t c.long_bytes.result.now c.in_ok-first.first c.number-key.result c.number-next.result (field 4 c.args.row.now.rec property_key)
          (field 4 c.args.row.now.rec property_next) c.args.value.now c.property_record.result
          c.number-key.ensures c.number-next.ensures c.requires.kept (omega (arith, c.number-key.type_inv)) (omega (arith, c.number-next.type_inv))
          c.long_bytes.ensures.is c.property_record.ensures c.requires.row.small (c.in_ok-first.ensures.written tells) (c.in_ok-first.ensures.other_files tells)
          c.in_ok-put.ensures.ok may,
    )

pub returns-in_err-blocks-clause-at_most : goal.returns-in_err-blocks-clause-at_most
returns-in_err-blocks-clause-at_most g c = touches_reads [] 1 _ _ _ (reads_same 22 _ _ c.value_blocks.ensures.at_most)

pub returns-in_err-release-clause-at_most : goal.returns-in_err-release-clause-at_most
returns-in_err-release-clause-at_most g c =
    let few = c.as_slice-ids.ensures.few in
    touches_more [] 0 (length c.as_slice-ids.result.now) 1 (22 + blocks_of c.args.value.now) _ _ (omega arith) (omega arith)
    (touches_freed _ _ _ c.as_slice-ids.result.now (reads_same 22 _ _ c.value_blocks.ensures.at_most) c.release.ensures.touches)

pub returns-in_err-first-clause-at_most : goal.returns-in_err-first-clause-at_most
returns-in_err-first-clause-at_most g c =
    let few = c.as_slice-ids.ensures.few in
    touches_more [] 0 (blocks_of c.args.value.now + length c.as_slice-ids.result.now) 1 (22 + blocks_of c.args.value.now) _ _ (omega arith) (omega arith)
    (touches_texts _ _ _ _ c.args.value.now c.as_slice-ids.result.now c.long_bytes.result.now c.long_bytes.ensures.is
    (reads_same 22 _ _ c.value_blocks.ensures.at_most) c.release.ensures.touches c.write_text.ensures.touches)

pub returns-in_err-put-clause-at_most : goal.returns-in_err-put-clause-at_most
returns-in_err-put-clause-at_most g c =
    let few = c.as_slice-ids.ensures.few in
    touches_same [] 0 (blocks_of c.args.value.now + length c.as_slice-ids.result.now) 1 (22 + blocks_of c.args.value.now) _ _ _ (omega arith) (omega arith)
    c.in_err-put.ensures.err
    (touches_texts _ _ _ _ c.args.value.now c.as_slice-ids.result.now c.long_bytes.result.now c.long_bytes.ensures.is
    (reads_same 22 _ _ c.value_blocks.ensures.at_most) c.release.ensures.touches c.write_text.ensures.touches)

pub returns-clause-touches : goal.returns-clause-touches
returns-clause-touches g c =
    touches_new 0 (blocks_of c.args.value.now + length c.as_slice-ids.result.now) _ _ _ c.args.row.now.id c.property_record.result
    (touches_texts _ _ _ _ c.args.value.now c.as_slice-ids.result.now c.long_bytes.result.now c.long_bytes.ensures.is
    (reads_same 22 _ _ c.value_blocks.ensures.at_most) c.release.ensures.touches c.write_text.ensures.touches) c.in_ok-put.ensures.ok

pub returns-clause-at_most : goal.returns-clause-at_most
returns-clause-at_most g c = let few = c.as_slice-ids.ensures.few in touches_more [] 1 _ 1 (22 + blocks_of c.args.value.now) _ _ (omega arith) (omega arith)
    (returns-clause-touches g c)

-- ---- which record is blamed

pub returns-in_err-blocks-clause-damaged : goal.returns-in_err-blocks-clause-damaged
returns-in_err-blocks-clause-damaged g c tells read =
    let s = g.S.Reads.state c.args.space.now in
    set_has (SetBlamesBroken s) c.from_residual.result _ c.from_residual.ensures.1
    (set_still_fault s s c.in_err-blocks.field-0.0 (text_blames s c.args.row.now.id c.in_err-blocks.field-0.0 (c.in_err-blocks.ensures.damaged tells read))
    refl)

pub returns-in_err-release-clause-damaged : goal.returns-in_err-release-clause-damaged
returns-in_err-release-clause-damaged g c tells read =
    let s = g.S.Reads.state c.args.space.now in
    set_has (SetBlamesBroken s) c.from_residual-in_err-release.result _ c.from_residual-in_err-release.ensures.1 (set_still_space s c.in_err-release.field-0.0)

pub returns-in_err-first-clause-damaged : goal.returns-in_err-first-clause-damaged
returns-in_err-first-clause-damaged g c tells read =
    let s = g.S.Reads.state c.args.space.now in
    let a = g.S.Reads.state c.value_blocks.new.space in
    let b = g.S.Reads.state c.release.new.space in
    let fault = c.in_err-first.field-0.0 in
    let ids = c.as_slice-ids.result.now in
    let used : AreUsedOnce a.records ids = subst (λ (r : Records). AreUsedOnce r ids) (sym (reads_records 22 s a c.value_blocks.ensures.at_most))
    (subst (AreUsedOnce s.records) (sym c.as_slice-ids.ensures.is) (c.in_ok-blocks.ensures.once tells)) in
    let harmless = c.in_ok-release.ensures.harmless tells used c.in_ok-test_free.ensures.passed in
    set_has (SetBlamesBroken s) c.from_residual-in_err-first.result _ c.from_residual-in_err-first.ensures.1
    (set_read s a (of_take fault) (reads_same 22 s a c.value_blocks.ensures.at_most)
    (lists_broken a (of_take fault) (lists_of_text a fault (blames_before a b strings_file fault harmless (c.in_err-first.ensures.damaged tells)))))

pub returns-in_err-put-clause-damaged : goal.returns-in_err-put-clause-damaged
returns-in_err-put-clause-damaged g c tells read =
    let s = g.S.Reads.state c.args.space.now in
    set_has (SetBlamesBroken s) c.from_residual-in_err-put.result _ c.from_residual-in_err-put.ensures.1 (set_still_space s c.in_err-put.field-0.0)

-- ---- what a refusal carries

pub returns-in_err-blocks-clause-caused : goal.returns-in_err-blocks-clause-caused
returns-in_err-blocks-clause-caused g c tells =
    let t = g.S.Reads.state c.value_blocks.new.space in
    let n = blocks_of c.args.value.now in
    set_has (IsSetCause ⊥ ⊥ n t) c.from_residual.result _ c.from_residual.ensures.1 (set_caused_fault ⊥ ⊥ t n c.in_err-blocks.field-0.0)

pub returns-in_err-release-clause-caused : goal.returns-in_err-release-clause-caused
returns-in_err-release-clause-caused g c tells =
    let t = g.S.Reads.state c.release.new.space in
    let n = blocks_of c.args.value.now in
    set_has (IsSetCause ⊥ ⊥ n t) c.from_residual-in_err-release.result _ c.from_residual-in_err-release.ensures.1
    (set_caused_space ⊥ ⊥ t n c.in_err-release.field-0.0)

pub returns-in_err-first-clause-caused : goal.returns-in_err-first-clause-caused
returns-in_err-first-clause-caused g c tells =
    let t = g.S.Reads.state c.write_text.new.space in
    let n = blocks_of c.args.value.now in
    let fault = c.in_err-first.field-0.0 in
    set_has (IsSetCause ⊥ ⊥ n t) c.from_residual-in_err-first.result _ c.from_residual-in_err-first.ensures.1
    (set_caused_text ⊥ ⊥ t n fault (subst (λ m. IsTextCause t m fault) (blocks_needed c.args.value.now c.long_bytes.result.now c.long_bytes.ensures.is)
    (c.in_err-first.ensures.caused tells)))

pub returns-in_err-put-clause-caused : goal.returns-in_err-put-clause-caused
returns-in_err-put-clause-caused g c tells =
    let t = g.S.Reads.state c.put.new.self in
    let n = blocks_of c.args.value.now in
    set_has (IsSetCause ⊥ ⊥ n t) c.from_residual-in_err-put.result _ c.from_residual-in_err-put.ensures.1 (set_caused_space ⊥ ⊥ t n c.in_err-put.field-0.0)

-- ---- what is blamed is broken still

pub returns-in_err-blocks-clause-damaged_after : goal.returns-in_err-blocks-clause-damaged_after
returns-in_err-blocks-clause-damaged_after g c tells read =
    let s = g.S.Reads.state c.args.space.now in
    let t = g.S.Reads.state c.value_blocks.new.space in
    let fault = c.in_err-blocks.field-0.0 in
    set_has (SetBlamesBroken t) c.from_residual.result _ c.from_residual.ensures.1
    (set_still_fault s t fault (text_blames s c.args.row.now.id fault (c.in_err-blocks.ensures.damaged tells read))
    (reads_same 22 s t c.value_blocks.ensures.at_most))

pub returns-in_err-test_free-clause-damaged_after : goal.returns-in_err-test_free-clause-damaged_after
returns-in_err-test_free-clause-damaged_after g c tells read =
    let t = g.S.Reads.state c.value_blocks.new.space in
    let fault = c.in_err-test_free.field-0.0 in
    set_has (SetBlamesBroken t) c.from_residual-in_err-test_free.result _ c.from_residual-in_err-test_free.ensures.1
    (set_still_fault t t fault (subst (BlamesBroken t.records t.shape) (sym c.in_err-test_free.ensures.named)
    (strings_free t c.in_err-test_free.ensures.broken)) refl)

pub returns-in_err-release-clause-damaged_after : goal.returns-in_err-release-clause-damaged_after
returns-in_err-release-clause-damaged_after g c tells read =
    let t = g.S.Reads.state c.release.new.space in
    set_has (SetBlamesBroken t) c.from_residual-in_err-release.result _ c.from_residual-in_err-release.ensures.1 (set_still_space t c.in_err-release.field-0.0)

pub returns-in_err-first-clause-damaged_after : goal.returns-in_err-first-clause-damaged_after
returns-in_err-first-clause-damaged_after g c tells read =
    let t = g.S.Reads.state c.write_text.new.space in
    set_has (SetBlamesBroken t) c.from_residual-in_err-first.result _ c.from_residual-in_err-first.ensures.1
    (set_still_take t c.in_err-first.field-0.0 (c.in_err-first.ensures.damaged_after tells))

pub returns-in_err-put-clause-damaged_after : goal.returns-in_err-put-clause-damaged_after
returns-in_err-put-clause-damaged_after g c tells read =
    let t = g.S.Reads.state c.put.new.self in
    set_has (SetBlamesBroken t) c.from_residual-in_err-put.result _ c.from_residual-in_err-put.ensures.1 (set_still_space t c.in_err-put.field-0.0)

-- ---- the first free block can't stand there

pub returns-in_err-test_free-clause-at_most : goal.returns-in_err-test_free-clause-at_most
returns-in_err-test_free-clause-at_most g c = touches_reads [] 1 _ _ _ (reads_same 22 _ _ c.value_blocks.ensures.at_most)

pub returns-in_err-test_free-clause-caused : goal.returns-in_err-test_free-clause-caused
returns-in_err-test_free-clause-caused g c tells =
    let t = g.S.Reads.state c.value_blocks.new.space in
    let n = blocks_of c.args.value.now in
    set_has (IsSetCause ⊥ ⊥ n t) c.from_residual-in_err-test_free.result _ c.from_residual-in_err-test_free.ensures.1
    (set_caused_fault ⊥ ⊥ t n c.in_err-test_free.field-0.0)

pub returns-in_err-test_free-clause-damaged : goal.returns-in_err-test_free-clause-damaged
returns-in_err-test_free-clause-damaged g c tells read =
    let s = g.S.Reads.state c.args.space.now in
    let a = g.S.Reads.state c.value_blocks.new.space in
    let bad = subst (λ (r : Records). ¬ IsLinkBelow (meta_in r strings_file).free (meta_in r strings_file).high)
    (reads_records 22 s a c.value_blocks.ensures.at_most) c.in_err-test_free.ensures.broken in
    set_has (SetBlamesBroken s) c.from_residual-in_err-test_free.result _ c.from_residual-in_err-test_free.ensures.1
    (set_still_fault s s c.in_err-test_free.field-0.0 (subst (BlamesBroken s.records s.shape) (sym c.in_err-test_free.ensures.named) (strings_free s bad)) refl)

pub returns-in_err-test_free-clause-refused : goal.returns-in_err-test_free-clause-refused
returns-in_err-test_free-clause-refused g c tells e held =
    let s = g.S.Reads.state c.args.space.now in
    let a = g.S.Reads.state c.value_blocks.new.space in
    let bad = subst (λ (r : Records). ¬ IsLinkBelow (meta_in r strings_file).free (meta_in r strings_file).high)
    (reads_records 22 s a c.value_blocks.ensures.at_most) c.in_err-test_free.ensures.broken in
    absurd (bad held.strings.meta.free)

pub returns-in_err-test_free-clause-cause : goal.returns-in_err-test_free-clause-cause
returns-in_err-test_free-clause-cause g c =
    let cause = c.value_blocks.ensures.cause in
    set_cause _ _ c.from_residual-in_err-test_free.result c.in_err-test_free.field-0.0 _ c.from_residual-in_err-test_free.ensures.1
    c.in_err-test_free.ensures.named cause.later

pub returns-in_err-release-clause-cause : goal.returns-in_err-release-clause-cause
returns-in_err-release-clause-cause g c =
    space_set_cause _ _ _ c.from_residual-in_err-release.result c.in_err-release.field-0.0 c.in_ok-blocks.ensures.cause.later c.in_err-release.ensures.cause
    c.from_residual-in_err-release.ensures.1

pub returns-in_err-put-clause-cause : goal.returns-in_err-put-clause-cause
returns-in_err-put-clause-cause g c =
    space_set_cause _ _ _ c.from_residual-in_err-put.result c.in_err-put.field-0.0
    (later_on (later_on c.in_ok-blocks.ensures.cause.later c.in_ok-release.ensures.cause.later) c.in_ok-first.ensures.cause.later)
    c.in_err-put.ensures.cause c.from_residual-in_err-put.ensures.1

pub returns-in_err-blocks-clause-put : goal.returns-in_err-blocks-clause-put
returns-in_err-blocks-clause-put g c _ _ _ _ = never_ok c.from_residual.result _ _ c.from_residual.ensures.1

pub returns-in_err-blocks-clause-few : goal.returns-in_err-blocks-clause-few
returns-in_err-blocks-clause-few g c = never_ok c.from_residual.result _ _ c.from_residual.ensures.1

pub returns-in_err-blocks-clause-touches : goal.returns-in_err-blocks-clause-touches
returns-in_err-blocks-clause-touches g c = never_ok c.from_residual.result _ _ c.from_residual.ensures.1

pub returns-in_err-blocks-clause-onward : goal.returns-in_err-blocks-clause-onward
returns-in_err-blocks-clause-onward g c = search rules

pub returns-in_err-test_free-clause-put : goal.returns-in_err-test_free-clause-put
returns-in_err-test_free-clause-put g c _ _ _ _ = never_ok c.from_residual-in_err-test_free.result _ _ c.from_residual-in_err-test_free.ensures.1

pub returns-in_err-test_free-clause-few : goal.returns-in_err-test_free-clause-few
returns-in_err-test_free-clause-few g c = never_ok c.from_residual-in_err-test_free.result _ _ c.from_residual-in_err-test_free.ensures.1

pub returns-in_err-test_free-clause-touches : goal.returns-in_err-test_free-clause-touches
returns-in_err-test_free-clause-touches g c = never_ok c.from_residual-in_err-test_free.result _ _ c.from_residual-in_err-test_free.ensures.1

pub returns-in_err-release-clause-put : goal.returns-in_err-release-clause-put
returns-in_err-release-clause-put g c _ _ _ _ = never_ok c.from_residual-in_err-release.result _ _ c.from_residual-in_err-release.ensures.1

pub returns-in_err-release-clause-few : goal.returns-in_err-release-clause-few
returns-in_err-release-clause-few g c = never_ok c.from_residual-in_err-release.result _ _ c.from_residual-in_err-release.ensures.1

pub returns-in_err-release-clause-touches : goal.returns-in_err-release-clause-touches
returns-in_err-release-clause-touches g c = never_ok c.from_residual-in_err-release.result _ _ c.from_residual-in_err-release.ensures.1

pub returns-in_err-first-clause-put : goal.returns-in_err-first-clause-put
returns-in_err-first-clause-put g c _ _ _ _ = never_ok c.from_residual-in_err-first.result _ _ c.from_residual-in_err-first.ensures.1

pub returns-in_err-first-clause-few : goal.returns-in_err-first-clause-few
returns-in_err-first-clause-few g c = never_ok c.from_residual-in_err-first.result _ _ c.from_residual-in_err-first.ensures.1

pub returns-in_err-first-clause-touches : goal.returns-in_err-first-clause-touches
returns-in_err-first-clause-touches g c = never_ok c.from_residual-in_err-first.result _ _ c.from_residual-in_err-first.ensures.1

pub returns-in_err-put-clause-put : goal.returns-in_err-put-clause-put
returns-in_err-put-clause-put g c _ _ _ _ = never_ok c.from_residual-in_err-put.result _ _ c.from_residual-in_err-put.ensures.1

pub returns-in_err-put-clause-few : goal.returns-in_err-put-clause-few
returns-in_err-put-clause-few g c = never_ok c.from_residual-in_err-put.result _ _ c.from_residual-in_err-put.ensures.1

pub returns-in_err-put-clause-touches : goal.returns-in_err-put-clause-touches
returns-in_err-put-clause-touches g c = never_ok c.from_residual-in_err-put.result _ _ c.from_residual-in_err-put.ensures.1

pub returns-clause-cause : goal.returns-clause-cause
returns-clause-cause g c = ok_cause _ _ _ _ (omega arith)

pub returns-in_err-blocks-clause-cause : goal.returns-in_err-blocks-clause-cause
returns-in_err-blocks-clause-cause g c =
    fault_set_cause _ _ _ c.from_residual.result c.in_err-blocks.field-0.0 (omega arith) c.in_err-blocks.ensures.cause c.from_residual.ensures.1

pub returns-in_err-first-clause-cause : goal.returns-in_err-first-clause-cause
returns-in_err-first-clause-cause g c =
    take_set_cause _ _ _ c.from_residual-in_err-first.result c.in_err-first.field-0.0
    (later_on c.in_ok-blocks.ensures.cause.later c.in_ok-release.ensures.cause.later) c.in_err-first.ensures.cause c.from_residual-in_err-first.ensures.1

pub returns-in_err-test_free-clause-onward : goal.returns-in_err-test_free-clause-onward
returns-in_err-test_free-clause-onward g c = c.in_ok-blocks.ensures.onward

pub returns-in_err-release-clause-onward : goal.returns-in_err-release-clause-onward
returns-in_err-release-clause-onward g c = g.met.S.Reads.further_onward _ _ _ c.in_ok-blocks.ensures.onward c.in_err-release.ensures.onward

pub returns-in_err-first-clause-onward : goal.returns-in_err-first-clause-onward
returns-in_err-first-clause-onward g c =
    g.met.S.Reads.further_onward _ _ _ (g.met.S.Reads.further_onward _ _ _ c.in_ok-blocks.ensures.onward c.in_ok-release.ensures.onward)
    c.in_err-first.ensures.onward

pub returns-in_err-put-clause-onward : goal.returns-in_err-put-clause-onward
returns-in_err-put-clause-onward g c =
    g.met.S.Reads.further_onward _ _ _
    (g.met.S.Reads.further_onward _ _ _ (g.met.S.Reads.further_onward _ _ _ c.in_ok-blocks.ensures.onward c.in_ok-release.ensures.onward)
    c.in_ok-first.ensures.onward) c.in_err-put.ensures.onward

pub returns-clause-onward : goal.returns-clause-onward
returns-clause-onward g c =
    g.met.S.Reads.further_onward _ _ _
    (g.met.S.Reads.further_onward _ _ _ (g.met.S.Reads.further_onward _ _ _ c.in_ok-blocks.ensures.onward c.in_ok-release.ensures.onward)
    c.in_ok-first.ensures.onward) c.in_ok-put.ensures.onward

pub returns-in_err-put-clause-refused : goal.returns-in_err-put-clause-refused
returns-in_err-put-clause-refused g c tells e held =
    let p = err_from_is_err_and c.from_residual-in_err-put.result c.from_residual-in_err-put.ensures.1 in
    rw (p.1, p.2) (space_put_fault (g.S.Reads.state c.args.space.now) (length e.blocks) (blocks_of c.args.value.now) c.in_err-put.field-0.0)

pub returns-clause-few : goal.returns-clause-few
returns-clause-few g c = c.as_slice-ids.ensures.few

-- ---- the record that is put

pub returns-clause-again : goal.returns-clause-again
returns-clause-again g c tells =
    let s = g.S.Reads.state c.args.space.now in
    let a = g.S.Reads.state c.value_blocks.new.space in
    let d = g.S.Reads.state c.write_text.new.space in
    let key = key_in properties_file c.args.row.now.id in
    let rec = c.property_record.result in
    let first = c.in_ok-first.first in
    let first_fits : first < 2 ^ 32 = search rules in
    let key_fits : c.number-key.result < 2 ^ 32 = omega (arith, c.number-key.type_inv) in
    let next_fits : c.number-next.result < 2 ^ 32 = omega (arith, c.number-next.type_inv) in
    let value = c.args.value.now in
    let is = ap (λ (z : State). z.records key) c.in_ok-put.ensures.ok ∙ put_same d.records key rec ∙ c.property_record.ensures in
    record {
      here = subst (λ (r : Rec). IsRecordOf r (field 4 c.args.row.now.rec property_key) value) (sym is) (record {
        key_is = key-property_record c.number-key.result first c.number-next.result value key_fits ∙ c.number-key.ensures;
        first = first;
        content = content_of-property_record c.number-key.result first c.number-next.result value c.requires.kept first_fits;
      });
      next_is = ap (λ (r : Rec). field 4 r property_next) is ∙ next-property_record c.number-key.result first c.number-next.result value next_fits
          ∙ c.number-next.ensures;
      others = λ q strings meta ne. ap (λ (z : State). z.records q) c.in_ok-put.ensures.ok ∙ put_other d.records key rec q ne
          ∙ c.in_ok-first.ensures.other_files tells q strings meta ∙ c.in_ok-release.ensures.other_files tells q strings meta
          ∙ ap (λ (z : State). z.records q) (reads_same 22 s a c.value_blocks.ensures.at_most);
    }

pub returns-in_err-blocks-clause-again : goal.returns-in_err-blocks-clause-again
returns-in_err-blocks-clause-again g c _ = never_ok c.from_residual.result _ _ c.from_residual.ensures.1

pub returns-in_err-test_free-clause-again : goal.returns-in_err-test_free-clause-again
returns-in_err-test_free-clause-again g c _ = never_ok c.from_residual-in_err-test_free.result _ _ c.from_residual-in_err-test_free.ensures.1

pub returns-in_err-release-clause-again : goal.returns-in_err-release-clause-again
returns-in_err-release-clause-again g c _ = never_ok c.from_residual-in_err-release.result _ _ c.from_residual-in_err-release.ensures.1

pub returns-in_err-first-clause-again : goal.returns-in_err-first-clause-again
returns-in_err-first-clause-again g c _ = never_ok c.from_residual-in_err-first.result _ _ c.from_residual-in_err-first.ensures.1

pub returns-in_err-put-clause-again : goal.returns-in_err-put-clause-again
returns-in_err-put-clause-again g c _ = never_ok c.from_residual-in_err-put.result _ _ c.from_residual-in_err-put.ensures.1
