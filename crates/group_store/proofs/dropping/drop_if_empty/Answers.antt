use Rattle.std.proofs.Common.{arith, true, false, ap, ◌∙◌, sym, refl, rules}
use Rattle.std.specs.Prelude.{not}
use Rattle.std.proofs.lemmas.Bool.{false≢true, true≢false}
use Rattle.std.proofs.lemmas.Result.{err_from_is_err_and}
use Rattle.rec_bytes.specs.Format.{group_next, group_previous, groups_file}
use Rattle.rec_bytes.specs.RecordFiles.{meta_key_of}
use Rattle.rec_bytes.specs.Space.{State}
use Rattle.group_store.specs.Links.{backed}
use Rattle.group_store.specs.Dropping.{lead_key}
use Rattle.group_store.specs.Dropping.IsDropDamage.{BadNext, BadPrevious}
use Rattle.group_store.specs.GroupChain.{next_group, previous_group}
use Rattle.group_store.specs.GroupRecord.{group_key, range_damage}
use Rattle.rec_bytes.specs.declared.fault.Fault.TheVariants.{Damaged}
use Rattle.group_store.proofs.BrokenGroups.{drop_breaks}
use Rattle.group_store.proofs.DropSteps.{is_undamaged, right_next, right_previous, dropped_has, dropped_is, filled_is}
use Rattle.group_store.proofs.DropSteps.{link_read, low_links, member_told, number_read, same_one}
use Rattle.group_store.proofs.DropTests.{all_writes, behind_loose, follows_is, lead_loose, lead_writes, linked_is}
use Rattle.group_store.proofs.DropTests.{loose_told, loose_undamaged, same_three, seen_records}
use Rattle.group_store.proofs.GroupWalks.{not_damaged_at}
use Rattle.group_store.proofs.MakeSteps.{on_damage, same_read, same_then, same_writes}
use Rattle.group_store.proofs.Causes.{cause_passed, damage_cause, later_on, space_cause_passed}
use Rattle.rec_bytes.proofs.Causes.{never_ok}
use Rattle.chain_edit.proofs.Causes.{space_has}
use Rattle.group_store.proofs.dropping.drop_if_empty.Goals as goal

pub returns-in_err-rec-clause-damaged : goal.returns-in_err-rec-clause-damaged
returns-in_err-rec-clause-damaged g c = λ tells.
    let p = err_from_is_err_and c.from_residual.result c.from_residual.ensures.1 in
    rw (p.1, p.2) (member_told (g.S.Reads.state c.args.space.now) c.args.node c.args.group c.in_err-rec.field-0.0 (c.in_err-rec.ensures.damaged tells))

pub returns-in_err-rec-clause-unwritten : goal.returns-in_err-rec-clause-unwritten
returns-in_err-rec-clause-unwritten g c =
    on_damage c.from_residual.result _ (same_read 1 (g.S.Reads.state c.args.space.now) (g.S.Reads.state c.read_member.new.space) c.in_err-rec.ensures.at_most)

pub returns-in_err-rec-clause-writes : goal.returns-in_err-rec-clause-writes
returns-in_err-rec-clause-writes g c =
    let s = g.S.Reads.state c.args.space.now in
    (0, 0, same_writes s (g.S.Reads.state c.read_member.new.space) _ (same_read 1 s (g.S.Reads.state c.read_member.new.space) c.in_err-rec.ensures.at_most))

pub returns-then-is_filled-clause-dropped : goal.returns-then-is_filled-clause-dropped
returns-then-is_filled-clause-dropped g c = λ tells free xs can empty.
    let s = g.S.Reads.state c.args.space.now in
    absurd (true≢false (sym (filled_is s.records c.args.group c.in_ok-rec.rec c.is_filled.result true (c.in_ok-rec.ensures.got tells) c.is_filled.ensures
    c.if-is_filled.true) ∙ empty))

pub returns-then-is_filled-clause-is : goal.returns-then-is_filled-clause-is
returns-then-is_filled-clause-is g c = λ tells.
    let s = g.S.Reads.state c.args.space.now in
    ap not (sym (filled_is s.records c.args.group c.in_ok-rec.rec c.is_filled.result true (c.in_ok-rec.ensures.got tells) c.is_filled.ensures
    c.if-is_filled.true))

pub returns-then-is_filled-clause-kept : goal.returns-then-is_filled-clause-kept
returns-then-is_filled-clause-kept g c = λ _. same_one (g.S.Reads.state c.args.space.now) (g.S.Reads.state c.read_member.new.space) c.in_ok-rec.ensures.read

pub returns-then-is_filled-clause-writes : goal.returns-then-is_filled-clause-writes
returns-then-is_filled-clause-writes g c =
    let s = g.S.Reads.state c.args.space.now in
    (0, 0, same_writes s (g.S.Reads.state c.read_member.new.space) _ (same_one s (g.S.Reads.state c.read_member.new.space) c.in_ok-rec.ensures.read))

pub returns-in_err-test_link-clause-damaged : goal.returns-in_err-test_link-clause-damaged
returns-in_err-test_link-clause-damaged g c = λ tells.
    let s = g.S.Reads.state c.args.space.now in
    let p = err_from_is_err_and c.from_residual-in_err-test_link.result c.from_residual-in_err-test_link.ensures.1 in
    let before = number_read s.records c.args.group group_previous c.number-before.result c.in_ok-rec.rec (c.in_ok-rec.ensures.got tells)
    c.number-before.ensures in
    rw (p.1, p.2) (BadPrevious c.in_err-test_link.field-0.0 (link_read s (g.S.Reads.state c.read_member.new.space) c.number-before.result
    (previous_group s.records c.args.group) (range_damage c.args.group) c.in_err-test_link.field-0.0
    c.in_ok-rec.ensures.read before c.in_err-test_link.ensures.damaged))

pub returns-in_err-test_link-clause-unwritten : goal.returns-in_err-test_link-clause-unwritten
returns-in_err-test_link-clause-unwritten g c =
    on_damage c.from_residual-in_err-test_link.result _ (same_one (g.S.Reads.state c.args.space.now) (g.S.Reads.state c.read_member.new.space)
    c.in_ok-rec.ensures.read)

pub returns-in_err-test_link-clause-writes : goal.returns-in_err-test_link-clause-writes
returns-in_err-test_link-clause-writes g c =
    let s = g.S.Reads.state c.args.space.now in
    (0, 0, same_writes s (g.S.Reads.state c.read_member.new.space) _ (same_one s (g.S.Reads.state c.read_member.new.space) c.in_ok-rec.ensures.read))

pub returns-in_err-test_link-2-clause-damaged : goal.returns-in_err-test_link-2-clause-damaged
returns-in_err-test_link-2-clause-damaged g c = λ tells.
    let s = g.S.Reads.state c.args.space.now in
    let p = err_from_is_err_and c.from_residual-in_err-test_link-2.result c.from_residual-in_err-test_link-2.ensures.1 in
    let after = number_read s.records c.args.group group_next c.number-after.result c.in_ok-rec.rec (c.in_ok-rec.ensures.got tells) c.number-after.ensures in
    rw (p.1, p.2) (BadNext c.in_err-test_link-2.field-0.0 (link_read s (g.S.Reads.state c.read_member.new.space) c.number-after.result
    (next_group s.records c.args.group) (range_damage c.args.group) c.in_err-test_link-2.field-0.0
    c.in_ok-rec.ensures.read after c.in_err-test_link-2.ensures.damaged))

pub returns-in_err-test_link-2-clause-unwritten : goal.returns-in_err-test_link-2-clause-unwritten
returns-in_err-test_link-2-clause-unwritten g c =
    on_damage c.from_residual-in_err-test_link-2.result _ (same_one (g.S.Reads.state c.args.space.now) (g.S.Reads.state c.read_member.new.space)
    c.in_ok-rec.ensures.read)

pub returns-in_err-test_link-2-clause-writes : goal.returns-in_err-test_link-2-clause-writes
returns-in_err-test_link-2-clause-writes g c =
    let s = g.S.Reads.state c.args.space.now in
    (0, 0, same_writes s (g.S.Reads.state c.read_member.new.space) _ (same_one s (g.S.Reads.state c.read_member.new.space) c.in_ok-rec.ensures.read))

pub returns-clause-is : goal.returns-clause-is
returns-clause-is g c = λ tells.
    let s = g.S.Reads.state c.args.space.now in
    ap not (sym (filled_is s.records c.args.group c.in_ok-rec.rec c.is_filled.result false (c.in_ok-rec.ensures.got tells) c.is_filled.ensures
    c.if-is_filled.false))

pub returns-in_err-rec-clause-not_damaged : goal.returns-in_err-rec-clause-not_damaged
returns-in_err-rec-clause-not_damaged g c = λ tells xs on.
    let p = err_from_is_err_and c.from_residual.result c.from_residual.ensures.1 in
    not_damaged_at c.from_residual.result p.0 c.in_err-rec.field-0.0 p.1 p.2
    (is_undamaged (g.S.Reads.state c.args.space.now) c.args.node c.args.group xs c.in_err-rec.field-0.0 on (c.in_err-rec.ensures.damaged tells))

pub returns-in_err-test_link-clause-not_damaged : goal.returns-in_err-test_link-clause-not_damaged
returns-in_err-test_link-clause-not_damaged g c = λ tells xs on.
    let s = g.S.Reads.state c.args.space.now in
    let before = number_read s.records c.args.group group_previous c.number-before.result c.in_ok-rec.rec (c.in_ok-rec.ensures.got tells)
    c.number-before.ensures in
    let is_ok = c.in_err-test_link.ensures.not_damaged (right_previous s
    (g.S.Reads.state c.read_member.new.space) c.args.node c.args.group c.number-before.result xs
    c.in_ok-rec.ensures.read before on) in
    absurd (false≢true is_ok)

pub returns-in_err-test_link-2-clause-not_damaged : goal.returns-in_err-test_link-2-clause-not_damaged
returns-in_err-test_link-2-clause-not_damaged g c = λ tells xs on.
    let s = g.S.Reads.state c.args.space.now in
    let after = number_read s.records c.args.group group_next c.number-after.result c.in_ok-rec.rec (c.in_ok-rec.ensures.got tells) c.number-after.ensures in
    let is_ok = c.in_err-test_link-2.ensures.not_damaged (right_next s
    (g.S.Reads.state c.read_member.new.space) c.args.node c.args.group c.number-after.result xs
    c.in_ok-rec.ensures.read after on) in
    absurd (false≢true is_ok)

-- ---- what the damage breaks

pub returns-in_err-rec-clause-breaks : goal.returns-in_err-rec-clause-breaks
returns-in_err-rec-clause-breaks g c = λ tells row is owner.
    let s = g.S.Reads.state c.args.space.now in
    let p = err_from_is_err_and c.from_residual.result c.from_residual.ensures.1 in
    rw (p.1, p.2) (drop_breaks s c.args.node c.args.group row is owner c.in_err-rec.field-0.0 (member_told s c.args.node c.args.group c.in_err-rec.field-0.0
    (c.in_err-rec.ensures.damaged tells)))

pub returns-in_err-test_link-clause-breaks : goal.returns-in_err-test_link-clause-breaks
returns-in_err-test_link-clause-breaks g c = λ tells row is owner.
    let s = g.S.Reads.state c.args.space.now in
    let p = err_from_is_err_and c.from_residual-in_err-test_link.result c.from_residual-in_err-test_link.ensures.1 in
    let before = number_read s.records c.args.group group_previous c.number-before.result c.in_ok-rec.rec (c.in_ok-rec.ensures.got tells)
    c.number-before.ensures in
    rw (p.1, p.2) (drop_breaks s c.args.node c.args.group row is owner (Damaged c.in_err-test_link.field-0.0) (BadPrevious c.in_err-test_link.field-0.0
    (link_read s (g.S.Reads.state c.read_member.new.space) c.number-before.result (previous_group s.records c.args.group) (range_damage c.args.group)
    c.in_err-test_link.field-0.0
    c.in_ok-rec.ensures.read before c.in_err-test_link.ensures.damaged)))

pub returns-in_err-test_link-2-clause-breaks : goal.returns-in_err-test_link-2-clause-breaks
returns-in_err-test_link-2-clause-breaks g c = λ tells row is owner.
    let s = g.S.Reads.state c.args.space.now in
    let p = err_from_is_err_and c.from_residual-in_err-test_link-2.result c.from_residual-in_err-test_link-2.ensures.1 in
    let after = number_read s.records c.args.group group_next c.number-after.result c.in_ok-rec.rec (c.in_ok-rec.ensures.got tells) c.number-after.ensures in
    rw (p.1, p.2) (drop_breaks s c.args.node c.args.group row is owner (Damaged c.in_err-test_link-2.field-0.0) (BadNext c.in_err-test_link-2.field-0.0
    (link_read s (g.S.Reads.state c.read_member.new.space) c.number-after.result (next_group s.records c.args.group) (range_damage c.args.group)
    c.in_err-test_link-2.field-0.0
    c.in_ok-rec.ensures.read after c.in_err-test_link-2.ensures.damaged)))

pub returns-in_err-rec-clause-cause : goal.returns-in_err-rec-clause-cause
returns-in_err-rec-clause-cause g c =
    cause_passed _ _ _ c.from_residual.result c.in_err-rec.field-0.0 (omega arith) c.in_err-rec.ensures.cause c.from_residual.ensures.1

pub returns-in_err-test_link-clause-cause : goal.returns-in_err-test_link-clause-cause
returns-in_err-test_link-clause-cause g c =
    damage_cause _ _ c.from_residual-in_err-test_link.result c.in_err-test_link.field-0.0 c.in_ok-rec.ensures.cause.later
    c.from_residual-in_err-test_link.ensures.1

pub returns-in_err-test_link-2-clause-cause : goal.returns-in_err-test_link-2-clause-cause
returns-in_err-test_link-2-clause-cause g c =
    damage_cause _ _ c.from_residual-in_err-test_link-2.result c.in_err-test_link-2.field-0.0 c.in_ok-rec.ensures.cause.later
    c.from_residual-in_err-test_link-2.ensures.1

-- ---- what is beside the group doesn't lead to it

pub returns-in_err-behind-clause-damaged : goal.returns-in_err-behind-clause-damaged
returns-in_err-behind-clause-damaged g c = λ tells.
    let s = g.S.Reads.state c.args.space.now in
    let s1 = g.S.Reads.state c.read_member.new.space in
    let before = number_read s.records c.args.group group_previous c.number-before.result c.in_ok-rec.rec (c.in_ok-rec.ensures.got tells)
    c.number-before.ensures in
    let after = number_read s.records c.args.group group_next c.number-after.result c.in_ok-rec.rec (c.in_ok-rec.ensures.got tells) c.number-after.ensures in
    let p = err_from_is_err_and c.from_residual-in_err-behind.result c.from_residual-in_err-behind.ensures.1 in
    rw (p.1, p.2) (loose_told s c.args.node c.args.group c.in_err-behind.field-0.0 (behind_loose s s1 c.args.node c.args.group c.number-before.result
    c.number-after.result c.in_err-behind.field-0.0 c.in_ok-rec.ensures.read before after (c.in_err-behind.ensures.damaged tells)))

pub returns-in_err-behind-clause-breaks : goal.returns-in_err-behind-clause-breaks
returns-in_err-behind-clause-breaks g c = λ tells row is owner.
    let s = g.S.Reads.state c.args.space.now in
    let s1 = g.S.Reads.state c.read_member.new.space in
    let before = number_read s.records c.args.group group_previous c.number-before.result c.in_ok-rec.rec (c.in_ok-rec.ensures.got tells)
    c.number-before.ensures in
    let after = number_read s.records c.args.group group_next c.number-after.result c.in_ok-rec.rec (c.in_ok-rec.ensures.got tells) c.number-after.ensures in
    let p = err_from_is_err_and c.from_residual-in_err-behind.result c.from_residual-in_err-behind.ensures.1 in
    rw (p.1, p.2) (drop_breaks s c.args.node c.args.group row is owner c.in_err-behind.field-0.0 (loose_told s c.args.node c.args.group
    c.in_err-behind.field-0.0 (behind_loose s s1 c.args.node c.args.group c.number-before.result c.number-after.result c.in_err-behind.field-0.0
    c.in_ok-rec.ensures.read before after (c.in_err-behind.ensures.damaged tells))))

pub returns-in_err-behind-clause-not_damaged : goal.returns-in_err-behind-clause-not_damaged
returns-in_err-behind-clause-not_damaged g c = λ tells xs on.
    let s = g.S.Reads.state c.args.space.now in
    let s1 = g.S.Reads.state c.read_member.new.space in
    let before = number_read s.records c.args.group group_previous c.number-before.result c.in_ok-rec.rec (c.in_ok-rec.ensures.got tells)
    c.number-before.ensures in
    let after = number_read s.records c.args.group group_next c.number-after.result c.in_ok-rec.rec (c.in_ok-rec.ensures.got tells) c.number-after.ensures in
    let p = err_from_is_err_and c.from_residual-in_err-behind.result c.from_residual-in_err-behind.ensures.1 in
    not_damaged_at c.from_residual-in_err-behind.result p.0 c.in_err-behind.field-0.0 p.1 p.2
    (loose_undamaged s c.args.node c.args.group xs c.in_err-behind.field-0.0 on (behind_loose s s1 c.args.node c.args.group c.number-before.result
    c.number-after.result c.in_err-behind.field-0.0 c.in_ok-rec.ensures.read before after (c.in_err-behind.ensures.damaged tells)))

pub returns-in_err-lead-clause-damaged : goal.returns-in_err-lead-clause-damaged
returns-in_err-lead-clause-damaged g c = λ tells.
    let s = g.S.Reads.state c.args.space.now in
    let s1 = g.S.Reads.state c.read_member.new.space in
    let s2 = g.S.Reads.state c.read_behind.new.space in
    let same = ap (λ (z : State). z.records) c.in_ok-behind.ensures.state ∙ seen_records s1 c.number-after.result
    ∙ ap (λ (z : State). z.records) c.in_ok-rec.ensures.read in
    let before = number_read s.records c.args.group group_previous c.number-before.result c.in_ok-rec.rec (c.in_ok-rec.ensures.got tells)
    c.number-before.ensures in
    let p = err_from_is_err_and c.from_residual-in_err-lead.result c.from_residual-in_err-lead.ensures.1 in
    rw (p.1, p.2) (loose_told s c.args.node c.args.group c.in_err-lead.field-0.0 (lead_loose s s2 c.args.node c.args.group c.number-before.result
    c.in_err-lead.field-0.0 same before (c.in_err-lead.ensures.damaged tells)))

pub returns-in_err-lead-clause-breaks : goal.returns-in_err-lead-clause-breaks
returns-in_err-lead-clause-breaks g c = λ tells row is owner.
    let s = g.S.Reads.state c.args.space.now in
    let s1 = g.S.Reads.state c.read_member.new.space in
    let s2 = g.S.Reads.state c.read_behind.new.space in
    let same = ap (λ (z : State). z.records) c.in_ok-behind.ensures.state ∙ seen_records s1 c.number-after.result
    ∙ ap (λ (z : State). z.records) c.in_ok-rec.ensures.read in
    let before = number_read s.records c.args.group group_previous c.number-before.result c.in_ok-rec.rec (c.in_ok-rec.ensures.got tells)
    c.number-before.ensures in
    let p = err_from_is_err_and c.from_residual-in_err-lead.result c.from_residual-in_err-lead.ensures.1 in
    rw (p.1, p.2) (drop_breaks s c.args.node c.args.group row is owner c.in_err-lead.field-0.0 (loose_told s c.args.node c.args.group c.in_err-lead.field-0.0
    (lead_loose s s2 c.args.node c.args.group c.number-before.result c.in_err-lead.field-0.0 same before (c.in_err-lead.ensures.damaged tells))))

pub returns-in_err-lead-clause-not_damaged : goal.returns-in_err-lead-clause-not_damaged
returns-in_err-lead-clause-not_damaged g c = λ tells xs on.
    let s = g.S.Reads.state c.args.space.now in
    let s1 = g.S.Reads.state c.read_member.new.space in
    let s2 = g.S.Reads.state c.read_behind.new.space in
    let same = ap (λ (z : State). z.records) c.in_ok-behind.ensures.state ∙ seen_records s1 c.number-after.result
    ∙ ap (λ (z : State). z.records) c.in_ok-rec.ensures.read in
    let before = number_read s.records c.args.group group_previous c.number-before.result c.in_ok-rec.rec (c.in_ok-rec.ensures.got tells)
    c.number-before.ensures in
    let p = err_from_is_err_and c.from_residual-in_err-lead.result c.from_residual-in_err-lead.ensures.1 in
    not_damaged_at c.from_residual-in_err-lead.result p.0 c.in_err-lead.field-0.0 p.1 p.2
    (loose_undamaged s c.args.node c.args.group xs c.in_err-lead.field-0.0 on (lead_loose s s2 c.args.node c.args.group c.number-before.result
    c.in_err-lead.field-0.0 same before (c.in_err-lead.ensures.damaged tells)))

pub returns-in_err-behind-clause-unwritten : goal.returns-in_err-behind-clause-unwritten
returns-in_err-behind-clause-unwritten g c =
    let s = g.S.Reads.state c.args.space.now in
    let s1 = g.S.Reads.state c.read_member.new.space in
    let s2 = g.S.Reads.state c.read_behind.new.space in
    on_damage c.from_residual-in_err-behind.result _ (same_then s s1 s2 (same_one s s1 c.in_ok-rec.ensures.read)
    (same_read 1 s1 s2 c.in_err-behind.ensures.at_most))

pub returns-in_err-behind-clause-writes : goal.returns-in_err-behind-clause-writes
returns-in_err-behind-clause-writes g c =
    let s = g.S.Reads.state c.args.space.now in
    let s1 = g.S.Reads.state c.read_member.new.space in
    let s2 = g.S.Reads.state c.read_behind.new.space in
    (0, 0, same_writes s s2 _ (same_then s s1 s2 (same_one s s1 c.in_ok-rec.ensures.read) (same_read 1 s1 s2 c.in_err-behind.ensures.at_most)))

pub returns-in_err-lead-clause-unwritten : goal.returns-in_err-lead-clause-unwritten
returns-in_err-lead-clause-unwritten g c =
    let s = g.S.Reads.state c.args.space.now in
    let s1 = g.S.Reads.state c.read_member.new.space in
    let s2 = g.S.Reads.state c.read_behind.new.space in
    let s3 = g.S.Reads.state c.read_lead.new.space in
    on_damage c.from_residual-in_err-lead.result _ (same_three s s1 s2 s3 c.number-after.result c.in_ok-rec.ensures.read c.in_ok-behind.ensures.state
    c.in_err-lead.ensures.state)

pub returns-in_err-lead-clause-writes : goal.returns-in_err-lead-clause-writes
returns-in_err-lead-clause-writes g c =
    let s = g.S.Reads.state c.args.space.now in
    let s1 = g.S.Reads.state c.read_member.new.space in
    let s2 = g.S.Reads.state c.read_behind.new.space in
    let s3 = g.S.Reads.state c.read_lead.new.space in
    (0, 0, same_writes s s3 _ (same_three s s1 s2 s3 c.number-after.result c.in_ok-rec.ensures.read c.in_ok-behind.ensures.state c.in_err-lead.ensures.state))

pub returns-in_err-write_behind-clause-writes : goal.returns-in_err-write_behind-clause-writes
returns-in_err-write_behind-clause-writes g c =
    let s = g.S.Reads.state c.args.space.now in
    let s1 = g.S.Reads.state c.read_member.new.space in
    let s2 = g.S.Reads.state c.read_behind.new.space in
    let s3 = g.S.Reads.state c.read_lead.new.space in
    let s4 = g.S.Reads.state c.write_behind.new.space in
    let same = same_three s s1 s2 s3 c.number-after.result c.in_ok-rec.ensures.read c.in_ok-behind.ensures.state c.in_ok-lead.ensures.state in (
      c.number-before.result,
      c.number-after.result,
      lead_writes s s3 s4 s4 (group_key c.number-after.result) (lead_key c.args.node c.number-before.result)
          (group_key c.args.group) (meta_key_of groups_file) same c.in_err-write_behind.ensures.writes (same_writes s4 s4 _ refl),
    )

pub returns-in_err-write_lead-clause-writes : goal.returns-in_err-write_lead-clause-writes
returns-in_err-write_lead-clause-writes g c =
    let s = g.S.Reads.state c.args.space.now in
    let s1 = g.S.Reads.state c.read_member.new.space in
    let s2 = g.S.Reads.state c.read_behind.new.space in
    let s3 = g.S.Reads.state c.read_lead.new.space in
    let s4 = g.S.Reads.state c.write_behind.new.space in
    let s5 = g.S.Reads.state c.write_lead.new.space in
    let same = same_three s s1 s2 s3 c.number-after.result c.in_ok-rec.ensures.read c.in_ok-behind.ensures.state c.in_ok-lead.ensures.state in (
      c.number-before.result,
      c.number-after.result,
      lead_writes s s3 s4 s5 (group_key c.number-after.result) (lead_key c.args.node c.number-before.result)
          (group_key c.args.group) (meta_key_of groups_file) same c.in_ok-write_behind.ensures.writes c.in_err-write_lead.ensures.writes,
    )

pub returns-in_err-give-clause-writes : goal.returns-in_err-give-clause-writes
returns-in_err-give-clause-writes g c =
    let s = g.S.Reads.state c.args.space.now in
    let s1 = g.S.Reads.state c.read_member.new.space in
    let s2 = g.S.Reads.state c.read_behind.new.space in
    let s3 = g.S.Reads.state c.read_lead.new.space in
    let s4 = g.S.Reads.state c.write_behind.new.space in
    let s5 = g.S.Reads.state c.write_lead.new.space in
    let s6 = g.S.Reads.state c.give.new.space in
    let same = same_three s s1 s2 s3 c.number-after.result c.in_ok-rec.ensures.read c.in_ok-behind.ensures.state c.in_ok-lead.ensures.state in (
      c.number-before.result,
      c.number-after.result,
      all_writes s s3 s4 s5 s6 (group_key c.number-after.result) (lead_key c.args.node c.number-before.result)
          (group_key c.args.group) (meta_key_of groups_file) same c.in_ok-write_behind.ensures.writes c.in_ok-write_lead.ensures.writes
          c.in_err-give.ensures.writes,
    )

pub returns-clause-writes : goal.returns-clause-writes
returns-clause-writes g c =
    let s = g.S.Reads.state c.args.space.now in
    let s1 = g.S.Reads.state c.read_member.new.space in
    let s2 = g.S.Reads.state c.read_behind.new.space in
    let s3 = g.S.Reads.state c.read_lead.new.space in
    let s4 = g.S.Reads.state c.write_behind.new.space in
    let s5 = g.S.Reads.state c.write_lead.new.space in
    let s6 = g.S.Reads.state c.give.new.space in
    let same = same_three s s1 s2 s3 c.number-after.result c.in_ok-rec.ensures.read c.in_ok-behind.ensures.state c.in_ok-lead.ensures.state in (
      c.number-before.result,
      c.number-after.result,
      all_writes s s3 s4 s5 s6 (group_key c.number-after.result) (lead_key c.args.node c.number-before.result)
          (group_key c.args.group) (meta_key_of groups_file) same c.in_ok-write_behind.ensures.writes c.in_ok-write_lead.ensures.writes
          c.in_ok-give.ensures.writes,
    )

pub returns-clause-ok : goal.returns-clause-ok
returns-clause-ok g c = λ tells _.
    let s = g.S.Reads.state c.args.space.now in
    let s1 = g.S.Reads.state c.read_member.new.space in
    let s2 = g.S.Reads.state c.read_behind.new.space in
    let s3 = g.S.Reads.state c.read_lead.new.space in
    let s4 = g.S.Reads.state c.write_behind.new.space in
    let s5 = g.S.Reads.state c.write_lead.new.space in
    let s6 = g.S.Reads.state c.give.new.space in
    let before = number_read s.records c.args.group group_previous c.number-before.result c.in_ok-rec.rec (c.in_ok-rec.ensures.got tells)
    c.number-before.ensures in
    let after = number_read s.records c.args.group group_next c.number-after.result c.in_ok-rec.rec (c.in_ok-rec.ensures.got tells) c.number-after.ensures in
    let follows = follows_is s1 s2 s3 s4 s5 c.args.node c.args.group c.number-before.result c.number-after.result c.in_ok-behind.behind c.in_ok-lead.lead
    c.in_ok-behind.ensures.state c.in_ok-lead.ensures.state c.in_ok-write_behind.ensures.ok c.in_ok-write_lead.ensures.ok
    (c.in_ok-behind.ensures.got tells) (c.in_ok-lead.ensures.got_node tells) (c.in_ok-lead.ensures.got_before tells) (c.in_ok-behind.ensures.linked tells) in
    dropped_is s s1 (backed s1 c.number-after.result c.number-before.result) s5 s6 c.args.node c.number-before.result c.number-after.result c.args.group
    c.in_ok-rec.ensures.read refl follows before after (c.in_ok-give.ensures.ok tells)

pub returns-clause-dropped : goal.returns-clause-dropped
returns-clause-dropped g c = λ tells free xs can empty.
    let s = g.S.Reads.state c.args.space.now in
    let s1 = g.S.Reads.state c.read_member.new.space in
    let s2 = g.S.Reads.state c.read_behind.new.space in
    let s3 = g.S.Reads.state c.read_lead.new.space in
    let s4 = g.S.Reads.state c.write_behind.new.space in
    let s5 = g.S.Reads.state c.write_lead.new.space in
    let s6 = g.S.Reads.state c.give.new.space in
    let before = number_read s.records c.args.group group_previous c.number-before.result c.in_ok-rec.rec (c.in_ok-rec.ensures.got tells)
    c.number-before.ensures in
    let after = number_read s.records c.args.group group_next c.number-after.result c.in_ok-rec.rec (c.in_ok-rec.ensures.got tells) c.number-after.ensures in
    let follows = follows_is s1 s2 s3 s4 s5 c.args.node c.args.group c.number-before.result c.number-after.result c.in_ok-behind.behind c.in_ok-lead.lead
    c.in_ok-behind.ensures.state c.in_ok-lead.ensures.state c.in_ok-write_behind.ensures.ok c.in_ok-write_lead.ensures.ok
    (c.in_ok-behind.ensures.got tells) (c.in_ok-lead.ensures.got_node tells) (c.in_ok-lead.ensures.got_before tells) (c.in_ok-behind.ensures.linked tells) in
    dropped_has s s1 (backed s1 c.number-after.result c.number-before.result) s5 s6 c.args.node c.number-before.result c.number-after.result c.args.group free
    xs
    c.in_ok-rec.ensures.read refl follows before after (c.in_ok-give.ensures.given tells free) can

pub returns-clause-low : goal.returns-clause-low
returns-clause-low g c = λ tells _.
    let s = g.S.Reads.state c.args.space.now in
    let s1 = g.S.Reads.state c.read_member.new.space in
    let before = number_read s.records c.args.group group_previous c.number-before.result c.in_ok-rec.rec (c.in_ok-rec.ensures.got tells)
    c.number-before.ensures in
    let after = number_read s.records c.args.group group_next c.number-after.result c.in_ok-rec.rec (c.in_ok-rec.ensures.got tells) c.number-after.ensures in
    low_links s s1 c.args.group c.number-before.result c.number-after.result c.in_ok-rec.ensures.read before after c.in_ok-test_link.ensures.low
    c.in_ok-test_link-2.ensures.low

pub returns-clause-linked : goal.returns-clause-linked
returns-clause-linked g c = λ tells _.
    let s = g.S.Reads.state c.args.space.now in
    let s1 = g.S.Reads.state c.read_member.new.space in
    let s2 = g.S.Reads.state c.read_behind.new.space in
    let before = number_read s.records c.args.group group_previous c.number-before.result c.in_ok-rec.rec (c.in_ok-rec.ensures.got tells)
    c.number-before.ensures in
    let after = number_read s.records c.args.group group_next c.number-after.result c.in_ok-rec.rec (c.in_ok-rec.ensures.got tells) c.number-after.ensures in
    linked_is s s1 s2 c.args.node c.args.group c.number-before.result c.number-after.result c.in_ok-rec.ensures.read c.in_ok-behind.ensures.state before after
    (c.in_ok-behind.ensures.linked tells) (c.in_ok-lead.ensures.linked tells)

pub returns-in_err-behind-clause-cause : goal.returns-in_err-behind-clause-cause
returns-in_err-behind-clause-cause g c =
    cause_passed _ _ _ c.from_residual-in_err-behind.result c.in_err-behind.field-0.0 c.in_ok-rec.ensures.cause.later c.in_err-behind.ensures.cause
    c.from_residual-in_err-behind.ensures.1

pub returns-in_err-lead-clause-cause : goal.returns-in_err-lead-clause-cause
returns-in_err-lead-clause-cause g c =
    cause_passed _ _ _ c.from_residual-in_err-lead.result c.in_err-lead.field-0.0 (later_on c.in_ok-rec.ensures.cause.later c.in_ok-behind.ensures.cause.later)
    c.in_err-lead.ensures.cause c.from_residual-in_err-lead.ensures.1

pub returns-in_err-write_behind-clause-cause : goal.returns-in_err-write_behind-clause-cause
returns-in_err-write_behind-clause-cause g c =
    space_cause_passed _ _ _ c.from_residual-in_err-write_behind.result c.in_err-write_behind.field-0.0
    (later_on (later_on c.in_ok-rec.ensures.cause.later c.in_ok-behind.ensures.cause.later) c.in_ok-lead.ensures.cause.later)
    c.in_err-write_behind.ensures.cause c.from_residual-in_err-write_behind.ensures.1

pub returns-in_err-write_lead-clause-cause : goal.returns-in_err-write_lead-clause-cause
returns-in_err-write_lead-clause-cause g c =
    space_cause_passed _ _ _ c.from_residual-in_err-write_lead.result c.in_err-write_lead.field-0.0
    (later_on (later_on (later_on c.in_ok-rec.ensures.cause.later c.in_ok-behind.ensures.cause.later) c.in_ok-lead.ensures.cause.later)
    c.in_ok-write_behind.ensures.cause.later) c.in_err-write_lead.ensures.cause c.from_residual-in_err-write_lead.ensures.1

pub returns-in_err-give-clause-cause : goal.returns-in_err-give-clause-cause
returns-in_err-give-clause-cause g c =
    space_cause_passed _ _ _ c.from_residual-in_err-give.result c.in_err-give.field-0.0
    (later_on (later_on (later_on (later_on c.in_ok-rec.ensures.cause.later c.in_ok-behind.ensures.cause.later) c.in_ok-lead.ensures.cause.later)
    c.in_ok-write_behind.ensures.cause.later) c.in_ok-write_lead.ensures.cause.later) c.in_err-give.ensures.cause c.from_residual-in_err-give.ensures.1

pub returns-in_err-write_lead-clause-onward : goal.returns-in_err-write_lead-clause-onward
returns-in_err-write_lead-clause-onward g c =
    g.met.S.Reads.further_onward c.args.space.now c.write_behind.new.space c.write_lead.new.space
    (g.met.S.Reads.further_onward c.args.space.now c.read_lead.new.space c.write_behind.new.space (g.met.S.Reads.further_onward c.args.space.now
    c.read_behind.new.space c.read_lead.new.space (g.met.S.Reads.further_onward c.args.space.now c.read_member.new.space c.read_behind.new.space
    c.in_ok-rec.ensures.onward c.in_ok-behind.ensures.onward) c.in_ok-lead.ensures.onward) c.in_ok-write_behind.ensures.onward)
    c.in_err-write_lead.ensures.onward

pub returns-in_err-give-clause-onward : goal.returns-in_err-give-clause-onward
returns-in_err-give-clause-onward g c =
    g.met.S.Reads.further_onward c.args.space.now c.write_lead.new.space c.give.new.space
    (g.met.S.Reads.further_onward c.args.space.now c.write_behind.new.space c.write_lead.new.space (g.met.S.Reads.further_onward c.args.space.now
    c.read_lead.new.space c.write_behind.new.space (g.met.S.Reads.further_onward c.args.space.now c.read_behind.new.space c.read_lead.new.space
    (g.met.S.Reads.further_onward c.args.space.now c.read_member.new.space c.read_behind.new.space c.in_ok-rec.ensures.onward c.in_ok-behind.ensures.onward)
    c.in_ok-lead.ensures.onward) c.in_ok-write_behind.ensures.onward) c.in_ok-write_lead.ensures.onward) c.in_err-give.ensures.onward

pub returns-clause-onward : goal.returns-clause-onward
returns-clause-onward g c =
    g.met.S.Reads.further_onward c.args.space.now c.write_lead.new.space c.give.new.space
    (g.met.S.Reads.further_onward c.args.space.now c.write_behind.new.space c.write_lead.new.space (g.met.S.Reads.further_onward c.args.space.now
    c.read_lead.new.space c.write_behind.new.space (g.met.S.Reads.further_onward c.args.space.now c.read_behind.new.space c.read_lead.new.space
    (g.met.S.Reads.further_onward c.args.space.now c.read_member.new.space c.read_behind.new.space c.in_ok-rec.ensures.onward c.in_ok-behind.ensures.onward)
    c.in_ok-lead.ensures.onward) c.in_ok-write_behind.ensures.onward) c.in_ok-write_lead.ensures.onward) c.in_ok-give.ensures.onward

pub returns-in_err-rec-clause-dropped : goal.returns-in_err-rec-clause-dropped
returns-in_err-rec-clause-dropped g c _ = never_ok c.from_residual.result _ _ c.from_residual.ensures.1

pub returns-in_err-rec-clause-is : goal.returns-in_err-rec-clause-is
returns-in_err-rec-clause-is g c _ = never_ok c.from_residual.result _ _ c.from_residual.ensures.1

pub returns-in_err-rec-clause-kept : goal.returns-in_err-rec-clause-kept
returns-in_err-rec-clause-kept g c = never_ok c.from_residual.result _ _ c.from_residual.ensures.1

pub returns-in_err-rec-clause-ok : goal.returns-in_err-rec-clause-ok
returns-in_err-rec-clause-ok g c _ = never_ok c.from_residual.result _ _ c.from_residual.ensures.1

pub returns-in_err-rec-clause-linked : goal.returns-in_err-rec-clause-linked
returns-in_err-rec-clause-linked g c _ = never_ok c.from_residual.result _ _ c.from_residual.ensures.1

pub returns-in_err-rec-clause-low : goal.returns-in_err-rec-clause-low
returns-in_err-rec-clause-low g c _ = never_ok c.from_residual.result _ _ c.from_residual.ensures.1

pub returns-in_err-rec-clause-onward : goal.returns-in_err-rec-clause-onward
returns-in_err-rec-clause-onward g c = search rules

pub returns-in_err-test_link-clause-dropped : goal.returns-in_err-test_link-clause-dropped
returns-in_err-test_link-clause-dropped g c _ = never_ok c.from_residual-in_err-test_link.result _ _ c.from_residual-in_err-test_link.ensures.1

pub returns-in_err-test_link-clause-is : goal.returns-in_err-test_link-clause-is
returns-in_err-test_link-clause-is g c _ = never_ok c.from_residual-in_err-test_link.result _ _ c.from_residual-in_err-test_link.ensures.1

pub returns-in_err-test_link-clause-kept : goal.returns-in_err-test_link-clause-kept
returns-in_err-test_link-clause-kept g c = never_ok c.from_residual-in_err-test_link.result _ _ c.from_residual-in_err-test_link.ensures.1

pub returns-in_err-test_link-clause-ok : goal.returns-in_err-test_link-clause-ok
returns-in_err-test_link-clause-ok g c _ = never_ok c.from_residual-in_err-test_link.result _ _ c.from_residual-in_err-test_link.ensures.1

pub returns-in_err-test_link-clause-linked : goal.returns-in_err-test_link-clause-linked
returns-in_err-test_link-clause-linked g c _ = never_ok c.from_residual-in_err-test_link.result _ _ c.from_residual-in_err-test_link.ensures.1

pub returns-in_err-test_link-clause-low : goal.returns-in_err-test_link-clause-low
returns-in_err-test_link-clause-low g c _ = never_ok c.from_residual-in_err-test_link.result _ _ c.from_residual-in_err-test_link.ensures.1

pub returns-in_err-test_link-2-clause-dropped : goal.returns-in_err-test_link-2-clause-dropped
returns-in_err-test_link-2-clause-dropped g c _ = never_ok c.from_residual-in_err-test_link-2.result _ _ c.from_residual-in_err-test_link-2.ensures.1

pub returns-in_err-test_link-2-clause-is : goal.returns-in_err-test_link-2-clause-is
returns-in_err-test_link-2-clause-is g c _ = never_ok c.from_residual-in_err-test_link-2.result _ _ c.from_residual-in_err-test_link-2.ensures.1

pub returns-in_err-test_link-2-clause-kept : goal.returns-in_err-test_link-2-clause-kept
returns-in_err-test_link-2-clause-kept g c = never_ok c.from_residual-in_err-test_link-2.result _ _ c.from_residual-in_err-test_link-2.ensures.1

pub returns-in_err-test_link-2-clause-ok : goal.returns-in_err-test_link-2-clause-ok
returns-in_err-test_link-2-clause-ok g c _ = never_ok c.from_residual-in_err-test_link-2.result _ _ c.from_residual-in_err-test_link-2.ensures.1

pub returns-in_err-test_link-2-clause-linked : goal.returns-in_err-test_link-2-clause-linked
returns-in_err-test_link-2-clause-linked g c _ = never_ok c.from_residual-in_err-test_link-2.result _ _ c.from_residual-in_err-test_link-2.ensures.1

pub returns-in_err-test_link-2-clause-low : goal.returns-in_err-test_link-2-clause-low
returns-in_err-test_link-2-clause-low g c _ = never_ok c.from_residual-in_err-test_link-2.result _ _ c.from_residual-in_err-test_link-2.ensures.1

pub returns-in_err-behind-clause-dropped : goal.returns-in_err-behind-clause-dropped
returns-in_err-behind-clause-dropped g c _ = never_ok c.from_residual-in_err-behind.result _ _ c.from_residual-in_err-behind.ensures.1

pub returns-in_err-behind-clause-is : goal.returns-in_err-behind-clause-is
returns-in_err-behind-clause-is g c _ = never_ok c.from_residual-in_err-behind.result _ _ c.from_residual-in_err-behind.ensures.1

pub returns-in_err-behind-clause-kept : goal.returns-in_err-behind-clause-kept
returns-in_err-behind-clause-kept g c = never_ok c.from_residual-in_err-behind.result _ _ c.from_residual-in_err-behind.ensures.1

pub returns-in_err-behind-clause-ok : goal.returns-in_err-behind-clause-ok
returns-in_err-behind-clause-ok g c _ = never_ok c.from_residual-in_err-behind.result _ _ c.from_residual-in_err-behind.ensures.1

pub returns-in_err-behind-clause-linked : goal.returns-in_err-behind-clause-linked
returns-in_err-behind-clause-linked g c _ = never_ok c.from_residual-in_err-behind.result _ _ c.from_residual-in_err-behind.ensures.1

pub returns-in_err-behind-clause-low : goal.returns-in_err-behind-clause-low
returns-in_err-behind-clause-low g c _ = never_ok c.from_residual-in_err-behind.result _ _ c.from_residual-in_err-behind.ensures.1

pub returns-in_err-lead-clause-dropped : goal.returns-in_err-lead-clause-dropped
returns-in_err-lead-clause-dropped g c _ = never_ok c.from_residual-in_err-lead.result _ _ c.from_residual-in_err-lead.ensures.1

pub returns-in_err-lead-clause-is : goal.returns-in_err-lead-clause-is
returns-in_err-lead-clause-is g c _ = never_ok c.from_residual-in_err-lead.result _ _ c.from_residual-in_err-lead.ensures.1

pub returns-in_err-lead-clause-kept : goal.returns-in_err-lead-clause-kept
returns-in_err-lead-clause-kept g c = never_ok c.from_residual-in_err-lead.result _ _ c.from_residual-in_err-lead.ensures.1

pub returns-in_err-lead-clause-ok : goal.returns-in_err-lead-clause-ok
returns-in_err-lead-clause-ok g c _ = never_ok c.from_residual-in_err-lead.result _ _ c.from_residual-in_err-lead.ensures.1

pub returns-in_err-lead-clause-linked : goal.returns-in_err-lead-clause-linked
returns-in_err-lead-clause-linked g c _ = never_ok c.from_residual-in_err-lead.result _ _ c.from_residual-in_err-lead.ensures.1

pub returns-in_err-lead-clause-low : goal.returns-in_err-lead-clause-low
returns-in_err-lead-clause-low g c _ = never_ok c.from_residual-in_err-lead.result _ _ c.from_residual-in_err-lead.ensures.1

pub returns-in_err-write_behind-clause-dropped : goal.returns-in_err-write_behind-clause-dropped
returns-in_err-write_behind-clause-dropped g c _ = never_ok c.from_residual-in_err-write_behind.result _ _ c.from_residual-in_err-write_behind.ensures.1

pub returns-in_err-write_behind-clause-is : goal.returns-in_err-write_behind-clause-is
returns-in_err-write_behind-clause-is g c _ = never_ok c.from_residual-in_err-write_behind.result _ _ c.from_residual-in_err-write_behind.ensures.1

pub returns-in_err-write_behind-clause-kept : goal.returns-in_err-write_behind-clause-kept
returns-in_err-write_behind-clause-kept g c = never_ok c.from_residual-in_err-write_behind.result _ _ c.from_residual-in_err-write_behind.ensures.1

pub returns-in_err-write_behind-clause-ok : goal.returns-in_err-write_behind-clause-ok
returns-in_err-write_behind-clause-ok g c _ = never_ok c.from_residual-in_err-write_behind.result _ _ c.from_residual-in_err-write_behind.ensures.1

pub returns-in_err-write_behind-clause-linked : goal.returns-in_err-write_behind-clause-linked
returns-in_err-write_behind-clause-linked g c _ = never_ok c.from_residual-in_err-write_behind.result _ _ c.from_residual-in_err-write_behind.ensures.1

pub returns-in_err-write_behind-clause-low : goal.returns-in_err-write_behind-clause-low
returns-in_err-write_behind-clause-low g c _ = never_ok c.from_residual-in_err-write_behind.result _ _ c.from_residual-in_err-write_behind.ensures.1

pub returns-in_err-write_lead-clause-dropped : goal.returns-in_err-write_lead-clause-dropped
returns-in_err-write_lead-clause-dropped g c _ = never_ok c.from_residual-in_err-write_lead.result _ _ c.from_residual-in_err-write_lead.ensures.1

pub returns-in_err-write_lead-clause-is : goal.returns-in_err-write_lead-clause-is
returns-in_err-write_lead-clause-is g c _ = never_ok c.from_residual-in_err-write_lead.result _ _ c.from_residual-in_err-write_lead.ensures.1

pub returns-in_err-write_lead-clause-kept : goal.returns-in_err-write_lead-clause-kept
returns-in_err-write_lead-clause-kept g c = never_ok c.from_residual-in_err-write_lead.result _ _ c.from_residual-in_err-write_lead.ensures.1

pub returns-in_err-write_lead-clause-ok : goal.returns-in_err-write_lead-clause-ok
returns-in_err-write_lead-clause-ok g c _ = never_ok c.from_residual-in_err-write_lead.result _ _ c.from_residual-in_err-write_lead.ensures.1

pub returns-in_err-write_lead-clause-linked : goal.returns-in_err-write_lead-clause-linked
returns-in_err-write_lead-clause-linked g c _ = never_ok c.from_residual-in_err-write_lead.result _ _ c.from_residual-in_err-write_lead.ensures.1

pub returns-in_err-write_lead-clause-low : goal.returns-in_err-write_lead-clause-low
returns-in_err-write_lead-clause-low g c _ = never_ok c.from_residual-in_err-write_lead.result _ _ c.from_residual-in_err-write_lead.ensures.1

pub returns-in_err-give-clause-dropped : goal.returns-in_err-give-clause-dropped
returns-in_err-give-clause-dropped g c _ = never_ok c.from_residual-in_err-give.result _ _ c.from_residual-in_err-give.ensures.1

pub returns-in_err-give-clause-is : goal.returns-in_err-give-clause-is
returns-in_err-give-clause-is g c _ = never_ok c.from_residual-in_err-give.result _ _ c.from_residual-in_err-give.ensures.1

pub returns-in_err-give-clause-kept : goal.returns-in_err-give-clause-kept
returns-in_err-give-clause-kept g c = never_ok c.from_residual-in_err-give.result _ _ c.from_residual-in_err-give.ensures.1

pub returns-in_err-give-clause-ok : goal.returns-in_err-give-clause-ok
returns-in_err-give-clause-ok g c _ = never_ok c.from_residual-in_err-give.result _ _ c.from_residual-in_err-give.ensures.1

pub returns-in_err-give-clause-linked : goal.returns-in_err-give-clause-linked
returns-in_err-give-clause-linked g c _ = never_ok c.from_residual-in_err-give.result _ _ c.from_residual-in_err-give.ensures.1

pub returns-in_err-give-clause-low : goal.returns-in_err-give-clause-low
returns-in_err-give-clause-low g c _ = never_ok c.from_residual-in_err-give.result _ _ c.from_residual-in_err-give.ensures.1

pub returns-in_err-write_behind-clause-damaged : goal.returns-in_err-write_behind-clause-damaged
returns-in_err-write_behind-clause-damaged g c _ = space_has _ tt tt c.from_residual-in_err-write_behind.result c.in_err-write_behind.field-0.0
    c.from_residual-in_err-write_behind.ensures.1

pub returns-in_err-write_behind-clause-breaks : goal.returns-in_err-write_behind-clause-breaks
returns-in_err-write_behind-clause-breaks g c _ _ _ _ = space_has _ tt tt c.from_residual-in_err-write_behind.result c.in_err-write_behind.field-0.0
    c.from_residual-in_err-write_behind.ensures.1

pub returns-in_err-write_behind-clause-not_damaged : goal.returns-in_err-write_behind-clause-not_damaged
returns-in_err-write_behind-clause-not_damaged g c _ _ _ = space_has _ tt tt c.from_residual-in_err-write_behind.result c.in_err-write_behind.field-0.0
    c.from_residual-in_err-write_behind.ensures.1

pub returns-in_err-write_behind-clause-unwritten : goal.returns-in_err-write_behind-clause-unwritten
returns-in_err-write_behind-clause-unwritten g c = space_has _ tt tt c.from_residual-in_err-write_behind.result c.in_err-write_behind.field-0.0
    c.from_residual-in_err-write_behind.ensures.1

pub returns-in_err-write_lead-clause-damaged : goal.returns-in_err-write_lead-clause-damaged
returns-in_err-write_lead-clause-damaged g c _ = space_has _ tt tt c.from_residual-in_err-write_lead.result c.in_err-write_lead.field-0.0
    c.from_residual-in_err-write_lead.ensures.1

pub returns-in_err-write_lead-clause-breaks : goal.returns-in_err-write_lead-clause-breaks
returns-in_err-write_lead-clause-breaks g c _ _ _ _ = space_has _ tt tt c.from_residual-in_err-write_lead.result c.in_err-write_lead.field-0.0
    c.from_residual-in_err-write_lead.ensures.1

pub returns-in_err-write_lead-clause-not_damaged : goal.returns-in_err-write_lead-clause-not_damaged
returns-in_err-write_lead-clause-not_damaged g c _ _ _ = space_has _ tt tt c.from_residual-in_err-write_lead.result c.in_err-write_lead.field-0.0
    c.from_residual-in_err-write_lead.ensures.1

pub returns-in_err-write_lead-clause-unwritten : goal.returns-in_err-write_lead-clause-unwritten
returns-in_err-write_lead-clause-unwritten g c = space_has _ tt tt c.from_residual-in_err-write_lead.result c.in_err-write_lead.field-0.0
    c.from_residual-in_err-write_lead.ensures.1

pub returns-in_err-give-clause-damaged : goal.returns-in_err-give-clause-damaged
returns-in_err-give-clause-damaged g c _ = space_has _ tt tt c.from_residual-in_err-give.result c.in_err-give.field-0.0 c.from_residual-in_err-give.ensures.1

pub returns-in_err-give-clause-breaks : goal.returns-in_err-give-clause-breaks
returns-in_err-give-clause-breaks g c _ _ _ _ = space_has _ tt tt c.from_residual-in_err-give.result c.in_err-give.field-0.0
    c.from_residual-in_err-give.ensures.1

pub returns-in_err-give-clause-not_damaged : goal.returns-in_err-give-clause-not_damaged
returns-in_err-give-clause-not_damaged g c _ _ _ =
    space_has _ tt tt c.from_residual-in_err-give.result c.in_err-give.field-0.0 c.from_residual-in_err-give.ensures.1

pub returns-in_err-give-clause-unwritten : goal.returns-in_err-give-clause-unwritten
returns-in_err-give-clause-unwritten g c = space_has _ tt tt c.from_residual-in_err-give.result c.in_err-give.field-0.0 c.from_residual-in_err-give.ensures.1

pub returns-in_err-test_link-clause-onward : goal.returns-in_err-test_link-clause-onward
returns-in_err-test_link-clause-onward g c = c.in_ok-rec.ensures.onward

pub returns-in_err-test_link-2-clause-onward : goal.returns-in_err-test_link-2-clause-onward
returns-in_err-test_link-2-clause-onward g c = c.in_ok-rec.ensures.onward

pub returns-in_err-behind-clause-onward : goal.returns-in_err-behind-clause-onward
returns-in_err-behind-clause-onward g c =
    g.met.S.Reads.further_onward _ _ _ c.in_ok-rec.ensures.onward c.in_err-behind.ensures.onward

pub returns-in_err-lead-clause-onward : goal.returns-in_err-lead-clause-onward
returns-in_err-lead-clause-onward g c =
    g.met.S.Reads.further_onward _ _ _ (g.met.S.Reads.further_onward _ _ _ c.in_ok-rec.ensures.onward c.in_ok-behind.ensures.onward)
    c.in_err-lead.ensures.onward

pub returns-in_err-write_behind-clause-onward : goal.returns-in_err-write_behind-clause-onward
returns-in_err-write_behind-clause-onward g c =
    g.met.S.Reads.further_onward _ _ _ (g.met.S.Reads.further_onward _ _ _ (g.met.S.Reads.further_onward _ _ _ c.in_ok-rec.ensures.onward
    c.in_ok-behind.ensures.onward) c.in_ok-lead.ensures.onward) c.in_err-write_behind.ensures.onward
