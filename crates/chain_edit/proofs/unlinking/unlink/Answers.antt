use Rattle.std.proofs.Common.{arith, ◌≡◌, ◌+◌, [], ◌∷◌, refl, ap, ◌∙◌, subst, sym, inl, inr, rules}
use Rattle.std.proofs.lemmas.Result.{err_from_is_err_and}
use Rattle.rec_bytes.specs.Format.{nil}
use Rattle.rec_bytes.specs.Record.{field, with_field}
use Rattle.rec_bytes.specs.Space.{State, WritesOnly}
use Rattle.rec_bytes.proofs.Spaces.{after_gets-zero, writes_none, writes_one}
use Rattle.rel_store.specs.RelRecord.{range_damage, rel_key}
use Rattle.store_rules.specs.Chains.{next_in, prev_in}
use Rattle.chain_edit.specs.Chains.{next_of, prev_of}
use Rattle.chain_edit.specs.Heads.{head_of}
use Rattle.chain_edit.specs.Unlinking.{HasUnlinked, HidesNothing, LosesNoOther, unlinked}
use Rattle.chain_edit.proofs.Beside.{AreRead, alone_is, behind_blames, behind_reads, blamed, blames_breaks, gets_written, lead_blames, lead_reads}
use Rattle.chain_edit.proofs.Beside.{linked, on_damage, not_blamed, reads_written, seen_records, some_rel, unlinked_is, wrote, wrote_none}
use Rattle.chain_edit.proofs.Broken.{next_breaks, prev_breaks}
use Rattle.chain_edit.proofs.Damages.{damage_read}
use Rattle.chain_edit.proofs.Removals.{has_unlinked}
use Rattle.chain_edit.proofs.Unhidden.{hides_nothing, loses_no_other}
use Rattle.chain_edit.proofs.Causes.{cause_passed, damage_cause, space_cause_passed, space_has}
use Rattle.chain_edit.proofs.Walks.{reads_next}
use Rattle.rec_bytes.proofs.Causes.{never_ok}
use Rattle.chain_edit.proofs.unlinking.unlink.Goals as goal

pub returns-in_err-test_link-clause-damaged : goal.returns-in_err-test_link-clause-damaged
returns-in_err-test_link-clause-damaged g c = λ tells.
    let s = g.S.Reads.state c.args.space.now in
    let p = err_from_is_err_and c.from_residual-in_err-test_link.result c.from_residual-in_err-test_link.ensures.1 in
    let before : c.link-before.result ≡ prev_of s.records c.args.node c.args.rel =
    c.link-before.ensures ∙ ap (λ at. field 4 c.in_ok-rec.rec at) c.place_of-place.ensures.is ∙ ap (λ r. prev_in r c.args.node)
    (c.in_ok-rec.ensures.got tells) in
    rw (p.1, p.2) (inl (inl (damage_read s (g.S.Reads.state c.get.new.self) c.link-before.result (prev_of s.records c.args.node c.args.rel)
    (range_damage c.args.rel) c.in_err-test_link.field-0.0
    c.in_ok-rec.ensures.state before c.in_err-test_link.ensures.damaged)))

pub returns-in_err-test_link-clause-breaks : goal.returns-in_err-test_link-clause-breaks
returns-in_err-test_link-clause-breaks g c = λ tells row live lone.
    let s = g.S.Reads.state c.args.space.now in
    let p = err_from_is_err_and c.from_residual-in_err-test_link.result c.from_residual-in_err-test_link.ensures.1 in
    let before : c.link-before.result ≡ prev_of s.records c.args.node c.args.rel =
    c.link-before.ensures ∙ ap (λ at. field 4 c.in_ok-rec.rec at) c.place_of-place.ensures.is ∙ ap (λ r. prev_in r c.args.node)
    (c.in_ok-rec.ensures.got tells) in
    rw (p.1, p.2) (prev_breaks s c.args.rel c.args.node row c.in_err-test_link.field-0.0 live
    (damage_read s (g.S.Reads.state c.get.new.self) c.link-before.result (prev_of s.records c.args.node c.args.rel) (range_damage c.args.rel)
    c.in_err-test_link.field-0.0
    c.in_ok-rec.ensures.state before c.in_err-test_link.ensures.damaged))

pub returns-in_err-test_link-2-clause-damaged : goal.returns-in_err-test_link-2-clause-damaged
returns-in_err-test_link-2-clause-damaged g c = λ tells.
    let s = g.S.Reads.state c.args.space.now in
    let p = err_from_is_err_and c.from_residual-in_err-test_link-2.result c.from_residual-in_err-test_link-2.ensures.1 in
    let after : c.link-after.result ≡ next_of s.records c.args.node c.args.rel =
    c.link-after.ensures ∙ ap (λ at. field 4 c.in_ok-rec.rec (at + 4)) c.place_of-place.ensures.is ∙ ap (λ r. next_in r c.args.node)
    (c.in_ok-rec.ensures.got tells) in
    rw (p.1, p.2) (inl (inr (damage_read s (g.S.Reads.state c.get.new.self) c.link-after.result (next_of s.records c.args.node c.args.rel)
    (range_damage c.args.rel) c.in_err-test_link-2.field-0.0
    c.in_ok-rec.ensures.state after c.in_err-test_link-2.ensures.damaged)))

pub returns-in_err-test_link-2-clause-breaks : goal.returns-in_err-test_link-2-clause-breaks
returns-in_err-test_link-2-clause-breaks g c = λ tells row live lone.
    let s = g.S.Reads.state c.args.space.now in
    let p = err_from_is_err_and c.from_residual-in_err-test_link-2.result c.from_residual-in_err-test_link-2.ensures.1 in
    let after : c.link-after.result ≡ next_of s.records c.args.node c.args.rel =
    c.link-after.ensures ∙ ap (λ at. field 4 c.in_ok-rec.rec (at + 4)) c.place_of-place.ensures.is ∙ ap (λ r. next_in r c.args.node)
    (c.in_ok-rec.ensures.got tells) in
    rw (p.1, p.2) (next_breaks s c.args.rel c.args.node row c.in_err-test_link-2.field-0.0 live
    (damage_read s (g.S.Reads.state c.get.new.self) c.link-after.result (next_of s.records c.args.node c.args.rel) (range_damage c.args.rel)
    c.in_err-test_link-2.field-0.0
    c.in_ok-rec.ensures.state after c.in_err-test_link-2.ensures.damaged))

pub returns-in_err-rec-clause-writes : goal.returns-in_err-rec-clause-writes
returns-in_err-rec-clause-writes g c =
    (0, 0, writes_none (g.S.Reads.state c.args.space.now) (g.S.Reads.state c.get.new.self) _ (ap (λ (t : State). t.written) c.in_err-rec.ensures.state))

pub returns-in_err-test_link-clause-unwritten : goal.returns-in_err-test_link-clause-unwritten
returns-in_err-test_link-clause-unwritten g c =
    let s = g.S.Reads.state c.args.space.now in
    let s1 = g.S.Reads.state c.get.new.self in
    let p = err_from_is_err_and c.from_residual-in_err-test_link.result c.from_residual-in_err-test_link.ensures.1 in
    rw (p.1, p.2) (reads_next s s s1 0 3 (omega arith) (sym (after_gets-zero s)) c.in_ok-rec.ensures.state)

pub returns-in_err-test_link-2-clause-unwritten : goal.returns-in_err-test_link-2-clause-unwritten
returns-in_err-test_link-2-clause-unwritten g c =
    let s = g.S.Reads.state c.args.space.now in
    let s1 = g.S.Reads.state c.get.new.self in
    let p = err_from_is_err_and c.from_residual-in_err-test_link-2.result c.from_residual-in_err-test_link-2.ensures.1 in
    rw (p.1, p.2) (reads_next s s s1 0 3 (omega arith) (sym (after_gets-zero s)) c.in_ok-rec.ensures.state)

pub returns-in_err-behind-clause-damaged : goal.returns-in_err-behind-clause-damaged
returns-in_err-behind-clause-damaged g c = λ tells.
    let s = g.S.Reads.state c.args.space.now in
    let s1 = g.S.Reads.state c.get.new.self in
    let before : c.link-before.result ≡ prev_of s.records c.args.node c.args.rel =
    c.link-before.ensures ∙ ap (λ at. field 4 c.in_ok-rec.rec at) c.place_of-place.ensures.is ∙ ap (λ r. prev_in r c.args.node)
    (c.in_ok-rec.ensures.got tells) in
    let after : c.link-after.result ≡ next_of s.records c.args.node c.args.rel =
    c.link-after.ensures ∙ ap (λ at. field 4 c.in_ok-rec.rec (at + 4)) c.place_of-place.ensures.is ∙ ap (λ r. next_in r c.args.node)
    (c.in_ok-rec.ensures.got tells) in
    let p = err_from_is_err_and c.from_residual-in_err-behind.result c.from_residual-in_err-behind.ensures.1 in
    rw (p.1, p.2) (blamed s (head_of c.args.head) c.args.node c.args.rel c.in_err-behind.field-0.0 (behind_blames s s1 (head_of c.args.head)
    c.args.node c.args.rel c.link-before.result c.link-after.result c.in_err-behind.field-0.0 c.in_ok-rec.ensures.state before after
    (c.in_err-behind.ensures.damaged tells)))

pub returns-in_err-behind-clause-breaks : goal.returns-in_err-behind-clause-breaks
returns-in_err-behind-clause-breaks g c = λ tells row live lone.
    let s = g.S.Reads.state c.args.space.now in
    let s1 = g.S.Reads.state c.get.new.self in
    let before : c.link-before.result ≡ prev_of s.records c.args.node c.args.rel =
    c.link-before.ensures ∙ ap (λ at. field 4 c.in_ok-rec.rec at) c.place_of-place.ensures.is ∙ ap (λ r. prev_in r c.args.node)
    (c.in_ok-rec.ensures.got tells) in
    let after : c.link-after.result ≡ next_of s.records c.args.node c.args.rel =
    c.link-after.ensures ∙ ap (λ at. field 4 c.in_ok-rec.rec (at + 4)) c.place_of-place.ensures.is ∙ ap (λ r. next_in r c.args.node)
    (c.in_ok-rec.ensures.got tells) in
    let p = err_from_is_err_and c.from_residual-in_err-behind.result c.from_residual-in_err-behind.ensures.1 in
    rw (p.1, p.2) (blames_breaks s (head_of c.args.head) c.args.node c.args.rel row c.in_err-behind.field-0.0 live lone
    (behind_blames s s1 (head_of c.args.head) c.args.node c.args.rel c.link-before.result c.link-after.result c.in_err-behind.field-0.0
    c.in_ok-rec.ensures.state before after (c.in_err-behind.ensures.damaged tells)))

pub returns-in_err-behind-clause-not_damaged : goal.returns-in_err-behind-clause-not_damaged
returns-in_err-behind-clause-not_damaged g c = λ tells _ _ xs can.
    let s = g.S.Reads.state c.args.space.now in
    let s1 = g.S.Reads.state c.get.new.self in
    let before : c.link-before.result ≡ prev_of s.records c.args.node c.args.rel =
    c.link-before.ensures ∙ ap (λ at. field 4 c.in_ok-rec.rec at) c.place_of-place.ensures.is ∙ ap (λ r. prev_in r c.args.node)
    (c.in_ok-rec.ensures.got tells) in
    let after : c.link-after.result ≡ next_of s.records c.args.node c.args.rel =
    c.link-after.ensures ∙ ap (λ at. field 4 c.in_ok-rec.rec (at + 4)) c.place_of-place.ensures.is ∙ ap (λ r. next_in r c.args.node)
    (c.in_ok-rec.ensures.got tells) in
    let p = err_from_is_err_and c.from_residual-in_err-behind.result c.from_residual-in_err-behind.ensures.1 in
    rw (p.1, p.2) (not_blamed s (head_of c.args.head) c.args.node c.args.rel c.in_err-behind.field-0.0 xs can (behind_blames s s1 (head_of c.args.head)
    c.args.node c.args.rel c.link-before.result c.link-after.result c.in_err-behind.field-0.0 c.in_ok-rec.ensures.state before after
    (c.in_err-behind.ensures.damaged tells)))

pub returns-in_err-lead-clause-damaged : goal.returns-in_err-lead-clause-damaged
returns-in_err-lead-clause-damaged g c = λ tells.
    let s = g.S.Reads.state c.args.space.now in
    let s1 = g.S.Reads.state c.get.new.self in
    let s2 = g.S.Reads.state c.read_behind.new.space in
    let same = ap (λ (z : State). z.records) c.in_ok-behind.ensures.state ∙ seen_records s1 c.link-after.result ∙ ap (λ (z : State). z.records)
    c.in_ok-rec.ensures.state in
    let before : c.link-before.result ≡ prev_of s.records c.args.node c.args.rel =
    c.link-before.ensures ∙ ap (λ at. field 4 c.in_ok-rec.rec at) c.place_of-place.ensures.is ∙ ap (λ r. prev_in r c.args.node)
    (c.in_ok-rec.ensures.got tells) in
    let p = err_from_is_err_and c.from_residual-in_err-lead.result c.from_residual-in_err-lead.ensures.1 in
    rw (p.1, p.2) (blamed s (head_of c.args.head) c.args.node c.args.rel c.in_err-lead.field-0.0 (lead_blames s s2 (head_of c.args.head) c.args.node c.args.rel
    c.link-before.result c.in_err-lead.field-0.0 same before (c.in_err-lead.ensures.damaged tells)))

pub returns-in_err-lead-clause-breaks : goal.returns-in_err-lead-clause-breaks
returns-in_err-lead-clause-breaks g c = λ tells row live lone.
    let s = g.S.Reads.state c.args.space.now in
    let s1 = g.S.Reads.state c.get.new.self in
    let s2 = g.S.Reads.state c.read_behind.new.space in
    let same = ap (λ (z : State). z.records) c.in_ok-behind.ensures.state ∙ seen_records s1 c.link-after.result ∙ ap (λ (z : State). z.records)
    c.in_ok-rec.ensures.state in
    let before : c.link-before.result ≡ prev_of s.records c.args.node c.args.rel =
    c.link-before.ensures ∙ ap (λ at. field 4 c.in_ok-rec.rec at) c.place_of-place.ensures.is ∙ ap (λ r. prev_in r c.args.node)
    (c.in_ok-rec.ensures.got tells) in
    let p = err_from_is_err_and c.from_residual-in_err-lead.result c.from_residual-in_err-lead.ensures.1 in
    rw (p.1, p.2) (blames_breaks s (head_of c.args.head) c.args.node c.args.rel row c.in_err-lead.field-0.0 live lone (lead_blames s s2 (head_of c.args.head)
    c.args.node c.args.rel c.link-before.result c.in_err-lead.field-0.0 same before (c.in_err-lead.ensures.damaged tells)))

pub returns-in_err-lead-clause-not_damaged : goal.returns-in_err-lead-clause-not_damaged
returns-in_err-lead-clause-not_damaged g c = λ tells _ _ xs can.
    let s = g.S.Reads.state c.args.space.now in
    let s1 = g.S.Reads.state c.get.new.self in
    let s2 = g.S.Reads.state c.read_behind.new.space in
    let same = ap (λ (z : State). z.records) c.in_ok-behind.ensures.state ∙ seen_records s1 c.link-after.result ∙ ap (λ (z : State). z.records)
    c.in_ok-rec.ensures.state in
    let before : c.link-before.result ≡ prev_of s.records c.args.node c.args.rel =
    c.link-before.ensures ∙ ap (λ at. field 4 c.in_ok-rec.rec at) c.place_of-place.ensures.is ∙ ap (λ r. prev_in r c.args.node)
    (c.in_ok-rec.ensures.got tells) in
    let p = err_from_is_err_and c.from_residual-in_err-lead.result c.from_residual-in_err-lead.ensures.1 in
    rw (p.1, p.2) (not_blamed s (head_of c.args.head) c.args.node c.args.rel c.in_err-lead.field-0.0 xs can (lead_blames s s2 (head_of c.args.head)
    c.args.node c.args.rel c.link-before.result c.in_err-lead.field-0.0 same before (c.in_err-lead.ensures.damaged tells)))

pub returns-in_err-behind-clause-unwritten : goal.returns-in_err-behind-clause-unwritten
returns-in_err-behind-clause-unwritten g c =
    let s = g.S.Reads.state c.args.space.now in
    let s1 = g.S.Reads.state c.get.new.self in
    let s2 = g.S.Reads.state c.read_behind.new.space in
    let p = err_from_is_err_and c.from_residual-in_err-behind.result c.from_residual-in_err-behind.ensures.1 in
    rw (p.1, p.2) (on_damage c.in_err-behind.field-0.0 (behind_reads s s1 s2 c.in_ok-rec.ensures.state c.in_err-behind.ensures.at_most))

pub returns-in_err-behind-clause-neighbours : goal.returns-in_err-behind-clause-neighbours
returns-in_err-behind-clause-neighbours g c = λ tells.
    let s = g.S.Reads.state c.args.space.now in
    let s1 = g.S.Reads.state c.get.new.self in
    let s2 = g.S.Reads.state c.read_behind.new.space in
    writes_none s s2 _ (reads_written 3 s s2 (behind_reads s s1 s2 c.in_ok-rec.ensures.state c.in_err-behind.ensures.at_most))

pub returns-in_err-behind-clause-writes : goal.returns-in_err-behind-clause-writes
returns-in_err-behind-clause-writes g c =
    let s = g.S.Reads.state c.args.space.now in
    let s1 = g.S.Reads.state c.get.new.self in
    let s2 = g.S.Reads.state c.read_behind.new.space in
    (0, 0, writes_none s s2 _ (reads_written 3 s s2 (behind_reads s s1 s2 c.in_ok-rec.ensures.state c.in_err-behind.ensures.at_most)))

pub returns-in_err-lead-clause-unwritten : goal.returns-in_err-lead-clause-unwritten
returns-in_err-lead-clause-unwritten g c =
    let s = g.S.Reads.state c.args.space.now in
    let s1 = g.S.Reads.state c.get.new.self in
    let s2 = g.S.Reads.state c.read_behind.new.space in
    let s3 = g.S.Reads.state c.read_lead.new.space in
    let p = err_from_is_err_and c.from_residual-in_err-lead.result c.from_residual-in_err-lead.ensures.1 in
    rw (p.1, p.2) (on_damage c.in_err-lead.field-0.0 (lead_reads s s1 s2 s3 c.link-after.result c.in_ok-rec.ensures.state c.in_ok-behind.ensures.state
    c.in_err-lead.ensures.state))

pub returns-in_err-lead-clause-neighbours : goal.returns-in_err-lead-clause-neighbours
returns-in_err-lead-clause-neighbours g c = λ tells.
    let s = g.S.Reads.state c.args.space.now in
    let s1 = g.S.Reads.state c.get.new.self in
    let s2 = g.S.Reads.state c.read_behind.new.space in
    let s3 = g.S.Reads.state c.read_lead.new.space in
    writes_none s s3 _ (reads_written 3 s s3 (lead_reads s s1 s2 s3 c.link-after.result c.in_ok-rec.ensures.state c.in_ok-behind.ensures.state
    c.in_err-lead.ensures.state))

pub returns-in_err-lead-clause-writes : goal.returns-in_err-lead-clause-writes
returns-in_err-lead-clause-writes g c =
    let s = g.S.Reads.state c.args.space.now in
    let s1 = g.S.Reads.state c.get.new.self in
    let s2 = g.S.Reads.state c.read_behind.new.space in
    let s3 = g.S.Reads.state c.read_lead.new.space in (
      0,
      0,
      writes_none s s3 _ (reads_written 3 s s3 (lead_reads s s1 s2 s3 c.link-after.result c.in_ok-rec.ensures.state c.in_ok-behind.ensures.state
          c.in_err-lead.ensures.state)),
    )

pub returns-in_err-put-clause-neighbours : goal.returns-in_err-put-clause-neighbours
returns-in_err-put-clause-neighbours g c = λ tells.
    let s = g.S.Reads.state c.args.space.now in
    let s1 = g.S.Reads.state c.get.new.self in
    let s2 = g.S.Reads.state c.read_behind.new.space in
    let s3 = g.S.Reads.state c.read_lead.new.space in
    let s4 = g.S.Reads.state c.put.new.self in
    let before : c.link-before.result ≡ prev_of s.records c.args.node c.args.rel =
    c.link-before.ensures ∙ ap (λ at. field 4 c.in_ok-rec.rec at) c.place_of-place.ensures.is ∙ ap (λ r. prev_in r c.args.node)
    (c.in_ok-rec.ensures.got tells) in
    let after : c.link-after.result ≡ next_of s.records c.args.node c.args.rel =
    c.link-after.ensures ∙ ap (λ at. field 4 c.in_ok-rec.rec (at + 4)) c.place_of-place.ensures.is ∙ ap (λ r. next_in r c.args.node)
    (c.in_ok-rec.ensures.got tells) in
    let kept = gets_written s s1 s2 s3 c.link-after.result c.in_ok-rec.ensures.state c.in_ok-behind.ensures.state c.in_ok-lead.ensures.state in
    subst (λ x. WritesOnly s s4 (rel_key x ∷ rel_key c.args.rel ∷ rel_key (next_of s.records c.args.node c.args.rel) ∷ c.args.head.key ∷ [])) before
    (subst (λ x. WritesOnly s s4 (rel_key c.link-before.result ∷ rel_key c.args.rel ∷ rel_key x ∷ c.args.head.key ∷ [])) after
    (wrote s s3 s4 s4 s4 c.link-before.result c.args.rel c.link-after.result c.args.head.key kept (wrote_none s3 s4 (rel_key c.args.rel ∷ [])
    c.in_err-put.ensures.err) (wrote_none s4 s4 _ refl) (wrote_none s4 s4 _ refl)))

pub returns-in_err-put-clause-writes : goal.returns-in_err-put-clause-writes
returns-in_err-put-clause-writes g c =
    let s = g.S.Reads.state c.args.space.now in
    let s1 = g.S.Reads.state c.get.new.self in
    let s2 = g.S.Reads.state c.read_behind.new.space in
    let s3 = g.S.Reads.state c.read_lead.new.space in
    let s4 = g.S.Reads.state c.put.new.self in
    let kept = gets_written s s1 s2 s3 c.link-after.result c.in_ok-rec.ensures.state c.in_ok-behind.ensures.state c.in_ok-lead.ensures.state in (
      c.link-before.result,
      c.link-after.result,
      wrote s s3 s4 s4 s4 c.link-before.result c.args.rel c.link-after.result c.args.head.key kept
          (wrote_none s3 s4 (rel_key c.args.rel ∷ []) c.in_err-put.ensures.err) (wrote_none s4 s4 _ refl) (wrote_none s4 s4 _ refl),
    )

pub returns-in_err-write_behind-clause-neighbours : goal.returns-in_err-write_behind-clause-neighbours
returns-in_err-write_behind-clause-neighbours g c = λ tells.
    let s = g.S.Reads.state c.args.space.now in
    let s1 = g.S.Reads.state c.get.new.self in
    let s2 = g.S.Reads.state c.read_behind.new.space in
    let s3 = g.S.Reads.state c.read_lead.new.space in
    let s4 = g.S.Reads.state c.put.new.self in
    let s5 = g.S.Reads.state c.write_behind.new.space in
    let before : c.link-before.result ≡ prev_of s.records c.args.node c.args.rel =
    c.link-before.ensures ∙ ap (λ at. field 4 c.in_ok-rec.rec at) c.place_of-place.ensures.is ∙ ap (λ r. prev_in r c.args.node)
    (c.in_ok-rec.ensures.got tells) in
    let after : c.link-after.result ≡ next_of s.records c.args.node c.args.rel =
    c.link-after.ensures ∙ ap (λ at. field 4 c.in_ok-rec.rec (at + 4)) c.place_of-place.ensures.is ∙ ap (λ r. next_in r c.args.node)
    (c.in_ok-rec.ensures.got tells) in
    let kept = gets_written s s1 s2 s3 c.link-after.result c.in_ok-rec.ensures.state c.in_ok-behind.ensures.state c.in_ok-lead.ensures.state in
    subst (λ x. WritesOnly s s5 (rel_key x ∷ rel_key c.args.rel ∷ rel_key (next_of s.records c.args.node c.args.rel) ∷ c.args.head.key ∷ [])) before
    (subst (λ x. WritesOnly s s5 (rel_key c.link-before.result ∷ rel_key c.args.rel ∷ rel_key x ∷ c.args.head.key ∷ [])) after
    (wrote s s3 s4 s5 s5 c.link-before.result c.args.rel c.link-after.result c.args.head.key kept (writes_one s3 s4 (rel_key c.args.rel)
    (ap (λ (z : State). z.written) c.in_ok-put.ensures.ok)) c.in_err-write_behind.ensures.writes (wrote_none s5 s5 _ refl)))

pub returns-in_err-write_behind-clause-writes : goal.returns-in_err-write_behind-clause-writes
returns-in_err-write_behind-clause-writes g c =
    let s = g.S.Reads.state c.args.space.now in
    let s1 = g.S.Reads.state c.get.new.self in
    let s2 = g.S.Reads.state c.read_behind.new.space in
    let s3 = g.S.Reads.state c.read_lead.new.space in
    let s4 = g.S.Reads.state c.put.new.self in
    let s5 = g.S.Reads.state c.write_behind.new.space in
    let kept = gets_written s s1 s2 s3 c.link-after.result c.in_ok-rec.ensures.state c.in_ok-behind.ensures.state c.in_ok-lead.ensures.state in (
      c.link-before.result,
      c.link-after.result,
      wrote s s3 s4 s5 s5 c.link-before.result c.args.rel c.link-after.result c.args.head.key kept
          (writes_one s3 s4 (rel_key c.args.rel) (ap (λ (z : State). z.written) c.in_ok-put.ensures.ok)) c.in_err-write_behind.ensures.writes
          (wrote_none s5 s5 _ refl),
    )

pub returns-in_err-write_lead-clause-neighbours : goal.returns-in_err-write_lead-clause-neighbours
returns-in_err-write_lead-clause-neighbours g c = λ tells.
    let s = g.S.Reads.state c.args.space.now in
    let s1 = g.S.Reads.state c.get.new.self in
    let s2 = g.S.Reads.state c.read_behind.new.space in
    let s3 = g.S.Reads.state c.read_lead.new.space in
    let s4 = g.S.Reads.state c.put.new.self in
    let s5 = g.S.Reads.state c.write_behind.new.space in
    let s6 = g.S.Reads.state c.write_lead.new.space in
    let before : c.link-before.result ≡ prev_of s.records c.args.node c.args.rel =
    c.link-before.ensures ∙ ap (λ at. field 4 c.in_ok-rec.rec at) c.place_of-place.ensures.is ∙ ap (λ r. prev_in r c.args.node)
    (c.in_ok-rec.ensures.got tells) in
    let after : c.link-after.result ≡ next_of s.records c.args.node c.args.rel =
    c.link-after.ensures ∙ ap (λ at. field 4 c.in_ok-rec.rec (at + 4)) c.place_of-place.ensures.is ∙ ap (λ r. next_in r c.args.node)
    (c.in_ok-rec.ensures.got tells) in
    let kept = gets_written s s1 s2 s3 c.link-after.result c.in_ok-rec.ensures.state c.in_ok-behind.ensures.state c.in_ok-lead.ensures.state in
    subst (λ x. WritesOnly s s6 (rel_key x ∷ rel_key c.args.rel ∷ rel_key (next_of s.records c.args.node c.args.rel) ∷ c.args.head.key ∷ [])) before
    (subst (λ x. WritesOnly s s6 (rel_key c.link-before.result ∷ rel_key c.args.rel ∷ rel_key x ∷ c.args.head.key ∷ [])) after
    (wrote s s3 s4 s5 s6 c.link-before.result c.args.rel c.link-after.result c.args.head.key kept (writes_one s3 s4 (rel_key c.args.rel)
    (ap (λ (z : State). z.written) c.in_ok-put.ensures.ok)) c.in_ok-write_behind.ensures.writes c.in_err-write_lead.ensures.writes))

pub returns-in_err-write_lead-clause-writes : goal.returns-in_err-write_lead-clause-writes
returns-in_err-write_lead-clause-writes g c =
    let s = g.S.Reads.state c.args.space.now in
    let s1 = g.S.Reads.state c.get.new.self in
    let s2 = g.S.Reads.state c.read_behind.new.space in
    let s3 = g.S.Reads.state c.read_lead.new.space in
    let s4 = g.S.Reads.state c.put.new.self in
    let s5 = g.S.Reads.state c.write_behind.new.space in
    let s6 = g.S.Reads.state c.write_lead.new.space in
    let kept = gets_written s s1 s2 s3 c.link-after.result c.in_ok-rec.ensures.state c.in_ok-behind.ensures.state c.in_ok-lead.ensures.state in (
      c.link-before.result,
      c.link-after.result,
      wrote s s3 s4 s5 s6 c.link-before.result c.args.rel c.link-after.result c.args.head.key kept
          (writes_one s3 s4 (rel_key c.args.rel) (ap (λ (z : State). z.written) c.in_ok-put.ensures.ok)) c.in_ok-write_behind.ensures.writes
          c.in_err-write_lead.ensures.writes,
    )

pub returns-clause-neighbours : goal.returns-clause-neighbours
returns-clause-neighbours g c = λ tells.
    let s = g.S.Reads.state c.args.space.now in
    let s1 = g.S.Reads.state c.get.new.self in
    let s2 = g.S.Reads.state c.read_behind.new.space in
    let s3 = g.S.Reads.state c.read_lead.new.space in
    let s4 = g.S.Reads.state c.put.new.self in
    let s5 = g.S.Reads.state c.write_behind.new.space in
    let s6 = g.S.Reads.state c.write_lead.new.space in
    let before : c.link-before.result ≡ prev_of s.records c.args.node c.args.rel =
    c.link-before.ensures ∙ ap (λ at. field 4 c.in_ok-rec.rec at) c.place_of-place.ensures.is ∙ ap (λ r. prev_in r c.args.node)
    (c.in_ok-rec.ensures.got tells) in
    let after : c.link-after.result ≡ next_of s.records c.args.node c.args.rel =
    c.link-after.ensures ∙ ap (λ at. field 4 c.in_ok-rec.rec (at + 4)) c.place_of-place.ensures.is ∙ ap (λ r. next_in r c.args.node)
    (c.in_ok-rec.ensures.got tells) in
    let kept = gets_written s s1 s2 s3 c.link-after.result c.in_ok-rec.ensures.state c.in_ok-behind.ensures.state c.in_ok-lead.ensures.state in
    subst (λ x. WritesOnly s s6 (rel_key x ∷ rel_key c.args.rel ∷ rel_key (next_of s.records c.args.node c.args.rel) ∷ c.args.head.key ∷ [])) before
    (subst (λ x. WritesOnly s s6 (rel_key c.link-before.result ∷ rel_key c.args.rel ∷ rel_key x ∷ c.args.head.key ∷ [])) after
    (wrote s s3 s4 s5 s6 c.link-before.result c.args.rel c.link-after.result c.args.head.key kept (writes_one s3 s4 (rel_key c.args.rel)
    (ap (λ (z : State). z.written) c.in_ok-put.ensures.ok)) c.in_ok-write_behind.ensures.writes c.in_ok-write_lead.ensures.writes))

pub returns-clause-writes : goal.returns-clause-writes
returns-clause-writes g c =
    let s = g.S.Reads.state c.args.space.now in
    let s1 = g.S.Reads.state c.get.new.self in
    let s2 = g.S.Reads.state c.read_behind.new.space in
    let s3 = g.S.Reads.state c.read_lead.new.space in
    let s4 = g.S.Reads.state c.put.new.self in
    let s5 = g.S.Reads.state c.write_behind.new.space in
    let s6 = g.S.Reads.state c.write_lead.new.space in
    let kept = gets_written s s1 s2 s3 c.link-after.result c.in_ok-rec.ensures.state c.in_ok-behind.ensures.state c.in_ok-lead.ensures.state in (
      c.link-before.result,
      c.link-after.result,
      wrote s s3 s4 s5 s6 c.link-before.result c.args.rel c.link-after.result c.args.head.key kept
          (writes_one s3 s4 (rel_key c.args.rel) (ap (λ (z : State). z.written) c.in_ok-put.ensures.ok)) c.in_ok-write_behind.ensures.writes
          c.in_ok-write_lead.ensures.writes,
    )

pub returns-in_err-write_lead-clause-onward : goal.returns-in_err-write_lead-clause-onward
returns-in_err-write_lead-clause-onward g c =
    g.met.S.Reads.further_onward c.args.space.now c.write_behind.new.space c.write_lead.new.space (g.met.S.Reads.further_onward c.args.space.now c.put.new.self
    c.write_behind.new.space (g.met.S.Reads.further_onward c.args.space.now c.read_lead.new.space c.put.new.self
    (g.met.S.Reads.further_onward c.args.space.now c.read_behind.new.space c.read_lead.new.space (g.met.S.Reads.further_onward c.args.space.now
    c.get.new.self c.read_behind.new.space c.in_ok-rec.ensures.onward c.in_ok-behind.ensures.onward) c.in_ok-lead.ensures.onward)
    c.in_ok-put.ensures.onward) c.in_ok-write_behind.ensures.onward) c.in_err-write_lead.ensures.onward

pub returns-clause-onward : goal.returns-clause-onward
returns-clause-onward g c =
    g.met.S.Reads.further_onward c.args.space.now c.write_behind.new.space c.write_lead.new.space (g.met.S.Reads.further_onward c.args.space.now c.put.new.self
    c.write_behind.new.space (g.met.S.Reads.further_onward c.args.space.now c.read_lead.new.space c.put.new.self
    (g.met.S.Reads.further_onward c.args.space.now c.read_behind.new.space c.read_lead.new.space (g.met.S.Reads.further_onward c.args.space.now
    c.get.new.self c.read_behind.new.space c.in_ok-rec.ensures.onward c.in_ok-behind.ensures.onward) c.in_ok-lead.ensures.onward)
    c.in_ok-put.ensures.onward) c.in_ok-write_behind.ensures.onward) c.in_ok-write_lead.ensures.onward

pub returns-clause-linked : goal.returns-clause-linked
returns-clause-linked g c = λ tells.
    let s = g.S.Reads.state c.args.space.now in
    let s1 = g.S.Reads.state c.get.new.self in
    let s2 = g.S.Reads.state c.read_behind.new.space in
    let before : c.link-before.result ≡ prev_of s.records c.args.node c.args.rel =
    c.link-before.ensures ∙ ap (λ at. field 4 c.in_ok-rec.rec at) c.place_of-place.ensures.is ∙ ap (λ r. prev_in r c.args.node)
    (c.in_ok-rec.ensures.got tells) in
    let after : c.link-after.result ≡ next_of s.records c.args.node c.args.rel =
    c.link-after.ensures ∙ ap (λ at. field 4 c.in_ok-rec.rec (at + 4)) c.place_of-place.ensures.is ∙ ap (λ r. next_in r c.args.node)
    (c.in_ok-rec.ensures.got tells) in
    let read : AreRead s s1 s2 (head_of c.args.head) c.args.node c.args.rel c.link-before.result c.link-after.result c.in_ok-behind.behind c.in_ok-lead.lead =
    record {
      elsewhere = c.requires.head.place.elsewhere;
      key = c.requires.rel;
      is_before = before;
      is_after = after;
      one = c.in_ok-rec.ensures.state;
      two = c.in_ok-behind.ensures.state;
      got_behind = c.in_ok-behind.ensures.got tells;
      got_head = c.in_ok-lead.ensures.got_head tells;
      got_before = c.in_ok-lead.ensures.got_before tells;
      behind = c.in_ok-behind.ensures.linked tells;
      led = c.in_ok-lead.ensures.linked tells;
    } in
    linked s s1 s2 (head_of c.args.head) c.args.node c.args.rel c.link-before.result c.link-after.result c.in_ok-behind.behind c.in_ok-lead.lead read

pub returns-clause-ok : goal.returns-clause-ok
returns-clause-ok g c = λ tells.
    let s = g.S.Reads.state c.args.space.now in
    let s1 = g.S.Reads.state c.get.new.self in
    let s2 = g.S.Reads.state c.read_behind.new.space in
    let s3 = g.S.Reads.state c.read_lead.new.space in
    let s4 = g.S.Reads.state c.put.new.self in
    let s5 = g.S.Reads.state c.write_behind.new.space in
    let s6 = g.S.Reads.state c.write_lead.new.space in
    let before : c.link-before.result ≡ prev_of s.records c.args.node c.args.rel =
    c.link-before.ensures ∙ ap (λ at. field 4 c.in_ok-rec.rec at) c.place_of-place.ensures.is ∙ ap (λ r. prev_in r c.args.node)
    (c.in_ok-rec.ensures.got tells) in
    let after : c.link-after.result ≡ next_of s.records c.args.node c.args.rel =
    c.link-after.ensures ∙ ap (λ at. field 4 c.in_ok-rec.rec (at + 4)) c.place_of-place.ensures.is ∙ ap (λ r. next_in r c.args.node)
    (c.in_ok-rec.ensures.got tells) in
    let read : AreRead s s1 s2 (head_of c.args.head) c.args.node c.args.rel c.link-before.result c.link-after.result c.in_ok-behind.behind c.in_ok-lead.lead =
    record {
      elsewhere = c.requires.head.place.elsewhere;
      key = c.requires.rel;
      is_before = before;
      is_after = after;
      one = c.in_ok-rec.ensures.state;
      two = c.in_ok-behind.ensures.state;
      got_behind = c.in_ok-behind.ensures.got tells;
      got_head = c.in_ok-lead.ensures.got_head tells;
      got_before = c.in_ok-lead.ensures.got_before tells;
      behind = c.in_ok-behind.ensures.linked tells;
      led = c.in_ok-lead.ensures.linked tells;
    } in
    let one : c.set_link.new.self ≡ with_field 4 c.in_ok-rec.rec c.place_of-place.result nil = c.set_link.ensures.set in
    let two : c.set_link-2.new.self ≡ with_field 4 c.set_link.new.self (c.place_of-place.result + 4) nil = c.set_link-2.ensures.set in
    unlinked_is s s1 s2 (head_of c.args.head) c.args.node c.args.rel c.link-before.result c.link-after.result c.in_ok-behind.behind c.in_ok-lead.lead read s3 s4
    s5 s6 c.set_link-2.new.self
    c.in_ok-lead.ensures.state c.in_ok-put.ensures.ok
    (alone_is c.in_ok-rec.rec c.set_link.new.self c.set_link-2.new.self (s.records (rel_key c.args.rel)) c.args.node c.place_of-place.result
    c.place_of-place.ensures.is (c.in_ok-rec.ensures.got tells) one two)
    c.in_ok-write_behind.ensures.ok c.in_ok-write_lead.ensures.ok

pub returns-clause-chains : goal.returns-clause-chains
returns-clause-chains g c = λ tells xs can.
    let old = g.S.Reads.state c.args.space.now in
    let is : g.S.Reads.state c.write_lead.new.space ≡ unlinked old (head_of c.args.head) c.args.node c.args.rel = returns-clause-ok g c tells in
    subst (λ (new : State). HasUnlinked old.records new.records (head_of c.args.head) c.args.node c.args.rel xs) (sym is)
    (has_unlinked old (head_of c.args.head) c.args.node c.args.rel c.requires.head.place xs can)

pub returns-clause-hides : goal.returns-clause-hides
returns-clause-hides g c = λ tells.
    let old = g.S.Reads.state c.args.space.now in
    let is : g.S.Reads.state c.write_lead.new.space ≡ unlinked old (head_of c.args.head) c.args.node c.args.rel = returns-clause-ok g c tells in
    subst (λ (new : State). HidesNothing old.records new.records (head_of c.args.head) c.args.node c.args.rel) (sym is)
    (hides_nothing old (head_of c.args.head) c.args.node c.args.rel c.requires.head.place (some_rel c.args.rel c.requires.rel)
    (returns-clause-linked g c tells))

pub returns-clause-loses : goal.returns-clause-loses
returns-clause-loses g c = λ tells.
    let old = g.S.Reads.state c.args.space.now in
    let is : g.S.Reads.state c.write_lead.new.space ≡ unlinked old (head_of c.args.head) c.args.node c.args.rel = returns-clause-ok g c tells in
    subst (λ (new : State). LosesNoOther old.records new.records (head_of c.args.head) c.args.node c.args.rel) (sym is)
    (loses_no_other old (head_of c.args.head) c.args.node c.args.rel c.requires.head.place (some_rel c.args.rel c.requires.rel)
    (returns-clause-linked g c tells))

pub returns-in_err-test_link-clause-cause : goal.returns-in_err-test_link-clause-cause
returns-in_err-test_link-clause-cause g c =
    damage_cause _ _ c.from_residual-in_err-test_link.result c.in_err-test_link.field-0.0 c.in_ok-rec.ensures.cause.later
    c.from_residual-in_err-test_link.ensures.1

pub returns-in_err-test_link-2-clause-cause : goal.returns-in_err-test_link-2-clause-cause
returns-in_err-test_link-2-clause-cause g c =
    damage_cause _ _ c.from_residual-in_err-test_link-2.result c.in_err-test_link-2.field-0.0 c.in_ok-rec.ensures.cause.later
    c.from_residual-in_err-test_link-2.ensures.1

pub returns-in_err-behind-clause-cause : goal.returns-in_err-behind-clause-cause
returns-in_err-behind-clause-cause g c =
    let later0 = c.in_ok-rec.ensures.cause.later in
    cause_passed _ _ _ c.from_residual-in_err-behind.result c.in_err-behind.field-0.0 (omega (arith, later0)) c.in_err-behind.ensures.cause
    c.from_residual-in_err-behind.ensures.1

pub returns-in_err-lead-clause-cause : goal.returns-in_err-lead-clause-cause
returns-in_err-lead-clause-cause g c =
    let later0 = c.in_ok-rec.ensures.cause.later in
    let later1 = c.in_ok-behind.ensures.cause.later in
    cause_passed _ _ _ c.from_residual-in_err-lead.result c.in_err-lead.field-0.0 (omega (arith, later0, later1)) c.in_err-lead.ensures.cause
    c.from_residual-in_err-lead.ensures.1

pub returns-in_err-put-clause-cause : goal.returns-in_err-put-clause-cause
returns-in_err-put-clause-cause g c =
    let later0 = c.in_ok-rec.ensures.cause.later in
    let later1 = c.in_ok-behind.ensures.cause.later in
    let later2 = c.in_ok-lead.ensures.cause.later in
    space_cause_passed _ _ _ c.from_residual-in_err-put.result c.in_err-put.field-0.0 (omega (arith, later0, later1, later2)) c.in_err-put.ensures.cause
    c.from_residual-in_err-put.ensures.1

pub returns-in_err-write_behind-clause-cause : goal.returns-in_err-write_behind-clause-cause
returns-in_err-write_behind-clause-cause g c =
    let later0 = c.in_ok-rec.ensures.cause.later in
    let later1 = c.in_ok-behind.ensures.cause.later in
    let later2 = c.in_ok-lead.ensures.cause.later in
    let later3 = c.in_ok-put.ensures.cause.later in
    space_cause_passed _ _ _ c.from_residual-in_err-write_behind.result c.in_err-write_behind.field-0.0 (omega (arith, later0, later1, later2, later3))
    c.in_err-write_behind.ensures.cause c.from_residual-in_err-write_behind.ensures.1

pub returns-in_err-write_lead-clause-cause : goal.returns-in_err-write_lead-clause-cause
returns-in_err-write_lead-clause-cause g c =
    let later0 = c.in_ok-rec.ensures.cause.later in
    let later1 = c.in_ok-behind.ensures.cause.later in
    let later2 = c.in_ok-lead.ensures.cause.later in
    let later3 = c.in_ok-put.ensures.cause.later in
    let later4 = c.in_ok-write_behind.ensures.cause.later in
    space_cause_passed _ _ _ c.from_residual-in_err-write_lead.result c.in_err-write_lead.field-0.0 (omega (arith, later0, later1, later2, later3, later4))
    c.in_err-write_lead.ensures.cause c.from_residual-in_err-write_lead.ensures.1

pub returns-in_err-rec-clause-chains : goal.returns-in_err-rec-clause-chains
returns-in_err-rec-clause-chains g c _ = never_ok c.from_residual.result _ _ c.from_residual.ensures.1

pub returns-in_err-rec-clause-ok : goal.returns-in_err-rec-clause-ok
returns-in_err-rec-clause-ok g c _ = never_ok c.from_residual.result _ _ c.from_residual.ensures.1

pub returns-in_err-rec-clause-linked : goal.returns-in_err-rec-clause-linked
returns-in_err-rec-clause-linked g c _ = never_ok c.from_residual.result _ _ c.from_residual.ensures.1

pub returns-in_err-rec-clause-hides : goal.returns-in_err-rec-clause-hides
returns-in_err-rec-clause-hides g c _ = never_ok c.from_residual.result _ _ c.from_residual.ensures.1

pub returns-in_err-rec-clause-loses : goal.returns-in_err-rec-clause-loses
returns-in_err-rec-clause-loses g c _ = never_ok c.from_residual.result _ _ c.from_residual.ensures.1

pub returns-in_err-rec-clause-known_before : goal.returns-in_err-rec-clause-known_before
returns-in_err-rec-clause-known_before g c _ = never_ok c.from_residual.result _ _ c.from_residual.ensures.1

pub returns-in_err-rec-clause-known_after : goal.returns-in_err-rec-clause-known_after
returns-in_err-rec-clause-known_after g c _ = never_ok c.from_residual.result _ _ c.from_residual.ensures.1

pub returns-in_err-rec-clause-onward : goal.returns-in_err-rec-clause-onward
returns-in_err-rec-clause-onward g c = search rules

pub returns-in_err-test_link-clause-chains : goal.returns-in_err-test_link-clause-chains
returns-in_err-test_link-clause-chains g c _ = never_ok c.from_residual-in_err-test_link.result _ _ c.from_residual-in_err-test_link.ensures.1

pub returns-in_err-test_link-clause-ok : goal.returns-in_err-test_link-clause-ok
returns-in_err-test_link-clause-ok g c _ = never_ok c.from_residual-in_err-test_link.result _ _ c.from_residual-in_err-test_link.ensures.1

pub returns-in_err-test_link-clause-linked : goal.returns-in_err-test_link-clause-linked
returns-in_err-test_link-clause-linked g c _ = never_ok c.from_residual-in_err-test_link.result _ _ c.from_residual-in_err-test_link.ensures.1

pub returns-in_err-test_link-clause-hides : goal.returns-in_err-test_link-clause-hides
returns-in_err-test_link-clause-hides g c _ = never_ok c.from_residual-in_err-test_link.result _ _ c.from_residual-in_err-test_link.ensures.1

pub returns-in_err-test_link-clause-loses : goal.returns-in_err-test_link-clause-loses
returns-in_err-test_link-clause-loses g c _ = never_ok c.from_residual-in_err-test_link.result _ _ c.from_residual-in_err-test_link.ensures.1

pub returns-in_err-test_link-clause-known_before : goal.returns-in_err-test_link-clause-known_before
returns-in_err-test_link-clause-known_before g c _ = never_ok c.from_residual-in_err-test_link.result _ _ c.from_residual-in_err-test_link.ensures.1

pub returns-in_err-test_link-clause-known_after : goal.returns-in_err-test_link-clause-known_after
returns-in_err-test_link-clause-known_after g c _ = never_ok c.from_residual-in_err-test_link.result _ _ c.from_residual-in_err-test_link.ensures.1

pub returns-in_err-test_link-2-clause-chains : goal.returns-in_err-test_link-2-clause-chains
returns-in_err-test_link-2-clause-chains g c _ = never_ok c.from_residual-in_err-test_link-2.result _ _ c.from_residual-in_err-test_link-2.ensures.1

pub returns-in_err-test_link-2-clause-ok : goal.returns-in_err-test_link-2-clause-ok
returns-in_err-test_link-2-clause-ok g c _ = never_ok c.from_residual-in_err-test_link-2.result _ _ c.from_residual-in_err-test_link-2.ensures.1

pub returns-in_err-test_link-2-clause-linked : goal.returns-in_err-test_link-2-clause-linked
returns-in_err-test_link-2-clause-linked g c _ = never_ok c.from_residual-in_err-test_link-2.result _ _ c.from_residual-in_err-test_link-2.ensures.1

pub returns-in_err-test_link-2-clause-hides : goal.returns-in_err-test_link-2-clause-hides
returns-in_err-test_link-2-clause-hides g c _ = never_ok c.from_residual-in_err-test_link-2.result _ _ c.from_residual-in_err-test_link-2.ensures.1

pub returns-in_err-test_link-2-clause-loses : goal.returns-in_err-test_link-2-clause-loses
returns-in_err-test_link-2-clause-loses g c _ = never_ok c.from_residual-in_err-test_link-2.result _ _ c.from_residual-in_err-test_link-2.ensures.1

pub returns-in_err-test_link-2-clause-known_before : goal.returns-in_err-test_link-2-clause-known_before
returns-in_err-test_link-2-clause-known_before g c _ = never_ok c.from_residual-in_err-test_link-2.result _ _ c.from_residual-in_err-test_link-2.ensures.1

pub returns-in_err-test_link-2-clause-known_after : goal.returns-in_err-test_link-2-clause-known_after
returns-in_err-test_link-2-clause-known_after g c _ = never_ok c.from_residual-in_err-test_link-2.result _ _ c.from_residual-in_err-test_link-2.ensures.1

pub returns-in_err-behind-clause-chains : goal.returns-in_err-behind-clause-chains
returns-in_err-behind-clause-chains g c _ = never_ok c.from_residual-in_err-behind.result _ _ c.from_residual-in_err-behind.ensures.1

pub returns-in_err-behind-clause-ok : goal.returns-in_err-behind-clause-ok
returns-in_err-behind-clause-ok g c _ = never_ok c.from_residual-in_err-behind.result _ _ c.from_residual-in_err-behind.ensures.1

pub returns-in_err-behind-clause-linked : goal.returns-in_err-behind-clause-linked
returns-in_err-behind-clause-linked g c _ = never_ok c.from_residual-in_err-behind.result _ _ c.from_residual-in_err-behind.ensures.1

pub returns-in_err-behind-clause-hides : goal.returns-in_err-behind-clause-hides
returns-in_err-behind-clause-hides g c _ = never_ok c.from_residual-in_err-behind.result _ _ c.from_residual-in_err-behind.ensures.1

pub returns-in_err-behind-clause-loses : goal.returns-in_err-behind-clause-loses
returns-in_err-behind-clause-loses g c _ = never_ok c.from_residual-in_err-behind.result _ _ c.from_residual-in_err-behind.ensures.1

pub returns-in_err-behind-clause-known_before : goal.returns-in_err-behind-clause-known_before
returns-in_err-behind-clause-known_before g c _ = never_ok c.from_residual-in_err-behind.result _ _ c.from_residual-in_err-behind.ensures.1

pub returns-in_err-behind-clause-known_after : goal.returns-in_err-behind-clause-known_after
returns-in_err-behind-clause-known_after g c _ = never_ok c.from_residual-in_err-behind.result _ _ c.from_residual-in_err-behind.ensures.1

pub returns-in_err-lead-clause-chains : goal.returns-in_err-lead-clause-chains
returns-in_err-lead-clause-chains g c _ = never_ok c.from_residual-in_err-lead.result _ _ c.from_residual-in_err-lead.ensures.1

pub returns-in_err-lead-clause-ok : goal.returns-in_err-lead-clause-ok
returns-in_err-lead-clause-ok g c _ = never_ok c.from_residual-in_err-lead.result _ _ c.from_residual-in_err-lead.ensures.1

pub returns-in_err-lead-clause-linked : goal.returns-in_err-lead-clause-linked
returns-in_err-lead-clause-linked g c _ = never_ok c.from_residual-in_err-lead.result _ _ c.from_residual-in_err-lead.ensures.1

pub returns-in_err-lead-clause-hides : goal.returns-in_err-lead-clause-hides
returns-in_err-lead-clause-hides g c _ = never_ok c.from_residual-in_err-lead.result _ _ c.from_residual-in_err-lead.ensures.1

pub returns-in_err-lead-clause-loses : goal.returns-in_err-lead-clause-loses
returns-in_err-lead-clause-loses g c _ = never_ok c.from_residual-in_err-lead.result _ _ c.from_residual-in_err-lead.ensures.1

pub returns-in_err-lead-clause-known_before : goal.returns-in_err-lead-clause-known_before
returns-in_err-lead-clause-known_before g c _ = never_ok c.from_residual-in_err-lead.result _ _ c.from_residual-in_err-lead.ensures.1

pub returns-in_err-lead-clause-known_after : goal.returns-in_err-lead-clause-known_after
returns-in_err-lead-clause-known_after g c _ = never_ok c.from_residual-in_err-lead.result _ _ c.from_residual-in_err-lead.ensures.1

pub returns-in_err-put-clause-chains : goal.returns-in_err-put-clause-chains
returns-in_err-put-clause-chains g c _ = never_ok c.from_residual-in_err-put.result _ _ c.from_residual-in_err-put.ensures.1

pub returns-in_err-put-clause-ok : goal.returns-in_err-put-clause-ok
returns-in_err-put-clause-ok g c _ = never_ok c.from_residual-in_err-put.result _ _ c.from_residual-in_err-put.ensures.1

pub returns-in_err-put-clause-linked : goal.returns-in_err-put-clause-linked
returns-in_err-put-clause-linked g c _ = never_ok c.from_residual-in_err-put.result _ _ c.from_residual-in_err-put.ensures.1

pub returns-in_err-put-clause-hides : goal.returns-in_err-put-clause-hides
returns-in_err-put-clause-hides g c _ = never_ok c.from_residual-in_err-put.result _ _ c.from_residual-in_err-put.ensures.1

pub returns-in_err-put-clause-loses : goal.returns-in_err-put-clause-loses
returns-in_err-put-clause-loses g c _ = never_ok c.from_residual-in_err-put.result _ _ c.from_residual-in_err-put.ensures.1

pub returns-in_err-put-clause-known_before : goal.returns-in_err-put-clause-known_before
returns-in_err-put-clause-known_before g c _ = never_ok c.from_residual-in_err-put.result _ _ c.from_residual-in_err-put.ensures.1

pub returns-in_err-put-clause-known_after : goal.returns-in_err-put-clause-known_after
returns-in_err-put-clause-known_after g c _ = never_ok c.from_residual-in_err-put.result _ _ c.from_residual-in_err-put.ensures.1

pub returns-in_err-write_behind-clause-chains : goal.returns-in_err-write_behind-clause-chains
returns-in_err-write_behind-clause-chains g c _ = never_ok c.from_residual-in_err-write_behind.result _ _ c.from_residual-in_err-write_behind.ensures.1

pub returns-in_err-write_behind-clause-ok : goal.returns-in_err-write_behind-clause-ok
returns-in_err-write_behind-clause-ok g c _ = never_ok c.from_residual-in_err-write_behind.result _ _ c.from_residual-in_err-write_behind.ensures.1

pub returns-in_err-write_behind-clause-linked : goal.returns-in_err-write_behind-clause-linked
returns-in_err-write_behind-clause-linked g c _ = never_ok c.from_residual-in_err-write_behind.result _ _ c.from_residual-in_err-write_behind.ensures.1

pub returns-in_err-write_behind-clause-hides : goal.returns-in_err-write_behind-clause-hides
returns-in_err-write_behind-clause-hides g c _ = never_ok c.from_residual-in_err-write_behind.result _ _ c.from_residual-in_err-write_behind.ensures.1

pub returns-in_err-write_behind-clause-loses : goal.returns-in_err-write_behind-clause-loses
returns-in_err-write_behind-clause-loses g c _ = never_ok c.from_residual-in_err-write_behind.result _ _ c.from_residual-in_err-write_behind.ensures.1

pub returns-in_err-write_behind-clause-known_before : goal.returns-in_err-write_behind-clause-known_before
returns-in_err-write_behind-clause-known_before g c _ = never_ok c.from_residual-in_err-write_behind.result _ _ c.from_residual-in_err-write_behind.ensures.1

pub returns-in_err-write_behind-clause-known_after : goal.returns-in_err-write_behind-clause-known_after
returns-in_err-write_behind-clause-known_after g c _ = never_ok c.from_residual-in_err-write_behind.result _ _ c.from_residual-in_err-write_behind.ensures.1

pub returns-in_err-write_lead-clause-chains : goal.returns-in_err-write_lead-clause-chains
returns-in_err-write_lead-clause-chains g c _ = never_ok c.from_residual-in_err-write_lead.result _ _ c.from_residual-in_err-write_lead.ensures.1

pub returns-in_err-write_lead-clause-ok : goal.returns-in_err-write_lead-clause-ok
returns-in_err-write_lead-clause-ok g c _ = never_ok c.from_residual-in_err-write_lead.result _ _ c.from_residual-in_err-write_lead.ensures.1

pub returns-in_err-write_lead-clause-linked : goal.returns-in_err-write_lead-clause-linked
returns-in_err-write_lead-clause-linked g c _ = never_ok c.from_residual-in_err-write_lead.result _ _ c.from_residual-in_err-write_lead.ensures.1

pub returns-in_err-write_lead-clause-hides : goal.returns-in_err-write_lead-clause-hides
returns-in_err-write_lead-clause-hides g c _ = never_ok c.from_residual-in_err-write_lead.result _ _ c.from_residual-in_err-write_lead.ensures.1

pub returns-in_err-write_lead-clause-loses : goal.returns-in_err-write_lead-clause-loses
returns-in_err-write_lead-clause-loses g c _ = never_ok c.from_residual-in_err-write_lead.result _ _ c.from_residual-in_err-write_lead.ensures.1

pub returns-in_err-write_lead-clause-known_before : goal.returns-in_err-write_lead-clause-known_before
returns-in_err-write_lead-clause-known_before g c _ = never_ok c.from_residual-in_err-write_lead.result _ _ c.from_residual-in_err-write_lead.ensures.1

pub returns-in_err-write_lead-clause-known_after : goal.returns-in_err-write_lead-clause-known_after
returns-in_err-write_lead-clause-known_after g c _ = never_ok c.from_residual-in_err-write_lead.result _ _ c.from_residual-in_err-write_lead.ensures.1

-- ---- faults that name no record, and how far each exit has come

pub returns-in_err-rec-clause-damaged : goal.returns-in_err-rec-clause-damaged
returns-in_err-rec-clause-damaged g c _ = space_has _ tt tt c.from_residual.result c.in_err-rec.field-0.0 c.from_residual.ensures.1

pub returns-in_err-rec-clause-breaks : goal.returns-in_err-rec-clause-breaks
returns-in_err-rec-clause-breaks g c _ _ _ _ = space_has _ tt tt c.from_residual.result c.in_err-rec.field-0.0 c.from_residual.ensures.1

pub returns-in_err-rec-clause-not_damaged : goal.returns-in_err-rec-clause-not_damaged
returns-in_err-rec-clause-not_damaged g c _ _ _ _ _ = space_has _ tt tt c.from_residual.result c.in_err-rec.field-0.0 c.from_residual.ensures.1

pub returns-in_err-rec-clause-unwritten : goal.returns-in_err-rec-clause-unwritten
returns-in_err-rec-clause-unwritten g c = space_has _ tt tt c.from_residual.result c.in_err-rec.field-0.0 c.from_residual.ensures.1

pub returns-in_err-put-clause-damaged : goal.returns-in_err-put-clause-damaged
returns-in_err-put-clause-damaged g c _ = space_has _ tt tt c.from_residual-in_err-put.result c.in_err-put.field-0.0 c.from_residual-in_err-put.ensures.1

pub returns-in_err-put-clause-breaks : goal.returns-in_err-put-clause-breaks
returns-in_err-put-clause-breaks g c _ _ _ _ = space_has _ tt tt c.from_residual-in_err-put.result c.in_err-put.field-0.0 c.from_residual-in_err-put.ensures.1

pub returns-in_err-put-clause-not_damaged : goal.returns-in_err-put-clause-not_damaged
returns-in_err-put-clause-not_damaged g c _ _ _ _ _ =
    space_has _ tt tt c.from_residual-in_err-put.result c.in_err-put.field-0.0 c.from_residual-in_err-put.ensures.1

pub returns-in_err-put-clause-unwritten : goal.returns-in_err-put-clause-unwritten
returns-in_err-put-clause-unwritten g c = space_has _ tt tt c.from_residual-in_err-put.result c.in_err-put.field-0.0 c.from_residual-in_err-put.ensures.1

pub returns-in_err-write_behind-clause-damaged : goal.returns-in_err-write_behind-clause-damaged
returns-in_err-write_behind-clause-damaged g c _ = space_has _ tt tt c.from_residual-in_err-write_behind.result c.in_err-write_behind.field-0.0
    c.from_residual-in_err-write_behind.ensures.1

pub returns-in_err-write_behind-clause-breaks : goal.returns-in_err-write_behind-clause-breaks
returns-in_err-write_behind-clause-breaks g c _ _ _ _ = space_has _ tt tt c.from_residual-in_err-write_behind.result c.in_err-write_behind.field-0.0
    c.from_residual-in_err-write_behind.ensures.1

pub returns-in_err-write_behind-clause-not_damaged : goal.returns-in_err-write_behind-clause-not_damaged
returns-in_err-write_behind-clause-not_damaged g c _ _ _ _ _ = space_has _ tt tt c.from_residual-in_err-write_behind.result c.in_err-write_behind.field-0.0
    c.from_residual-in_err-write_behind.ensures.1

pub returns-in_err-write_behind-clause-unwritten : goal.returns-in_err-write_behind-clause-unwritten
returns-in_err-write_behind-clause-unwritten g c = space_has _ tt tt c.from_residual-in_err-write_behind.result c.in_err-write_behind.field-0.0
    c.from_residual-in_err-write_behind.ensures.1

pub returns-in_err-write_lead-clause-damaged : goal.returns-in_err-write_lead-clause-damaged
returns-in_err-write_lead-clause-damaged g c _ = space_has _ tt tt c.from_residual-in_err-write_lead.result c.in_err-write_lead.field-0.0
    c.from_residual-in_err-write_lead.ensures.1

pub returns-in_err-write_lead-clause-breaks : goal.returns-in_err-write_lead-clause-breaks
returns-in_err-write_lead-clause-breaks g c _ _ _ _ = space_has _ tt tt c.from_residual-in_err-write_lead.result c.in_err-write_lead.field-0.0
    c.from_residual-in_err-write_lead.ensures.1

pub returns-in_err-write_lead-clause-not_damaged : goal.returns-in_err-write_lead-clause-not_damaged
returns-in_err-write_lead-clause-not_damaged g c _ _ _ _ _ = space_has _ tt tt c.from_residual-in_err-write_lead.result c.in_err-write_lead.field-0.0
    c.from_residual-in_err-write_lead.ensures.1

pub returns-in_err-write_lead-clause-unwritten : goal.returns-in_err-write_lead-clause-unwritten
returns-in_err-write_lead-clause-unwritten g c = space_has _ tt tt c.from_residual-in_err-write_lead.result c.in_err-write_lead.field-0.0
    c.from_residual-in_err-write_lead.ensures.1

pub returns-in_err-rec-clause-neighbours : goal.returns-in_err-rec-clause-neighbours
returns-in_err-rec-clause-neighbours g c _ = writes_none (g.S.Reads.state c.args.space.now) (g.S.Reads.state c.get.new.self) _ (ap (λ (t : State). t.written)
    c.in_err-rec.ensures.state)

pub returns-in_err-rec-clause-cause : goal.returns-in_err-rec-clause-cause
returns-in_err-rec-clause-cause g c =
    space_cause_passed _ _ _ c.from_residual.result c.in_err-rec.field-0.0 (omega arith) c.in_err-rec.ensures.cause c.from_residual.ensures.1

pub returns-in_err-test_link-clause-neighbours : goal.returns-in_err-test_link-clause-neighbours
returns-in_err-test_link-clause-neighbours g c _ = writes_none (g.S.Reads.state c.args.space.now) (g.S.Reads.state c.get.new.self) _
    (ap (λ (t : State). t.written) c.in_ok-rec.ensures.state)

pub returns-in_err-test_link-clause-writes : goal.returns-in_err-test_link-clause-writes
returns-in_err-test_link-clause-writes g c = (
  0,
  0,
  writes_none (g.S.Reads.state c.args.space.now) (g.S.Reads.state c.get.new.self) _
      (ap (λ (t : State). t.written) c.in_ok-rec.ensures.state),
)

pub returns-in_err-test_link-clause-onward : goal.returns-in_err-test_link-clause-onward
returns-in_err-test_link-clause-onward g c = c.in_ok-rec.ensures.onward

pub returns-in_err-test_link-2-clause-neighbours : goal.returns-in_err-test_link-2-clause-neighbours
returns-in_err-test_link-2-clause-neighbours g c _ = writes_none (g.S.Reads.state c.args.space.now) (g.S.Reads.state c.get.new.self) _
    (ap (λ (t : State). t.written) c.in_ok-rec.ensures.state)

pub returns-in_err-test_link-2-clause-writes : goal.returns-in_err-test_link-2-clause-writes
returns-in_err-test_link-2-clause-writes g c = (
  0,
  0,
  writes_none (g.S.Reads.state c.args.space.now) (g.S.Reads.state c.get.new.self) _
      (ap (λ (t : State). t.written) c.in_ok-rec.ensures.state),
)

pub returns-in_err-test_link-2-clause-onward : goal.returns-in_err-test_link-2-clause-onward
returns-in_err-test_link-2-clause-onward g c = c.in_ok-rec.ensures.onward

pub returns-in_err-behind-clause-onward : goal.returns-in_err-behind-clause-onward
returns-in_err-behind-clause-onward g c = g.met.S.Reads.further_onward _ _ _ c.in_ok-rec.ensures.onward c.in_err-behind.ensures.onward

pub returns-in_err-lead-clause-onward : goal.returns-in_err-lead-clause-onward
returns-in_err-lead-clause-onward g c = g.met.S.Reads.further_onward _ _ _ (g.met.S.Reads.further_onward _ _ _ c.in_ok-rec.ensures.onward
    c.in_ok-behind.ensures.onward) c.in_err-lead.ensures.onward

pub returns-in_err-put-clause-onward : goal.returns-in_err-put-clause-onward
returns-in_err-put-clause-onward g c = g.met.S.Reads.further_onward _ _ _ (g.met.S.Reads.further_onward _ _ _ (g.met.S.Reads.further_onward _ _ _
    c.in_ok-rec.ensures.onward c.in_ok-behind.ensures.onward) c.in_ok-lead.ensures.onward) c.in_err-put.ensures.onward

pub returns-in_err-write_behind-clause-onward : goal.returns-in_err-write_behind-clause-onward
returns-in_err-write_behind-clause-onward g c = g.met.S.Reads.further_onward _ _ _ (g.met.S.Reads.further_onward _ _ _ (g.met.S.Reads.further_onward _ _ _
    (g.met.S.Reads.further_onward _ _ _ c.in_ok-rec.ensures.onward c.in_ok-behind.ensures.onward) c.in_ok-lead.ensures.onward) c.in_ok-put.ensures.onward)
    c.in_err-write_behind.ensures.onward
