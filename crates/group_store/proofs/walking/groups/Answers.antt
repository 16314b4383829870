use Rattle.std.proofs.Common.{◌≡◌, ◌-◌, ◌+◌, suc, length, [], ◌++◌, ◌∷◌, ap, ◌∙◌, sym, subst, arith}
use Rattle.std.proofs.lemmas.List.{length-map, length_push}
use Rattle.std.proofs.lemmas.Result.{err_from_is_err_and}
use Rattle.rec_bytes.specs.declared.meta.Meta.{Meta}
use Rattle.rec_bytes.proofs.Spaces.{after_gets-zero}
use Rattle.group_store.specs.GroupRecord.{row_of}
use Rattle.group_store.specs.Loading.{group_mark}
use Rattle.group_store.specs.Walking.{IsWalkDamage, group_row_at}
use Rattle.group_store.specs.Walking.IsWalkDamage.{NoList}
use Rattle.group_store.proofs.GroupWalks.{few_groups, few_owned, few_next, few_then, left_more, left_none, link_then}
use Rattle.group_store.proofs.GroupWalks.{member_then, passed_all, passed_more, passed_none, read_next, reads_more}
use Rattle.group_store.proofs.GroupWalks.{reads_so_far, rec_then, rows_more, not_damaged_at, undamaged, walk_fault}
use Rattle.group_store.proofs.Causes.{cause_passed, later_on, memory_cause}
use Rattle.rec_bytes.proofs.Causes.{never_ok}
use Rattle.chain_edit.proofs.Causes.{same_has}
use Rattle.group_store.proofs.walking.groups.Goals as goal

pub loop-init : goal.loop-init
loop-init g c =
    let s = g.R.Reads.state c.args.space.now in
    let none = c.new-rows.ensures.items in
    let mark : c.meta-budget.result.high ≡ group_mark s = ap (λ (m : Meta). m.high) c.meta-budget.ensures in
    record {
      met = λ tells. ([], passed_none s.records c.args.row.now.id c.args.row.now.first, none);
      left = λ tells xs walk few. (xs, walk, omega arith, λ g i. i);
      count = ap length none;
      read = rw none (sym (after_gets-zero s));
      onward = g.met.R.Reads.stays_onward c.args.space.now;
      later = omega arith;
    }

pub loop-preserved : goal.loop-preserved
loop-preserved g c =
    let s = g.R.Reads.state c.args.space.now in
    let now = g.R.Reads.state c.loop.space in
    let rows = c.loop.rows.items in
    let some = c.if-at.false in
    let less : c.meta-budget.result.high - c.loop.counter ≡ suc (c.meta-budget.result.high - (c.loop.counter + 1)) = let lt = c.loop-test.true in omega arith in
    let one_more : length c.push.new.self.items ≡ length rows + 1 = ap length c.in_ok-push.ensures.items ∙ length_push rows c.row_of.result in
    record {
      met = λ tells.
          let met = c.loop.invariant.met tells in
          let member = member_then s now (length rows) c.args.row.now.id c.loop.at c.loop.invariant.read (c.in_ok-rec.ensures.member tells) in
          let got = rec_then s now (length rows) c.loop.at c.in_ok-rec.rec c.loop.invariant.read (c.in_ok-rec.ensures.got tells) in
          let link = link_then s now (length rows) c.loop.at c.number-at.result c.in_ok-rec.rec c.loop.invariant.read (c.in_ok-rec.ensures.got tells)
          c.number-at.ensures in (
            met.0 ++ c.loop.at ∷ [],
            passed_more s.records c.args.row.now.id c.args.row.now.first c.loop.at c.number-at.result met.0 some member link met.1,
            c.in_ok-push.ensures.items ∙ rows_more s.records met.0 rows c.row_of.result c.loop.at (c.row_of.ensures ∙ ap (λ r. row_of r c.loop.at) got) met.2,
          );
      left = λ tells xs walk few.
          let link = link_then s now (length rows) c.loop.at c.number-at.result c.in_ok-rec.rec c.loop.invariant.read (c.in_ok-rec.ensures.got tells)
          c.number-at.ensures in
          left_more s.records (c.meta-budget.result.high - c.loop.counter) (c.meta-budget.result.high - (c.loop.counter + 1)) c.loop.at c.number-at.result xs
          less some link (c.loop.invariant.left tells xs walk few);
      count = one_more ∙ ap (λ n. n + 1) c.loop.invariant.count;
      read = read_next s now (g.R.Reads.state c.read_member.new.space) (length rows) (length c.push.new.self.items) one_more c.loop.invariant.read
          c.in_ok-rec.ensures.read;
      onward = g.met.R.Reads.further_onward c.args.space.now c.loop.space c.read_member.new.space c.loop.invariant.onward c.in_ok-rec.ensures.onward;
      later = let cause = c.in_ok-rec.ensures.cause in omega (arith, c.loop.invariant.later, cause.later);
    }

pub returns-then-at-clause-rows : goal.returns-then-at-clause-rows
returns-then-at-clause-rows g c = λ tells.
    let s = g.R.Reads.state c.args.space.now in
    let met = c.loop.invariant.met tells in
    record { members = met.0; list = passed_all s.records c.args.row.now.id c.args.row.now.first c.loop.at met.0 c.if-at.true met.1; are = met.2 }

pub returns-clause-rows : goal.returns-clause-rows
returns-clause-rows g c = λ tells.
    let s = g.R.Reads.state c.args.space.now in
    let met = c.loop.invariant.met tells in
    record { members = met.0; list = passed_all s.records c.args.row.now.id c.args.row.now.first c.loop.at met.0 c.if-at-2.false met.1; are = met.2 }

pub returns-in_err-rec-clause-at_most : goal.returns-in_err-rec-clause-at_most
returns-in_err-rec-clause-at_most g c =
    let s = g.R.Reads.state c.args.space.now in
    let mark : c.meta-budget.result.high ≡ group_mark s = ap (λ (m : Meta). m.high) c.meta-budget.ensures in
    let lt = c.loop-test.true in
    let count = c.loop.invariant.count in
    reads_more s (g.R.Reads.state c.loop.space) (g.R.Reads.state c.read_member.new.space) (length c.loop.rows.items) 1 (group_mark s) (omega arith)
    c.loop.invariant.read c.in_err-rec.ensures.at_most

pub returns-in_err-push-clause-at_most : goal.returns-in_err-push-clause-at_most
returns-in_err-push-clause-at_most g c =
    let s = g.R.Reads.state c.args.space.now in
    let mark : c.meta-budget.result.high ≡ group_mark s = ap (λ (m : Meta). m.high) c.meta-budget.ensures in
    let lt = c.loop-test.true in
    let count = c.loop.invariant.count in
    reads_more s (g.R.Reads.state c.loop.space) (g.R.Reads.state c.read_member.new.space) (length c.loop.rows.items) 1 (group_mark s) (omega arith)
    c.loop.invariant.read c.in_ok-rec.ensures.at_most

pub returns-in_err-rec-clause-damaged : goal.returns-in_err-rec-clause-damaged
returns-in_err-rec-clause-damaged g c = λ tells.
    let s = g.R.Reads.state c.args.space.now in
    let p = err_from_is_err_and c.from_residual.result c.from_residual.ensures.1 in
    rw (p.1, p.2) (walk_fault s (g.R.Reads.state c.loop.space) (length c.loop.rows.items) c.args.row.now.id c.args.row.now.first
    (c.meta-budget.result.high - c.loop.counter) c.loop.at c.in_err-rec.field-0.0
    c.loop.invariant.read c.if-at.false (c.loop.invariant.left tells) (c.in_err-rec.ensures.damaged tells))

pub returns-in_err-rec-clause-not_damaged : goal.returns-in_err-rec-clause-not_damaged
returns-in_err-rec-clause-not_damaged g c = λ tells xs can.
    let s = g.R.Reads.state c.args.space.now in
    let p = err_from_is_err_and c.from_residual.result c.from_residual.ensures.1 in
    not_damaged_at c.from_residual.result p.0 c.in_err-rec.field-0.0 p.1 p.2 (undamaged s c.args.row.now.id c.args.row.now.first xs c.in_err-rec.field-0.0 can
    (walk_fault s (g.R.Reads.state c.loop.space) (length c.loop.rows.items) c.args.row.now.id c.args.row.now.first (c.meta-budget.result.high - c.loop.counter)
    c.loop.at c.in_err-rec.field-0.0
    c.loop.invariant.read c.if-at.false (c.loop.invariant.left tells) (c.in_err-rec.ensures.damaged tells)))

pub returns-then-at-2-clause-damaged : goal.returns-then-at-2-clause-damaged
returns-then-at-2-clause-damaged g c = λ tells.
    let s = g.R.Reads.state c.args.space.now in
    let ge = c.loop-test.false in
    subst (IsWalkDamage s c.args.row.now.id c.args.row.now.first) (sym c.chain_damage.ensures)
    (NoList (λ xs list. c.if-at-2.true (left_none s.records (c.meta-budget.result.high - c.loop.counter) c.loop.at xs (omega arith)
    (c.loop.invariant.left tells xs list.walk (few_owned s.records c.args.row.now.id c.args.row.now.first xs list)))))

pub returns-then-at-clause-few_reads : goal.returns-then-at-clause-few_reads
returns-then-at-clause-few_reads g c = λ tells xs can.
    let s = g.R.Reads.state c.args.space.now in
    let met = c.loop.invariant.met tells in
    let few = few_then s.records c.args.row.now.id c.args.row.now.first c.loop.at (c.meta-budget.result.high - c.loop.counter) met.0 xs met.1
    (c.loop.invariant.left tells xs can.list.walk (few_groups s.records c.args.row.now.id c.args.row.now.first xs can.list)) can.list.walk in
    let long = ap length met.2 ∙ length-map met.0 (group_row_at s.records) in
    reads_so_far s (g.R.Reads.state c.loop.space) (length c.loop.rows.items) (length xs) (omega arith) c.loop.invariant.read

pub returns-then-at-2-clause-few_reads : goal.returns-then-at-2-clause-few_reads
returns-then-at-2-clause-few_reads g c = λ tells xs can.
    let s = g.R.Reads.state c.args.space.now in
    let met = c.loop.invariant.met tells in
    let few = few_then s.records c.args.row.now.id c.args.row.now.first c.loop.at (c.meta-budget.result.high - c.loop.counter) met.0 xs met.1
    (c.loop.invariant.left tells xs can.list.walk (few_groups s.records c.args.row.now.id c.args.row.now.first xs can.list)) can.list.walk in
    let long = ap length met.2 ∙ length-map met.0 (group_row_at s.records) in
    reads_so_far s (g.R.Reads.state c.loop.space) (length c.loop.rows.items) (length xs) (omega arith) c.loop.invariant.read

pub returns-clause-few_reads : goal.returns-clause-few_reads
returns-clause-few_reads g c = λ tells xs can.
    let s = g.R.Reads.state c.args.space.now in
    let met = c.loop.invariant.met tells in
    let few = few_then s.records c.args.row.now.id c.args.row.now.first c.loop.at (c.meta-budget.result.high - c.loop.counter) met.0 xs met.1
    (c.loop.invariant.left tells xs can.list.walk (few_groups s.records c.args.row.now.id c.args.row.now.first xs can.list)) can.list.walk in
    let long = ap length met.2 ∙ length-map met.0 (group_row_at s.records) in
    reads_so_far s (g.R.Reads.state c.loop.space) (length c.loop.rows.items) (length xs) (omega arith) c.loop.invariant.read

pub returns-in_err-rec-clause-few_reads : goal.returns-in_err-rec-clause-few_reads
returns-in_err-rec-clause-few_reads g c = λ tells xs can.
    let s = g.R.Reads.state c.args.space.now in
    let met = c.loop.invariant.met tells in
    let few = few_next s.records c.args.row.now.id c.args.row.now.first c.loop.at (c.meta-budget.result.high - c.loop.counter) met.0 xs c.if-at.false met.1
    (c.loop.invariant.left tells xs can.list.walk (few_groups s.records c.args.row.now.id c.args.row.now.first xs can.list)) can.list.walk in
    let long = ap length met.2 ∙ length-map met.0 (group_row_at s.records) in
    reads_more s (g.R.Reads.state c.loop.space) (g.R.Reads.state c.read_member.new.space) (length c.loop.rows.items) 1 (length xs) (omega arith)
    c.loop.invariant.read c.in_err-rec.ensures.at_most

pub returns-in_err-push-clause-few_reads : goal.returns-in_err-push-clause-few_reads
returns-in_err-push-clause-few_reads g c = λ tells xs can.
    let s = g.R.Reads.state c.args.space.now in
    let met = c.loop.invariant.met tells in
    let few = few_next s.records c.args.row.now.id c.args.row.now.first c.loop.at (c.meta-budget.result.high - c.loop.counter) met.0 xs c.if-at.false met.1
    (c.loop.invariant.left tells xs can.list.walk (few_groups s.records c.args.row.now.id c.args.row.now.first xs can.list)) can.list.walk in
    let long = ap length met.2 ∙ length-map met.0 (group_row_at s.records) in
    reads_more s (g.R.Reads.state c.loop.space) (g.R.Reads.state c.read_member.new.space) (length c.loop.rows.items) 1 (length xs) (omega arith)
    c.loop.invariant.read c.in_ok-rec.ensures.at_most

pub returns-then-at-2-clause-not_damaged : goal.returns-then-at-2-clause-not_damaged
returns-then-at-2-clause-not_damaged g c = λ tells xs can.
    let s = g.R.Reads.state c.args.space.now in
    let ge = c.loop-test.false in
    absurd (c.if-at-2.true (left_none s.records (c.meta-budget.result.high - c.loop.counter) c.loop.at xs (omega arith)
    (c.loop.invariant.left tells xs can.list.walk (few_groups s.records c.args.row.now.id c.args.row.now.first xs can.list))))

pub returns-in_err-rec-clause-cause : goal.returns-in_err-rec-clause-cause
returns-in_err-rec-clause-cause g c =
    cause_passed _ _ _ c.from_residual.result c.in_err-rec.field-0.0 c.loop.invariant.later c.in_err-rec.ensures.cause c.from_residual.ensures.1

pub returns-in_err-push-clause-cause : goal.returns-in_err-push-clause-cause
returns-in_err-push-clause-cause g c =
    memory_cause _ _ c.from_residual-in_err-push.result (later_on c.loop.invariant.later c.in_ok-rec.ensures.cause.later) c.from_residual-in_err-push.ensures.1

pub returns-in_err-rec-clause-rows : goal.returns-in_err-rec-clause-rows
returns-in_err-rec-clause-rows g c _ = never_ok c.from_residual.result _ _ c.from_residual.ensures.1

pub returns-in_err-rec-clause-reads : goal.returns-in_err-rec-clause-reads
returns-in_err-rec-clause-reads g c = never_ok c.from_residual.result _ _ c.from_residual.ensures.1

pub returns-in_err-push-clause-rows : goal.returns-in_err-push-clause-rows
returns-in_err-push-clause-rows g c _ = never_ok c.from_residual-in_err-push.result _ _ c.from_residual-in_err-push.ensures.1

pub returns-in_err-push-clause-reads : goal.returns-in_err-push-clause-reads
returns-in_err-push-clause-reads g c = never_ok c.from_residual-in_err-push.result _ _ c.from_residual-in_err-push.ensures.1

pub returns-in_err-push-clause-damaged : goal.returns-in_err-push-clause-damaged
returns-in_err-push-clause-damaged g c _ = same_has _ c.from_residual-in_err-push.result _ c.from_residual-in_err-push.ensures.1 tt

pub returns-in_err-push-clause-not_damaged : goal.returns-in_err-push-clause-not_damaged
returns-in_err-push-clause-not_damaged g c _ _ _ = same_has _ c.from_residual-in_err-push.result _ c.from_residual-in_err-push.ensures.1 tt

pub returns-in_err-rec-clause-onward : goal.returns-in_err-rec-clause-onward
returns-in_err-rec-clause-onward g c = g.met.R.Reads.further_onward _ _ _ c.loop.invariant.onward c.in_err-rec.ensures.onward

pub returns-in_err-push-clause-onward : goal.returns-in_err-push-clause-onward
returns-in_err-push-clause-onward g c = g.met.R.Reads.further_onward _ _ _ c.loop.invariant.onward c.in_ok-rec.ensures.onward
