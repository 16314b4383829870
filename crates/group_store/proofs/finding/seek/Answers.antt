use Rattle.std.proofs.Common.{◌≡◌, ◌-◌, ◌+◌, suc, length, [], ◌++◌, ◌∷◌, refl, ap, ◌∙◌, sym, subst, arith}
use Rattle.std.proofs.lemmas.List.{length_push}
use Rattle.std.proofs.lemmas.Result.{err_from_is_err_and}
use Rattle.rec_bytes.specs.declared.meta.Meta.{Meta}
use Rattle.rec_bytes.proofs.Spaces.{after_gets-zero}
use Rattle.store_rules.specs.Breaking.IsOnChain.{First, Next}
use Rattle.store_rules.specs.Chains.{In}
use Rattle.group_store.proofs.GroupRules.{group_owned}
use Rattle.group_store.specs.declared.group_row.GroupRow.{GroupRow}
use Rattle.group_store.specs.Finding.{IsReached}
use Rattle.group_store.specs.GroupChain.{up_to_type}
use Rattle.group_store.specs.Loading.{group_mark}
use Rattle.group_store.specs.Walking.{IsWalkDamage}
use Rattle.group_store.specs.Walking.IsWalkDamage.{NoList}
use Rattle.group_store.proofs.GroupWalks.{few_groups, few_owned, left_more, left_none, link_then, member_then}
use Rattle.group_store.proofs.GroupWalks.{not_damaged_at, passed_all, passed_more, passed_none, read_next, reads_more}
use Rattle.group_store.proofs.GroupWalks.{reads_so_far, rec_then, undamaged, walk_fault}
use Rattle.group_store.proofs.Seeks.{group_found, lacks_more, lacks_none, passed_few, passed_fewer, type_then}
use Rattle.group_store.proofs.Causes.{cause_passed}
use Rattle.rec_bytes.proofs.Causes.{never_ok}
use Rattle.group_store.proofs.finding.seek.Goals as goal

pub loop-init : goal.loop-init
loop-init g c =
    let s = g.R.Reads.state c.args.space.now in
    let mark : c.meta-budget.result.high ≡ group_mark s = ap (λ (m : Meta). m.high) c.meta-budget.ensures in
    record {
      met = λ tells. ([], passed_none s.records c.args.node c.args.first, lacks_none s.records c.args.label, refl);
      left = λ tells xs walk few. (xs, walk, omega arith, λ g i. i);
      on = λ tells is dense own. First c.args.first dense (sym is) own;
      reached = λ tells groups first next. first;
      read = sym (after_gets-zero s);
      onward = g.met.R.Reads.stays_onward c.args.space.now;
      later = omega arith;
    }

pub loop-preserved : goal.loop-preserved
loop-preserved g c =
    let s = g.R.Reads.state c.args.space.now in
    let now = g.R.Reads.state c.loop.space in
    let some = c.if-at.false in
    let less : c.meta-budget.result.high - c.loop.counter ≡ suc (c.meta-budget.result.high - (c.loop.counter + 1)) = let lt = c.loop-test.true in omega arith in
    record {
      met = λ tells.
          let met = c.loop.invariant.met tells in
          let member = member_then s now c.loop.counter c.args.node c.loop.at c.loop.invariant.read (c.in_ok-rec.ensures.member tells) in
          let got = rec_then s now c.loop.counter c.loop.at c.in_ok-rec.rec c.loop.invariant.read (c.in_ok-rec.ensures.got tells) in
          let link = link_then s now c.loop.counter c.loop.at c.number-at.result c.in_ok-rec.rec c.loop.invariant.read (c.in_ok-rec.ensures.got tells)
          c.number-at.ensures in
          let typed = type_then s now c.loop.counter c.loop.at c.args.label c.in_ok-rec.rec c.number.result got c.number.ensures in (
            met.0 ++ c.loop.at ∷ [],
            passed_more s.records c.args.node c.args.first c.loop.at c.number-at.result met.0 some member link met.1,
            lacks_more s.records c.args.label c.loop.at met.0 (λ e. c.if-number-label.false (typed ∙ e)) met.2,
            length_push met.0 c.loop.at ∙ ap (λ n. n + 1) met.3,
          );
      left = λ tells xs walk few.
          let link = link_then s now c.loop.counter c.loop.at c.number-at.result c.in_ok-rec.rec c.loop.invariant.read (c.in_ok-rec.ensures.got tells)
          c.number-at.ensures in
          left_more s.records (c.meta-budget.result.high - c.loop.counter) (c.meta-budget.result.high - (c.loop.counter + 1)) c.loop.at c.number-at.result xs
          less some link (c.loop.invariant.left tells xs walk few);
      on = λ tells is dense own.
          let link = link_then s now c.loop.counter c.loop.at c.number-at.result c.in_ok-rec.rec c.loop.invariant.read (c.in_ok-rec.ensures.got tells)
          c.number-at.ensures in
          let member = member_then s now c.loop.counter c.args.node c.loop.at c.loop.invariant.read (c.in_ok-rec.ensures.member tells) in
          Next c.loop.at c.number-at.result (c.loop.invariant.on tells is dense (group_owned s.records c.args.node c.loop.at member)) (sym link) own;
      reached = λ tells groups first next.
          let link = link_then s now c.loop.counter c.loop.at c.number-at.result c.in_ok-rec.rec c.loop.invariant.read (c.in_ok-rec.ensures.got tells)
          c.number-at.ensures in
          subst (λ z. In z groups) (sym link) (next c.loop.at (c.loop.invariant.reached tells groups first next) some);
      read = read_next s now (g.R.Reads.state c.read_member.new.space) c.loop.counter (c.loop.counter + 1) refl c.loop.invariant.read c.in_ok-rec.ensures.read;
      onward = g.met.R.Reads.further_onward c.args.space.now c.loop.space c.read_member.new.space c.loop.invariant.onward c.in_ok-rec.ensures.onward;
      later = let cause = c.in_ok-rec.ensures.cause in omega (arith, c.loop.invariant.later, cause.later);
    }

pub returns-then-at-clause-found : goal.returns-then-at-clause-found
returns-then-at-clause-found g c = λ tells.
    let s = g.R.Reads.state c.args.space.now in
    let met = c.loop.invariant.met tells in
    (met.0, passed_all s.records c.args.node c.args.first c.loop.at met.0 c.if-at.true met.1, met.2)

pub returns-clause-found : goal.returns-clause-found
returns-clause-found g c = λ tells.
    let s = g.R.Reads.state c.args.space.now in
    let met = c.loop.invariant.met tells in
    (met.0, passed_all s.records c.args.node c.args.first c.loop.at met.0 c.if-at-2.false met.1, met.2)

pub returns-then-at-clause-reads : goal.returns-then-at-clause-reads
returns-then-at-clause-reads g c = λ tells xs can.
    let s = g.R.Reads.state c.args.space.now in
    let met = c.loop.invariant.met tells in
    let few = passed_few s.records c.args.node c.args.first c.loop.at c.args.label _ met.0 xs met.1 met.2 can.list
    (c.loop.invariant.left tells xs can.list.walk (few_groups s.records c.args.node c.args.first xs can.list)) in
    reads_so_far s (g.R.Reads.state c.loop.space) c.loop.counter (length (up_to_type s.records c.args.label xs)) (omega (arith, few, met.3))
    c.loop.invariant.read

pub returns-clause-reads : goal.returns-clause-reads
returns-clause-reads g c = λ tells xs can.
    let s = g.R.Reads.state c.args.space.now in
    let met = c.loop.invariant.met tells in
    let few = passed_few s.records c.args.node c.args.first c.loop.at c.args.label _ met.0 xs met.1 met.2 can.list
    (c.loop.invariant.left tells xs can.list.walk (few_groups s.records c.args.node c.args.first xs can.list)) in
    reads_so_far s (g.R.Reads.state c.loop.space) c.loop.counter (length (up_to_type s.records c.args.label xs)) (omega (arith, few, met.3))
    c.loop.invariant.read

pub returns-in_err-rec-clause-reads : goal.returns-in_err-rec-clause-reads
returns-in_err-rec-clause-reads g c = λ tells xs can.
    let s = g.R.Reads.state c.args.space.now in
    let met = c.loop.invariant.met tells in
    let few = passed_fewer s.records c.args.node c.args.first c.loop.at c.args.label _ met.0 xs c.if-at.false met.1 met.2 can.list
    (c.loop.invariant.left tells xs can.list.walk (few_groups s.records c.args.node c.args.first xs can.list)) in
    reads_more s (g.R.Reads.state c.loop.space) (g.R.Reads.state c.read_member.new.space) c.loop.counter 1 (length (up_to_type s.records c.args.label xs))
    (omega (arith, few, met.3)) c.loop.invariant.read c.in_err-rec.ensures.at_most

pub returns-then-number-label-clause-reads : goal.returns-then-number-label-clause-reads
returns-then-number-label-clause-reads g c = λ tells xs can.
    let s = g.R.Reads.state c.args.space.now in
    let met = c.loop.invariant.met tells in
    let few = passed_fewer s.records c.args.node c.args.first c.loop.at c.args.label _ met.0 xs c.if-at.false met.1 met.2 can.list
    (c.loop.invariant.left tells xs can.list.walk (few_groups s.records c.args.node c.args.first xs can.list)) in
    reads_more s (g.R.Reads.state c.loop.space) (g.R.Reads.state c.read_member.new.space) c.loop.counter 1 (length (up_to_type s.records c.args.label xs))
    (omega (arith, few, met.3)) c.loop.invariant.read c.in_ok-rec.ensures.at_most

pub returns-in_err-rec-clause-at_most : goal.returns-in_err-rec-clause-at_most
returns-in_err-rec-clause-at_most g c =
    let s = g.R.Reads.state c.args.space.now in
    let mark : c.meta-budget.result.high ≡ group_mark s = ap (λ (m : Meta). m.high) c.meta-budget.ensures in
    let lt = c.loop-test.true in
    reads_more s (g.R.Reads.state c.loop.space) (g.R.Reads.state c.read_member.new.space) c.loop.counter 1 (group_mark s) (omega arith) c.loop.invariant.read
    c.in_err-rec.ensures.at_most

pub returns-then-number-label-clause-at_most : goal.returns-then-number-label-clause-at_most
returns-then-number-label-clause-at_most g c =
    let s = g.R.Reads.state c.args.space.now in
    let mark : c.meta-budget.result.high ≡ group_mark s = ap (λ (m : Meta). m.high) c.meta-budget.ensures in
    let lt = c.loop-test.true in
    reads_more s (g.R.Reads.state c.loop.space) (g.R.Reads.state c.read_member.new.space) c.loop.counter 1 (group_mark s) (omega arith) c.loop.invariant.read
    c.in_ok-rec.ensures.at_most

pub returns-in_err-rec-clause-damaged : goal.returns-in_err-rec-clause-damaged
returns-in_err-rec-clause-damaged g c = λ tells.
    let s = g.R.Reads.state c.args.space.now in
    let p = err_from_is_err_and c.from_residual.result c.from_residual.ensures.1 in
    rw (p.1, p.2) (walk_fault s (g.R.Reads.state c.loop.space) c.loop.counter c.args.node c.args.first (c.meta-budget.result.high - c.loop.counter)
    c.loop.at c.in_err-rec.field-0.0
    c.loop.invariant.read c.if-at.false (c.loop.invariant.left tells) (c.in_err-rec.ensures.damaged tells))

pub returns-in_err-rec-clause-not_damaged : goal.returns-in_err-rec-clause-not_damaged
returns-in_err-rec-clause-not_damaged g c = λ tells xs can.
    let s = g.R.Reads.state c.args.space.now in
    let p = err_from_is_err_and c.from_residual.result c.from_residual.ensures.1 in
    not_damaged_at c.from_residual.result p.0 c.in_err-rec.field-0.0 p.1 p.2 (undamaged s c.args.node c.args.first xs c.in_err-rec.field-0.0 can
    (walk_fault s (g.R.Reads.state c.loop.space) c.loop.counter c.args.node c.args.first (c.meta-budget.result.high - c.loop.counter)
    c.loop.at c.in_err-rec.field-0.0
    c.loop.invariant.read c.if-at.false (c.loop.invariant.left tells) (c.in_err-rec.ensures.damaged tells)))

pub returns-then-number-label-clause-found : goal.returns-then-number-label-clause-found
returns-then-number-label-clause-found g c = λ tells.
    let s = g.R.Reads.state c.args.space.now in
    let now = g.R.Reads.state c.loop.space in
    let member = member_then s now c.loop.counter c.args.node c.loop.at c.loop.invariant.read (c.in_ok-rec.ensures.member tells) in
    let got = rec_then s now c.loop.counter c.loop.at c.in_ok-rec.rec c.loop.invariant.read (c.in_ok-rec.ensures.got tells) in
    let typed = type_then s now c.loop.counter c.loop.at c.args.label c.in_ok-rec.rec c.number.result got c.number.ensures in
    group_found s.records c.args.node c.args.first c.args.label c.loop.at c.in_ok-rec.rec c.row_of.result got c.row_of.ensures member
    (sym typed ∙ c.if-number-label.true)
    (λ is dense. c.loop.invariant.on tells is dense (group_owned s.records c.args.node c.loop.at member))

pub returns-then-number-label-clause-reached : goal.returns-then-number-label-clause-reached
returns-then-number-label-clause-reached g c = λ tells.
    subst (IsReached (g.R.Reads.state c.args.space.now).records c.args.first) (sym (ap (λ (r : GroupRow). r.id) c.row_of.ensures))
    (c.loop.invariant.reached tells)

pub returns-then-at-2-clause-damaged : goal.returns-then-at-2-clause-damaged
returns-then-at-2-clause-damaged g c = λ tells.
    let s = g.R.Reads.state c.args.space.now in
    let ge = c.loop-test.false in
    subst (IsWalkDamage s c.args.node c.args.first) (sym c.chain_damage.ensures)
    (NoList (λ xs list. c.if-at-2.true (left_none s.records (c.meta-budget.result.high - c.loop.counter) c.loop.at xs (omega arith)
    (c.loop.invariant.left tells xs list.walk (few_owned s.records c.args.node c.args.first xs list)))))

pub returns-then-at-2-clause-reads : goal.returns-then-at-2-clause-reads
returns-then-at-2-clause-reads g c = λ tells xs can.
    let s = g.R.Reads.state c.args.space.now in
    let ge = c.loop-test.false in
    absurd (c.if-at-2.true (left_none s.records (c.meta-budget.result.high - c.loop.counter) c.loop.at xs (omega arith)
    (c.loop.invariant.left tells xs can.list.walk (few_groups s.records c.args.node c.args.first xs can.list))))

pub returns-then-at-2-clause-not_damaged : goal.returns-then-at-2-clause-not_damaged
returns-then-at-2-clause-not_damaged g c = λ tells xs can.
    let s = g.R.Reads.state c.args.space.now in
    let ge = c.loop-test.false in
    absurd (c.if-at-2.true (left_none s.records (c.meta-budget.result.high - c.loop.counter) c.loop.at xs (omega arith)
    (c.loop.invariant.left tells xs can.list.walk (few_groups s.records c.args.node c.args.first xs can.list))))

pub returns-in_err-rec-clause-cause : goal.returns-in_err-rec-clause-cause
returns-in_err-rec-clause-cause g c =
    cause_passed _ _ _ c.from_residual.result c.in_err-rec.field-0.0 c.loop.invariant.later c.in_err-rec.ensures.cause c.from_residual.ensures.1

pub returns-in_err-rec-clause-found : goal.returns-in_err-rec-clause-found
returns-in_err-rec-clause-found g c _ = never_ok c.from_residual.result _ _ c.from_residual.ensures.1

pub returns-in_err-rec-clause-reached : goal.returns-in_err-rec-clause-reached
returns-in_err-rec-clause-reached g c _ = never_ok c.from_residual.result _ _ c.from_residual.ensures.1

pub returns-in_err-rec-clause-key : goal.returns-in_err-rec-clause-key
returns-in_err-rec-clause-key g c = never_ok c.from_residual.result _ _ c.from_residual.ensures.1
