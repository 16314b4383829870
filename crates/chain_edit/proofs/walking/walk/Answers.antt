use Rattle.std.proofs.Common.{◌≡◌, ◌<◌, ◌-◌, ◌+◌, suc, length, ap, ◌∙◌, sym, subst, arith}
use Rattle.std.proofs.lemmas.Result.{err_from_is_err_and}
use Rattle.rec_bytes.proofs.Spaces.{after_gets-zero}
use Rattle.store_rules.specs.Chains.{next_in}
use Rattle.rel_store.specs.Loading.{rel_mark}
use Rattle.rec_bytes.specs.declared.damage.Damage.{Damage}
use Rattle.store_rules.specs.Breaking.{Breaks}
use Rattle.chain_edit.specs.Walking.{IsSoundWalk, IsWalkDamage, chain_damage}
use Rattle.chain_edit.specs.Walking.IsWalkDamage.{NoWalk}
use Rattle.chain_edit.proofs.Broken.{walk_breaks, walk_fault_breaks}
use Rattle.chain_edit.proofs.Walks.{few_next, few_then, left_more, left_none, link_is, mark_then, next_read, one_longer, reach_then}
use Rattle.chain_edit.proofs.Walks.{read_next as reads_more, reads_next, reads_within, rec_then, rows_all, rows_more, rows_none, step_then, undamaged}
use Rattle.chain_edit.proofs.Walks.{walk_fault}
use Rattle.chain_edit.proofs.Causes.{cause_passed, memory_cause, same_has}
use Rattle.rec_bytes.proofs.Causes.{never_ok}
use Rattle.chain_edit.proofs.walking.walk.Goals as goal

pub loop-init : goal.loop-init
loop-init g c =
    let s = g.R.Reads.state c.args.space.now in
    let none = c.new-rows.ensures.items in
    let same : c.args.budget ≡ c.args.budget - 0 = omega arith in
    record {
      met = λ tells. rw none (rows_none s c.args.chain.now.first c.args.chain.now.node);
      left = λ tells xs sound. (xs, subst (λ n. IsSoundWalk s c.args.chain.now.first c.args.chain.now.node n xs) same sound);
      count = ap length none;
      read = rw none (sym (after_gets-zero s));
      onward = g.met.R.Reads.stays_onward c.args.space.now;
      later = omega arith;
    }

pub loop-preserved : goal.loop-preserved
loop-preserved g c =
    let s = g.R.Reads.state c.args.space.now in
    let now = g.R.Reads.state c.loop.space in
    let rows = c.loop.rows.items in
    let node = c.args.chain.now.node in
    let some = c.if-at.false in
    let low : c.loop.at < rel_mark s = let mark = mark_then s now (length rows) c.loop.invariant.read in omega (
      arith,
      c.in_ok-read_next.ensures.known.low
          some,
    ) in
    let is : c.link-at.result ≡ next_in c.read_next.new.rec node = next_read c.read_next.new.rec node c.place_of.result c.link-at.result c.place_of.ensures.is
    c.link-at.ensures in
    let less : c.args.budget - c.loop.counter ≡ suc (c.args.budget - (c.loop.counter + 1)) = omega arith in
    let one_more : length c.push.new.self.items ≡ length rows + 1 = one_longer rows c.push.new.self.items c.of.result c.in_ok-push.ensures.items in
    record {
      met = λ tells.
          let got = rec_then s now (length rows) c.loop.at c.read_next.new.rec c.loop.invariant.read (c.in_ok-read_next.ensures.got tells) in
          let back = step_then s now (length rows) node c.loop.at c.loop.before c.loop.invariant.read (c.in_ok-read_next.ensures.back tells) in
          rw (c.in_ok-push.ensures.items, c.of.ensures) (rows_more s c.args.chain.now.first node c.loop.before c.loop.at c.link-at.result rows
          c.read_next.new.rec some low back got is (c.loop.invariant.met tells));
      left = λ tells xs sound.
          let got = rec_then s now (length rows) c.loop.at c.read_next.new.rec c.loop.invariant.read (c.in_ok-read_next.ensures.got tells) in
          left_more s node c.loop.before (c.args.budget - c.loop.counter) (c.args.budget - (c.loop.counter + 1)) c.loop.at c.link-at.result less some
          (link_is s node c.loop.at c.link-at.result c.read_next.new.rec got is) (c.loop.invariant.left tells xs sound);
      count = one_more ∙ ap (λ n. n + 1) c.loop.invariant.count;
      read = reads_more s now (g.R.Reads.state c.read_next.new.space) (length rows) (length c.push.new.self.items) one_more c.loop.invariant.read
          c.in_ok-read_next.ensures.state;
      onward = g.met.R.Reads.further_onward c.args.space.now c.loop.space c.read_next.new.space c.loop.invariant.onward c.in_ok-read_next.ensures.onward;
      later = let cause = c.in_ok-read_next.ensures.cause in omega (arith, c.loop.invariant.later, cause.later);
    }

pub read_next-requires-clause-reach : goal.read_next-requires-clause-reach
read_next-requires-clause-reach g c =
    reach_then (g.R.Reads.state c.args.space.now) (g.R.Reads.state c.loop.space) (length c.loop.rows.items) c.reach_of-reach.result c.loop.invariant.read
    c.reach_of-reach.ensures

pub returns-then-at-clause-rows : goal.returns-then-at-clause-rows
returns-then-at-clause-rows g c = λ tells.
    rows_all (g.R.Reads.state c.args.space.now) c.args.chain.now.first c.args.chain.now.node c.args.budget c.loop.before c.loop.at c.loop.rows.items
    c.if-at.true (omega (arith, c.loop.invariant.count, c.loop-test.true)) (c.loop.invariant.met tells)

pub returns-clause-rows : goal.returns-clause-rows
returns-clause-rows g c = λ tells.
    rows_all (g.R.Reads.state c.args.space.now) c.args.chain.now.first c.args.chain.now.node c.args.budget c.loop.before c.loop.at c.loop.rows.items
    c.if-at-2.false (omega (arith, c.loop.invariant.count, c.loop.auto.counter-end)) (c.loop.invariant.met tells)

pub returns-in_err-read_next-clause-at_most : goal.returns-in_err-read_next-clause-at_most
returns-in_err-read_next-clause-at_most g c =
    reads_within (g.R.Reads.state c.args.space.now) (g.R.Reads.state c.loop.space) (g.R.Reads.state c.read_next.new.space) (length c.loop.rows.items)
    c.args.budget
    (omega (arith, c.loop.invariant.count, c.loop-test.true)) c.loop.invariant.read c.in_err-read_next.ensures.at_most

pub returns-in_err-read_next-clause-damaged : goal.returns-in_err-read_next-clause-damaged
returns-in_err-read_next-clause-damaged g c = λ tells.
    let p = err_from_is_err_and c.from_residual.result c.from_residual.ensures.1 in
    rw (p.1, p.2) (walk_fault (g.R.Reads.state c.args.space.now) (g.R.Reads.state c.loop.space) (length c.loop.rows.items) c.args.chain.now.owner
    c.args.chain.now.first c.args.chain.now.node c.args.budget c.loop.before
    (c.args.budget - c.loop.counter) c.loop.at c.in_err-read_next.field-0.0 c.loop.invariant.read c.if-at.false (c.loop.invariant.left tells)
    (c.in_err-read_next.ensures.damaged tells))

pub returns-in_err-read_next-clause-breaks : goal.returns-in_err-read_next-clause-breaks
returns-in_err-read_next-clause-breaks g c = λ tells head key first owns enough.
    let s = g.R.Reads.state c.args.space.now in
    let p = err_from_is_err_and c.from_residual.result c.from_residual.ensures.1 in
    rw (p.1, p.2) (walk_fault_breaks s c.args.chain.now.owner c.args.chain.now.first c.args.chain.now.node head key first owns c.args.budget
    c.in_err-read_next.field-0.0 enough
    (walk_fault s (g.R.Reads.state c.loop.space) (length c.loop.rows.items) c.args.chain.now.owner c.args.chain.now.first c.args.chain.now.node c.args.budget
    c.loop.before
    (c.args.budget - c.loop.counter) c.loop.at c.in_err-read_next.field-0.0 c.loop.invariant.read c.if-at.false (c.loop.invariant.left tells)
    (c.in_err-read_next.ensures.damaged tells)))

pub returns-in_err-read_next-clause-not_damaged : goal.returns-in_err-read_next-clause-not_damaged
returns-in_err-read_next-clause-not_damaged g c = λ tells mark xs sound.
    let s = g.R.Reads.state c.args.space.now in
    let p = err_from_is_err_and c.from_residual.result c.from_residual.ensures.1 in
    rw (p.1, p.2) (undamaged s c.args.chain.now.owner c.args.chain.now.first c.args.chain.now.node c.args.budget xs c.in_err-read_next.field-0.0 mark sound
    (walk_fault s (g.R.Reads.state c.loop.space) (length c.loop.rows.items) c.args.chain.now.owner c.args.chain.now.first c.args.chain.now.node c.args.budget
    c.loop.before
    (c.args.budget - c.loop.counter) c.loop.at c.in_err-read_next.field-0.0 c.loop.invariant.read c.if-at.false (c.loop.invariant.left tells)
    (c.in_err-read_next.ensures.damaged tells)))

pub returns-in_err-push-clause-at_most : goal.returns-in_err-push-clause-at_most
returns-in_err-push-clause-at_most g c =
    reads_next (g.R.Reads.state c.args.space.now) (g.R.Reads.state c.loop.space) (g.R.Reads.state c.read_next.new.space) (length c.loop.rows.items)
    c.args.budget
    (omega (arith, c.loop.invariant.count, c.loop-test.true)) c.loop.invariant.read c.in_ok-read_next.ensures.state

pub returns-then-at-2-clause-damaged : goal.returns-then-at-2-clause-damaged
returns-then-at-2-clause-damaged g c = λ tells.
    let s = g.R.Reads.state c.args.space.now in
    subst (IsWalkDamage s c.args.chain.now.owner c.args.chain.now.first c.args.chain.now.node c.args.budget) (sym c.chain_damage.ensures)
    (NoWalk (λ xs sound. c.if-at-2.true (left_none s c.args.chain.now.node c.loop.before (c.args.budget - c.loop.counter) c.loop.at
    (omega (arith, c.loop-test.false)) (c.loop.invariant.left tells xs sound))))

pub returns-then-at-2-clause-breaks : goal.returns-then-at-2-clause-breaks
returns-then-at-2-clause-breaks g c = λ tells head key first owns enough.
    let s = g.R.Reads.state c.args.space.now in
    subst (λ (d : Damage). Breaks s.records s.shape d) (sym c.chain_damage.ensures)
    (walk_breaks s c.args.chain.now.owner c.args.chain.now.first c.args.chain.now.node head key first owns c.args.budget (chain_damage c.args.chain.now.owner)
    enough
    (NoWalk (λ xs sound. c.if-at-2.true (left_none s c.args.chain.now.node c.loop.before (c.args.budget - c.loop.counter) c.loop.at
    (omega (arith, c.loop-test.false)) (c.loop.invariant.left tells xs sound)))))

-- ---- reads, by what a walk that ends meets

pub returns-then-at-clause-few_reads : goal.returns-then-at-clause-few_reads
returns-then-at-clause-few_reads g c = λ tells xs sound.
    few_then (g.R.Reads.state c.args.space.now) (g.R.Reads.state c.loop.space) c.args.chain.now.first c.args.chain.now.node c.args.budget c.loop.before
    (c.args.budget - c.loop.counter) c.loop.at c.loop.rows.items xs
    (c.loop.invariant.met tells) (c.loop.invariant.left tells xs sound) sound c.loop.invariant.read

pub returns-then-at-2-clause-few_reads : goal.returns-then-at-2-clause-few_reads
returns-then-at-2-clause-few_reads g c = λ tells xs sound.
    few_then (g.R.Reads.state c.args.space.now) (g.R.Reads.state c.loop.space) c.args.chain.now.first c.args.chain.now.node c.args.budget c.loop.before
    (c.args.budget - c.loop.counter) c.loop.at c.loop.rows.items xs
    (c.loop.invariant.met tells) (c.loop.invariant.left tells xs sound) sound c.loop.invariant.read

pub returns-clause-few_reads : goal.returns-clause-few_reads
returns-clause-few_reads g c = λ tells xs sound.
    few_then (g.R.Reads.state c.args.space.now) (g.R.Reads.state c.loop.space) c.args.chain.now.first c.args.chain.now.node c.args.budget c.loop.before
    (c.args.budget - c.loop.counter) c.loop.at c.loop.rows.items xs
    (c.loop.invariant.met tells) (c.loop.invariant.left tells xs sound) sound c.loop.invariant.read

pub returns-in_err-read_next-clause-few_reads : goal.returns-in_err-read_next-clause-few_reads
returns-in_err-read_next-clause-few_reads g c = λ tells xs sound.
    few_next (g.R.Reads.state c.args.space.now) (g.R.Reads.state c.loop.space) (g.R.Reads.state c.read_next.new.space) c.args.chain.now.first
    c.args.chain.now.node c.args.budget c.loop.before (c.args.budget - c.loop.counter) c.loop.at c.loop.rows.items xs
    c.if-at.false (c.loop.invariant.met tells) (c.loop.invariant.left tells xs sound) sound c.loop.invariant.read c.in_err-read_next.ensures.at_most

pub returns-in_err-push-clause-few_reads : goal.returns-in_err-push-clause-few_reads
returns-in_err-push-clause-few_reads g c = λ tells xs sound.
    few_next (g.R.Reads.state c.args.space.now) (g.R.Reads.state c.loop.space) (g.R.Reads.state c.read_next.new.space) c.args.chain.now.first
    c.args.chain.now.node c.args.budget c.loop.before (c.args.budget - c.loop.counter) c.loop.at c.loop.rows.items xs
    c.if-at.false (c.loop.invariant.met tells) (c.loop.invariant.left tells xs sound) sound c.loop.invariant.read c.in_ok-read_next.ensures.at_most

pub returns-in_err-read_next-clause-cause : goal.returns-in_err-read_next-clause-cause
returns-in_err-read_next-clause-cause g c =
    cause_passed _ _ _ c.from_residual.result c.in_err-read_next.field-0.0 c.loop.invariant.later c.in_err-read_next.ensures.cause c.from_residual.ensures.1

pub returns-in_err-push-clause-cause : goal.returns-in_err-push-clause-cause
returns-in_err-push-clause-cause g c =
    let later0 = c.loop.invariant.later in
    let later1 = c.in_ok-read_next.ensures.cause.later in
    memory_cause _ _ c.from_residual-in_err-push.result (omega (arith, later0, later1)) c.from_residual-in_err-push.ensures.1

pub returns-in_err-read_next-clause-rows : goal.returns-in_err-read_next-clause-rows
returns-in_err-read_next-clause-rows g c _ = never_ok c.from_residual.result _ _ c.from_residual.ensures.1

pub returns-in_err-read_next-clause-reads : goal.returns-in_err-read_next-clause-reads
returns-in_err-read_next-clause-reads g c = never_ok c.from_residual.result _ _ c.from_residual.ensures.1

pub returns-in_err-push-clause-rows : goal.returns-in_err-push-clause-rows
returns-in_err-push-clause-rows g c _ = never_ok c.from_residual-in_err-push.result _ _ c.from_residual-in_err-push.ensures.1

pub returns-in_err-push-clause-reads : goal.returns-in_err-push-clause-reads
returns-in_err-push-clause-reads g c = never_ok c.from_residual-in_err-push.result _ _ c.from_residual-in_err-push.ensures.1

pub returns-in_err-push-clause-damaged : goal.returns-in_err-push-clause-damaged
returns-in_err-push-clause-damaged g c _ = same_has _ c.from_residual-in_err-push.result _ c.from_residual-in_err-push.ensures.1 tt

pub returns-in_err-push-clause-breaks : goal.returns-in_err-push-clause-breaks
returns-in_err-push-clause-breaks g c _ _ _ _ _ _ = same_has _ c.from_residual-in_err-push.result _ c.from_residual-in_err-push.ensures.1 tt

pub returns-in_err-push-clause-not_damaged : goal.returns-in_err-push-clause-not_damaged
returns-in_err-push-clause-not_damaged g c _ _ _ _ = same_has _ c.from_residual-in_err-push.result _ c.from_residual-in_err-push.ensures.1 tt

pub returns-in_err-read_next-clause-onward : goal.returns-in_err-read_next-clause-onward
returns-in_err-read_next-clause-onward g c = g.met.R.Reads.further_onward _ _ _ c.loop.invariant.onward c.in_err-read_next.ensures.onward

pub returns-in_err-push-clause-onward : goal.returns-in_err-push-clause-onward
returns-in_err-push-clause-onward g c = g.met.R.Reads.further_onward _ _ _ c.loop.invariant.onward c.in_ok-read_next.ensures.onward
