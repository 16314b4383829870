use Rattle.std.proofs.Common.{◌≡◌, ◌<◌, ◌+◌, refl, ◌∙◌, sym, subst, arith}
use Rattle.std.proofs.lemmas.Result.{err_from_is_err_and}
use Rattle.rec_bytes.proofs.Spaces.{after_gets-zero}
use Rattle.store_rules.specs.Chains.{next_in}
use Rattle.rel_store.specs.Loading.{rel_mark}
use Rattle.rec_bytes.specs.declared.damage.Damage.{Damage}
use Rattle.store_rules.specs.Breaking.{Breaks}
use Rattle.chain_edit.specs.Length.{IsLengthDamage}
use Rattle.chain_edit.specs.Length.IsLengthDamage.{NoChain}
use Rattle.chain_edit.specs.Walking.{chain_damage}
use Rattle.chain_edit.proofs.Broken.{length_breaks, length_fault_breaks}
use Rattle.chain_edit.proofs.Lengths.{CountsSoFar, counts_all, counts_more, counts_none, no_member, rest_all, rest_more, step_fault, undamaged}
use Rattle.chain_edit.proofs.Walks.{mark_then, next_read, reach_then, read_next as reads_more, reads_next, reads_within, rec_then, step_then}
use Rattle.chain_edit.proofs.Causes.{cause_passed}
use Rattle.rec_bytes.proofs.Causes.{never_ok}
use Rattle.chain_edit.proofs.length.chain_length.Goals as goal

pub loop-count-init : goal.loop-count-init
loop-count-init g c =
    let s = g.R.Reads.state c.args.space.now in
    record {
      counts = λ tells. counts_none s c.args.chain.now.first c.args.chain.now.node c.args.members;
      rest = λ tells xs chain. rest_all s c.args.chain.now.first c.args.chain.now.node c.args.members xs chain;
      read = sym (after_gets-zero s);
      onward = g.met.R.Reads.stays_onward c.args.space.now;
      later = omega arith;
    }

pub loop-count-preserved : goal.loop-count-preserved
loop-count-preserved g c =
    let s = g.R.Reads.state c.args.space.now in
    let now = g.R.Reads.state c.loop-count.space in
    let node = c.args.chain.now.node in
    let n = c.loop-count.count in
    let at = c.loop-count.at in
    let some = c.if-at.false in
    let low : at < rel_mark s = let mark = mark_then s now n c.loop-count.invariant.read in omega (arith, c.in_ok-read_next.ensures.known.low some) in
    let is : c.link-at.result ≡ next_in c.read_next.new.rec node = next_read c.read_next.new.rec node c.place_of.result c.link-at.result c.place_of.ensures.is
    c.link-at.ensures in
    record {
      counts = λ tells.
          let got = rec_then s now n at c.read_next.new.rec c.loop-count.invariant.read (c.in_ok-read_next.ensures.got tells) in
          let back = step_then s now n node at c.loop-count.before c.loop-count.invariant.read (c.in_ok-read_next.ensures.back tells) in
          counts_more s c.args.chain.now.first node c.args.members c.loop-count.before at c.link-at.result n c.read_next.new.rec some low
          c.in_ok-read_next.ensures.key back got is (sym c.is_member.ensures ∙ c.if-not-is_member.false) (c.loop-count.invariant.counts tells);
      rest = λ tells xs chain.
          let got = rec_then s now n at c.read_next.new.rec c.loop-count.invariant.read (c.in_ok-read_next.ensures.got tells) in
          rest_more s node c.args.members c.loop-count.before at c.link-at.result c.read_next.new.rec some got is (c.loop-count.invariant.rest tells xs chain);
      read = reads_more s now (g.R.Reads.state c.read_next.new.space) n (n + 1) refl c.loop-count.invariant.read c.in_ok-read_next.ensures.state;
      onward = g.met.R.Reads.further_onward c.args.space.now c.loop-count.space c.read_next.new.space c.loop-count.invariant.onward
          c.in_ok-read_next.ensures.onward;
      later = let cause = c.in_ok-read_next.ensures.cause in omega (arith, c.loop-count.invariant.later, cause.later);
    }

pub read_next-requires-clause-reach : goal.read_next-requires-clause-reach
read_next-requires-clause-reach g c =
    reach_then (g.R.Reads.state c.args.space.now) (g.R.Reads.state c.loop-count.space) c.loop-count.count c.reach_of-reach.result c.loop-count.invariant.read
    c.reach_of-reach.ensures

pub returns-in_err-read_next-clause-at_most : goal.returns-in_err-read_next-clause-at_most
returns-in_err-read_next-clause-at_most g c =
    reads_within (g.R.Reads.state c.args.space.now) (g.R.Reads.state c.loop-count.space) (g.R.Reads.state c.read_next.new.space) c.loop-count.count
    c.args.budget
    (omega (arith, c.loop-count-test.true)) c.loop-count.invariant.read c.in_err-read_next.ensures.at_most

pub returns-in_err-read_next-clause-damaged : goal.returns-in_err-read_next-clause-damaged
returns-in_err-read_next-clause-damaged g c = λ tells.
    let p = err_from_is_err_and c.from_residual.result c.from_residual.ensures.1 in
    rw (p.1, p.2) (step_fault (g.R.Reads.state c.args.space.now) (g.R.Reads.state c.loop-count.space) c.loop-count.count c.args.chain.now.owner
    c.args.chain.now.first c.args.chain.now.node c.args.members c.loop-count.before c.loop-count.at
    c.in_err-read_next.field-0.0 c.loop-count.invariant.read c.if-at.false (c.loop-count.invariant.rest tells) (c.in_err-read_next.ensures.damaged tells))

pub returns-in_err-read_next-clause-breaks : goal.returns-in_err-read_next-clause-breaks
returns-in_err-read_next-clause-breaks g c = λ tells head key first owns right.
    let s = g.R.Reads.state c.args.space.now in
    let p = err_from_is_err_and c.from_residual.result c.from_residual.ensures.1 in
    rw (p.1, p.2) (length_fault_breaks s c.args.chain.now.owner c.args.chain.now.first c.args.chain.now.node head key first owns c.args.members
    c.in_err-read_next.field-0.0 right
    (step_fault s (g.R.Reads.state c.loop-count.space) c.loop-count.count c.args.chain.now.owner c.args.chain.now.first c.args.chain.now.node c.args.members
    c.loop-count.before c.loop-count.at
    c.in_err-read_next.field-0.0 c.loop-count.invariant.read c.if-at.false (c.loop-count.invariant.rest tells) (c.in_err-read_next.ensures.damaged tells)))

pub returns-in_err-read_next-clause-not_damaged : goal.returns-in_err-read_next-clause-not_damaged
returns-in_err-read_next-clause-not_damaged g c = λ tells mark xs chain.
    let s = g.R.Reads.state c.args.space.now in
    let p = err_from_is_err_and c.from_residual.result c.from_residual.ensures.1 in
    rw (p.1, p.2) (undamaged s c.args.chain.now.owner c.args.chain.now.first c.args.chain.now.node c.args.members xs c.in_err-read_next.field-0.0 mark chain
    (step_fault s (g.R.Reads.state c.loop-count.space) c.loop-count.count c.args.chain.now.owner c.args.chain.now.first c.args.chain.now.node c.args.members
    c.loop-count.before c.loop-count.at
    c.in_err-read_next.field-0.0 c.loop-count.invariant.read c.if-at.false (c.loop-count.invariant.rest tells) (c.in_err-read_next.ensures.damaged tells)))

pub returns-then-at-clause-counted : goal.returns-then-at-clause-counted
returns-then-at-clause-counted g c = λ tells.
    counts_all (g.R.Reads.state c.args.space.now) c.args.chain.now.first c.args.chain.now.node c.args.members c.args.budget c.loop-count.before c.loop-count.at
    c.loop-count.count (λ lt. c.if-at.true) (c.loop-count.invariant.counts tells)

pub returns-then-not-is_member-clause-at_most : goal.returns-then-not-is_member-clause-at_most
returns-then-not-is_member-clause-at_most g c =
    reads_next (g.R.Reads.state c.args.space.now) (g.R.Reads.state c.loop-count.space) (g.R.Reads.state c.read_next.new.space) c.loop-count.count c.args.budget
    (omega (arith, c.loop-count-test.true)) c.loop-count.invariant.read c.in_ok-read_next.ensures.state

pub returns-then-not-is_member-clause-damaged : goal.returns-then-not-is_member-clause-damaged
returns-then-not-is_member-clause-damaged g c = λ tells.
    let s = g.R.Reads.state c.args.space.now in
    let now = g.R.Reads.state c.loop-count.space in
    let n = c.loop-count.count in
    let at = c.loop-count.at in
    let low : at < rel_mark s = let mark = mark_then s now n c.loop-count.invariant.read in omega (arith, c.in_ok-read_next.ensures.known.low c.if-at.false) in
    let got = rec_then s now n at c.read_next.new.rec c.loop-count.invariant.read (c.in_ok-read_next.ensures.got tells) in
    subst (IsLengthDamage s c.args.chain.now.owner c.args.chain.now.first c.args.chain.now.node c.args.members) (sym c.chain_damage.ensures)
    (NoChain (no_member s c.args.chain.now.first c.args.chain.now.node c.args.members c.loop-count.before at c.read_next.new.rec c.if-at.false low got
    (sym c.is_member.ensures ∙ c.if-not-is_member.true) (c.loop-count.invariant.rest tells)))

pub returns-then-not-is_member-clause-breaks : goal.returns-then-not-is_member-clause-breaks
returns-then-not-is_member-clause-breaks g c = λ tells head key first owns right.
    let s = g.R.Reads.state c.args.space.now in
    let now = g.R.Reads.state c.loop-count.space in
    let n = c.loop-count.count in
    let at = c.loop-count.at in
    let low : at < rel_mark s = let mark = mark_then s now n c.loop-count.invariant.read in omega (arith, c.in_ok-read_next.ensures.known.low c.if-at.false) in
    let got = rec_then s now n at c.read_next.new.rec c.loop-count.invariant.read (c.in_ok-read_next.ensures.got tells) in
    subst (λ (d : Damage). Breaks s.records s.shape d) (sym c.chain_damage.ensures)
    (length_breaks s c.args.chain.now.owner c.args.chain.now.first c.args.chain.now.node head key first owns c.args.members
    (chain_damage c.args.chain.now.owner) right
    (NoChain (no_member s c.args.chain.now.first c.args.chain.now.node c.args.members c.loop-count.before at c.read_next.new.rec c.if-at.false low got
    (sym c.is_member.ensures ∙ c.if-not-is_member.true) (c.loop-count.invariant.rest tells))))

pub returns-then-not-is_member-clause-not_damaged : goal.returns-then-not-is_member-clause-not_damaged
returns-then-not-is_member-clause-not_damaged g c = λ tells mark xs chain.
    let s = g.R.Reads.state c.args.space.now in
    let now = g.R.Reads.state c.loop-count.space in
    let n = c.loop-count.count in
    let at = c.loop-count.at in
    let low : at < rel_mark s = let mark = mark_then s now n c.loop-count.invariant.read in omega (arith, c.in_ok-read_next.ensures.known.low c.if-at.false) in
    let got = rec_then s now n at c.read_next.new.rec c.loop-count.invariant.read (c.in_ok-read_next.ensures.got tells) in
    no_member s c.args.chain.now.first c.args.chain.now.node c.args.members c.loop-count.before at c.read_next.new.rec c.if-at.false low got
    (sym c.is_member.ensures ∙ c.if-not-is_member.true) (c.loop-count.invariant.rest tells) xs chain

pub returns-clause-counted : goal.returns-clause-counted
returns-clause-counted g c = λ tells.
    let all : c.loop-count.count ≡ c.args.budget = omega (arith, c.loop-count.auto.count-end, c.loop-count-test.false) in
    counts_all (g.R.Reads.state c.args.space.now) c.args.chain.now.first c.args.chain.now.node c.args.members c.args.budget c.loop-count.before c.loop-count.at
    c.args.budget (λ lt. absurd (omega arith))
    (subst (CountsSoFar (g.R.Reads.state c.args.space.now) c.args.chain.now.first c.args.chain.now.node c.args.members c.loop-count.before c.loop-count.at) all
    (c.loop-count.invariant.counts tells))

pub returns-in_err-read_next-clause-cause : goal.returns-in_err-read_next-clause-cause
returns-in_err-read_next-clause-cause g c =
    cause_passed _ _ _ c.from_residual.result c.in_err-read_next.field-0.0 c.loop-count.invariant.later c.in_err-read_next.ensures.cause
    c.from_residual.ensures.1

pub returns-in_err-read_next-clause-counted : goal.returns-in_err-read_next-clause-counted
returns-in_err-read_next-clause-counted g c _ = never_ok c.from_residual.result _ _ c.from_residual.ensures.1

pub returns-in_err-read_next-clause-few : goal.returns-in_err-read_next-clause-few
returns-in_err-read_next-clause-few g c = never_ok c.from_residual.result _ _ c.from_residual.ensures.1

pub returns-in_err-read_next-clause-reads : goal.returns-in_err-read_next-clause-reads
returns-in_err-read_next-clause-reads g c = never_ok c.from_residual.result _ _ c.from_residual.ensures.1
