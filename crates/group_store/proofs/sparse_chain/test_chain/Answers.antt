use Rattle.std.proofs.Common.{◌+◌, subst, sym, refl, arith}
use Rattle.std.proofs.lemmas.Result.{err_from_is_err_and}
use Rattle.rec_bytes.specs.declared.damage.Damage.{Damage}
use Rattle.rec_bytes.specs.Space.{State}
use Rattle.group_store.specs.SparseChain.{IsSparseDamage, IsStep}
use Rattle.group_store.specs.SparseChain.IsSparseDamage.{MoreThanSaid}
use Rattle.group_store.proofs.ChainHeads.{same_twice}
use Rattle.group_store.proofs.GroupWalks.{not_damaged}
use Rattle.group_store.proofs.SparseChains.{crossed_all, crossed_more, crossed_none, met_few, met_more, met_none}
use Rattle.group_store.proofs.SparseChains.{step_sound, step_told, tail_all, tail_low, tail_next}
use Rattle.rec_bytes.proofs.Causes.{never_ok}
use Rattle.group_store.proofs.sparse_chain.test_chain.Goals as goal

pub loop-init : goal.loop-init
loop-init g c =
    let s = g.R.Reads.state c.args.space.now in
    record {
      same = refl;
      tail = λ tells is xs chain. tail_all s c.args.node c.args.first xs is chain;
      met = λ tells. met_none s c.args.node;
      crossed = λ tells. crossed_none s c.args.node c.args.first;
      onward = g.met.R.Reads.stays_onward c.args.space.now;
      later = omega arith;
    }

pub loop-preserved : goal.loop-preserved
loop-preserved g c =
    let s = g.R.Reads.state c.args.space.now in
    let now = g.R.Reads.state c.loop.space in
    let end = g.R.Reads.state c.meet.new.space in
    let was = c.loop.invariant in
    let node = c.args.node in
    let step = λ (tells : g.R.Reads.tells). subst (λ (q : State). IsStep q.records node c.loop.before c.loop.at c.in_ok-next.next) was.same
    (c.in_ok-next.ensures.met tells) in
    record {
      same = same_twice s now end was.same c.in_ok-next.ensures.state;
      tail = λ tells is xs chain. tail_next s node c.loop.before c.loop.at c.loop.counter xs c.if-at.false (was.tail tells is xs chain) c.in_ok-next.next
          (step tells).on;
      met = λ tells. met_more s node c.loop.before c.loop.at c.loop.counter c.if-at.false (step tells).met (was.met tells);
      crossed = λ tells. crossed_more s node c.args.first c.loop.before c.loop.at c.in_ok-next.next c.loop.counter c.if-at.false (step tells).met
          (step tells).on (was.crossed tells);
      onward = g.met.R.Reads.further_onward c.args.space.now c.loop.space c.meet.new.space was.onward c.in_ok-next.ensures.onward;
      later = let cause = c.in_ok-next.ensures.cause in omega (arith, was.later, cause.later);
    }

pub returns-in_err-next-clause-damaged : goal.returns-in_err-next-clause-damaged
returns-in_err-next-clause-damaged g c = λ tells is.
    let s = g.R.Reads.state c.args.space.now in
    let now = g.R.Reads.state c.loop.space in
    let was = c.loop.invariant in
    let p = err_from_is_err_and c.from_residual.result c.from_residual.ensures.1 in
    rw (p.1, p.2) (step_told s now c.args.node c.args.degree c.loop.before c.loop.at c.loop.counter was.same c.if-at.false (was.tail tells is)
    c.in_err-next.field-0.0 (c.in_err-next.ensures.damaged tells))

pub returns-in_err-next-clause-state : goal.returns-in_err-next-clause-state
returns-in_err-next-clause-state g c = same_twice (g.R.Reads.state c.args.space.now) (g.R.Reads.state c.loop.space) (g.R.Reads.state c.meet.new.space)
    c.loop.invariant.same c.in_err-next.ensures.state

pub returns-in_err-meet-clause-damaged : goal.returns-in_err-meet-clause-damaged
returns-in_err-meet-clause-damaged g c = λ tells is.
    let s = g.R.Reads.state c.args.space.now in
    let now = g.R.Reads.state c.loop.space in
    let was = c.loop.invariant in
    let p = err_from_is_err_and c.from_residual-in_err-meet.result c.from_residual-in_err-meet.ensures.1 in
    rw (p.1, p.2) (step_told s now c.args.node c.args.degree c.loop.before c.loop.at c.loop.counter was.same c.if-at-2.false (was.tail tells is)
    c.in_err-meet.field-0.0 (c.in_err-meet.ensures.damaged tells))

pub returns-in_err-meet-clause-state : goal.returns-in_err-meet-clause-state
returns-in_err-meet-clause-state g c = same_twice (g.R.Reads.state c.args.space.now) (g.R.Reads.state c.loop.space) (g.R.Reads.state c.meet-2.new.space)
    c.loop.invariant.same c.in_err-meet.ensures.state

pub returns-clause-damaged : goal.returns-clause-damaged
returns-clause-damaged g c = λ tells is.
    let s = g.R.Reads.state c.args.space.now in
    let was = c.loop.invariant in
    let node = c.args.node in
    let step = subst (λ (q : State). IsStep q.records node c.loop.before c.loop.at c.in_ok-meet.field-0) was.same (c.in_ok-meet.ensures.met tells) in
    let few = met_few s node c.loop.at (c.loop.counter + 1) (met_more s node c.loop.before c.loop.at c.loop.counter c.if-at-2.false step.met (was.met tells)) in
    subst (λ (d : Damage). IsSparseDamage s node c.args.degree d) (sym c.degree_damage.ensures) (MoreThanSaid (omega (arith, few, c.loop.auto.counter-end)))

pub returns-clause-state : goal.returns-clause-state
returns-clause-state g c = same_twice (g.R.Reads.state c.args.space.now) (g.R.Reads.state c.loop.space) (g.R.Reads.state c.meet-2.new.space)
    c.loop.invariant.same c.in_ok-meet.ensures.state

-- ---- the links lead to an end

pub returns-then-at-clause-chain : goal.returns-then-at-clause-chain
returns-then-at-clause-chain g c = λ tells.
    crossed_all (g.R.Reads.state c.args.space.now) c.args.node c.args.first c.loop.at c.loop.counter c.args.degree c.if-at.true
    (let lt = c.loop-test.true in omega arith) (c.loop.invariant.crossed tells)

pub returns-then-at-2-clause-chain : goal.returns-then-at-2-clause-chain
returns-then-at-2-clause-chain g c = λ tells.
    crossed_all (g.R.Reads.state c.args.space.now) c.args.node c.args.first c.loop.at c.loop.counter c.args.degree c.if-at-2.true
    (let end = c.loop.auto.counter-end in omega arith) (c.loop.invariant.crossed tells)

-- ---- none is told of a right chain

pub returns-in_err-next-clause-not_damaged : goal.returns-in_err-next-clause-not_damaged
returns-in_err-next-clause-not_damaged g c = λ tells is members chain readable few.
    let s = g.R.Reads.state c.args.space.now in
    let was = c.loop.invariant in
    let p = err_from_is_err_and c.from_residual.result c.from_residual.ensures.1 in
    rw (p.1, p.2) (not_damaged Unit c.in_err-next.field-0.0
    (step_sound s (g.R.Reads.state c.loop.space) c.args.node c.loop.before c.loop.at c.loop.counter members was.same c.if-at.false readable
    (was.tail tells is members chain) c.in_err-next.field-0.0 (c.in_err-next.ensures.damaged tells)))

pub returns-in_err-meet-clause-not_damaged : goal.returns-in_err-meet-clause-not_damaged
returns-in_err-meet-clause-not_damaged g c = λ tells is members chain readable few.
    let s = g.R.Reads.state c.args.space.now in
    let was = c.loop.invariant in
    let p = err_from_is_err_and c.from_residual-in_err-meet.result c.from_residual-in_err-meet.ensures.1 in
    rw (p.1, p.2) (not_damaged Unit c.in_err-meet.field-0.0
    (step_sound s (g.R.Reads.state c.loop.space) c.args.node c.loop.before c.loop.at c.loop.counter members was.same c.if-at-2.false readable
    (was.tail tells is members chain) c.in_err-meet.field-0.0 (c.in_err-meet.ensures.damaged tells)))

pub returns-clause-not_damaged : goal.returns-clause-not_damaged
returns-clause-not_damaged g c = λ tells is members chain readable few.
    let s = g.R.Reads.state c.args.space.now in
    let low = tail_low s c.args.node c.loop.before c.loop.at c.loop.counter members c.if-at-2.false (c.loop.invariant.tail tells is members chain) in
    omega (arith, low, few, c.loop-test.false, c.loop.auto.counter-end)

pub returns-in_err-next-clause-chain : goal.returns-in_err-next-clause-chain
returns-in_err-next-clause-chain g c _ = never_ok c.from_residual.result _ _ c.from_residual.ensures.1

pub returns-in_err-meet-clause-chain : goal.returns-in_err-meet-clause-chain
returns-in_err-meet-clause-chain g c _ = never_ok c.from_residual-in_err-meet.result _ _ c.from_residual-in_err-meet.ensures.1
