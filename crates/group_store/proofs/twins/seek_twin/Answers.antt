use Rattle.std.proofs.Common.{◌≡◌, ◌-◌, ◌+◌, suc, [], ◌++◌, ◌∷◌, refl, ap, ◌∙◌, sym, subst, arith}
use Rattle.std.proofs.lemmas.Result.{err_from_is_err_and}
use Rattle.rec_bytes.specs.declared.meta.Meta.{Meta}
use Rattle.rec_bytes.specs.declared.record.Rec.{Rec}
use Rattle.rec_bytes.specs.Format as format
use Rattle.rec_bytes.specs.Record.{field}
use Rattle.rec_bytes.proofs.Spaces.{after_gets-zero}
use Rattle.store_rules.specs.Breaking.IsOnChain.{First, Next}
use Rattle.group_store.proofs.GroupRules.{group_owned}
use Rattle.group_store.specs.Loading.{group_mark}
use Rattle.group_store.specs.Walking.{IsWalkDamage}
use Rattle.group_store.specs.Walking.IsWalkDamage.{NoList}
use Rattle.group_store.proofs.GroupWalks.{few_owned, left_more, left_none, link_then, member_then, passed_all}
use Rattle.group_store.proofs.GroupWalks.{passed_more, passed_none, read_next, reads_more, rec_then, walk_fault}
use Rattle.group_store.proofs.TwinLaws.{lone_more, lone_none, no_twin, twin_is}
use Rattle.rec_bytes.proofs.Causes.{never_ok}
use Rattle.group_store.proofs.twins.seek_twin.Goals as goal

pub loop-init : goal.loop-init
loop-init g c =
    let s = g.R.Reads.state c.args.space.now in
    let mark : c.meta-budget.result.high ≡ group_mark s = ap (λ (m : Meta). m.high) c.meta-budget.ensures in
    record {
      met = λ tells. ([], passed_none s.records c.args.node c.args.first, lone_none s.records c.args.group c.args.label);
      left = λ tells xs walk few. (xs, walk, omega arith, λ g i. i);
      on = λ tells is dense own. First c.args.first dense (sym is) own;
      read = sym (after_gets-zero s);
      onward = g.met.R.Reads.stays_onward c.args.space.now;
      later = omega arith;
    }

pub loop-preserved : goal.loop-preserved
loop-preserved g c =
    let s = g.R.Reads.state c.args.space.now in
    let now = g.R.Reads.state c.loop.space in
    let some = c.if-at.false in
    let less : c.meta-budget.result.high - c.loop.counter ≡ suc (c.meta-budget.result.high - (c.loop.counter + 1)) = let lt = c.loop-test.true in omega arith in
    record {
      met = λ tells.
          let met = c.loop.invariant.met tells in
          let member = member_then s now c.loop.counter c.args.node c.loop.at c.loop.invariant.read (c.in_ok-rec.ensures.member tells) in
          let got = rec_then s now c.loop.counter c.loop.at c.in_ok-rec.rec c.loop.invariant.read (c.in_ok-rec.ensures.got tells) in
          let link = link_then s now c.loop.counter c.loop.at c.number-at.result c.in_ok-rec.rec c.loop.invariant.read (c.in_ok-rec.ensures.got tells)
          c.number-at.ensures in (
            met.0 ++ c.loop.at ∷ [],
            passed_more s.records c.args.node c.args.first c.loop.at c.number-at.result met.0 some member link met.1,
            lone_more s.records c.args.group c.args.label c.loop.at met.0
                (λ e. no_twin c.in_ok-rec.rec c.loop.at c.args.group c.args.label (sym c.is_twin.ensures ∙ c.if-is_twin.false)
                (ap (λ (r : Rec). field 4 r format.group_type) got ∙ e)) met.2,
          );
      left = λ tells xs walk few.
          let link = link_then s now c.loop.counter c.loop.at c.number-at.result c.in_ok-rec.rec c.loop.invariant.read (c.in_ok-rec.ensures.got tells)
          c.number-at.ensures in
          left_more s.records (c.meta-budget.result.high - c.loop.counter) (c.meta-budget.result.high - (c.loop.counter + 1)) c.loop.at c.number-at.result xs
          less some link (c.loop.invariant.left tells xs walk few);
      on = λ tells is dense own.
          let link = link_then s now c.loop.counter c.loop.at c.number-at.result c.in_ok-rec.rec c.loop.invariant.read (c.in_ok-rec.ensures.got tells)
          c.number-at.ensures in
          let member = member_then s now c.loop.counter c.args.node c.loop.at c.loop.invariant.read (c.in_ok-rec.ensures.member tells) in
          Next c.loop.at c.number-at.result (c.loop.invariant.on tells is dense (group_owned s.records c.args.node c.loop.at member)) (sym link) own;
      read = read_next s now (g.R.Reads.state c.read_member.new.space) c.loop.counter (c.loop.counter + 1) refl c.loop.invariant.read c.in_ok-rec.ensures.read;
      onward = g.met.R.Reads.further_onward c.args.space.now c.loop.space c.read_member.new.space c.loop.invariant.onward c.in_ok-rec.ensures.onward;
      later = let cause = c.in_ok-rec.ensures.cause in omega (arith, c.loop.invariant.later, cause.later);
    }

pub returns-then-at-clause-met : goal.returns-then-at-clause-met
returns-then-at-clause-met g c = λ tells.
    let s = g.R.Reads.state c.args.space.now in
    let met = c.loop.invariant.met tells in
    record { members = met.0; list = passed_all s.records c.args.node c.args.first c.loop.at met.0 c.if-at.true met.1; lone = met.2 }

pub returns-clause-met : goal.returns-clause-met
returns-clause-met g c = λ tells.
    let s = g.R.Reads.state c.args.space.now in
    let met = c.loop.invariant.met tells in
    record { members = met.0; list = passed_all s.records c.args.node c.args.first c.loop.at met.0 c.if-at-2.false met.1; lone = met.2 }

pub returns-then-is_twin-clause-met : goal.returns-then-is_twin-clause-met
returns-then-is_twin-clause-met g c = λ tells.
    let s = g.R.Reads.state c.args.space.now in
    let now = g.R.Reads.state c.loop.space in
    let member = member_then s now c.loop.counter c.args.node c.loop.at c.loop.invariant.read (c.in_ok-rec.ensures.member tells) in
    let got = rec_then s now c.loop.counter c.loop.at c.in_ok-rec.rec c.loop.invariant.read (c.in_ok-rec.ensures.got tells) in
    let is = twin_is c.in_ok-rec.rec c.loop.at c.args.group c.args.label (sym c.is_twin.ensures ∙ c.if-is_twin.true) in
    record {
      twin = c.loop.at;
      other = is.1;
      typed = sym (ap (λ (r : Rec). field 4 r format.group_type) got) ∙ is.0;
      on = λ first dense. c.loop.invariant.on tells first dense (group_owned s.records c.args.node c.loop.at member);
    }

pub returns-in_err-rec-clause-at_most : goal.returns-in_err-rec-clause-at_most
returns-in_err-rec-clause-at_most g c =
    let s = g.R.Reads.state c.args.space.now in
    let mark : c.meta-budget.result.high ≡ group_mark s = ap (λ (m : Meta). m.high) c.meta-budget.ensures in
    let lt = c.loop-test.true in
    reads_more s (g.R.Reads.state c.loop.space) (g.R.Reads.state c.read_member.new.space) c.loop.counter 1 (group_mark s) (omega arith) c.loop.invariant.read
    c.in_err-rec.ensures.at_most

pub returns-then-is_twin-clause-at_most : goal.returns-then-is_twin-clause-at_most
returns-then-is_twin-clause-at_most g c =
    let s = g.R.Reads.state c.args.space.now in
    let mark : c.meta-budget.result.high ≡ group_mark s = ap (λ (m : Meta). m.high) c.meta-budget.ensures in
    let lt = c.loop-test.true in
    reads_more s (g.R.Reads.state c.loop.space) (g.R.Reads.state c.read_member.new.space) c.loop.counter 1 (group_mark s) (omega arith) c.loop.invariant.read
    c.in_ok-rec.ensures.at_most

pub returns-in_err-rec-clause-damaged : goal.returns-in_err-rec-clause-damaged
returns-in_err-rec-clause-damaged g c = λ tells.
    let s = g.R.Reads.state c.args.space.now in
    let p = err_from_is_err_and c.from_residual.result c.from_residual.ensures.1 in
    rw (p.1, p.2) (walk_fault s (g.R.Reads.state c.loop.space) c.loop.counter c.args.node c.args.first (c.meta-budget.result.high - c.loop.counter)
    c.loop.at c.in_err-rec.field-0.0
    c.loop.invariant.read c.if-at.false (c.loop.invariant.left tells) (c.in_err-rec.ensures.damaged tells))

pub returns-then-at-2-clause-damaged : goal.returns-then-at-2-clause-damaged
returns-then-at-2-clause-damaged g c = λ tells.
    let s = g.R.Reads.state c.args.space.now in
    let ge = c.loop-test.false in
    subst (IsWalkDamage s c.args.node c.args.first) (sym c.chain_damage.ensures)
    (NoList (λ xs list. c.if-at-2.true (left_none s.records (c.meta-budget.result.high - c.loop.counter) c.loop.at xs (omega arith)
    (c.loop.invariant.left tells xs list.walk (few_owned s.records c.args.node c.args.first xs list)))))

pub returns-in_err-rec-clause-met : goal.returns-in_err-rec-clause-met
returns-in_err-rec-clause-met g c _ = never_ok c.from_residual.result _ _ c.from_residual.ensures.1
