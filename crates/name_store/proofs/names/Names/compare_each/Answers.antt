use Rattle.std.proofs.Common.{◌≡◌, ◌+◌, ◌<◌, Some, length, ap, sym, subst, ◌∙◌, refl, arith}
use Rattle.std.proofs.lemmas.Result.{err_from_is_err_and}
use Rattle.rec_bytes.specs.declared.meta.Meta.{Meta}
use Rattle.rec_bytes.proofs.Spaces.{after_gets-zero}
use Rattle.name_store.specs.Again.{HasOther}
use Rattle.name_store.specs.Loading.{name_mark, text_at}
use Rattle.name_store.proofs.FirstNames.{before_next}
use Rattle.name_store.proofs.NameDamage.{IsAgainFault-other}
use Rattle.name_store.proofs.Reading.{after_compare-kept, reads_compared, records_there, state_next}
use Rattle.name_store.proofs.names.Names.compare_each.Goals as goal

pub loop-id-init : goal.loop-id-init
loop-id-init g c =
    let s = g.R.Reads.state c.args.space.now in
    record {
      before = λ tells x lt. absurd (omega arith);
      kept = omega arith;
      state = sym (after_gets-zero s);
      onward = g.met.R.Reads.stays_onward c.args.space.now;
      later = omega arith;
    }

pub loop-id-preserved : goal.loop-id-preserved
loop-id-preserved g c =
    let s = g.R.Reads.state c.args.space.now in
    let m = g.R.Reads.state c.loop-id.space in
    let names = c.args.self.now.names in
    let there = records_there c.loop-id.id s m c.loop-id.invariant.state in
    let kept : c.loop-id.id < length names = c.in_ok-compare.ensures.kept in
    record {
      before = λ tells. before_next s.records names c.loop-id.id (c.loop-id.invariant.before tells)
          (c.in_ok-compare.ensures.same tells ∙ ap (λ records. Some (text_at records c.loop-id.id)) there);
      kept = omega arith;
      state = state_next c.loop-id.id (c.loop-id.id + 1) s m (g.R.Reads.state c.compare.new.space) c.loop-id.invariant.state
          (after_compare-kept m names c.loop-id.id (g.R.Reads.state c.compare.new.space) kept c.compare.ensures.state) refl;
      onward = g.met.R.Reads.further_onward c.args.space.now c.loop-id.space c.compare.new.space c.loop-id.invariant.onward c.compare.ensures.onward;
      later = let cause = c.compare.ensures.cause in omega (arith, c.loop-id.invariant.later, cause.later);
    }

-- what a comparison says of the records as they are then, it says of them as they were
pub returns-in_err-compare-clause-damaged : goal.returns-in_err-compare-clause-damaged
returns-in_err-compare-clause-damaged g c = λ tells.
    let s = g.R.Reads.state c.args.space.now in
    let m = g.R.Reads.state c.loop-id.space in
    let names = c.args.self.now.names in
    let there = records_there c.loop-id.id s m c.loop-id.invariant.state in
    let mark : c.meta-high.result.high ≡ name_mark s.records = ap (λ (m : Meta). m.high) c.meta-high.ensures in
    let p = err_from_is_err_and c.from_residual.result c.from_residual.ensures.1 in
    let other = subst (λ records. HasOther records names c.loop-id.id c.in_err-compare.field-0.0) there (c.in_err-compare.ensures.damaged tells) in
    rw (p.1, p.2) (IsAgainFault-other s.records names c.loop-id.id c.in_err-compare.field-0.0 (omega (arith, c.loop-id-test.true))
    (c.loop-id.invariant.before tells) other)

pub returns-in_err-compare-clause-at_most : goal.returns-in_err-compare-clause-at_most
returns-in_err-compare-clause-at_most g c =
    reads_compared c.args.self.now.names c.loop-id.id (g.R.Reads.state c.args.space.now) (g.R.Reads.state c.loop-id.space) (g.R.Reads.state c.compare.new.space)
    c.loop-id.invariant.kept c.loop-id.invariant.state c.compare.ensures.state

pub returns-clause-same : goal.returns-clause-same
returns-clause-same g c = λ tells x lt.
    let s = g.R.Reads.state c.args.space.now in
    let mark : c.meta-high.result.high ≡ name_mark s.records = ap (λ (m : Meta). m.high) c.meta-high.ensures in
    c.loop-id.invariant.before tells x (omega (arith, c.loop-id-test.false))
