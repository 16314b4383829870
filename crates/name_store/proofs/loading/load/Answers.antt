use Rattle.std.proofs.Common.{◌≡◌, ◌<◌, ◌∷◌, [], ◌++◌, length, ap, sym, subst, ◌∙◌, refl, arith}
use Rattle.std.proofs.lemmas.Result.{err_from_is_err_and}
use Rattle.rec_bytes.specs.declared.meta.Meta.{Meta}
use Rattle.rec_bytes.specs.Space.{after_gets}
use Rattle.rec_bytes.proofs.Spaces.{after_gets-zero}
use Rattle.name_store.specs.Loading.{AreLoadableTo, HasNoForm, HoldsFirst, IsLoadFault, most_reads, name_mark, text_at}
use Rattle.name_store.specs.Loading.IsNameDamage.{HighMark}
use Rattle.name_store.proofs.FirstNames.{AreLoadableTo-first, HoldsFirst-next, form_next, names_of-first}
use Rattle.name_store.proofs.NameDamage.{IsFirstDamage-at, NotDamaged-loadable}
use Rattle.name_store.proofs.Reading.{reads_next, reads_none, records_there, state_next}
use Rattle.name_store.proofs.loading.load.Goals as goal

pub returns-then-high-gt-MOST_NAMES-clause-damaged : goal.returns-then-high-gt-MOST_NAMES-clause-damaged
returns-then-high-gt-MOST_NAMES-clause-damaged g c = λ tells.
    let s = g.R.Reads.state c.args.space.now in
    let mark : c.meta-high.result.high ≡ name_mark s.records = ap (λ (m : Meta). m.high) c.meta-high.ensures in
    HighMark (omega arith)

pub returns-then-high-gt-MOST_NAMES-clause-at_most : goal.returns-then-high-gt-MOST_NAMES-clause-at_most
returns-then-high-gt-MOST_NAMES-clause-at_most g c = let s = g.R.Reads.state c.args.space.now in reads_none (most_reads s) s s refl

pub each-init : goal.each-init
each-init g c =
    let s = g.R.Reads.state c.args.space.now in
    let none : length c.new-names.result.names ≡ 0 = ap length c.new-names.ensures in
    record {
      first = λ tells id lt. absurd (omega arith);
      form = λ tells id lt. absurd (omega arith);
      count = omega arith;
      state = sym (ap (λ n. after_gets n s) none ∙ after_gets-zero s);
      onward = g.met.R.Reads.stays_onward c.args.space.now;
      later = omega arith;
    }

pub load_next-requires-clause-below : goal.load_next-requires-clause-below
load_next-requires-clause-below g c =
    let s = g.R.Reads.state c.args.space.now in
    let mark : c.meta-high.result.high ≡ name_mark s.records = ap (λ (m : Meta). m.high) c.meta-high.ensures in
    let there : name_mark (g.R.Reads.state c.each.space).records ≡ name_mark s.records =
    ap name_mark (records_there (length c.each.names.names) s (g.R.Reads.state c.each.space) c.each.invariant.state) in
    omega (arith, c.each-test.true, c.count.ensures.value)

pub each-preserved : goal.each-preserved
each-preserved g c =
    let s = g.R.Reads.state c.args.space.now in
    let m = g.R.Reads.state c.each.space in
    let names = c.each.names.names in
    let there = records_there (length names) s m c.each.invariant.state in
    let more = c.in_ok-load_next.ensures.count in
    record {
      first = λ tells. HoldsFirst-next s.records names c.load_next.new.names.names (c.each.invariant.first tells)
          (c.in_ok-load_next.ensures.next tells ∙ ap (λ records. names ++ text_at records (length names) ∷ []) there);
      form = λ tells. form_next s.records (length names) (length c.load_next.new.names.names) more (c.each.invariant.form tells)
          (subst (λ records. ¬ HasNoForm records (length names)) there (c.in_ok-load_next.ensures.form tells));
      count = omega (arith, c.each-test.true, c.count.ensures.value);
      state = state_next (length names) (length c.load_next.new.names.names) s m (g.R.Reads.state c.load_next.new.space) c.each.invariant.state
          c.load_next.ensures.state more;
      onward = g.met.R.Reads.further_onward c.args.space.now c.each.space c.load_next.new.space c.each.invariant.onward c.load_next.ensures.onward;
      later = let cause = c.load_next.ensures.cause in omega (arith, c.each.invariant.later, cause.later);
    }

-- what a load of the next name says of the records as they are then, it says of them as they were
pub returns-in_err-load_next-clause-damaged : goal.returns-in_err-load_next-clause-damaged
returns-in_err-load_next-clause-damaged g c = λ tells.
    let s = g.R.Reads.state c.args.space.now in
    let m = g.R.Reads.state c.each.space in
    let there = records_there (length c.each.names.names) s m c.each.invariant.state in
    let p = err_from_is_err_and c.from_residual.result c.from_residual.ensures.1 in
    let fault = c.in_err-load_next.ensures.damaged tells (subst (λ records. HoldsFirst records c.each.names.names) (sym there) (c.each.invariant.first tells))
    in
    rw (p.1, p.2) (subst (λ records. IsLoadFault records c.in_err-load_next.field-0.0) there fault)

pub returns-in_err-load_next-clause-first : goal.returns-in_err-load_next-clause-first
returns-in_err-load_next-clause-first g c = λ tells.
    let s = g.R.Reads.state c.args.space.now in
    let names = c.each.names.names in
    let p = err_from_is_err_and c.from_residual.result c.from_residual.ensures.1 in
    let before = AreLoadableTo-first s.records names c.count.ensures.are_names (c.each.invariant.first tells) (c.each.invariant.form tells) in
    rw (p.1, p.2) (IsFirstDamage-at s.records (length names) c.in_err-load_next.field-0.0 before c.in_err-load_next.ensures.at)

pub returns-in_err-load_next-clause-not_damaged : goal.returns-in_err-load_next-clause-not_damaged
returns-in_err-load_next-clause-not_damaged g c = λ tells right.
    let s = g.R.Reads.state c.args.space.now in
    let m = g.R.Reads.state c.each.space in
    let there = records_there (length c.each.names.names) s m c.each.invariant.state in
    let p = err_from_is_err_and c.from_residual.result c.from_residual.ensures.1 in
    let fault = c.in_err-load_next.ensures.damaged tells (subst (λ records. HoldsFirst records c.each.names.names) (sym there) (c.each.invariant.first tells))
    in
    rw (p.1, p.2) (NotDamaged-loadable s.records c.in_err-load_next.field-0.0 right (subst (λ records. IsLoadFault records c.in_err-load_next.field-0.0)
    there fault))

pub returns-in_err-load_next-clause-at_most : goal.returns-in_err-load_next-clause-at_most
returns-in_err-load_next-clause-at_most g c =
    let s = g.R.Reads.state c.args.space.now in
    let m = g.R.Reads.state c.each.space in
    let mark : c.meta-high.result.high ≡ name_mark s.records = ap (λ (m : Meta). m.high) c.meta-high.ensures in
    let lt : length c.each.names.names < most_reads s = omega (arith, c.each-test.true, c.count.ensures.value, c.if-high-gt-MOST_NAMES.false) in
    reads_next (most_reads s) (length c.each.names.names) s m (g.R.Reads.state c.load_next.new.space) lt c.each.invariant.state c.load_next.ensures.state

pub returns-clause-loaded : goal.returns-clause-loaded
returns-clause-loaded g c = λ tells.
    let s = g.R.Reads.state c.args.space.now in
    let mark : c.meta-high.result.high ≡ name_mark s.records = ap (λ (m : Meta). m.high) c.meta-high.ensures in
    names_of-first s.records c.each.names.names (c.each.invariant.first tells) (omega (arith, c.each-test.false, c.count.ensures.value, c.each.invariant.count))

pub returns-clause-right : goal.returns-clause-right
returns-clause-right g c = λ tells.
    let s = g.R.Reads.state c.args.space.now in
    let mark : c.meta-high.result.high ≡ name_mark s.records = ap (λ (m : Meta). m.high) c.meta-high.ensures in
    let long : length c.each.names.names ≡ name_mark s.records = omega (arith, c.each-test.false, c.count.ensures.value, c.each.invariant.count) in
    let all = subst (AreLoadableTo s.records) long (AreLoadableTo-first s.records c.each.names.names c.count.ensures.are_names (c.each.invariant.first tells)
    (c.each.invariant.form tells)) in
    record { mark = omega arith; form = all.form; names = all.names }
