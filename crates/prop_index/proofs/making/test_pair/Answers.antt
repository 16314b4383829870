use Rattle.std.specs.List.{Contains}
use Rattle.std.proofs.lemmas.Result.{err_from_is_err_and}
use Rattle.prop_index.specs.Making.{pair_is}
use Rattle.prop_index.specs.declared.listing.IndexPair.{IndexPair}
use Rattle.prop_index.proofs.Counting.{pair_read, read_make}
use Rattle.std.proofs.Common.{List, subst, ap, sym, ◌∙◌, length, arith, rules}
use Rattle.std.proofs.lemmas.Bool.{true≢false}
use Rattle.std.proofs.lemmas.List.{length-map}
use Rattle.prop_index.specs.Listing.{pair_of}
use Rattle.prop_index.proofs.MakeFaults.{has_listed, lacks_listed, pair_exit}
use Rattle.rec_bytes.proofs.Causes.{never_ok, ok_cause}
use Rattle.prop_index.proofs.Causes.{make_cause_passed, make_other_cause}
use Rattle.prop_index.proofs.making.test_pair.Goals as goal

pub returns-in_err-pairs-clause-refused : goal.returns-in_err-pairs-clause-refused
returns-in_err-pairs-clause-refused g c tells wanted ix room =
    let s = g.R.Reads.state c.args.space.now in
    pair_exit s.records ix.definitions c.args.label c.args.key c.from_residual.result c.indexes.result c.in_err-pairs.field-0.0 c.in_err-pairs.was
    c.from_residual.ensures.1 (c.indexes.ensures.not_damaged tells wanted ix room)

pub returns-then-has_pair-clause-refused : goal.returns-then-has_pair-clause-refused
returns-then-has_pair-clause-refused g c tells wanted ix room =
    let s = g.R.Reads.state c.args.space.now in
    has_listed s.records ix.definitions c.deref.result.now c.args.label c.args.key (c.deref.ensures.value ∙ c.in_ok-pairs.ensures.listed tells wanted ix)
    (c.has_pair.ensures.0 c.if-has_pair.true)

pub returns-then-len-ge-MOST_INDEXES-clause-refused : goal.returns-then-len-ge-MOST_INDEXES-clause-refused
returns-then-len-ge-MOST_INDEXES-clause-refused g c tells wanted ix room =
    let s = g.R.Reads.state c.args.space.now in
    let listed = c.in_ok-pairs.ensures.listed tells wanted ix in
    let long = ap length listed ∙ length-map ix.definitions (pair_of s.records) in
    let few = ix.few in
    let test = c.if-len-ge-MOST_INDEXES.true in
    let len = c.len.ensures in (
      lacks_listed s.records ix.definitions c.deref.result.now c.args.label c.args.key (c.deref.ensures.value ∙ listed)
          (λ is. true≢false (sym (c.has_pair.ensures.1 is) ∙ c.if-has_pair.false)),
      omega (arith, long, few, test, len),
    )

pub returns-clause-may : goal.returns-clause-may
returns-clause-may g c tells wanted ix =
    let s = g.R.Reads.state c.args.space.now in
    let listed = c.in_ok-pairs.ensures.listed tells wanted ix in
    let long = ap length listed ∙ length-map ix.definitions (pair_of s.records) in
    let test = c.if-len-ge-MOST_INDEXES.false in
    let len = c.len.ensures in
    record {
      lacked = lacks_listed s.records ix.definitions c.deref.result.now c.args.label c.args.key (c.deref.ensures.value ∙ listed)
          (λ is. true≢false (sym (c.has_pair.ensures.1 is) ∙ c.if-has_pair.false));
      few = omega (arith, long, test, len);
    }

pub returns-in_err-pairs-clause-caused : goal.returns-in_err-pairs-clause-caused
returns-in_err-pairs-clause-caused g c tells =
    let s = g.R.Reads.state c.args.space.now in
    let p = err_from_is_err_and c.from_residual.result c.from_residual.ensures.1 in
    rw (p.1, p.2) (pair_read s.records c.args.label c.args.key c.in_err-pairs.field-0.0)

pub returns-then-has_pair-clause-caused : goal.returns-then-has_pair-clause-caused
returns-then-has_pair-clause-caused g c tells = record {
  pairs = c.in_ok-pairs.pairs.items;
  met = c.in_ok-pairs.ensures.walked tells;
  there = subst (λ (xs : List IndexPair). Contains xs (pair_is c.args.label c.args.key)) c.deref.ensures.value (c.has_pair.ensures.0 c.if-has_pair.true);
}

pub returns-then-len-ge-MOST_INDEXES-clause-caused : goal.returns-then-len-ge-MOST_INDEXES-clause-caused
returns-then-len-ge-MOST_INDEXES-clause-caused g c tells =
    let few = c.in_ok-pairs.ensures.few in
    let test = c.if-len-ge-MOST_INDEXES.true in
    let len = c.len.ensures in
    record { pairs = c.in_ok-pairs.pairs.items; met = c.in_ok-pairs.ensures.walked tells; many = omega (arith, few, test, len) }

pub returns-in_err-pairs-clause-damaged : goal.returns-in_err-pairs-clause-damaged
returns-in_err-pairs-clause-damaged g c tells =
    let s = g.R.Reads.state c.args.space.now in
    let p = err_from_is_err_and c.from_residual.result c.from_residual.ensures.1 in
    rw (p.1, p.2) (read_make s.records s.shape c.in_err-pairs.field-0.0 (c.in_err-pairs.ensures.damaged tells))

pub returns-in_err-pairs-clause-may : goal.returns-in_err-pairs-clause-may
returns-in_err-pairs-clause-may g c _ _ _ = never_ok c.from_residual.result _ _ c.from_residual.ensures.1

pub returns-in_err-pairs-clause-onward : goal.returns-in_err-pairs-clause-onward
returns-in_err-pairs-clause-onward g c = search rules

pub returns-clause-cause : goal.returns-clause-cause
returns-clause-cause g c = ok_cause _ _ _ _ (omega arith)

pub returns-in_err-pairs-clause-cause : goal.returns-in_err-pairs-clause-cause
returns-in_err-pairs-clause-cause g c =
    make_cause_passed _ _ _ c.from_residual.result c.in_err-pairs.field-0.0 (omega arith) c.in_err-pairs.ensures.cause c.from_residual.ensures.1

pub returns-in_err-pairs-clause-reads : goal.returns-in_err-pairs-clause-reads
returns-in_err-pairs-clause-reads g c = c.in_err-pairs.ensures.at_most

pub returns-then-has_pair-clause-cause : goal.returns-then-has_pair-clause-cause
returns-then-has_pair-clause-cause g c = make_other_cause _ _ _ c.in_ok-pairs.ensures.cause.later (λ e. absurd cc)

pub returns-then-has_pair-clause-reads : goal.returns-then-has_pair-clause-reads
returns-then-has_pair-clause-reads g c = c.in_ok-pairs.ensures.at_most

pub returns-then-has_pair-clause-onward : goal.returns-then-has_pair-clause-onward
returns-then-has_pair-clause-onward g c = c.in_ok-pairs.ensures.onward

pub returns-then-len-ge-MOST_INDEXES-clause-cause : goal.returns-then-len-ge-MOST_INDEXES-clause-cause
returns-then-len-ge-MOST_INDEXES-clause-cause g c = make_other_cause _ _ _ c.in_ok-pairs.ensures.cause.later (λ e. absurd cc)

pub returns-then-len-ge-MOST_INDEXES-clause-reads : goal.returns-then-len-ge-MOST_INDEXES-clause-reads
returns-then-len-ge-MOST_INDEXES-clause-reads g c = c.in_ok-pairs.ensures.at_most

pub returns-then-len-ge-MOST_INDEXES-clause-onward : goal.returns-then-len-ge-MOST_INDEXES-clause-onward
returns-then-len-ge-MOST_INDEXES-clause-onward g c = c.in_ok-pairs.ensures.onward

pub returns-clause-reads : goal.returns-clause-reads
returns-clause-reads g c = c.in_ok-pairs.ensures.at_most

pub returns-clause-onward : goal.returns-clause-onward
returns-clause-onward g c = c.in_ok-pairs.ensures.onward
