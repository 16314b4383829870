use Rattle.std.specs.Prelude.{IfOk}
use Rattle.std.proofs.Common.{ℕ, arith, subst, sym}
use Rattle.record_lists.specs.Deciding.{DecidesRule}
use Rattle.store_check.proofs.checking.decide.Goals as goal

pub returns-in-1-clause-decided : goal.returns-in-1-clause-decided
returns-in-1-clause-decided g c tells =
    let s = g.R.Reads.state c.args.space.now in
    subst (λ (rule : ℕ). IfOk c.check_ranges.result (DecidesRule s.records s.shape rule)) (sym c.in-1.is) (c.check_ranges.ensures.decided tells)

pub returns-in-1-clause-read : goal.returns-in-1-clause-read
returns-in-1-clause-read g c = c.check_ranges.ensures.read

pub returns-in-1-clause-cause : goal.returns-in-1-clause-cause
returns-in-1-clause-cause g c = c.check_ranges.ensures.cause

pub returns-in-1-clause-low : goal.returns-in-1-clause-low
returns-in-1-clause-low g c first = c.check_ranges.ensures.low

pub returns-in-2-clause-decided : goal.returns-in-2-clause-decided
returns-in-2-clause-decided g c tells =
    let s = g.R.Reads.state c.args.space.now in
    subst (λ (rule : ℕ). IfOk c.check_split.result (DecidesRule s.records s.shape rule)) (sym c.in-2.is) (c.check_split.ensures.decided tells)

pub returns-in-2-clause-read : goal.returns-in-2-clause-read
returns-in-2-clause-read g c = c.check_split.ensures.read

pub returns-in-2-clause-cause : goal.returns-in-2-clause-cause
returns-in-2-clause-cause g c = c.check_split.ensures.cause

pub returns-in-2-clause-low : goal.returns-in-2-clause-low
returns-in-2-clause-low g c first = absurd (omega (arith, first, c.in-2.is))

pub returns-in-3-clause-decided : goal.returns-in-3-clause-decided
returns-in-3-clause-decided g c tells =
    let s = g.R.Reads.state c.args.space.now in
    subst (λ (rule : ℕ). IfOk c.check_chains.result (DecidesRule s.records s.shape rule)) (sym c.in-3.is) (c.check_chains.ensures.decided tells)

pub returns-in-3-clause-read : goal.returns-in-3-clause-read
returns-in-3-clause-read g c = c.check_chains.ensures.read

pub returns-in-3-clause-cause : goal.returns-in-3-clause-cause
returns-in-3-clause-cause g c = c.check_chains.ensures.cause

pub returns-in-3-clause-low : goal.returns-in-3-clause-low
returns-in-3-clause-low g c first = absurd (omega (arith, first, c.in-3.is))

pub returns-in-4-clause-decided : goal.returns-in-4-clause-decided
returns-in-4-clause-decided g c tells =
    let s = g.R.Reads.state c.args.space.now in
    subst (λ (rule : ℕ). IfOk c.check_groups.result (DecidesRule s.records s.shape rule)) (sym c.in-4.is) (c.check_groups.ensures.decided tells)

pub returns-in-4-clause-read : goal.returns-in-4-clause-read
returns-in-4-clause-read g c = c.check_groups.ensures.read

pub returns-in-4-clause-cause : goal.returns-in-4-clause-cause
returns-in-4-clause-cause g c = c.check_groups.ensures.cause

pub returns-in-4-clause-low : goal.returns-in-4-clause-low
returns-in-4-clause-low g c first = absurd (omega (arith, first, c.in-4.is))

pub returns-in-5-clause-decided : goal.returns-in-5-clause-decided
returns-in-5-clause-decided g c tells =
    let s = g.R.Reads.state c.args.space.now in
    subst (λ (rule : ℕ). IfOk c.check_properties.result (DecidesRule s.records s.shape rule)) (sym c.in-5.is) (c.check_properties.ensures.decided tells)

pub returns-in-5-clause-read : goal.returns-in-5-clause-read
returns-in-5-clause-read g c = c.check_properties.ensures.read

pub returns-in-5-clause-cause : goal.returns-in-5-clause-cause
returns-in-5-clause-cause g c = c.check_properties.ensures.cause

pub returns-in-5-clause-low : goal.returns-in-5-clause-low
returns-in-5-clause-low g c first = absurd (omega (arith, first, c.in-5.is))

pub returns-in-6-clause-decided : goal.returns-in-6-clause-decided
returns-in-6-clause-decided g c tells =
    let s = g.R.Reads.state c.args.space.now in
    subst (λ (rule : ℕ). IfOk c.check_names.result (DecidesRule s.records s.shape rule)) (sym c.in-6.is) (c.check_names.ensures.decided tells)

pub returns-in-6-clause-read : goal.returns-in-6-clause-read
returns-in-6-clause-read g c = c.check_names.ensures.read

pub returns-in-6-clause-cause : goal.returns-in-6-clause-cause
returns-in-6-clause-cause g c = c.check_names.ensures.cause

pub returns-in-6-clause-low : goal.returns-in-6-clause-low
returns-in-6-clause-low g c first = absurd (omega (arith, first, c.in-6.is))

pub returns-in-7-clause-decided : goal.returns-in-7-clause-decided
returns-in-7-clause-decided g c tells =
    let s = g.R.Reads.state c.args.space.now in
    subst (λ (rule : ℕ). IfOk c.check_degrees.result (DecidesRule s.records s.shape rule)) (sym c.in-7.is) (c.check_degrees.ensures.decided tells)

pub returns-in-7-clause-read : goal.returns-in-7-clause-read
returns-in-7-clause-read g c = c.check_degrees.ensures.read

pub returns-in-7-clause-cause : goal.returns-in-7-clause-cause
returns-in-7-clause-cause g c = c.check_degrees.ensures.cause

pub returns-in-7-clause-low : goal.returns-in-7-clause-low
returns-in-7-clause-low g c first = absurd (omega (arith, first, c.in-7.is))

pub returns-in_default-clause-read : goal.returns-in_default-clause-read
returns-in_default-clause-read g c = c.check_indexes.ensures.read

pub returns-in_default-clause-cause : goal.returns-in_default-clause-cause
returns-in_default-clause-cause g c = c.check_indexes.ensures.cause
