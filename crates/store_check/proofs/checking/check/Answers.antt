use Rattle.std.proofs.Common.{arith, ◌≡◌, ◌<◌, ◌≤◌, Option, IfNone, ⊎_elim, sym, subst, rules}
use Rattle.std.proofs.lemmas.Bool.{cases_lt}
use Rattle.rec_bytes.specs.Frame.{IsRead}
use Rattle.rec_bytes.specs.Space.{SameButReads}
use Rattle.rec_bytes.specs.declared.damage.Damage.{Damage}
use Rattle.rec_bytes.specs.declared.shape.Shape.{Shape}
use Rattle.rec_bytes.specs.declared.space.Reads.{Ghosts}
use Rattle.store_rules.specs.Ranges.{AreInRange}
use Rattle.store_rules.specs.Rules.{IsWellFormed}
use Rattle.store_rules.specs.Views.{Records}
use Rattle.store_rules.specs.Breaking.{AreChained, Keeps}
use Rattle.record_lists.specs.Deciding.{AreMarksLow, BreaksRule, DecidesRule}
use Rattle.store_rules.proofs.Breaches.{none_at_all}
use Rattle.store_check.proofs.AllRules.{is_indexed, is_store}
use Rattle.record_lists.proofs.HeadLaws.{one_more}
use Rattle.rec_bytes.proofs.Causes.{never_ok, ok_cause}
use Rattle.record_lists.proofs.Causes.{cause_passed}
use Rattle.record_lists.proofs.OnlyReads.{is_read-none, is_read-on}
use Rattle.store_check.proofs.checking.check.Goals as goal

-- the count of reads alone is another
same-read : {R : Type 0} (space : Ghosts R) → ((a b : R) → space.onward a b → (space.state b).shape ≡ (space.state a).shape) → (a b : R)
    → IsRead space a b → SameButReads (space.state a) (space.state b)
same-read space keeps_shape a b read = λ i. record {
  records = read.records i;
  written = read.written i;
  reads = (space.state b).reads;
  shape = keeps_shape a b read.onward i;
}

pub decide-requires-clause-ranges : goal.decide-requires-clause-ranges
decide-requires-clause-ranges g c = λ tells lt.
    let s = g.R.Reads.state c.args.space.now in
    let inv = c.loop-rule.invariant in
    let now = g.R.Reads.state c.loop-rule.space in
    let kept : AreInRange s.records s.shape = inv.kept tells 1 (omega arith) lt in
    subst (λ (r : Records). AreInRange r now.shape) (sym inv.read.records) (subst (λ (h : Shape). AreInRange s.records h) (sym
    (g.met.R.Reads.onward_shape _ _ inv.read.onward)) kept)

pub decide-requires-clause-chained : goal.decide-requires-clause-chained
decide-requires-clause-chained g c = λ tells lt.
    let s = g.R.Reads.state c.args.space.now in
    let inv = c.loop-rule.invariant in
    let kept : AreChained s.records = inv.kept tells 3 (omega arith) lt in
    subst AreChained (sym inv.read.records) kept

pub decide-requires-clause-rules : goal.decide-requires-clause-rules
decide-requires-clause-rules g c = λ tells lt.
    let s = g.R.Reads.state c.args.space.now in
    let inv = c.loop-rule.invariant in
    let now = g.R.Reads.state c.loop-rule.space in
    let kept : IsWellFormed s.records s.shape = is_store s.records s.shape (λ n from to. inv.kept tells n from (omega (arith, to, lt))) in
    subst (λ (r : Records). IsWellFormed r now.shape) (sym inv.read.records) (subst (λ (h : Shape). IsWellFormed s.records h) (sym
    (g.met.R.Reads.onward_shape _ _ inv.read.onward)) kept)

pub returns-in-Some-clause-only : goal.returns-in-Some-clause-only
returns-in-Some-clause-only g c = λ tells store.
    let s = g.R.Reads.state c.args.space.now in
    let inv = c.loop-rule.invariant in
    let rule = c.loop-rule.rule in
    let found = c.in_ok-damage.field-0 in
    let decided : DecidesRule s.records s.shape rule found
    = subst (λ (r : Records). DecidesRule r s.shape rule found) inv.read.records
    (subst (λ (h : Shape). DecidesRule (g.R.Reads.state c.loop-rule.space).records h rule found) (g.met.R.Reads.onward_shape _ _ inv.read.onward)
    (c.in_ok-damage.ensures.decided tells)) in
    let breaks : BreaksRule s.records s.shape rule c.in-Some.damage = subst (λ (o : Option Damage). DecidesRule s.records s.shape rule o) c.in-Some.is
    decided in
    absurd (none_at_all s.records s.shape store c.in-Some.damage breaks.breaks)

pub loop-rule-preserved : goal.loop-rule-preserved
loop-rule-preserved g c =
    let s = g.R.Reads.state c.args.space.now in
    let inv = c.loop-rule.invariant in
    let rule = c.loop-rule.rule in
    let found = c.in_ok-damage.field-0 in
    record {
      from = omega (arith, inv.from);
      kept = λ t n from lt.
          let decided : DecidesRule s.records s.shape rule found
          = subst (λ (r : Records). DecidesRule r s.shape rule found) inv.read.records
          (subst (λ (h : Shape). DecidesRule (g.R.Reads.state c.loop-rule.space).records h rule found)
          (g.met.R.Reads.onward_shape _ _ inv.read.onward) (c.in_ok-damage.ensures.decided t)) in
          let here : Keeps s.records s.shape rule = subst (λ (o : Option Damage). DecidesRule s.records s.shape rule o) c.in_default.is decided in
          one_more (λ m. 1 ≤ m → Keeps s.records s.shape m) rule (λ m below low. inv.kept t m low below) (λ _. here) n lt from;
      low = λ lt. ⊎_elim (λ (more : 1 < rule). inv.low more)
          (λ (le : rule ≤ 1).
          let first : rule ≡ 1 = omega (arith, le, inv.from) in
          let none : IfNone found (AreMarksLow s.records) = subst (λ (r : Records). IfNone found (AreMarksLow r)) inv.read.records
          (c.in_ok-damage.ensures.low first) in
          subst (λ (o : Option Damage). IfNone o (AreMarksLow s.records)) c.in_default.is none)
          (cases_lt 1 rule);
      read = is_read-on g.R.Reads g.met.R.Reads.further_onward c.args.space.now c.loop-rule.space c.decide.new.space inv.read c.in_ok-damage.ensures.read;
    }

pub returns-clause-sound : goal.returns-clause-sound
returns-clause-sound g c = λ tells e.
    let s = g.R.Reads.state c.args.space.now in
    is_indexed s.records s.shape (λ n from to. c.loop-rule.invariant.kept tells n from (let past = c.loop-rule-test.false in omega (arith, to, past)))

pub returns-in_err-damage-clause-sound : goal.returns-in_err-damage-clause-sound
returns-in_err-damage-clause-sound g c _ = never_ok c.from_residual.result _ _ c.from_residual.ensures.1

pub returns-in_err-damage-clause-only : goal.returns-in_err-damage-clause-only
returns-in_err-damage-clause-only g c _ _ = never_ok c.from_residual.result _ _ c.from_residual.ensures.1

pub returns-in_err-damage-clause-broken : goal.returns-in_err-damage-clause-broken
returns-in_err-damage-clause-broken g c _ = never_ok c.from_residual.result _ _ c.from_residual.ensures.1

pub returns-clause-cause : goal.returns-clause-cause
returns-clause-cause g c = ok_cause _ _ _ _ (omega arith)

pub returns-in_err-damage-clause-cause : goal.returns-in_err-damage-clause-cause
returns-in_err-damage-clause-cause g c =
    cause_passed _ _ _ c.from_residual.result c.in_err-damage.field-0.0 c.loop-rule.invariant.read.later c.in_err-damage.ensures.cause c.from_residual.ensures.1

pub loop-rule-init : goal.loop-rule-init
loop-rule-init g c = record {
  read = is_read-none g.R.Reads g.met.R.Reads.stays_onward c.args.space.now;
  from = omega arith;
  kept = λ t n from lt. absurd (omega arith);
  low = λ lt. absurd (omega arith);
}

pub returns-in_err-damage-clause-same : goal.returns-in_err-damage-clause-same
returns-in_err-damage-clause-same g c =
    same-read g.R.Reads g.met.R.Reads.onward_shape _ _
    (is_read-on g.R.Reads g.met.R.Reads.further_onward _ _ _ c.loop-rule.invariant.read c.decide.ensures.read)

pub returns-in_err-damage-clause-onward : goal.returns-in_err-damage-clause-onward
returns-in_err-damage-clause-onward g c = g.met.R.Reads.further_onward _ _ _ c.loop-rule.invariant.read.onward c.decide.ensures.read.onward

pub returns-in-Some-clause-same : goal.returns-in-Some-clause-same
returns-in-Some-clause-same g c =
    same-read g.R.Reads g.met.R.Reads.onward_shape _ _
    (is_read-on g.R.Reads g.met.R.Reads.further_onward _ _ _ c.loop-rule.invariant.read c.decide.ensures.read)

pub returns-in-Some-clause-onward : goal.returns-in-Some-clause-onward
returns-in-Some-clause-onward g c = g.met.R.Reads.further_onward _ _ _ c.loop-rule.invariant.read.onward c.decide.ensures.read.onward

pub returns-clause-same : goal.returns-clause-same
returns-clause-same g c = same-read g.R.Reads g.met.R.Reads.onward_shape _ _ c.loop-rule.invariant.read

pub returns-clause-onward : goal.returns-clause-onward
returns-clause-onward g c = c.loop-rule.invariant.read.onward
