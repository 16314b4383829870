use Rattle.std.proofs.Common.{rules, ◌∙◌, IfNone, subst, arith}
use Rattle.store_rules.specs.Views.{Records}
use Rattle.store_check.specs.Holding.{AreDefinitionsRight, AreElementsRight, AreTextsRight}
use Rattle.store_check.proofs.HoldingRule.{are_properties}
use Rattle.record_lists.proofs.Causes.{cause_passed}
use Rattle.rec_bytes.proofs.Causes.{never_ok, ok_cause}
use Rattle.record_lists.proofs.OnlyReads.{is_read-on}
use Rattle.store_check.proofs.properties.check_properties.Goals as goal

pub returns-in-None-clause-decided : goal.returns-in-None-clause-decided
returns-in-None-clause-decided g c = λ tells.
    let s = g.R.Reads.state c.args.space.now in
    let elements : AreElementsRight s.records = search (rules, c.in_ok-damage.ensures.none tells) in
    let second : IfNone c.in_ok-damage-2.field-0 (AreTextsRight s.records) =
    subst (λ (r : Records). IfNone c.in_ok-damage-2.field-0 (AreTextsRight r)) c.in_ok-damage.ensures.read.records (c.in_ok-damage-2.ensures.none tells) in
    let texts : AreTextsRight s.records = search (rules, second) in
    let third : IfNone c.in_ok-damage-3.field-0 (AreDefinitionsRight s.records) =
    subst (λ (r : Records). IfNone c.in_ok-damage-3.field-0 (AreDefinitionsRight r)) (c.in_ok-damage-2.ensures.read.records ∙
    c.in_ok-damage.ensures.read.records)
    (c.in_ok-damage-3.ensures.none tells) in
    let definitions : AreDefinitionsRight s.records = search (rules, third) in
    are_properties s.records elements texts definitions

pub returns-in_err-damage-2-clause-read : goal.returns-in_err-damage-2-clause-read
returns-in_err-damage-2-clause-read g c =
    is_read-on g.R.Reads g.met.R.Reads.further_onward _ _ _ c.in_ok-damage.ensures.read c.in_err-damage-2.ensures.read

pub returns-in-Some-2-clause-read : goal.returns-in-Some-2-clause-read
returns-in-Some-2-clause-read g c =
    is_read-on g.R.Reads g.met.R.Reads.further_onward _ _ _ c.in_ok-damage.ensures.read c.in_ok-damage-2.ensures.read

pub returns-in_err-damage-3-clause-read : goal.returns-in_err-damage-3-clause-read
returns-in_err-damage-3-clause-read g c =
    is_read-on g.R.Reads g.met.R.Reads.further_onward _ _ _ (is_read-on g.R.Reads g.met.R.Reads.further_onward _ _ _ c.in_ok-damage.ensures.read
    c.in_ok-damage-2.ensures.read) c.in_err-damage-3.ensures.read

pub returns-in-Some-3-clause-read : goal.returns-in-Some-3-clause-read
returns-in-Some-3-clause-read g c =
    is_read-on g.R.Reads g.met.R.Reads.further_onward _ _ _ (is_read-on g.R.Reads g.met.R.Reads.further_onward _ _ _ c.in_ok-damage.ensures.read
    c.in_ok-damage-2.ensures.read) c.in_ok-damage-3.ensures.read

pub returns-in-None-clause-read : goal.returns-in-None-clause-read
returns-in-None-clause-read g c =
    is_read-on g.R.Reads g.met.R.Reads.further_onward _ _ _ (is_read-on g.R.Reads g.met.R.Reads.further_onward _ _ _ c.in_ok-damage.ensures.read
    c.in_ok-damage-2.ensures.read) c.in_ok-damage-3.ensures.read

pub returns-in_err-damage-2-clause-cause : goal.returns-in_err-damage-2-clause-cause
returns-in_err-damage-2-clause-cause g c =
    cause_passed _ _ _ c.from_residual-in_err-damage-2.result c.in_err-damage-2.field-0.0
    c.in_ok-damage.ensures.cause.later c.in_err-damage-2.ensures.cause
    c.from_residual-in_err-damage-2.ensures.1

pub returns-in_err-damage-clause-decided : goal.returns-in_err-damage-clause-decided
returns-in_err-damage-clause-decided g c _ = never_ok c.from_residual.result _ _ c.from_residual.ensures.1

pub returns-in_err-damage-clause-read : goal.returns-in_err-damage-clause-read
returns-in_err-damage-clause-read g c =
    c.in_err-damage.ensures.read

pub returns-in_err-damage-2-clause-decided : goal.returns-in_err-damage-2-clause-decided
returns-in_err-damage-2-clause-decided g c _ = never_ok c.from_residual-in_err-damage-2.result _ _ c.from_residual-in_err-damage-2.ensures.1

pub returns-in_err-damage-3-clause-decided : goal.returns-in_err-damage-3-clause-decided
returns-in_err-damage-3-clause-decided g c _ = never_ok c.from_residual-in_err-damage-3.result _ _ c.from_residual-in_err-damage-3.ensures.1

pub returns-in_err-damage-clause-cause : goal.returns-in_err-damage-clause-cause
returns-in_err-damage-clause-cause g c =
    cause_passed _ _ _ c.from_residual.result c.in_err-damage.field-0.0 (omega arith) c.in_err-damage.ensures.cause c.from_residual.ensures.1

pub returns-in_err-damage-3-clause-cause : goal.returns-in_err-damage-3-clause-cause
returns-in_err-damage-3-clause-cause g c =
    cause_passed _ _ _ c.from_residual-in_err-damage-3.result c.in_err-damage-3.field-0.0
    (omega (arith, c.in_ok-damage.ensures.cause.later, c.in_ok-damage-2.ensures.cause.later))
    c.in_err-damage-3.ensures.cause c.from_residual-in_err-damage-3.ensures.1

pub returns-in-Some-clause-read : goal.returns-in-Some-clause-read
returns-in-Some-clause-read g c = c.check_elements.ensures.read

pub returns-in-Some-clause-cause : goal.returns-in-Some-clause-cause
returns-in-Some-clause-cause g c = ok_cause _ _ _ _ (returns-in-Some-clause-read g c).later

pub returns-in-Some-2-clause-cause : goal.returns-in-Some-2-clause-cause
returns-in-Some-2-clause-cause g c = ok_cause _ _ _ _ (returns-in-Some-2-clause-read g c).later

pub returns-in-Some-3-clause-cause : goal.returns-in-Some-3-clause-cause
returns-in-Some-3-clause-cause g c = ok_cause _ _ _ _ (returns-in-Some-3-clause-read g c).later

pub returns-in-None-clause-cause : goal.returns-in-None-clause-cause
returns-in-None-clause-cause g c = ok_cause _ _ _ _ (returns-in-None-clause-read g c).later
