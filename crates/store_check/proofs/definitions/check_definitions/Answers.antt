use Rattle.std.proofs.Common.{rules, arith, ◌≡◌, ◌<◌, ap, refl}
use Rattle.rec_bytes.specs.declared.meta.Meta.{Meta}
use Rattle.rec_bytes.specs.Format.{index_file}
use Rattle.store_rules.specs.Breaking.{DefinitionKeeps, damage}
use Rattle.store_rules.specs.Breaking.Breaks.{WrongDefinition}
use Rattle.store_rules.specs.Views.{high}
use Rattle.record_lists.proofs.DecidingLaws.{breaks_by}
use Rattle.rec_bytes.proofs.Causes.{never_ok, ok_cause}
use Rattle.record_lists.proofs.Causes.{cause_passed}
use Rattle.store_check.proofs.definitions.check_definitions.Goals as goal

pub returns-in-Some-clause-found : goal.returns-in-Some-clause-found
returns-in-Some-clause-found g c = λ tells.
    let s = g.R.Reads.state c.args.space.now in
    let id = c.in-Some.id in
    let mark : c.meta-mark.result.high ≡ high s.records index_file = ap (λ (m : Meta). m.high) c.meta-mark.ensures in
    let bad : (id < c.meta-mark.result.high) × (¬ DefinitionKeeps s.records id) = search (rules, c.in_ok-id.ensures.found tells) in
    breaks_by s.records s.shape 5 c.broken.result (damage 8 id 5) c.broken.ensures refl (WrongDefinition id (omega (arith, bad.0)) bad.1)

pub returns-in_err-id-clause-none : goal.returns-in_err-id-clause-none
returns-in_err-id-clause-none g c _ = never_ok c.from_residual.result _ _ c.from_residual.ensures.1

pub returns-in_err-id-clause-found : goal.returns-in_err-id-clause-found
returns-in_err-id-clause-found g c _ = never_ok c.from_residual.result _ _ c.from_residual.ensures.1

pub returns-in_err-id-clause-read : goal.returns-in_err-id-clause-read
returns-in_err-id-clause-read g c =
    c.in_err-id.ensures.read

pub returns-in_err-id-clause-cause : goal.returns-in_err-id-clause-cause
returns-in_err-id-clause-cause g c =
    cause_passed _ _ _ c.from_residual.result c.in_err-id.field-0.0 (omega arith) c.in_err-id.ensures.cause c.from_residual.ensures.1

pub returns-in-None-clause-read : goal.returns-in-None-clause-read
returns-in-None-clause-read g c = c.in_ok-id.ensures.read

pub returns-in-None-clause-cause : goal.returns-in-None-clause-cause
returns-in-None-clause-cause g c = ok_cause _ _ _ _ (returns-in-None-clause-read g c).later

pub returns-in-Some-clause-read : goal.returns-in-Some-clause-read
returns-in-Some-clause-read g c = c.in_ok-id.ensures.read

pub returns-in-Some-clause-cause : goal.returns-in-Some-clause-cause
returns-in-Some-clause-cause g c = ok_cause _ _ _ _ (returns-in-Some-clause-read g c).later
