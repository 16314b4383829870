use Rattle.std.proofs.Common.{rules, ℕ, List, arith}
use Rattle.rec_bytes.specs.Format as format
use Rattle.store_rules.specs.IndexBreaking.{AreDefinitions}
use Rattle.store_rules.specs.IndexBreaking.IndexBreaks.{WrongDefinitions}
use Rattle.index_check.proofs.IndexLaws.{breaks_by}
use Rattle.prop_store.proofs.Causes.{space_cause_passed, cause_after, later_on}
use Rattle.rec_bytes.proofs.Causes.{never_ok, ok_cause}
use Rattle.prop_store.proofs.Exits.{space_exit}
use Rattle.record_lists.proofs.OnlyReads.{is_read-on}
use Rattle.index_check.proofs.checking.decide.Goals as goal

pub returns-in_default-clause-decided : goal.returns-in_default-clause-decided
returns-in_default-clause-decided g c = λ tells.
    let records = (g.R.Reads.state c.args.space.now).records in
    let none : (xs : List ℕ) → ¬ AreDefinitions records xs = search (rules, c.in_ok-ids.ensures.none tells) in
    breaks_by records c.broken.result format.meta_file format.index_file c.broken.ensures (WrongDefinitions (λ h. none h.members h.list))

pub returns-in_err-definitions-clause-read : goal.returns-in_err-definitions-clause-read
returns-in_err-definitions-clause-read g c =
    is_read-on g.R.Reads g.met.R.Reads.further_onward _ _ _ c.in_ok-ids.ensures.read c.in_err-definitions.ensures.read

pub returns-clause-read : goal.returns-clause-read
returns-clause-read g c =
    is_read-on g.R.Reads g.met.R.Reads.further_onward _ _ _ (is_read-on g.R.Reads g.met.R.Reads.further_onward _ _ _ c.in_ok-ids.ensures.read
    c.in_ok-definitions.ensures.read) c.check_definitions.ensures.read

pub returns-in_err-definitions-clause-cause : goal.returns-in_err-definitions-clause-cause
returns-in_err-definitions-clause-cause g c =
    space_cause_passed _ _ _ c.from_residual-in_err-definitions.result c.in_err-definitions.field-0.0
    c.in_ok-ids.ensures.cause.later c.in_err-definitions.ensures.cause
    c.from_residual-in_err-definitions.ensures.1

pub returns-in_err-ids-clause-decided : goal.returns-in_err-ids-clause-decided
returns-in_err-ids-clause-decided g c _ = never_ok c.from_residual.result _ _ c.from_residual.ensures.1

pub returns-in_err-ids-clause-read : goal.returns-in_err-ids-clause-read
returns-in_err-ids-clause-read g c =
    c.in_err-ids.ensures.read

pub returns-in_err-definitions-clause-decided : goal.returns-in_err-definitions-clause-decided
returns-in_err-definitions-clause-decided g c _ = never_ok c.from_residual-in_err-definitions.result _ _ c.from_residual-in_err-definitions.ensures.1

pub returns-in_err-ids-clause-not_damaged : goal.returns-in_err-ids-clause-not_damaged
returns-in_err-ids-clause-not_damaged g c _ _ = space_exit c.from_residual.result c.in_err-ids.field-0.0 c.from_residual.ensures.1

pub returns-in_err-ids-clause-cause : goal.returns-in_err-ids-clause-cause
returns-in_err-ids-clause-cause g c =
    space_cause_passed _ _ _ c.from_residual.result c.in_err-ids.field-0.0 (omega arith) c.in_err-ids.ensures.cause c.from_residual.ensures.1

pub returns-in_err-definitions-clause-not_damaged : goal.returns-in_err-definitions-clause-not_damaged
returns-in_err-definitions-clause-not_damaged g c _ _ = space_exit c.from_residual-in_err-definitions.result c.in_err-definitions.field-0.0
    c.from_residual-in_err-definitions.ensures.1

pub returns-in_default-clause-cause : goal.returns-in_default-clause-cause
returns-in_default-clause-cause g c = ok_cause _ _ _ _ c.in_ok-ids.ensures.cause.later

pub returns-in_default-clause-read : goal.returns-in_default-clause-read
returns-in_default-clause-read g c = c.in_ok-ids.ensures.read

pub returns-in_default-clause-not_damaged : goal.returns-in_default-clause-not_damaged
returns-in_default-clause-not_damaged g c tells readable = tt

pub returns-clause-cause : goal.returns-clause-cause
returns-clause-cause g c =
    cause_after _ _ _ c.check_definitions.result (later_on c.in_ok-ids.ensures.cause.later c.in_ok-definitions.ensures.cause.later)
    c.check_definitions.ensures.cause
