use Rattle.std.proofs.Common.{arith, rules, ◌<◌, ℕ, IfNone, IfSome, subst, refl}
use Rattle.rec_bytes.specs.Format.{groups_file, relationships_file}
use Rattle.store_rules.specs.Views.{Records, high}
use Rattle.store_rules.specs.Breaking.{damage}
use Rattle.store_rules.specs.Breaking.Breaks.{GroupOwner}
use Rattle.chain_check.specs.Counts.{CountsHold}
use Rattle.chain_check.proofs.GroupCountLaws.{are_exact, counts_hold}
use Rattle.store_rules.proofs.ChainRules.{Grouped, linked_of}
use Rattle.record_lists.proofs.DecidingLaws.{breaks_by}
use Rattle.record_lists.proofs.Causes.{cause_passed}
use Rattle.chain_check.proofs.Causes.{no_memory}
use Rattle.rec_bytes.proofs.Causes.{never_ok, ok_cause}
use Rattle.record_lists.proofs.OnlyReads.{is_read-none, is_read-on}
use Rattle.chain_check.proofs.groups.check_groups.Goals as goal

pub returns-in-Some-2-clause-decided : goal.returns-in-Some-2-clause-decided
returns-in-Some-2-clause-decided g c = λ tells.
    let s = g.R.Reads.state c.args.space.now in
    let id = c.in-Some-2.id in
    let found : IfSome c.in_ok-id.field-0 (λ k. ¬ CountsHold s.records k)
    = subst (λ (r : Records). IfSome c.in_ok-id.field-0 (λ k. ¬ CountsHold r k)) c.in_ok-damage.ensures.read.records (c.in_ok-id.ensures.found tells) in
    let grouped : Grouped s.records = search (rules, c.in_ok-damage.ensures.grouped tells) in
    let bad : ¬ CountsHold s.records id = search (rules, found) in
    breaks_by s.records s.shape 4 c.broken.result (damage 3 id 4) c.broken.ensures refl
    (GroupOwner id (λ k. bad (counts_hold s.records (linked_of s.records grouped (c.requires.chained tells)) (c.requires.low relationships_file refl) id k)))

pub returns-clause-decided : goal.returns-clause-decided
returns-clause-decided g c = λ tells.
    let s = g.R.Reads.state c.args.space.now in
    let grouped : Grouped s.records = search (rules, c.in_ok-damage.ensures.grouped tells) in
    let none : IfNone c.in_ok-id.field-0 ((k : ℕ) → k < high s.records groups_file → CountsHold s.records k)
    = subst (λ (r : Records). IfNone c.in_ok-id.field-0 ((k : ℕ) → k < high r groups_file → CountsHold r k)) c.in_ok-damage.ensures.read.records
    (c.in_ok-id.ensures.none tells) in
    let hold : (k : ℕ) → k < high s.records groups_file → CountsHold s.records k = search (rules, none) in
    record {
      grouped = grouped;
      exact = are_exact s.records (linked_of s.records grouped (c.requires.chained tells)) (c.requires.low relationships_file refl)
          grouped hold;
    }

pub returns-in_err-damage-clause-cause : goal.returns-in_err-damage-clause-cause
returns-in_err-damage-clause-cause g c =
    cause_passed _ _ _ c.from_residual.result c.in_err-damage.field-0.0 (omega arith) c.in_err-damage.ensures.cause c.from_residual.ensures.1

pub returns-in_err-id-clause-cause : goal.returns-in_err-id-clause-cause
returns-in_err-id-clause-cause g c =
    cause_passed _ _ _ c.from_residual-in_err-id.result c.in_err-id.field-0.0 c.in_ok-damage.ensures.cause.later c.in_err-id.ensures.cause
    c.from_residual-in_err-id.ensures.1

pub returns-in_err-id-clause-read : goal.returns-in_err-id-clause-read
returns-in_err-id-clause-read g c =
    is_read-on g.R.Reads g.met.R.Reads.further_onward _ _ _ c.in_ok-damage.ensures.read c.in_err-id.ensures.read

pub returns-in-Some-2-clause-read : goal.returns-in-Some-2-clause-read
returns-in-Some-2-clause-read g c =
    is_read-on g.R.Reads g.met.R.Reads.further_onward _ _ _ c.in_ok-damage.ensures.read c.in_ok-id.ensures.read

pub returns-clause-read : goal.returns-clause-read
returns-clause-read g c =
    is_read-on g.R.Reads g.met.R.Reads.further_onward _ _ _ c.in_ok-damage.ensures.read c.in_ok-id.ensures.read

pub returns-in_err-damage-clause-decided : goal.returns-in_err-damage-clause-decided
returns-in_err-damage-clause-decided g c _ = never_ok c.from_residual.result _ _ c.from_residual.ensures.1

pub returns-in_err-damage-clause-read : goal.returns-in_err-damage-clause-read
returns-in_err-damage-clause-read g c =
    c.in_err-damage.ensures.read

pub returns-in_err-id-clause-decided : goal.returns-in_err-id-clause-decided
returns-in_err-id-clause-decided g c _ = never_ok c.from_residual-in_err-id.result _ _ c.from_residual-in_err-id.ensures.1

pub returns-clause-cause : goal.returns-clause-cause
returns-clause-cause g c = ok_cause _ _ _ _ (omega arith)

pub returns-in-Some-clause-read : goal.returns-in-Some-clause-read
returns-in-Some-clause-read g c = c.find_ungrouped.ensures.read

pub returns-in-Some-clause-cause : goal.returns-in-Some-clause-cause
returns-in-Some-clause-cause g c = ok_cause _ _ _ _ (returns-in-Some-clause-read g c).later

pub returns-in-Some-2-clause-cause : goal.returns-in-Some-2-clause-cause
returns-in-Some-2-clause-cause g c = ok_cause _ _ _ _ (returns-in-Some-2-clause-read g c).later

pub returns-in_default-clause-read : goal.returns-in_default-clause-read
returns-in_default-clause-read g c = is_read-none g.R.Reads g.met.R.Reads.stays_onward c.args.space.now

pub returns-in_default-clause-cause : goal.returns-in_default-clause-cause
returns-in_default-clause-cause g c = no_memory _ _ (returns-in_default-clause-read g c).later
