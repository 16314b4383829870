use Rattle.std.proofs.Common.{arith, rules, ◌<◌, ℕ, IfNone, IfSome, subst, refl}
use Rattle.rec_bytes.specs.Format.{nodes_file, relationships_file}
use Rattle.store_rules.specs.Views.{Records, high, kind_at}
use Rattle.store_rules.specs.Breaking.{damage}
use Rattle.store_rules.specs.Breaking.Breaks.{RelEnds}
use Rattle.chain_check.specs.NodeChains.{AreMet, RelHolds}
use Rattle.chain_check.proofs.EndLaws.{all_keep, rel_holds, rel_kept}
use Rattle.record_lists.proofs.DecidingLaws.{breaks_by}
use Rattle.record_lists.proofs.Causes.{cause_passed}
use Rattle.rec_bytes.proofs.Causes.{never_ok, ok_cause}
use Rattle.record_lists.proofs.OnlyReads.{is_read-on}
use Rattle.chain_check.proofs.chains.check_seen.Goals as goal

pub returns-in-Some-2-clause-decided : goal.returns-in-Some-2-clause-decided
returns-in-Some-2-clause-decided g c = λ tells.
    let s = g.R.Reads.state c.args.space.now in
    let seen = c.see_ends.new.seen in
    let id = c.in-Some-2.id in
    let met : AreMet s.records seen = search (rules, c.in_ok-damage.ensures.met tells) in
    let found : IfSome c.in_ok-id.field-0 (λ x. (x < high s.records relationships_file) × (¬ RelHolds (kind_at s.records nodes_file) s.records seen x))
    = subst (λ (r : Records). IfSome c.in_ok-id.field-0 (λ x. (x < high r relationships_file) × (¬ RelHolds (kind_at r nodes_file) r seen x)))
    c.in_ok-damage.ensures.read.records (c.in_ok-id.ensures.found tells) in
    let bad : (id < high s.records relationships_file) × (¬ RelHolds (kind_at s.records nodes_file) s.records seen id) = search (rules, found) in
    breaks_by s.records s.shape 3 c.broken.result (damage 2 id 3) c.broken.ensures refl
    (RelEnds id bad.0 (λ k. bad.1 (rel_holds s.records seen met.told met.once id k)))

pub returns-in-None-clause-decided : goal.returns-in-None-clause-decided
returns-in-None-clause-decided g c = λ tells.
    let s = g.R.Reads.state c.args.space.now in
    let seen = c.see_ends.new.seen in
    let met : AreMet s.records seen = search (rules, c.in_ok-damage.ensures.met tells) in
    let none : IfNone c.in_ok-id.field-0 ((x : ℕ) → x < high s.records relationships_file → RelHolds (kind_at s.records nodes_file) s.records seen x)
    = subst (λ (r : Records). IfNone c.in_ok-id.field-0 ((x : ℕ) → x < high r relationships_file → RelHolds (kind_at r nodes_file) r seen x))
    c.in_ok-damage.ensures.read.records (c.in_ok-id.ensures.none tells) in
    let holds : (x : ℕ) → x < high s.records relationships_file → RelHolds (kind_at s.records nodes_file) s.records seen x = search (rules, none) in
    record { nodes = met.nodes; groups = met.groups; rels = all_keep s.records (λ x lt. rel_kept s.records seen met.told met.once x (holds x lt)) }

pub returns-in_err-damage-clause-cause : goal.returns-in_err-damage-clause-cause
returns-in_err-damage-clause-cause g c =
    cause_passed _ _ _ c.from_residual.result c.in_err-damage.field-0.0 (omega arith) c.in_err-damage.ensures.cause c.from_residual.ensures.1

pub returns-in_err-id-clause-cause : goal.returns-in_err-id-clause-cause
returns-in_err-id-clause-cause g c =
    cause_passed _ _ _ c.from_residual-in_err-id.result c.in_err-id.field-0.0 c.in_ok-damage.ensures.cause.later c.in_err-id.ensures.cause
    c.from_residual-in_err-id.ensures.1

pub returns-in_err-damage-clause-decided : goal.returns-in_err-damage-clause-decided
returns-in_err-damage-clause-decided g c _ = never_ok c.from_residual.result _ _ c.from_residual.ensures.1

pub returns-in_err-damage-clause-read : goal.returns-in_err-damage-clause-read
returns-in_err-damage-clause-read g c =
    c.in_err-damage.ensures.read

pub returns-in_err-id-clause-decided : goal.returns-in_err-id-clause-decided
returns-in_err-id-clause-decided g c _ = never_ok c.from_residual-in_err-id.result _ _ c.from_residual-in_err-id.ensures.1

pub returns-in_err-id-clause-read : goal.returns-in_err-id-clause-read
returns-in_err-id-clause-read g c =
    is_read-on g.R.Reads g.met.R.Reads.further_onward _ _ _ c.see_ends.ensures.read c.in_err-id.ensures.read

pub returns-in-Some-clause-read : goal.returns-in-Some-clause-read
returns-in-Some-clause-read g c = c.see_ends.ensures.read

pub returns-in-Some-clause-cause : goal.returns-in-Some-clause-cause
returns-in-Some-clause-cause g c = ok_cause _ _ _ _ (returns-in-Some-clause-read g c).later

pub returns-in-Some-2-clause-read : goal.returns-in-Some-2-clause-read
returns-in-Some-2-clause-read g c = is_read-on g.R.Reads g.met.R.Reads.further_onward _ _ _ c.see_ends.ensures.read c.find_loose.ensures.read

pub returns-in-Some-2-clause-cause : goal.returns-in-Some-2-clause-cause
returns-in-Some-2-clause-cause g c = ok_cause _ _ _ _ (returns-in-Some-2-clause-read g c).later

pub returns-in-None-clause-read : goal.returns-in-None-clause-read
returns-in-None-clause-read g c = is_read-on g.R.Reads g.met.R.Reads.further_onward _ _ _ c.see_ends.ensures.read c.find_loose.ensures.read

pub returns-in-None-clause-cause : goal.returns-in-None-clause-cause
returns-in-None-clause-cause g c = ok_cause _ _ _ _ (returns-in-None-clause-read g c).later
