use Rattle.std.proofs.Common.{rules, ◌≡◌, ◌∙◌, ℕ, List, true, ap, sym, subst, refl, arith}
use Rattle.rec_bytes.specs.declared.meta.Meta.{Meta}
use Rattle.rec_bytes.specs.Format.{names_file}
use Rattle.rec_bytes.specs.Space.{meta_in}
use Rattle.store_rules.specs.Ranges.{is_reused}
use Rattle.store_rules.specs.Rules.{AreAllLive, IsSplit}
use Rattle.store_rules.specs.Views.{Records, is_live}
use Rattle.store_rules.specs.Breaking.{damage}
use Rattle.store_rules.specs.Breaking.Breaks.{NameCount}
use Rattle.store_check.proofs.FileLaws.{not_reused}
use Rattle.record_lists.proofs.DecidingLaws.{breaks_by}
use Rattle.rec_bytes.proofs.Causes.{never_ok, ok_cause}
use Rattle.record_lists.proofs.Causes.{cause_passed}
use Rattle.store_check.proofs.free.check_split.Goals as goal

pub returns-then-names-clause-decided : goal.returns-then-names-clause-decided
returns-then-names-clause-decided g c = λ tells.
    let records = (g.R.Reads.state c.args.space.now).records in
    let meta : c.meta-names.result ≡ meta_in records names_file = c.meta-names.ensures
    ∙ ap (λ (r : Records). meta_in r names_file) c.in_ok-damage.ensures.read.records in
    let all : AreAllLive records names_file = ap (λ (m : Meta). m.live) (sym meta) ∙ c.if-names.true ∙ ap (λ (m : Meta). m.high) meta in
    let each : (file : ℕ) → is_reused file ≡ true → (free : List ℕ) × IsSplit records file (is_live records file) free =
    search (rules, c.in_ok-damage.ensures.sound tells) in
    record { split = each; kept = λ file is out. subst (AreAllLive records) (sym (not_reused file is out)) all }

pub returns-else-names-clause-decided : goal.returns-else-names-clause-decided
returns-else-names-clause-decided g c = λ tells.
    let s = g.R.Reads.state c.args.space.now in
    let meta : c.meta-names.result ≡ meta_in s.records names_file = c.meta-names.ensures
    ∙ ap (λ (r : Records). meta_in r names_file) c.in_ok-damage.ensures.read.records in
    breaks_by s.records s.shape 2 _ (damage 0 6 2) refl refl (NameCount (λ all. c.if-names.false (ap (λ (m : Meta). m.live) meta ∙ all ∙ ap
    (λ (m : Meta). m.high) (sym meta))))

pub returns-in_err-damage-clause-decided : goal.returns-in_err-damage-clause-decided
returns-in_err-damage-clause-decided g c _ = never_ok c.from_residual.result _ _ c.from_residual.ensures.1

pub returns-in_err-damage-clause-read : goal.returns-in_err-damage-clause-read
returns-in_err-damage-clause-read g c =
    c.in_err-damage.ensures.read

pub returns-in_err-damage-clause-cause : goal.returns-in_err-damage-clause-cause
returns-in_err-damage-clause-cause g c =
    cause_passed _ _ _ c.from_residual.result c.in_err-damage.field-0.0 (omega arith) c.in_err-damage.ensures.cause c.from_residual.ensures.1

pub returns-in-Some-clause-read : goal.returns-in-Some-clause-read
returns-in-Some-clause-read g c = c.check_reused.ensures.read

pub returns-in-Some-clause-cause : goal.returns-in-Some-clause-cause
returns-in-Some-clause-cause g c = ok_cause _ _ _ _ (returns-in-Some-clause-read g c).later

pub returns-else-names-clause-read : goal.returns-else-names-clause-read
returns-else-names-clause-read g c = c.check_reused.ensures.read

pub returns-else-names-clause-cause : goal.returns-else-names-clause-cause
returns-else-names-clause-cause g c = ok_cause _ _ _ _ (returns-else-names-clause-read g c).later

pub returns-then-names-clause-read : goal.returns-then-names-clause-read
returns-then-names-clause-read g c = c.check_reused.ensures.read

pub returns-then-names-clause-cause : goal.returns-then-names-clause-cause
returns-then-names-clause-cause g c = ok_cause _ _ _ _ (returns-then-names-clause-read g c).later
