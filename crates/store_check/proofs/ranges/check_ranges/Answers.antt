use Rattle.std.proofs.Common.{rules, arith, ◌≡◌, ◌<◌, ◌∙◌, ℕ, true, false, IfNone, IfSome, sym, subst, refl}
use Rattle.std.proofs.lemmas.Bool.{true≢false}
use Rattle.rec_bytes.specs.declared.shape.Shape.{Shape}
use Rattle.rec_bytes.specs.Format.{meta_records, taken_id}
use Rattle.rec_bytes.specs.RecordFiles.{is_meta_file, meta_key_of}
use Rattle.rec_bytes.proofs.RecordFiles.{is_meta_file-record, is_record_file-low}
use Rattle.store_rules.specs.Views.{Records, high}
use Rattle.store_rules.specs.Breaking.{IsMetaKept, damage}
use Rattle.store_rules.specs.Breaking.Breaks.{OwnRecord, RecordRange, WrongMeta}
use Rattle.store_check.specs.Fitting.{FitsAt}
use Rattle.store_check.proofs.FileLaws.{in_range_of, taken_right}
use Rattle.record_lists.proofs.DecidingLaws.{breaks_by}
use Rattle.record_lists.proofs.Causes.{cause_passed}
use Rattle.rec_bytes.proofs.Causes.{never_ok, ok_cause}
use Rattle.record_lists.proofs.OnlyReads.{is_read-on}
use Rattle.store_check.proofs.ranges.check_ranges.Goals as goal

pub returns-then-not-branch-clause-decided : goal.returns-then-not-branch-clause-decided
returns-then-not-branch-clause-decided g c = λ tells.
    let s = g.R.Reads.state c.args.space.now in
    let no : c.in_ok-is_own_right.field-0 ≡ false = search rules in
    breaks_by s.records s.shape 1 c.broken.result (damage 0 0 1) c.broken.ensures refl
    (OwnRecord (λ h. true≢false (sym ((c.in_ok-is_own_right.ensures.right tells).1 h) ∙ no)))

pub returns-in-Some-clause-decided : goal.returns-in-Some-clause-decided
returns-in-Some-clause-decided g c = λ tells.
    let s = g.R.Reads.state c.args.space.now in
    let id = c.in-Some.id in
    let lt : id < meta_records = search (rules, c.in_ok-id.ensures.id) in
    let found : IfSome c.in_ok-id.field-0 (λ n. ¬ IsMetaKept s.records s.shape n)
    = subst (λ (r : Records). IfSome c.in_ok-id.field-0 (λ n. ¬ IsMetaKept r s.shape n)) c.in_ok-is_own_right.ensures.read.records
    (subst (λ (h : Shape). IfSome c.in_ok-id.field-0 (λ n. ¬ IsMetaKept (g.R.Reads.state c.is_own_right.new.space).records h n))
    (g.met.R.Reads.onward_shape _ _ c.in_ok-is_own_right.ensures.read.onward) (c.in_ok-id.ensures.found tells)) in
    let bad : ¬ IsMetaKept s.records s.shape id = search (rules, found) in
    breaks_by s.records s.shape 1 c.broken-in-Some.result (damage 0 id 1) c.broken-in-Some.ensures refl (WrongMeta id lt bad)

pub returns-in-Some-2-clause-decided : goal.returns-in-Some-2-clause-decided
returns-in-Some-2-clause-decided g c = λ tells.
    let s = g.R.Reads.state c.args.space.now in
    let key = c.in-Some-2.key in
    let is : is_meta_file key.file ≡ true = search (rules, c.in_ok-key.ensures.file) in
    let found : IfSome c.in_ok-key.field-0 (λ k. (k.id < high s.records k.file) × (¬ FitsAt s.records k.file k.id))
    = subst (λ (r : Records). IfSome c.in_ok-key.field-0 (λ k. (k.id < high r k.file) × (¬ FitsAt r k.file k.id)))
    (c.in_ok-id.ensures.read.records ∙ c.in_ok-is_own_right.ensures.read.records) (c.in_ok-key.ensures.found tells) in
    let bad : (key.id < high s.records key.file) × (¬ FitsAt s.records key.file key.id) = search (rules, found) in
    breaks_by s.records s.shape 1 c.broken-in-Some-2.result (damage key.file key.id 1) c.broken-in-Some-2.ensures refl
    (RecordRange key.file key.id is bad.0 bad.1)

pub returns-in-None-clause-decided : goal.returns-in-None-clause-decided
returns-in-None-clause-decided g c = λ tells.
    let s = g.R.Reads.state c.args.space.now in
    let yes : c.in_ok-is_own_right.field-0 ≡ true = search rules in
    let own = (c.in_ok-is_own_right.ensures.right tells).0 yes in
    let right : IfNone c.in_ok-id.field-0 ((n : ℕ) → n < meta_records → IsMetaKept s.records s.shape n)
    = subst (λ (r : Records). IfNone c.in_ok-id.field-0 ((n : ℕ) → n < meta_records → IsMetaKept r s.shape n)) c.in_ok-is_own_right.ensures.read.records
    (subst (λ (h : Shape). IfNone c.in_ok-id.field-0 ((n : ℕ) → n < meta_records → IsMetaKept (g.R.Reads.state
    c.is_own_right.new.space).records h n)) (g.met.R.Reads.onward_shape _ _ c.in_ok-is_own_right.ensures.read.onward)
    (c.in_ok-id.ensures.none tells)) in
    let metas : (n : ℕ) → n < meta_records → IsMetaKept s.records s.shape n = search (rules, right) in
    let fitting : IfNone c.in_ok-key.field-0 ((f x : ℕ) → is_meta_file f ≡ true → x < high s.records f → FitsAt s.records f x)
    = subst (λ (r : Records). IfNone c.in_ok-key.field-0 ((f x : ℕ) → is_meta_file f ≡ true → x < high r f → FitsAt r f x))
    (c.in_ok-id.ensures.read.records ∙ c.in_ok-is_own_right.ensures.read.records) (c.in_ok-key.ensures.none tells) in
    let fit : (f x : ℕ) → is_meta_file f ≡ true → x < high s.records f → FitsAt s.records f x = search (rules, fitting) in
    record {
      own = own.own;
      newest = own.newest;
      taken = taken_right s.shape (s.records (meta_key_of taken_id)) (metas taken_id (omega arith));
      metas = λ f is. in_range_of s.shape f (s.records (meta_key_of f)) is (metas f (is_record_file-low f (is_meta_file-record f is)));
      fit = fit;
    }

pub returns-in_err-is_own_right-clause-cause : goal.returns-in_err-is_own_right-clause-cause
returns-in_err-is_own_right-clause-cause g c =
    cause_passed _ _ _ c.from_residual.result c.in_err-is_own_right.field-0.0 (omega arith) c.in_err-is_own_right.ensures.cause c.from_residual.ensures.1

pub returns-in_err-id-clause-cause : goal.returns-in_err-id-clause-cause
returns-in_err-id-clause-cause g c =
    cause_passed _ _ _ c.from_residual-in_err-id.result c.in_err-id.field-0.0 c.in_ok-is_own_right.ensures.cause.later c.in_err-id.ensures.cause
    c.from_residual-in_err-id.ensures.1

pub returns-in_err-key-clause-cause : goal.returns-in_err-key-clause-cause
returns-in_err-key-clause-cause g c =
    let later = c.in_ok-is_own_right.ensures.cause.later in
    let later1 = c.in_ok-id.ensures.cause.later in
    cause_passed _ _ _ c.from_residual-in_err-key.result c.in_err-key.field-0.0 (omega (arith, later, later1)) c.in_err-key.ensures.cause
    c.from_residual-in_err-key.ensures.1

pub returns-in_err-id-clause-read : goal.returns-in_err-id-clause-read
returns-in_err-id-clause-read g c =
    is_read-on g.R.Reads g.met.R.Reads.further_onward _ _ _ c.in_ok-is_own_right.ensures.read c.in_err-id.ensures.read

pub returns-in-Some-clause-read : goal.returns-in-Some-clause-read
returns-in-Some-clause-read g c =
    is_read-on g.R.Reads g.met.R.Reads.further_onward _ _ _ c.in_ok-is_own_right.ensures.read c.in_ok-id.ensures.read

pub returns-in_err-key-clause-read : goal.returns-in_err-key-clause-read
returns-in_err-key-clause-read g c =
    is_read-on g.R.Reads g.met.R.Reads.further_onward _ _ _ (is_read-on g.R.Reads g.met.R.Reads.further_onward _ _ _
    c.in_ok-is_own_right.ensures.read c.in_ok-id.ensures.read) c.in_err-key.ensures.read

pub returns-in-Some-2-clause-read : goal.returns-in-Some-2-clause-read
returns-in-Some-2-clause-read g c =
    is_read-on g.R.Reads g.met.R.Reads.further_onward _ _ _ (is_read-on g.R.Reads g.met.R.Reads.further_onward _ _ _
    c.in_ok-is_own_right.ensures.read c.in_ok-id.ensures.read) c.in_ok-key.ensures.read

pub returns-in-None-clause-read : goal.returns-in-None-clause-read
returns-in-None-clause-read g c =
    is_read-on g.R.Reads g.met.R.Reads.further_onward _ _ _ (is_read-on g.R.Reads g.met.R.Reads.further_onward _ _ _
    c.in_ok-is_own_right.ensures.read c.in_ok-id.ensures.read) c.in_ok-key.ensures.read

pub returns-in_err-is_own_right-clause-decided : goal.returns-in_err-is_own_right-clause-decided
returns-in_err-is_own_right-clause-decided g c _ = never_ok c.from_residual.result _ _ c.from_residual.ensures.1

pub returns-in_err-is_own_right-clause-low : goal.returns-in_err-is_own_right-clause-low
returns-in_err-is_own_right-clause-low g c = never_ok c.from_residual.result _ _ c.from_residual.ensures.1

pub returns-in_err-is_own_right-clause-read : goal.returns-in_err-is_own_right-clause-read
returns-in_err-is_own_right-clause-read g c =
    c.in_err-is_own_right.ensures.read

pub returns-in_err-id-clause-decided : goal.returns-in_err-id-clause-decided
returns-in_err-id-clause-decided g c _ = never_ok c.from_residual-in_err-id.result _ _ c.from_residual-in_err-id.ensures.1

pub returns-in_err-id-clause-low : goal.returns-in_err-id-clause-low
returns-in_err-id-clause-low g c = never_ok c.from_residual-in_err-id.result _ _ c.from_residual-in_err-id.ensures.1

pub returns-in_err-key-clause-decided : goal.returns-in_err-key-clause-decided
returns-in_err-key-clause-decided g c _ = never_ok c.from_residual-in_err-key.result _ _ c.from_residual-in_err-key.ensures.1

pub returns-in_err-key-clause-low : goal.returns-in_err-key-clause-low
returns-in_err-key-clause-low g c = never_ok c.from_residual-in_err-key.result _ _ c.from_residual-in_err-key.ensures.1

pub returns-then-not-branch-clause-read : goal.returns-then-not-branch-clause-read
returns-then-not-branch-clause-read g c = c.is_own_right.ensures.read

pub returns-then-not-branch-clause-cause : goal.returns-then-not-branch-clause-cause
returns-then-not-branch-clause-cause g c = ok_cause _ _ _ _ (returns-then-not-branch-clause-read g c).later

pub returns-in-Some-clause-cause : goal.returns-in-Some-clause-cause
returns-in-Some-clause-cause g c = ok_cause _ _ _ _ (returns-in-Some-clause-read g c).later

pub returns-in-Some-2-clause-cause : goal.returns-in-Some-2-clause-cause
returns-in-Some-2-clause-cause g c = ok_cause _ _ _ _ (returns-in-Some-2-clause-read g c).later

pub returns-in-None-clause-cause : goal.returns-in-None-clause-cause
returns-in-None-clause-cause g c = ok_cause _ _ _ _ (returns-in-None-clause-read g c).later
