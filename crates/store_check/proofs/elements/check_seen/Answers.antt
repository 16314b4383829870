use Rattle.std.proofs.Common.{rules, arith, ◌≡◌, ◌<◌, ◌∙◌, ℕ, true, IfNone, IfSome, sym, subst, refl}
use Rattle.std.proofs.lemmas.Bool.{true≢false}
use Rattle.rec_bytes.specs.Format.{properties_file}
use Rattle.store_rules.specs.Views.{Records, high, is_live}
use Rattle.store_rules.specs.Breaking.{damage}
use Rattle.store_rules.specs.Breaking.Breaks.{WrongHolding}
use Rattle.store_check.specs.Holding.{AllListed}
use Rattle.store_check.specs.Listing.{AreListed, IsUnlisted}
use Rattle.record_lists.specs.Seen.{is_seen}
use Rattle.store_check.proofs.ListingLaws.{all_listed, elements_right, seen_first, not_held, unlisted_breaks}
use Rattle.record_lists.proofs.DecidingLaws.{breaks_by}
use Rattle.record_lists.proofs.Causes.{cause_passed}
use Rattle.rec_bytes.proofs.Causes.{never_ok, ok_cause}
use Rattle.record_lists.proofs.OnlyReads.{is_read-on}
use Rattle.store_check.proofs.elements.check_seen.Goals as goal

differ : (file : ℕ) → file ≡ 1 → file ≡ 2 → ⊥
differ file e f = absurd (omega arith)

pub returns-in-Some-clause-found : goal.returns-in-Some-clause-found
returns-in-Some-clause-found g c = λ tells.
    let s = g.R.Reads.state c.args.space.now in
    let clear = c.args.seen.now in
    let u : IsUnlisted s.records 1 clear c.in-Some.damage = search (rules, c.in_ok-damage.ensures.found tells) in
    unlisted_breaks s.records s.shape 1 clear c.in-Some.damage refl (λ p m. absurd (true≢false (sym m ∙ c.requires.clear p))) u

pub returns-in-Some-2-clause-found : goal.returns-in-Some-2-clause-found
returns-in-Some-2-clause-found g c = λ tells.
    let s = g.R.Reads.state c.args.space.now in
    let clear = c.args.seen.now in
    let m = c.check_file.new.seen in
    let a : AreListed s.records 1 clear m = search (rules, c.in_ok-damage.ensures.none tells) in
    let found : IfSome c.in_ok-damage-2.field-0 (IsUnlisted s.records 2 m)
    = subst (λ (r : Records). IfSome c.in_ok-damage-2.field-0 (IsUnlisted r 2 m)) c.in_ok-damage.ensures.read.records (c.in_ok-damage-2.ensures.found tells) in
    let u : IsUnlisted s.records 2 m c.in-Some-2.damage = search (rules, found) in
    unlisted_breaks s.records s.shape 2 m c.in-Some-2.damage refl (λ p t. let f = seen_first s.records clear m c.requires.clear a p t in
    (1, f.element, (differ 1 refl, f.has))) u

pub returns-in-Some-3-clause-found : goal.returns-in-Some-3-clause-found
returns-in-Some-3-clause-found g c = λ tells.
    let s = g.R.Reads.state c.args.space.now in
    let clear = c.args.seen.now in
    let m = c.check_file.new.seen in
    let n = c.check_file-2.new.seen in
    let a : AreListed s.records 1 clear m = search (rules, c.in_ok-damage.ensures.none tells) in
    let second : IfNone c.in_ok-damage-2.field-0 (AreListed s.records 2 m n)
    = subst (λ (r : Records). IfNone c.in_ok-damage-2.field-0 (AreListed r 2 m n)) c.in_ok-damage.ensures.read.records (c.in_ok-damage-2.ensures.none tells) in
    let b : AreListed s.records 2 m n = search (rules, second) in
    let all : AllListed s.records n = all_listed s.records clear m n c.requires.clear a b in
    let found : IfSome c.in_ok-id.field-0 (λ x. ¬ (is_live s.records properties_file x ≡ true → is_seen n x ≡ true))
    = subst (λ (r : Records). IfSome c.in_ok-id.field-0 (λ x. ¬ (is_live r properties_file x ≡ true → is_seen n x ≡ true)))
    (c.in_ok-damage-2.ensures.read.records ∙ c.in_ok-damage.ensures.read.records) (c.in_ok-id.ensures.found tells) in
    let bad : ¬ (is_live s.records properties_file c.in-Some-3.id ≡ true → is_seen n c.in-Some-3.id ≡ true) = search (rules, found) in
    breaks_by s.records s.shape 5 c.broken.result (damage 4 c.in-Some-3.id 5) c.broken.ensures refl
    (WrongHolding c.in-Some-3.id (not_held s.records n c.in-Some-3.id all bad))

pub returns-in-None-clause-none : goal.returns-in-None-clause-none
returns-in-None-clause-none g c = λ tells.
    let s = g.R.Reads.state c.args.space.now in
    let clear = c.args.seen.now in
    let m = c.check_file.new.seen in
    let n = c.check_file-2.new.seen in
    let a : AreListed s.records 1 clear m = search (rules, c.in_ok-damage.ensures.none tells) in
    let second : IfNone c.in_ok-damage-2.field-0 (AreListed s.records 2 m n)
    = subst (λ (r : Records). IfNone c.in_ok-damage-2.field-0 (AreListed r 2 m n)) c.in_ok-damage.ensures.read.records (c.in_ok-damage-2.ensures.none tells) in
    let b : AreListed s.records 2 m n = search (rules, second) in
    let all : AllListed s.records n = all_listed s.records clear m n c.requires.clear a b in
    let none : IfNone c.in_ok-id.field-0 ((x : ℕ) → x < high s.records properties_file → is_live s.records properties_file x ≡ true → is_seen n x ≡ true)
    = subst (λ (r : Records). IfNone c.in_ok-id.field-0 ((x : ℕ) → x < high r properties_file → is_live r properties_file x ≡ true → is_seen n x ≡ true))
    (c.in_ok-damage-2.ensures.read.records ∙ c.in_ok-damage.ensures.read.records) (c.in_ok-id.ensures.none tells) in
    let each : (x : ℕ) → x < high s.records properties_file → is_live s.records properties_file x ≡ true → is_seen n x ≡ true = search (rules, none) in
    elements_right s.records n all each

pub returns-in_err-damage-2-clause-read : goal.returns-in_err-damage-2-clause-read
returns-in_err-damage-2-clause-read g c =
    is_read-on g.R.Reads g.met.R.Reads.further_onward _ _ _ c.in_ok-damage.ensures.read c.in_err-damage-2.ensures.read

pub returns-in-Some-2-clause-read : goal.returns-in-Some-2-clause-read
returns-in-Some-2-clause-read g c =
    is_read-on g.R.Reads g.met.R.Reads.further_onward _ _ _ c.in_ok-damage.ensures.read c.in_ok-damage-2.ensures.read

pub returns-in_err-id-clause-read : goal.returns-in_err-id-clause-read
returns-in_err-id-clause-read g c =
    is_read-on g.R.Reads g.met.R.Reads.further_onward _ _ _ (is_read-on g.R.Reads g.met.R.Reads.further_onward _ _ _ c.in_ok-damage.ensures.read
    c.in_ok-damage-2.ensures.read) c.in_err-id.ensures.read

pub returns-in-Some-3-clause-read : goal.returns-in-Some-3-clause-read
returns-in-Some-3-clause-read g c =
    is_read-on g.R.Reads g.met.R.Reads.further_onward _ _ _ (is_read-on g.R.Reads g.met.R.Reads.further_onward _ _ _ c.in_ok-damage.ensures.read
    c.in_ok-damage-2.ensures.read) c.in_ok-id.ensures.read

pub returns-in-None-clause-read : goal.returns-in-None-clause-read
returns-in-None-clause-read g c =
    is_read-on g.R.Reads g.met.R.Reads.further_onward _ _ _ (is_read-on g.R.Reads g.met.R.Reads.further_onward _ _ _ c.in_ok-damage.ensures.read
    c.in_ok-damage-2.ensures.read) c.in_ok-id.ensures.read

pub returns-in_err-damage-2-clause-cause : goal.returns-in_err-damage-2-clause-cause
returns-in_err-damage-2-clause-cause g c =
    cause_passed _ _ _ c.from_residual-in_err-damage-2.result c.in_err-damage-2.field-0.0
    c.in_ok-damage.ensures.cause.later c.in_err-damage-2.ensures.cause
    c.from_residual-in_err-damage-2.ensures.1

pub returns-in_err-damage-clause-none : goal.returns-in_err-damage-clause-none
returns-in_err-damage-clause-none g c _ = never_ok c.from_residual.result _ _ c.from_residual.ensures.1

pub returns-in_err-damage-clause-found : goal.returns-in_err-damage-clause-found
returns-in_err-damage-clause-found g c _ = never_ok c.from_residual.result _ _ c.from_residual.ensures.1

pub returns-in_err-damage-clause-read : goal.returns-in_err-damage-clause-read
returns-in_err-damage-clause-read g c =
    c.in_err-damage.ensures.read

pub returns-in_err-damage-2-clause-none : goal.returns-in_err-damage-2-clause-none
returns-in_err-damage-2-clause-none g c _ = never_ok c.from_residual-in_err-damage-2.result _ _ c.from_residual-in_err-damage-2.ensures.1

pub returns-in_err-damage-2-clause-found : goal.returns-in_err-damage-2-clause-found
returns-in_err-damage-2-clause-found g c _ = never_ok c.from_residual-in_err-damage-2.result _ _ c.from_residual-in_err-damage-2.ensures.1

pub returns-in_err-id-clause-none : goal.returns-in_err-id-clause-none
returns-in_err-id-clause-none g c _ = never_ok c.from_residual-in_err-id.result _ _ c.from_residual-in_err-id.ensures.1

pub returns-in_err-id-clause-found : goal.returns-in_err-id-clause-found
returns-in_err-id-clause-found g c _ = never_ok c.from_residual-in_err-id.result _ _ c.from_residual-in_err-id.ensures.1

pub returns-in_err-damage-clause-cause : goal.returns-in_err-damage-clause-cause
returns-in_err-damage-clause-cause g c =
    cause_passed _ _ _ c.from_residual.result c.in_err-damage.field-0.0 (omega arith) c.in_err-damage.ensures.cause c.from_residual.ensures.1

pub returns-in_err-id-clause-cause : goal.returns-in_err-id-clause-cause
returns-in_err-id-clause-cause g c =
    cause_passed _ _ _ c.from_residual-in_err-id.result c.in_err-id.field-0.0
    (omega (arith, c.in_ok-damage.ensures.cause.later, c.in_ok-damage-2.ensures.cause.later))
    c.in_err-id.ensures.cause c.from_residual-in_err-id.ensures.1

pub returns-in-Some-clause-read : goal.returns-in-Some-clause-read
returns-in-Some-clause-read g c = c.in_ok-damage.ensures.read

pub returns-in-Some-clause-cause : goal.returns-in-Some-clause-cause
returns-in-Some-clause-cause g c = ok_cause _ _ _ _ (returns-in-Some-clause-read g c).later

pub returns-in-Some-2-clause-cause : goal.returns-in-Some-2-clause-cause
returns-in-Some-2-clause-cause g c = ok_cause _ _ _ _ (returns-in-Some-2-clause-read g c).later

pub returns-in-Some-3-clause-cause : goal.returns-in-Some-3-clause-cause
returns-in-Some-3-clause-cause g c = ok_cause _ _ _ _ (returns-in-Some-3-clause-read g c).later

pub returns-in-None-clause-cause : goal.returns-in-None-clause-cause
returns-in-None-clause-cause g c = ok_cause _ _ _ _ (returns-in-None-clause-read g c).later
