use Rattle.std.proofs.Common.{rules, arith, ◌≡◌, ◌<◌, ℕ, true, IfNone, IfSome, subst}
use Rattle.rec_bytes.specs.Format as format
use Rattle.record_lists.specs.Seen.{is_seen}
use Rattle.record_lists.proofs.Causes.{cause_passed}
use Rattle.store_rules.specs.Views.{Records, high, is_live}
use Rattle.index_check.specs.Indexing.{AreAllSeen}
use Rattle.index_check.proofs.IndexLaws.{breaks_by}
use Rattle.index_check.proofs.ListedLaws.{all_held, left_over}
use Rattle.rec_bytes.proofs.Causes.{never_ok, ok_cause}
use Rattle.record_lists.proofs.OnlyReads.{is_read-on}
use Rattle.prop_store.proofs.Causes.{later_on}
use Rattle.index_check.proofs.checking.check_seen.Goals as goal

pub returns-in-Some-2-clause-broken : goal.returns-in-Some-2-clause-broken
returns-in-Some-2-clause-broken g c = λ tells.
    let records = (g.R.Reads.state c.args.space.now).records in
    let seen = c.see_lists.new.seen in
    let all : AreAllSeen records c.args.ids.now seen = search (rules, c.in_ok-damage.ensures.right tells) in
    let found : IfSome c.in_ok-id.field-0 (λ x. ¬ (is_live records format.index_file x ≡ true → is_seen seen x ≡ true))
    = subst (λ (r : Records). IfSome c.in_ok-id.field-0 (λ x. ¬ (is_live r format.index_file x ≡ true → is_seen seen x ≡ true)))
    c.in_ok-damage.ensures.read.records
    (c.in_ok-id.ensures.found tells) in
    let bad : ¬ (is_live records format.index_file c.in-Some-2.id ≡ true → is_seen seen c.in-Some-2.id ≡ true) = search (rules, found) in
    breaks_by records c.broken.result format.index_file c.in-Some-2.id c.broken.ensures (left_over records c.args.ids.now seen all c.in-Some-2.id bad)

pub returns-in-None-clause-right : goal.returns-in-None-clause-right
returns-in-None-clause-right g c = λ tells.
    let records = (g.R.Reads.state c.args.space.now).records in
    let seen = c.see_lists.new.seen in
    let all : AreAllSeen records c.args.ids.now seen = search (rules, c.in_ok-damage.ensures.right tells) in
    let none : IfNone c.in_ok-id.field-0 ((x : ℕ) → x < high records format.index_file → is_live records format.index_file x ≡ true → is_seen seen x ≡ true)
    = subst (λ (r : Records). IfNone c.in_ok-id.field-0 ((x : ℕ) → x < high r format.index_file → is_live r format.index_file x ≡ true → is_seen seen x ≡ true))
    c.in_ok-damage.ensures.read.records (c.in_ok-id.ensures.none tells) in
    let each : (x : ℕ) → x < high records format.index_file → is_live records format.index_file x ≡ true → is_seen seen x ≡ true = search (rules, none) in
    all_held records c.args.ids.now seen all each

pub returns-in_err-damage-clause-cause : goal.returns-in_err-damage-clause-cause
returns-in_err-damage-clause-cause g c =
    cause_passed _ _ _ c.from_residual.result c.in_err-damage.field-0.0 (omega arith) c.in_err-damage.ensures.cause c.from_residual.ensures.1

pub returns-in_err-id-clause-cause : goal.returns-in_err-id-clause-cause
returns-in_err-id-clause-cause g c =
    cause_passed _ _ _ c.from_residual-in_err-id.result c.in_err-id.field-0.0 c.in_ok-damage.ensures.cause.later c.in_err-id.ensures.cause
    c.from_residual-in_err-id.ensures.1

pub returns-in_err-id-clause-read : goal.returns-in_err-id-clause-read
returns-in_err-id-clause-read g c =
    is_read-on g.R.Reads g.met.R.Reads.further_onward _ _ _ c.in_ok-damage.ensures.read c.in_err-id.ensures.read

pub returns-in-Some-2-clause-read : goal.returns-in-Some-2-clause-read
returns-in-Some-2-clause-read g c =
    is_read-on g.R.Reads g.met.R.Reads.further_onward _ _ _ c.in_ok-damage.ensures.read c.in_ok-id.ensures.read

pub returns-in-None-clause-read : goal.returns-in-None-clause-read
returns-in-None-clause-read g c =
    is_read-on g.R.Reads g.met.R.Reads.further_onward _ _ _ c.in_ok-damage.ensures.read c.in_ok-id.ensures.read

pub returns-in_err-damage-clause-right : goal.returns-in_err-damage-clause-right
returns-in_err-damage-clause-right g c _ = never_ok c.from_residual.result _ _ c.from_residual.ensures.1

pub returns-in_err-damage-clause-broken : goal.returns-in_err-damage-clause-broken
returns-in_err-damage-clause-broken g c _ = never_ok c.from_residual.result _ _ c.from_residual.ensures.1

pub returns-in_err-damage-clause-read : goal.returns-in_err-damage-clause-read
returns-in_err-damage-clause-read g c =
    c.in_err-damage.ensures.read

pub returns-in_err-id-clause-right : goal.returns-in_err-id-clause-right
returns-in_err-id-clause-right g c _ = never_ok c.from_residual-in_err-id.result _ _ c.from_residual-in_err-id.ensures.1

pub returns-in_err-id-clause-broken : goal.returns-in_err-id-clause-broken
returns-in_err-id-clause-broken g c _ = never_ok c.from_residual-in_err-id.result _ _ c.from_residual-in_err-id.ensures.1

pub returns-in-Some-2-clause-cause : goal.returns-in-Some-2-clause-cause
returns-in-Some-2-clause-cause g c = ok_cause _ _ _ _ (later_on c.in_ok-damage.ensures.cause.later c.in_ok-id.ensures.cause.later)

pub returns-in-None-clause-cause : goal.returns-in-None-clause-cause
returns-in-None-clause-cause g c = ok_cause _ _ _ _ (later_on c.in_ok-damage.ensures.cause.later c.in_ok-id.ensures.cause.later)
