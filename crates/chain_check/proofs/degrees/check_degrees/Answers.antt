use Rattle.std.proofs.Common.{rules, arith, ◌≡◌, ◌<◌, ◌≤◌, ◌∙◌, ℕ, IfNone, IfSome, length, ap, sym, subst, ⊎_elim, refl}
use Rattle.std.proofs.lemmas.Bool.{cases_lt}
use Rattle.rec_bytes.specs.declared.meta.Meta.{Meta}
use Rattle.rec_bytes.specs.Format.{nodes_file}
use Rattle.store_rules.specs.Views.{Records, high, kind_at, rec_at}
use Rattle.store_rules.proofs.ViewLaws.{kind_high}
use Rattle.store_rules.specs.Breaking.{DegreeKeeps, damage}
use Rattle.store_rules.specs.Breaking.Breaks.{WrongDegree}
use Rattle.chain_check.specs.Degrees.{HasDegree}
use Rattle.chain_check.proofs.DegreeLaws.{are_counted}
use Rattle.record_lists.proofs.DecidingLaws.{breaks_by}
use Rattle.rec_bytes.proofs.Causes.{never_ok, ok_cause}
use Rattle.record_lists.proofs.Causes.{cause_passed}
use Rattle.record_lists.proofs.OnlyReads.{is_read-on}
use Rattle.chain_check.proofs.degrees.check_degrees.Goals as goal

pub returns-in-Some-clause-decided : goal.returns-in-Some-clause-decided
returns-in-Some-clause-decided g c = λ tells.
    let s = g.R.Reads.state c.args.space.now in
    let degrees = c.in_ok-degrees.degrees in
    let id = c.in-Some.id in
    let mark : c.meta-nodes.result.high ≡ high s.records nodes_file = ap (λ (m : Meta). m.high) c.meta-nodes.ensures
    ∙ ap (λ (r : Records). high r nodes_file) c.in_ok-degrees.ensures.read.records in
    let counts = c.in_ok-degrees.ensures.counts tells in
    let found : IfSome c.in_ok-id.field-0 (λ x. (x < c.meta-nodes.result.high) × (¬ HasDegree degrees s.records x))
    = subst (λ (r : Records). IfSome c.in_ok-id.field-0 (λ x. (x < c.meta-nodes.result.high) × (¬ HasDegree degrees r x))) c.in_ok-degrees.ensures.read.records
    (c.in_ok-id.ensures.found tells) in
    let bad : (id < c.meta-nodes.result.high) × (¬ HasDegree degrees s.records id) = search (rules, found) in
    let low : id < length degrees.counts.items = let len = c.in_ok-degrees.ensures.len in omega (arith, bad.0) in
    breaks_by s.records s.shape 7 _ (damage 1 id 7) refl refl (WrongDegree id (omega (arith, bad.0)) (λ (k : DegreeKeeps s.records s.shape.threshold id).
    bad.1 (record {
      exact = λ live. k.exact live ∙ sym (counts id low);
      few = λ is. let le = k.few is in let t = c.in_ok-degrees.ensures.threshold in omega
          arith;
    })))

pub returns-clause-decided : goal.returns-clause-decided
returns-clause-decided g c = λ tells.
    let s = g.R.Reads.state c.args.space.now in
    let degrees = c.in_ok-degrees.degrees in
    let mark : c.meta-nodes.result.high ≡ high s.records nodes_file = ap (λ (m : Meta). m.high) c.meta-nodes.ensures
    ∙ ap (λ (r : Records). high r nodes_file) c.in_ok-degrees.ensures.read.records in
    let counts = c.in_ok-degrees.ensures.counts tells in
    let len = c.in_ok-degrees.ensures.len in
    let none : IfNone c.in_ok-id.field-0 ((x : ℕ) → x < c.meta-nodes.result.high → HasDegree degrees s.records x)
    = subst (λ (r : Records). IfNone c.in_ok-id.field-0 ((x : ℕ) → x < c.meta-nodes.result.high → HasDegree degrees r x)) c.in_ok-degrees.ensures.read.records
    (c.in_ok-id.ensures.none tells) in
    let each : (x : ℕ) → x < c.meta-nodes.result.high → HasDegree degrees s.records x = search (rules, none) in
    are_counted s.records s.shape.threshold (λ n. ⊎_elim
    (λ (lt : n < high s.records nodes_file).
    let h = each n (omega arith) in
    record { exact = λ live. h.exact live ∙ counts n (omega arith); few = λ is. let le = h.few is in let t = c.in_ok-degrees.ensures.threshold in omega arith })
    (λ (ge : high s.records nodes_file ≤ n).
    let z = kind_high (high s.records nodes_file) (rec_at s.records nodes_file n) n ge in
    record { exact = λ live. absurd (live z); few = λ (is : kind_at s.records nodes_file n ≡ 1). absurd (let e : 0 ≡ 1 = sym z ∙ is in omega arith) })
    (cases_lt n (high s.records nodes_file)))

pub returns-in_err-degrees-clause-decided : goal.returns-in_err-degrees-clause-decided
returns-in_err-degrees-clause-decided g c _ = never_ok c.from_residual.result _ _ c.from_residual.ensures.1

pub returns-in_err-degrees-clause-read : goal.returns-in_err-degrees-clause-read
returns-in_err-degrees-clause-read g c =
    c.in_err-degrees.ensures.read

pub returns-in_err-id-clause-decided : goal.returns-in_err-id-clause-decided
returns-in_err-id-clause-decided g c _ = never_ok c.from_residual-in_err-id.result _ _ c.from_residual-in_err-id.ensures.1

pub returns-clause-cause : goal.returns-clause-cause
returns-clause-cause g c = ok_cause _ _ _ _ (omega arith)

pub returns-in_err-degrees-clause-cause : goal.returns-in_err-degrees-clause-cause
returns-in_err-degrees-clause-cause g c =
    cause_passed _ _ _ c.from_residual.result c.in_err-degrees.field-0.0 (omega arith) c.in_err-degrees.ensures.cause c.from_residual.ensures.1

pub returns-in_err-id-clause-read : goal.returns-in_err-id-clause-read
returns-in_err-id-clause-read g c =
    is_read-on g.R.Reads g.met.R.Reads.further_onward _ _ _ c.count_degrees.ensures.read c.in_err-id.ensures.read

pub returns-in_err-id-clause-cause : goal.returns-in_err-id-clause-cause
returns-in_err-id-clause-cause g c =
    cause_passed _ _ _ c.from_residual-in_err-id.result c.in_err-id.field-0.0 c.in_ok-degrees.ensures.cause.later
    c.in_err-id.ensures.cause c.from_residual-in_err-id.ensures.1

pub returns-clause-read : goal.returns-clause-read
returns-clause-read g c = is_read-on g.R.Reads g.met.R.Reads.further_onward _ _ _ c.count_degrees.ensures.read c.find_false.ensures.read

pub returns-in-Some-clause-read : goal.returns-in-Some-clause-read
returns-in-Some-clause-read g c = is_read-on g.R.Reads g.met.R.Reads.further_onward _ _ _ c.count_degrees.ensures.read c.find_false.ensures.read

pub returns-in-Some-clause-cause : goal.returns-in-Some-clause-cause
returns-in-Some-clause-cause g c = ok_cause _ _ _ _ (returns-in-Some-clause-read g c).later
