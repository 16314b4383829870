use Rattle.std.proofs.Common.{arith, rules, ◌≡◌, ℕ, List, map, nat_eq, false, true, ◌∙◌, ap, sym, subst}
use Rattle.std.specs.List.{IsDistinct}
use Rattle.std.proofs.lemmas.Bool.{true≢false}
use Rattle.store_rules.specs.Views.{Records}
use Rattle.store_rules.specs.Breaking.{group_label}
use Rattle.chain_check.specs.Groups.{group_line}
use Rattle.record_lists.specs.Lines.{IsLineIn}
use Rattle.chain_check.proofs.GroupChainLaws.{groups_one}
use Rattle.record_lists.proofs.Causes.{cause_passed}
use Rattle.rec_bytes.proofs.Causes.{never_ok, ok_cause}
use Rattle.record_lists.proofs.OnlyReads.{is_read-on}
use Rattle.chain_check.proofs.groups.groups_from.Goals as goal

pub returns-in_default-clause-told : goal.returns-in_default-clause-told
returns-in_default-clause-told g c = λ tells xs h.
    let records = (g.R.Reads.state c.args.space.now).records in
    let none : (xs : List ℕ) → ¬ IsLineIn (group_line c.args.node) records c.args.high c.args.first xs = search (rules, c.in_ok-ids.ensures.none tells) in
    none xs h.line

pub returns-then-not-are_distinct-clause-told : goal.returns-then-not-are_distinct-clause-told
returns-then-not-are_distinct-clause-told g c = λ tells xs h.
    let records = (g.R.Reads.state c.args.space.now).records in
    let ids = c.in-Some.ids.items in
    let it : IsLineIn (group_line c.args.node) records c.args.high c.args.first ids = search (rules, c.in_ok-ids.ensures.found tells) in
    let types : c.deref_mut.result.now ≡ map (group_label records) ids
    = c.deref_mut.ensures.value ∙ c.in_ok-types.ensures.numbers tells ∙ ap (λ (r : Records). map (group_label r) c.deref.result.now)
    c.in_ok-ids.ensures.read.records
    ∙ ap (map (group_label records)) c.deref.ensures.value in
    let bad : c.are_distinct.result ≡ false = search rules in
    let same = groups_one records c.args.node c.args.high c.args.first c.requires xs ids h.line it in
    true≢false (sym (c.are_distinct.ensures.1 (subst (IsDistinct nat_eq) (sym types) (subst (λ ys. IsDistinct nat_eq (map (group_label records) ys))
    same h.types))) ∙ bad)

pub returns-clause-told : goal.returns-clause-told
returns-clause-told g c = λ tells.
    let records = (g.R.Reads.state c.args.space.now).records in
    let ids = c.in-Some.ids.items in
    let it : IsLineIn (group_line c.args.node) records c.args.high c.args.first ids = search (rules, c.in_ok-ids.ensures.found tells) in
    let types : c.deref_mut.result.now ≡ map (group_label records) ids
    = c.deref_mut.ensures.value ∙ c.in_ok-types.ensures.numbers tells ∙ ap (λ (r : Records). map (group_label r) c.deref.result.now)
    c.in_ok-ids.ensures.read.records
    ∙ ap (map (group_label records)) c.deref.ensures.value in
    let well : c.are_distinct.result ≡ true = search rules in
    record { line = it; types = subst (IsDistinct nat_eq) types (c.are_distinct.ensures.0 well) }

pub returns-in_err-ids-clause-cause : goal.returns-in_err-ids-clause-cause
returns-in_err-ids-clause-cause g c =
    cause_passed _ _ _ c.from_residual.result c.in_err-ids.field-0.0 (omega arith) c.in_err-ids.ensures.cause c.from_residual.ensures.1

pub returns-in_err-types-clause-cause : goal.returns-in_err-types-clause-cause
returns-in_err-types-clause-cause g c =
    cause_passed _ _ _ c.from_residual-in_err-types.result c.in_err-types.field-0.0 c.in_ok-ids.ensures.cause.later c.in_err-types.ensures.cause
    c.from_residual-in_err-types.ensures.1

pub returns-in_err-ids-clause-told : goal.returns-in_err-ids-clause-told
returns-in_err-ids-clause-told g c _ = never_ok c.from_residual.result _ _ c.from_residual.ensures.1

pub returns-in_err-ids-clause-low : goal.returns-in_err-ids-clause-low
returns-in_err-ids-clause-low g c = never_ok c.from_residual.result _ _ c.from_residual.ensures.1

pub returns-in_err-ids-clause-read : goal.returns-in_err-ids-clause-read
returns-in_err-ids-clause-read g c =
    c.in_err-ids.ensures.read

pub returns-in_err-types-clause-told : goal.returns-in_err-types-clause-told
returns-in_err-types-clause-told g c _ = never_ok c.from_residual-in_err-types.result _ _ c.from_residual-in_err-types.ensures.1

pub returns-in_err-types-clause-low : goal.returns-in_err-types-clause-low
returns-in_err-types-clause-low g c = never_ok c.from_residual-in_err-types.result _ _ c.from_residual-in_err-types.ensures.1

pub returns-clause-cause : goal.returns-clause-cause
returns-clause-cause g c = ok_cause _ _ _ _ (omega (arith, c.follow.ensures.read.later, c.numbers_of.ensures.read.later))

pub returns-in_err-types-clause-read : goal.returns-in_err-types-clause-read
returns-in_err-types-clause-read g c =
    is_read-on g.R.Reads g.met.R.Reads.further_onward _ _ _ c.follow.ensures.read c.in_err-types.ensures.read

pub returns-clause-read : goal.returns-clause-read
returns-clause-read g c =
    is_read-on g.R.Reads g.met.R.Reads.further_onward _ _ _ c.follow.ensures.read c.numbers_of.ensures.read

pub returns-in_default-clause-read : goal.returns-in_default-clause-read
returns-in_default-clause-read g c = c.follow.ensures.read

pub returns-in_default-clause-cause : goal.returns-in_default-clause-cause
returns-in_default-clause-cause g c = ok_cause _ _ _ _ (returns-in_default-clause-read g c).later

pub returns-then-not-are_distinct-clause-read : goal.returns-then-not-are_distinct-clause-read
returns-then-not-are_distinct-clause-read g c =
    is_read-on g.R.Reads g.met.R.Reads.further_onward _ _ _ c.follow.ensures.read c.numbers_of.ensures.read

pub returns-then-not-are_distinct-clause-cause : goal.returns-then-not-are_distinct-clause-cause
returns-then-not-are_distinct-clause-cause g c = ok_cause _ _ _ _ (returns-then-not-are_distinct-clause-read g c).later
