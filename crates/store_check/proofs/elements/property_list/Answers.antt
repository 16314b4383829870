use Rattle.std.proofs.Common.{rules, arith, ◌≡◌, ◌≤◌, ◌∙◌, ℕ, List, map, length, true, false, ap, sym, subst}
use Rattle.std.proofs.lemmas.Bool.{true≢false}
use Rattle.rec_bytes.specs.declared.meta.Meta.{Meta}
use Rattle.rec_bytes.specs.Format.{names_file, properties_file}
use Rattle.store_rules.specs.Views.{Records, high}
use Rattle.store_rules.specs.Breaking.{key_of}
use Rattle.store_check.specs.Elements.{AreKeys, property_line}
use Rattle.record_lists.specs.Lines.{IsLineIn}
use Rattle.store_check.proofs.PropertyLaws.{IsIt, keys_from, no_properties, properties_of}
use Rattle.record_lists.proofs.Causes.{cause_passed}
use Rattle.rec_bytes.proofs.Causes.{never_ok, ok_cause}
use Rattle.record_lists.proofs.OnlyReads.{is_read-on}
use Rattle.store_check.proofs.elements.property_list.Goals as goal

pub returns-in_default-clause-none : goal.returns-in_default-clause-none
returns-in_default-clause-none g c = λ tells.
    let records = (g.R.Reads.state c.args.space.now).records in
    let none : (xs : List ℕ) → ¬ IsLineIn property_line records c.args.mark c.args.first xs = search (rules, c.in_ok-ids.ensures.none tells) in
    no_properties records c.args.first (subst (λ m. (xs : List ℕ) → ¬ IsLineIn property_line records m c.args.first xs) c.requires.mark none)

pub returns-then-len-clause-none : goal.returns-then-len-clause-none
returns-then-len-clause-none g c = λ tells xs h.
    let records = (g.R.Reads.state c.args.space.now).records in
    let ids = c.in-Some.ids.items in
    let found : IsLineIn property_line records c.args.mark c.args.first ids = search (rules, c.in_ok-ids.ensures.found tells) in
    let it : IsIt records c.args.first ids = subst (λ m. IsLineIn property_line records m c.args.first ids) c.requires.mark found in
    let room : high records properties_file ≤ 33554432 = omega (arith, c.requires.mark, c.requires.low) in
    let few = (keys_from records c.args.first room ids it xs h).0 in
    let len : c.len.result ≡ length ids = search rules in
    omega (arith, c.if-len.true)

pub returns-then-not-are_keys-clause-none : goal.returns-then-not-are_keys-clause-none
returns-then-not-are_keys-clause-none g c = λ tells xs h.
    let records = (g.R.Reads.state c.args.space.now).records in
    let ids = c.in-Some.ids.items in
    let found : IsLineIn property_line records c.args.mark c.args.first ids = search (rules, c.in_ok-ids.ensures.found tells) in
    let it : IsIt records c.args.first ids = subst (λ m. IsLineIn property_line records m c.args.first ids) c.requires.mark found in
    let room : high records properties_file ≤ 33554432 = omega (arith, c.requires.mark, c.requires.low) in
    let same = c.in_ok-keys.ensures.read.records ∙ c.in_ok-ids.ensures.read.records in
    let names : c.meta.result.high ≡ high records names_file = ap (λ (m : Meta). m.high) c.meta.ensures ∙ ap (λ (r : Records). high r names_file) same in
    let keys : c.deref_mut.result.now ≡ map (key_of records) ids = c.deref_mut.ensures.value ∙ c.in_ok-keys.ensures.numbers tells
    ∙ ap (λ (r : Records). map (key_of r) c.deref.result.now) c.in_ok-ids.ensures.read.records ∙ ap (map (key_of records)) c.deref.ensures.value in
    let k = (keys_from records c.args.first room ids it xs h).1 in
    let no : c.are_keys.result ≡ false = search rules in
    let yes = c.are_keys.ensures.1 (subst (λ ks. AreKeys c.meta.result.high ks) (sym keys) (subst (λ n. AreKeys n (map (key_of records) ids)) (sym names) k)) in
    true≢false (sym yes ∙ no)

pub returns-clause-found : goal.returns-clause-found
returns-clause-found g c = λ tells.
    let records = (g.R.Reads.state c.args.space.now).records in
    let ids = c.in-Some.ids.items in
    let found : IsLineIn property_line records c.args.mark c.args.first ids = search (rules, c.in_ok-ids.ensures.found tells) in
    let it : IsIt records c.args.first ids = subst (λ m. IsLineIn property_line records m c.args.first ids) c.requires.mark found in
    let room : high records properties_file ≤ 33554432 = omega (arith, c.requires.mark, c.requires.low) in
    let same = c.in_ok-keys.ensures.read.records ∙ c.in_ok-ids.ensures.read.records in
    let names : c.meta.result.high ≡ high records names_file = ap (λ (m : Meta). m.high) c.meta.ensures ∙ ap (λ (r : Records). high r names_file) same in
    let keys : c.deref_mut.result.now ≡ map (key_of records) ids = c.deref_mut.ensures.value ∙ c.in_ok-keys.ensures.numbers tells
    ∙ ap (λ (r : Records). map (key_of r) c.deref.result.now) c.in_ok-ids.ensures.read.records ∙ ap (map (key_of records)) c.deref.ensures.value in
    let yes : c.are_keys.result ≡ true = search rules in
    let len : c.len.result ≡ length ids = search rules in
    let few : length ids ≤ 32 = omega (arith, c.if-len.false) in
    properties_of records c.args.first room ids it few (subst (λ n. AreKeys n (map (key_of records) ids)) names (subst (λ ks. AreKeys c.meta.result.high ks)
    keys (c.are_keys.ensures.0 yes)))

pub returns-in_err-ids-clause-cause : goal.returns-in_err-ids-clause-cause
returns-in_err-ids-clause-cause g c =
    cause_passed _ _ _ c.from_residual.result c.in_err-ids.field-0.0 (omega arith) c.in_err-ids.ensures.cause c.from_residual.ensures.1

pub returns-in_err-keys-clause-cause : goal.returns-in_err-keys-clause-cause
returns-in_err-keys-clause-cause g c =
    cause_passed _ _ _ c.from_residual-in_err-keys.result c.in_err-keys.field-0.0 c.in_ok-ids.ensures.cause.later c.in_err-keys.ensures.cause
    c.from_residual-in_err-keys.ensures.1

pub returns-in_err-keys-clause-read : goal.returns-in_err-keys-clause-read
returns-in_err-keys-clause-read g c =
    is_read-on g.R.Reads g.met.R.Reads.further_onward _ _ _ c.in_ok-ids.ensures.read c.in_err-keys.ensures.read

pub returns-then-not-are_keys-clause-read : goal.returns-then-not-are_keys-clause-read
returns-then-not-are_keys-clause-read g c =
    is_read-on g.R.Reads g.met.R.Reads.further_onward _ _ _ c.in_ok-ids.ensures.read c.in_ok-keys.ensures.read

pub returns-clause-read : goal.returns-clause-read
returns-clause-read g c =
    is_read-on g.R.Reads g.met.R.Reads.further_onward _ _ _ c.in_ok-ids.ensures.read c.in_ok-keys.ensures.read

pub returns-in_err-ids-clause-found : goal.returns-in_err-ids-clause-found
returns-in_err-ids-clause-found g c _ = never_ok c.from_residual.result _ _ c.from_residual.ensures.1

pub returns-in_err-ids-clause-none : goal.returns-in_err-ids-clause-none
returns-in_err-ids-clause-none g c _ = never_ok c.from_residual.result _ _ c.from_residual.ensures.1

pub returns-in_err-ids-clause-low : goal.returns-in_err-ids-clause-low
returns-in_err-ids-clause-low g c = never_ok c.from_residual.result _ _ c.from_residual.ensures.1

pub returns-in_err-ids-clause-read : goal.returns-in_err-ids-clause-read
returns-in_err-ids-clause-read g c =
    c.in_err-ids.ensures.read

pub returns-in_err-keys-clause-found : goal.returns-in_err-keys-clause-found
returns-in_err-keys-clause-found g c _ = never_ok c.from_residual-in_err-keys.result _ _ c.from_residual-in_err-keys.ensures.1

pub returns-in_err-keys-clause-none : goal.returns-in_err-keys-clause-none
returns-in_err-keys-clause-none g c _ = never_ok c.from_residual-in_err-keys.result _ _ c.from_residual-in_err-keys.ensures.1

pub returns-in_err-keys-clause-low : goal.returns-in_err-keys-clause-low
returns-in_err-keys-clause-low g c = never_ok c.from_residual-in_err-keys.result _ _ c.from_residual-in_err-keys.ensures.1

pub returns-clause-cause : goal.returns-clause-cause
returns-clause-cause g c = ok_cause _ _ _ _ (omega arith)

pub returns-in_default-clause-read : goal.returns-in_default-clause-read
returns-in_default-clause-read g c = c.follow.ensures.read

pub returns-in_default-clause-cause : goal.returns-in_default-clause-cause
returns-in_default-clause-cause g c = ok_cause _ _ _ _ (returns-in_default-clause-read g c).later

pub returns-then-not-are_keys-clause-cause : goal.returns-then-not-are_keys-clause-cause
returns-then-not-are_keys-clause-cause g c = ok_cause _ _ _ _ (returns-then-not-are_keys-clause-read g c).later
