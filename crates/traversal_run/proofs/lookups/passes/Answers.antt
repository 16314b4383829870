use Rattle.std.proofs.Common.{◌≡◌, ◌∙◌, ℕ, Bor, List, None, Option, Some, ap, option_map, subst, sym}
use Rattle.std.proofs.Math.Nat.{le_refl}
use Rattle.std.specs.FinMap as maps
use Rattle.plain_graph.specs.Meaning.{label_of, properties_of}
use Rattle.prop_store.specs.Reading.{ReadsAtMost}
use Rattle.prop_store.proofs.Exits.{same_has}
use Rattle.rec_bytes.proofs.Causes.{never_ok, ok_cause}
use Rattle.store_rules.specs.Graph.{graph_of}
use Rattle.traversal_run.specs.Lookups.{passes_label, passes_value, asked_key}
use Rattle.traversal_run.proofs.Causes.{cause_passed}
use Rattle.traversal_run.proofs.Deciding.{labelled-passes, labelled-reads, met-passes, met-reads}
use Rattle.traversal_run.proofs.lookups.passes.Goals as goal

-- ---- by its label

pub returns-in_default-clause-found : goal.returns-in_default-clause-found
returns-in_default-clause-found g c = λ tells store.
    let graph = graph_of (g.R.Reads.state c.args.space.now).records in
    let test = c.args.filter.now in
    let none : asked_key test ≡ None =
    sym (c.asked_key.ensures ∙ ap asked_key c.filter.view_is)
    ∙ ap (λ (key : Option (Bor (List ℕ))). option_map (λ (text : Bor (List ℕ)). text.now) key) c.in_default.is
    in
    c.passes_label.ensures ∙ (λ i. passes_label (c.filter.view_is i) (c.in_ok-label.ensures.found tells store i))
    ∙ labelled-passes test none graph c.args.item.now

pub returns-in_default-clause-at_most : goal.returns-in_default-clause-at_most
returns-in_default-clause-at_most g c =
    let test = c.args.filter.now in
    let none : asked_key test ≡ None =
    sym (c.asked_key.ensures ∙ ap asked_key c.filter.view_is)
    ∙ ap (λ (key : Option (Bor (List ℕ))). option_map (λ (text : Bor (List ℕ)). text.now) key) c.in_default.is
    in
    subst (λ (n : ℕ). ReadsAtMost n (g.R.Reads.state c.args.space.now) (g.R.Reads.state c.label_of.new.space)) (labelled-reads test none)
    c.in_ok-label.ensures.at_most

pub returns-in_default-clause-read : goal.returns-in_default-clause-read
returns-in_default-clause-read g c = c.in_ok-label.ensures.read

pub returns-in_default-clause-cause : goal.returns-in_default-clause-cause
returns-in_default-clause-cause g c = ok_cause _ _ _ _ c.in_ok-label.ensures.cause.later

pub returns-in_err-label-clause-found : goal.returns-in_err-label-clause-found
returns-in_err-label-clause-found g c _ _ = never_ok c.from_residual.result _ _ c.from_residual.ensures.1

pub returns-in_err-label-clause-damaged : goal.returns-in_err-label-clause-damaged
returns-in_err-label-clause-damaged g c tells =
    same_has _ c.from_residual.result _ c.from_residual.ensures.1 (c.in_err-label.ensures.damaged tells)

pub returns-in_err-label-clause-at_most : goal.returns-in_err-label-clause-at_most
returns-in_err-label-clause-at_most g c =
    let test = c.args.filter.now in
    let none : asked_key test ≡ None =
    sym (c.asked_key.ensures ∙ ap asked_key c.filter.view_is)
    ∙ ap (λ (key : Option (Bor (List ℕ))). option_map (λ (text : Bor (List ℕ)). text.now) key) c.in_default.is
    in
    subst (λ (n : ℕ). ReadsAtMost n (g.R.Reads.state c.args.space.now) (g.R.Reads.state c.label_of.new.space)) (labelled-reads test none)
    c.in_err-label.ensures.at_most

pub returns-in_err-label-clause-read : goal.returns-in_err-label-clause-read
returns-in_err-label-clause-read g c = c.in_err-label.ensures.read

pub returns-in_err-label-clause-cause : goal.returns-in_err-label-clause-cause
returns-in_err-label-clause-cause g c =
    cause_passed _ _ _ c.from_residual.result c.in_err-label.field-0.0 (le_refl _) c.in_err-label.ensures.cause c.from_residual.ensures.1

-- ---- by the value of its key

pub returns-clause-found : goal.returns-clause-found
returns-clause-found g c = λ tells store.
    let graph = graph_of (g.R.Reads.state c.args.space.now).records in
    let test = c.args.filter.now in
    let item = c.args.item.now in
    let key = c.in-Some.key.now in
    let is : asked_key test ≡ Some key =
    sym (c.asked_key.ensures ∙ ap asked_key c.filter.view_is)
    ∙ ap (λ (own : Option (Bor (List ℕ))). option_map (λ (text : Bor (List ℕ)). text.now) own) c.in-Some.is in
    c.passes_value.ensures ∙ (λ i. passes_value (c.filter.view_is i) (c.in_ok-value.ensures.found tells store i))
    ∙ ap (λ (text : List ℕ). passes_value test (maps.get (properties_of graph item) text)) c.as_bytes.ensures
    ∙ met-passes test key is graph item

pub returns-clause-at_most : goal.returns-clause-at_most
returns-clause-at_most g c =
    let test = c.args.filter.now in
    let is : asked_key test ≡ Some c.in-Some.key.now =
    sym (c.asked_key.ensures ∙ ap asked_key c.filter.view_is)
    ∙ ap (λ (own : Option (Bor (List ℕ))). option_map (λ (text : Bor (List ℕ)). text.now) own) c.in-Some.is in
    subst (λ (n : ℕ). ReadsAtMost n (g.R.Reads.state c.args.space.now) (g.R.Reads.state c.value_of.new.space)) (met-reads test c.in-Some.key.now is)
    c.in_ok-value.ensures.at_most

pub returns-clause-read : goal.returns-clause-read
returns-clause-read g c = c.in_ok-value.ensures.read

pub returns-clause-cause : goal.returns-clause-cause
returns-clause-cause g c = ok_cause _ _ _ _ c.in_ok-value.ensures.cause.later

pub returns-in_err-value-clause-found : goal.returns-in_err-value-clause-found
returns-in_err-value-clause-found g c _ _ = never_ok c.from_residual-in_err-value.result _ _ c.from_residual-in_err-value.ensures.1

pub returns-in_err-value-clause-damaged : goal.returns-in_err-value-clause-damaged
returns-in_err-value-clause-damaged g c tells =
    same_has _ c.from_residual-in_err-value.result _ c.from_residual-in_err-value.ensures.1 (c.in_err-value.ensures.damaged tells)

pub returns-in_err-value-clause-at_most : goal.returns-in_err-value-clause-at_most
returns-in_err-value-clause-at_most g c =
    let test = c.args.filter.now in
    let is : asked_key test ≡ Some c.in-Some.key.now =
    sym (c.asked_key.ensures ∙ ap asked_key c.filter.view_is)
    ∙ ap (λ (own : Option (Bor (List ℕ))). option_map (λ (text : Bor (List ℕ)). text.now) own) c.in-Some.is in
    subst (λ (n : ℕ). ReadsAtMost n (g.R.Reads.state c.args.space.now) (g.R.Reads.state c.value_of.new.space)) (met-reads test c.in-Some.key.now is)
    c.in_err-value.ensures.at_most

pub returns-in_err-value-clause-read : goal.returns-in_err-value-clause-read
returns-in_err-value-clause-read g c = c.in_err-value.ensures.read

pub returns-in_err-value-clause-cause : goal.returns-in_err-value-clause-cause
returns-in_err-value-clause-cause g c =
    cause_passed _ _ _ c.from_residual-in_err-value.result c.in_err-value.field-0.0 (le_refl _) c.in_err-value.ensures.cause
    c.from_residual-in_err-value.ensures.1
