use Rattle.std.proofs.Common.{◌∙◌, ℕ, ap, subst}
use Rattle.std.proofs.Math.Nat.{le_refl}
use Rattle.std.specs.FinMap as maps
use Rattle.plain_graph.specs.Meaning.{properties_of}
use Rattle.plain_graph.specs.declared.item.Item.{Item}
use Rattle.plain_graph.specs.declared.item.Item.TheVariants as items
use Rattle.prop_store.specs.Reading.{ReadsAtMost}
use Rattle.prop_store.proofs.Exits.{same_has}
use Rattle.rec_bytes.proofs.Causes.{never_ok, ok_cause}
use Rattle.store_rules.specs.Graph.{graph_of}
use Rattle.traversal_run.specs.Lookups.{passes_value}
use Rattle.traversal_run.proofs.Causes.{cause_passed}
use Rattle.traversal_run.proofs.Deciding.{met-passes, met-reads, numbered_key, some_key}
use Rattle.traversal_run.proofs.numbered_filter.NumberedFilter.passes.Goals as goal

pub returns-clause-found : goal.returns-clause-found
returns-clause-found g c = λ tells store numbered.
    let s = g.R.Reads.state c.args.space.now in
    let graph = graph_of s.records in
    let self = c.args.self.now in
    let vertex = items.Vertex c.args.id in
    let asks = some_key self.filter.now c.in_default.not-HasLabel in
    let found = c.in_ok-value.ensures.found tells store asks.0 (numbered_key s.records self.filter.now self.key self.labels.items asks.0 numbered asks.1)
    ∙ ap (λ (item : Item). maps.get (properties_of graph item) asks.0) (c.as_item.ensures.is ∙ c.vertex-vertex.ensures) in
    c.passes_value.ensures ∙ ap (passes_value self.filter.now) found ∙ met-passes self.filter.now asks.0 asks.1 graph vertex

pub returns-clause-at_most : goal.returns-clause-at_most
returns-clause-at_most g c =
    let test = c.args.self.now.filter.now in
    let asks = some_key test c.in_default.not-HasLabel in
    subst (λ (n : ℕ). ReadsAtMost n (g.R.Reads.state c.args.space.now) (g.R.Reads.state c.numbered_value.new.space)) (met-reads test asks.0 asks.1)
    c.in_ok-value.ensures.at_most

pub returns-clause-read : goal.returns-clause-read
returns-clause-read g c = c.in_ok-value.ensures.read

pub returns-clause-cause : goal.returns-clause-cause
returns-clause-cause g c = ok_cause _ _ _ _ c.in_ok-value.ensures.cause.later

pub returns-in_err-value-clause-found : goal.returns-in_err-value-clause-found
returns-in_err-value-clause-found g c _ _ _ = never_ok c.from_residual-in_err-value.result _ _ c.from_residual-in_err-value.ensures.1

pub returns-in_err-value-clause-damaged : goal.returns-in_err-value-clause-damaged
returns-in_err-value-clause-damaged g c tells =
    same_has _ c.from_residual-in_err-value.result _ c.from_residual-in_err-value.ensures.1 (c.in_err-value.ensures.damaged tells)

pub returns-in_err-value-clause-at_most : goal.returns-in_err-value-clause-at_most
returns-in_err-value-clause-at_most g c =
    let test = c.args.self.now.filter.now in
    let asks = some_key test c.in_default.not-HasLabel in
    subst (λ (n : ℕ). ReadsAtMost n (g.R.Reads.state c.args.space.now) (g.R.Reads.state c.numbered_value.new.space)) (met-reads test asks.0 asks.1)
    c.in_err-value.ensures.at_most

pub returns-in_err-value-clause-read : goal.returns-in_err-value-clause-read
returns-in_err-value-clause-read g c = c.in_err-value.ensures.read

pub returns-in_err-value-clause-cause : goal.returns-in_err-value-clause-cause
returns-in_err-value-clause-cause g c =
    cause_passed _ _ _ c.from_residual-in_err-value.result c.in_err-value.field-0.0 (le_refl _) c.in_err-value.ensures.cause
    c.from_residual-in_err-value.ensures.1
