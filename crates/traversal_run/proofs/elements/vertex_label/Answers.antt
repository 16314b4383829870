use Rattle.std.proofs.Common.{◌<◌, ◌≡◌, Option, Some, ap, option_map, subst, ◌∙◌, ℕ, arith}
use Rattle.std.specs.Option.{IfSome}
use Rattle.plain_graph.specs.Meaning.{label_of}
use Rattle.plain_graph.specs.declared.item.Item.TheVariants as items
use Rattle.store_rules.specs.Graph.{graph_of}
use Rattle.traversal_run.specs.Naming.{name_at, name_count}
use Rattle.traversal_run.proofs.Causes.{cause_passed}
use Rattle.rec_bytes.proofs.Causes.{never_ok}
use Rattle.traversal_run.proofs.elements.vertex_label.Goals as goal

pub returns-in-Some-clause-found : goal.returns-in-Some-clause-found
returns-in-Some-clause-found g c = λ tells store.
    let s = g.R.Reads.state c.args.space.now in
    let below = subst (λ (number : Option ℕ). IfSome number (λ found. found < name_count s.records)) c.in-Some.is c.in_ok-number.ensures.below in
    let found = subst (λ (number : Option ℕ). option_map (name_at s.records) number ≡ label_of (graph_of s.records) (items.Vertex c.args.id)) c.in-Some.is
    (c.in_ok-number.ensures.found tells) in
    ap Some (c.text_of.ensures.is s.records s.shape store below) ∙ found

pub returns-in_err-number-clause-cause : goal.returns-in_err-number-clause-cause
returns-in_err-number-clause-cause g c =
    cause_passed _ _ _ c.from_residual.result c.in_err-number.field-0.0 (omega arith) c.in_err-number.ensures.cause c.from_residual.ensures.1

pub returns-in_err-number-clause-found : goal.returns-in_err-number-clause-found
returns-in_err-number-clause-found g c _ _ = never_ok c.from_residual.result _ _ c.from_residual.ensures.1

pub returns-in_err-number-clause-short : goal.returns-in_err-number-clause-short
returns-in_err-number-clause-short g c = never_ok c.from_residual.result _ _ c.from_residual.ensures.1

pub returns-in-Some-clause-at_most : goal.returns-in-Some-clause-at_most
returns-in-Some-clause-at_most g c = c.in_ok-number.ensures.at_most

pub returns-in-None-clause-at_most : goal.returns-in-None-clause-at_most
returns-in-None-clause-at_most g c = c.in_ok-number.ensures.at_most

pub returns-in_err-number-clause-at_most : goal.returns-in_err-number-clause-at_most
returns-in_err-number-clause-at_most g c = c.in_err-number.ensures.at_most
