use Rattle.std.proofs.Common.{◌+◌, ap, map, sym, subst, ◌∙◌, arith}
use Rattle.plain_graph.specs.Meaning.{properties_of}
use Rattle.prop_store.proofs.ReadCounts.{reads_more}
use Rattle.rec_bytes.specs.Space.{State}
use Rattle.store_rules.specs.Graph.{graph_of}
use Rattle.traversal_run.specs.Elements.{owner_reads}
use Rattle.traversal_run.specs.KeyValues.{AreRead, entry_item}
use Rattle.traversal_run.specs.Owing.{values_reads}
use Rattle.traversal_run.specs.Reading.{IsNamedStore}
use Rattle.traversal_run.proofs.Causes.{cause_passed, memory_cause}
use Rattle.traversal_run.proofs.NodeReads.{owner_few}
use Rattle.traversal_run.proofs.TakenRows.{values-rows}
use Rattle.rec_bytes.proofs.Causes.{never_ok, ok_cause}
use Rattle.traversal_run.proofs.key_values.several_values.Goals as goal

pub returns-clause-found : goal.returns-clause-found
returns-clause-found g c = λ tells store.
    let s = g.R.Reads.state c.args.space.now in
    let properties = properties_of (graph_of s.records) c.args.item.now in
    let same = c.in_ok-props.ensures.read.same in
    c.in_ok-values.ensures
    ∙ ap (map entry_item) (c.in_ok-rows.ensures (subst (λ (w : State). IsNamedStore w.records w.shape c.args.names.now.names) (sym same) store) properties
    (subst (λ (w : State). AreRead w.records c.in_ok-props.props.items properties) (sym same) (c.in_ok-props.ensures.found tells store)))
    ∙ values-rows (graph_of s.records) c.args.keys.now c.args.item.now

pub returns-in_err-props-clause-cause : goal.returns-in_err-props-clause-cause
returns-in_err-props-clause-cause g c =
    cause_passed _ _ _ c.from_residual.result c.in_err-props.field-0.0 (omega arith) c.in_err-props.ensures.cause c.from_residual.ensures.1

pub returns-in_err-rows-clause-cause : goal.returns-in_err-rows-clause-cause
returns-in_err-rows-clause-cause g c =
    memory_cause _ _ c.from_residual-in_err-rows.result c.in_ok-props.ensures.cause.later c.from_residual-in_err-rows.ensures.1

pub returns-in_err-values-clause-cause : goal.returns-in_err-values-clause-cause
returns-in_err-values-clause-cause g c =
    memory_cause _ _ c.from_residual-in_err-values.result c.in_ok-props.ensures.cause.later c.from_residual-in_err-values.ensures.1

pub returns-in_err-props-clause-found : goal.returns-in_err-props-clause-found
returns-in_err-props-clause-found g c _ _ = never_ok c.from_residual.result _ _ c.from_residual.ensures.1

pub returns-in_err-rows-clause-found : goal.returns-in_err-rows-clause-found
returns-in_err-rows-clause-found g c _ _ = never_ok c.from_residual-in_err-rows.result _ _ c.from_residual-in_err-rows.ensures.1

pub returns-in_err-values-clause-found : goal.returns-in_err-values-clause-found
returns-in_err-values-clause-found g c _ _ = never_ok c.from_residual-in_err-values.result _ _ c.from_residual-in_err-values.ensures.1

pub returns-clause-cause : goal.returns-clause-cause
returns-clause-cause g c = ok_cause _ _ _ _ c.in_ok-props.ensures.cause.later

pub returns-clause-at_most : goal.returns-clause-at_most
returns-clause-at_most g c = reads_more (owner_reads c.args.row.now + 736) values_reads (g.R.Reads.state c.args.space.now)
    (g.R.Reads.state c.read_properties.new.space) (let few = owner_few c.args.row.now in omega (arith, few)) c.in_ok-props.ensures.at_most

pub returns-in_err-props-clause-at_most : goal.returns-in_err-props-clause-at_most
returns-in_err-props-clause-at_most g c = reads_more (owner_reads c.args.row.now + 736) values_reads (g.R.Reads.state c.args.space.now)
    (g.R.Reads.state c.read_properties.new.space) (let few = owner_few c.args.row.now in omega (arith, few)) c.in_err-props.ensures.at_most

pub returns-in_err-rows-clause-at_most : goal.returns-in_err-rows-clause-at_most
returns-in_err-rows-clause-at_most g c = reads_more (owner_reads c.args.row.now + 736) values_reads (g.R.Reads.state c.args.space.now)
    (g.R.Reads.state c.read_properties.new.space) (let few = owner_few c.args.row.now in omega (arith, few)) c.in_ok-props.ensures.at_most

pub returns-in_err-values-clause-at_most : goal.returns-in_err-values-clause-at_most
returns-in_err-values-clause-at_most g c = reads_more (owner_reads c.args.row.now + 736) values_reads (g.R.Reads.state c.args.space.now)
    (g.R.Reads.state c.read_properties.new.space) (let few = owner_few c.args.row.now in omega (arith, few)) c.in_ok-props.ensures.at_most
