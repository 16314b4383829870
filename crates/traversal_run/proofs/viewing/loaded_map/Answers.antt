use Rattle.std.proofs.Common.{◌≡◌, ◌+◌, length, sym, subst, arith}
use Rattle.plain_graph.specs.Meaning.{properties_of}
use Rattle.prop_store.specs.Reading.{ReadsAtMost, block_total}
use Rattle.prop_store.proofs.ReadCounts.{reads_more, reads_none}
use Rattle.rec_bytes.specs.Space.{State}
use Rattle.store_rules.specs.Graph.{graph_of}
use Rattle.traversal_run.specs.Elements.{owner_reads}
use Rattle.traversal_run.specs.KeyValues.{AreRead}
use Rattle.traversal_run.specs.Reading.{IsNamedStore}
use Rattle.traversal_run.specs.Viewing.{property_reads}
use Rattle.traversal_run.proofs.MapRows.{read_cost}
use Rattle.rec_bytes.proofs.Causes.{never_ok, ok_cause}
use Rattle.prop_store.proofs.Exits.{same_has}
use Rattle.traversal_run.proofs.Broken.{blamed_before}
use Rattle.traversal_run.proofs.OnlyReads.{is_read-on}
use Rattle.traversal_run.proofs.Causes.{cause_passed, later_on, memory_cause}
use Rattle.traversal_run.proofs.viewing.loaded_map.Goals as goal

pub returns-in_err-label-clause-at_most : goal.returns-in_err-label-clause-at_most
returns-in_err-label-clause-at_most g c =
    let s = g.R.Reads.state c.args.space.now in
    let n = owner_reads c.args.row.now + 736 in
    subst (ReadsAtMost n s) (sym (c.in_err-label.ensures.no_read c.requires.loaded)) (reads_none n s)

pub returns-clause-cost : goal.returns-clause-cost
returns-clause-cost g c = λ tells store.
    let s = g.R.Reads.state c.args.space.now in
    let a = g.R.Reads.state c.label_of.new.space in
    let b = g.R.Reads.state c.read_properties.new.space in
    let item = c.args.item.now in
    let props = c.in_ok-props.props.items in
    let properties = properties_of (graph_of s.records) item in
    let n = owner_reads c.args.row.now in
    let same : a ≡ s = c.in_ok-label.ensures.no_read c.requires.loaded in
    let read = subst (λ (w : State). AreRead w.records props (properties_of (graph_of w.records) item)) same
    (c.in_ok-props.ensures.found tells (subst (λ (w : State). IsNamedStore w.records w.shape c.args.names.now.names) (sym same) store)) in
    let cost = read_cost s.records s.shape store.store props properties read in
    subst (λ (w : State). ReadsAtMost (n + property_reads properties) w b) same
    (reads_more (n + length props + block_total props) (n + property_reads properties) a b (omega (arith, cost)) c.in_ok-props.ensures.reads)

pub returns-in_err-label-clause-found : goal.returns-in_err-label-clause-found
returns-in_err-label-clause-found g c _ _ = never_ok c.from_residual.result _ _ c.from_residual.ensures.1

pub returns-in_err-label-clause-kept : goal.returns-in_err-label-clause-kept
returns-in_err-label-clause-kept g c = never_ok c.from_residual.result _ _ c.from_residual.ensures.1

pub returns-in_err-label-clause-cost : goal.returns-in_err-label-clause-cost
returns-in_err-label-clause-cost g c _ _ = never_ok c.from_residual.result _ _ c.from_residual.ensures.1

pub returns-in_err-props-clause-found : goal.returns-in_err-props-clause-found
returns-in_err-props-clause-found g c _ _ = never_ok c.from_residual-in_err-props.result _ _ c.from_residual-in_err-props.ensures.1

pub returns-in_err-props-clause-kept : goal.returns-in_err-props-clause-kept
returns-in_err-props-clause-kept g c = never_ok c.from_residual-in_err-props.result _ _ c.from_residual-in_err-props.ensures.1

pub returns-in_err-props-clause-cost : goal.returns-in_err-props-clause-cost
returns-in_err-props-clause-cost g c _ _ = never_ok c.from_residual-in_err-props.result _ _ c.from_residual-in_err-props.ensures.1

pub returns-in_err-map-clause-found : goal.returns-in_err-map-clause-found
returns-in_err-map-clause-found g c _ _ = never_ok c.from_residual-in_err-map.result _ _ c.from_residual-in_err-map.ensures.1

pub returns-in_err-map-clause-kept : goal.returns-in_err-map-clause-kept
returns-in_err-map-clause-kept g c = never_ok c.from_residual-in_err-map.result _ _ c.from_residual-in_err-map.ensures.1

pub returns-in_err-map-clause-cost : goal.returns-in_err-map-clause-cost
returns-in_err-map-clause-cost g c _ _ = never_ok c.from_residual-in_err-map.result _ _ c.from_residual-in_err-map.ensures.1

pub returns-clause-cause : goal.returns-clause-cause
returns-clause-cause g c = ok_cause _ _ _ _ (later_on c.in_ok-label.ensures.cause.later c.in_ok-props.ensures.cause.later)

pub returns-in_err-label-clause-damaged : goal.returns-in_err-label-clause-damaged
returns-in_err-label-clause-damaged g c tells = same_has _ c.from_residual.result _ c.from_residual.ensures.1 (c.in_err-label.ensures.damaged tells)

pub returns-in_err-label-clause-read : goal.returns-in_err-label-clause-read
returns-in_err-label-clause-read g c = c.in_err-label.ensures.read

pub returns-in_err-label-clause-cause : goal.returns-in_err-label-clause-cause
returns-in_err-label-clause-cause g c =
    cause_passed _ _ _ c.from_residual.result c.in_err-label.field-0.0 (omega arith) c.in_err-label.ensures.cause c.from_residual.ensures.1

pub returns-in_err-props-clause-damaged : goal.returns-in_err-props-clause-damaged
returns-in_err-props-clause-damaged g c tells =
    same_has _ c.from_residual-in_err-props.result _ c.from_residual-in_err-props.ensures.1
    (blamed_before (g.R.Reads.state c.args.space.now) (g.R.Reads.state c.label_of.new.space) c.in_ok-label.ensures.read.same c.in_err-props.field-0.0
    (c.in_err-props.ensures.damaged tells))

pub returns-in_err-props-clause-read : goal.returns-in_err-props-clause-read
returns-in_err-props-clause-read g c =
    is_read-on g.R.Reads g.met.R.Reads.further_onward _ _ _ c.in_ok-label.ensures.read c.in_err-props.ensures.read

pub returns-in_err-props-clause-cause : goal.returns-in_err-props-clause-cause
returns-in_err-props-clause-cause g c =
    cause_passed _ _ _ c.from_residual-in_err-props.result c.in_err-props.field-0.0 c.in_ok-label.ensures.cause.later c.in_err-props.ensures.cause
    c.from_residual-in_err-props.ensures.1

pub returns-in_err-map-clause-damaged : goal.returns-in_err-map-clause-damaged
returns-in_err-map-clause-damaged g c _ = same_has _ c.from_residual-in_err-map.result _ c.from_residual-in_err-map.ensures.1 tt

pub returns-in_err-map-clause-read : goal.returns-in_err-map-clause-read
returns-in_err-map-clause-read g c =
    is_read-on g.R.Reads g.met.R.Reads.further_onward _ _ _ c.in_ok-label.ensures.read c.in_ok-props.ensures.read

pub returns-in_err-map-clause-cause : goal.returns-in_err-map-clause-cause
returns-in_err-map-clause-cause g c =
    memory_cause _ _ c.from_residual-in_err-map.result (later_on c.in_ok-label.ensures.cause.later c.in_ok-props.ensures.cause.later)
    c.from_residual-in_err-map.ensures.1

pub returns-clause-read : goal.returns-clause-read
returns-clause-read g c =
    is_read-on g.R.Reads g.met.R.Reads.further_onward _ _ _ c.in_ok-label.ensures.read c.in_ok-props.ensures.read

pub returns-clause-at_most : goal.returns-clause-at_most
returns-clause-at_most g c = subst (λ (w : State). ReadsAtMost (owner_reads c.args.row.now + 736) w (g.R.Reads.state c.read_properties.new.space))
    (c.in_ok-label.ensures.no_read c.requires.loaded) c.in_ok-props.ensures.at_most

pub returns-in_err-props-clause-at_most : goal.returns-in_err-props-clause-at_most
returns-in_err-props-clause-at_most g c =
    subst (λ (w : State). ReadsAtMost (owner_reads c.args.row.now + 736) w (g.R.Reads.state c.read_properties.new.space))
    (c.in_ok-label.ensures.no_read c.requires.loaded) c.in_err-props.ensures.at_most

pub returns-in_err-map-clause-at_most : goal.returns-in_err-map-clause-at_most
returns-in_err-map-clause-at_most g c = subst (λ (w : State). ReadsAtMost (owner_reads c.args.row.now + 736) w (g.R.Reads.state c.read_properties.new.space))
    (c.in_ok-label.ensures.no_read c.requires.loaded) c.in_ok-props.ensures.at_most
