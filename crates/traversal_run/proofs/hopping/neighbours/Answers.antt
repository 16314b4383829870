use Rattle.std.proofs.Common.{arith, map, sym, ap, ◌∙◌, subst}
use Rattle.plain_graph.specs.Meaning.{neighbours}
use Rattle.store_rules.specs.Graph.{graph_of}
use Rattle.traversal_run.specs.EdgeItems.{end_item}
use Rattle.traversal_run.proofs.HopEdges.{rows-ends}
use Rattle.traversal_run.proofs.Causes.{cause_passed, memory_cause}
use Rattle.rec_bytes.proofs.Causes.{never_ok}
use Rattle.prop_store.proofs.ReadCounts.{reads_none}
use Rattle.prop_store.specs.Reading.{ReadsAtMost}
use Rattle.traversal_run.specs.Hopping.{hop_reads}
use Rattle.plain_graph.specs.declared.item.Item.{Item}
use Rattle.traversal_run.proofs.hopping.neighbours.Goals as goal

pub returns-clause-found : goal.returns-clause-found
returns-clause-found g c = λ tells store.
    let s = g.R.Reads.state c.args.space.now in
    let graph = graph_of s.records in
    let hop = c.args.hop.now in
    let id = c.in-Vertex.id in
    c.in_ok-items.ensures
    ∙ ap (map (end_item id)) c.deref.ensures.value
    ∙ rows-ends s.records graph hop.labels id hop.direction c.in_ok-rows.rows.items (c.in_ok-rows.ensures.found tells store)
    ∙ ap (neighbours graph hop) (sym c.in-Vertex.is)

pub returns-in_err-rows-clause-cause : goal.returns-in_err-rows-clause-cause
returns-in_err-rows-clause-cause g c =
    cause_passed _ _ _ c.from_residual.result c.in_err-rows.field-0.0 (omega arith) c.in_err-rows.ensures.cause c.from_residual.ensures.1

pub returns-in_err-items-clause-cause : goal.returns-in_err-items-clause-cause
returns-in_err-items-clause-cause g c =
    memory_cause _ _ c.from_residual-in_err-items.result c.in_ok-rows.ensures.cause.later c.from_residual-in_err-items.ensures.1

pub returns-in_err-rows-clause-found : goal.returns-in_err-rows-clause-found
returns-in_err-rows-clause-found g c _ _ = never_ok c.from_residual.result _ _ c.from_residual.ensures.1

pub returns-in_err-items-clause-found : goal.returns-in_err-items-clause-found
returns-in_err-items-clause-found g c _ _ = never_ok c.from_residual-in_err-items.result _ _ c.from_residual-in_err-items.ensures.1

pub returns-in_default-clause-reads : goal.returns-in_default-clause-reads
returns-in_default-clause-reads g c = λ tells store.
    let s = g.R.Reads.state c.args.space.now in
    reads_none (hop_reads s.records c.args.hop.now c.args.item.now) s

pub returns-in_err-rows-clause-reads : goal.returns-in_err-rows-clause-reads
returns-in_err-rows-clause-reads g c = λ tells store.
    let s = g.R.Reads.state c.args.space.now in
    subst (λ (item : Item). ReadsAtMost (hop_reads s.records c.args.hop.now item) s (g.R.Reads.state c.rows_of.new.space)) (sym c.in-Vertex.is)
    (c.in_err-rows.ensures.reads tells store)

pub returns-in_err-items-clause-reads : goal.returns-in_err-items-clause-reads
returns-in_err-items-clause-reads g c = λ tells store.
    let s = g.R.Reads.state c.args.space.now in
    subst (λ (item : Item). ReadsAtMost (hop_reads s.records c.args.hop.now item) s (g.R.Reads.state c.rows_of.new.space)) (sym c.in-Vertex.is)
    (c.in_ok-rows.ensures.reads tells store)

pub returns-clause-reads : goal.returns-clause-reads
returns-clause-reads g c = λ tells store.
    let s = g.R.Reads.state c.args.space.now in
    subst (λ (item : Item). ReadsAtMost (hop_reads s.records c.args.hop.now item) s (g.R.Reads.state c.rows_of.new.space)) (sym c.in-Vertex.is)
    (c.in_ok-rows.ensures.reads tells store)
