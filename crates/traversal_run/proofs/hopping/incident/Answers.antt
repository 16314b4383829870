use Rattle.std.specs.Prelude.{IfErr}
use Rattle.std.proofs.Common.{◌≡◌, IfOk, List, map, sym, ap, ◌∙◌, subst}
use Rattle.plain_graph.specs.Meaning.{edges_at, incident}
use Rattle.plain_graph.specs.declared.item.Item.{Item}
use Rattle.plain_graph.specs.declared.item.Item.TheVariants as items
use Rattle.prop_store.specs.Fault.{BlamesBroken}
use Rattle.rec_bytes.specs.Space.{State}
use Rattle.store_rules.specs.Graph.{graph_of}
use Rattle.traversal_run.specs.EdgeItems.{AreTyped, row_item}
use Rattle.traversal_run.proofs.HopEdges.{rows-items, rows-typed}
use Rattle.traversal_run.proofs.OnlyReads.{is_read-on, named-read}
use Rattle.rec_bytes.proofs.Causes.{never_ok}
use Rattle.prop_store.proofs.ReadCounts.{reads_none}
use Rattle.prop_store.specs.Reading.{ReadsAtMost}
use Rattle.traversal_run.specs.Hopping.{hop_reads}
use Rattle.traversal_run.proofs.hopping.incident.Goals as goal

pub returns-clause-found : goal.returns-clause-found
returns-clause-found g c = λ tells store.
    let s = g.R.Reads.state c.args.space.now in
    let graph = graph_of s.records in
    let hop = c.args.hop.now in
    let rows = c.in_ok-rows.rows.items in
    let edges = edges_at graph hop.direction hop.labels c.in-Vertex.id in
    let read = c.in_ok-rows.ensures.read in
    let are = c.in_ok-rows.ensures.found tells store in
    let typed = subst (AreTyped s.records) (sym c.deref.ensures.value) (rows-typed s.records rows edges are) in
    let then = subst (λ (t : State). AreTyped t.records c.deref.result.now) (sym read.same) typed in
    let same = ap (map (row_item s.records)) c.deref.ensures.value ∙ rows-items s.records rows edges are ∙ ap (incident graph hop) (sym c.in-Vertex.is) in
    let got = c.edge_items.ensures.are tells (named-read g.R.Reads c.args.space.now c.rows_of.new.space c.args.names.now.names read store) then in
    subst (λ (items : List Item). IfOk c.edge_items.result (λ value. value ≡ items)) same
    (subst (λ (t : State). IfOk c.edge_items.result (λ (value : List Item). value ≡ map (row_item t.records) c.deref.result.now)) read.same got)

pub returns-clause-damaged : goal.returns-clause-damaged
returns-clause-damaged g c = λ tells. subst (λ (t : State). IfErr c.edge_items.result (BlamesBroken t.records t.shape)) c.in_ok-rows.ensures.read.same
    (c.edge_items.ensures.damaged tells)

pub returns-clause-read : goal.returns-clause-read
returns-clause-read g c = is_read-on g.R.Reads g.met.R.Reads.further_onward c.args.space.now c.rows_of.new.space c.edge_items.new.space
    c.in_ok-rows.ensures.read c.edge_items.ensures.read

pub returns-in_err-rows-clause-found : goal.returns-in_err-rows-clause-found
returns-in_err-rows-clause-found g c _ _ = never_ok c.from_residual.result _ _ c.from_residual.ensures.1

pub returns-in_default-clause-reads : goal.returns-in_default-clause-reads
returns-in_default-clause-reads g c = λ tells store.
    let s = g.R.Reads.state c.args.space.now in
    reads_none (hop_reads s.records c.args.hop.now c.args.item.now) s

pub returns-in_err-rows-clause-reads : goal.returns-in_err-rows-clause-reads
returns-in_err-rows-clause-reads g c = λ tells store.
    let s = g.R.Reads.state c.args.space.now in
    subst (λ (item : Item). ReadsAtMost (hop_reads s.records c.args.hop.now item) s (g.R.Reads.state c.rows_of.new.space)) (sym c.in-Vertex.is)
    (c.in_err-rows.ensures.reads tells store)

pub returns-clause-reads : goal.returns-clause-reads
returns-clause-reads g c = λ tells store.
    let s = g.R.Reads.state c.args.space.now in
    let rows = c.in_ok-rows.rows.items in
    let edges = edges_at (graph_of s.records) c.args.hop.now.direction c.args.hop.now.labels c.in-Vertex.id in
    let read = c.in_ok-rows.ensures.read in
    let typed = subst (AreTyped s.records) (sym c.deref.ensures.value) (rows-typed s.records rows edges (c.in_ok-rows.ensures.found tells store)) in
    let then = subst (λ (t : State). AreTyped t.records c.deref.result.now) (sym read.same) typed in
    let same = c.edge_items.ensures.no_read tells (named-read g.R.Reads c.args.space.now c.rows_of.new.space c.args.names.now.names read store) then in
    subst (λ (item : Item). ReadsAtMost (hop_reads s.records c.args.hop.now item) s (g.R.Reads.state c.edge_items.new.space)) (sym c.in-Vertex.is)
    (subst (λ (r : g.row.R.Denot). ReadsAtMost (hop_reads s.records c.args.hop.now (items.Vertex c.in-Vertex.id)) s (g.R.Reads.state r)) (sym same)
    (c.in_ok-rows.ensures.reads tells store))
