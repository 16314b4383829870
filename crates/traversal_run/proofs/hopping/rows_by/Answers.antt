use Rattle.std.proofs.Common.{◌≡◌, List, sym, subst}
use Rattle.expand.specs.Expanding.{AreRowsOf, rows_of}
use Rattle.expand.specs.Matching.{rows_at}
use Rattle.expand.proofs.ModelEdges.{rows_at_are}
use Rattle.plain_graph.specs.Meaning.{edges_at}
use Rattle.rel_store.specs.declared.edge_row.EdgeRow.{EdgeRow}
use Rattle.store_rules.specs.Graph.{graph_of}
use Rattle.traversal_run.proofs.HopEdges.{are_none, edges_at-no_node, stand_for}
use Rattle.traversal_run.proofs.OnlyReads.{is_read-gets}
use Rattle.traversal_run.proofs.hopping.rows_by.Goals as goal

pub returns-in-Ok-clause-found : goal.returns-in-Ok-clause-found
returns-in-Ok-clause-found g c = λ tells store types.
    let s = g.R.Reads.state c.args.space.now in
    let hop = c.args.hop.now in
    let numbers = c.args.numbers.now in
    let rows_is : c.in-Ok.rows.items ≡ rows_at hop.direction numbers c.args.id (rows_of s.records) = c.in-Ok.ensures.rows tells store in
    subst (λ (rows : List EdgeRow). AreRowsOf s.records rows (edges_at (graph_of s.records) hop.direction hop.labels c.args.id)) (sym rows_is)
    (rows_at_are s.records s.shape store numbers hop.labels (stand_for s.records numbers hop.labels types.finds types.below types.none) c.args.id hop.direction)

pub returns-in-Ok-clause-read : goal.returns-in-Ok-clause-read
returns-in-Ok-clause-read g c = is_read-gets g.R.Reads c.in-Ok.ensures.at_most.count c.args.space.now c.expand.new.space c.in-Ok.ensures.at_most.is
    c.in-Ok.ensures.onward c.in-Ok.ensures.cause.later

pub returns-in-Err-NoNode-clause-found : goal.returns-in-Err-NoNode-clause-found
returns-in-Err-NoNode-clause-found g c = λ tells store types.
    let s = g.R.Reads.state c.args.space.now in
    let hop = c.args.hop.now in
    let missing = rw c.in-Err-NoNode.field-0-is at c.in-Err-NoNode.ensures.missing tells store in
    are_none s.records c.new.result.items (edges_at (graph_of s.records) hop.direction hop.labels c.args.id) c.new.ensures.items
    (edges_at-no_node s.records s.shape store hop.labels c.args.id hop.direction missing.1)

pub returns-in-Err-NoNode-clause-read : goal.returns-in-Err-NoNode-clause-read
returns-in-Err-NoNode-clause-read g c = is_read-gets g.R.Reads c.expand.ensures.at_most.count c.args.space.now c.expand.new.space c.expand.ensures.at_most.is
    c.expand.ensures.onward c.expand.ensures.cause.later

pub returns-in-Err-Memory-clause-read : goal.returns-in-Err-Memory-clause-read
returns-in-Err-Memory-clause-read g c = is_read-gets g.R.Reads c.expand.ensures.at_most.count c.args.space.now c.expand.new.space c.expand.ensures.at_most.is
    c.expand.ensures.onward c.expand.ensures.cause.later

pub returns-in-Err-Disk-clause-read : goal.returns-in-Err-Disk-clause-read
returns-in-Err-Disk-clause-read g c = is_read-gets g.R.Reads c.expand.ensures.at_most.count c.args.space.now c.expand.new.space c.expand.ensures.at_most.is
    c.expand.ensures.onward c.expand.ensures.cause.later

pub returns-in-Err-Damaged-clause-read : goal.returns-in-Err-Damaged-clause-read
returns-in-Err-Damaged-clause-read g c = is_read-gets g.R.Reads c.expand.ensures.at_most.count c.args.space.now c.expand.new.space c.expand.ensures.at_most.is
    c.expand.ensures.onward c.expand.ensures.cause.later

pub returns-in-Ok-clause-reads : goal.returns-in-Ok-clause-reads
returns-in-Ok-clause-reads g c = λ tells store.
    let met = c.in-Ok.ensures.reads tells store in
    record { count = met.count; within = met.within; is = met.is }

pub returns-in-Err-NoNode-clause-reads : goal.returns-in-Err-NoNode-clause-reads
returns-in-Err-NoNode-clause-reads g c = λ tells store.
    let met = c.expand.ensures.reads tells store in
    record { count = met.count; within = met.within; is = met.is }

pub returns-in-Err-Memory-clause-reads : goal.returns-in-Err-Memory-clause-reads
returns-in-Err-Memory-clause-reads g c = λ tells store.
    let met = c.expand.ensures.reads tells store in
    record { count = met.count; within = met.within; is = met.is }

pub returns-in-Err-Disk-clause-reads : goal.returns-in-Err-Disk-clause-reads
returns-in-Err-Disk-clause-reads g c = λ tells store.
    let met = c.expand.ensures.reads tells store in
    record { count = met.count; within = met.within; is = met.is }

pub returns-in-Err-Damaged-clause-reads : goal.returns-in-Err-Damaged-clause-reads
returns-in-Err-Damaged-clause-reads g c = λ tells store.
    let met = c.expand.ensures.reads tells store in
    record { count = met.count; within = met.within; is = met.is }
