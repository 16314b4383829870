use Rattle.std.proofs.Common.{List, map, subst}
use Rattle.std.specs.List.Sorted.{IsPermutation}
use Rattle.rel_store.specs.declared.edge_row.EdgeRow.{EdgeRow}
use Rattle.path_find.specs.Ends.{row_end}
use Rattle.path_find.proofs.NeighbourLaws.{are_neighbours}
use Rattle.path_find.proofs.OnlyReads.{is_read-gets}
use Rattle.path_find.proofs.neighbours.neighbours.Goals as goal

pub returns-in_ok-ends-in-Ok-clause-some : goal.returns-in_ok-ends-in-Ok-clause-some
returns-in_ok-ends-in-Ok-clause-some g c = λ tells store.
    let s = g.R.Reads.state c.args.space.now in
    let node = c.args.node in
    let moved = subst (λ (rows : List EdgeRow). IsPermutation (map (row_end node) rows) c.in_ok-ends-in-Ok.ends.items) c.deref.ensures.value
    c.in_ok-ends-in-Ok.ensures.moved in
    are_neighbours s store c.args.direction c.args.labels.now node c.in-Ok.rows.items c.in_ok-ends-in-Ok.ends.items (c.in-Ok.ensures.rows tells store) moved

pub returns-in_err-ends-in-Ok-clause-read : goal.returns-in_err-ends-in-Ok-clause-read
returns-in_err-ends-in-Ok-clause-read g c = is_read-gets g.R.Reads c.expand.ensures.at_most.count c.args.space.now c.expand.new.space
    c.expand.ensures.at_most.is c.expand.ensures.onward c.expand.ensures.cause.later

pub returns-in_ok-ends-in-Ok-clause-read : goal.returns-in_ok-ends-in-Ok-clause-read
returns-in_ok-ends-in-Ok-clause-read g c = is_read-gets g.R.Reads c.expand.ensures.at_most.count c.args.space.now c.expand.new.space c.expand.ensures.at_most.is
    c.expand.ensures.onward c.expand.ensures.cause.later

pub returns-in-Err-NoNode-clause-read : goal.returns-in-Err-NoNode-clause-read
returns-in-Err-NoNode-clause-read g c = is_read-gets g.R.Reads c.expand.ensures.at_most.count c.args.space.now c.expand.new.space c.expand.ensures.at_most.is
    c.expand.ensures.onward c.expand.ensures.cause.later

pub returns-in-Err-Memory-clause-read : goal.returns-in-Err-Memory-clause-read
returns-in-Err-Memory-clause-read g c = is_read-gets g.R.Reads c.expand.ensures.at_most.count c.args.space.now c.expand.new.space c.expand.ensures.at_most.is
    c.expand.ensures.onward c.expand.ensures.cause.later

pub returns-in-Err-Disk-clause-read : goal.returns-in-Err-Disk-clause-read
returns-in-Err-Disk-clause-read g c = is_read-gets g.R.Reads c.expand.ensures.at_most.count c.args.space.now c.expand.new.space c.expand.ensures.at_most.is
    c.expand.ensures.onward c.expand.ensures.cause.later

pub returns-in-Err-Damaged-clause-read : goal.returns-in-Err-Damaged-clause-read
returns-in-Err-Damaged-clause-read g c = is_read-gets g.R.Reads c.expand.ensures.at_most.count c.args.space.now c.expand.new.space c.expand.ensures.at_most.is
    c.expand.ensures.onward c.expand.ensures.cause.later

pub returns-in_err-ends-in-Ok-clause-cost : goal.returns-in_err-ends-in-Ok-clause-cost
returns-in_err-ends-in-Ok-clause-cost g c = c.expand.ensures.reads

pub returns-in_ok-ends-in-Ok-clause-cost : goal.returns-in_ok-ends-in-Ok-clause-cost
returns-in_ok-ends-in-Ok-clause-cost g c = c.expand.ensures.reads

pub returns-in-Err-NoNode-clause-cost : goal.returns-in-Err-NoNode-clause-cost
returns-in-Err-NoNode-clause-cost g c = c.expand.ensures.reads

pub returns-in-Err-Memory-clause-cost : goal.returns-in-Err-Memory-clause-cost
returns-in-Err-Memory-clause-cost g c = c.expand.ensures.reads

pub returns-in-Err-Disk-clause-cost : goal.returns-in-Err-Disk-clause-cost
returns-in-Err-Disk-clause-cost g c = c.expand.ensures.reads

pub returns-in-Err-Damaged-clause-cost : goal.returns-in-Err-Damaged-clause-cost
returns-in-Err-Damaged-clause-cost g c = c.expand.ensures.reads
