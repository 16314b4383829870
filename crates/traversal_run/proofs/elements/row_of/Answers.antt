use Rattle.std.proofs.Common.{Option, sym, subst}
use Rattle.node_store.specs.declared.node_row.NodeRow.{NodeRow}
use Rattle.prop_store.specs.Reading.{ReadsAtMost}
use Rattle.prop_store.proofs.ReadCounts.{reads_none}
use Rattle.rec_bytes.specs.Format.{nodes_file}
use Rattle.traversal_run.specs.Elements.{owner_reads}
use Rattle.traversal_run.proofs.NodeReads.{load_reads}
use Rattle.traversal_run.proofs.elements.row_of.Goals as goal

pub returns-in-Some-clause-reads : goal.returns-in-Some-clause-reads
returns-in-Some-clause-reads g c = reads_none (owner_reads c.args.row.now) (g.R.Reads.state c.args.space.now)

pub returns-in-None-clause-reads : goal.returns-in-None-clause-reads
returns-in-None-clause-reads g c =
    let s = g.R.Reads.state c.args.space.now in
    let t = g.R.Reads.state c.load.new.space in
    subst (λ (row : Option NodeRow). ReadsAtMost (owner_reads row) s t) (sym c.in-None.is) (load_reads nodes_file s t c.args.id c.load.ensures.state)
