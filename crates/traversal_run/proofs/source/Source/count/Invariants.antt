use Rattle.std.proofs.Common.{◌≡◌, ◌≤◌, ◌+◌, length}
use Rattle.store_rules.specs.Graph.{graph_of}
use Rattle.traversal_run.specs.Finding.{element_mark}
use Rattle.traversal_run.specs.Reading.{IsRead}
use Rattle.traversal_run.specs.Source.{left_count, left_of}
use Rattle.traversal_run.proofs.source.Source.count.Given as goal

abbrev pub invariant-loop-id : goal.invariant-loop-id
invariant-loop-id g l =
    let old = g.R.Reads.state l.fn.space in
    record {
      counted : g.R.Reads.tells → l.so_far + length (left_of (graph_of old.records) l.self) ≡ l.fn.so_far + length (left_of (graph_of old.records) l.fn.self);
      edges : l.self.edges ≡ l.fn.self.edges;
      mark : l.mark ≡ element_mark old.records l.fn.self.edges;
      spent : (g.R.Reads.state l.space).reads + left_count l.mark l.self.left ≤ old.reads + left_count l.mark l.fn.self.left;
      read : IsRead g.R.Reads l.fn.space l.space;
    }

abbrev pub decreases-loop-id : goal.decreases-loop-id
decreases-loop-id g l = left_count l.mark l.self.left
