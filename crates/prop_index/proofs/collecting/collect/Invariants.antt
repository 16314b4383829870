use Rattle.std.proofs.Common.{◌≡◌, ◌≤◌, length}
use Rattle.rec_bytes.specs.Format as format
use Rattle.rec_bytes.specs.Space.{SameButReads}
use Rattle.store_rules.specs.Views.{high}
use Rattle.prop_index.specs.Collecting.{contents_in}
use Rattle.prop_index.proofs.collecting.collect.Given as goal

abbrev pub invariant-loop-node : goal.invariant-loop-node
invariant-loop-node g l =
    let old = g.R.Reads.state l.fn.space in
    record {
      counted : g.R.Reads.tells → l.count ≡ length (contents_in old.records l.fn.label l.fn.key l.node);
      found : g.R.Reads.tells → l.count ≤ 1024 → l.contents.items ≡ contents_in old.records l.fn.label l.fn.key l.node;
      few : length l.contents.items ≤ 1024;
      no_more : length l.contents.items ≤ l.count;
      under : l.count ≤ l.node;
      end : l.node-end ≡ high old.records format.nodes_file;
      same : SameButReads old (g.R.Reads.state l.space);
      onward : g.R.Reads.onward l.fn.space l.space;
      later : g.R.Reads.faults l.fn.space ≤ g.R.Reads.faults l.space;
    }
