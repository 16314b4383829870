use Rattle.std.proofs.Common.{◌≤◌, List, ℕ}
use Rattle.rec_bytes.specs.Space.{SameButReads}
use Rattle.prop_index.specs.Blaming.{IsEntryAt}
use Rattle.prop_index.specs.Gathering.{AreEntries}
use Rattle.prop_index.proofs.Gathers.{IsGathered}
use Rattle.prop_index.proofs.gathering.gather.Given as goal

abbrev pub invariant-loop : goal.invariant-loop
invariant-loop g l =
    let old = g.R.Reads.state l.fn.space in
    record {
      told : g.R.Reads.tells → (xs : List ℕ) → AreEntries old l.fn.first xs
          → IsGathered old (g.R.Reads.state l.space) l.fn.sought.key l.fn.sought.hash l.fn.sought.value.now xs l.at l.counter l.nodes.items;
      at : g.R.Reads.tells → (d b : ℕ) → IsEntryAt old d b 0 l.fn.first l.fn.named → IsEntryAt old d b l.counter l.at l.named;
      same : SameButReads old (g.R.Reads.state l.space);
      onward : g.R.Reads.onward l.fn.space l.space;
      later : g.R.Reads.faults l.fn.space ≤ g.R.Reads.faults l.space;
    }
