use Rattle.std.proofs.Common.{◌≡◌, ◌≤◌, ℕ, List}
use Rattle.rec_bytes.specs.Space.{SameButReads}
use Rattle.store_rules.specs.Breaking.{IsHeadChain}
use Rattle.store_rules.specs.Rules.{node_head}
use Rattle.store_rules.specs.Views.{first_link}
use Rattle.group_store.proofs.SparseChains.{HasCrossed, HasMet, HasTail}
use Rattle.group_store.proofs.sparse_chain.test_chain.Given as goal

-- so many were met, and of a right chain the others are left
abbrev pub invariant-loop : goal.invariant-loop
invariant-loop g l =
    let s = g.R.Reads.state l.fn.space in
    record {
      same : SameButReads s (g.R.Reads.state l.space);
      tail : g.R.Reads.tells → l.fn.first ≡ first_link s.records l.fn.node → (xs : List ℕ) → IsHeadChain s.records (node_head l.fn.node) l.fn.node xs
          → HasTail s l.fn.node l.before l.at l.counter xs;
      met : g.R.Reads.tells → HasMet s l.fn.node l.before l.counter;
      crossed : g.R.Reads.tells → HasCrossed s l.fn.node l.fn.first l.at l.counter;
      onward : g.R.Reads.onward l.fn.space l.space;
      later : g.R.Reads.faults l.fn.space ≤ g.R.Reads.faults l.space;
    }
