use Rattle.std.proofs.Common.{◌≡◌, ◌≤◌, ℕ, List}
use Rattle.rec_bytes.specs.Space.{after_gets}
use Rattle.chain_edit.specs.Length.{IsMemberChain}
use Rattle.chain_edit.proofs.Lengths.{CountsSoFar, HasRest}
use Rattle.chain_edit.proofs.length.chain_length.Given as goal

-- what was counted, and what is left of a chain that ends
abbrev pub invariant-loop-count : goal.invariant-loop-count
invariant-loop-count g l =
    let s = g.R.Reads.state l.fn.space in
    record {
      counts : g.R.Reads.tells → CountsSoFar s l.chain.first l.chain.node l.members l.before l.at l.count;
      rest : g.R.Reads.tells → (xs : List ℕ) → IsMemberChain s l.chain.first l.chain.node l.members xs → HasRest s l.chain.node l.members l.before l.at;
      read : g.R.Reads.state l.space ≡ after_gets l.count s;
      onward : g.R.Reads.onward l.fn.space l.space;
      later : g.R.Reads.faults l.fn.space ≤ g.R.Reads.faults l.space;
    }
