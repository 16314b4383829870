use Rattle.std.proofs.Common.{◌≡◌, ◌≤◌, ◌-◌, length, ℕ, List}
use Rattle.rec_bytes.specs.Space.{after_gets}
use Rattle.chain_edit.specs.Walking.{IsSoundWalk}
use Rattle.chain_edit.proofs.Walks.{HaveRows, IsLeft}
use Rattle.chain_edit.proofs.walking.walk.Given as goal

-- what was met, and what is left of a walk that ends
abbrev pub invariant-loop : goal.invariant-loop
invariant-loop g l =
    let s = g.R.Reads.state l.fn.space in
    record {
      met : g.R.Reads.tells → HaveRows s l.chain.first l.chain.node l.before l.at l.rows.items;
      left : g.R.Reads.tells → (xs : List ℕ) → IsSoundWalk s l.chain.first l.chain.node l.fn.budget xs → IsLeft s l.chain.node l.before (l.budget - l.counter)
          l.at;
      count : length l.rows.items ≡ l.counter;
      read : g.R.Reads.state l.space ≡ after_gets (length l.rows.items) s;
      onward : g.R.Reads.onward l.fn.space l.space;
      later : g.R.Reads.faults l.fn.space ≤ g.R.Reads.faults l.space;
    }
