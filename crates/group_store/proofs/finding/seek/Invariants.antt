use Rattle.std.proofs.Common.{◌≡◌, ◌≤◌, ◌-◌, length, ℕ, List}
use Rattle.rec_bytes.specs.Space.{after_gets}
use Rattle.store_rules.specs.Breaking.{IsOnChain, IsOwnedBy}
use Rattle.store_rules.specs.Chains.{IsWalk}
use Rattle.store_rules.specs.Views.{first_link}
use Rattle.group_store.specs.Finding.{IsReached}
use Rattle.group_store.specs.GroupChain.{IsDense, LacksType, next_group}
use Rattle.group_store.specs.Loading.{group_mark}
use Rattle.group_store.proofs.GroupWalks.{HasPassed, IsLeft}
use Rattle.group_store.proofs.finding.seek.Given as goal

-- what was passed, none of which has the type, and what is left of a list that ends
abbrev pub invariant-loop : goal.invariant-loop
invariant-loop g l =
    let s = g.R.Reads.state l.fn.space in
    record {
      met : g.R.Reads.tells → (ms : List ℕ) × HasPassed s.records l.node l.fn.first l.at ms × LacksType s.records l.label ms × (length ms ≡ l.counter);
      left : g.R.Reads.tells → (xs : List ℕ) → IsWalk (next_group s.records) l.fn.first xs → length xs ≤ group_mark s
          → IsLeft s.records xs (l.budget - l.counter) l.at;
      on : g.R.Reads.tells → l.fn.first ≡ first_link s.records l.node → IsDense s.records l.node → IsOwnedBy s.records l.node l.at
          → IsOnChain s.records l.node l.at;
      reached : g.R.Reads.tells → IsReached s.records l.fn.first l.at;
      read : g.R.Reads.state l.space ≡ after_gets l.counter s;
      onward : g.R.Reads.onward l.fn.space l.space;
      later : g.R.Reads.faults l.fn.space ≤ g.R.Reads.faults l.space;
    }
