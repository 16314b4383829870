use Rattle.std.proofs.Common.{◌≡◌, ◌≤◌, ◌-◌, length, ℕ, List}
use Rattle.rec_bytes.specs.Space.{after_gets}
use Rattle.store_rules.specs.Breaking.{IsOnChain, IsOwnedBy}
use Rattle.store_rules.specs.Chains.{In, IsWalk}
use Rattle.store_rules.specs.Views.{first_link}
use Rattle.group_store.specs.GroupChain.{IsDense, next_group, type_of}
use Rattle.group_store.specs.Loading.{group_mark}
use Rattle.group_store.proofs.GroupWalks.{HasPassed, IsLeft}
use Rattle.group_store.proofs.twins.seek_twin.Given as goal

-- what was passed, none of which is another of the type, and what is left of a list that ends
abbrev pub invariant-loop : goal.invariant-loop
invariant-loop g l =
    let s = g.R.Reads.state l.fn.space in
    record {
      met : g.R.Reads.tells → (ms : List ℕ) × HasPassed s.records l.node l.fn.first l.at ms × ((k : ℕ) → In k ms → type_of s.records k ≡ l.label → k ≡ l.group);
      left : g.R.Reads.tells → (xs : List ℕ) → IsWalk (next_group s.records) l.fn.first xs → length xs ≤ group_mark s
          → IsLeft s.records xs (l.budget - l.counter) l.at;
      on : g.R.Reads.tells → l.fn.first ≡ first_link s.records l.node → IsDense s.records l.node → IsOwnedBy s.records l.node l.at
          → IsOnChain s.records l.node l.at;
      read : g.R.Reads.state l.space ≡ after_gets l.counter s;
      onward : g.R.Reads.onward l.fn.space l.space;
      later : g.R.Reads.faults l.fn.space ≤ g.R.Reads.faults l.space;
    }
