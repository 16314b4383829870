use Rattle.std.proofs.Common.{◌≡◌, ◌≤◌, ◌-◌, length, map, ℕ, List}
use Rattle.rec_bytes.specs.Space.{after_gets}
use Rattle.store_rules.specs.Chains.{IsWalk}
use Rattle.group_store.specs.GroupChain.{next_group}
use Rattle.group_store.specs.Walking.{group_row_at}
use Rattle.group_store.specs.Loading.{group_mark}
use Rattle.group_store.proofs.GroupWalks.{HasPassed, IsLeft}
use Rattle.group_store.proofs.walking.groups.Given as goal

-- what was met, and what is left of a list that ends
abbrev pub invariant-loop : goal.invariant-loop
invariant-loop g l =
    let s = g.R.Reads.state l.fn.space in
    record {
      met : g.R.Reads.tells → (ms : List ℕ) × HasPassed s.records l.node l.fn.row.first l.at ms × (l.rows.items ≡ map (group_row_at s.records) ms);
      left : g.R.Reads.tells → (xs : List ℕ) → IsWalk (next_group s.records) l.fn.row.first xs → length xs ≤ group_mark s
          → IsLeft s.records xs (l.budget - l.counter) l.at;
      count : length l.rows.items ≡ l.counter;
      read : g.R.Reads.state l.space ≡ after_gets (length l.rows.items) s;
      onward : g.R.Reads.onward l.fn.space l.space;
      later : g.R.Reads.faults l.fn.space ≤ g.R.Reads.faults l.space;
    }
