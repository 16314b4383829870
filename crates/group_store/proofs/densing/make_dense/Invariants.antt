use Rattle.std.proofs.Common.{◌≡◌, ◌+◌, ◌≤◌, ℕ, List, length}
use Rattle.rec_bytes.specs.Format.{groups_file}
use Rattle.id_freelist.specs.ListDamage.{HarmsNoList}
use Rattle.group_store.specs.Densing.{CanBecomeDense, CanSpread}
use Rattle.group_store.specs.GroupChain.{IsDense}
use Rattle.store_rules.specs.Chains.{In}
use Rattle.group_store.specs.Leaving.{IsLowLink, KeepsOtherHeads, LeavesBeside}
use Rattle.group_store.specs.Opening.{GrowsAtMost}
use Rattle.group_store.specs.Spreading.{HasCountedList, LeadsAmong}
use Rattle.group_store.proofs.Arrivals.{HasPart}
use Rattle.group_store.proofs.Comings.{WritesCome}
use Rattle.group_store.proofs.Leadings.{HasRest}
use Rattle.group_store.proofs.Spreads.{HasLeft}
use Rattle.group_store.proofs.densing.make_dense.Given as goal

-- the relationships from this one on are left, and so many were moved
abbrev pub invariant-loop : goal.invariant-loop
invariant-loop g l =
    let s = g.S.Reads.state l.fn.space in
    record {
      left : g.S.Reads.tells → (most : ℕ) (empty : List ℕ) → CanBecomeDense s l.fn.node most empty
          → HasLeft s (g.S.Reads.state l.space) l.fn.node l.at l.counter most empty l.moved.relationships.items l.moved.groups.items;
      part : g.S.Reads.tells → (members free : List ℕ) → CanSpread s l.fn.node members free
          → HasPart s (g.S.Reads.state l.space) l.fn.node l.at l.counter members l.moved.relationships.items l.moved.groups.items;
      leads : g.S.Reads.tells → LeadsAmong (g.S.Reads.state l.space).records l.fn.node l.moved.relationships.items l.moved.groups.items;
      rest : g.S.Reads.tells → HasRest s (g.S.Reads.state l.space) l.fn.node l.at l.counter;
      dense : g.S.Reads.tells → IsDense (g.S.Reads.state l.space).records l.fn.node;
      lists : g.S.Reads.tells → HarmsNoList s (g.S.Reads.state l.space) groups_file;
      room : g.S.Reads.tells → GrowsAtMost s (g.S.Reads.state l.space) l.counter;
      list : g.S.Reads.tells → HasCountedList (g.S.Reads.state l.space).records l.fn.node;
      low : g.S.Reads.tells → (x : ℕ) → In x l.moved.relationships.items → IsLowLink (g.S.Reads.state l.space).records x;
      beside : g.S.Reads.tells → LeavesBeside s.records (g.S.Reads.state l.space).records l.fn.node;
      heads : g.S.Reads.tells → KeepsOtherHeads s (g.S.Reads.state l.space) l.fn.node;
      writes : WritesCome s (g.S.Reads.state l.space) l.fn.node l.moved.relationships.items l.moved.groups.items;
      rels : length l.moved.relationships.items ≡ l.counter + 1;
      groups : length l.moved.groups.items ≡ l.counter + 1;
      onward : g.S.Reads.onward l.fn.space l.space;
      later : g.S.Reads.faults l.fn.space ≤ g.S.Reads.faults l.space;
    }
