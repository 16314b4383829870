use Rattle.std.proofs.Common.{◌≡◌, ◌≤◌, ◌-◌, length, ℕ, List, drop}
use Rattle.rec_bytes.specs.Space.{after_gets}
use Rattle.rel_store.specs.Loading.{rel_mark}
use Rattle.chain_edit.specs.Walking.{ReadsAtMost}
use Rattle.expand.specs.FirstLinks.{numbers_of}
use Rattle.expand.specs.Walking.{AreSoundWalks}
use Rattle.expand.proofs.BrokenChains.{HaveStood, no_link}
use Rattle.expand.proofs.ChainWalks.{AreLeft, HaveMet}
use Rattle.expand.proofs.walking.walk_all.Given as goal

-- what was met, where it belongs, and what is left of walks that end
abbrev pub invariant-loop-link : goal.invariant-loop-link
invariant-loop-link g l =
    let s = g.R.Reads.state l.fn.space in
    let firsts = numbers_of l.fn.links in
    record {
      met : g.R.Reads.tells → HaveMet s l.fn.node firsts (drop l.link-index firsts) l.rows.items;
      stood : g.R.Reads.tells → HaveStood s l.fn.node l.fn.links l.link-index no_link l.rows.items;
      left : g.R.Reads.tells → (xs : List ℕ) → AreSoundWalks s l.fn.node firsts (rel_mark s) xs
          → AreLeft s l.fn.node (drop l.link-index firsts) (rel_mark s - length l.rows.items);
      read : g.R.Reads.state l.space ≡ after_gets (length l.rows.items) s;
      most : ReadsAtMost (rel_mark s) s (g.R.Reads.state l.space);
      onward : g.R.Reads.onward l.fn.space l.space;
      later : g.R.Reads.faults l.fn.space ≤ g.R.Reads.faults l.space;
    }
