use Rattle.std.proofs.Common.{◌≡◌, ℕ, take}
use Rattle.record_lists.specs.Seen.{is_among, is_seen}
use Rattle.store_rules.specs.Properties.{AreOnce}
use Rattle.index_check.proofs.nodes.see_once.Given as goal

abbrev pub invariant-loop-number : goal.invariant-loop-number
invariant-loop-number l = record {
  told : (p : ℕ) → is_seen l.seen p ≡ is_among (take l.number-index l.numbers) p;
  once : AreOnce (take l.number-index l.numbers);
}
