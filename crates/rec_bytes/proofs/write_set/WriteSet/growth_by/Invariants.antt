use Rattle.std.proofs.Common.{◌≡◌, ◌≤◌, ◌+◌, drop}
use Rattle.rec_bytes.specs.Pairs.{growth_by}
use Rattle.rec_bytes.proofs.write_set.WriteSet.growth_by.Given as goal

-- the keys counted so far, and those of the rest that are new
abbrev pub invariant-loop-i : goal.invariant-loop-i
invariant-loop-i l = record {
  count : l.count + growth_by l.self.pairs (drop l.i l.other.pairs) ≡ growth_by l.self.pairs l.other.pairs;
  most : l.count ≤ l.i;
}
