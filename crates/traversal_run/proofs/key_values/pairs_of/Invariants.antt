use Rattle.std.proofs.Common.{◌≡◌, All, map}
use Rattle.plain_graph.specs.ElementMaps.{pair_of}
use Rattle.plain_graph.specs.Forms.{IsKept}
use Rattle.plain_graph.specs.declared.pairs.Pair.{Pair}
use Rattle.traversal_run.specs.KeyValues.{entry_of}
use Rattle.traversal_run.proofs.key_values.pairs_of.Given as goal

abbrev pub invariant-loop-row : goal.invariant-loop-row
invariant-loop-row l = record {
  are : l.pairs.items ≡ map pair_of (map entry_of l.yielded);
  kept : All (λ (pair : Pair). IsKept pair.value) l.pairs.items;
}
