use Rattle.std.proofs.Common.{◌≡◌, ◌++◌, take}
use Rattle.std.specs.List.{flat_map}
use Rattle.plain_graph.specs.ElementMaps.{paired}
use Rattle.plain_graph.proofs.element_map.push_pairs.Given as goal

abbrev pub invariant-loop-pair : goal.invariant-loop-pair
invariant-loop-pair l = (l.line.items ≡ l.initial.line.items ++ flat_map (paired l.before l.between) (take l.pair-index l.pairs))
