use Rattle.std.proofs.Common.{◌≡◌, map}
use Rattle.plain_graph.specs.Meaning as meaning
use Rattle.traversal_run.specs.Kept.{place_of}
use Rattle.traversal_run.proofs.kept.items_of.Given as goal

abbrev pub invariant-loop-ranked : goal.invariant-loop-ranked
invariant-loop-ranked l = l.items ≡ map (λ (r : meaning.Ranked). r.item) (map place_of l.yielded)
