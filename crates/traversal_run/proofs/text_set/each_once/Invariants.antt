use Rattle.std.proofs.Common.{◌≡◌, ◌++◌, [], drop}
use Rattle.plain_graph.specs.Meaning.{texts_once}
use Rattle.traversal_run.proofs.text_set.each_once.Given as goal

abbrev pub invariant-loop-text : goal.invariant-loop-text
invariant-loop-text l = l.distinct.items ++ texts_once l.set (drop l.text-index l.texts) ≡ texts_once [] l.texts
