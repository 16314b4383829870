use Rattle.std.proofs.Common.{take}
use Rattle.graph_session.specs.IndexLists.{IsNext, is_taken}
use Rattle.graph_session.proofs.questions.index_lists.next_place.Given as goal

abbrev pub invariant-loop-pair : goal.invariant-loop-pair
invariant-loop-pair l = IsNext (is_taken l.count (take l.pair-index l.pairs)) l.from l.next
