use Rattle.std.proofs.Common.{take}
use Rattle.graph_session.specs.IndexLists.{is_taken}
use Rattle.graph_session.proofs.Places.{next-more}
use Rattle.graph_session.proofs.questions.index_lists.next_place.Goals as goal

pub loop-pair-preserved : goal.loop-pair-preserved
loop-pair-preserved c =
    let pairs = c.args.pairs.now in
    next-more c.args.count c.args.from pairs c.loop-pair.pair-index (record { label = 0; key = 0 }) c.loop-pair-test.true c.nearer-next.result
    (rw c.place_of.ensures at c.nearer-next.ensures (is_taken c.args.count (take c.loop-pair.pair-index pairs)) c.loop-pair.invariant)
