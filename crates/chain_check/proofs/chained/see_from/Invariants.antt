use Rattle.chain_check.proofs.ChainedLaws.{HasCome, unseen}
use Rattle.rec_bytes.specs.Frame.{IsRead}
use Rattle.chain_check.proofs.chained.see_from.Given as goal

abbrev pub invariant-loop-at : goal.invariant-loop-at
invariant-loop-at g l =
    let s = g.R.Reads.state l.fn.space in
    record {
      read : IsRead g.R.Reads l.fn.space l.space;
      come : g.R.Reads.tells → HasCome s.records l.node l.first l.fn.seen l.seen l.at;
    }

abbrev pub decreases-loop-at : goal.decreases-loop-at
decreases-loop-at g l = unseen l.seen
