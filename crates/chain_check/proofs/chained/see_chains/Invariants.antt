use Rattle.chain_check.proofs.ChainedLaws.{SeenBelow}
use Rattle.rec_bytes.specs.Frame.{IsRead}
use Rattle.chain_check.proofs.chained.see_chains.Given as goal

abbrev pub invariant-loop-node : goal.invariant-loop-node
invariant-loop-node g l =
    let s = g.R.Reads.state l.fn.space in
    record {
      read : IsRead g.R.Reads l.fn.space l.space;
      seen : g.R.Reads.tells → SeenBelow s.records l.node l.seen;
    }
