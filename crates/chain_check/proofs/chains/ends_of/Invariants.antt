use Rattle.std.proofs.Common.{◌≡◌, ◌<◌, ◌*◌, take, map}
use Rattle.std.specs.List.{All}
use Rattle.chain_check.specs.NodeChains.{end_of}
use Rattle.rec_bytes.specs.Frame.{IsRead}
use Rattle.chain_check.proofs.chains.ends_of.Given as goal

abbrev pub invariant-loop-id : goal.invariant-loop-id
invariant-loop-id g l =
    let records = (g.R.Reads.state l.fn.space).records in
    record {
      read : IsRead g.R.Reads l.fn.space l.space;
      low : All (λ x. x < 2 * l.high) l.ends.items;
      ends : g.R.Reads.tells → l.ends.items ≡ map (end_of records l.node) (take l.id-index l.ids);
    }
