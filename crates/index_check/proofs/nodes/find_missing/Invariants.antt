use Rattle.std.proofs.Common.{◌≡◌, ◌<◌, ℕ, true}
use Rattle.record_lists.specs.Seen.{is_seen}
use Rattle.index_check.specs.Nodes.{HasValue}
use Rattle.rec_bytes.specs.Frame.{IsRead}
use Rattle.index_check.proofs.nodes.find_missing.Given as goal

abbrev pub invariant-loop-node : goal.invariant-loop-node
invariant-loop-node g l =
    let records = (g.R.Reads.state l.fn.space).records in
    record {
      read : IsRead g.R.Reads l.fn.space l.space;
      met : g.R.Reads.tells → (n : ℕ) → n < l.node → HasValue records l.definition n → is_seen l.seen n ≡ true;
    }
