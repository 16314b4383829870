use Rattle.std.proofs.Common.{◌<◌}
use Rattle.std.specs.List.{All}
use Rattle.rec_bytes.specs.Format.{most_ids}
use Rattle.index_check.specs.Entries.{AreEntriesTo}
use Rattle.rec_bytes.specs.Frame.{IsRead}
use Rattle.index_check.proofs.entries.entries_of.Given as goal

abbrev pub invariant-loop-number : goal.invariant-loop-number
invariant-loop-number g l =
    let records = (g.R.Reads.state l.fn.space).records in
    record {
      read : IsRead g.R.Reads l.fn.space l.space;
      are : g.R.Reads.tells → AreEntriesTo records l.definition l.number l.entries.items;
      low : All (λ x. x < most_ids) l.entries.items;
    }
