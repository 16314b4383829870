use Rattle.std.proofs.Common.{◌≡◌, take, map}
use Rattle.store_rules.specs.Breaking.{block_size}
use Rattle.rec_bytes.specs.Frame.{IsRead}
use Rattle.store_check.proofs.texts.lengths_of.Given as goal

abbrev pub invariant-loop-id : goal.invariant-loop-id
invariant-loop-id g l =
    let records = (g.R.Reads.state l.fn.space).records in
    record {
      read : IsRead g.R.Reads l.fn.space l.space;
      lengths : g.R.Reads.tells → l.lengths.items ≡ map (block_size records) (take l.id-index l.ids);
    }
