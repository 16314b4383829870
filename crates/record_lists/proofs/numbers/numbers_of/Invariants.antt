use Rattle.std.proofs.Common.{◌≡◌, take, map}
use Rattle.record_lists.specs.Numbers.{number_at}
use Rattle.rec_bytes.specs.Frame.{IsRead}
use Rattle.record_lists.proofs.numbers.numbers_of.Given as goal

abbrev pub invariant-loop-id : goal.invariant-loop-id
invariant-loop-id g l =
    let records = (g.R.Reads.state l.fn.space).records in
    record {
      read : IsRead g.R.Reads l.fn.space l.space;
      numbers : g.R.Reads.tells → l.numbers.items ≡ map (number_at records l.file l.place) (take l.id-index l.ids);
    }
