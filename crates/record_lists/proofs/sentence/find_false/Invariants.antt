use Rattle.std.proofs.Common.{◌<◌, ℕ}
use Rattle.rec_bytes.specs.Frame.{IsRead}
use Rattle.record_lists.proofs.sentence.find_false.Given as goal

abbrev pub invariant-loop-id : goal.invariant-loop-id
invariant-loop-id g l =
    let records = (g.R.Reads.state l.fn.space).records in
    record {
      read : IsRead g.R.Reads l.fn.space l.space;
      all : g.R.Reads.tells → (x : ℕ) → x < l.id → g.S.Sentence.says l.sentence records x;
    }
