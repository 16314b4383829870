use Rattle.std.proofs.Common.{◌<◌, ℕ}
use Rattle.store_rules.specs.Views.{high}
use Rattle.store_check.specs.Fitting.{FitsAt}
use Rattle.store_check.proofs.FileLaws.{HoldsBefore}
use Rattle.rec_bytes.specs.Frame.{IsRead}
use Rattle.store_check.proofs.ranges.find_wrong_record.Given as goal

abbrev pub invariant-loop-entry : goal.invariant-loop-entry
invariant-loop-entry g l =
    let records = (g.R.Reads.state l.fn.space).records in
    record {
      read : IsRead g.R.Reads l.fn.space l.space;
      all : g.R.Reads.tells → HoldsBefore l.entry-items l.entry-index (λ f. (x : ℕ) → x < high records f → FitsAt records f x);
    }
