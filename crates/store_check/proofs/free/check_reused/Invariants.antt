use Rattle.std.proofs.Common.{◌≢◌, ℕ, List}
use Rattle.rec_bytes.specs.Format.{names_file}
use Rattle.store_rules.specs.Rules.{IsSplit}
use Rattle.store_rules.specs.Views.{is_live}
use Rattle.store_check.proofs.FileLaws.{HoldsBefore}
use Rattle.rec_bytes.specs.Frame.{IsRead}
use Rattle.store_check.proofs.free.check_reused.Given as goal

abbrev pub invariant-loop-entry : goal.invariant-loop-entry
invariant-loop-entry g l =
    let records = (g.R.Reads.state l.fn.space).records in
    record {
      read : IsRead g.R.Reads l.fn.space l.space;
      all : g.R.Reads.tells → HoldsBefore l.entry-items l.entry-index (λ f. f ≢ names_file → (free : List ℕ) × IsSplit records f (is_live records f) free);
    }
