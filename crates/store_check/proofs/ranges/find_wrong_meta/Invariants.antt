use Rattle.std.proofs.Common.{◌≡◌, ◌≤◌, ◌<◌, ℕ, true}
use Rattle.rec_bytes.specs.Format.{most_ids}
use Rattle.rec_bytes.specs.RecordFiles.{is_meta_file}
use Rattle.store_rules.specs.Views.{high}
use Rattle.store_rules.specs.Breaking.{IsMetaKept}
use Rattle.rec_bytes.specs.Frame.{IsRead}
use Rattle.store_check.proofs.ranges.find_wrong_meta.Given as goal

abbrev pub invariant-loop-id : goal.invariant-loop-id
invariant-loop-id g l =
    let s = g.R.Reads.state l.fn.space in
    record {
      read : IsRead g.R.Reads l.fn.space l.space;
      all : g.R.Reads.tells → (n : ℕ) → n < l.id → IsMetaKept s.records s.shape n;
      low : (f : ℕ) → f < l.id → is_meta_file f ≡ true → high s.records f ≤ most_ids;
    }
