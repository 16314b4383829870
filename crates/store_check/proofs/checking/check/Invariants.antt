use Rattle.std.proofs.Common.{◌≤◌, ◌<◌, ℕ}
use Rattle.store_rules.specs.Breaking.{Keeps}
use Rattle.record_lists.specs.Deciding.{AreMarksLow}
use Rattle.rec_bytes.specs.Frame.{IsRead}
use Rattle.store_check.proofs.checking.check.Given as goal

abbrev pub invariant-loop-rule : goal.invariant-loop-rule
invariant-loop-rule g l =
    let s = g.R.Reads.state l.fn.space in
    record {
      read : IsRead g.R.Reads l.fn.space l.space;
      from : 1 ≤ l.rule;
      kept : g.R.Reads.tells → (n : ℕ) → 1 ≤ n → n < l.rule → Keeps s.records s.shape n;
      low : 1 < l.rule → AreMarksLow s.records;
    }
