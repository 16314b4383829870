use Rattle.std.proofs.Common.{◌≡◌, ◌≤◌, ℕ, length, get_or, drop}
use Rattle.disk_model.specs.CallLog.{sync_count}
use Rattle.disk_model.proofs.call_log.sync_counts.Given as goal

abbrev pub invariant-loop-i : goal.invariant-loop-i
invariant-loop-i l =
    record {
      within : l.i ≤ length l.calls;
      counts : (file : ℕ) → get_or l.counts file 0 ≡ sync_count (drop l.i l.calls) file;
    }

abbrev pub decreases-loop-i : goal.decreases-loop-i
decreases-loop-i l = l.i
