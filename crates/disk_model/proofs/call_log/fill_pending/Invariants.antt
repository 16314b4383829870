use Rattle.std.proofs.Common.{◌≡◌, ◌≤◌, ◌-◌, ℕ, false, ◌&&◌, cond, ltb, length, get_or, drop}
use Rattle.disk_model.specs.CallLog.{kept_synced, kept_pending}
use Rattle.disk_model.specs.PlainDisk.{file_of, rooms_of, contents}
use Rattle.disk_model.proofs.call_log.fill_pending.Given as goal

abbrev pub invariant-loop-i : goal.invariant-loop-i
invariant-loop-i l =
    record {
      within : l.i ≤ length l.calls;
      rooms : rooms_of l.files ≡ rooms_of l.fn.files;
      synced : (file : ℕ) → get_or l.synced file false ≡ kept_synced (drop l.i l.calls) file;
      bytes : (file place : ℕ) → contents l.files file place ≡ cond (kept_pending (drop (contents l.pokes file place - l.i) (drop l.i l.calls)) file place &&
          ltb place (length (file_of l.fn.files file))) l.byte (contents l.fn.files file place);
    }

abbrev pub decreases-loop-i : goal.decreases-loop-i
decreases-loop-i l = l.i
