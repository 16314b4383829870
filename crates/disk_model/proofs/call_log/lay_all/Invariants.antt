use Rattle.std.proofs.Common.{◌≡◌, ◌-◌, ℕ, get_or, drop}
use Rattle.disk_model.specs.Calls.{synced_content, synced_since}
use Rattle.disk_model.specs.CallLog.{sync_count, calls_of}
use Rattle.disk_model.specs.PlainDisk.{rooms_of, contents}
use Rattle.disk_model.proofs.call_log.lay_all.Given as goal

abbrev pub invariant-loop-i : goal.invariant-loop-i
invariant-loop-i l =
    record {
      rooms : rooms_of l.files ≡ rooms_of l.fn.files;
      counts : (file : ℕ) → get_or l.counts file 0 ≡ sync_count (drop l.i l.calls) file;
      bytes : (file place : ℕ) → synced_content (contents l.files) (drop (contents l.pokes file place - l.i) (calls_of (drop l.i l.calls) l.bytes)) file
          place ≡ synced_since (contents l.fn.files) (contents l.pokes) (calls_of l.calls l.bytes) file place;
    }
