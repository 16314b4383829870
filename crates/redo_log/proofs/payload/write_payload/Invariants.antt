use Rattle.std.proofs.Common.{◌-◌, ◌≡◌, ◌+◌, ◌*◌, ◌≤◌, length}
use Rattle.disk_model.specs.Contents.{SameOutside}
use Rattle.disk_model.specs.Spans.{AtEachMoment}
use Rattle.rec_bytes.specs.Format.{log_file}
use Rattle.redo_log.specs.Appending.{AreWholeFrom, IsTornFrom}
use Rattle.redo_log.proofs.Sending.{IsSent}
use Rattle.redo_log.proofs.payload.write_payload.Given as goal

abbrev pub invariant-loop-next : goal.invariant-loop-next
invariant-loop-next g l = let disk = g.D.Disk in record {
  within : l.next ≤ length l.writes.pairs;
  room : length l.piece ≤ 2 + 69 * 59;
  behind : l.at ≤ l.place;
  ends : l.place + length l.piece ≡ l.at + 2 + 69 * l.next;
  sent : disk.tells_reads → IsSent (disk.reads l.disk) l.at l.place l.piece l.writes.pairs l.next;
  elsewhere : disk.tells_reads → SameOutside log_file l.at (3 + 69 * length l.writes.pairs) (disk.reads l.fn.disk) (disk.reads l.disk);
  crash : disk.tells_images → AtEachMoment disk l.fn.disk l.disk (IsTornFrom (disk.may_leave l.fn.disk) l.at (3 + 69 * length l.writes.pairs));
  whole : AreWholeFrom l.writes.pairs 0 l.next;
  cause : disk.faults l.fn.disk ≤ disk.faults l.disk;
}

abbrev pub decreases-loop-next : goal.decreases-loop-next
decreases-loop-next g l = l.count - l.next
